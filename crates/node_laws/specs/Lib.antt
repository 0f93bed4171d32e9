pub mod FollowingTrees
pub mod NodeSites
pub mod OwnReads
