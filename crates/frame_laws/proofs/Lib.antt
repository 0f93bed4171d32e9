pub mod IdleFrames
pub mod RefusedFrames
pub mod FollowedPaths
