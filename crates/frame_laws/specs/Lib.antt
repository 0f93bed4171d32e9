pub mod FollowedPaths
pub mod IdleFrames
pub mod RefusedFrames
