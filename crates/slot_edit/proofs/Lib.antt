mod AnchorPaths
mod Inverses
