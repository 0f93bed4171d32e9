mod Members
mod ScopeLinks
mod ScopeAnchors
mod AddedScopes
mod CollectedPlaces
mod SplitPlaces
