pub mod JoinedLinks
pub mod DistinctLists
pub mod OrderedLinks
pub mod PushAndUnlink
pub mod OrderWalk
pub mod Owner
pub mod FirstPlaceTaken
