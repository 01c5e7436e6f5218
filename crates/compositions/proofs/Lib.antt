pub mod CompositeRuns
pub mod RestrictedRuns
pub mod TakenUpCompositions
