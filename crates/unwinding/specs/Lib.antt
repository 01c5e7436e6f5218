-- Sets, closures and classes, in reading order.
pub mod Tallies
pub mod BitSets
pub mod EventSets
pub mod Classes
pub mod Closed
