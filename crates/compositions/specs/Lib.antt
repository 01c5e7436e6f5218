-- Compositions and restrictions, in reading order.
pub mod Composing
pub mod CompositionFaults
pub mod Grids
pub mod Arranging
pub mod CompositionMachines
pub mod Restrictions
pub mod CompositeLaws
