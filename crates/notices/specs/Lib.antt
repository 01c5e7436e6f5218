-- Bundles and what is found in them, in reading order.
pub mod Bundles
pub mod BundleFaults
pub mod BundleTables
pub mod Inspections
pub mod Lines
