-- Systems, in reading order.
pub mod Machine
pub mod Runs
pub mod Flat
pub mod Charts
pub mod Faults
pub mod StoredTable
pub mod TableFaults
pub mod TableReadings
pub mod TableChecks
