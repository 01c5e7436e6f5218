-- The duty monitor, in reading order.
pub mod Duties
pub mod DutyFaults
pub mod Acts
pub mod Reading
pub mod Monitors
pub mod DutyMachines
