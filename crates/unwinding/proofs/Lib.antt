pub mod Members
pub mod Outside
pub mod Counted
pub mod Falling
pub mod Closing
pub mod Starting
