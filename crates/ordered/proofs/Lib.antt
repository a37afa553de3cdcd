pub mod Lexes
pub mod Scans
pub mod Shifts
pub mod Orders
