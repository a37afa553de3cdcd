-- Texts: their faults, their words, their sections, the profile they spell, and what is told of them.
pub mod Faults
pub mod Words
pub mod Sections
pub mod ProfileText
pub mod Grammar
pub mod Places
pub mod Writing
pub mod Report
