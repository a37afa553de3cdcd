-- Events and their kinds, rules and their law, what a profile means, the two ends and the layers.
pub mod Kinds
pub mod Rules
pub mod Profiles
pub mod Tables
pub mod Opens
pub mod Layers
pub mod Renaming
pub mod OpenSlots
pub mod Renames
pub mod Layerings
pub mod Laws
pub mod Meanings
