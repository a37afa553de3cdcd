-- Members and rows, modal transition systems, the game of refinement, the rows that are derivable.
pub mod Members
pub mod Systems
pub mod Game
pub mod Rows
pub mod Computed
pub mod Theorems
pub mod Examples
pub mod Order
pub mod Sameness
pub mod Printed
