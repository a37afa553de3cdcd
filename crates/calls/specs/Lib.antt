-- Texts of calls, and what is printed of a run.
pub mod Calls
pub mod Printing
pub mod Judging
pub mod CallGrammar
