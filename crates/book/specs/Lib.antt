-- The book: its refusals, what an offered line comes to, and what a list of calls comes to.
pub mod Refusals
pub mod Offers
pub mod Rulings
pub mod Searches
pub mod Trying
pub mod Underway
pub mod Widths
pub mod Sides
pub mod Blank
pub mod Attacks
pub mod Written
pub mod Drafts
pub mod Turns
pub mod Guarantee
pub mod ByContract
pub mod Deciding
pub mod Printed
