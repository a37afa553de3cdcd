-- Ordered insertion: what it is, and the laws that make it worth having.
pub mod Lex
pub mod Insert
pub mod Laws
