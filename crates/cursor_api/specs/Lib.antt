pub mod NextGeq
pub mod Laws
pub mod Postings
