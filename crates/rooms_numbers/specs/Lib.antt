-- The outcomes of calls made with numbers.
pub mod Numbers
