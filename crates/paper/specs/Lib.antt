-- Document 01, a file for each section: numbers and lists, then rooms, files, store, questions; the calls; samples and claims.
pub mod Numbers
pub mod Rooms
pub mod Leaf
pub mod Outline
pub mod Store
pub mod Meaning
pub mod Match
pub mod Walk
pub mod Questions
pub mod Packed
pub mod Pack
pub mod Answers
pub mod Order
pub mod Detail
-- document 02, request 3
pub mod Lines
-- document 01's calls, samples and claims
pub mod Calls
pub mod Sight
-- document 02, request 5
pub mod Anything
-- document 02, request 12
pub mod Headset
pub mod Promises
pub mod Samples
pub mod Runs
pub mod Claims
