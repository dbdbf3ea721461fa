-- Laws that belong to no one function: tallies, buckets; counting what is named; one list, then all.
pub mod OrderTally
pub mod OrderBuckets
pub mod OrderCounting
pub mod OrderSteps
pub mod OrderLists
