-- Laws that belong to no one function: records by position and as the paper reads them, the tests in their order.
pub mod Records
pub mod Agreeing
pub mod Refusals
