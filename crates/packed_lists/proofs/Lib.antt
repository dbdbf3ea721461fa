-- Laws that belong to no one function: the header and its sizes; what the first tests of a file say.
pub mod Header
pub mod FirstTests
