-- Laws that belong to no one function: a file's first bytes tested one by one, the tests in their order, the head written.
pub mod FirstBytes
pub mod HeadTests
pub mod HeadWritten
