-- what the functions on lines promise, beside the paper's definitions
pub mod Cells
