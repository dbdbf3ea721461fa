-- what a cell question reads off the end of its walk
pub mod Cell
