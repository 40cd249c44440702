pub mod Taking
pub mod Powers
pub mod Lines
pub mod EndRows
pub mod FileRuns
