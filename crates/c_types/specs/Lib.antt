pub mod LabelsView
pub mod Around
pub mod Stated
pub mod Defined
pub mod Checked
