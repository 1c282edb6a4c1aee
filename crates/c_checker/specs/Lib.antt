pub mod CheckerView
pub mod RulingView
pub mod SortView
pub mod CallView
pub mod ProbeView
pub mod Among
