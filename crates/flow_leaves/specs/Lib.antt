pub mod Kinded
pub mod KindedPrograms
pub mod Parts
pub mod Standing
pub mod CellNames
pub mod DirectPlaces
pub mod Leaves
pub mod LeafNames
