pub mod StmtReader
pub mod StmtParts
pub mod StmtFound
