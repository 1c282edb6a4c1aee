pub mod CompleteAhead
pub mod StmtComplete
pub mod LabelSound
pub mod StmtSound
pub mod FormSteps
pub mod StmtSteps
pub mod StmtLabels
pub mod StmtRead
