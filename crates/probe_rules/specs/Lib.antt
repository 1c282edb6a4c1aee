pub mod Marks
pub mod ProbedExpressions
pub mod ProbedStatements
pub mod Instrumented
pub mod Fitting
pub mod Simulation
pub mod Owning
