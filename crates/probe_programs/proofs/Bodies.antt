-- Statements, and the bodies of functions, with their probes are typed as they stand.
use Rattle.probe_programs.specs.Stated.{StmtsAreTypedAs, CompoundsAreTypedAs}
use Rattle.probe_programs.proofs.Locals.{decls_typed}
use Rattle.probe_programs.proofs.Statements.{stmt_typed, compound_typed}

pub stmts_typed : StmtsAreTypedAs
stmts_typed tables c e b a w s t is m h n clean few al = stmt_typed tables decls_typed c e b a w s t is m h n clean few al

pub compounds_typed : CompoundsAreTypedAs
compounds_typed tables c e b w s t is m h n clean few al = compound_typed tables decls_typed c e b w s t is m h n clean few al
