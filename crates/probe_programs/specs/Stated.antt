-- What is typed of declarations and statements with their probes, behind a typing of those without them in which nothing is complained
-- of: they come out as they stand, and the states behind them follow one another.
use Rattle.std.specs.Prelude.{◌≡◌, Bool, false, None}
use Rattle.c_syntax.specs.Shape.{DeclShapes, StmtShape, CompoundShape}
use Rattle.c_syntax.specs.Shaped.{in_names, ShapedDecls, ShapedStmt, ShapedCompound}
use Rattle.c_tables.specs.Tables.{TablesShape}
use Rattle.c_tree.specs.State.{State}
use Rattle.c_tree.specs.Declaring.{TypedDeclList, type_decls}
use Rattle.c_tree.specs.Stating.{Surroundings, TypedStmt, TypedCompound, type_stmt, type_compound}
use Rattle.c_walk.specs.declared.around.Around.{Around}
use Rattle.c_walk.specs.Walked.{Walked, with_block_if}
use Rattle.c_walk.specs.Stating.{walk_decls, walk_stmt, walk_compound, pos_of_stmt}
use Rattle.c_sites_probes.specs.Marked.{decls_mark, stmt_mark, compound_mark}
use Rattle.probe_rules.specs.Fitting.{HasFewItems}
use Rattle.probe_rules.specs.ProbedStatements.{probed_decls, probed_stmt, probed_compound}
use Rattle.probe_laws.proofs.Settled.{IsClean}
use Rattle.probe_laws.proofs.Known.{Knows}
use Rattle.probe_typed.specs.Typed.{Follows}

-- ---- typed as they stand

pub record AreDeclsTypedAs (v : Walked) (x : TypedDeclList) (ds : DeclShapes) (y : TypedDeclList) : Type 0 where
  pub decls : y.decls ≡ ds
  pub state : Follows v x.state y.state

pub record IsStmtTypedAs (v : Walked) (x : TypedStmt) (a : StmtShape) (y : TypedStmt) : Type 0 where
  pub stmt : y.stmt ≡ a
  pub state : Follows v x.state y.state

pub record IsCompoundTypedAs (v : Walked) (x : TypedCompound) (b : CompoundShape) (y : TypedCompound) : Type 0 where
  pub compound : y.compound ≡ b
  pub state : Follows v x.state y.state

-- ---- statements. Each is of a plain source from which nothing was complained of, in which few items are counted

abbrev pub DeclsAreTypedAs : Type 0
DeclsAreTypedAs = (tables : TablesShape) (c : Around) (ds : DeclShapes) (w : Walked) (s t : State) → ShapedDecls in_names ds → decls_mark ds ≡ None → Knows false s → (
    let x = type_decls ds s in
    let ps = probed_decls tables c x.decls w in
    let v = walk_decls tables c x.decls w in
    decls_mark x.decls ≡ None → IsClean x.state → HasFewItems v → Follows w s t → AreDeclsTypedAs v x ps (type_decls ps t))

-- one that is a block or not
abbrev pub StmtsAreTypedAs : Type 0
StmtsAreTypedAs = (tables : TablesShape) (c : Around) (e : Surroundings) (b : Bool) (a : StmtShape) (w : Walked) (s t : State) → ShapedStmt a → stmt_mark a ≡ None → Knows false s → (
    let x = type_stmt e a s in
    let p = probed_stmt tables c b x.stmt w in
    let v = walk_stmt tables c x.stmt (with_block_if b (pos_of_stmt x.stmt) w) in
    stmt_mark x.stmt ≡ None → IsClean x.state → HasFewItems v → Follows w s t → IsStmtTypedAs v x p (type_stmt e p t))

-- the body of a function
abbrev pub CompoundsAreTypedAs : Type 0
CompoundsAreTypedAs = (tables : TablesShape) (c : Around) (e : Surroundings) (b : CompoundShape) (w : Walked) (s t : State) → ShapedCompound b → compound_mark b ≡ None → Knows false s → (
    let x = type_compound e b s in
    let p = probed_compound tables c x.compound w in
    let v = walk_compound tables c x.compound w in
    compound_mark x.compound ≡ None → IsClean x.state → HasFewItems v → Follows w s t → IsCompoundTypedAs v x p (type_compound e p t))
