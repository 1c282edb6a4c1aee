-- What is typed of declarations and labels without probes, wherever they stand, and of declared names with probes.
use Rattle.std.specs.Prelude.{◌≡◌, ℕ, ◌+◌, List, length, nat_eq, Option, Some, None, true, false, ◌||◌}
use Rattle.c_base.specs.declared.place.Pos.{Pos}
use Rattle.c_syntax.specs.declared.tree.Named.{Named}
use Rattle.c_syntax.specs.declared.tree.ProbeMark.{ProbeMark}
use Rattle.c_syntax.specs.declared.tree.Star.{Star}
use Rattle.c_syntax.specs.Shape.{TypeOf, def, DeclShapes, DeclaratorShape, declarator, arrays, LengthShapes, SpecShapes, MaybeInit, LabelShape, ExternalShape}
use Rattle.c_tree.specs.declared.meaning.Complaint.{Complaint}
use Rattle.c_tree.specs.State.{Seen, State, steps}
use Rattle.c_tree.specs.Rulings.{rule}
use Rattle.c_tree.specs.Operators.{claim}
use Rattle.c_tree.specs.Parts.{star_tokens, spelled_rule, unspelled}
use Rattle.c_tree.specs.Typing.{type_specs}
use Rattle.c_tree.specs.Declaring.{TypedDeclarator, has_init, type_variable, TypedParam, type_param, TypedDeclList, type_decls}
use Rattle.c_tree.specs.Stating.{Labels, TypedLabels, type_labels}
use Rattle.c_tree.specs.Units.{type_externals}
use Rattle.c_sites_probes.specs.Marked.{name_mark, lengths_mark, declarator_mark, decls_mark, labels_mark}

-- the same, but for how many tokens stand before, which probes were seen, and what was complained of
abbrev pub moved : ℕ → Seen → List Complaint → State → State
moved a seen cs s = record s { at = a; seen = seen; complaints = cs }

-- of two runs, one from the state and one from it with these probes and complaints: both come to the same, but for these three; no probe is new, and there are as many new complaints
pub record Moves (s : State) (seen : Seen) (cs : List Complaint) (x y : State) : Type 0 where
  pub at : ℕ
  pub complaints : List Complaint
  pub is : y ≡ moved at seen complaints x
  pub count : length x.complaints + length cs ≡ length complaints + length s.complaints

pub record MovesDecls (s : State) (seen : Seen) (cs : List Complaint) (x y : TypedDeclList) : Type 0 where
  pub decls : y.decls ≡ x.decls
  pub state : Moves s seen cs x.state y.state

abbrev pub DeclarationsMove : Type 0
DeclarationsMove = (ds : DeclShapes) (s : State) (a : ℕ) (seen : Seen) (cs : List Complaint) → decls_mark ds ≡ None → MovesDecls s seen cs (type_decls ds s) (type_decls ds (moved a seen cs s))

pub record MovesLabels (s : State) (seen : Seen) (cs : List Complaint) (x y : TypedLabels) : Type 0 where
  pub labels : y.labels ≡ x.labels
  pub so_far : y.so_far ≡ x.so_far
  pub state : Moves s seen cs x.state y.state

abbrev pub LabelsMove : Type 0
LabelsMove = (o : Option Labels) (ls : List LabelShape) (s : State) (a : ℕ) (seen : Seen) (cs : List Complaint) → labels_mark ls ≡ None → MovesLabels s seen cs (type_labels o ls s) (type_labels o ls (moved a seen cs s))

-- ---- names with probes

-- with that probe round it
abbrev pub marked : ProbeMark → Named → Named
marked g y = record y { probe = Some g }

abbrev pub marked_name : ProbeMark → DeclaratorShape → DeclaratorShape
marked_name g (declarator stars None f i) = declarator stars None f i
marked_name g (declarator stars (Some y) f i) = declarator stars (Some (marked g y)) f i

-- the probe's number is claimed in that state, and these are seen behind it
abbrev pub Claims : ProbeMark → Seen → State → Type 0
Claims g seen s = claim def g.number s.at g.pos s ≡ record s { seen = seen }

pub record MovesVariable (s : State) (g : ProbeMark) (seen : Seen) (x y : TypedDeclarator) : Type 0 where
  pub name : y.name ≡ marked_name g x.name
  pub state : Moves s seen s.complaints x.state y.state

-- a variable whose name has a probe, where one may stand
abbrev pub MarkedVariables : Type 0
MarkedVariables = (k : Option TypeOf) (stars : List Star) (y : Named) (g : ProbeMark) (ls : LengthShapes) (i : MaybeInit) (s : State) (seen : Seen) → declarator_mark (declarator stars (Some y) (arrays ls) i) ≡ None →
    (nat_eq s.function 0 || has_init i) ≡ true → Claims g seen (steps (star_tokens stars) s) → MovesVariable s g seen (type_variable k stars (Some y) ls i s) (type_variable k stars (Some (marked g y)) ls i s)

pub record MovesParameter (s : State) (seen : Seen) (x y : TypedParam) : Type 0 where
  pub kind : y.kind ≡ x.kind
  pub state : Moves s seen s.complaints x.state y.state

-- behind the stars of a parameter
abbrev pub behind_stars : Pos → SpecShapes → List Star → State → State
behind_stars p specs stars s = let t = type_specs false specs unspelled s in steps (star_tokens stars) (rule (spelled_rule t.spelled) s.at p t.state)

-- a parameter of a definition, whose name has a probe
abbrev pub MarkedParameters : Type 0
MarkedParameters = (p : Pos) (specs : SpecShapes) (stars : List Star) (y : Named) (g : ProbeMark) (ls : LengthShapes) (i : MaybeInit) (s : State) (seen : Seen) → name_mark (Some y) ≡ None → lengths_mark ls ≡ None →
    Claims g seen (behind_stars p specs stars s) → MovesParameter (behind_stars p specs stars s) seen (type_param true p specs stars (Some y) ls i s) (type_param true p specs stars (Some (marked g y)) ls i s)

-- ---- functions

-- at file scope no function is open, and none behind what stands there
abbrev pub FunctionIsKept : Type 0
FunctionIsKept = (es : List ExternalShape) (s : State) → s.function ≡ 0 → (type_externals es s).state.function ≡ 0
