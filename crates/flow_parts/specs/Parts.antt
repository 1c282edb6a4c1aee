-- The sites of a program that are local variables and parameters, elements and fields in them, and structures that are copied, by the items that the
-- walk counts.
use Rattle.std.specs.Prelude.{◌≡◌, ℕ, List, [], ◌∷◌, nat_le, Bool, true, false, Option, Some, None, if◌then◌else◌}
use Rattle.atac_facts.specs.declared.fact.Fact.TheVariants.{Pair, PUse}
use Rattle.cover_parts.specs.Covered.{Covered}
use Rattle.c_syntax.specs.declared.text.Text.{Text}
use Rattle.c_syntax.specs.Shape.{declarator, ExternalShape, defined, declared}
use Rattle.c_tables.specs.Tables.{TablesShape}
use Rattle.c_tables.specs.Rows.{row, text_of}
use Rattle.c_walk.specs.Items.{Direct, Item}
use Rattle.c_walk.specs.Counted.{def_count}
use Rattle.c_walk.specs.Walked.{Walked}
use Rattle.c_walk.specs.Units as units
use Rattle.c_walk.specs.Units.{function_of, define_parameters, walk_external, items_of}
use Rattle.c_sites.specs.Names.{site_leaves}
use Rattle.c_meaning.specs.Deeds.{told}
use Rattle.c_meaning.specs.Calls.{Source}
use Rattle.c_meaning.specs.Runs.{run_heard}
use Rattle.flow_calls.specs.Orderly.{IsOrderlyProgram}
use Rattle.flow_calls.specs.Placing.{Local, Sites}
use Rattle.flow_calls.specs.Pairs.{HasPair, IsListed}
use Rattle.flow_places.specs.Declared.{AreSitesOf}
use Rattle.flow_initial.specs.Lengths.{AreFilled}
use Rattle.flow_leaves.specs.KindedPrograms.{AreKindedExternals}
use Rattle.flow_leaves.specs.CellNames.{AreLayered}
use Rattle.flow_leaves.specs.Leaves.{leaf_in}
use Rattle.flow_owned.specs.Own.{name_in, AreOwnExternals}
use Rattle.flow_parts.specs.Parameters.{AreScalarParameters}
use Rattle.flow_parts.specs.Items.{def_at, use_at, outer_variables, is_among, run_events}

-- ---- sites

-- the leaf name of a variable's cell, by the name of its row
abbrev pub leaf_at : TablesShape → ℕ → ℕ → Text
leaf_at t x c = leaf_in t (name_in (row t.variables x)) x c

-- by the leaf names that it is listed with
abbrev pub site_of : TablesShape → Bool → Direct → Local
site_of t is_parameter d = record { variable = d.variable; names = site_leaves t.structures (Some d); parameter = is_parameter }

-- a place in a variable that isn't declared outside of functions, or such a variable
abbrev pub part_of : TablesShape → List ℕ → Option Direct → Option Local
part_of t outer None = None
part_of t outer (Some d) = if is_among d.variable outer then None else Some (site_of t false d)

abbrev pub parameter_of : TablesShape → Option Direct → Option Local
parameter_of t None = None
parameter_of t (Some d) = Some (site_of t true d)

-- the definition of that number, where these are all items: none at file scope, a parameter's, or one in a body
abbrev pub defined_in : TablesShape → List Item → List ℕ → List ExternalShape → Walked → ℕ → Option Local
defined_in t all outer [] w k = None
defined_in t all outer (declared d ∷ rest) w k =
    let u = walk_external t (declared d) w in
    if nat_le k (def_count u.items) then None else defined_in t all outer rest u k
defined_in t all outer (defined specs (declarator stars x d i) ms a ∷ rest) w k =
    let u = walk_external t (defined specs (declarator stars x d i) ms a) w in
    if nat_le k (def_count (define_parameters t (function_of t (text_of x)) d w).items) then parameter_of t (def_at k all)
    else if nat_le k (def_count u.items) then part_of t outer (def_at k all)
    else defined_in t all outer rest u k

abbrev pub parts_of : Source → Sites
parts_of P =
    let all = items_of P.tables P.unit in
    let outer = outer_variables P.tables P.unit.externals units.no_items in
    record { defined = defined_in P.tables all outer P.unit.externals units.no_items; used = λ u. part_of P.tables outer (use_at u all); leaf = leaf_at P.tables }

-- ---- laws

-- what is asked of a program: its notes have the types of the rows, its names are their rows' own, no structure in a variable lies in itself, no
-- array is without elements, and parameters are scalars
pub record HasParts (P : Source) : Type 0 where
  pub orderly : IsOrderlyProgram P
  pub kinded : AreKindedExternals P.tables P.unit.externals
  pub own : AreOwnExternals P.tables.variables P.unit.externals
  pub layered : AreLayered P.tables
  pub filled : AreFilled P.tables
  pub scalars : AreScalarParameters P.tables P.unit.externals units.no_items

-- of such a program these are such sites as may be told of
abbrev pub PartsAreSites : Type 0
PartsAreSites = (P : Source) → HasParts P → AreSitesOf P (parts_of P)

-- so each pair of them of one variable that a run's events make is listed
abbrev pub PartPairsAreListed : Type 0
PartPairsAreListed = (P : Source) → HasParts P → (input : List ℕ) (limit d u : ℕ) (v r : Local) → (parts_of P).defined d ≡ Some v → (parts_of P).used u ≡ Some r → v.variable ≡ r.variable
    → HasPair (told (run_heard P input limit).deeds) d u → (f : ℕ) × IsListed P (parts_of P) f d v u r

-- and so is each pair, and the pair of each p-use, that these cover, whichever decisions the uses belong to
abbrev pub CoveredPartsAreListed : Type 0
CoveredPartsAreListed = (P : Source) → HasParts P → (owner : ℕ → Option ℕ) (input : List ℕ) (limit d u : ℕ) (v r : Local) → (parts_of P).defined d ≡ Some v → (parts_of P).used u ≡ Some r → v.variable ≡ r.variable
    → Covered owner (run_events P input limit) (Pair d u) → (f : ℕ) × IsListed P (parts_of P) f d v u r

abbrev pub CoveredPartPUsesAreListed : Type 0
CoveredPartPUsesAreListed = (P : Source) → HasParts P → (owner : ℕ → Option ℕ) (input : List ℕ) (limit d u o : ℕ) (v r : Local) → (parts_of P).defined d ≡ Some v → (parts_of P).used u ≡ Some r → v.variable ≡ r.variable
    → Covered owner (run_events P input limit) (PUse d u o) → (f : ℕ) × IsListed P (parts_of P) f d v u r
