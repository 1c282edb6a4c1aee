-- Lists of expressions that are typed in place.
use Rattle.std.proofs.Common.{◌≡◌, ℕ, ℤ, ◌+◌, ◌<◌, ◌≤◌, Option, Some, None, List, [], ◌∷◌, ◌++◌, length, take, drop, get_or, refl, sym, ap, ◌∙◌, arith}
use Rattle.std.proofs.Math.ListN.{set}
use Rattle.c_syntax.specs.declared.tree.Node.{Node}
use Rattle.c_syntax.specs.Shape.{more_nodes, more_lengths, one_node}
use Rattle.c_syntax.specs.View.{node_shape, node_list, maybe_node, lengths_list, type_lengths_list}
use Rattle.c_constants.specs.Constants as constants
use Rattle.c_tree.specs.State.{State, step}
use Rattle.c_tree.specs.Operators.{Given, given_at}
use Rattle.c_tree.specs.Parts.{TypedNodes, no_more, TypedCases, no_cases, judged_constant, Length, TypedLengths, no_more_lengths}
use Rattle.c_tree.specs.Typing.{opening, type_node, type_arguments, type_cases, type_lengths}
use Rattle.c_types_expr.specs.Parts.{bracketed}
use Rattle.c_types_expr.specs.Turns.{in_front}
use Rattle.c_types_expr.proofs.Turns.{turned, ended, rest_lighter}
use Rattle.c_types_expr.proofs.Weights.{node_weight, nodes_weight, maybe_weight, lengths_weight}

-- ---- arguments

abbrev pub an_argument : Node → TypedNodes → TypedNodes
an_argument a r = record r { nodes = more_nodes (node_shape a) r.nodes }

pub argument_done : (xs : List Node) (i : ℕ) (a x : Node) (gs hs : List Given) (s u : State) (r : TypedNodes) → i < length xs → a ≡ get_or xs i a → node_shape x ≡ (type_node (node_shape a) (step s)).node → hs ≡ gs ++ given_at (step s).at a.pos (type_node (node_shape a) (step s)).sort ∷ [] → u ≡ (type_node (node_shape a) (step s)).state → in_front an_argument (take i xs) (type_arguments gs (node_list (drop i xs)) s) ≡ r → in_front an_argument (take (i + 1) (set xs i x)) (type_arguments hs (node_list (drop (i + 1) (set xs i x))) u) ≡ r
argument_done xs i a x gs hs s u r h e t g v k = turned an_argument (λ ys. type_arguments gs (node_list ys) s) (λ ys. type_arguments hs (node_list ys) u) xs i a x h e (λ rest. rw (t, g, v) refl) ∙ k

arguments_front : (xs : List Node) (gs : List Given) (s : State) → record { nodes = node_list xs; given = gs; state = s } ≡ in_front an_argument xs (no_more gs s)
arguments_front [] gs s = refl
arguments_front (x ∷ xs) gs s = ap (an_argument x) (arguments_front xs gs s)

pub arguments_done : (xs : List Node) (i : ℕ) (gs : List Given) (s : State) (r : TypedNodes) → length xs ≤ i → in_front an_argument (take i xs) (type_arguments gs (node_list (drop i xs)) s) ≡ r → record { nodes = node_list xs; given = gs; state = s } ≡ r
arguments_done xs i gs s r h k = arguments_front xs gs s ∙ ended an_argument (λ ys. type_arguments gs (node_list ys) s) xs i h ∙ k

pub nodes_lighter : (xs : List Node) (i n : ℕ) (x : Node) → i < length xs → nodes_weight (node_list (drop i xs)) ≤ n → nodes_weight (node_list (drop (i + 1) (set xs i x))) ≤ n
nodes_lighter xs i n x h e = rest_lighter (λ ys. nodes_weight (node_list ys)) (λ y ys. omega arith) xs i n x h e

-- ---- constants of a select

abbrev pub a_case : Node → TypedCases → TypedCases
a_case a r = record r { nodes = more_nodes (node_shape a) r.nodes }

pub case_done : (xs : List Node) (i : ℕ) (a x : Node) (vs ws : List (Option ℤ)) (s u : State) (r : TypedCases) → i < length xs → a ≡ get_or xs i a → node_shape x ≡ (type_node (node_shape a) (step s)).node → ws ≡ vs ++ constants.value (type_node (node_shape a) (step s)).sort.constant ∷ [] → u ≡ judged_constant (step s).at a.pos (type_node (node_shape a) (step s)).sort (type_node (node_shape a) (step s)).state → in_front a_case (take i xs) (type_cases vs (node_list (drop i xs)) s) ≡ r → in_front a_case (take (i + 1) (set xs i x)) (type_cases ws (node_list (drop (i + 1) (set xs i x))) u) ≡ r
case_done xs i a x vs ws s u r h e t g v k = turned a_case (λ ys. type_cases vs (node_list ys) s) (λ ys. type_cases ws (node_list ys) u) xs i a x h e (λ rest. rw (t, g, v) refl) ∙ k

cases_front : (xs : List Node) (vs : List (Option ℤ)) (s : State) → record { nodes = node_list xs; values = vs; state = s } ≡ in_front a_case xs (no_cases vs s)
cases_front [] vs s = refl
cases_front (x ∷ xs) vs s = ap (a_case x) (cases_front xs vs s)

pub cases_done : (xs : List Node) (i : ℕ) (vs : List (Option ℤ)) (s : State) (r : TypedCases) → length xs ≤ i → in_front a_case (take i xs) (type_cases vs (node_list (drop i xs)) s) ≡ r → record { nodes = node_list xs; values = vs; state = s } ≡ r
cases_done xs i vs s r h k = cases_front xs vs s ∙ ended a_case (λ ys. type_cases vs (node_list ys) s) xs i h ∙ k

-- ---- lengths in brackets

abbrev pub brackets : Option Node → TypedLengths → TypedLengths
brackets a r = record r { lengths = more_lengths (maybe_node a) r.lengths }

next_brackets : (a x : Option Node) (ls ms : List Length) (s u : State) (rest : List (Option Node)) → maybe_node x ≡ (bracketed (maybe_node a) s).length → ms ≡ ls ++ (bracketed (maybe_node a) s).count ∷ [] → u ≡ (bracketed (maybe_node a) s).state → type_lengths ls (lengths_list (a ∷ rest)) s ≡ brackets x (type_lengths ms (lengths_list rest) u)
next_brackets None x ls ms s u rest t g v = rw (t, g, v) refl
next_brackets (Some a) x ls ms s u rest t g v = rw (t, g, v) refl

pub brackets_done : (xs : List (Option Node)) (i : ℕ) (a x : Option Node) (ls ms : List Length) (s u : State) (r : TypedLengths) → i < length xs → a ≡ get_or xs i a → maybe_node x ≡ (bracketed (maybe_node a) s).length → ms ≡ ls ++ (bracketed (maybe_node a) s).count ∷ [] → u ≡ (bracketed (maybe_node a) s).state → in_front brackets (take i xs) (type_lengths ls (lengths_list (drop i xs)) s) ≡ r → in_front brackets (take (i + 1) (set xs i x)) (type_lengths ms (lengths_list (drop (i + 1) (set xs i x))) u) ≡ r
brackets_done xs i a x ls ms s u r h e t g v k = turned brackets (λ ys. type_lengths ls (lengths_list ys) s) (λ ys. type_lengths ms (lengths_list ys) u) xs i a x h e (λ rest. next_brackets a x ls ms s u rest t g v) ∙ k

lengths_front : (xs : List (Option Node)) (ls : List Length) (s : State) → record { lengths = lengths_list xs; counts = ls; state = s } ≡ in_front brackets xs (no_more_lengths ls s)
lengths_front [] ls s = refl
lengths_front (x ∷ xs) ls s = ap (brackets x) (lengths_front xs ls s)

pub lengths_done : (xs : List (Option Node)) (i : ℕ) (ls : List Length) (s : State) (r : TypedLengths) → length xs ≤ i → in_front brackets (take i xs) (type_lengths ls (lengths_list (drop i xs)) s) ≡ r → record { lengths = lengths_list xs; counts = ls; state = s } ≡ r
lengths_done xs i ls s r h k = lengths_front xs ls s ∙ ended brackets (λ ys. type_lengths ls (lengths_list ys) s) xs i h ∙ k

pub lengths_lighter : (xs : List (Option Node)) (i n : ℕ) (x : Option Node) → i < length xs → lengths_weight (lengths_list (drop i xs)) ≤ n → lengths_weight (lengths_list (drop (i + 1) (set xs i x))) ≤ n
lengths_lighter xs i n x h e = rest_lighter (λ ys. lengths_weight (lengths_list ys)) (λ y ys. omega arith) xs i n x h e

-- ---- lengths of a type name

abbrev pub a_length : Node → TypedLengths → TypedLengths
a_length a r = record r { lengths = more_lengths (one_node (node_shape a)) r.lengths }

pub length_done : (xs : List Node) (i : ℕ) (a x : Node) (ls ms : List Length) (s u : State) (r : TypedLengths) → i < length xs → a ≡ get_or xs i a → one_node (node_shape x) ≡ (bracketed (one_node (node_shape a)) s).length → ms ≡ ls ++ (bracketed (one_node (node_shape a)) s).count ∷ [] → u ≡ (bracketed (one_node (node_shape a)) s).state → in_front a_length (take i xs) (type_lengths ls (type_lengths_list (drop i xs)) s) ≡ r → in_front a_length (take (i + 1) (set xs i x)) (type_lengths ms (type_lengths_list (drop (i + 1) (set xs i x))) u) ≡ r
length_done xs i a x ls ms s u r h e t g v k = turned a_length (λ ys. type_lengths ls (type_lengths_list ys) s) (λ ys. type_lengths ms (type_lengths_list ys) u) xs i a x h e (λ rest. rw (t, g, v) refl) ∙ k

name_lengths_front : (xs : List Node) (ls : List Length) (s : State) → record { lengths = type_lengths_list xs; counts = ls; state = s } ≡ in_front a_length xs (no_more_lengths ls s)
name_lengths_front [] ls s = refl
name_lengths_front (x ∷ xs) ls s = ap (a_length x) (name_lengths_front xs ls s)

pub name_lengths_done : (xs : List Node) (i : ℕ) (ls : List Length) (s : State) (r : TypedLengths) → length xs ≤ i → in_front a_length (take i xs) (type_lengths ls (type_lengths_list (drop i xs)) s) ≡ r → record { lengths = type_lengths_list xs; counts = ls; state = s } ≡ r
name_lengths_done xs i ls s r h k = name_lengths_front xs ls s ∙ ended a_length (λ ys. type_lengths ls (type_lengths_list ys) s) xs i h ∙ k

pub name_lengths_lighter : (xs : List Node) (i n : ℕ) (x : Node) → i < length xs → lengths_weight (type_lengths_list (drop i xs)) ≤ n → lengths_weight (type_lengths_list (drop (i + 1) (set xs i x))) ≤ n
name_lengths_lighter xs i n x h e = rest_lighter (λ ys. lengths_weight (type_lengths_list ys)) (λ y ys. omega arith) xs i n x h e

-- ---- the tokens before the first argument

pub none_before : (xs : List Node) → length xs ≡ 0 → opening (node_list xs) ≡ 2
none_before [] e = refl
none_before (x ∷ xs) e = absurd (omega (arith, e))

pub some_before : (xs : List Node) → 0 < length xs → opening (node_list xs) ≡ 1
some_before [] e = absurd (omega (arith, e))
some_before (x ∷ xs) e = refl
