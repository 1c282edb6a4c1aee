-- Parts that are laid in turn, as far as they are.
use Rattle.std.proofs.Common.{ℕ, ◌+◌, ◌<◌, ◌≤◌, ◌≡◌, List, ◌∷◌, [], ◌++◌, take, get_or, length, refl, sym, subst, ap, ◌∙◌}
use Rattle.std.proofs.lemmas.List.{take_more, take_all}
use Rattle.c_syntax.specs.declared.tree.Node.{Node}
use Rattle.c_syntax.specs.declared.tree.Declarator.{Declarator}
use Rattle.c_syntax.specs.declared.tree.Decl.{Decl}
use Rattle.c_syntax.specs.View.{node_shape, node_list, declarator_shape, declarator_list, decl_shape, decl_list}
use Rattle.c_tables.specs.Tables.{TablesShape}
use Rattle.c_walk.specs.declared.around.Around.{Around}
use Rattle.c_walk.specs.declared.around.Taken.TheVariants.{Read}
use Rattle.c_walk.specs.Walked.{Walked}
use Rattle.c_walk.specs.Walking.{walk_node, walk_nodes}
use Rattle.c_walk.specs.Stating.{walk_declarator, walk_declarators, walk_decl, walk_decls}
use Rattle.flow_walks.specs.Comes.{Comes, value}
use Rattle.flow_walks.specs.Expressions.{node_goes, nodes_go}
use Rattle.flow_walks.specs.Statements.{declarator_goes, declarators_go, decl_goes, decls_go}
use Rattle.flow_walks.proofs.More.{In, nodes_in, declarators_in, decls_in}
use Rattle.flow_rows.specs.Paths.{Graph, from, From}
use Rattle.flow_rows.specs.Counts.{counts}
use Rattle.flow_rows.specs.Laying.{Grown, Lays, LaidAt, Placed}
use Rattle.flow_rows.specs.declared.numbers.Numbers.{Numbers}
use Rattle.flow_rows.proofs.Laws.{grown_then, leads, lays_then, keeps_then}

pub lays_as : (h : Graph) (r : ℕ) (F G : (ℕ → Comes) → Comes) → ((k : ℕ → Comes) → F k ≡ G k) → Lays h r F → Lays h r G
lays_as h r F G p f = record {
  down = λ m n le w q. subst (λ (C : Comes). C w) (p (from h m)) (f.down m n le w q);
  up = λ w q. f.up w (subst (λ (C : Comes). C w) (sym (p (From h))) q);
}

-- what the parts of a list do, and each behind those before it
pub record Run (X : Type 0) : Type 1 where
  pub goes : Around → List X → Walked → (ℕ → Comes) → Comes → Comes
  pub walk : Around → List X → Walked → Walked
  pub one : Around → List X → X → Walked → (ℕ → Comes) → Comes → Comes
  pub step : Around → List X → X → Walked → Walked
  pub none_goes : (c : Around) (w : Walked) (k : ℕ → Comes) (j : Comes) → goes c [] w k j ≡ j
  pub none_walk : (c : Around) (w : Walked) → walk c [] w ≡ w
  pub more_goes : (c : Around) (xs : List X) (x : X) (w : Walked) (k : ℕ → Comes) (j : Comes) → goes c (xs ++ x ∷ []) w k j ≡ goes c xs w k (one c xs x (walk c xs w) k j)
  pub more_walk : (c : Around) (xs : List X) (x : X) (w : Walked) → walk c (xs ++ x ∷ []) w ≡ step c xs x (walk c xs w)
  pub goes_in : (c : Around) (xs : List X) (w : Walked) (k : ℕ → Comes) (i j : Comes) → In i j → In (goes c xs w k i) (goes c xs w k j)

module _ {X : Type 0} (run : Run X) where
  -- those parts, of which the last leads to that row
  pub record RunPlaced (g h : Graph) (n m : Numbers) (at entry : ℕ) (xs : List X) : Type 0 where
    pub grown : Grown g h
    pub laid : (c : Around) (w : Walked) → counts w ≡ n → LaidAt h at (λ k. run.goes c xs w k (k entry))
    pub counted : (c : Around) (w : Walked) → counts w ≡ n → counts (run.walk c xs w) ≡ m

  pub run_none : (g h i : Graph) (n : Numbers) (at entry : ℕ) → Grown g h → Grown h i → LaidAt i at (λ k. k entry) → RunPlaced g i n n at entry []
  run_none g h i n at entry gh hi l = record {
    grown = grown_then g h i gh hi;
    laid = λ c w e j k. lays_as j at (λ k. k entry) (λ k. run.goes c [] w k (k entry)) (λ k. sym (run.none_goes c w k (k entry))) (l j k);
    counted = λ c w e. ap counts (run.none_walk c w) ∙ e;
  }

  pub run_more : (g h i j : Graph) (n m l : Numbers) (at entry next : ℕ) (xs : List X) (x : X) → RunPlaced g h n m at entry xs → Grown h i → Placed i j m l entry (λ c w k. run.one c xs x w k (k next)) (λ c w. run.step c xs x w) → RunPlaced g j n l at next (xs ++ x ∷ [])
  run_more g h i j n m l at entry next xs x before hi part = record {
    grown = grown_then g i j (grown_then g h i before.grown hi) part.grown;
    laid = λ c w e q k.
        let v = run.walk c xs w in
        let keep = keeps_then h i q hi.keeps (keeps_then i j q part.grown.keeps k) in
        lays_as q at (λ k. run.goes c xs w k (run.one c xs x v k (k next))) (λ k. run.goes c (xs ++ x ∷ []) w k (k next)) (λ k. sym (run.more_goes c xs x w k (k next)))
        (lays_then q at entry (λ k u. run.goes c xs w k u) (λ k. run.one c xs x v k (k next)) (run.goes_in c xs w) (before.laid c w e q keep) (leads q entry (λ k. run.one c xs x v k (k next)) (part.laid c v (before.counted c w e) q k)));
    counted = λ c w e. ap counts (run.more_walk c xs x w) ∙ part.counted c (run.walk c xs w) (before.counted c w e);
  }

  pub run_end : (g h i : Graph) (n m : Numbers) (at entry to : ℕ) (xs : List X) → RunPlaced g h n m at entry xs → Grown h i → LaidAt i entry (λ k. k to) → Placed g i n m at (λ c w k. run.goes c xs w k (k to)) (λ c w. run.walk c xs w)
  run_end g h i n m at entry to xs before hi l = record {
    grown = grown_then g h i before.grown hi;
    laid = λ c w e q k. lays_then q at entry (λ k u. run.goes c xs w k u) (λ k. k to) (run.goes_in c xs w) (before.laid c w e q (keeps_then h i q hi.keeps k)) (leads q entry (λ k. k to) (l q k));
    counted = before.counted;
  }

  -- one part more of a list
  pub run_next : (g h i j : Graph) (n m l : Numbers) (at entry next : ℕ) (all : List X) (o : ℕ) (x : X) → o < length all → x ≡ get_or all o x → RunPlaced g h n m at entry (take o all) → Grown h i → Placed i j m l entry (λ c w k. run.one c (take o all) x w k (k next)) (λ c w. run.step c (take o all) x w) → RunPlaced g j n l at next (take (o + 1) all)
  run_next g h i j n m l at entry next all o x lt is before hi part =
      subst (λ xs. RunPlaced g j n l at next xs) (ap (λ y. take o all ++ y ∷ []) is ∙ sym (take_more all o x lt)) (run_more g h i j n m l at entry next (take o all) x before hi part)

  pub run_all : (g h i : Graph) (n m : Numbers) (at entry to o : ℕ) (all : List X) → length all ≤ o → RunPlaced g h n m at entry (take o all) → Grown h i → LaidAt i entry (λ k. k to) → Placed g i n m at (λ c w k. run.goes c all w k (k to)) (λ c w. run.walk c all w)
  run_all g h i n m at entry to o all le before hi l = run_end g h i n m at entry to all (subst (λ xs. RunPlaced g h n m at entry xs) (take_all o all le) before) hi l

-- ---- arguments

module _ (t : TablesShape) where
  pub args_more : (c : Around) (xs : List Node) (x : Node) (w : Walked) (j : Comes) → nodes_go t c (node_list (xs ++ x ∷ [])) w j ≡ nodes_go t c (node_list xs) w (node_goes t c Read (node_shape x) (walk_nodes c (node_list xs) w) (value j))
  args_more c [] x w j = refl
  args_more c (y ∷ ys) x w j = ap (λ (k : Comes). node_goes t c Read (node_shape y) w (value k)) (args_more c ys x (walk_node c Read (node_shape y) w) j)

  pub args_walk : (c : Around) (xs : List Node) (x : Node) (w : Walked) → walk_nodes c (node_list (xs ++ x ∷ [])) w ≡ walk_node c Read (node_shape x) (walk_nodes c (node_list xs) w)
  args_walk c [] x w = refl
  args_walk c (y ∷ ys) x w = args_walk c ys x (walk_node c Read (node_shape y) w)

  abbrev pub arguments : Run Node
  arguments = record {
    goes = λ c xs w k j. nodes_go t c (node_list xs) w j;
    walk = λ c xs w. walk_nodes c (node_list xs) w;
    one = λ c xs x w k j. node_goes t c Read (node_shape x) w (value j);
    step = λ c xs x w. walk_node c Read (node_shape x) w;
    none_goes = λ c w k j. refl;
    none_walk = λ c w. refl;
    more_goes = λ c xs x w k j. args_more c xs x w j;
    more_walk = args_walk;
    goes_in = λ c xs w k i j h. nodes_in t c (node_list xs) w i j h;
  }

-- ---- declarations

module _ (t : TablesShape) where
  pub names_more : (c : Around) (xs : List Declarator) (x : Declarator) (w : Walked) (j : Comes) → declarators_go t c (declarator_list (xs ++ x ∷ [])) w j ≡ declarators_go t c (declarator_list xs) w (declarator_goes t c (declarator_shape x) (walk_declarators t c (declarator_list xs) w) j)
  names_more c [] x w j = refl
  names_more c (y ∷ ys) x w j = ap (λ (k : Comes). declarator_goes t c (declarator_shape y) w k) (names_more c ys x (walk_declarator t c (declarator_shape y) w) j)

  pub names_walk : (c : Around) (xs : List Declarator) (x : Declarator) (w : Walked) → walk_declarators t c (declarator_list (xs ++ x ∷ [])) w ≡ walk_declarator t c (declarator_shape x) (walk_declarators t c (declarator_list xs) w)
  names_walk c [] x w = refl
  names_walk c (y ∷ ys) x w = names_walk c ys x (walk_declarator t c (declarator_shape y) w)

  abbrev pub names_run : Run Declarator
  names_run = record {
    goes = λ c xs w k j. declarators_go t c (declarator_list xs) w j;
    walk = λ c xs w. walk_declarators t c (declarator_list xs) w;
    one = λ c xs x w k j. declarator_goes t c (declarator_shape x) w j;
    step = λ c xs x w. walk_declarator t c (declarator_shape x) w;
    none_goes = λ c w k j. refl;
    none_walk = λ c w. refl;
    more_goes = λ c xs x w k j. names_more c xs x w j;
    more_walk = names_walk;
    goes_in = λ c xs w k i j h. declarators_in t c (declarator_list xs) w i j h;
  }

  pub decls_more : (c : Around) (xs : List Decl) (x : Decl) (w : Walked) (j : Comes) → decls_go t c (decl_list (xs ++ x ∷ [])) w j ≡ decls_go t c (decl_list xs) w (decl_goes t c (decl_shape x) (walk_decls t c (decl_list xs) w) j)
  decls_more c [] x w j = refl
  decls_more c (y ∷ ys) x w j = ap (λ (k : Comes). decl_goes t c (decl_shape y) w k) (decls_more c ys x (walk_decl t c (decl_shape y) w) j)

  pub decls_walk : (c : Around) (xs : List Decl) (x : Decl) (w : Walked) → walk_decls t c (decl_list (xs ++ x ∷ [])) w ≡ walk_decl t c (decl_shape x) (walk_decls t c (decl_list xs) w)
  decls_walk c [] x w = refl
  decls_walk c (y ∷ ys) x w = decls_walk c ys x (walk_decl t c (decl_shape y) w)

  abbrev pub decls_run : Run Decl
  decls_run = record {
    goes = λ c xs w k j. decls_go t c (decl_list xs) w j;
    walk = λ c xs w. walk_decls t c (decl_list xs) w;
    one = λ c xs x w k j. decl_goes t c (decl_shape x) w j;
    step = λ c xs x w. walk_decl t c (decl_shape x) w;
    none_goes = λ c w k j. refl;
    none_walk = λ c w. refl;
    more_goes = λ c xs x w k j. decls_more c xs x w j;
    more_walk = decls_walk;
    goes_in = λ c xs w k i j h. decls_in t c (decl_list xs) w i j h;
  }
