-- Lists that are typed in place, a part at a time.
use Rattle.std.proofs.Common.{◌≡◌, ℕ, ◌+◌, ◌<◌, ◌≤◌, List, [], ◌∷◌, ◌++◌, length, take, drop, get_or, Bool, Option, refl, sym, ap, ◌∙◌, arith}
use Rattle.std.proofs.Math.ListN.{set}
use Rattle.std.proofs.lemmas.List.{append-nil, append_assoc, take_more_set, drop-set-lt, drop_more, drop_all, take_all}
use Rattle.c_syntax.specs.declared.text.Text.{Text}
use Rattle.c_syntax.specs.declared.tree.Declarator.{Declarator}
use Rattle.c_syntax.specs.declared.tree.Decl.{Decl}
use Rattle.c_syntax.specs.declared.tree.Param.{Param}
use Rattle.c_syntax.specs.Shape.{TypeOf, DeclShape, DeclShapes, decl, declarator, arrays, function, no_declarators, more_declarators, no_decls, more_decls}
use Rattle.c_syntax.specs.View.{declarator_shape, declarator_list, decl_shape, decl_list, param_shape, param_list}
use Rattle.c_tree.specs.State.{State, step}
use Rattle.c_tree.specs.Declaring.{type_declarator, type_declarators, type_decl, type_decls, type_param_list}
use Rattle.c_types_decl.specs.Steps.{type_item}
use Rattle.c_types_decl.specs.Rows.{in_front}

-- one more in front
module _ {T S L : Type 0} (shape : T → S) (more : S → L → L) where
  front_push : (xs : List T) (x : T) (r : L) → in_front shape more (xs ++ x ∷ []) r ≡ in_front shape more xs (more (shape x) r)
  front_push [] x r = refl
  front_push (y ∷ xs) x r = ap (more (shape y)) (front_push xs x r)

  front_set : (xs : List T) (i : ℕ) (x : T) (r : L) → i < length xs → in_front shape more (take (i + 1) (set xs i x)) r ≡ in_front shape more (take i xs) (more (shape x) r)
  front_set xs i x r h = ap (λ ys. in_front shape more ys r) (take_more_set xs i x h) ∙ front_push (take i xs) x r

module _ {T : Type 0} (xs : List T) (i : ℕ) where
  -- what is left behind a change
  left_behind : (x : T) → drop (i + 1) (set xs i x) ≡ drop (i + 1) xs
  left_behind x = drop-set-lt (i + 1) xs i x (omega arith)

  -- what is left before it
  left_before : (y : T) → i < length xs → y ≡ get_or xs i y → drop i xs ≡ y ∷ drop (i + 1) xs
  left_before y h r = drop_more xs i y h ∙ ap (λ z. z ∷ drop (i + 1) xs) (sym r)

-- ---- declarators

all_declarators : (xs : List Declarator) → in_front declarator_shape more_declarators xs no_declarators ≡ declarator_list xs
all_declarators [] = refl
all_declarators (x ∷ xs) = ap (more_declarators (declarator_shape x)) (all_declarators xs)

module _ (k : Option TypeOf) (xs : List Declarator) (i : ℕ) where
  module _ (x y : Declarator) (s t u : State) (h : i < length xs) (r : y ≡ get_or xs i y) (e : t ≡ (type_declarator k (declarator_shape y) s).state) (g : u ≡ step t) where
    pub declarators_next : declarator_shape x ≡ (type_declarator k (declarator_shape y) s).name → in_front declarator_shape more_declarators (take (i + 1) (set xs i x)) (type_declarators k (declarator_list (drop (i + 1) (set xs i x))) u).names ≡ in_front declarator_shape more_declarators (take i xs) (type_declarators k (declarator_list (drop i xs)) s).names
    declarators_next n = front_set declarator_shape more_declarators xs i x _ h ∙ rw (left_behind xs i x, left_before xs i y h r, n, g, e) refl

    pub declarators_state : (type_declarators k (declarator_list (drop (i + 1) (set xs i x))) u).state ≡ (type_declarators k (declarator_list (drop i xs)) s).state
    declarators_state = rw (left_behind xs i x, left_before xs i y h r, g, e) refl

  pub declarators_done : (s : State) → length xs ≤ i → in_front declarator_shape more_declarators (take i xs) (type_declarators k (declarator_list (drop i xs)) s).names ≡ declarator_list xs
  declarators_done s h = rw (drop_all i xs h, take_all i xs h) (all_declarators xs)

-- ---- declarations

all_decls : (xs : List Decl) → in_front decl_shape more_decls xs no_decls ≡ decl_list xs
all_decls [] = refl
all_decls (x ∷ xs) = ap (more_decls (decl_shape x)) (all_decls xs)

module _ (xs : List Decl) (i : ℕ) where
  module _ (x y : Decl) (s t : State) (h : i < length xs) (r : y ≡ get_or xs i y) (e : t ≡ (type_decl (decl_shape y) s).state) where
    pub decls_next : decl_shape x ≡ (type_decl (decl_shape y) s).decl → in_front decl_shape more_decls (take (i + 1) (set xs i x)) (type_decls (decl_list (drop (i + 1) (set xs i x))) t).decls ≡ in_front decl_shape more_decls (take i xs) (type_decls (decl_list (drop i xs)) s).decls
    decls_next n = front_set decl_shape more_decls xs i x _ h ∙ rw (left_behind xs i x, left_before xs i y h r, n, e) refl

    pub decls_state : (type_decls (decl_list (drop (i + 1) (set xs i x))) t).state ≡ (type_decls (decl_list (drop i xs)) s).state
    decls_state = rw (left_behind xs i x, left_before xs i y h r, e) refl

  pub decls_done : (s : State) → length xs ≤ i → in_front decl_shape more_decls (take i xs) (type_decls (decl_list (drop i xs)) s).decls ≡ decl_list xs
  decls_done s h = rw (drop_all i xs h, take_all i xs h) (all_decls xs)

-- ---- parameters

-- a declaration of a parameter list in front of others
one_item : (b : Bool) (d : DeclShape) (rest : DeclShapes) (s : State) →
    type_param_list b (more_decls d rest) s ≡
    (let t = type_item b d s in let r = type_param_list b rest (step t.state) in record { params = more_decls t.param r.params; given = t.given ++ r.given; state = r.state })
one_item b (decl p specs no_declarators) rest s = refl
one_item b (decl p specs (more_declarators (declarator stars x (arrays ls) i) no_declarators)) rest s = refl
one_item b (decl p specs (more_declarators (declarator stars x (function ps) i) no_declarators)) rest s = refl
one_item b (decl p specs (more_declarators (declarator stars x (arrays ls) i) (more_declarators d ds))) rest s = refl
one_item b (decl p specs (more_declarators (declarator stars x (function ps) i) (more_declarators d ds))) rest s = refl

all_params : (xs : List Param) → in_front param_shape more_decls xs no_decls ≡ param_list xs
all_params [] = refl
all_params (x ∷ xs) = ap (more_decls (param_shape x)) (all_params xs)

module _ (b : Bool) (xs : List Param) (i : ℕ) where
  module _ (x y : Param) (s t u : State) (h : i < length xs) (r : y ≡ get_or xs i y) (e : t ≡ (type_item b (param_shape y) s).state) (g : u ≡ step t) where
    pub params_next : param_shape x ≡ (type_item b (param_shape y) s).param → in_front param_shape more_decls (take (i + 1) (set xs i x)) (type_param_list b (param_list (drop (i + 1) (set xs i x))) u).params ≡ in_front param_shape more_decls (take i xs) (type_param_list b (param_list (drop i xs)) s).params
    params_next n = front_set param_shape more_decls xs i x _ h ∙ rw (left_behind xs i x, left_before xs i y h r, one_item b (param_shape y) (param_list (drop (i + 1) xs)) s, n, g, e) refl

    pub params_given : (gs gs' : List (Text × Option TypeOf)) → gs' ≡ gs ++ (type_item b (param_shape y) s).given → gs' ++ (type_param_list b (param_list (drop (i + 1) (set xs i x))) u).given ≡ gs ++ (type_param_list b (param_list (drop i xs)) s).given
    params_given gs gs' n = rw (left_behind xs i x, left_before xs i y h r, one_item b (param_shape y) (param_list (drop (i + 1) xs)) s, n, g, e, append_assoc) refl

    pub params_state : (type_param_list b (param_list (drop (i + 1) (set xs i x))) u).state ≡ (type_param_list b (param_list (drop i xs)) s).state
    params_state = rw (left_behind xs i x, left_before xs i y h r, one_item b (param_shape y) (param_list (drop (i + 1) xs)) s, g, e) refl

  pub params_done : (s : State) → length xs ≤ i → in_front param_shape more_decls (take i xs) (type_param_list b (param_list (drop i xs)) s).params ≡ param_list xs
  params_done s h = rw (drop_all i xs h, take_all i xs h) (all_params xs)

  pub all_given : (gs : List (Text × Option TypeOf)) (s : State) → length xs ≤ i → gs ++ (type_param_list b (param_list (drop i xs)) s).given ≡ gs
  all_given gs s h = rw (drop_all i xs h) (append-nil gs)
