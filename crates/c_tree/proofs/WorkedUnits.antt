-- Worked units: what is complained of in each, by the number of its token and its own number. All places are 1:1.
use Rattle.std.proofs.Common.{◌≡◌, ℕ, ◌++◌, List, [], ◌∷◌, Option, Some, None, Bool, true, false, refl, map}
use Rattle.c_base.specs.declared.place.Pos.{Pos}
use Rattle.c_base.specs.declared.place.IntKind.TheVariants.{Char}
use Rattle.c_arith.specs.Arith.{pattern, value_of, fitted, binary_result}
use Rattle.c_syntax.specs.declared.text.Text.{Text}
use Rattle.c_syntax.specs.declared.token.Key.{Key}
use Rattle.c_syntax.specs.declared.token.Key.TheVariants as key
use Rattle.c_syntax.specs.declared.tree.Named.{Named}
use Rattle.c_syntax.specs.declared.tree.Star.{Star}
use Rattle.c_syntax.specs.declared.tree.BinaryOp.TheVariants as op
use Rattle.c_syntax.specs.declared.tree.UnaryOp.TheVariants as front
use Rattle.c_syntax.specs.Shape.{array, int, bare, number, str, name, size_of, unary, plain, and, assign, comma, dot, Probing, used, def, NodeShape, node, ExprShape, leaf, paren, call, prefix, suffix, two, choose, probe, field, simple, NodeShapes, no_nodes, MaybeNode, no_node, one_node, LengthShapes, no_lengths, more_lengths, SpecShapes, no_specs, more_specs, SpecShape, word, struct, enum, rows, EnumerShapes, no_enumers, more_enumers, no_members, members, DeclShape, decl, DeclShapes, no_decls, more_decls, DeclaratorShape, declarator, DeclaratorShapes, no_declarators, more_declarators, arrays, function, void, params, MaybeInit, no_init, one_init, one, listed, InitShapes, no_inits, more_inits, LabelShape, case, StmtShape, stmt, FormShape, simply, switch, break, return, CompoundShape, braces, ItemShapes, no_items, more_items, ExternalShape, defined, declared, UnitShape}
use Rattle.c_tree.specs.declared.meaning.Complaint.{Complaint}
use Rattle.c_tree.specs.State.{complaint}
use Rattle.c_tree.specs.Units.{typed_unit, complaints}

-- ---- how the units are spelled here

abbrev p : Pos
p = record { line = 1; col = 1 }

abbrev n : ExprShape → NodeShape
n f = node p p bare f

abbrev named : Text → Named
named x = record { pos = p; text = x; probe = None }

abbrev star : Star
star = record { pos = p; consts = 0 }

abbrev keyed : Key → SpecShapes
keyed k = more_specs p (word k) no_specs

abbrev tagged : Text → SpecShapes
tagged x = more_specs p (struct (Some (named x)) no_members) no_specs

abbrev variable : List Star → Text → LengthShapes → MaybeInit → DeclaratorShape
variable stars x ls i = declarator stars (Some (named x)) (arrays ls) i

abbrev of : SpecShapes → DeclaratorShape → DeclShape
of specs d = decl p specs (more_declarators d no_declarators)

-- text of one letter, and of a digit
abbrev a : Text
a = 97 ∷ []

abbrev b : Text
b = 98 ∷ []

abbrev c : Text
c = 99 ∷ []

abbrev f : Text
f = 102 ∷ []

abbrev g : Text
g = 103 ∷ []

abbrev q : Text
q = 112 ∷ []

abbrev s : Text
s = 115 ∷ []

abbrev v : Text
v = 118 ∷ []

abbrev x : Text
x = 120 ∷ []

abbrev zero_ : NodeShape
zero_ = n (leaf (number (48 ∷ [])))

abbrev one_ : NodeShape
one_ = n (leaf (number (49 ∷ [])))

abbrev two_ : NodeShape
two_ = n (leaf (number (50 ∷ [])))

abbrev use_ : Text → NodeShape
use_ t = n (leaf (name t))

abbrev statement : FormShape → ItemShapes → ItemShapes
statement b rest = more_items [] (stmt p [] p b) rest

abbrev labelled : NodeShape → ItemShapes → ItemShapes
labelled e rest = more_items (case p e ∷ []) (stmt p [] p (simply no_node)) rest

abbrev give : NodeShape → ItemShapes
give e = statement (return (one_node e)) no_items

abbrev expression : NodeShape → ItemShapes → ItemShapes
expression e rest = statement (simply (one_node e)) rest

-- int main(void) with a body
abbrev main_text : Text
main_text = 109 ∷ 97 ∷ 105 ∷ 110 ∷ []

abbrev main_with : DeclShapes → ItemShapes → ExternalShape
main_with ds items = defined (keyed key.Int) (declarator [] (Some (named main_text)) (function void) no_init) [] (braces p ds items)

-- int f(void);
abbrev f_void : ExternalShape
f_void = declared (of (keyed key.Int) (declarator [] (Some (named f)) (function void) no_init))

abbrev unit : List ExternalShape → UnitShape
unit es = record { pos = p; line = None; externals = es; last = p }

abbrev one_decl : DeclShape → DeclShapes
one_decl d = more_decls d no_decls

abbrev of_int : Text → DeclShape
of_int t = of (keyed key.Int) (variable [] t no_lengths no_init)

abbrev at : ℕ → ℕ → List Complaint
at token m = complaint token m p ∷ []

-- ---- rows

-- int main(void){return x;}
unknown_name : complaints (unit (main_with no_decls (give (use_ x)) ∷ [])) ≡ at 7 30
unknown_name = refl

-- int main(void){int a;int a;return 0;}
declared_twice : complaints (unit (main_with (more_decls (of_int a) (one_decl (of_int a))) (give zero_) ∷ [])) ≡ at 10 31
declared_twice = refl

-- int main(void){1=2;return 0;}
no_left_side : complaints (unit (main_with no_decls (expression (n (two (assign None) one_ two_)) (give zero_)) ∷ [])) ≡ at 6 32
no_left_side = refl

-- int main(void){int*p;p=1;return 0;}
wrong_type : complaints (unit (main_with (one_decl (of (keyed key.Int) (variable (star ∷ []) q no_lengths no_init))) (expression (n (two (assign None) (use_ q) one_)) (give zero_)) ∷ [])) ≡ at 11 33
wrong_type = refl

-- int main(void){return putchar();}
wrong_count : complaints (unit (main_with no_decls (give (n (call (112 ∷ 117 ∷ 116 ∷ 99 ∷ 104 ∷ 97 ∷ 114 ∷ []) no_nodes))) ∷ [])) ≡ at 7 34
wrong_count = refl

-- int x;int a[x];int main(void){return 0;}
not_constant : complaints (unit (declared (of_int x) ∷ declared (of (keyed key.Int) (variable [] a (more_lengths (one_node (use_ x)) no_lengths) no_init)) ∷ main_with no_decls (give zero_) ∷ [])) ≡ at 6 35
not_constant = refl

-- int main(void){switch(1){case 2:;case 1+1:;}}
case_twice : complaints (unit (main_with no_decls (statement (switch one_ (labelled two_ (labelled (n (two (plain op.Add) one_ one_)) no_items))) no_items) ∷ [])) ≡ at 15 36
unfolding pattern value_of fitted binary_result
case_twice = refl

-- int main(void){break;}
stray : complaints (unit (main_with no_decls (statement break no_items) ∷ [])) ≡ at 6 37
stray = refl

-- int f(void);
no_main : complaints (unit (f_void ∷ [])) ≡ at 5 38
no_main = refl

-- struct s;struct s v;int main(void){return 0;}
incomplete_type : complaints (unit (declared (decl p (tagged s) no_declarators) ∷ declared (of (tagged s) (variable [] v no_lengths no_init)) ∷ main_with no_decls (give zero_) ∷ [])) ≡ at 5 39
incomplete_type = refl

-- int f(void);int main(void){return f();}
undefined : complaints (unit (f_void ∷ main_with no_decls (give (n (call f no_nodes))) ∷ [])) ≡ at 13 40
undefined = refl

-- int f(void);int main(void){int*p;p=f();} : a call of a function without a body has no type, so nothing complains of the assignment
undefined_inside : complaints (unit (f_void ∷ main_with (one_decl (of (keyed key.Int) (variable (star ∷ []) q no_lengths no_init))) (expression (n (two (assign None) (use_ q) (n (call f no_nodes)))) no_items) ∷ [])) ≡ at 18 40
undefined_inside = refl

-- struct s{int f;};struct s v;int main(void){return v.g;}
abbrev with_f : SpecShapes
with_f = more_specs p (struct (Some (named s)) (members (one_decl (of_int f)))) no_specs

unknown_field : complaints (unit (declared (decl p with_f no_declarators) ∷ declared (of (tagged s) (variable [] v no_lengths no_init)) ∷ main_with no_decls (give (n (suffix (use_ v) (field dot g p)))) ∷ [])) ≡ at 21 41
unknown_field = refl

-- char a[1048577];int main(void){return 0;}
too_large : complaints (unit (declared (of (keyed key.Char) (variable [] a (more_lengths (one_node (n (leaf (number (49 ∷ 48 ∷ 52 ∷ 56 ∷ 53 ∷ 55 ∷ 55 ∷ []))))) no_lengths) no_init)) ∷ main_with no_decls (give zero_) ∷ [])) ≡ at 1 42
too_large = refl

-- int f(void x){return 0;}int main(void){return 0;}
void_parameter : complaints (unit (defined (keyed key.Int) (declarator [] (Some (named f)) (function (params (one_decl (of (keyed key.Void) (variable [] x no_lengths no_init))))) no_init) [] (braces p no_decls (give zero_)) ∷ main_with no_decls (give zero_) ∷ [])) ≡ at 4 33
void_parameter = refl

-- int x;int main(void){int*p=&x;p=x?p:0;return p==(0&&1);}
accepted : complaints (unit (declared (of_int x) ∷ main_with (one_decl (of (keyed key.Int) (variable (star ∷ []) q no_lengths (one_init (one (n (prefix (unary front.AddressOf) (use_ x))))))))
    (expression (n (two (assign None) (use_ q) (n (choose (use_ x) (use_ q) zero_)))) (give (n (two (plain op.Eq) (use_ q) (n (paren (n (two and zero_ one_)))))))) ∷ [])) ≡ []
accepted = refl

-- int f(void);int main(void){return f();}int f(void){return 0;} : the body may come later
defined_later : complaints (unit (f_void ∷ main_with no_decls (give (n (call f no_nodes))) ∷ defined (keyed key.Int) (declarator [] (Some (named f)) (function void) no_init) [] (braces p no_decls (give zero_)) ∷ [])) ≡ []
defined_later = refl

-- void f(void){}int main(void){return f();}
void_returned : complaints (unit (defined (keyed key.Void) (declarator [] (Some (named f)) (function void) no_init) [] (braces p no_decls no_items) ∷ main_with no_decls (give (n (call f no_nodes))) ∷ [])) ≡ at 13 33
void_returned = refl

-- enum{a=1,a};int main(void){return 0;}
enumerator_twice : complaints (unit (declared (decl p (more_specs p (enum None (rows (more_enumers (named a) (one_node one_) (more_enumers (named a) no_node no_enumers)))) no_specs) no_declarators) ∷ main_with no_decls (give zero_) ∷ [])) ≡ at 6 31
enumerator_twice = refl

-- int main(void){struct s{int f;}v;return v.f;}
inner_structure : complaints (unit (main_with (one_decl (of with_f (variable [] v no_lengths no_init))) (give (n (suffix (use_ v) (field dot f p)))) ∷ [])) ≡ []
inner_structure = refl

-- int a[2]={1,2,1};int main(void){return 0;}
item_too_many : complaints (unit (declared (of (keyed key.Int) (variable [] a (more_lengths (one_node two_) no_lengths) (one_init (listed p (more_inits (one one_) (more_inits (one two_) (more_inits (one one_) no_inits))) false)))) ∷ main_with no_decls (give zero_) ∷ [])) ≡ at 11 33
item_too_many = refl

-- char a[]="fg";int main(void){return sizeof "fg";} : the array has three elements, and neither string is an object
abbrev with_string : UnitShape
with_string = unit (declared (of (keyed key.Char) (variable [] a (more_lengths no_node no_lengths) (one_init (one (n (leaf (str (102 ∷ 103 ∷ [])))))))) ∷ main_with no_decls (give (n (prefix size_of (n (leaf (str (102 ∷ 103 ∷ []))))))) ∷ [])

string_fills : complaints with_string ≡ []
string_fills = refl

three_elements : map (λ r. r.kind) (typed_unit with_string).state.tables.variables ≡ array (int Char) 3 ∷ []
three_elements = refl

no_objects : (typed_unit with_string).state.tables.literals ≡ []
no_objects = refl

-- ---- structures: struct s{int f;};struct s a;struct s b;struct s c;int main(void){e;return 0;}, where e begins at token 26
abbrev of_s : Text → ExternalShape
of_s t = declared (of (tagged s) (variable [] t no_lengths no_init))

abbrev with_structures : NodeShape → List Complaint
with_structures e = complaints (unit (declared (decl p with_f no_declarators) ∷ of_s a ∷ of_s b ∷ of_s c ∷ main_with no_decls (expression e (give zero_)) ∷ []))

abbrev gets : NodeShape → NodeShape → NodeShape
gets l r = n (two (assign None) l r)

abbrev in_parens : NodeShape → NodeShape
in_parens e = n (paren e)

abbrev probed : Probing → Text → NodeShape
probed u t = n (probe (simple u (49 ∷ [])) (use_ t))

-- a=b
structure_copied : with_structures (gets (use_ a) (use_ b)) ≡ []
structure_copied = refl

-- a=b=c : a copy gives no value
copied_twice : with_structures (gets (use_ a) (gets (use_ b) (use_ c))) ≡ at 27 33
copied_twice = refl

-- a=(1,b) : the right side is no place
copied_value : with_structures (gets (use_ a) (in_parens (n (two comma one_ (use_ b))))) ≡ at 27 33
copied_value = refl

-- a=__atac_use(1,b)
use_copied : with_structures (gets (use_ a) (probed used b)) ≡ []
use_copied = refl

-- a=(__atac_use(1,b))
use_in_parens : with_structures (gets (use_ a) (in_parens (probed used b))) ≡ []
use_in_parens = refl

-- __atac_use(1,b)
use_alone : with_structures (probed used b) ≡ at 26 33
use_alone = refl

-- __atac_use(1,a)=b
use_to_the_left : with_structures (gets (probed used a) (use_ b)) ≡ at 26 33
use_to_the_left = refl

-- a.f=__atac_use(1,b) : the left side is no structure
use_of_other : with_structures (gets (n (suffix (use_ a) (field dot f p))) (probed used b)) ≡ at 30 33
use_of_other = refl

-- __atac_def(1,a)=b
def_copied : with_structures (gets (probed def a) (use_ b)) ≡ []
def_copied = refl

-- (__atac_def(1,a))=b
def_in_parens : with_structures (gets (in_parens (probed def a)) (use_ b)) ≡ []
def_in_parens = refl

-- a=__atac_def(1,b)
def_to_the_right : with_structures (gets (use_ a) (probed def b)) ≡ at 28 33
def_to_the_right = refl

-- a=(__atac_def(1,b))
def_to_the_right_in_parens : with_structures (gets (use_ a) (in_parens (probed def b))) ≡ at 29 33
def_to_the_right_in_parens = refl
