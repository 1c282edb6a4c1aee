-- Statements with their probes.
use Rattle.std.proofs.Common.{◌≡◌, List, map, Bool, ap, sym, ◌∙◌}
use Rattle.std.specs.Prelude.{◌||◌}
use Rattle.c_base.specs.declared.place.Pos.{Pos}
use Rattle.c_syntax.specs.declared.tree.Stmt.{Stmt}
use Rattle.c_syntax.specs.declared.tree.Item.{Item}
use Rattle.c_syntax.specs.declared.tree.Label.{Label}
use Rattle.c_syntax.specs.declared.tree.ProbeMark.{ProbeMark}
use Rattle.c_syntax.specs.Shape.{StmtShape, stmt, FormShape, LabelShape}
use Rattle.c_syntax.specs.View.{label_shape, stmt_shape, form_shape}
use Rattle.c_tables.specs.Tables.{TablesShape}
use Rattle.c_walk.specs.declared.around.Around.{Around}
use Rattle.c_walk.specs.Walked.{Walked, with_block_if}
use Rattle.c_walk.specs.Stating.{splits, is_labelled, walk_stmt, walk_body}
use Rattle.probe_rules.specs.Marks.{block_marks}
use Rattle.probe_rules.specs.ProbedStatements.{probed_stmt, probed_body}
use Rattle.probe_expr.specs.declared.numbers.Numbers.{Numbers}
use Rattle.probe_expr.specs.Numbers.{counts, Counted, Numbered}
use Rattle.probe_in.proofs.Lists.{items}

pub stmt_numbered : (t : TablesShape) (n m k : Numbers) (b : Bool) (s : Stmt) (marks : List ProbeMark) (form : FormShape) (made : StmtShape) → ((w : Walked) → counts w ≡ n → marks ≡ block_marks b s.pos w) → ((p : Pos) → Counted n m (λ c w. with_block_if b p w)) → Numbered m k form (λ c w. probed_body t c (form_shape s.form) w) (λ c w. walk_body t c (form_shape s.form) w) → made ≡ stmt s.pos marks s.at form → Numbered n k made (λ c w. probed_stmt t c b (stmt_shape s) w) (λ c w. walk_stmt t c (stmt_shape s) (with_block_if b s.pos w))
stmt_numbered t n m k b s marks form made marked counted body is c w h =
    let q = body c (with_block_if b s.pos w) (counted s.pos c w h) in
    (is ∙ ap (λ ms. stmt s.pos ms s.at form) (marked w h) ∙ ap (stmt s.pos (block_marks b s.pos w) s.at) q.0, q.1)

-- ---- what is known of where the walk stands in a list

abbrev pub Known : Type 0
Known = Bool × Numbers

abbrev pub known : Bool → Numbers → Known
known b n = (b, n)

pub begins_known : (b : Bool) (n m : Numbers) → n ≡ m → known b n ≡ known b m
begins_known b n m e = ap (known b) e

pub ended_known : (a b : Bool) (n m : Numbers) → known a n ≡ known b m → n ≡ m
ended_known a b n m e = ap (λ (k : Known). k.1) e

same_known : (a b : Bool) (n m : Numbers) → a ≡ b → n ≡ m → known a n ≡ known b m
same_known a b n m e f = ap (λ x. known x n) e ∙ ap (known b) f

abbrev Parts : Type 0
Parts = List LabelShape × StmtShape

abbrev parts : List LabelShape → StmtShape → Parts
parts ls s = (ls, s)

same_parts : (ls ms : List LabelShape) (s r : StmtShape) → ls ≡ ms → s ≡ r → parts ls s ≡ parts ms r
same_parts ls ms s r e f = ap (λ x. parts x s) e ∙ ap (parts ms) f

-- ---- a statement in a list

pub item_made : (t : TablesShape) (c : Around) (after block splitting : Bool) (n m : Numbers) (x y : Item) (labels : List Label) (v : Bool × Walked) (given again : List Label) (copied : StmtShape) → y.labels.items ≡ labels → map label_shape labels ≡ map label_shape given → given ≡ x.labels.items → block ≡ (after || is_labelled (map label_shape again)) → again ≡ x.labels.items → splitting ≡ splits (stmt_shape x.stmt) → stmt_shape y.stmt ≡ copied → Numbered n m copied (λ c w. probed_stmt t c block (stmt_shape x.stmt) w) (λ c w. walk_stmt t c (stmt_shape x.stmt) (with_block_if block x.stmt.pos w)) → known v.0 (counts v.1) ≡ known after n → ((items t c).shape y ≡ (items t c).one ((items t c).shape x) v) × ((items t c).known ((items t c).step ((items t c).shape x) v) ≡ known splitting m)
item_made t c after block splitting n m x y labels v given again copied own same is begins anew ends put made knows =
    let ls = map label_shape x.labels.items in
    let a = stmt_shape x.stmt in
    let before : v.0 ≡ after = ap (λ (k : Known). k.0) knows in
    let counted : counts v.1 ≡ n = ap (λ (k : Known). k.1) knows in
    let here : block ≡ (v.0 || is_labelled ls) = begins ∙ ap (λ z. after || is_labelled (map label_shape z)) anew ∙ ap (λ z. z || is_labelled ls) (sym before) in
    let q = made c v.1 counted in
    let labelled : map label_shape y.labels.items ≡ ls = ap (map label_shape) own ∙ same ∙ ap (map label_shape) is in
    let probed : stmt_shape y.stmt ≡ probed_stmt t c (v.0 || is_labelled ls) a v.1 = put ∙ q.0 ∙ ap (λ z. probed_stmt t c z a v.1) here in
    let walked : counts (walk_stmt t c a (with_block_if (v.0 || is_labelled ls) x.stmt.pos v.1)) ≡ m = ap (λ z. counts (walk_stmt t c a (with_block_if z x.stmt.pos v.1))) (sym here) ∙ q.1 in
    (same_parts _ ls _ (probed_stmt t c (v.0 || is_labelled ls) a v.1) labelled probed, same_known (splits a) splitting _ m (sym ends) walked)
