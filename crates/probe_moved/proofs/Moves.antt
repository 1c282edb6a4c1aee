-- What is typed of declarations and labels in a state that was changed so, and of declared names with probes.
use Rattle.std.proofs.Common.{ℕ, length, List, Some, refl, ap₂, arith}
use Rattle.std.specs.Prelude.{nat_eq}
use Rattle.c_syntax.specs.declared.tree.ProbeMark.{ProbeMark}
use Rattle.c_syntax.specs.Shape.{def, declarator, arrays}
use Rattle.c_tree.specs.State.{Seen, State, steps}
use Rattle.c_tree.specs.Operators.{claim}
use Rattle.c_tree.specs.Parts.{star_tokens}
use Rattle.c_tree.specs.declared.meaning.Complaint.{Complaint}
use Rattle.c_sites_probes.specs.Marked.{first, name_mark, lengths_mark, maybe_init_mark}
use Rattle.probe_moved.specs.Moved.{moved, Moves, DeclarationsMove, LabelsMove, marked, Claims, MarkedVariables, behind_stars, MarkedParameters}
use Rattle.probe_rules.proofs.ReadyUnits.{none_first, none_second}
use Rattle.probe_rules.proofs.Moved.{Alike, moves}
use Rattle.probe_moved.proofs.Decls.{maybe_init_alike, decls_alike}
use Rattle.probe_moved.proofs.Marked.{variable_marked, param_marked}
use Rattle.probe_moved.proofs.Statements.{labels_alike}

-- as many complaints stand before as there are
begun : (s : State) (a : ℕ) (seen : Seen) (cs : List Complaint) → Alike (length s.complaints) (length cs) seen s (moved a seen cs s)
begun s a seen cs = moves (length s.complaints) (length cs) seen s a cs (omega arith)

moves_so : (s : State) (a : ℕ) (seen : Seen) (cs : List Complaint) (u v : State) → Alike (length s.complaints) (length cs) seen u v → Moves s seen cs u v
moves_so s a seen cs u v al = record { at = al.at; complaints = al.complaints; is = al.is; count = al.count }

pub declarations_move : DeclarationsMove
declarations_move ds s a seen cs none =
    let i = decls_alike (length s.complaints) (length cs) seen ds none (begun s a seen cs) in
    record { decls = i.decls; state = moves_so s a seen cs _ _ i.state }

pub labels_move : LabelsMove
labels_move o ls s a seen cs none =
    let i = labels_alike (length s.complaints) (length cs) seen o o ls refl none (begun s a seen cs) in
    record { labels = i.labels; so_far = i.so_far; state = moves_so s a seen cs _ _ i.state }

-- of names with probes as many complaints stand before
moves_claimed : (s : State) (seen : Seen) (u v : State) → Alike (length s.complaints) (length s.complaints) seen u v → Moves s seen s.complaints u v
moves_claimed s seen u v al = record { at = al.at; complaints = al.complaints; is = al.is; count = al.count }

claims_alike : (g : ProbeMark) (seen : Seen) (s : State) → Claims g seen s → Alike (length s.complaints) (length s.complaints) seen s (claim def g.number s.at g.pos s)
claims_alike g seen s e = record { at = s.at; complaints = s.complaints; is = e; count = refl }

pub marked_variables : MarkedVariables
marked_variables k stars y g ls i s seen none may e =
    let n = length s.complaints in
    let rest = none_second (name_mark (Some y)) (first (lengths_mark ls) (maybe_init_mark i)) none in
    let v = variable_marked n n seen k k stars y g ls i i refl (none_first (name_mark (Some y)) (first (lengths_mark ls) (maybe_init_mark i)) none) (none_first (lengths_mark ls) (maybe_init_mark i) rest) (λ cs. refl) s s may (claims_alike g seen (steps (star_tokens stars) s) e) in
    let j = maybe_init_alike n n seen (nat_eq s.function 0) (nat_eq s.function 0) _ _ i refl v.kind (none_second (lengths_mark ls) (maybe_init_mark i) rest) v.state in
    record { name = ap₂ (λ l z. declarator stars (Some (marked g y)) (arrays l) z) v.lengths j.init; state = moves_claimed s seen _ _ j.state }

pub marked_parameters : MarkedParameters
marked_parameters p specs stars y g ls i s seen none none_long e =
    let b = behind_stars p specs stars s in
    let v = param_marked (length b.complaints) (length b.complaints) seen p specs stars y g ls i none none_long s s refl (claims_alike g seen b e) in
    record { kind = v.kind; state = moves_claimed b seen _ _ v.state }
