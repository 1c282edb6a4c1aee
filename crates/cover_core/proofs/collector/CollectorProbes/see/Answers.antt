-- One event more: each arm is one law of it.
use Rattle.std.proofs.Common.{◌≡◌, ◌∙◌, ℕ, sym, ap, subst}
use Rattle.std.specs.Prelude.{IsSome, Option, Some}
use Rattle.c_events.specs.Owners.{owner_in}
use Rattle.cover_parts.specs.Rows.{Table, word_of}
use Rattle.cover_parts.specs.Lives.{lives}
use Rattle.cover_parts.proofs.Cases.{on_ok, not_true}
use Rattle.cover_parts.proofs.Calls.{both_ok, both_err, put_stays, put_untaken, lives_put}
use Rattle.cover_core.specs.Stands.{StandsFor}
use Rattle.cover_core.proofs.Standing.{block_stands, first_use_stands, use_stands, test_stands, def_stands, same_stands, free_block, free_pair, free_wait, free_test}
use Rattle.cover_core.proofs.collector.CollectorProbes.see.Goals as goal

-- BLOCKS

pub returns-in-Block-clause-seen : goal.returns-in-Block-clause-seen
returns-in-Block-clause-seen c = rw c.in-Block.is (on_ok c.note_block.result (λ g h s. block_stands _ _ _ _ _ h _ g s) c.note_block.ensures.noted)

pub returns-in-Block-clause-frees : goal.returns-in-Block-clause-frees
returns-in-Block-clause-frees c = rw c.in-Block.is (λ _ f. c.note_block.ensures.there (free_block _ _ _ _ f.0 _ f.1 f.2))

-- DEFINITIONS

pub returns-then-define-clause-seen : goal.returns-then-define-clause-seen
returns-then-define-clause-seen c = rw c.in-Def.is (λ h s. def_stands _ _ _ _ _ h _ _ c.define.ensures.table (c.define.ensures.there.0 c.if-define.true) c.define.ensures.is s)

pub returns-then-define-clause-stay : goal.returns-then-define-clause-stay
returns-then-define-clause-stay c = λ b h. put_stays _ _ _ b _ c.define.ensures.is h

pub returns-then-define-clause-lives : goal.returns-then-define-clause-lives
returns-then-define-clause-lives c = ap (λ (t : Table). lives t.live) c.define.ensures.is ∙ lives_put c.in-Def.at c.in-Def.d c.args.self.now.rows.live

unchanged : (c : goal.Else-define) → c.define.new.self ≡ c.args.self.now.rows
unchanged c = put_untaken _ _ _ _ c.define.ensures.is (λ i. not_true _ c.if-define.false (c.define.ensures.there.1 i))

pub returns-else-define-clause-kept : goal.returns-else-define-clause-kept
returns-else-define-clause-kept c = λ h s. subst (λ (t : Table). StandsFor (owner_in c.args.self.now.owners) c.args.self.now.facts c.args.self.now.pending t h) (sym (unchanged c)) s

pub returns-else-define-clause-stay : goal.returns-else-define-clause-stay
returns-else-define-clause-stay c = λ b h. subst (λ (t : Table). IsSome (word_of t.live b)) (sym (unchanged c)) h

pub returns-else-define-clause-lives : goal.returns-else-define-clause-lives
returns-else-define-clause-lives c = ap (λ (t : Table). lives t.live) (unchanged c)

-- USES

pub returns-in_default-word-clause-seen : goal.returns-in_default-word-clause-seen
returns-in_default-word-clause-seen c = rw c.in-Use.is (λ h s. first_use_stands _ _ _ _ h _ _ _ c.word.ensures.table (sym c.word.ensures.is ∙ c.in-Some.is ∙ ap (λ (w : Option ℕ). Some w) c.in_default-word.is) s)

defined : (c : goal.After-reach) → word_of c.args.self.now.rows.live c.in-Use.at ≡ Some (Some c.in-Some-word.d)
defined c = sym c.word.ensures.is ∙ c.in-Some.is ∙ ap (λ (w : Option ℕ). Some w) c.in-Some-word.is

pub returns-in-Some-word-clause-seen : goal.returns-in-Some-word-clause-seen
returns-in-Some-word-clause-seen c = rw c.in-Use.is (both_ok c.reach.result (λ g k h s. use_stands _ _ _ _ _ _ h _ _ _ _ _ c.word.ensures.table (defined c) c.of-owner.ensures g k s) c.reach.ensures.noted c.reach.ensures.waits)

pub returns-in-Some-word-clause-kept : goal.returns-in-Some-word-clause-kept
returns-in-Some-word-clause-kept c = both_err c.reach.result (λ e q h s. same_stands _ _ _ _ _ _ h e q s) c.reach.ensures.same c.reach.ensures.unmoved

pub returns-in-Some-word-clause-frees : goal.returns-in-Some-word-clause-frees
returns-in-Some-word-clause-frees c = rw c.in-Use.is (λ _ f. c.reach.ensures.there (free_pair _ _ _ _ f.0 _ _ _ _ (defined c) f.1 f.2) (λ w i. free_wait _ _ _ _ f.0 _ _ _ _ _ (defined c) c.of-owner.ensures f.1 f.2 w i))

-- TESTS

pub returns-in-Test-clause-seen : goal.returns-in-Test-clause-seen
returns-in-Test-clause-seen c = rw c.in-Test.is (both_ok c.settle.result (λ g q h s. test_stands _ _ _ _ _ _ h _ _ _ g q s) c.settle.ensures.noted c.settle.ensures.waits)

pub returns-in-Test-clause-kept : goal.returns-in-Test-clause-kept
returns-in-Test-clause-kept c = both_err c.settle.result (λ e q h s. same_stands _ _ _ _ _ _ h e q s) c.settle.ensures.same c.settle.ensures.unmoved

pub returns-in-Test-clause-frees : goal.returns-in-Test-clause-frees
returns-in-Test-clause-frees c = rw c.in-Test.is (λ _ f. c.settle.ensures.there (free_test _ _ _ _ f.0 _ _ _ f.1 f.2))
