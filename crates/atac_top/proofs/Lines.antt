-- A line that is put in pieces.
use Rattle.std.proofs.Common.{◌≡◌, ◌⊎◌, inl, inr, refl, ap, sym, ◌∙◌, List, [], ◌++◌, ℕ, Option, append-nil}
use Rattle.std.specs.Prelude.{IsErrOf, OnOk, OnErr, Result, Ok, Err}
use Rattle.std.specs.Io.KnownBytes.{append_known}
use Rattle.atac_base.specs.Outside.{SinkState, Counts, Rose, IsFront}
use Rattle.atac_base.specs.declared.outside.PutErr.{PutErr}
use Rattle.atac_base.specs.declared.outside.PutErr.TheVariants.{Failed, NoMemory}
use Rattle.atac_commands.specs.Runs.{Tells}
use Rattle.atac_steps.specs.Grows.{SinkGrows}
use Rattle.atac_commands.proofs.Exits.{known_twice, front_of}
use Rattle.atac_steps.proofs.Growing.{rose_since, sink_goes_on}

-- what a put said that failed
pub record Broke (old new : SinkState) (piece : List ℕ) (e : PutErr) : Type 0 where
  pub front : (front : List ℕ) × IsFront front piece × (new.bytes ≡ append_known old.bytes front)
  pub faults : Counts old.faults new.faults (IsErrOf {T = Unit {0}} (Err e) Failed)
  pub wants : Counts old.wants new.wants (IsErrOf {T = Unit {0}} (Err e) NoMemory)

rose : (old mid new : SinkState) (piece : List ℕ) (e : PutErr) → Broke mid new piece e → SinkGrows old mid → Rose old.faults new.faults ⊎ Rose old.wants new.wants
rose old mid new piece Failed h grows = inl (rose_since _ _ _ grows.faults (h.faults.cause refl))
rose old mid new piece NoMemory h grows = inr (rose_since _ _ _ grows.wants (h.wants.cause refl))

pub tells_front : (old mid new : SinkState) (before piece after line : List ℕ) (e : PutErr)
    → mid.bytes ≡ append_known old.bytes before → SinkGrows old mid
    → Broke mid new piece e
    → line ≡ before ++ (piece ++ after)
    → Tells old new line
tells_front old mid new before piece after line e first grows h is =
    record {
      put = before ++ h.front.0;
      bytes = rw h.front.2 (rw first (known_twice old.bytes before h.front.0));
      whole = inr (front_of before piece after _ _ h.front.1 is, rose old mid new piece e h grows);
      grows = sink_goes_on _ _ _ grows (record { faults = h.faults.later; wants = h.wants.later });
    }

pub after_two : (old a b : Option (List ℕ)) (x y : List ℕ) → a ≡ append_known old x → b ≡ append_known a y → b ≡ append_known old (x ++ y)
after_two old a b x y h k = rw (k, h) (known_twice old x y)

-- the last put, whether it fails or not
pub tells_last : (old mid new : SinkState) (before piece line : List ℕ) (r : Result (Unit {0}) PutErr)
    → mid.bytes ≡ append_known old.bytes before → SinkGrows old mid
    → OnOk r (new.bytes ≡ append_known mid.bytes piece)
    → OnErr r ((front : List ℕ) × IsFront front piece × (new.bytes ≡ append_known mid.bytes front))
    → Counts mid.faults new.faults (IsErrOf r Failed) → Counts mid.wants new.wants (IsErrOf r NoMemory)
    → line ≡ before ++ piece
    → Tells old new line
tells_last old mid new before piece line (Ok x) first grows ok err f w is =
    record {
      put = before ++ piece;
      bytes = after_two _ _ _ before piece first ok;
      whole = inl (sym is);
      grows = sink_goes_on _ _ _ grows (record { faults = f.later; wants = w.later });
    }
tells_last old mid new before piece line (Err e) first grows ok err f w is =
    tells_front old mid new before piece [] line e first grows (record { front = err; faults = f; wants = w }) (is ∙ ap (λ xs. before ++ xs) (sym (append-nil piece)))
