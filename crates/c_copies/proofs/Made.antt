-- What a copy that is made was made of.
use Rattle.std.proofs.Common.{◌≡◌, length, Option, Some, None, Result, Ok, Err, Bool, true, false, refl, sym, ap, if◌then◌else◌}
use Rattle.std.proofs.lemmas.Bool.{false≢true}
use Rattle.c_store.specs.declared.value.Pointer.{Pointer}
use Rattle.c_store.specs.declared.value.Fault.{Fault}
use Rattle.c_store.specs.declared.value.Fault.TheVariants.{Dangling, OutOfBounds, WriteLiteral}
use Rattle.c_store.specs.Cells.{Slot, Cells, cell_of, is_inside, find, replace, element_in, element_of}
use Rattle.c_store.specs.Copies.{cells_at, with_part, copied_in, copy_of}

-- the target's instance, with the source's cells in it
abbrev pub filled : Slot → Pointer → Slot → Pointer → Slot
filled s p t q = record t { cells = with_part t.cells (cell_of q) (cells_at s p) }

abbrev pub store_with : Cells → Slot → Pointer → Slot → Pointer → Cells
store_with c s p t q = record c { live = replace q.instance (filled s p t q) c.live }

pub record Made (c : Cells) (p q : Pointer) (d : Cells) : Type 0 where
  pub source : Slot
  pub target : Slot
  pub from : find p.instance c.live ≡ Some source
  pub to : find q.instance c.live ≡ Some target
  pub from_inside : is_inside p (length source.cells) ≡ true
  pub to_inside : is_inside q (length target.cells) ≡ true
  pub writable : target.writable ≡ true
  pub is : d ≡ store_with c source p target q

abbrev pub fails : Result Cells Fault → Bool
fails (Ok c) = false
fails (Err f) = true

pub no_store : {P : Type 0} (f : Fault) (d : Cells) → Err f ≡ Ok d → P
no_store f d e = absurd (false≢true (sym (ap fails e)))

abbrev pub store_of : Cells → Result Cells Fault → Cells
store_of d (Ok c) = c
store_of d (Err f) = d

module _ (c d : Cells) (p q : Pointer) where
  made_to : (s t : Slot) → find p.instance c.live ≡ Some s → is_inside p (length s.cells) ≡ true → find q.instance c.live ≡ Some t → is_inside q (length t.cells) ≡ true
      → (w : Bool) → t.writable ≡ w → (if w then Ok (store_with c s p t q) else Err WriteLiteral) ≡ Ok d → Made c p q d
  made_to s t f a g b true w e = record { source = s; target = t; from = f; to = g; from_inside = a; to_inside = b; writable = w; is = sym (ap (store_of d) e) }
  made_to s t f a g b false w e = no_store WriteLiteral d e

  made_in : (s t : Slot) → find p.instance c.live ≡ Some s → is_inside p (length s.cells) ≡ true → find q.instance c.live ≡ Some t → (b : Bool) → is_inside q (length t.cells) ≡ b
      → copied_in c (Ok s) p (if b then Ok t else Err OutOfBounds) q ≡ Ok d → Made c p q d
  made_in s t f a g true b e = made_to s t f a g b t.writable refl e
  made_in s t f a g false b e = no_store OutOfBounds d e

  made_of : (s : Slot) → find p.instance c.live ≡ Some s → is_inside p (length s.cells) ≡ true → (o : Option Slot) → find q.instance c.live ≡ o → copied_in c (Ok s) p (element_in o q) q ≡ Ok d → Made c p q d
  made_of s f a None g e = no_store Dangling d e
  made_of s f a (Some t) g e = made_in s t f a g (is_inside q (length t.cells)) refl e

  made_from : (s : Slot) → find p.instance c.live ≡ Some s → (a : Bool) → is_inside p (length s.cells) ≡ a → copied_in c (if a then Ok s else Err OutOfBounds) p (element_of c.live q) q ≡ Ok d → Made c p q d
  made_from s f true a e = made_of s f a (find q.instance c.live) refl e
  made_from s f false a e = no_store OutOfBounds d e

  made_by : (o : Option Slot) → find p.instance c.live ≡ o → copied_in c (element_in o p) p (element_of c.live q) q ≡ Ok d → Made c p q d
  made_by None f e = no_store Dangling d e
  made_by (Some s) f e = made_from s f (is_inside p (length s.cells)) refl e

  pub made : copy_of c p q ≡ Ok d → Made c p q d
  made e = made_by (find p.instance c.live) refl e
