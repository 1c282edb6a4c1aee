-- What a stream holds after one write and then another.
use Rattle.std.proofs.Common.{◌≡◌, ℕ, ◌-◌, List, [], ◌++◌, length, take, drop, Option, Some, None, refl, sym, ap, ◌∙◌, subst, append_assoc, append-nil, take-append-drop}
use Rattle.std.proofs.lemmas.List.{take_rest}
use Rattle.std.specs.Io.KnownBytes.{Appends, Keeps}
use Rattle.atac_cli.specs.Streams.{Took}

pub nothing_yet : (a : Option (List ℕ)) (all : List ℕ) → Took a a all all
nothing_yet None all = ([], refl, tt)
nothing_yet (Some xs) all = ([], refl, sym (append-nil xs))

appends_on : (a b c : Option (List ℕ)) (xs ys : List ℕ) → Appends a b xs → Appends b c ys → Appends a c (xs ++ ys)
appends_on None b c xs ys p q = tt
appends_on (Some a) None c xs ys p q = elim p [ ]
appends_on (Some a) (Some b) None xs ys p q = elim q [ ]
appends_on (Some a) (Some b) (Some c) xs ys p q = q ∙ ap (λ z. z ++ ys) p ∙ append_assoc a xs ys

appends_kept : (a b c : Option (List ℕ)) (xs : List ℕ) → Appends a b xs → Keeps b c → Appends a c xs
appends_kept None b c xs p q = tt
appends_kept (Some a) None c xs p q = elim p [ ]
appends_kept (Some a) (Some b) None xs p q = elim q [ ]
appends_kept (Some a) (Some b) (Some c) xs p q = q ∙ p

-- a write took the first bytes of the rest
pub took_more : (a b c : Option (List ℕ)) (all rest : List ℕ) (n : ℕ) → Took a b all rest → Appends b c (take n rest) → Took a c all (take (length rest - n) (drop n rest))
took_more a b c all rest n (front, split, held) more =
    let cut : all ≡ (front ++ take n rest) ++ take (length rest - n) (drop n rest) =
    split ∙ ap (λ l. front ++ l) (sym (take-append-drop n rest)) ∙ sym (append_assoc front (take n rest) (drop n rest)) ∙ ap (λ l. (front ++ take n rest) ++ l) (sym (take_rest rest n)) in
    (front ++ take n rest, cut, appends_on a b c front (take n rest) held more)

-- a write took nothing, or the stream was flushed
pub took_no_more : (a b c : Option (List ℕ)) (all rest : List ℕ) → Took a b all rest → Keeps b c → Took a c all rest
took_no_more a b c all rest (front, split, held) same = (front, split, appends_kept a b c front held same)

-- nothing is left
pub took_all : (a b c : Option (List ℕ)) (all rest : List ℕ) → Took a b all rest → rest ≡ [] → Keeps b c → Appends a c all
took_all a b c all rest (front, split, held) none same =
    let whole : front ≡ all = sym (split ∙ ap (λ l. front ++ l) none ∙ append-nil front) in
    appends_kept a b c all (subst (Appends a b) whole held) same
