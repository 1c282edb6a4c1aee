-- The ends and the log of one run more.
use Rattle.std.proofs.Common.{◌≡◌, ℕ, ◌+◌, ◌<◌, List, [], ◌∷◌, ◌++◌, length, take, get_or, map, sym, ap, ◌∙◌, append-nil, Vec}
use Rattle.std.specs.Global.{Global}
use Rattle.std.proofs.lemmas.List.{take_more, map-append}
use Rattle.std.proofs.lemmas.Grind.{flat_map-append}
use Rattle.c_meaning.specs.Calls.{Source}
use Rattle.c_meaning.specs.Runs.{run}
use Rattle.probe_watch.specs.Logs.{bytes_in, end_of, ends_of, log_of}

inputs_more : (inputs : List (Vec ℕ Global)) (i : ℕ) (x : Vec ℕ Global) → i < length inputs → x ≡ get_or inputs i x → map bytes_in (take (i + 1) inputs) ≡ map bytes_in (take i inputs) ++ x.items ∷ []
inputs_more inputs i x h e = ap (map bytes_in) (take_more inputs i x h ∙ ap (λ y. take i inputs ++ y ∷ []) (sym e)) ∙ map-append bytes_in (take i inputs) (x ∷ [])

pub ends_more : (P : Source) (limit : ℕ) (inputs : List (Vec ℕ Global)) (i : ℕ) (x : Vec ℕ Global) → i < length inputs → x ≡ get_or inputs i x → ends_of P limit (map bytes_in (take (i + 1) inputs)) ≡ ends_of P limit (map bytes_in (take i inputs)) ++ end_of (run P x.items limit) ∷ []
ends_more P limit inputs i x h e = ap (ends_of P limit) (inputs_more inputs i x h e) ∙ map-append (λ input. end_of (run P input limit)) (map bytes_in (take i inputs)) (x.items ∷ [])

pub log_more : (P : Source) (limit : ℕ) (inputs : List (Vec ℕ Global)) (i : ℕ) (x : Vec ℕ Global) → i < length inputs → x ≡ get_or inputs i x → log_of P limit (map bytes_in (take (i + 1) inputs)) ≡ log_of P limit (map bytes_in (take i inputs)) ++ (run P x.items limit).log
log_more P limit inputs i x h e =
    ap (log_of P limit) (inputs_more inputs i x h e) ∙ flat_map-append (λ input. (run P input limit).log) (map bytes_in (take i inputs)) (x.items ∷ [])
    ∙ ap (λ l. log_of P limit (map bytes_in (take i inputs)) ++ l) (append-nil (run P x.items limit).log)
