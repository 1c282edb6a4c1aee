-- One function, one call, one byte and one input more.
use Rattle.std.proofs.Common.{◌≡◌, ℕ, ◌+◌, List, [], ◌∷◌, ◌++◌, refl, sym, ap, ◌∙◌, append_assoc, append-nil, add-one, map, Vec}
use Rattle.std.specs.Global.{Global}
use Rattle.std.proofs.lemmas.List.{map-append}
use Rattle.atac_self.specs.Inputs.{bytes_in}
use Rattle.atac_self.specs.Draws.{next, drawn}
use Rattle.atac_self.specs.Generation.{Drawn, body, function_line, functions, call_text, calls, bytes, inputs}

functions_none : (seed : ℕ) → functions 0 seed ≡ record { is = []; state = seed }
unfolding functions
functions_none seed = refl

functions_more : (i seed : ℕ) → functions (i + 1) seed ≡ record { is = (functions i seed).is ++ function_line (i + 1) (body (functions i seed).state).is; state = (body (functions i seed).state).state }
unfolding functions
functions_more i seed = rw add-one refl

calls_none : calls 0 ≡ []
unfolding calls
calls_none = refl

calls_more : (i : ℕ) → calls (i + 1) ≡ calls i ++ call_text (i + 1)
unfolding calls
calls_more i = rw add-one refl

bytes_none : (state : ℕ) → bytes 0 state ≡ record { is = []; state = state }
unfolding bytes
bytes_none state = refl

bytes_more : (n state : ℕ) → bytes (n + 1) state ≡ record { is = (bytes n state).is ++ drawn (next (bytes n state).state) 256 ∷ []; state = next (bytes n state).state }
unfolding bytes
bytes_more n state = rw add-one refl

inputs_none : (state : ℕ) → inputs 0 state ≡ record { is = []; state = state }
unfolding inputs
inputs_none state = refl

inputs_more : (n state : ℕ) → inputs (n + 1) state ≡ record { is = (inputs n state).is ++ (bytes 16 (inputs n state).state).is ∷ []; state = (bytes 16 (inputs n state).state).state }
unfolding inputs
inputs_more n state = rw add-one refl

-- ---- loops: at their start, and one step on

pub functions_start : (old : List ℕ) (seed : ℕ) → (old ≡ old ++ (functions 0 seed).is) × (seed ≡ (functions 0 seed).state)
functions_start old seed = (sym (ap (λ (d : Drawn (List ℕ)). old ++ d.is) (functions_none seed) ∙ append-nil old), sym (ap (λ (d : Drawn (List ℕ)). d.state) (functions_none seed)))

pub functions_step : (old text new : List ℕ) (i seed state after : ℕ) → text ≡ old ++ (functions i seed).is → state ≡ (functions i seed).state → new ≡ text ++ function_line (i + 1) (body state).is → after ≡ (body state).state → (new ≡ old ++ (functions (i + 1) seed).is) × (after ≡ (functions (i + 1) seed).state)
functions_step old text new i seed state after e f g h = (
  g ∙ ap (λ t. t ++ function_line (i + 1) (body state).is) e ∙ ap (λ n. (old ++ (functions i seed).is) ++ function_line (i + 1) (body n).is) f
      ∙ append_assoc old (functions i seed).is (function_line (i + 1) (body (functions i seed).state).is) ∙ ap (λ (d : Drawn (List ℕ)). old ++ d.is) (sym (functions_more i seed)),
  h ∙ ap (λ n. (body n).state) f ∙ ap (λ (d : Drawn (List ℕ)). d.state) (sym (functions_more i seed)),
)

pub calls_start : (old : List ℕ) → old ≡ old ++ calls 0
calls_start old = sym (ap (λ c. old ++ c) calls_none ∙ append-nil old)

pub calls_step : (old text new : List ℕ) (i : ℕ) → text ≡ old ++ calls i → new ≡ text ++ call_text (i + 1) → new ≡ old ++ calls (i + 1)
calls_step old text new i e g = g ∙ ap (λ t. t ++ call_text (i + 1)) e ∙ append_assoc old (calls i) (call_text (i + 1)) ∙ ap (λ c. old ++ c) (sym (calls_more i))

pub bytes_start : (state : ℕ) → ([] ≡ (bytes 0 state).is) × (state ≡ (bytes 0 state).state)
bytes_start state = (sym (ap (λ (d : Drawn (List ℕ)). d.is) (bytes_none state)), sym (ap (λ (d : Drawn (List ℕ)). d.state) (bytes_none state)))

pub bytes_step : (old new : List ℕ) (n first state after b : ℕ) → old ≡ (bytes n first).is → state ≡ (bytes n first).state → after ≡ next state → b ≡ drawn after 256 → new ≡ old ++ b ∷ [] → (new ≡ (bytes (n + 1) first).is) × (after ≡ (bytes (n + 1) first).state)
bytes_step old new n first state after b e f g h k = (
  k ∙ ap (λ t. t ++ b ∷ []) e ∙ ap (λ x. (bytes n first).is ++ x ∷ []) (h ∙ ap (λ s. drawn s 256) (g ∙ ap next f)) ∙ ap (λ (d : Drawn (List ℕ)). d.is) (sym (bytes_more n first)),
  g ∙ ap next f ∙ ap (λ (d : Drawn (List ℕ)). d.state) (sym (bytes_more n first)),
)

pub inputs_start : (state : ℕ) → ([] ≡ (inputs 0 state).is) × (state ≡ (inputs 0 state).state)
inputs_start state = (sym (ap (λ (d : Drawn (List (List ℕ))). d.is) (inputs_none state)), sym (ap (λ (d : Drawn (List (List ℕ))). d.state) (inputs_none state)))

pub inputs_step : (old new : List (Vec ℕ Global)) (last : Vec ℕ Global) (n first state after : ℕ) → map bytes_in old ≡ (inputs n first).is → state ≡ (inputs n first).state → last.items ≡ (bytes 16 state).is → after ≡ (bytes 16 state).state → new ≡ old ++ last ∷ [] → (map bytes_in new ≡ (inputs (n + 1) first).is) × (after ≡ (inputs (n + 1) first).state)
inputs_step old new last n first state after e f g h k = (
  ap (map bytes_in) k ∙ map-append bytes_in old (last ∷ []) ∙ ap (λ t. t ++ last.items ∷ []) e ∙ ap (λ x. (inputs n first).is ++ x ∷ []) (g ∙ ap (λ s. (bytes 16 s).is) f) ∙ ap (λ (d : Drawn (List (List ℕ))). d.is) (sym (inputs_more n first)),
  h ∙ ap (λ s. (bytes 16 s).state) f ∙ ap (λ (d : Drawn (List (List ℕ))). d.state) (sym (inputs_more n first)),
)

-- ---- three parts, one behind the other

pub three_parts : (start one two three head middle tail : List ℕ) → one ≡ start ++ head → two ≡ one ++ middle → three ≡ two ++ tail → three ≡ start ++ (head ++ (middle ++ tail))
three_parts start one two three head middle tail e f g =
    g ∙ ap (λ t. t ++ tail) f ∙ ap (λ t. (t ++ middle) ++ tail) e ∙ append_assoc (start ++ head) middle tail ∙ append_assoc start head (middle ++ tail)
