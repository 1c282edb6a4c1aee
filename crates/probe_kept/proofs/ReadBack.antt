-- What is written of a program with its probes is read as that program but for places.
use Rattle.std.proofs.Common.{◌≡◌, ℕ, List, [], ◌∷◌, map, Option, Some, None, Bool, is_some, refl, sym, ap, subst, ◌∙◌}
use Rattle.c_syntax.specs.declared.token.TokenKind.{TokenKind}
use Rattle.c_syntax.specs.Forms.{kinds_of}
use Rattle.c_syntax.specs.Grammar.{tokens_of}
use Rattle.c_syntax.specs.Shape.{UnitShape}
use Rattle.c_tables.specs.Tables.{TablesShape}
use Rattle.c_tree.specs.declared.meaning.Complaint.{Complaint}
use Rattle.c_tree.specs.Units.{type_unit, typed_unit, bodies, complaints}
use Rattle.c_tree.specs.Unnoted.{bare_unit}
use Rattle.c_tree.proofs.Programs.{program_lexed}
use Rattle.c_placing.specs.Unplaced.{unplaced, EqualButForPlaces}
use Rattle.c_unplaced.specs.Unplaced.{unplaced_complaint, unplaced_state}
use Rattle.c_unplaced.proofs.Units.{unit_typed}
use Rattle.probe_parsed.specs.Parsed.{IsParsed}
use Rattle.probe_parsed.proofs.Parsed.{instrumented_is_parsed}
use Rattle.probe_rules.specs.Instrumented.{instrumented}
use Rattle.probe_text.specs.Text.{placed, text_in}
use Rattle.probe_programs.specs.Programs.{IsTypedAs}
use Rattle.probe_programs.proofs.Digests.{digest_bytes}
use Rattle.probe_programs.proofs.Whole.{shaped_program, probed_is_typed}
use Rattle.probe_kept.specs.ReadBack.{ReadsAs, WrittenReadsBack}

-- ---- units that are equal but for places are typed alike

units_alike : (k : Option (List Bool)) (u v : UnitShape) → EqualButForPlaces u v → unplaced (type_unit k u).unit ≡ unplaced (type_unit k v).unit
units_alike k u v e = sym (unit_typed k u).0 ∙ (ap (λ w. (type_unit k w).unit) e ∙ (unit_typed k v).0)

states_alike : (k : Option (List Bool)) (u v : UnitShape) → EqualButForPlaces u v → unplaced_state (type_unit k u).state ≡ unplaced_state (type_unit k v).state
states_alike k u v e = sym (unit_typed k u).1 ∙ (ap (λ w. (type_unit k w).state) e ∙ (unit_typed k v).1)

bodies_alike : (u v : UnitShape) → EqualButForPlaces u v → bodies u ≡ bodies v
bodies_alike u v e = ap (λ s. map (λ f. is_some f.defined) s.tables.functions) (states_alike None u v e)

abbrev HasComplaint : List Complaint → Type 0
HasComplaint [] = ⊥
HasComplaint (c ∷ cs) = Unit {0}

none_left : (cs : List Complaint) → map unplaced_complaint cs ≡ [] → cs ≡ []
none_left [] e = refl
none_left (c ∷ cs) e = absurd (subst HasComplaint e tt)

-- ---- the whole

typed_as : (u v : UnitShape) → EqualButForPlaces v (bare_unit u) → typed_unit v ≡ type_unit (Some (bodies (bare_unit u))) v
typed_as u v e = ap (λ b. type_unit (Some b) v) (bodies_alike v (bare_unit u) e)

kinds_placed : (ks : List TokenKind) → kinds_of (map placed ks) ≡ ks
kinds_placed [] = refl
kinds_placed (k ∷ ks) = ap (λ rest. k ∷ rest) (kinds_placed ks)

read_as : (source : List ℕ) (u : UnitShape) (t : TablesShape) → IsParsed source u → IsTypedAs u t → ReadsAs source u t
read_as source u t parsed typed =
    let v = parsed.unit in
    let b = bare_unit u in
    let k = Some (bodies b) in
    let e = parsed.equal in
    record {
      unit = (typed_unit v).unit;
      equal = ap (λ x. unplaced x.unit) (typed_as u v e) ∙ (units_alike k v b e ∙ ap unplaced typed.unit);
      read = record {
        unit = v;
        written = record { tokens = parsed.tokens; given = parsed.read; shaped = parsed.shaped; placed = parsed.placed };
        typed = record {
          unit = refl;
          tables = sym (ap (λ x. x.state.tables) (typed_as u v e) ∙ (ap (λ s. s.tables) (states_alike k v b e) ∙ typed.tables));
          clean = none_left (complaints v) (ap (λ x. map unplaced_complaint x.state.complaints) (typed_as u v e) ∙ (ap (λ s. s.complaints) (states_alike k v b e) ∙ ap (map unplaced_complaint) typed.clean));
        };
      };
    }

pub written_reads_back : WrittenReadsBack
written_reads_back digest P spelled is fits =
    let q = (instrumented digest P).unit in
    let ts = map placed (tokens_of q) in
    read_as (text_in q) q P.tables
    (instrumented_is_parsed digest P ts (record { bytes = digest_bytes digest spelled; plain = is.plain; few = is.few; lexed = program_lexed P.unit P.tables is.program; shaped = shaped_program P is.program; within = record { few = fits.tokens; short = fits.bytes } }) (kinds_placed (tokens_of q)))
    (probed_is_typed digest P spelled is)
