-- The bytes that a batch has for a sector.
use Rattle.std.proofs.Common.{◌≡◌, inl, inr, ℕ, suc, ◌<◌, ◌==◌, not, Bool, true, false, nat_lt, List, [], ◌∷◌, length, get_or, refl, sym, ◌∙◌, ap, arith, Option, Some, None, position}
use Rattle.std.specs.Prelude.{IfNone, is_some}
use Rattle.std.specs.List.{position_or_len}
use Rattle.std.proofs.lemmas.Bool.{cases_Bool}
use Rattle.std.proofs.lemmas.Bool.Decides.{nat_tests}
use Rattle.image_device.specs.Image.{Image, put_at}
use Rattle.image_layout.specs.declared.offset.Patch.{Patch}
use Rattle.intent_journal.specs.Batch.{has_home, homes_of}
use Rattle.intent_journal.specs.Home.{overlaid}
use Rattle.intent_journal.proofs.Bools.{and_true_parts, not_true, equal_numbers}
use Rattle.intent_journal.proofs.Overlays.{overlaid_missed, put_here}
use Rattle.intent_journal.proofs.Puts.{put_held, put_new}
use Rattle.tsd_model.specs.World.{are_apart}

abbrev pub is_at : ℕ → Patch → Bool
is_at sector p = p.sector == sector

found_by : (sector : ℕ) (ps : List Patch) (x : Image) (d : Patch) → are_apart (homes_of ps) ≡ true → position_or_len (is_at sector) ps < length ps
    → overlaid ps x sector ≡ (get_or ps (position_or_len (is_at sector) ps) d).bytes
found_by sector [] x d apart less = absurd (omega arith)
found_by sector (q ∷ qs) x d apart less =
    let parts = and_true_parts (not (has_home qs q.sector)) (are_apart (homes_of qs)) apart in
    elim (cases_Bool (q.sector == sector)) [
      | inl e ↦
          let first : position_or_len (is_at sector) (q ∷ qs) ≡ 0 = rw e refl in
          let same : q.sector ≡ sector = equal_numbers q.sector sector e in
          let missed : has_home qs sector ≡ false = ap (has_home qs) (sym same) ∙ not_true (has_home qs q.sector) parts.0 in
          let here : (sector == q.sector) ≡ true = turned q.sector same in
          rw first (overlaid_missed qs (put_at q.sector q.bytes x) sector missed ∙ put_here q.sector q.bytes x sector here)
      | inr e ↦
          let deeper : position_or_len (is_at sector) (q ∷ qs) ≡ suc (position_or_len (is_at sector) qs) = rw e (omega arith) in
          rw deeper (found_by sector qs (put_at q.sector q.bytes x) d parts.1 (omega arith))
    ]
  where
    turned : (k : ℕ) → k ≡ sector → (sector == k) ≡ true
    turned k same = grind (arith, nat_tests)

-- a sector that is found has the bytes that were found
pub found_at : (sector : ℕ) (ps : List Patch) (i : ℕ) (d : Patch) → are_apart (homes_of ps) ≡ true → position (is_at sector) ps ≡ Some i
    → (x : Image) → overlaid ps x sector ≡ (get_or ps i d).bytes
found_at sector ps i d apart is x = elim (cases_Bool (nat_lt (position_or_len (is_at sector) ps) (length ps))) [
  | inl e ↦
      let here : ◌≡◌ {A = Option ℕ} (Some (position_or_len (is_at sector) ps)) (Some i) = rw e at is in
      let at : position_or_len (is_at sector) ps ≡ i = cc in
      let within : position_or_len (is_at sector) ps < length ps = grind (arith, nat_tests) in
      found_by sector ps x d apart within ∙ ap (λ k. (get_or ps k d).bytes) at
  | inr e ↦ let nowhere : ◌≡◌ {A = Option ℕ} None (Some i) = rw e at is in absurd (cc)
]

-- one that isn't found stays
pub found_nowhere : (sector : ℕ) (ps : List Patch) → position (is_at sector) ps ≡ None → (x : Image) → overlaid ps x sector ≡ x sector
found_nowhere sector ps is x = overlaid_missed ps x sector (put_new (record { sector = sector; bytes = [] }) ps is).1

-- what follows where there is none
pub if_none_then : {X P Q : Type 0} (r : Option X) → IfNone r P → (P → Q) → IfNone r Q
if_none_then None p then = then p
if_none_then (Some x) p then = tt

-- a home that is found is held
held_by : (sector : ℕ) (ps : List Patch) (o : Option ℕ) → position (is_at sector) ps ≡ o → is_some o ≡ true → has_home ps sector ≡ true
held_by sector ps (Some i) is here = (put_held (record { sector = sector; bytes = [] }) ps i is).1
held_by sector ps None is here = absurd (cc)

pub found_held : (sector : ℕ) (ps : List Patch) (o : Option ℕ) → o ≡ position (is_at sector) ps → is_some o ≡ true → has_home ps sector ≡ true
found_held sector ps o is here = held_by sector ps o (sym is) here
