-- The crash image that a station is turned into.
use Rattle.std.proofs.Common.{◌≡◌, inl, inr, ℕ, true, false, cond, List, [], length, replicate, Option, Some, None, option_map, refl, sym, ◌∙◌, ap, subst, arith}
use Rattle.std.proofs.lemmas.Bool.{cases_Bool}
use Rattle.std.proofs.lemmas.Bool.Decides.{nat_tests}
use Rattle.image_device.specs.declared.cell.Cell.{Cell}
use Rattle.image_device.specs.declared.cell.Pick.{Pick}
use Rattle.image_device.specs.declared.cell.Pick.TheVariants.{Old, New, Torn}
use Rattle.image_device.specs.declared.event.Event.{Event}
use Rattle.image_device.specs.Image.{IsSector, IsImage, zeros}
use Rattle.image_device.specs.History.{HistoryState, after}
use Rattle.image_device.specs.Cells.{FoundCells, blank, cell_or_blank, is_loose, held, picked, left_in, settled_cell, begun, standing, IsWholeCell, FitsPick}
use Rattle.image_device.proofs.Sectors.{torn_whole}

-- a sector never written stays so
blank_settled : (pick : Pick) (synced : ℕ) → blank ≡ settled_cell pick synced blank
blank_settled pick synced =
    let firm : is_loose synced blank ≡ false = grind (arith, nat_tests) in
    let same : zeros ≡ left_in pick synced blank = sym (ap (λ b. cond b (picked pick blank) zeros) firm) in
    ap (λ (l : List ℕ). record { start = l; firm = l; last = l; written = 0 }) same

settled_or_blank : (pick : Pick) (synced : ℕ) (o : Option Cell) → cell_or_blank (option_map (settled_cell pick synced) o) ≡ settled_cell pick synced (cell_or_blank o)
settled_or_blank pick synced None = blank_settled pick synced
settled_or_blank pick synced (Some c) = refl

picked_whole : (pick : Pick) (events : ℕ) (c : Cell) → FitsPick pick → IsWholeCell events c → IsSector (picked pick c)
picked_whole Old events c fits w = w.firm
picked_whole New events c fits w = w.last
picked_whole (Torn b) events c fits w = torn_whole b fits

left_whole : (pick : Pick) (synced events : ℕ) (c : Cell) → FitsPick pick → IsWholeCell events c → IsSector (left_in pick synced c)
left_whole pick synced events c fits w = elim (cases_Bool (is_loose synced c)) [
  | inl h ↦ subst (λ b. IsSector (cond b (picked pick c) c.last)) (sym h) (picked_whole pick events c fits w)
  | inr h ↦ subst (λ b. IsSector (cond b (picked pick c) c.last)) (sym h) w.last
]

-- a station had these cells and events, and each cell is made what a crash leaves in it
module _ (pick : Pick) (synced : ℕ) (old new : FoundCells) (settles : (n : ℕ) → new n ≡ option_map (settled_cell pick synced) (old n)) where
  cell_at : (n : ℕ) → cell_or_blank (new n) ≡ settled_cell pick synced (cell_or_blank (old n))
  cell_at n = ap cell_or_blank (settles n) ∙ settled_or_blank pick synced (old n)

  cells : ◌≡◌ {A = ℕ → Cell} (λ n. cell_or_blank (new n)) (λ n. settled_cell pick synced (cell_or_blank (old n)))
  cells i n = cell_at n i

  pub settled_whole : (events : ℕ) (es : List Event) → FitsPick pick → ((n : ℕ) → IsWholeCell events (cell_or_blank (old n))) → (n : ℕ) → IsWholeCell (length es) (cell_or_blank (new n))
  settled_whole events es fits all n =
      let left : IsSector (left_in pick synced (cell_or_blank (old n))) = left_whole pick synced events (cell_or_blank (old n)) fits (all n) in
      subst (λ (c : Cell). IsWholeCell (length es) c) (sym (cell_at n)) (record { last = left; firm = left; within = omega arith })

  pub settled_agrees : (es : List Event) (sent : List ℕ) → es ≡ [] → sent ≡ [] → after es (begun new) ≡ standing new 0 sent
  settled_agrees es sent none nothing =
      let start : (ℕ → Cell) → HistoryState = λ c. record { reads = λ n. (c n).start; synced = λ n. (c n).start; loose = λ n. false; sent = [] } in
      let stand : (ℕ → Cell) → HistoryState = λ c. record { reads = λ n. (c n).last; synced = λ n. held 0 (c n); loose = λ n. is_loose 0 (c n); sent = [] } in
      ap (λ l. after l (begun new)) none ∙ ap start cells ∙ sym (ap stand cells) ∙ sym (ap (standing new 0) nothing)

  -- what the new station reads as
  module _ (es : List Event) (none : es ≡ []) where
    reads_at : (n : ℕ) → (after es (begun new)).reads n ≡ left_in pick synced (cell_or_blank (old n))
    reads_at n = ap (λ l. (after l (begun new)).reads n) none ∙ ap (λ (c : Cell). c.start) (cell_at n)

    pub settled_firm : (n : ℕ) → (after es (begun new)).loose n ≡ false
    settled_firm n = ap (λ l. (after l (begun new)).loose n) none

    pub settled_sent : (after es (begun new)).sent ≡ []
    settled_sent = ap (λ l. (after l (begun new)).sent) none

    module _ (old_es : List Event) (sent : List ℕ) (agrees : after old_es (begun old) ≡ standing old synced sent) where
      pub settled_image : (events : ℕ) → FitsPick pick → ((n : ℕ) → IsWholeCell events (cell_or_blank (old n))) → IsImage (after old_es (begun old)).reads (after old_es (begun old)).loose (after es (begun new)).reads
      settled_image events fits all = record {
        agrees = λ n h.
            reads_at n ∙ ap (λ b. cond b (picked pick (cell_or_blank (old n))) (cell_or_blank (old n)).last) (sym (ap (λ (s : HistoryState). s.loose n) agrees) ∙ h)
            ∙ sym (ap (λ (s : HistoryState). s.reads n) agrees);
        whole = λ n. subst IsSector (sym (reads_at n)) (left_whole pick synced events (cell_or_blank (old n)) fits (all n));
      }

      pub settled_old : pick ≡ Old → (after es (begun new)).reads ≡ (after old_es (begun old)).synced
      settled_old is i n = (reads_at n ∙ ap (λ p. left_in p synced (cell_or_blank (old n))) is ∙ sym (ap (λ (s : HistoryState). s.synced n) agrees)) i

      newest : (c : Cell) → left_in New synced c ≡ c.last
      newest c = elim (cases_Bool (is_loose synced c)) [
        | inl h ↦ ap (λ b. cond b c.last c.last) h
        | inr h ↦ ap (λ b. cond b c.last c.last) h
      ]

      pub settled_new : pick ≡ New → (after es (begun new)).reads ≡ (after old_es (begun old)).reads
      settled_new is i n = (reads_at n ∙ ap (λ p. left_in p synced (cell_or_blank (old n))) is ∙ newest (cell_or_blank (old n)) ∙ sym (ap (λ (s : HistoryState). s.reads n) agrees)) i

      pub settled_torn : (b : ℕ) → pick ≡ Torn b → (n : ℕ) → (after old_es (begun old)).loose n ≡ true → (after es (begun new)).reads n ≡ replicate 512 b
      settled_torn b is n h =
          reads_at n ∙ ap (λ p. left_in p synced (cell_or_blank (old n))) is
          ∙ ap (λ t. cond t (replicate 512 b) (cell_or_blank (old n)).last) (sym (ap (λ (s : HistoryState). s.loose n) agrees) ∙ h)
