-- What one event more does to what a group comes to.
use Rattle.std.specs.Global.{Box, Vec}
use Rattle.std.proofs.Common.{◌≡◌, ◌<◌, ◌-◌, inl, inr, ℕ, zero, suc, true, false, cond, ◌==◌, List, [], ◌∷◌, ◌++◌, length, get_or, replicate, set, Option, Some, None, refl, sym, ◌∙◌, ap, subst, arith, append_assoc}
use Rattle.std.specs.Prelude.{unwrap_or}
use Rattle.std.proofs.lemmas.Bool.{cases_Bool}
use Rattle.std.proofs.lemmas.List.{append-nil, get_or-set_same, get_or-set_other}
use Rattle.std.proofs.lemmas.Bool.Decides.{nat_tests}
use Rattle.image_device.specs.declared.event.Event.{Event}
use Rattle.image_device.specs.declared.event.Event.TheVariants.{Write, Put}
use Rattle.image_device.specs.History.{HistoryState, step, after}
use Rattle.image_device.specs.Image.{IsSector, put_at}
use Rattle.image_device.specs.View.{View}
use Rattle.image_device.proofs.Pushes.{after_push}
use Rattle.image_layout.specs.Ring.{ring_start}
use Rattle.image_layout.specs.declared.offset.Patch.{Patch}
use Rattle.intent_journal.specs.Batch.{IsBatch, with_patch}
use Rattle.intent_journal.specs.Home.{overlaid, is_journal}
use Rattle.intent_journal.proofs.Uses.{overlaid_with_patch}
use Rattle.gathering.specs.Gathered.{AreLastOfJournal, AreWhole, IsNet, ArePut, begun_on, journal_size}

-- the log has this event more
module _ (es new : List Event) (e : Event) (is : new ≡ es ++ e ∷ []) where
  pub pushed : (s : HistoryState) → after new s ≡ step (after es s) e
  pushed s = ap (λ (l : List Event). after l s) is ∙ after_push es s e

  -- an event that writes nothing
  module _ (still : (s : HistoryState) → (step s e).reads ≡ s.reads) where
    reads_kept : (s : HistoryState) (n : ℕ) → (after new s).reads n ≡ (after es s).reads n
    reads_kept s n = ap (λ (z : HistoryState). z.reads n) (pushed s) ∙ (λ i. still (after es s) i n)

    pub net_kept : (batch : List Patch) → IsNet es batch → IsNet new batch
    net_kept batch net s n out = reads_kept s n ∙ net s n out

    pub journal_kept : (last : List (Option (List ℕ))) → AreLastOfJournal es last → AreLastOfJournal new last
    journal_kept last newest s n inside = reads_kept s n ∙ newest s n inside

    pub whole_kept : (v : View) → AreWhole v es → AreWhole v new
    whole_kept v whole n = subst (λ (b : List ℕ). IsSector b) (sym (reads_kept (begun_on v) n)) (whole n)

  -- an event that puts nothing
  pub waits_kept : ((s : HistoryState) → (step s e).sent ≡ s.sent) → (bytes : List ℕ) → ArePut es bytes → ArePut new bytes
  waits_kept still bytes waits s = ap (λ (z : HistoryState). z.sent) (pushed s) ∙ still (after es s) ∙ waits s

-- a write
module _ (es new : List Event) (sector : ℕ) (box : Box (List ℕ)) (is : new ≡ es ++ Write sector box ∷ []) where
  reads_now : (s : HistoryState) (n : ℕ) → (after new s).reads n ≡ put_at sector box.value (after es s).reads n
  reads_now s n = ap (λ (z : HistoryState). z.reads n) (pushed es new (Write sector box) is s)

  -- of the journal
  pub net_journal : (batch : List Patch) → is_journal sector ≡ true → IsNet es batch → IsNet new batch
  net_journal batch inside net s n out =
      let away : (n == sector) ≡ false = apart n inside out in
      reads_now s n ∙ ap (λ b. cond b box.value ((after es s).reads n)) away ∙ net s n out
    where
      apart : (n : ℕ) → is_journal sector ≡ true → is_journal n ≡ false → (n == sector) ≡ false
      apart n i o = grind (arith, nat_tests)

  -- of another sector
  pub net_put : (batch : List Patch) (bytes : List ℕ) → IsBatch batch → box.value ≡ bytes → IsNet es batch → IsNet new (with_patch (record { sector = sector; bytes = bytes }) batch)
  net_put batch bytes was same net s n out =
      reads_now s n ∙ (λ i. cond (n == sector) (same i) (net s n out i))
      ∙ sym (overlaid_with_patch (record { sector = sector; bytes = bytes }) batch s.reads n was.distinct)

  -- of the journal: its sectors have it
  pub journal_written : (last now : List (Option (List ℕ))) (bytes : List ℕ) → box.value ≡ bytes → length last ≡ journal_size → is_journal sector ≡ true
      → now ≡ set last (sector - ring_start) (Some bytes) → AreLastOfJournal es last → AreLastOfJournal new now
  journal_written last now bytes same size written is newest s n inside = elim (cases_Bool (n == sector)) [
    | inl e ↦ reads_now s n ∙ ap (λ t. cond t box.value ((after es s).reads n)) e ∙ same ∙ sym (ap (λ (o : Option (List ℕ)). unwrap_or o (s.reads n)) (here e))
    | inr e ↦ reads_now s n ∙ ap (λ t. cond t box.value ((after es s).reads n)) e ∙ newest s n inside ∙ sym (ap (λ (o : Option (List ℕ)). unwrap_or o (s.reads n)) (elsewhere e))
  ]
    where
      equal : (n == sector) ≡ true → n ≡ sector
      equal e = grind (arith, nat_tests)

      within : (k : ℕ) → k ≡ journal_size → is_journal sector ≡ true → sector - ring_start < k
      within k full i = grind (arith, nat_tests)

      clash : (n : ℕ) → is_journal sector ≡ true → is_journal n ≡ true → (n == sector) ≡ false → n - ring_start ≡ sector - ring_start → ⊥
      clash n i j e at = grind (arith, nat_tests)

      here : (n == sector) ≡ true → get_or now (n - ring_start) None ≡ Some bytes
      here e =
          ap (λ (l : List (Option (List ℕ))). get_or l (n - ring_start) None) is ∙ ap (λ k. get_or (set last (sector - ring_start) (Some bytes)) (k - ring_start) None) (equal e)
          ∙ get_or-set_same last (sector - ring_start) (Some bytes) None (within (length last) size written)

      elsewhere : (n == sector) ≡ false → get_or now (n - ring_start) None ≡ get_or last (n - ring_start) None
      elsewhere e =
          ap (λ (l : List (Option (List ℕ))). get_or l (n - ring_start) None) is
          ∙ get_or-set_other last (sector - ring_start) (n - ring_start) (Some bytes) None (clash n written inside e)

  -- outside the journal: its sectors stay
  pub journal_apart : (last : List (Option (List ℕ))) → is_journal sector ≡ false → AreLastOfJournal es last → AreLastOfJournal new last
  journal_apart last out newest s n inside =
      let away : (n == sector) ≡ false = apart n out inside in
      reads_now s n ∙ ap (λ b. cond b box.value ((after es s).reads n)) away ∙ newest s n inside
    where
      apart : (n : ℕ) → is_journal sector ≡ false → is_journal n ≡ true → (n == sector) ≡ false
      apart n o i = grind (arith, nat_tests)

  pub whole_written : (v : View) → IsSector box.value → AreWhole v es → AreWhole v new
  whole_written v sector_whole whole n = subst (λ (b : List ℕ). IsSector b) (sym (reads_now (begun_on v) n)) (elim (cases_Bool (n == sector)) [
    | inl e ↦ subst (λ (b : List ℕ). IsSector b) (sym (ap (λ t. cond t box.value ((after es (begun_on v)).reads n)) e)) sector_whole
    | inr e ↦ subst (λ (b : List ℕ). IsSector b) (sym (ap (λ t. cond t box.value ((after es (begun_on v)).reads n)) e)) (whole n)
  ])

-- a put
pub waits_put : (es new : List Event) (piece : Vec ℕ) → new ≡ es ++ Put piece ∷ [] → (old waiting text : List ℕ) → piece.items ≡ text → waiting ≡ old ++ text → ArePut es old → ArePut new waiting
waits_put es new piece is old waiting text same grown waits s =
    ap (λ (z : HistoryState). z.sent) (pushed es new (Put piece) is s) ∙ (λ i. waits s i ++ same i) ∙ append_assoc s.sent old text ∙ ap (λ l. s.sent ++ l) (sym grown)

all_none : (k i : ℕ) → ◌≡◌ {A = Option (List ℕ)} (get_or (replicate k None) i None) None
all_none zero i = refl
all_none (suc k) zero = refl
all_none (suc k) (suc i) = all_none k i

-- no sector of the journal was written
pub none_kept : (last : List (Option (List ℕ))) → last ≡ replicate journal_size None → (n : ℕ) → get_or last (n - ring_start) None ≡ None
none_kept last empty n = ap (λ (l : List (Option (List ℕ))). get_or l (n - ring_start) None) empty ∙ all_none journal_size (n - ring_start)

-- nothing was done yet
module _ (es : List Event) (none : es ≡ []) where
  pub net_none : (batch : List Patch) → batch ≡ [] → IsNet es batch
  net_none batch empty s n out = ap (λ (l : List Event). (after l s).reads n) none ∙ ap (λ (ps : List Patch). overlaid ps s.reads n) (sym empty)

  pub journal_none : (last : List (Option (List ℕ))) → last ≡ replicate journal_size None → AreLastOfJournal es last
  journal_none last empty s n inside = ap (λ (l : List Event). (after l s).reads n) none ∙ sym (ap (λ (o : Option (List ℕ)). unwrap_or o (s.reads n)) (none_kept last empty n))

  pub waits_none : (bytes : List ℕ) → bytes ≡ [] → ArePut es bytes
  waits_none bytes empty s = ap (λ (l : List Event). (after l s).sent) none ∙ sym (append-nil s.sent) ∙ ap (λ b. s.sent ++ b) (sym empty)
