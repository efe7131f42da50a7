-- The cells of a station against the history of its events.
use Rattle.std.specs.Global.{Box, Vec}
use Rattle.std.proofs.Common.{◌≡◌, inl, inr, ℕ, ◌+◌, ◌<◌, ◌≤◌, nat_eq, true, false, cond, ◌==◌, ◌||◌, List, [], ◌∷◌, ◌++◌, length, Some, None, refl, sym, ◌∙◌, ap, subst, arith, length-append}
use Rattle.std.proofs.lemmas.Bool.{cases_Bool, lt-ltb}
use Rattle.std.proofs.lemmas.Bool.Decides.{nat_tests}
use Rattle.image_device.specs.declared.cell.Cell.{Cell}
use Rattle.image_device.specs.declared.event.Event.{Event}
use Rattle.image_device.specs.declared.event.Event.TheVariants.{Write, Sync, Put, Poke}
use Rattle.image_device.specs.Image.{IsSector, put_at}
use Rattle.image_device.specs.History.{step, after, loosened, firmed}
use Rattle.image_device.specs.Cells.{FoundCells, cell_or_blank, is_loose, held, written_cell, poked_cell, begun, standing, updated, IsWholeCell, IsEventKept, IsSame}
use Rattle.image_device.proofs.Pushes.{after_push}

here : (sector n : ℕ) → (n == sector) ≡ true → nat_eq sector n ≡ true
here sector n h = grind (arith, nat_tests)

away : (sector n : ℕ) → (n == sector) ≡ false → nat_eq sector n ≡ false
away sector n h = grind (arith, nat_tests)

-- what a cell tells, at that sector and at each other
module _ {A : Type 0} (tell : Cell → A) (sector : ℕ) (c : Cell) (found : FoundCells) (n : ℕ) where
  tells_here : (n == sector) ≡ true → tell (cell_or_blank (updated sector c found n)) ≡ tell c
  tells_here h = ap (λ b. tell (cell_or_blank (cond b (Some c) (found n)))) (here sector n h)

  tells_away : (n == sector) ≡ false → tell (cell_or_blank (updated sector c found n)) ≡ tell (cell_or_blank (found n))
  tells_away h = ap (λ b. tell (cell_or_blank (cond b (Some c) (found n)))) (away sector n h)

-- where the new cell has the same start, the station began the same
pub begun_updated : (sector : ℕ) (c : Cell) (found : FoundCells) → c.start ≡ (cell_or_blank (found sector)).start → begun (updated sector c found) ≡ begun found
begun_updated sector c found same i = record { reads = λ n. start n i; synced = λ n. start n i; loose = λ n. false; sent = [] }
  where
    start : (n : ℕ) → (cell_or_blank (updated sector c found n)).start ≡ (cell_or_blank (found n)).start
    start n = elim (cases_Bool (n == sector)) [
      | inl h ↦
          let e : n ≡ sector = grind (arith, nat_tests) in
          tells_here (λ d. d.start) sector c found n h ∙ same ∙ sym (ap (λ (k : ℕ). (cell_or_blank (found k)).start) e)
      | inr h ↦ tells_away (λ d. d.start) sector c found n h
    ]

-- a write
standing_written : (found : FoundCells) (synced number sector : ℕ) (box : Box (List ℕ)) (sent : List ℕ) → synced < number
    → step (standing found synced sent) (Write sector box) ≡ standing (updated sector (written_cell synced number box.value (cell_or_blank (found sector))) found) synced sent
standing_written found synced number sector box sent less i = record { reads = λ n. reads n i; synced = λ n. firm n i; loose = λ n. loose n i; sent = sent }
  where
    c : Cell
    c = written_cell synced number box.value (cell_or_blank (found sector))

    new : is_loose synced c ≡ true
    new = lt-ltb synced number less

    reads : (n : ℕ) → put_at sector box.value (λ k. (cell_or_blank (found k)).last) n ≡ (cell_or_blank (updated sector c found n)).last
    reads n = elim (cases_Bool (n == sector)) [
      | inl h ↦ ap (λ b. cond b box.value (cell_or_blank (found n)).last) h ∙ sym (tells_here (λ d. d.last) sector c found n h)
      | inr h ↦ ap (λ b. cond b box.value (cell_or_blank (found n)).last) h ∙ sym (tells_away (λ d. d.last) sector c found n h)
    ]

    firm : (n : ℕ) → held synced (cell_or_blank (found n)) ≡ held synced (cell_or_blank (updated sector c found n))
    firm n = elim (cases_Bool (n == sector)) [
      | inl h ↦
          let e : n ≡ sector = grind (arith, nat_tests) in
          ap (λ (k : ℕ). held synced (cell_or_blank (found k))) e ∙ sym (tells_here (held synced) sector c found n h ∙ ap (λ b. cond b c.firm c.last) new)
      | inr h ↦ sym (tells_away (held synced) sector c found n h)
    ]

    loose : (n : ℕ) → loosened sector (λ k. is_loose synced (cell_or_blank (found k))) n ≡ is_loose synced (cell_or_blank (updated sector c found n))
    loose n = elim (cases_Bool (n == sector)) [
      | inl h ↦ ap (λ b. b || is_loose synced (cell_or_blank (found n))) h ∙ sym (tells_here (is_loose synced) sector c found n h ∙ new)
      | inr h ↦ ap (λ b. b || is_loose synced (cell_or_blank (found n))) h ∙ sym (tells_away (is_loose synced) sector c found n h)
    ]

-- the same of bytes that are those of the box
pub standing_written_as : (found : FoundCells) (synced number sector : ℕ) (box : Box (List ℕ)) (bytes : List ℕ) (sent : List ℕ) → box.value ≡ bytes → synced < number
    → step (standing found synced sent) (Write sector box) ≡ standing (updated sector (written_cell synced number bytes (cell_or_blank (found sector))) found) synced sent
standing_written_as found synced number sector box bytes sent same less =
    standing_written found synced number sector box sent less ∙ ap (λ b. standing (updated sector (written_cell synced number b (cell_or_blank (found sector))) found) synced sent) same

-- a poke
standing_poked : (found : FoundCells) (synced sector : ℕ) (box : Box (List ℕ)) (sent : List ℕ)
    → step (standing found synced sent) (Poke sector box) ≡ standing (updated sector (poked_cell box.value (cell_or_blank (found sector))) found) synced sent
standing_poked found synced sector box sent i = record { reads = λ n. reads n i; synced = λ n. firm n i; loose = λ n. loose n i; sent = sent }
  where
    c : Cell
    c = poked_cell box.value (cell_or_blank (found sector))

    old : is_loose synced c ≡ false
    old = grind (arith, nat_tests)

    reads : (n : ℕ) → put_at sector box.value (λ k. (cell_or_blank (found k)).last) n ≡ (cell_or_blank (updated sector c found n)).last
    reads n = elim (cases_Bool (n == sector)) [
      | inl h ↦ ap (λ b. cond b box.value (cell_or_blank (found n)).last) h ∙ sym (tells_here (λ d. d.last) sector c found n h)
      | inr h ↦ ap (λ b. cond b box.value (cell_or_blank (found n)).last) h ∙ sym (tells_away (λ d. d.last) sector c found n h)
    ]

    firm : (n : ℕ) → put_at sector box.value (λ k. held synced (cell_or_blank (found k))) n ≡ held synced (cell_or_blank (updated sector c found n))
    firm n = elim (cases_Bool (n == sector)) [
      | inl h ↦ ap (λ b. cond b box.value (held synced (cell_or_blank (found n)))) h ∙ sym (tells_here (held synced) sector c found n h ∙ ap (λ b. cond b c.firm c.last) old)
      | inr h ↦ ap (λ b. cond b box.value (held synced (cell_or_blank (found n)))) h ∙ sym (tells_away (held synced) sector c found n h)
    ]

    loose : (n : ℕ) → firmed sector (λ k. is_loose synced (cell_or_blank (found k))) n ≡ is_loose synced (cell_or_blank (updated sector c found n))
    loose n = elim (cases_Bool (n == sector)) [
      | inl h ↦ ap (λ b. cond b false (is_loose synced (cell_or_blank (found n)))) h ∙ sym (tells_here (is_loose synced) sector c found n h ∙ old)
      | inr h ↦ ap (λ b. cond b false (is_loose synced (cell_or_blank (found n)))) h ∙ sym (tells_away (is_loose synced) sector c found n h)
    ]

pub standing_poked_as : (found : FoundCells) (synced sector : ℕ) (box : Box (List ℕ)) (bytes : List ℕ) (sent : List ℕ) → box.value ≡ bytes
    → step (standing found synced sent) (Poke sector box) ≡ standing (updated sector (poked_cell bytes (cell_or_blank (found sector))) found) synced sent
standing_poked_as found synced sector box bytes sent same = standing_poked found synced sector box sent ∙ ap (λ b. standing (updated sector (poked_cell b (cell_or_blank (found sector))) found) synced sent) same

-- a sync, behind which stand all events
pub standing_synced : (found : FoundCells) (synced number : ℕ) (sent : List ℕ) → ((n : ℕ) → (cell_or_blank (found n)).written ≤ number)
    → step (standing found synced sent) Sync ≡ standing found number sent
standing_synced found synced number sent within i = record { reads = λ n. (cell_or_blank (found n)).last; synced = λ n. firm n i; loose = λ n. loose n i; sent = sent }
  where
    old : (n : ℕ) → is_loose number (cell_or_blank (found n)) ≡ false
    old n = let le = within n in grind (arith, nat_tests)

    firm : (n : ℕ) → (cell_or_blank (found n)).last ≡ held number (cell_or_blank (found n))
    firm n = sym (ap (λ b. cond b (cell_or_blank (found n)).firm (cell_or_blank (found n)).last) (old n))

    loose : (n : ℕ) → false ≡ is_loose number (cell_or_blank (found n))
    loose n = sym (old n)

-- the cells are whole
pub whole_later : (few many : ℕ) (c : Cell) → few ≤ many → IsWholeCell few c → IsWholeCell many c
whole_later few many c le w = record { last = w.last; firm = w.firm; within = omega (arith, w.within) }

pub whole_updated : (few many sector : ℕ) (c : Cell) (found : FoundCells) → few ≤ many → IsWholeCell many c → ((n : ℕ) → IsWholeCell few (cell_or_blank (found n))) → (n : ℕ) → IsWholeCell many (cell_or_blank (updated sector c found n))
whole_updated few many sector c found le w all n = elim (cases_Bool (n == sector)) [
  | inl h ↦ subst (λ b. IsWholeCell many (cell_or_blank (cond b (Some c) (found n)))) (sym (here sector n h)) w
  | inr h ↦ subst (λ b. IsWholeCell many (cell_or_blank (cond b (Some c) (found n)))) (sym (away sector n h)) (whole_later few many (cell_or_blank (found n)) le (all n))
]

-- what the last sync held is whole
held_whole : (synced events : ℕ) (c : Cell) → IsWholeCell events c → IsSector (held synced c)
held_whole synced events c w = elim (cases_Bool (is_loose synced c)) [
  | inl h ↦ subst (λ b. IsSector (cond b c.firm c.last)) (sym h) w.firm
  | inr h ↦ subst (λ b. IsSector (cond b c.firm c.last)) (sym h) w.last
]

pub written_whole : (synced few many : ℕ) (bytes : List ℕ) (c : Cell) → IsSector bytes → IsWholeCell few c → IsWholeCell many (written_cell synced many bytes c)
written_whole synced few many bytes c b w = record { last = b; firm = held_whole synced few c w; within = omega arith }

pub poked_whole : (many : ℕ) (bytes : List ℕ) (c : Cell) → IsSector bytes → IsWholeCell many (poked_cell bytes c)
poked_whole many bytes c b = record { last = b; firm = b; within = omega arith }

-- nothing was ever written
pub fresh_agrees : (found : FoundCells) (es : List Event) (sent : List ℕ) → es ≡ [] → sent ≡ [] → ((n : ℕ) → found n ≡ None) → after es (begun found) ≡ standing found 0 sent
fresh_agrees found es sent none nothing absent =
    let same : found ≡ (λ n. None) = λ i n. absent n i in
    let start : begun (λ n. None) ≡ standing (λ n. None) 0 [] = refl in
    ap (λ l. after l (begun found)) none ∙ ap begun same ∙ start ∙ sym (ap (λ (g : FoundCells). standing g 0 []) same) ∙ sym (ap (standing found 0) nothing)

-- A station had these events and cells before a call, and it has others after it.
module _ (old new : FoundCells) (es new_es : List Event) where
  cells_same : ((n : ℕ) → new n ≡ old n) → new ≡ old
  cells_same h i n = h n i

  -- nothing was kept
  module _ (same : IsSame es new_es old new) where
    pub same_begun : begun new ≡ begun old
    same_begun = ap begun (cells_same same.cells)

    pub same_agrees : (synced : ℕ) (sent : List ℕ) → after es (begun old) ≡ standing old synced sent → after new_es (begun new) ≡ standing new synced sent
    same_agrees synced sent agrees = (λ i. after (same.log i) (same_begun i)) ∙ agrees ∙ sym (ap (λ (g : FoundCells). standing g synced sent) (cells_same same.cells))

    pub same_whole : ((n : ℕ) → IsWholeCell (length es) (cell_or_blank (old n))) → (n : ℕ) → IsWholeCell (length new_es) (cell_or_blank (new n))
    same_whole all n = subst (λ (l : List Event). IsWholeCell (length l) (cell_or_blank (new n))) (sym same.log) (subst (λ o. IsWholeCell (length es) (cell_or_blank o)) (sym (same.cells n)) (all n))

  -- an event and a cell were kept
  module _ (e : Event) (sector : ℕ) (c : Cell) (kept : IsEventKept e sector c es new_es old new) where
    cells_kept : new ≡ updated sector c old
    cells_kept i n = kept.cells n i

    length_kept : length new_es ≡ length es + 1
    length_kept = ap length kept.log ∙ length-append es (e ∷ [])

    pub kept_begun : c.start ≡ (cell_or_blank (old sector)).start → begun new ≡ begun old
    kept_begun same = ap begun cells_kept ∙ begun_updated sector c old same

    pub kept_agrees : (synced : ℕ) (sent : List ℕ) → c.start ≡ (cell_or_blank (old sector)).start → after es (begun old) ≡ standing old synced sent
        → step (standing old synced sent) e ≡ standing (updated sector c old) synced sent → after new_es (begun new) ≡ standing new synced sent
    kept_agrees synced sent same agrees one =
        (λ i. after (kept.log i) (kept_begun same i)) ∙ after_push es (begun old) e ∙ ap (λ s. step s e) agrees ∙ one ∙ sym (ap (λ (g : FoundCells). standing g synced sent) cells_kept)

    pub kept_whole : IsWholeCell (length es + 1) c → ((n : ℕ) → IsWholeCell (length es) (cell_or_blank (old n))) → (n : ℕ) → IsWholeCell (length new_es) (cell_or_blank (new n))
    kept_whole w all n =
        subst (λ (k : ℕ). IsWholeCell k (cell_or_blank (new n))) (sym length_kept) (subst (λ o. IsWholeCell (length es + 1) (cell_or_blank o)) (sym (kept.cells n)) (whole_updated (length es) (length es + 1) sector c old (omega arith) w all n))

-- a sync and a put change no cell
pub synced_agrees : (found : FoundCells) (es new_es : List Event) (synced : ℕ) (sent : List ℕ) → new_es ≡ es ++ Sync ∷ [] → ((n : ℕ) → IsWholeCell (length es) (cell_or_blank (found n)))
    → after es (begun found) ≡ standing found synced sent → (number : ℕ) → number ≡ length new_es → after new_es (begun found) ≡ standing found number sent
synced_agrees found es new_es synced sent log all agrees number at =
    ap (λ l. after l (begun found)) log ∙ after_push es (begun found) Sync ∙ ap (λ s. step s Sync) agrees
    ∙ standing_synced found synced number sent (λ n. omega (arith, (all n).within, ap length log, length-append es (Sync ∷ [])))

pub put_agrees : (found : FoundCells) (es new_es : List Event) (synced : ℕ) (sent new_sent : List ℕ) (piece : Vec ℕ) → new_es ≡ es ++ Put piece ∷ [] → new_sent ≡ sent ++ piece.items
    → after es (begun found) ≡ standing found synced sent → after new_es (begun found) ≡ standing found synced new_sent
put_agrees found es new_es synced sent new_sent piece log more agrees =
    ap (λ l. after l (begun found)) log ∙ after_push es (begun found) (Put piece) ∙ ap (λ s. step s (Put piece)) agrees ∙ sym (ap (standing found synced) more)

pub more_whole : (found : FoundCells) (es new_es : List Event) (e : Event) → new_es ≡ es ++ e ∷ [] → ((n : ℕ) → IsWholeCell (length es) (cell_or_blank (found n))) → (n : ℕ) → IsWholeCell (length new_es) (cell_or_blank (found n))
more_whole found es new_es e log all n = whole_later (length es) (length new_es) (cell_or_blank (found n)) (omega (arith, ap length log, length-append es (e ∷ []))) (all n)
