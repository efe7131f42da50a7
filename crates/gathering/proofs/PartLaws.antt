-- What one call of a disk in memory for a part of a group does to it.
use Rattle.std.specs.Global.{Box}
use Rattle.std.proofs.Common.{◌≡◌, ◌⊎◌, inl, inr, ℕ, ◌+◌, ◌-◌, ◌≤◌, ◌==◌, ◌||◌, not, Bool, true, false, cond, List, [], ◌∷◌, ◌++◌, length, refl, sym, ◌∙◌, ap, subst, arith}
use Rattle.std.proofs.lemmas.Bool.{cases_Bool}
use Rattle.std.proofs.lemmas.Bool.Decides.{nat_tests}
use Rattle.image_device.specs.declared.event.Event.{Event}
use Rattle.image_device.specs.declared.event.Event.TheVariants.{Write, Sync, Put, Poke}
use Rattle.image_device.specs.History.{HistoryState, step, after, loosened, Had}
use Rattle.image_device.specs.Image.{Image, IsImage, IsSector, put_at}
use Rattle.image_device.proofs.Sets.{or_false_left}
use Rattle.image_device.specs.View.{View}
use Rattle.image_layout.specs.declared.offset.Patch.{Patch}
use Rattle.intent_journal.specs.Batch.{has_home, homes_of, with_patch, IsBatch}
use Rattle.std.specs.Prelude.{min, ◌^◌, Result, Ok, Err, OnOk, OnErr, ◌<◌}
use Rattle.image_layout.specs.Image.{says_open}
use Rattle.image_layout.specs.Ring.{bodies, gate_sector, records}
use Rattle.intent_journal.specs.Home.{overlaid, is_journal}
use Rattle.intent_journal.specs.Homes.{is_lawful_home}
use Rattle.intent_journal.proofs.Bools.{and_true_parts, equal_numbers}
use Rattle.intent_journal.specs.Records.{is_gate_open}
use Rattle.intent_journal.proofs.Overlays.{overlaid_missed}
use Rattle.intent_journal.proofs.Places.{gate_in}
use Rattle.intent_journal.proofs.Uses.{lawful_missed, overlaid_with_patch}
use Rattle.tsd_model.specs.World.{are_apart}
use Rattle.gathering.specs.Gathered.{cleared, gone_on}
use Rattle.gathering.specs.Parts.{chosen_whole, has_stray, is_stray, part_view, went_on, AreWholeWrites, IsNetOver, LeavesStray}
use Rattle.gathering.proofs.Closed.{cleared_closed}
use Rattle.gathering.proofs.Events.{pushed}

-- ---- one write more

module _ (start : View) (batch : List Patch) (es new : List Event) (sector : ℕ) (box : Box (List ℕ)) (is : new ≡ es ++ Write sector box ∷ []) where
  reads_now : (n : ℕ) → (after new (went_on start batch)).reads n ≡ put_at sector box.value (after es (went_on start batch)).reads n
  reads_now n = ap (λ (z : HistoryState). z.reads n) (pushed es new (Write sector box) is (went_on start batch))

  pub net_of_journal : (homes : List Patch) → is_journal sector ≡ true → IsNetOver start batch es homes → IsNetOver start batch new homes
  net_of_journal homes inside net n out =
      let away : (n == sector) ≡ false = apart n inside out in
      reads_now n ∙ ap (λ b. cond b box.value ((after es (went_on start batch)).reads n)) away ∙ net n out
    where
      apart : (n : ℕ) → is_journal sector ≡ true → is_journal n ≡ false → (n == sector) ≡ false
      apart n i o = grind (arith, nat_tests)

  pub net_of_home : (homes : List Patch) (bytes : List ℕ) → are_apart (homes_of homes) ≡ true → box.value ≡ bytes → IsNetOver start batch es homes
      → IsNetOver start batch new (with_patch (record { sector = sector; bytes = bytes }) homes)
  net_of_home homes bytes apart same net n out =
      reads_now n ∙ (λ i. cond (n == sector) (same i) (net n out i))
      ∙ sym (overlaid_with_patch (record { sector = sector; bytes = bytes }) homes (cleared start.reads) n apart)

pub net_of_sync : (start : View) (batch : List Patch) (es new : List Event) → new ≡ es ++ Sync ∷ [] → (homes : List Patch) → IsNetOver start batch es homes → IsNetOver start batch new homes
net_of_sync start batch es new is homes net n out = ap (λ (z : HistoryState). z.reads n) (pushed es new Sync is (went_on start batch)) ∙ net n out

whole_pushed : (es : List Event) (sector : ℕ) (box : Box (List ℕ)) → AreWholeWrites es → IsSector box.value → AreWholeWrites (es ++ Write sector box ∷ [])
whole_pushed [] sector box whole now = (now, tt)
whole_pushed (Write k b ∷ es) sector box whole now = (whole.0, whole_pushed es sector box whole.1 now)
whole_pushed (Poke k b ∷ es) sector box whole now = (whole.0, whole_pushed es sector box whole.1 now)
whole_pushed (Sync ∷ es) sector box whole now = whole_pushed es sector box whole now
whole_pushed (Put p ∷ es) sector box whole now = absurd whole

pub whole_write : (es new : List Event) (sector : ℕ) (box : Box (List ℕ)) → new ≡ es ++ Write sector box ∷ [] → AreWholeWrites es → IsSector box.value → AreWholeWrites new
whole_write es new sector box is whole now = subst AreWholeWrites (sym is) (whole_pushed es sector box whole now)

whole_synced : (es : List Event) → AreWholeWrites es → AreWholeWrites (es ++ Sync ∷ [])
whole_synced [] whole = tt
whole_synced (Write k b ∷ es) whole = (whole.0, whole_synced es whole.1)
whole_synced (Poke k b ∷ es) whole = (whole.0, whole_synced es whole.1)
whole_synced (Sync ∷ es) whole = whole_synced es whole
whole_synced (Put p ∷ es) whole = absurd whole

pub whole_sync : (es new : List Event) → new ≡ es ++ Sync ∷ [] → AreWholeWrites es → AreWholeWrites new
whole_sync es new is whole = subst AreWholeWrites (sym is) (whole_synced es whole)

or_more : (a b : Bool) → b ≡ true → (a || b) ≡ true
or_more true b is = refl
or_more false b is = is

stray_front : (es : List Event) (e : Event) → has_stray es ≡ true → has_stray (es ++ e ∷ []) ≡ true
stray_front [] e is = absurd (cc)
stray_front (d ∷ es) e is = elim (cases_Bool (is_stray d)) [
  | inl here ↦ rw here refl
  | inr not ↦ or_more (is_stray d) (has_stray (es ++ e ∷ [])) (stray_front es e (rw not at is))
]

stray_last : (es : List Event) (e : Event) → is_stray e ≡ true → has_stray (es ++ e ∷ []) ≡ true
stray_last [] e is = rw is refl
stray_last (d ∷ es) e is = or_more (is_stray d) (has_stray (es ++ e ∷ [])) (stray_last es e is)

pub stray_kept : (es new : List Event) (e : Event) → new ≡ es ++ e ∷ [] → has_stray es ≡ true → has_stray new ≡ true
stray_kept es new e is had = ap has_stray is ∙ stray_front es e had

pub stray_now : (es new : List Event) (sector : ℕ) (box : Box (List ℕ)) → new ≡ es ++ Write sector box ∷ [] → is_journal sector ≡ false → is_lawful_home sector ≡ false
    → has_stray new ≡ true
stray_now es new sector box is out unlawful = ap has_stray is ∙ stray_last es (Write sector box) (rw out (rw unlawful refl))

-- ---- the homes

has_with : (p : Patch) (ps : List Patch) (n : ℕ) → (p.sector == n) ≡ false → has_home (with_patch p ps) n ≡ has_home ps n
has_with p [] n away = rw away refl
has_with p (q ∷ qs) n away = elim (cases_Bool (q.sector == p.sector)) [
  | inl e ↦ let other : (q.sector == n) ≡ false = ap (λ k. k == n) (equal_numbers q.sector p.sector e) ∙ away in rw e (rw away (rw other refl))
  | inr e ↦ rw e (ap (λ b. (q.sector == n) || b) (has_with p qs n away))
]

pub apart_with : (p : Patch) (ps : List Patch) → are_apart (homes_of ps) ≡ true → are_apart (homes_of (with_patch p ps)) ≡ true
apart_with p [] apart = refl
apart_with p (q ∷ qs) apart =
    let parts = and_true_parts (not (has_home qs q.sector)) (are_apart (homes_of qs)) apart in
    elim (cases_Bool (q.sector == p.sector)) [
      | inl e ↦ let same : q.sector ≡ p.sector = equal_numbers q.sector p.sector e in rw e (rw (sym same) apart)
      | inr e ↦
          let away : (p.sector == q.sector) ≡ false = turned q.sector p.sector e in
          let missed : not (has_home (with_patch p qs) q.sector) ≡ true = ap not (has_with p qs q.sector away) ∙ parts.0 in
          rw e (rw missed (apart_with p qs parts.1))
    ]
  where
    turned : (a b : ℕ) → (a == b) ≡ false → (b == a) ≡ false
    turned a b e = grind (arith, nat_tests)

pub apart_homes : (sector : ℕ) (bytes : List ℕ) (ps now : List Patch) → now ≡ with_patch (record { sector = sector; bytes = bytes }) ps → are_apart (homes_of ps) ≡ true → are_apart (homes_of now) ≡ true
apart_homes sector bytes ps now is apart = ap (λ (l : List Patch). are_apart (homes_of l)) is ∙ apart_with (record { sector = sector; bytes = bytes }) ps apart

length_with : (p : Patch) (ps : List Patch) → length (with_patch p ps) ≤ length ps + 1
length_with p [] = omega arith
length_with p (q ∷ qs) = elim (cases_Bool (q.sector == p.sector)) [
  | inl e ↦ rw e (omega arith)
  | inr e ↦ let more = length_with p qs in rw e (omega (arith, more))
]

length_held : (p : Patch) (ps : List Patch) → has_home ps p.sector ≡ true → length (with_patch p ps) ≤ length ps
length_held p [] h = absurd (cc)
length_held p (q ∷ qs) h = elim (cases_Bool (q.sector == p.sector)) [
  | inl e ↦ rw e (omega arith)
  | inr e ↦ let rest : has_home qs p.sector ≡ true = rw e at h in let more = length_held p qs rest in rw e (omega (arith, more))
]

pub with_one : (sector : ℕ) (bytes : List ℕ) (ps now : List Patch) → now ≡ with_patch (record { sector = sector; bytes = bytes }) ps → length now ≤ length ps + 1
with_one sector bytes ps now is = let long = length_with (record { sector = sector; bytes = bytes }) ps in let same = ap length is in omega (arith, long, same)

pub with_room : (sector : ℕ) (bytes : List ℕ) (ps now : List Patch) → now ≡ with_patch (record { sector = sector; bytes = bytes }) ps → (has_home ps sector ≡ true) ⊎ (length ps < bodies) → length ps ≤ bodies → length now ≤ bodies
with_room sector bytes ps now is (inl has) most = let long = length_held (record { sector = sector; bytes = bytes }) ps has in let same = ap length is in omega (arith, long, same, most)
with_room sector bytes ps now is (inr less) most = let long = length_with (record { sector = sector; bytes = bytes }) ps in let same = ap length is in omega (arith, long, same, less)

pub few_more : (old new batch writes after : ℕ) → old ≤ batch + writes → new ≤ old + 1 → new ≤ bodies → after ≡ min (writes + 1) (2 ^ 64 - 1) → new ≤ batch + after
few_more old new batch writes after le grown most is = grind arith

-- where the homes have room, a batch with the same homes has it
pub never_full : {T E : Type 0} (result : Result T E) (sector : ℕ) (homes batch : List Patch) (Done : Type 0) → (has_home homes sector ≡ true) ⊎ (length homes < bodies) → homes ≡ batch
    → OnOk result Done → OnErr result ((has_home batch sector ≡ false) × (length batch ≡ bodies)) → Done
never_full (Ok x) sector homes batch Done room same ok err = ok
never_full (Err e) sector homes batch Done room same ok err = elim room [
  | inl has ↦ let both : true ≡ false = sym has ∙ ap (λ (l : List Patch). has_home l sector) same ∙ err.0 in absurd (cc)
  | inr less ↦ let long : length homes ≡ bodies = ap length same ∙ err.1 in absurd (omega (arith, long, less))
]

-- no home of a batch is of the journal
pub none_of_journal : (ps : List Patch) (x : Image) (n : ℕ) → IsBatch ps → is_journal n ≡ true → overlaid ps x n ≡ x n
none_of_journal ps x n batch inside = overlaid_missed ps x n (lawful_missed ps n batch.lawful (unlawful n inside))
  where
    unlawful : (n : ℕ) → is_journal n ≡ true → is_lawful_home n ≡ false
    unlawful n i = grind (arith, nat_tests)

-- the journal of what it goes on with is closed
pub on_closed : (ps : List Patch) (x : Image) → IsBatch ps → (index : ℕ) → index < records → is_gate_open (gone_on ps x) index ≡ false
on_closed ps x batch index less =
    ap says_open (none_of_journal ps (cleared x) (gate_sector index) batch (gate_in index less)) ∙ cleared_closed x index less

-- ---- sectors that no batch may hold

first_only : (a b c : Bool) → a ≡ true → (not (a || b) || c) ≡ true → c ≡ true
first_only true b c is both = both
first_only false b c is both = absurd (cc)

later_only : (a b c : Bool) → b ≡ true → (not (a || b) || c) ≡ true → c ≡ true
later_only true b c is both = both
later_only false true c is both = both
later_only false false c is both = absurd (cc)

-- a crash inside the write of such a sector leaves any bytes in it
stray_left : (es : List Event) (s : HistoryState) → ((n : ℕ) → IsSector (s.reads n)) → AreWholeWrites es → has_stray es ≡ true
    → (sector : ℕ) × (is_journal sector ≡ false) × (is_lawful_home sector ≡ false) × ((bytes : List ℕ) → IsSector bytes → (x : Image) × (f : List ℕ) × (x sector ≡ bytes) × Had es s x f)
stray_left [] s base whole is = absurd (cc)
stray_left (Sync ∷ es) s base whole is =
    let more = stray_left es (step s Sync) base whole is in
    (more.0, more.1, more.2, λ bytes sized. let left = more.3 bytes sized in (left.0, left.1, left.2, inr left.3))
stray_left (Put p ∷ es) s base whole is = absurd whole
stray_left (Poke k b ∷ es) s base whole is =
    let more = stray_left es (step s (Poke k b)) (λ m. chosen_whole (m == k) b.value (s.reads m) whole.0 (base m)) whole.1 is in
    (more.0, more.1, more.2, λ bytes sized. let left = more.3 bytes sized in (left.0, left.1, left.2, inr left.3))
stray_left (Write k b ∷ es) s base whole is = elim (cases_Bool (is_journal k)) [
  | inl inside ↦ later (stray_left es (step s (Write k b)) (λ m. chosen_whole (m == k) b.value (s.reads m) whole.0 (base m)) whole.1 (past_journal k b inside is))
  | inr outside ↦ elim (cases_Bool (is_lawful_home k)) [
    | inl lawful ↦ later (stray_left es (step s (Write k b)) (λ m. chosen_whole (m == k) b.value (s.reads m) whole.0 (base m)) whole.1 (past_lawful k b lawful is))
    | inr unlawful ↦ (k, outside, unlawful, λ bytes sized. (put_at k bytes s.reads, s.sent, here bytes, inl (inside_of bytes sized, refl)))
  ]
]
  where
    past_journal : (k : ℕ) (b : Box (List ℕ)) → is_journal k ≡ true → has_stray (Write k b ∷ es) ≡ true → has_stray es ≡ true
    past_journal k b inside is = first_only (is_journal k) (is_lawful_home k) (has_stray es) inside is

    past_lawful : (k : ℕ) (b : Box (List ℕ)) → is_lawful_home k ≡ true → has_stray (Write k b ∷ es) ≡ true → has_stray es ≡ true
    past_lawful k b lawful is = later_only (is_journal k) (is_lawful_home k) (has_stray es) lawful is

    later : (sector : ℕ) × (is_journal sector ≡ false) × (is_lawful_home sector ≡ false) × ((bytes : List ℕ) → IsSector bytes → (x : Image) × (f : List ℕ) × (x sector ≡ bytes) × Had es (step s (Write k b)) x f)
        → (sector : ℕ) × (is_journal sector ≡ false) × (is_lawful_home sector ≡ false) × ((bytes : List ℕ) → IsSector bytes → (x : Image) × (f : List ℕ) × (x sector ≡ bytes) × Had (Write k b ∷ es) s x f)
    later more =
        (more.0, more.1, more.2, λ bytes sized. let left = more.3 bytes sized in (left.0, left.1, left.2, inr left.3))

    same : (k == k) ≡ true
    same = grind (arith, nat_tests)

    here : (bytes : List ℕ) → put_at k bytes s.reads k ≡ bytes
    here bytes = rw same refl

    inside_of : (bytes : List ℕ) → IsSector bytes → IsImage s.reads (loosened k s.loose) (put_at k bytes s.reads)
    inside_of bytes sized = record {
      agrees = λ n h. ap (λ t. cond t bytes (s.reads n)) (or_false_left (n == k) (s.loose n) h);
      whole = λ n. chosen_whole (n == k) bytes (s.reads n) sized (base n);
    }

pub leaves_stray : (start : View) (batch : List Patch) (es : List Event) (faults writes : ℕ) (below : View) → ((n : ℕ) → IsSector (gone_on batch start.reads n)) → AreWholeWrites es → has_stray es ≡ true
    → LeavesStray (part_view start batch es faults writes below)
leaves_stray start batch es faults writes below base whole is = stray_left es (went_on start batch) base whole is
