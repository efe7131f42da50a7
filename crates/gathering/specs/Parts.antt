-- A disk in memory for a part of a group: it goes on with a batch over a device that is only read.
use Rattle.std.specs.Prelude.{ℕ, zero, suc, ◌≡◌, ◌≤◌, ◌||◌, Bool, true, false, not, List, [], ◌∷◌, drop, length}
use Rattle.image_device.specs.declared.event.Event.{Event}
use Rattle.image_device.specs.declared.event.Event.TheVariants.{Write, Sync, Put, Poke}
use Rattle.image_device.specs.Image.{Image, IsSector}
use Rattle.image_device.specs.View.{View, IsLeftNow, IsSound}
use Rattle.image_device.specs.History.{HistoryState, step, after, Had, HadSince}
use Rattle.image_device.specs.MemStation.{history_view}
use Rattle.image_device.specs.Laws.{counts_now, only_now}
use Rattle.image_layout.specs.declared.offset.Patch.{Patch}
use Rattle.intent_journal.specs.Home.{overlaid, is_journal}
use Rattle.intent_journal.specs.Homes.{is_lawful_home}
use Rattle.gathering.specs.Gathered.{cleared, gone_on}
use Rattle.std.proofs.Props.{props}
use Rattle.std.proofs.Common.{refl, sym, ◌∙◌, ap, subst, cond, ◌==◌}
use Rattle.std.proofs.Math.Seq.{drop-length}

-- the disk in memory as a part begins over this device with this batch: nothing is loose
abbrev pub went_on : View → List Patch → HistoryState
went_on v batch = record {
  reads = gone_on batch v.reads;
  synced = gone_on batch v.reads;
  loose = λ n. false;
  sent = v.sent;
}

-- What a crash may have left since before a part began, by what was sent behind what was sent then. Where that is
-- nothing, the crash was of the disk in memory. Where it is a number and some bytes, which no part ever sends, it was
-- of the device below: a crash since this moment of it may have left the image, with these bytes sent.
abbrev pub below_or_past : View → HistoryState → List Event → View → List ℕ → Image → List ℕ → Type 0
below_or_past start s es below [] x f = Had es s x f
below_or_past start s es below (t ∷ sent) x f = (t ≤ start.clock) × below.left t x sent

-- What a crash may have left since each moment of a part. It begins at moment 1, and moment 0 lies before it.
abbrev pub left_in_part : View → HistoryState → List Event → View → ℕ → Image → List ℕ → Type 0
left_in_part start s es below zero x f = below_or_past start s es below (drop (length start.sent) f) x f
left_in_part start s es below (suc t) x f = HadSince t es s x f

-- the disk in memory after these events, over the device as it is now
abbrev pub part_view : View → List Patch → List Event → ℕ → ℕ → View → View
part_view start batch es faults writes below = record (history_view (went_on start batch) es faults 0 writes) {
  clock = suc (length es);
  left = left_in_part start (went_on start batch) es below;
}

-- each write of these is of 512 bytes, and nothing is put
abbrev pub AreWholeWrites : List Event → Type 0
AreWholeWrites [] = Unit {0}
AreWholeWrites (Write sector bytes ∷ es) = IsSector bytes.value × AreWholeWrites es
AreWholeWrites (Poke sector bytes ∷ es) = IsSector bytes.value × AreWholeWrites es
AreWholeWrites (Sync ∷ es) = AreWholeWrites es
AreWholeWrites (Put piece ∷ es) = ⊥

-- outside the journal the disk in memory reads as these patches make what the device stands for
abbrev pub IsNetOver : View → List Patch → List Event → List Patch → Type 0
IsNetOver start batch es homes =
    (n : ℕ) → is_journal n ≡ false → (after es (went_on start batch)).reads n ≡ overlaid homes (cleared start.reads) n

-- a write to a sector that is neither of the journal nor one that a batch may hold
abbrev pub is_stray : Event → Bool
is_stray (Write sector bytes) = not (is_journal sector || is_lawful_home sector)
is_stray e = false

abbrev pub has_stray : List Event → Bool
has_stray [] = false
has_stray (e ∷ es) = is_stray e || has_stray es

-- Since the part began a crash may have left any bytes in such a sector.
abbrev pub LeavesStray : View → Type 0
LeavesStray v =
    (sector : ℕ) × (is_journal sector ≡ false) × (is_lawful_home sector ≡ false)
    × ((bytes : List ℕ) → IsSector bytes → (x : Image) × (f : List ℕ) × (x sector ≡ bytes)
    × v.left 1 x f)

-- ---- what holds at each moment

pub chosen_whole : (b : Bool) (one other : List ℕ) → IsSector one → IsSector other → IsSector (cond b one other)
chosen_whole true one other o p = o
chosen_whole false one other o p = p

pub after_whole : (es : List Event) (s : HistoryState) → ((n : ℕ) → IsSector (s.reads n)) → AreWholeWrites es
    → (n : ℕ) → IsSector ((after es s).reads n)
after_whole [] s base whole n = base n
after_whole (Write sector bytes ∷ es) s base whole n =
    after_whole es (step s (Write sector bytes))
    (λ m. chosen_whole (m == sector) bytes.value (s.reads m) whole.0 (base m)) whole.1 n
after_whole (Poke sector bytes ∷ es) s base whole n =
    after_whole es (step s (Poke sector bytes))
    (λ m. chosen_whole (m == sector) bytes.value (s.reads m) whole.0 (base m)) whole.1 n
after_whole (Sync ∷ es) s base whole n = after_whole es (step s Sync) base whole n
after_whole (Put piece ∷ es) s base whole n = absurd whole

sent_kept : (es : List Event) (s : HistoryState) → AreWholeWrites es → (after es s).sent ≡ s.sent
sent_kept [] s whole = refl
sent_kept (Write sector bytes ∷ es) s whole = sent_kept es (step s (Write sector bytes)) whole.1
sent_kept (Poke sector bytes ∷ es) s whole = sent_kept es (step s (Poke sector bytes)) whole.1
sent_kept (Sync ∷ es) s whole = sent_kept es (step s Sync) whole
sent_kept (Put piece ∷ es) s whole = absurd whole

pub part_counts : (start : View) (batch : List Patch) (es : List Event) (faults writes : ℕ) (below : View)
    → AreWholeWrites es → (t : ℕ) (x : Image) (f : List ℕ)
    → IsLeftNow (part_view start batch es faults writes below) x f
    → (part_view start batch es faults writes below).left t x f
part_counts start batch es faults writes below whole zero x f now =
    let none : drop (length start.sent) f ≡ [] =
    ap (drop (length start.sent)) (now.1 ∙ sent_kept es (went_on start batch) whole) ∙ drop-length start.sent in
    subst (λ (l : List ℕ). below_or_past start (went_on start batch) es below l x f) (sym none)
    (counts_now zero es (went_on start batch) x f now)
part_counts start batch es faults writes below whole (suc t) x f now = counts_now t es (went_on start batch) x f now

pub part_sound : (start : View) (batch : List Patch) (es : List Event) (faults writes : ℕ) (below : View)
    → ((n : ℕ) → IsSector (gone_on batch start.reads n)) → AreWholeWrites es
    → IsSound (part_view start batch es faults writes below)
part_sound start batch es faults writes below base whole = record {
  counts_now = λ t x f le now. part_counts start batch es faults writes below whole t x f now;
  only_now = λ x f left. only_now es (went_on start batch) x f left;
  own = record { agrees = λ n h. refl; whole = after_whole es (went_on start batch) base whole };
}

pub whole_prop : (es : List Event) → IsProp (AreWholeWrites es)
whole_prop [] = hlevel props
whole_prop (Write sector bytes ∷ es) = let more = whole_prop es in hlevel (props, more)
whole_prop (Poke sector bytes ∷ es) = let more = whole_prop es in hlevel (props, more)
whole_prop (Sync ∷ es) = whole_prop es
whole_prop (Put piece ∷ es) = hlevel props
