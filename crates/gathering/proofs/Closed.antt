-- Closed journals.
use Rattle.std.proofs.Common.{◌≡◌, ℕ, ◌<◌, true, false, cond, List, [], refl, ◌∙◌, ap}
use Rattle.image_device.specs.Image.{Image, zeros}
use Rattle.image_device.specs.View.{View, untold}
use Rattle.image_layout.specs.Image.{says_open}
use Rattle.image_layout.specs.Ring.{gate_sector, records}
use Rattle.intent_journal.specs.Home.{home, overlaid, is_journal, AgreeBut}
use Rattle.intent_journal.specs.Records.{JournalRecord, patches_of, has_valid_records, is_gate_open}
use Rattle.intent_journal.specs.Ring.{IsRingAt}
use Rattle.intent_journal.proofs.Places.{gate_in}
use Rattle.intent_journal.proofs.Uses.{at_closed, at_valid}
use Rattle.gathering.specs.Gathered.{cleared}

-- a cleared journal is closed
pub cleared_closed : (x : Image) (index : ℕ) → index < records → is_gate_open (cleared x) index ≡ false
cleared_closed x index less = ap (λ b. says_open (cond b zeros (home x (gate_sector index)))) (gate_in index less)

-- a firm device that reads so has an empty ring
abbrev pub still : Image → View
still x = record (untold 0 0 0) { reads = x }

-- an image each gate of which reads closed
module _ (x : Image) (closed : (index : ℕ) → index < records → is_gate_open x index ≡ false) where
  pub closed_ring : IsRingAt [] (still x)
  closed_ring = at_closed (still x) closed (λ n j. refl)

  -- it is its own home, and all its open records, none, are valid
  pub closed_home : home x ≡ x
  closed_home = ap (λ (rs : List JournalRecord). overlaid (patches_of rs) x) closed_ring.shows

  pub closed_valid : has_valid_records x ≡ true
  closed_valid = at_valid closed_ring

-- what a cleared image stands for
pub cleared_home : (x : Image) → AgreeBut is_journal (home x) (home (cleared x))
cleared_home x n out = (λ i. closed_home (cleared x) (cleared_closed x) i n) ∙ ap (λ b. cond b zeros (home x n)) out
