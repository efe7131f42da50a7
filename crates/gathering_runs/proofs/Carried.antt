-- What is held in memory, carried from one closed disk to another.
use Rattle.std.proofs.Common.{◌≡◌, ℕ, false, cond, [], sym, ◌∙◌, ap, subst, arith, List}
use Rattle.image_device.specs.Image.{Image, zeros}
use Rattle.image_device.specs.View.{View}
use Rattle.image_device.specs.Runs.{IsFirm}
use Rattle.intent_journal.specs.Home.{home, is_journal, AgreeBut}
use Rattle.intent_journal.specs.Records.{JournalRecord, AreClosed}
use Rattle.intent_journal.specs.Ring.{IsRingAt}
use Rattle.intent_journal.proofs.Uses.{at_closed}
use Rattle.gathering.specs.Gathered.{cleared}
use Rattle.gathering.specs.Left.{IsHomeOf}
use Rattle.gathering.proofs.Closed.{cleared_closed, closed_home, closed_valid}
use Rattle.gathering_runs.specs.Turns.{StandsBetween}

-- an empty ring has closed gates
pub ring_closed : (v : View) → IsRingAt [] v → AreClosed v.reads
ring_closed v at index less = at.others_closed index (omega arith) less

-- what a cleared image reads outside the journal
pub cleared_reads : (x : Image) (n : ℕ) → is_journal n ≡ false → cleared x n ≡ home x n
cleared_reads x n out = ap (λ b. cond b zeros (home x n)) out

-- the image with the records in place has the home of the one before
pub placed_home : (x y : Image) → AreClosed y → AgreeBut is_journal (home x) y → IsHomeOf (home x) y
placed_home x y closed agree = record { valid = closed_valid y closed; stands = λ n out. (λ i. closed_home y closed i n) ∙ agree n out }

module _ {S : Type 0} (holds : Image → Type 0) (state : Image → S) (carried : (x y : Image) → holds x → AreClosed x → AreClosed y → AgreeBut is_journal x y → holds y × (state y ≡ state x)) where
  pub to_cleared : (x : Image) → holds x → AreClosed x → holds (cleared x) × (state (cleared x) ≡ state x)
  to_cleared x held closed = carried x (cleared x) held closed (cleared_closed x) (λ n out. cleared_reads x n out ∙ (λ i. closed_home x closed i n))

  pub from_cleared : (x y : Image) → holds (cleared x) → AreClosed y → AgreeBut is_journal (home x) y → holds y × (state y ≡ state (cleared x))
  from_cleared x y held closed agree = carried (cleared x) y held (cleared_closed x) closed (λ n out. agree n out ∙ sym (cleared_reads x n out))

  pub to_next : (x left : Image) → holds x → AreClosed x → AgreeBut is_journal x (home left) → holds (cleared left) × (state (cleared left) ≡ state x)
  to_next x left held closed agree = carried x (cleared left) held closed (cleared_closed left) (λ n out. cleared_reads left n out ∙ agree n out)

  pub between : (ring : List JournalRecord) (v : View) → ring ≡ [] → IsFirm v → holds v.reads → AreClosed v.reads → StandsBetween holds ring v
  between ring v none firm held closed = record {
    firm = firm;
    ring_at = subst (λ (r : List JournalRecord). IsRingAt r v) (sym none) (at_closed v closed (λ n j. firm n));
    held = (to_cleared v.reads held closed).0;
  }
