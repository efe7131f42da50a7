-- What a part tells of the device below it.
use Rattle.std.proofs.Common.{◌≡◌, ◌⊎◌, inl, ⊎_elim, ℕ, zero, suc, ◌≤◌, List, [], ◌∷◌, ◌++◌, length, sym, ap, subst, arith, length-append}
use Rattle.std.proofs.Math.Seq.{drop-append_seam}
use Rattle.std.specs.Prelude.{drop}
use Rattle.image_device.specs.Calls.{Elapses, Settles, Touches}
use Rattle.image_device.specs.declared.event.Event.{Event}
use Rattle.image_device.specs.Image.{Image}
use Rattle.image_device.specs.MemStation.{history_view}
use Rattle.image_device.specs.Runs.{LeavesOnly}
use Rattle.image_device.specs.View.{View, IsLeftNow}
use Rattle.image_layout.specs.declared.offset.Patch.{Patch}
use Rattle.gathering.specs.Gathered.{HasRested}
use Rattle.gathering.specs.Parts.{below_or_past, part_view, went_on}

-- ---- a call that doesn't touch the device

module _ (start : View) (batch : List Patch) (below : View) (es new : List Event) (a b a' b' : ℕ) where
  elapses_in_part : (inside : Image → List ℕ → Type 0) → Elapses (history_view (went_on start batch) es a 0 b) (history_view (went_on start batch) new a' 0 b') inside
      → Elapses (part_view start batch es a b below) (part_view start batch new a' b' below) inside
  elapses_in_part inside time = record {
    later = omega (arith, time.later);
    nothing_else = nothing;
    keeps = kept;
  }
    where
      nothing_past : (sent : List ℕ) (x : Image) (f : List ℕ) → below_or_past start (went_on start batch) new below sent x f → below_or_past start (went_on start batch) es below sent x f ⊎ inside x f
      nothing_past [] x f left = time.nothing_else 0 x f (omega arith) left
      nothing_past (t ∷ sent) x f left = inl left

      nothing : (t : ℕ) (x : Image) (f : List ℕ) → t ≤ suc (length es) → (part_view start batch new a' b' below).left t x f → (part_view start batch es a b below).left t x f ⊎ inside x f
      nothing zero x f le left = nothing_past (drop (length start.sent) f) x f left
      nothing (suc t) x f le left = time.nothing_else t x f (omega (arith, le)) left

      kept_past : (sent : List ℕ) (x : Image) (f : List ℕ) → below_or_past start (went_on start batch) es below sent x f → below_or_past start (went_on start batch) new below sent x f
      kept_past [] x f left = time.keeps 0 x f (omega arith) left
      kept_past (t ∷ sent) x f left = left

      kept : (t : ℕ) (x : Image) (f : List ℕ) → t ≤ suc (length es) → (part_view start batch es a b below).left t x f → (part_view start batch new a' b' below).left t x f
      kept zero x f le left = kept_past (drop (length start.sent) f) x f left
      kept (suc t) x f le left = time.keeps t x f (omega (arith, le)) left

  pub touches_in_part : (sector : ℕ) → Touches sector (history_view (went_on start batch) es a 0 b) (history_view (went_on start batch) new a' 0 b')
      → Touches sector (part_view start batch es a b below) (part_view start batch new a' b' below)
  touches_in_part sector call = record { reads = call.reads; loose = call.loose; sent = call.sent; time = elapses_in_part _ call.time }

  pub settles_in_part : Settles (history_view (went_on start batch) es a 0 b) (history_view (went_on start batch) new a' 0 b')
      → Settles (part_view start batch es a b below) (part_view start batch new a' b' below)
  settles_in_part call = record { reads = call.reads; loose = call.loose; sent = call.sent; time = elapses_in_part _ call.time }

-- ---- what calls on the part leave below

-- Calls on a part inside which a crash leaves only what has P, with no more sent, leave of the device below what a crash
-- of it left already: at each moment of it since the start, only what a crash left at the start.
module _ (start : View) (batch : List Patch) (es new : List Event) (a b a' b' : ℕ) (v w : View) (P : Image → List ℕ → Type 0)
    (leaves : LeavesOnly (part_view start batch es a b v) (part_view start batch new a' b' w) P) (stays : (x : Image) (f : List ℕ) → P x f → f ≡ start.sent) where
  tells : (es : List Event) (u : View) (t : ℕ) (x : Image) (f : List ℕ) → t ≤ start.clock → u.left t x f → below_or_past start (went_on start batch) es u (drop (length start.sent) (start.sent ++ t ∷ f)) x (start.sent ++ t ∷ f)
  tells es u t x f le left = subst (λ (l : List ℕ). below_or_past start (went_on start batch) es u l x (start.sent ++ t ∷ f)) (sym (drop-append_seam start.sent (t ∷ f))) (le, left)

  told_by : (es : List Event) (u : View) (t : ℕ) (x : Image) (f : List ℕ) → below_or_past start (went_on start batch) es u (drop (length start.sent) (start.sent ++ t ∷ f)) x (start.sent ++ t ∷ f) → u.left t x f
  told_by es u t x f left = (subst (λ (l : List ℕ). below_or_past start (went_on start batch) es u l x (start.sent ++ t ∷ f)) (drop-append_seam start.sent (t ∷ f)) left).1

  longer : (t : ℕ) (f : List ℕ) → start.sent ++ t ∷ f ≡ start.sent → ⊥
  longer t f is = let more = length-append start.sent (t ∷ f) in let same = ap length is in absurd (omega (arith, more, same))

  was : (t : ℕ) (x : Image) (f : List ℕ) → t ≤ start.clock → w.left t x f → v.left t x f
  was t x f le left =
      ⊎_elim (told_by es v t x f) (λ p. absurd (longer t f (stays x (start.sent ++ t ∷ f) p)))
      (leaves.before 0 x (start.sent ++ t ∷ f) (omega arith) (tells new w t x f le left))

  still : (t : ℕ) (x : Image) (f : List ℕ) → t ≤ start.clock → v.left t x f → w.left t x f
  still t x f le left = told_by new w t x f (leaves.keeps 0 x (start.sent ++ t ∷ f) (omega arith) (tells es v t x f le left))

  pub below_rested : HasRested start v → start.clock ≤ w.clock → LeavesOnly start w (IsLeftNow start)
  below_rested rested later = record {
    later = later;
    each = λ x f left. rested.leaves.each x f (was start.clock x f (omega arith) left);
    before = λ t x f le left. rested.leaves.before t x f le (was t x f le left);
    keeps = λ t x f le left. still t x f le (rested.leaves.keeps t x f le left);
  }
