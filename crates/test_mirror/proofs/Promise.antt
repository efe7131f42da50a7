-- How the program's promise goes from call to call, and from a mirror to its sides.
use Rattle.std.proofs.Common.{◌≡◌, ◌≢◌, inl, inr, ⊎_elim, ℕ, Bool, false, ◌==◌, List, ◌∙◌, sym, arith}
use Rattle.std.proofs.lemmas.Bool.Decides.{nat_tests}
use Rattle.image_device.specs.Image.{Image}
use Rattle.image_device.specs.View.{View, IsLeftWithin, IsLeftInPut}
use Rattle.image_device.specs.Runs.{IsConfined, IsFirm, LeavesOnly}
use Rattle.image_device.proofs.Moments.{joined, weakened}
use Rattle.image_device.proofs.Sets.{or_false}
use Rattle.mirror_device.specs.SidesView.{SidesView}
use Rattle.mirror_device.specs.Copying.{IsLeftOfFirst}
use Rattle.test_mirror.specs.Saving.{IsSaved}

differs : (sector n : ℕ) → n ≢ sector → (n == sector) ≡ false
differs sector n h = grind (arith, nat_tests)

module _ (sector : ℕ) (bytes : List ℕ) (old mid new : View) where
  -- inside the write
  saved_within : (x : Image) (f : List ℕ) → IsLeftWithin (λ n. n == sector) old x f → IsSaved sector bytes old.reads old.loose old.sent x f
  saved_within x f left = record { others = λ n h k. left.0.agrees n (or_false (n == sector) (old.loose n) (differs sector n h) k); said = inl left.1 }

  pub saved_written : IsConfined (λ n. n == sector) old mid → LeavesOnly old mid (IsSaved sector bytes old.reads old.loose old.sent)
  saved_written confined = weakened old mid (IsLeftWithin (λ n. n == sector) old) (IsSaved sector bytes old.reads old.loose old.sent) confined.leaves saved_within

  -- and after it
  pub saved_said : (text : List ℕ) → IsConfined (λ n. n == sector) old mid → IsFirm mid → mid.reads sector ≡ bytes → LeavesOnly mid new (IsLeftInPut text mid) → LeavesOnly old new (IsSaved sector bytes old.reads old.loose old.sent)
  saved_said text confined firm written puts = joined old mid new (IsSaved sector bytes old.reads old.loose old.sent) (IsLeftInPut text mid) (saved_written confined) puts said_then
    where
      said_then : (x : Image) (f : List ℕ) → IsLeftInPut text mid x f → IsSaved sector bytes old.reads old.loose old.sent x f
      said_then x f left = record { others = λ n h k. left.0.agrees n (firm n) ∙ confined.reads n (differs sector n h); said = inr (left.0.agrees sector (firm sector) ∙ written) }

-- of the first side before a mirror began, and of a mirror that reads so with nothing loose
module _ (sector : ℕ) (bytes : List ℕ) (v : SidesView) where
  pub saved_first : (x : Image) (f : List ℕ) → IsLeftOfFirst v x f → IsSaved sector bytes v.first.reads v.first.loose v.sent x f
  saved_first x f left = record { others = λ n h k. left.0.agrees n k; said = inl left.1 }

  pub saved_mirror : (old : View) → old.reads ≡ v.first.reads → IsFirm old → old.sent ≡ v.sent → (x : Image) (f : List ℕ)
      → IsSaved sector bytes old.reads old.loose old.sent x f → IsSaved sector bytes v.first.reads v.first.loose v.sent x f
  saved_mirror old reads firm sent x f saved = record { others = λ n h k. saved.others n h (firm n) ∙ (λ j. reads j n); said = ⊎_elim (λ same. inl (same ∙ sent)) inr saved.said }
