-- How a run of calls that writes none but some sectors goes from call to call.
use Rattle.std.proofs.Common.{◌≡◌, ◌≢◌, ℕ, Bool, true, false, ◌==◌, List, refl, ◌∙◌, ap, arith}
use Rattle.std.proofs.lemmas.Bool.Decides.{nat_tests}
use Rattle.image_device.specs.Image.{Image}
use Rattle.image_device.specs.View.{View, IsLeftNow, IsLeftWithin, IsSound}
use Rattle.image_device.specs.Calls.{Rests, Touches, Settles}
use Rattle.image_device.specs.Runs.{IsConfined}
use Rattle.image_device.proofs.Moments.{started, goes_on, joined, weakened}
use Rattle.image_device.proofs.Sets.{or_false, or_false_left, or_false_right}

-- an image where fewer sectors are loose is one where more are
pub within : (some : ℕ → Bool) (v : View) (x : Image) (f : List ℕ) → IsLeftNow v x f → IsLeftWithin some v x f
within some v x f now = (record { agrees = λ n h. now.0.agrees n (or_false_right (some n) (v.loose n) h); whole = now.0.whole }, now.1)

-- no call yet
pub confined_start : (some : ℕ → Bool) (v : View) → IsSound v → IsConfined some v v
confined_start some v sound = record {
  reads = λ n h. refl;
  loose = λ n h k. k;
  sent = refl;
  leaves = started v (IsLeftWithin some v) sound (within some v);
}

-- what is left after some calls is left within them
pub within_then : (some : ℕ → Bool) (old mid : View) → IsConfined some old mid → (x : Image) (f : List ℕ) → IsLeftWithin some mid x f → IsLeftWithin some old x f
within_then some old mid so_far x f left = (
  record {
    agrees = λ n h.
        let out = or_false_left (some n) (old.loose n) h in
        let firm = or_false_right (some n) (old.loose n) h in
        left.0.agrees n (or_false (some n) (mid.loose n) out (so_far.loose n out firm)) ∙ so_far.reads n out;
    whole = left.0.whole;
  },
  left.1 ∙ so_far.sent,
)

pub confined_joined : (some : ℕ → Bool) (old mid new : View) → IsConfined some old mid → IsConfined some mid new → IsConfined some old new
confined_joined some old mid new a b = record {
  reads = λ n h. b.reads n h ∙ a.reads n h;
  loose = λ n h k. b.loose n h (a.loose n h k);
  sent = b.sent ∙ a.sent;
  leaves = joined old mid new (IsLeftWithin some old) (IsLeftWithin some mid) a.leaves b.leaves (within_then some old mid a);
}

pub confined_read : (some : ℕ → Bool) (old mid new : View) → IsConfined some old mid → Rests mid new → IsConfined some old new
confined_read some old mid new a b = record {
  reads = λ n h. (λ i. b.reads i n) ∙ a.reads n h;
  loose = λ n h k. (λ i. b.loose i n) ∙ a.loose n h k;
  sent = b.sent ∙ a.sent;
  leaves = goes_on old mid new (IsLeftWithin some old) (IsLeftNow mid) a.leaves b.time (λ x f now. within_then some old mid a x f (within some mid x f now));
}

pub confined_sync : (some : ℕ → Bool) (old mid new : View) → IsConfined some old mid → Settles mid new → IsConfined some old new
confined_sync some old mid new a b = record {
  reads = λ n h. (λ i. b.reads i n) ∙ a.reads n h;
  loose = λ n h k. b.loose n (a.loose n h k);
  sent = b.sent ∙ a.sent;
  leaves = goes_on old mid new (IsLeftWithin some old) (IsLeftNow mid) a.leaves b.time (λ x f now. within_then some old mid a x f (within some mid x f now));
}

pub confined_write : (some : ℕ → Bool) (sector : ℕ) (old mid new : View) → some sector ≡ true → IsConfined some old mid → Touches sector mid new → IsConfined some old new
confined_write some sector old mid new is_in a b = record {
  reads = λ n h. b.reads n (other n h) ∙ a.reads n h;
  loose = λ n h k. b.loose n (other n h) ∙ a.loose n h k;
  sent = b.sent ∙ a.sent;
  leaves = goes_on old mid new (IsLeftWithin some old) (IsLeftWithin (λ n. n == sector) mid) a.leaves b.time (λ x f left. within_then some old mid a x f (wider x f left));
}
  where
    other : (n : ℕ) → some n ≡ false → n ≢ sector
    other n h e = let k : some n ≡ true = ap some e ∙ is_in in cc

    tested : (n : ℕ) → n ≢ sector → (n == sector) ≡ false
    tested n h = grind (arith, nat_tests)

    wider : (x : Image) (f : List ℕ) → IsLeftWithin (λ n. n == sector) mid x f → IsLeftWithin some mid x f
    wider x f left = (
      record {
        agrees = λ n h. left.0.agrees n (or_false (n == sector) (mid.loose n) (tested n (other n (or_false_left (some n) (mid.loose n) h))) (or_false_right (some n) (mid.loose n) h));
        whole = left.0.whole;
      },
      left.1,
    )

-- a run that is confined to some sectors is confined to more
pub confined_wider : (some more : ℕ → Bool) (old new : View) → ((n : ℕ) → more n ≡ false → some n ≡ false) → IsConfined some old new → IsConfined more old new
confined_wider some more old new wider run = record {
  reads = λ n h. run.reads n (wider n h);
  loose = λ n h k. run.loose n (wider n h) k;
  sent = run.sent;
  leaves = weakened old new (IsLeftWithin some old) (IsLeftWithin more old) run.leaves (λ x f left. (
    record { agrees = λ n h. left.0.agrees n (or_false (some n) (old.loose n) (wider n (or_false_left (more n) (old.loose n) h)) (or_false_right (more n) (old.loose n) h)); whole = left.0.whole },
    left.1,
  ));
}

-- one call more, for the search
pub ruleset confined_calls = (confined_start, confined_write, confined_sync, confined_read)
