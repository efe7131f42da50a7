-- What a crash leaves while the bytes shown are replaced.
use Rattle.std.proofs.Common.{◌≡◌, ◌⊎◌, inl, inr, ⊎_elim, ℕ, Bool, false, cond, ◌==◌, List, refl, sym, ◌∙◌, ap, arith, get_or}
use Rattle.std.proofs.lemmas.Bool.{cases_Bool}
use Rattle.std.proofs.lemmas.Bool.Decides.{nat_tests}
use Rattle.image_device.specs.Image.{Image}
use Rattle.image_device.specs.View.{View, IsLeftWithin, IsSound}
use Rattle.image_device.specs.Calls.{Rests}
use Rattle.image_device.specs.Runs.{LeavesOnly, IsConfined, IsFirm}
use Rattle.test_base.specs.TwoCopies.{current, shown, spare, ShowsEither}
use Rattle.image_device.proofs.Moments.{firm_image, joined, rested}
use Rattle.image_device.proofs.Sets.{or_false}

-- the one is shown and the other is spare
pub record Are (selector : List ℕ) (now free : ℕ) : Type 0 where
  pub current : current selector ≡ now
  pub spare : spare selector ≡ free
  pub both : ((now ≡ 2) × (free ≡ 1)) ⊎ ((now ≡ 1) × (free ≡ 2))

pub places : (selector : List ℕ) (free : ℕ) → free ≡ spare selector → Are selector (current selector) free
places selector free is = record {
  current = refl;
  spare = sym is;
  both = elim (cases_Bool (get_or selector 0 0 == 1)) [
    | inl h ↦ inl (ap (λ (b : Bool). cond b 2 1) h, is ∙ ap (λ (b : Bool). cond b 1 2) h)
    | inr h ↦ inr (ap (λ (b : Bool). cond b 2 1) h, is ∙ ap (λ (b : Bool). cond b 1 2) h)
  ];
}

-- whichever sector is shown is one of the two
one_of : (s : List ℕ) (now free : ℕ) → ((now ≡ 2) × (free ≡ 1)) ⊎ ((now ≡ 1) × (free ≡ 2)) → (current s ≡ now) ⊎ (current s ≡ free)
one_of s now free both = elim (cases_Bool (get_or s 0 0 == 1)) [
  | inl h ↦ let e : current s ≡ 2 = ap (λ (b : Bool). cond b 2 1) h in ⊎_elim (λ p. inl (e ∙ sym p.0)) (λ p. inr (e ∙ sym p.1)) both
  | inr h ↦ let e : current s ≡ 1 = ap (λ (b : Bool). cond b 2 1) h in ⊎_elim (λ p. inr (e ∙ sym p.1)) (λ p. inl (e ∙ sym p.0)) both
]

-- so far the selector was read
pub looked : (v v1 : View) (bytes : List ℕ) → IsSound v → IsFirm v → Rests v v1 → LeavesOnly v v1 (λ x f. ShowsEither (shown v.reads) bytes x × (f ≡ v.sent))
looked v v1 bytes sound firm rests = rested v v1 (λ x f. ShowsEither (shown v.reads) bytes x × (f ≡ v.sent)) sound rests (λ x f left. (inl (ap shown (firm_image v firm x f left)), left.1))

module _ (v v1 v2 : View) (bytes : List ℕ) (now free : ℕ) (are : Are (v.reads 0) now free) (sound : IsSound v) (firm : IsFirm v) (rests : Rests v v1) (run : IsConfined (λ n. n == free) v1 v2) where
  abbrev P : Image → List ℕ → Type 0
  P x f = ShowsEither (shown v.reads) bytes x × (f ≡ v.sent)

  -- while the spare sector is written, the other is shown
  in_spare : (x : Image) (f : List ℕ) → IsLeftWithin (λ n. n == free) v1 x f → P x f
  in_spare x f left = (inl (ap (λ (s : List ℕ). x (current s)) selector ∙ ap x are.current ∙ same now other ∙ sym (ap v.reads are.current)), left.1 ∙ rests.sent)
    where
      same : (n : ℕ) → (n == free) ≡ false → x n ≡ v.reads n
      same n h = left.0.agrees n (or_false (n == free) (v1.loose n) h ((λ i. rests.loose i n) ∙ firm n)) ∙ (λ i. rests.reads i n)

      other : (now == free) ≡ false
      other = elim are.both [
        | inl p ↦ grind (arith, nat_tests)
        | inr p ↦ grind (arith, nat_tests)
      ]

      zero_other : (0 == free) ≡ false
      zero_other = elim are.both [
        | inl p ↦ grind (arith, nat_tests)
        | inr p ↦ grind (arith, nat_tests)
      ]

      selector : x 0 ≡ v.reads 0
      selector = same 0 zero_other

  pub staged : LeavesOnly v v2 (λ x f. ShowsEither (shown v.reads) bytes x × (f ≡ v.sent))
  staged = joined v v1 v2 P (IsLeftWithin (λ n. n == free) v1) (looked v v1 bytes sound firm rests) run.leaves in_spare

  -- while the selector is written, either is shown
  module _ (written : v2.reads free ≡ bytes) (firm2 : IsFirm v2) where
    in_selector : (x : Image) (f : List ℕ) → IsLeftWithin (λ n. n == 0) v2 x f → P x f
    in_selector x f left = (
      ⊎_elim (λ e. inl (ap x e ∙ same now now_other ∙ run.reads now apart ∙ (λ i. rests.reads i now) ∙ sym (ap v.reads are.current))) (λ e. inr (ap x e ∙ same free free_other ∙ written)) (one_of (x 0) now free are.both),
      left.1 ∙ run.sent ∙ rests.sent,
    )
      where
        same : (n : ℕ) → (n == 0) ≡ false → x n ≡ v2.reads n
        same n h = left.0.agrees n (or_false (n == 0) (v2.loose n) h (firm2 n))

        now_other : (now == 0) ≡ false
        now_other = elim are.both [
          | inl p ↦ grind (arith, nat_tests)
          | inr p ↦ grind (arith, nat_tests)
        ]

        free_other : (free == 0) ≡ false
        free_other = elim are.both [
          | inl p ↦ grind (arith, nat_tests)
          | inr p ↦ grind (arith, nat_tests)
        ]

        apart : (now == free) ≡ false
        apart = elim are.both [
          | inl p ↦ grind (arith, nat_tests)
          | inr p ↦ grind (arith, nat_tests)
        ]

    pub replaced : (v3 : View) → IsConfined (λ n. n == 0) v2 v3 → LeavesOnly v v3 (λ x f. ShowsEither (shown v.reads) bytes x × (f ≡ v.sent))
    replaced v3 last = joined v v2 v3 P (IsLeftWithin (λ n. n == 0) v2) staged last.leaves in_selector

    -- in the end the new bytes are shown
    pub shows : (v3 : View) (selector : List ℕ) → IsConfined (λ n. n == 0) v2 v3 → v3.reads 0 ≡ selector → current selector ≡ free → shown v3.reads ≡ bytes
    shows v3 selector last is turned = ap (λ (s : List ℕ). v3.reads (current s)) is ∙ ap v3.reads turned ∙ last.reads free free_other ∙ written
      where
        free_other : (free == 0) ≡ false
        free_other = elim are.both [
          | inl p ↦ grind (arith, nat_tests)
          | inr p ↦ grind (arith, nat_tests)
        ]
