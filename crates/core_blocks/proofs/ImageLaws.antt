-- What calls of a file system leave, said of the images of the device below.
use Rattle.std.proofs.Common.{◌≡◌, ◌⊎◌, inl, inr, ⊎_elim, ℕ, ◌+◌, ◌≤◌, List, refl, ap, subst, arith}
use Rattle.core_blocks.proofs.Common.{Core, Geometry, HasLeft, HasLeftOrAlike, Image, IsFirm, IsSound, LeavesOnly, LeavesPart, LeavesWorldsOnly, None, Option, PlaceKind, SaysWorld, Some, Stands, World, behind, core_view, firm_image, first_moment_of, no_first, second_moment_of, told_world}
use Rattle.image_device.specs.View.{View as DeviceView}
use Rattle.image_world.proofs.AnswerLaws.{world_or_fault}
use Rattle.image_world.proofs.FaultLaws.{no_fault}

-- each image says something
says_some : (x : Image) → (o : Option World) × SaysWorld x o
says_some x = elim (world_or_fault x) [ inl is ↦ (Some is.0, is.1) | inr why ↦ (None, λ good. no_fault x why.0 good why.1) ]

-- what a device may have left stands at the second moment of the disk
has_left : (v : DeviceView) (t : ℕ) (x : Image) (o : Option World) (f : List ℕ) → v.left t x f → SaysWorld x o → HasLeft v (t + t + 1) (record { image = x; world = o }) f
has_left v t x o f left says = record { since = t; moment = record { first = omega arith; second = omega arith }; was_left = left; says = says }

was_at : (size : Geometry) (v : DeviceView) (t : ℕ) (x : Image) (o : Option World) (f : List ℕ) → HasLeft v (t + t + 1) (record { image = x; world = o }) f ⊎ HasLeftOrAlike size v (t + t + 1) (record { image = x; world = o }) f → v.left t x f
was_at size v t x o f (inl h) = subst (λ s. v.left s x f) (second_moment_of h.since t h.moment) h.was_left
was_at size v t x o f (inr e) = absurd (no_first e.since t e.moment)

-- and at the first, without a world, what it may have left or has the same behind
was_alike : (size : Geometry) (v : DeviceView) (t : ℕ) (x : Image) (f : List ℕ) → HasLeft v (t + t) (record { image = x; world = None }) f ⊎ HasLeftOrAlike size v (t + t) (record { image = x; world = None }) f → v.left t x f ⊎ (behind size x ≡ behind size v.reads)
was_alike size v t x f (inl h) = inl (subst (λ s. v.left s x f) (first_moment_of h.since t h.moment) h.was_left)
was_alike size v t x f (inr e) = subst (λ s. v.left s x f ⊎ (behind size x ≡ behind size v.reads)) (twice e.since t e.moment) e.either
  where
    twice : (a b : ℕ) → b + b ≡ a + a → a ≡ b
    twice a b e = omega (arith, e)

-- an image of a world that has P
abbrev pub IsImageOf : (World → Type 0) → List ℕ → Image → List ℕ → Type 0
IsImageOf P sent x f = (u : World) × Stands x u × P u × (f ≡ sent)

pub images_left : (l m : ℕ × ℕ) (kind placement : PlaceKind) (c d : Core) (v w : DeviceView) (P : World → Type 0) → LeavesWorldsOnly (core_view l kind c v) (core_view m placement d w) P → LeavesOnly v w (IsImageOf P v.sent)
images_left l m kind placement c d v w P leaves = record {
  later = omega (arith, leaves.later);
  each = λ x f left. let o = says_some x in image_of x o.0 f o.1 (leaves.each (record { image = x; world = o.0 }) f (inl (has_left w v.clock x o.0 f left o.1)));
  before = λ t x f le left.
      let o = says_some x in
      ⊎_elim (λ was. inl (was_at (told_world c).geometry v t x o.0 f was)) (λ now. inr (image_of x o.0 f o.1 now))
      (leaves.before (t + t + 1) (record { image = x; world = o.0 }) f (omega (arith, le)) (inl (has_left w t x o.0 f left o.1)));
  keeps = λ t x f le left.
      let o = says_some x in
      was_at (told_world d).geometry w t x o.0 f (leaves.keeps (t + t + 1) (record { image = x; world = o.0 }) f (omega (arith, le)) (inl (has_left v t x o.0 f left o.1)));
}
  where
    image_of : (x : Image) (o : Option World) (f : List ℕ) → SaysWorld x o → (u : World) × (o ≡ Some u) × P u × (f ≡ v.sent) → IsImageOf P v.sent x f
    image_of x o f says found = (found.0, subst (λ (p : Option World). SaysWorld x p) found.1 says, found.2, found.3)

-- What lies behind the image stays, whatever the worlds are.
pub behind_left : (l m : ℕ × ℕ) (kind placement : PlaceKind) (c d : Core) (v w : DeviceView) (P : World → Type 0) → IsSound v → IsFirm v → LeavesWorldsOnly (core_view l kind c v) (core_view m placement d w) P → LeavesPart (behind (told_world c).geometry) v w
behind_left l m kind placement c d v w P sound firm leaves = record {
  later = omega (arith, leaves.later);
  each = λ x f left. elim (before v.clock x f (omega arith) left) [
    | inl was ↦ ap (behind (told_world c).geometry) (firm_image v firm x f (sound.only_now x f was))
    | inr alike ↦ alike
  ];
  before = before;
  keeps = (images_left l m kind placement c d v w P leaves).keeps;
}
  where
    no_world : {u : World} → None ≡ Some u → ⊥
    no_world e = cc

    before : (t : ℕ) (x : Image) (f : List ℕ) → t ≤ v.clock → w.left t x f → v.left t x f ⊎ (behind (told_world c).geometry x ≡ behind (told_world c).geometry v.reads)
    before t x f le left = elim (leaves.before (t + t) (record { image = x; world = None }) f (omega (arith, le)) (inr (record { since = t; moment = refl; says_none = refl; either = inl left }))) [
      | inl was ↦ was_alike (told_world c).geometry v t x f was
      | inr now ↦ absurd (no_world now.1)
    ]
