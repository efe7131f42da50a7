-- Where there is room for blocks and pairs, and what is refused where there isn't.
use Rattle.std.proofs.Common.{◌≡◌, ℕ, ◌+◌, ◌≤◌, Bool, true, false, nat_lt, [], ◌∷◌, length, refl, ◌∙◌, ap, arith, Option, None}
use Rattle.fs_client.proofs.Common.{nat_tests, World, free_count, when, first_of, FsRefusal, no_room_in}
use Rattle.fs_trees.specs.declared.refusal.FsRefusal.TheVariants as no

pub room_there : (w : World) (b p : ℕ) → b ≤ free_count w → length w.pairs + p ≤ w.geometry.slots → ◌≡◌ {A = Option FsRefusal} (no_room_in w b p) None
room_there w b p h k =
    let x : nat_lt (free_count w) b ≡ false = grind (arith, nat_tests) in
    let y : nat_lt w.geometry.slots (length w.pairs + p) ≡ false = grind (arith, nat_tests) in
    ap (λ t. first_of (when t (no.Full (free_count w) b) ∷ when (nat_lt w.geometry.slots (length w.pairs + p)) (no.PointersFull (length w.pairs) w.geometry.slots) ∷ [])) x
    ∙ ap (λ t. first_of (when t (no.PointersFull (length w.pairs) w.geometry.slots) ∷ [])) y

pub there_is_room : (w : World) (b p : ℕ) → ◌≡◌ {A = Option FsRefusal} (no_room_in w b p) None → (b ≤ free_count w) × (length w.pairs + p ≤ w.geometry.slots)
there_is_room w b p h = by_tests (nat_lt (free_count w) b) (nat_lt w.geometry.slots (length w.pairs + p)) refl refl h
  where
    by_tests : (s t : Bool) → nat_lt (free_count w) b ≡ s → nat_lt w.geometry.slots (length w.pairs + p) ≡ t
        → ◌≡◌ {A = Option FsRefusal} (first_of (when s (no.Full (free_count w) b) ∷ when t (no.PointersFull (length w.pairs) w.geometry.slots) ∷ [])) None → (b ≤ free_count w) × (length w.pairs + p ≤ w.geometry.slots)
    by_tests true t e f g = absurd (cc)
    by_tests false true e f g = absurd (cc)
    by_tests false false e f g = (grind (arith, nat_tests), grind (arith, nat_tests))
