-- What is needed in all, told before a first block was taken and after it.
use Rattle.std.proofs.Common.{◌≡◌, ℕ, ◌+◌, ◌-◌, ◌<◌, ◌≤◌, Bool, true, false, cond, nat_lt, List, [], ◌∷◌, length, refl, sym, ◌∙◌, ap, arith, Option, Some, None}
use Rattle.fs_client.proofs.Common.{and_parts, ltb-true, nat_tests, sum_by-set, is_none, World, contents, is_free, free_count, with_contents, when, first_of, FsRefusal, refusal_before, no_room_in}
use Rattle.fs_trees.specs.declared.refusal.FsRefusal.TheVariants as no
use Rattle.fs_client.proofs.RoomLaws.{room_there, there_is_room}

-- one free block fewer
pub free_count_new : (w : World) (b : ℕ) (x : List ℕ) → is_free w b ≡ true → free_count (with_contents w b x) + 1 ≡ free_count w
free_count_new w b x free =
    let parts = and_parts (nat_lt b (length w.blocks)) (is_none (contents w b)) free in
    let change = sum_by-set (λ o. cond (is_none o) 1 0) w.blocks b (Some x) None (ltb-true b (length w.blocks) parts.0) in
    let was : ◌≡◌ {A = ℕ} (cond (is_none (contents w b)) 1 0) 1 = ap (λ t. cond {A = ℕ} t 1 0) parts.1 in
    omega (arith, change, was)

-- where enough is free, it is the pairs that want room
pub pairs_want : (w : World) (b p : ℕ) → b ≤ free_count w → w.geometry.slots < length w.pairs + p → no_room_in w b p ≡ Some (no.PointersFull (length w.pairs) w.geometry.slots)
pairs_want w b p h k =
    let x : nat_lt (free_count w) b ≡ false = grind (arith, nat_tests) in
    let y : nat_lt w.geometry.slots (length w.pairs + p) ≡ true = grind (arith, nat_tests) in
    ap (λ t. first_of (when t (no.Full (free_count w) b) ∷ when (nat_lt w.geometry.slots (length w.pairs + p)) (no.PointersFull (length w.pairs) w.geometry.slots) ∷ [])) x
    ∙ ap (λ t. first_of (when t (no.PointersFull (length w.pairs) w.geometry.slots) ∷ [])) y

pub wanted_pairs : (w : World) (b p : ℕ) (e : FsRefusal) → b ≤ free_count w → no_room_in w b p ≡ Some e → (w.geometry.slots < length w.pairs + p) × (no.PointersFull (length w.pairs) w.geometry.slots ≡ e)
wanted_pairs w b p e h is = by_tests (nat_lt (free_count w) b) (nat_lt w.geometry.slots (length w.pairs + p)) refl refl is
  where
    by_tests : (s t : Bool) → nat_lt (free_count w) b ≡ s → nat_lt w.geometry.slots (length w.pairs + p) ≡ t
        → first_of (when s (no.Full (free_count w) b) ∷ when t (no.PointersFull (length w.pairs) w.geometry.slots) ∷ []) ≡ Some e → (w.geometry.slots < length w.pairs + p) × (no.PointersFull (length w.pairs) w.geometry.slots ≡ e)
    by_tests true t f g is = absurd (never f)
      where
        never : nat_lt (free_count w) b ≡ true → ⊥
        never f = let low = ltb-true (free_count w) b f in omega (arith, low, h)
    by_tests false true f g is = (ltb-true w.geometry.slots (length w.pairs + p) g, cc)
    by_tests false false f g is = absurd (cc)

-- the first block and pair are refused as all of them are
pub refused_at_once : (w : World) (n p : ℕ) (e : FsRefusal) → 1 + n ≤ free_count w → no_room_in w 1 1 ≡ Some e → no_room_in w (1 + n) (1 + p) ≡ Some e
refused_at_once w n p e free is =
    let want = wanted_pairs w 1 1 e (omega (arith, free)) is in
    pairs_want w (1 + n) (1 + p) free (let low = want.0 in omega (arith, low)) ∙ ap (λ r. Some r) want.1

-- with the first one taken
module _ (first w : World) (n p : ℕ) (size : w.geometry ≡ first.geometry) (blocks : free_count w + 1 ≡ free_count first) (pairs : length w.pairs ≡ length first.pairs + 1) (free : 1 + n ≤ free_count first) where
  same_slots : w.geometry.slots ≡ first.geometry.slots
  same_slots = ap (λ g. g.slots) size

  -- the others are refused as all would have been before
  pub refused_later : (e : FsRefusal) → no_room_in w n p ≡ Some e → no_room_in first (1 + n) (1 + p) ≡ Some (refusal_before e 1)
  refused_later e is =
      let want = wanted_pairs w n p e (omega (arith, blocks, free)) is in
      let low = want.0 in
      let held : length first.pairs ≡ length w.pairs - 1 = omega (arith, pairs) in
      pairs_want first (1 + n) (1 + p) free (omega (arith, low, pairs, same_slots))
      ∙ (ap (λ k. Some (no.PointersFull k first.geometry.slots)) held
      ∙ (ap (λ k. Some (no.PointersFull (length w.pairs - 1) k)) (sym same_slots) ∙ ap (λ r. Some (refusal_before r 1)) want.1))

  pub room_for_both : ◌≡◌ {A = Option FsRefusal} (no_room_in w n p) None → ◌≡◌ {A = Option FsRefusal} (no_room_in first (1 + n) (1 + p)) None
  room_for_both is = let room = (there_is_room w n p is).1 in room_there first (1 + n) (1 + p) free (omega (arith, room, pairs, same_slots))
