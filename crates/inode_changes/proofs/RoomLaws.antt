-- Where there is room, and what is refused where there isn't, as of the time before an inode shared some blocks.
use Rattle.std.proofs.Common.{◌≡◌, ℕ, ◌+◌, ◌-◌, ◌≤◌, length, sym, ◌∙◌, ap, arith, Option, Some, None}
use Rattle.inode_changes.proofs.Common.{World, free_count, FsRefusal, refusal_before, no_room_in, room_there, there_is_room, pairs_want, wanted_pairs}
use Rattle.fs_trees.specs.declared.refusal.FsRefusal.TheVariants as no

-- the inode got so many pairs, and as many blocks are free
module _ (first w : World) (n s : ℕ) (size : w.geometry ≡ first.geometry) (free : free_count w ≡ free_count first) (pairs : length w.pairs ≡ length first.pairs + s) (enough : n ≤ free_count first) where
  same_slots : w.geometry.slots ≡ first.geometry.slots
  same_slots = ap (λ g. g.slots) size

  pub refused_then : (e : FsRefusal) → no_room_in w n n ≡ Some e → no_room_in first n (s + n) ≡ Some (refusal_before e s)
  refused_then e is =
      let want = wanted_pairs w n n e (omega (arith, free, enough)) is in
      let low = want.0 in
      let held : length first.pairs ≡ length w.pairs - s = omega (arith, pairs) in
      pairs_want first n (s + n) enough (omega (arith, low, pairs, same_slots))
      ∙ (ap (λ k. Some (no.PointersFull k first.geometry.slots)) held
      ∙ (ap (λ k. Some (no.PointersFull (length w.pairs - s) k)) (sym same_slots) ∙ ap (λ r. Some (refusal_before r s)) want.1))

  pub room_then : ◌≡◌ {A = Option FsRefusal} (no_room_in w n n) None → ◌≡◌ {A = Option FsRefusal} (no_room_in first n (s + n)) None
  room_then is = let room = (there_is_room w n n is).1 in room_there first n (s + n) enough (omega (arith, room, pairs, same_slots))

-- the shared ones alone are refused as all are
pub refused_shared : (w : World) (n s : ℕ) (e : FsRefusal) → n ≤ free_count w → no_room_in w 0 s ≡ Some e → no_room_in w n (s + n) ≡ Some e
refused_shared w n s e enough is =
    let want = wanted_pairs w 0 s e (omega arith) is in
    let low = want.0 in
    pairs_want w n (s + n) enough (omega (arith, low)) ∙ ap (λ r. Some r) want.1
