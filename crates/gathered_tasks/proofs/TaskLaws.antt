-- A call on a device, and then one that leaves the world as it is.
use Rattle.std.proofs.Common.{◌≡◌, inl, inr, ⊎_elim, sym, ◌∙◌, subst}
use Rattle.gathered_tasks.proofs.Common.{Core, Geometry, IsSound, LeavesEither, LeavesPart, LeavesWorld, SameSize, Stands, StandsForEither, View, World, behind, ends_in, joined, part_then, world_on}

pub either_then : (v w z : View) (next : World) → IsSound w → LeavesEither v w next → LeavesWorld w z → LeavesEither v z next
either_then v w z next sound first more =
    joined v w z (λ x f. StandsForEither (world_on v) next x × (f ≡ v.sent)) (λ x f. Stands x (world_on w) × (f ≡ w.sent)) first more
    (λ x f left. (⊎_elim (λ s. inl (subst (λ (u : World). Stands x u) (sym s.world) left.0)) (λ s. inr (subst (λ (u : World). Stands x u) (sym s.world) left.0)) here.0, left.1 ∙ here.1))
  where
    here : StandsForEither (world_on v) next w.reads × (w.sent ≡ v.sent)
    here = ends_in v w (λ x f. StandsForEither (world_on v) next x × (f ≡ v.sent)) sound first

pub world_either : (v w : View) → LeavesWorld v w → LeavesEither v w (world_on v)
world_either v w leaves = record {
  later = leaves.later;
  each = λ x f left. let is = leaves.each x f left in (inl is.0, is.1);
  before = λ t x f le left. ⊎_elim inl (λ is. inr (inl is.0, is.1)) (leaves.before t x f le left);
  keeps = leaves.keeps;
}

pub behind_more : (c0 c1 : Core) (v w z : View) → IsSound w → SameSize c0 c1 → LeavesPart (behind c0.volume.tables.geometry) v w → LeavesPart (behind c1.volume.tables.geometry) w z → LeavesPart (behind c0.volume.tables.geometry) v z
behind_more c0 c1 v w z sound size first more = part_then (behind c0.volume.tables.geometry) v w z sound first (subst (λ (g : Geometry). LeavesPart (behind g) w z) size.geometry more)
