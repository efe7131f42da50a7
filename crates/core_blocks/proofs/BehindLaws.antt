-- What lies behind an image, from call to call.
use Rattle.std.proofs.Common.{◌≡◌, ℕ, List, refl, sym, ◌∙◌, ap, subst}
use Rattle.core_blocks.proofs.Common.{Core, Counts, Geometry, Image, IsCoreAt, IsFirm, IsSound, LeavesBehind, LeavesPart, LeavesWorldsOnly, PlaceKind, PutsAll, Result, SameSize, View, World, behind, core_view, joined, part_at_end, part_put, part_stays, part_then, size_of_image, told_size, told_world, world_of}
use Rattle.intent_journal.specs.Home.{home}
use Rattle.image_world.specs.Tables.{Tables, tables_of}
use Rattle.image_world.proofs.WorldLaws.{told_like}
use Rattle.core_blocks.specs.Behind.{KeepsBehind}
use Rattle.core_blocks.proofs.ImageLaws.{behind_left}

-- nothing was called
pub behind_stays : (told : Type 0) (c : Core) (v : View) → (told → IsSound v) → (told → IsFirm v) → KeepsBehind told c c v v
behind_stays told c v sound firm = record {
  size = refl;
  now = λ t. refl;
  any_moment = λ t. part_stays (behind (told_world c).geometry) v (sound t) (firm t);
}

-- one run more
pub behind_until : (told : Type 0) (c0 c1 : Core) (u v w : View) → KeepsBehind told c0 c1 u v → (told → LeavesPart (behind (told_world c1).geometry) v w) → told → LeavesPart (behind (told_world c0).geometry) u w
behind_until told c0 c1 u v w so_far more t =
    joined u v w (λ x f. behind (told_world c0).geometry x ≡ behind (told_world c0).geometry u.reads) (λ x f. behind (told_world c0).geometry x ≡ behind (told_world c0).geometry v.reads) (so_far.any_moment t)
    (subst (λ (g : Geometry). LeavesPart (behind g) v w) so_far.size (more t)) (λ x f alike. alike ∙ so_far.now t)

pub behind_then : (told : Type 0) (c0 c1 c2 : Core) (u v w : View) → KeepsBehind told c0 c1 u v → KeepsBehind told c1 c2 v w → KeepsBehind told c0 c2 u w
behind_then told c0 c1 c2 u v w so_far more = record {
  size = more.size ∙ so_far.size;
  now = λ t. subst (λ (g : Geometry). behind g w.reads ≡ behind g v.reads) so_far.size (more.now t) ∙ so_far.now t;
  any_moment = behind_until told c0 c1 u v w so_far more.any_moment;
}

-- a text was put
pub behind_put : {T E : Type 0} (told : Type 0) (c : Core) (text : List ℕ) (v w : View) (result : Result T E) → (told → IsFirm v) → PutsAll told text v w result → KeepsBehind told c c v w
behind_put told c text v w result firm puts = record {
  size = refl;
  now = λ t. ap (behind (told_world c).geometry) (puts.reads t);
  any_moment = λ t. part_put (behind (told_world c).geometry) text v w (firm t) (puts.any_moment t);
}

-- a file system was called
pub behind_called : (told : Type 0) (l m : ℕ × ℕ) (kind placement : PlaceKind) (c0 c1 : Core) (v w : View) (P : World → Type 0) → (told → IsSound v) → (told → IsSound w) → (told → IsFirm v)
    → Counts (core_view l kind c0 v) (core_view m placement c1 w) → (told → LeavesWorldsOnly (core_view l kind c0 v) (core_view m placement c1 w) P) → KeepsBehind told c0 c1 v w
behind_called told l m kind placement c0 c1 v w P sound sound_after firm counts crash = record {
  size = counts.geometry;
  now = λ t. part_at_end (behind (told_world c0).geometry) v w (sound_after t) (left t);
  any_moment = left;
}
  where
    left : told → LeavesPart (behind (told_world c0).geometry) v w
    left t = behind_left l m kind placement c0 c1 v w P (sound t) (firm t) (crash t)

-- a core was called
pub behind_of_core : (told : Type 0) (c0 c1 : Core) (v w : View) → (told → IsSound w) → SameSize c0 c1 → (told → LeavesPart (behind c0.volume.tables.geometry) v w) → KeepsBehind told c0 c1 v w
behind_of_core told c0 c1 v w sound size leaves = record {
  size = (told_size c1.volume.tables).0 ∙ (size.geometry ∙ sym (told_size c0.volume.tables).0);
  now = λ t. part_at_end (behind (told_world c0).geometry) v w (sound t) (left t);
  any_moment = left;
}
  where
    left : told → LeavesPart (behind (told_world c0).geometry) v w
    left t = subst (λ (g : Geometry). LeavesPart (behind g) v w) (sym (told_size c0.volume.tables).0) (leaves t)

-- ---- by the size of the image

-- a core at a device tells the size of its image
pub size_at : (c : Core) (v : View) → IsCoreAt c v → (told_world c).geometry ≡ size_of_image v.reads
size_at c v at = (told_size c.volume.tables).0 ∙ sym (ap (λ (t : Tables). t.geometry) at.1.tables)

-- that is the size of the world
size_of_world : (x : Image) → size_of_image x ≡ (world_of x).geometry
size_of_world x = sym (told_size (tables_of (home x))).0 ∙ (told_like x).geometry

pub same_size : (x y : Image) → world_of x ≡ world_of y → size_of_image x ≡ size_of_image y
same_size x y same = size_of_world x ∙ ap (λ (w : World). w.geometry) same ∙ sym (size_of_world y)

-- a core was at its device
pub behind_on : (told : Type 0) (c0 c1 : Core) (v w : View) → (told → IsCoreAt c0 v) → KeepsBehind told c0 c1 v w → told → LeavesBehind v w
behind_on told c0 c1 v w at kept t = subst (λ (g : Geometry). LeavesPart (behind g) v w) (size_at c0 v (at t)) (kept.any_moment t)

-- one run more, over an image of the same world
pub behind_after : (u v w : View) → IsSound v → world_of v.reads ≡ world_of u.reads → LeavesBehind u v → LeavesBehind v w → LeavesBehind u w
behind_after u v w sound same so_far more =
    part_then (behind (size_of_image u.reads)) u v w sound so_far (subst (λ (g : Geometry). LeavesPart (behind g) v w) (same_size v.reads u.reads same) more)

-- a core was called that was at its device, and is
pub behind_between : (told : Type 0) (c0 c1 : Core) (u v w : View) → (told → IsCoreAt c0 u) → (told → IsCoreAt c1 v) → KeepsBehind told c0 c1 u v → (told → LeavesBehind v w) → told → LeavesBehind u w
behind_between told c0 c1 u v w was at so_far more t =
    subst (λ (g : Geometry). LeavesPart (behind g) u w) (size_at c0 u (was t))
    (behind_until told c0 c1 u v w so_far (λ t. subst (λ (g : Geometry). LeavesPart (behind g) v w) (sym (size_at c1 v (at t))) (more t)) t)
