-- What lies behind an image, from call to call.
use Rattle.std.proofs.Common.{◌≡◌, inl, inr, ℕ, ◌+◌, ◌*◌, ◌≤◌, List, [], false, sym, ◌∙◌, ap, subst, arith}
use Rattle.std.proofs.Math.Nat.{mul-le-mul_left}
use Rattle.image_runs.proofs.Common.{World, IsLawful, Geometry, IsConfined, IsFirm, LeavesOnly, LeavesPart, View, IsLeftInPut, IsSound, joined, weakened, part_at_end, part_confined, total, home, LeavesBehind, behind, size_of_image, AreClosed, Stands, world_of, Tables, tables_of, geometry_left, told_like, aside_then, Core, IsCoreAt, state_on, at_rest, State, IsVolumeAt, Volume, AreSameBehind, LeavesSameBehind, LeavesSectorsBehind, sectors_behind}
use Rattle.image_device.specs.Image.{Image}
use Rattle.image_device.proofs.Sets.{or_false}
use Rattle.intent_journal.proofs.Opened.{home_of_empty, opened_none}
use Rattle.recovery.specs.Areas.{is_fresh}
use Rattle.tsd_core.proofs.BehindLaws.{behind_of_data}
use Rattle.volume_laws.specs.Data.{HasSameData}
use Rattle.image_runs.proofs.Saying.{put_behind}

-- ---- the size of an image

pub size_of_world : (x : Image) → (world_of x).geometry ≡ size_of_image x
size_of_world x = sym (told_like x).geometry ∙ geometry_left (tables_of (home x)) _

-- images of one world are of one size
same_size : (old new : Image) → world_of new ≡ world_of old → size_of_image new ≡ size_of_image old
same_size old new same = sym (size_of_world new) ∙ ap (λ (w : World). w.geometry) same ∙ size_of_world old

pub size_of_volume : (vol : Volume) (old : Image) (now : View) → IsVolumeAt vol now → world_of now.reads ≡ world_of old → vol.tables.geometry ≡ size_of_image old
size_of_volume vol old now at same = ap (λ (t : Tables). t.geometry) (sym at.tables) ∙ same_size old now.reads same

pub size_of_core : (c : Core) (old : Image) (now : View) → IsCoreAt c now → state_on c now.reads ≡ at_rest (world_of old) → c.volume.tables.geometry ≡ size_of_image old
size_of_core c old now at same = ap (λ (t : Tables). t.geometry) (sym at.1.tables) ∙ same_size old now.reads (ap (λ (s : State). s.world) same)

-- ---- an image that is opened

-- where all data stays, so does what lies behind
pub behind_kept : (g : Geometry) (old new : View) → LeavesOnly old new (λ x f. HasSameData g [] old.reads x) → LeavesPart (behind g) old new
behind_kept g old new leaves = weakened old new _ (λ x f. behind g x ≡ behind g old.reads) leaves (λ x f same. behind_of_data g [] old.reads x tt same)

-- one run more, of a volume of that image
pub behind_then : (g : Geometry) (old mid new : View) → IsSound mid → g ≡ size_of_image old.reads → LeavesBehind old mid → LeavesPart (behind g) mid new → LeavesBehind old new
behind_then g old mid new sound size so_far more =
    aside_then (behind (size_of_image old.reads)) (behind g) old mid new sound (ap behind size) so_far more

-- a line more was put
pub behind_said : (part : Image → Image) (text : List ℕ) (old mid new : View) → IsSound mid → LeavesPart part old mid → LeavesOnly mid new (IsLeftInPut text mid) → LeavesPart part old new
behind_said part text old mid new sound so_far puts =
    put_behind old mid new text (λ x f. part x ≡ part old.reads) (λ x f. part x ≡ part old.reads) sound so_far puts (λ x f same. same) (λ x f same sent. same)

-- ---- an image that is formatted

-- what formatting writes lies in front of the end of the image
fresh_before_end : (g : Geometry) (n : ℕ) → IsLawful g → is_fresh g (total g + n) ≡ false
fresh_before_end g n lawful =
    let few : g.sectors * g.primaries ≤ g.sectors * g.blocks = mul-le-mul_left {m = g.primaries} {n = g.blocks} g.sectors (omega (arith, lawful.primaries.2)) in
    grind (arith, few)

pub behind_format : (g : Geometry) (old new : View) → IsLawful g → IsFirm old → IsConfined (is_fresh g) old new → LeavesSectorsBehind g old new
behind_format g old new lawful firm confined =
    part_confined (sectors_behind g) (is_fresh g) old new
    (λ x f left i n. left.0.agrees (total g + n) (or_false (is_fresh g (total g + n)) (old.loose (total g + n)) (fresh_before_end g n lawful) (firm (total g + n))) i)
    confined

-- where all gates are closed, no record is to be put in place
behind_closed : (g : Geometry) (x : Image) → AreClosed x → behind g x ≡ sectors_behind g x
behind_closed g x closed i n = home_of_empty x (opened_none x (closed 0 (omega arith))).0 i (total g + n)

-- formatting
pub behind_formatted : (g : Geometry) (old mid : View) → LeavesSectorsBehind g old mid → LeavesSameBehind g old mid
behind_formatted g old mid before = weakened old mid _ (λ x f. AreSameBehind g old.reads x) before (λ x f same. inl same)

-- and a run over it
pub behind_fresh : (g : Geometry) (w : World) (old mid new : View) → IsSound mid → w.geometry ≡ g → Stands mid.reads w → AreClosed mid.reads → LeavesSectorsBehind g old mid → LeavesBehind mid new
    → LeavesSameBehind g old new
behind_fresh g w old mid new sound size stands closed before after =
    let same : size_of_image mid.reads ≡ g = sym (size_of_world mid.reads) ∙ ap (λ (u : World). u.geometry) (sym stands.world) ∙ size in
    joined old mid new (λ x f. AreSameBehind g old.reads x) (λ x f. behind g x ≡ behind g mid.reads)
    (behind_formatted g old mid before)
    (subst (λ (h : Geometry). LeavesPart (behind h) mid new) same after)
    (λ x f left. inr (left ∙ behind_closed g mid.reads closed ∙ part_at_end (sectors_behind g) old mid sound before))
