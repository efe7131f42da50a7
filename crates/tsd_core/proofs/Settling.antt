-- What is left to be reclaimed, over calls that keep the world.
use Rattle.std.proofs.Common.{◌≡◌, ◌⊎◌, ℕ, ◌+◌, ◌-◌, ◌≤◌, false, ◌∙◌, sym, ap, subst, arith, inl, inr, Result, Ok, Err}
use Rattle.tsd_core.proofs.Common.{OnOk, fitted, World, View, leaves_both, weakened, joined, Image, Stands, world_of, IsMadeFor, Table, IsVolumeAt, IsVolumeReady, Volume, world_on, debt, owed, LeavesWorld, LeavesOwed, Works, Core, IsCoreReady, state_on, told_state, told_world, LeavesNoDebt}

pub debt_at : (vol : Volume) (v : View) → IsVolumeAt vol v → debt v.reads ≡ owed vol.tables
debt_at vol v at = ap owed at.tables

pub owes_no_more : (vol : Volume) (v w : View) → IsVolumeAt vol v → LeavesOwed v w (owed vol.tables) → LeavesWorld v w → LeavesNoDebt v w
owes_no_more vol v w at owing world = weakened v w _ _ (leaves_both v w _ _ owing world) (λ y f left. (omega (arith, left.0, debt_at vol v at), left.1.1))

pub owes_less : (old new : Volume) (v w : View) → IsVolumeAt old v → IsVolumeAt new w → (owed new.tables + 4 ≤ owed old.tables) ⊎ (owed new.tables ≡ 0) → debt w.reads ≤ debt v.reads - 4
owes_less old new v w before after (inl four) = omega (arith, four, debt_at old v before, debt_at new w after)
owes_less old new v w before after (inr none) = omega (arith, none, debt_at new w after)

-- one call after another
pub worlds_joined : (v m w : View) → LeavesWorld v m → LeavesWorld m w → world_on m ≡ world_on v → m.sent ≡ v.sent → LeavesWorld v w
worlds_joined v m w one two same sent = joined v m w _ _ one two (λ x f left. (subst (λ y. Stands x y) same left.0, left.1 ∙ sent))

pub owing_joined : (v m w : View) (few most : ℕ) → LeavesOwed v m most → LeavesOwed m w few → few ≤ most → LeavesOwed v w most
owing_joined v m w few most one two less = joined v m w _ _ one two (λ x f left. omega (arith, left, less))

pub works_joined : (v m w : View) → Works v m → Works m w → Works v w
works_joined v m w one two = record { clock = omega (arith, one.clock, two.clock); faults = omega (arith, one.faults, two.faults); put_faults = two.put_faults ∙ one.put_faults; writes = omega (arith, one.writes, two.writes) }

-- ---- a core whose volume tells the same world
pub ready_still : (c d : Core) → IsVolumeReady d.volume → d.volume.is_spent ≡ false → told_world d ≡ told_world c → d.grants ≡ c.grants → IsCoreReady c → IsCoreReady d
ready_still c d ready unspent told grants was = record {
  volume = ready;
  unspent = unspent;
  made = subst (λ (g : Table). IsMadeFor (told_world d) g) (sym grants) (subst (λ (w : World). IsMadeFor w c.grants) (sym told) was.made);
}

pub told_still : (c d : Core) → told_world d ≡ told_world c → d.grants ≡ c.grants → told_state d ≡ told_state c
told_still c d told grants = λ i. record { world = told i; sessions = fitted (told i) (grants i).sessions }

pub state_still : (c d : Core) (x y : Image) → world_of y ≡ world_of x → told_world d ≡ told_world c → d.grants ≡ c.grants → state_on d y ≡ state_on c x
state_still c d x y world told grants = λ i. record { world = world i; sessions = fitted (told i) (grants i).sessions }

-- ---- what holds of an Ok

pub also_ok : {T E A B P : Type 0} (r : Result T E) → (A → B → P) → OnOk r A → OnOk r B → OnOk r P
also_ok (Ok x) f a b = f a b
also_ok (Err e) f a b = tt

pub all_ok : {T E A B C P : Type 0} (r : Result T E) → (A → B → C → P) → OnOk r A → OnOk r B → OnOk r C → OnOk r P
all_ok (Ok x) f a b c = f a b c
all_ok (Err e) f a b c = tt
