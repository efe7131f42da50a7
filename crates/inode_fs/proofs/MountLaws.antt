-- What mounting comes to.
use Rattle.std.proofs.Common.{◌≡◌, ℕ, ◌<◌, ◌⊎◌, Bool, true, false, refl, sym, ap, subst, inl, Result, Ok, Err}
use Rattle.inode_fs.proofs.Common.{OnOk, FsRefusal, has_number, holds, is_there, nothing, inode_tree, Named, named_at, DiskView, IsDiskSound, IsValidNow, IsClientReady, IsTreeAlone, FindsTree, Runs, Client, OnlyLooks, IsClean, Trims, looks_refused, looks_but_refuses, on_any, device_alone, ready_still, not_refused, other_fault, no_tree_is, tree_stays, tidy_now, only_deleted, world_left, mount_runs, looked_left, looked_runs, mounted_by, Marks, MarksTree, TellsTree, Noted}
use Rattle.fs_trees.specs.declared.ask.ShellKind.TheVariants as kind
use Rattle.fs_trees.specs.declared.refusal.FsRefusal.TheVariants as no
use Rattle.inode_fs.specs.Tidying.{MayTidy}

-- what is said of a mount
pub record Mounts (told : Type 0) (c : Client) (old new : DiskView) (r : Result (Unit {0}) FsRefusal) : Type 0 where
  pub finds : told → FindsTree (mounted_by c) old new r
  pub runs : Runs told old new (IsTreeAlone (mounted_by c) old) r

-- ---- a tree is there

module _ {told : Type 0} (c : Client) {old mid : DiskView} {x : Bool} (m : Marks) (ready : IsClientReady (mounted_by c) old) (looks : OnlyLooks told old mid (Ok x)) (tells : told → TellsTree old.world c.root m x) (is : x ≡ true) where
  marked : told → MarksTree old.world c.root m
  marked t = subst (TellsTree old.world c.root m) is (tells t)

  pub may_mid : (told → Noted c mid m) → MayTidy told c (named_at kind.Inode mid.world c.root) mid m
  may_mid noted = record {
    ready = ready_still (mounted_by c) old mid looks.stays.0 looks.counts looks.unspent.0 ready;
    valid = λ t. (looks.looked t).0.valid;
    named = λ t. refl;
    marked = λ t. subst (λ w. MarksTree w c.root m) (sym (looks.looked t).0.world) (marked t);
    noted = noted;
  }

  -- and it was tidied
  module _ (valid : told → IsValidNow old) (sound : told → old.spent ≡ false → IsDiskSound old) {new : DiskView} {r : Result (Unit {0}) FsRefusal} (trims : Trims told c (named_at kind.Inode mid.world c.root) mid new r) (clean : told → OnOk r ((a : ℕ) → IsClean (named_at kind.Inode mid.world c.root) new.world a)) where
    abbrev n : Named
    n = named_at kind.Inode mid.world c.root

    there : told → is_there (inode_tree old.world c.root) ≡ true
    there t = (marked t).there

    named : told → n ≡ named_at kind.Inode old.world c.root
    named t = ap (λ w. named_at kind.Inode w c.root) (looks.looked t).0.world

    primary : told → c.root < old.world.geometry.primaries
    primary t = subst (λ y. c.root < y.primaries) (sym (sound t ready.unspent).geometry) ready.primary

    targets : told → (a b : ℕ) → holds (named_at kind.Inode old.world c.root).pairs a b ≡ true → has_number (named_at kind.Inode old.world c.root).blocks b ≡ true
    targets t = (marked t).targets

    pub mounted : Mounts told c old new r
    mounted = record {
      finds = λ t. record {
        tree = tree_stays kind.Inode told c old mid x n valid primary there named targets looks new r trims clean t;
        tidy = tidy_now kind.Inode told c old mid x n valid primary there named targets looks new r trims clean t;
        deletes = only_deleted kind.Inode told c old mid x n valid primary there named targets looks new r trims clean t;
        there = on_any (is_there (inode_tree old.world c.root) ≡ true) r (there t);
        only = device_alone r (trims.only t);
        not_there = not_refused _ r (trims.only t);
        world = world_left kind.Inode told c old mid x n valid primary there named targets looks new r trims clean t;
      };
      runs = mount_runs kind.Inode told c old mid x n valid primary there named targets looks new r trims clean;
    }

-- ---- none was mounted

only_looked : {told : Type 0} (c : Client) {old mid : DiskView} {e : FsRefusal} → (told → IsValidNow old) → OnlyLooks {X = Unit {0}} told old mid (Err e) → (told → (e ≡ no.NotThisFs) ⊎ (e ≡ no.Device))
    → (told → e ≡ no.NotThisFs → (inode_tree old.world c.root ≡ nothing) × (mid.world ≡ old.world)) → Mounts told c old mid (Err e)
only_looked {told} c {old} {mid} {e} valid looks only none = record {
  finds = λ t. record {
    tree = tt;
    tidy = tt;
    deletes = tt;
    there = tt;
    only = only t;
    not_there = none t;
    world = looked_left told (mounted_by c) old mid (Err e) valid looks t;
  };
  runs = looked_runs told (mounted_by c) old mid (Err e) valid looks;
}

-- there is none
pub none_there : {told : Type 0} (c : Client) {old mid : DiskView} {x : Bool} → (told → IsValidNow old) → OnlyLooks told old mid (Ok x) → (told → is_there (inode_tree old.world c.root) ≡ false) → Mounts told c old mid (Err no.NotThisFs)
none_there {told} c {old} {mid} {x} valid looks none = only_looked c valid (looks_but_refuses told old mid x no.NotThisFs other_fault looks) (λ t. inl refl)
    (λ t same. (no_tree_is (inode_tree old.world c.root) (none t), (looks.looked t).0.world))

-- the look was refused
pub look_lost : {told : Type 0} (c : Client) {old mid : DiskView} {e : FsRefusal} → (told → IsValidNow old) → OnlyLooks {X = Bool} told old mid (Err e) → (told → e ≡ no.Device) → Mounts told c old mid (Err e)
look_lost {told} c {old} {mid} {e} valid looks only = only_looked c valid (looks_refused told old mid e looks) (λ t. device_alone {X = Unit {0}} (Err e) (only t)) (λ t. not_refused {X = Unit {0}} _ (Err e) (only t))
