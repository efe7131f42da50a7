-- The chains that mounting tidies.
use Rattle.std.proofs.Common.{◌≡◌, ℕ, ◌<◌, Bool, true, false, ◌&&◌, [], refl, sym, ◌∙◌, ap, subst, inl, ◌⊎◌, Result, Ok, Err}
use Rattle.chain_fs.proofs.Common.{and_parts, map, unwrap_or, World, are_apart, holds, is_there, chain_blocks, chain_pairs, chain_tree, by_chains, named_at, DiskView, IsDiskSound, IsClientReady, Client, OnlyLooks, ready_still, chain_is, listing_is, mounted_by, named_of, AreChainsUnder, MayTidy, chains_of, OnOk, FsRefusal, has_number, nothing, Named, Runs, FindsTree, IsTreeAlone, IsValidNow, IsClean, Trims, chain_targets, looks_refused, looks_but_refuses, on_any, device_alone, not_refused, other_fault, no_tree_is, tree_stays, tidy_now, only_deleted, world_left, mount_runs, looked_left, looked_runs}
use Rattle.std.specs.List.{list_all}
use Rattle.fs_trees.specs.Names.{are_distinct}
use Rattle.fs_trees.specs.declared.ask.ShellKind.TheVariants as kind
use Rattle.fs_trees.specs.declared.refusal.FsRefusal.TheVariants as no
use Rattle.fs_laws.specs.Stays.{IsUnder}
use Rattle.fs_laws.proofs.ChainLaws.{Found, found}
use Rattle.fs_laws.proofs.TreeLaws.{named_is_under}

-- ---- the chains that stand

module _ (w : World) (root : ℕ) (there : is_there (chain_tree w root) ≡ true) where
  abbrev f : Found w root
  f = found w root there

  chains_are : chains_of w root ≡ f.chains
  chains_are = ap (λ o. unwrap_or o (record { directory = []; files = [] })) f.under

  pub named_are : named_of (chains_of w root) ≡ named_at kind.Chain w root
  named_are = ap named_of chains_are ∙ sym (ap by_chains f.under)

pub stands_now : (c : Client) (v : DiskView) → c.root < v.world.geometry.primaries → is_there (chain_tree v.world c.root) ≡ true → AreChainsUnder c (chains_of v.world c.root) v
stands_now c v primary there =
    let w = v.world in
    let f = found w c.root there in
    let k = f.chains in
    let listing = listing_is w k.directory k.files f.files in
    let A = list_all (λ e. holds w.pairs e.0 e.1) (chain_pairs k) in
    let B = are_apart (chain_blocks k) in
    let right = (and_parts (A && B && are_distinct (map (λ g. g.name) k.files)) _ f.right).0 in
    subst (λ x. AreChainsUnder c x v) (sym (chains_are w c.root there)) (record {
      under = subst (λ o. IsUnder w c.root (by_chains o)) f.under (named_is_under kind.Chain w c.root primary there);
      directory = chain_is w c.root k.directory f.directory;
      entries = listing.entries;
      in_order = listing.in_order;
      files = listing.files;
      apart = (and_parts A B (and_parts (A && B) _ right).0).1;
    })

-- ---- a tree is there

-- what is said of a mount
pub record Mounts (told : Type 0) (c : Client) (old new : DiskView) (r : Result (Unit {0}) FsRefusal) : Type 0 where
  pub finds : told → FindsTree (mounted_by c) old new r
  pub runs : Runs told old new (IsTreeAlone (mounted_by c) old) r

module _ (told : Type 0) (c : Client) (old mid : DiskView) (x : Bool) (ready : IsClientReady (mounted_by c) old) (sound : told → IsDiskSound mid) (there : told → is_there (chain_tree old.world c.root) ≡ true) (looks : OnlyLooks told old mid (Ok x)) where
  there_mid : told → is_there (chain_tree mid.world c.root) ≡ true
  there_mid t = ap (λ w. is_there (chain_tree w c.root)) (looks.looked t).0.world ∙ there t

  primary_mid : told → c.root < mid.world.geometry.primaries
  primary_mid t = subst (λ g. c.root < g.primaries) (sym (sound t).geometry) (subst (λ g. c.root < g.primaries) (sym looks.counts.geometry) ready.primary)

  pub primary_old : told → c.root < old.world.geometry.primaries
  primary_old t = subst (λ w. c.root < w.geometry.primaries) (looks.looked t).0.world (primary_mid t)

  pub may_mid : MayTidy told c (chains_of mid.world c.root) mid
  may_mid = record {
    ready = ready_still (mounted_by c) old mid looks.stays.0 looks.counts looks.unspent.0 ready;
    valid = λ t. (looks.looked t).0.valid;
    stands = λ t. stands_now c mid (primary_mid t) (there_mid t);
  }

  pub named_old : told → named_of (chains_of mid.world c.root) ≡ named_at kind.Chain old.world c.root
  named_old t = named_are mid.world c.root (there_mid t) ∙ ap (λ w. named_at kind.Chain w c.root) (looks.looked t).0.world

  -- and it was tidied
  module _ (valid : told → IsValidNow old) {new : DiskView} {r : Result (Unit {0}) FsRefusal} (trims : Trims told c (named_of (chains_of mid.world c.root)) mid new r) (clean : told → OnOk r ((a : ℕ) → IsClean (named_of (chains_of mid.world c.root)) new.world a)) where
    abbrev n : Named
    n = named_of (chains_of mid.world c.root)

    targets : told → (a b : ℕ) → holds (named_at kind.Chain old.world c.root).pairs a b ≡ true → has_number (named_at kind.Chain old.world c.root).blocks b ≡ true
    targets t = chain_targets old.world c.root (there t)

    pub mounted : Mounts told c old new r
    mounted = record {
      finds = λ t. record {
        tree = tree_stays kind.Chain told c old mid x n valid primary_old there named_old targets looks new r trims clean t;
        tidy = tidy_now kind.Chain told c old mid x n valid primary_old there named_old targets looks new r trims clean t;
        deletes = only_deleted kind.Chain told c old mid x n valid primary_old there named_old targets looks new r trims clean t;
        there = on_any (is_there (chain_tree old.world c.root) ≡ true) r (there t);
        only = device_alone r (trims.only t);
        not_there = not_refused _ r (trims.only t);
        world = world_left kind.Chain told c old mid x n valid primary_old there named_old targets looks new r trims clean t;
      };
      runs = mount_runs kind.Chain told c old mid x n valid primary_old there named_old targets looks new r trims clean;
    }

-- ---- none was mounted

only_looked : {told : Type 0} (c : Client) {old mid : DiskView} {e : FsRefusal} → (told → IsValidNow old) → OnlyLooks {X = Unit {0}} told old mid (Err e) → (told → (e ≡ no.NotThisFs) ⊎ (e ≡ no.Device))
    → (told → e ≡ no.NotThisFs → (chain_tree old.world c.root ≡ nothing) × (mid.world ≡ old.world)) → Mounts told c old mid (Err e)
only_looked {told} c {old} {mid} {e} valid looks only none = record {
  finds = λ t. record {
    tree = tt;
    tidy = tt;
    deletes = tt;
    there = tt;
    only = only t;
    not_there = none t;
    world = looked_left told (mounted_by c) old mid (Err e) valid looks t;
  };
  runs = looked_runs told (mounted_by c) old mid (Err e) valid looks;
}

-- there is none
pub none_there : {told : Type 0} (c : Client) {old mid : DiskView} {x : Bool} → (told → IsValidNow old) → OnlyLooks told old mid (Ok x) → (told → is_there (chain_tree old.world c.root) ≡ false) → Mounts told c old mid (Err no.NotThisFs)
none_there {told} c {old} {mid} {x} valid looks none = only_looked c valid (looks_but_refuses told old mid x no.NotThisFs other_fault looks) (λ t. inl refl)
    (λ t same. (no_tree_is (chain_tree old.world c.root) (none t), (looks.looked t).0.world))

-- the look was refused
pub look_lost : {told : Type 0} (c : Client) {old mid : DiskView} {e : FsRefusal} → (told → IsValidNow old) → OnlyLooks {X = Bool} told old mid (Err e) → (told → e ≡ no.Device) → Mounts told c old mid (Err e)
look_lost {told} c {old} {mid} {e} valid looks only = only_looked c valid (looks_refused told old mid e looks) (λ t. device_alone {X = Unit {0}} (Err e) (only t)) (λ t. not_refused {X = Unit {0}} _ (Err e) (only t))
