-- Marked blocks let go of what they don't name.
use Rattle.std.proofs.Common.{◌≡◌, ◌⊎◌, ℕ, ◌+◌, ◌<◌, ◌≤◌, true, false, List, [], refl, sym, ◌∙◌, ap, subst, arith, inl, inr, Some, Result, Ok, Err}
use Rattle.inode_fs.proofs.Common.{and_parts, and_from, or_cases, or_left, or_right, cases_lt, is_some, option_and_then, block_len, World, contents, has_number, holds, IsValid, is_there, inode_in, inode_at, Named, named_at, ways_lead_on, DiskView, state_of, IsDiskSound, Client, shown_at, MayWrite, IsWay, MayTrim, Trimmed, Trims, IsClean, ready_still, mounted_by, is_false, clash, root_may, is_inode, is_data_block, has_leftovers, Marks, blocks_in, names_at, Noted, MarksTree, IfErr, OnOk, FsRefusal, OnlyLooks, MayDelete, OnlyNamed, Found, inode_of, blocks_said, no_look, on_ok, trims_by_looks, trims_refused, then_trims, delete_still}
use Rattle.disk_laws.proofs.DoomLaws.{live_below}
use Rattle.fs_trees.specs.declared.ask.ShellKind.TheVariants as kind
use Rattle.fs_trees.specs.declared.refusal.FsRefusal.TheVariants as no
use Rattle.fs_laws.specs.Reading.{SameTree}
use Rattle.fs_laws.specs.Stays.{IsUnder, Keeps}
use Rattle.fs_laws.proofs.NamedLaws.{each_named}
use Rattle.fs_laws.proofs.TreeLaws.{named_is_under}
use Rattle.fs_client.proofs.TidyLaws.{both_ways, same_tree, still_clean}
use Rattle.inode_fs.specs.Tidying.{MayTidy}

-- ---- marks stay what they are

same_inode : (w next : World) (n : Named) → Keeps w next n → (b : ℕ) → has_number n.blocks b ≡ true → inode_at next b ≡ inode_at w b
same_inode w next n keeps b m =
    ap (λ g. option_and_then (inode_in (block_len g)) (contents next b)) keeps.geometry ∙ ap (option_and_then (inode_in (block_len w.geometry))) (keeps.bytes b m)

module _ (c : Client) (old new : DiskView) (n : Named) (named : n ≡ named_at kind.Inode old.world c.root) (trimmed : Trimmed c n old new) (m : Marks) (marked : MarksTree old.world c.root m) where
  same : SameTree kind.Inode c.root old.world new.world
  same = same_tree kind.Inode c old marked.there new (subst (λ x. Trimmed c x old new) named trimmed)

  inode_named : (b : ℕ) → is_inode m b ≡ true → has_number n.blocks b ≡ true
  inode_named b h = ap (λ x. has_number x.blocks b) named ∙ (marked.blocks b ∙ or_left (is_inode m b) _ h)

  names_same : (b : ℕ) → is_inode m b ≡ true → names_at new.world b ≡ names_at old.world b
  names_same b h = ap blocks_in (same_inode old.world new.world n trimmed.keeps b (inode_named b h))

  pub named_still : n ≡ named_at kind.Inode new.world c.root
  named_still = named ∙ sym same.named

  pub marks_still : MarksTree new.world c.root m
  marks_still = record {
    there = ap is_there same.tree ∙ marked.there;
    blocks = λ b. ap (λ x. has_number x.blocks b) same.named ∙ marked.blocks b;
    pairs = λ a b. ap (λ x. holds x.pairs a b) same.named ∙ (marked.pairs a b ∙ both_ways _ _
        (λ h. let parts = and_parts (is_inode m a) (has_number (names_at old.world a) b) h in and_from (is_inode m a) _ parts.0 (ap (λ xs. has_number xs b) (names_same a parts.0) ∙ parts.1))
        (λ h. let parts = and_parts (is_inode m a) (has_number (names_at new.world a) b) h in and_from (is_inode m a) _ parts.0 (ap (λ xs. has_number xs b) (sym (names_same a parts.0)) ∙ parts.1)));
    targets = λ a b h. ap (λ x. has_number x.blocks b) same.named ∙ marked.targets a b (ap (λ x. holds x.pairs a b) (sym same.named) ∙ h);
    inodes = λ b h. ap is_some (same_inode old.world new.world n trimmed.keeps b (inode_named b h)) ∙ marked.inodes b h;
  }

  pub noted_still : Noted c old m → Noted c new m
  noted_still noted = record {
    ways = λ b h. trimmed.ways c.session b (noted.ways b h) (trimmed.keeps.live b (inode_named b h));
    inodes = λ b d h k held. ap (λ xs. has_number xs d) (names_same b h) ∙ noted.inodes b d h k (trimmed.fewer b d held);
    bytes = λ b d h k. is_false (holds new.world.pairs b d) (λ held. clash (holds old.world.pairs b d) (trimmed.fewer b d held) (noted.bytes b d h k));
  }

pub tidy_still : {X : Type 0} (told : Type 0) (c : Client) (n : Named) (old new : DiskView) (m : Marks) (x : X) → MayTidy told c n old m → Trims told c n old new (Ok x) → MayTidy told c n new m
tidy_still told c n old new m x may trims = record {
  ready = ready_still (mounted_by c) old new trims.runs.stays.0 trims.runs.counts trims.runs.unspent.0 may.ready;
  valid = λ t. (trims.trimmed t).valid;
  named = λ t. named_still c old new n (may.named t) (trims.trimmed t) m (may.marked t);
  marked = λ t. marks_still c old new n (may.named t) (trims.trimmed t) m (may.marked t);
  noted = λ t. noted_still c old new n (may.named t) (trims.trimmed t) m (may.marked t) (may.noted t);
}

-- ---- what a block may let go

module _ (told : Type 0) (c : Client) (n : Named) (v : DiskView) (m : Marks) (t : told) (may : MayTidy told c n v m) (sound : IsDiskSound v) where
  pub under : IsUnder v.world c.root n
  under = subst (IsUnder v.world c.root) (sym (may.named t)) (named_is_under kind.Inode v.world c.root (subst (λ g. c.root < g.primaries) (sym sound.geometry) may.ready.primary) (may.marked t).there)

  -- what names others may be written
  namers : (a b : ℕ) → holds n.pairs a b ≡ true → is_inode m a ≡ true
  namers a b h = (and_parts (is_inode m a) _ (sym ((may.marked t).pairs a b) ∙ (ap (λ x. holds x.pairs a b) (sym (may.named t)) ∙ h))).0

  pub may_named : (b : ℕ) → has_number n.blocks b ≡ true → MayWrite c v b
  may_named b k =
      each_named (MayWrite c v) c.root n.pairs n.blocks under.order (root_may kind.Inode c v may.ready (may.valid t) sound)
      (λ a d h before.
      let pair = under.held a d h in
      record {
        number = may.ready.number;
        begun = may.ready.begun;
        live = (may.valid t).valid.raw.targets a d pair;
        attains = ways_lead_on (state_of v) c.session a d (shown_at c d) ((may.valid t).valid.raw.apart a d pair) pair ((may.noted t).ways a (namers a d h));
      }) b k

  way_named : (b : ℕ) → has_number n.blocks b ≡ true → IsWay c n v b
  way_named b k = each_named (IsWay c n v) c.root n.pairs n.blocks under.order (inl refl) (λ a d h before. inr (a, h, (may.noted t).ways a (namers a d h))) b k

  trim_named : (a : ℕ) (names : List ℕ) → has_number n.blocks a ≡ true → ((b : ℕ) → holds n.pairs a b ≡ true → has_number names b ≡ true) → MayTrim c n v a names
  trim_named a names k all = record { under = under; named = k; all = all; way = way_named a k; may = may_named a k }

  pub inode_named_here : (a : ℕ) → is_inode m a ≡ true → has_number n.blocks a ≡ true
  inode_named_here a h = ap (λ x. has_number x.blocks a) (may.named t) ∙ ((may.marked t).blocks a ∙ or_left (is_inode m a) _ h)

  pub trim_inode : (a : ℕ) → is_inode m a ≡ true → (names : List ℕ) → names_at v.world a ≡ names → MayTrim c n v a names
  trim_inode a h names are = trim_named a names (inode_named_here a h)
      (λ b k. ap (λ xs. has_number xs b) (sym are) ∙ (and_parts (is_inode m a) _ (sym ((may.marked t).pairs a b) ∙ (ap (λ x. holds x.pairs a b) (sym (may.named t)) ∙ k))).1)

  pub trim_data : (a : ℕ) → is_inode m a ≡ false → is_data_block m a ≡ true → MayTrim c n v a []
  trim_data a off h = trim_named a [] (ap (λ x. has_number x.blocks a) (may.named t) ∙ ((may.marked t).blocks a ∙ or_right (is_inode m a) _ h))
      (λ b k. absurd (clash (is_inode m a) (namers a b k) off))

-- ---- a block that is clean

module _ (c : Client) (n : Named) (v : DiskView) (m : Marks) (named : n ≡ named_at kind.Inode v.world c.root) (marked : MarksTree v.world c.root m) (noted : Noted c v m) (a : ℕ) where
  by_mark : has_number n.blocks a ≡ true → (is_inode m a ≡ true) ⊎ (is_data_block m a ≡ true)
  by_mark k = or_cases (is_inode m a) (is_data_block m a) (sym (marked.blocks a) ∙ (ap (λ x. has_number x.blocks a) (sym named) ∙ k))

  pair_of : (b : ℕ) → is_inode m a ≡ true → has_number (names_at v.world a) b ≡ true → holds n.pairs a b ≡ true
  pair_of b h k = ap (λ x. holds x.pairs a b) named ∙ (marked.pairs a b ∙ and_from (is_inode m a) _ h k)

  -- nothing was left over
  pub clean_before : has_leftovers m a ≡ false → IsClean n v.world a
  clean_before none k b held = elim (by_mark k) [
    | inl one ↦ pair_of b one (noted.inodes a b one none held)
    | inr two ↦ absurd (clash (holds v.world.pairs a b) held (noted.bytes a b two none))
  ]

  -- it isn't named
  pub clean_unmarked : is_inode m a ≡ false → is_data_block m a ≡ false → (w : World) → IsClean n w a
  clean_unmarked p q w k = absurd (elim (by_mark k) [
    | inl one ↦ clash (is_inode m a) one p
    | inr two ↦ clash (is_data_block m a) two q
  ])

  pub clean_inode : is_inode m a ≡ true → (names : List ℕ) → names_at v.world a ≡ names → (w : World) → ((b : ℕ) → holds w.pairs a b ≡ true → has_number names b ≡ true) → IsClean n w a
  clean_inode h names are w only k b held = pair_of b h (ap (λ xs. has_number xs b) are ∙ only b held)

pub clean_data : (n : Named) (w : World) (a : ℕ) → ((b : ℕ) → holds w.pairs a b ≡ true → has_number [] b ≡ true) → IsClean n w a
clean_data n w a only k b held = absurd (clash false (only b held) refl)

-- ---- a block lets go

module _ {told : Type 0} {c : Client} {n : Named} {v : DiskView} {m : Marks} (may : MayTidy told c n v m) (sound : told → v.spent ≡ false → IsDiskSound v) where
  sound_here : told → IsDiskSound v
  sound_here t = sound t may.ready.unspent

  look_trims : {X : Type 0} {mid : DiskView} {r : Result X FsRefusal} → OnlyLooks told v mid r → (told → IfErr r (λ e. e ≡ no.Device)) → Trims told c n v mid r
  look_trims {mid = mid} {r = r} looks only = trims_by_looks told c n v mid r may.valid (λ t. under told c n v m t may (sound_here t)) only looks

  -- nothing is deleted
  pub no_trims : Trims {X = Unit {0}} told c n v v (Ok tt)
  no_trims = look_trims (no_look told v may.ready.unspent sound_here may.valid) (λ t. tt)

  -- the read was refused
  pub lost_trims : {X : Type 0} {mid : DiskView} {e : FsRefusal} → OnlyLooks {X = X} told v mid (Err e) → (told → e ≡ no.Device) → Trims {X = Unit {0}} told c n v mid (Err e)
  lost_trims {mid = mid} {e = e} looks only = trims_refused told c n v mid e (look_trims looks only)

  module _ (b : ℕ) (one : is_inode m b ≡ true) where
    pub inode_may : told → MayWrite c v b
    inode_may t = may_named told c n v m t may (sound_here t) b (inode_named_here told c n v m t may (sound_here t) b one)

    -- an inode was read
    module _ {mid : DiskView} {found : Found} (looks : OnlyLooks told v mid (Ok found)) (says : told → inode_at v.world b ≡ Some (inode_of found.inode)) where
      pub inode_deletes : MayDelete told c n mid b (blocks_said (inode_of found.inode))
      inode_deletes = delete_still told c n v mid b (blocks_said (inode_of found.inode)) found
          (record { unspent = may.ready.unspent; valid = may.valid; trim = λ t. trim_inode told c n v m t may (sound_here t) b one (blocks_said (inode_of found.inode)) (ap blocks_in (says t)) })
          (look_trims looks (λ t. tt))

      module _ {new : DiskView} {r : Result (Unit {0}) FsRefusal} (after : Trims told c n mid new r) where
        pub inode_trims : Trims told c n v new r
        inode_trims = then_trims told c n v mid new found r (look_trims looks (λ t. tt)) after

        pub inode_cleans : (told → OnOk r (OnlyNamed new.world b (blocks_said (inode_of found.inode)))) → told → OnOk r (IsClean n new.world b)
        inode_cleans only t = on_ok (OnlyNamed new.world b (blocks_said (inode_of found.inode))) (IsClean n new.world b) r
            (clean_inode c n v m (may.named t) (may.marked t) (may.noted t) b one (blocks_said (inode_of found.inode)) (ap blocks_in (says t)) new.world) (only t)

  pub data_deletes : {b : ℕ} → is_inode m b ≡ false → is_data_block m b ≡ true → MayDelete told c n v b []
  data_deletes {b} off two = record { unspent = may.ready.unspent; valid = may.valid; trim = λ t. trim_data told c n v m t may (sound_here t) b off two }

-- ---- block after block

-- before this block all are clean
pub record Tidying (told : Type 0) (c : Client) (n : Named) (first now : DiskView) (m : Marks) (i : ℕ) : Type 0 where
  pub may : MayTidy told c n now m
  pub trims : Trims {X = Unit {0}} told c n first now (Ok tt)
  pub clean : told → (a : ℕ) → a < i → IsClean n now.world a

pub clean_next : (c : Client) (n : Named) (now new : DiskView) (i : ℕ) → Trimmed c n now new → ((a : ℕ) → a < i → IsClean n now.world a) → IsClean n new.world i → (a : ℕ) → a < i + 1 → IsClean n new.world a
clean_next c n now new i trimmed before here a less = elim (cases_lt a i) [
  | inl earlier ↦ still_clean n now.world new.world a trimmed.fewer (before a earlier)
  | inr late ↦ let same : i ≡ a = omega (arith, less, late) in subst (IsClean n new.world) same here
]

-- at the disk's end all
pub clean_all : (n : Named) (now : DiskView) (i end : ℕ) → IsValid now.world → end ≡ now.world.geometry.blocks → end ≤ i → ((a : ℕ) → a < i → IsClean n now.world a) → (a : ℕ) → IsClean n now.world a
clean_all n now i end valid whole past clean a k b held =
    let below = live_below now.world.blocks a (valid.raw.sources a b held) in
    let many = valid.raw.sized.each_block in
    clean a (omega (arith, below, many, whole, past)) k b held
