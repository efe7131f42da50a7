-- A removal, from the entry that was found to the last request.
use Rattle.std.proofs.Common.{◌≡◌, ℕ, ◌+◌, ◌*◌, ◌<◌, ◌≤◌, true, false, not, ◌&&◌, nat_lt, List, [], ◌∷◌, length, refl, sym, ◌∙◌, ap, subst, arith, inl, inr, ◌⊎◌, Option, Some, None, Result, Ok, length-append}
use Rattle.inode_changes.proofs.Common.{and_from, and_parts, flat_map, block_len, World, is_live, is_free, free_count, holds, IsValid, is_inside, Keeps, live-with_contents, Name, Path, is_name, nothing, at, is_there, names_in, with_at, Entry, entry_bytes, all_named, Inode, directory, block_named, without_listed, inode_bytes, inode_at, inode_tree, named_at, IsTidy, need, need_of, is_under, OthersStay, RoomNeed, directory_of, done, FsRefusal, inodes_under_root, outside_twice, DiskView, IsDiskSound, Stays, Answers, IsEitherTree, LeavesTidyWorld, KeepsRoom, Runs, Client, write_by, unlink_by, MayWrite, Looked, OnlyLooks, may_again, looks_as, then_looks, written, Steps, Leads, Went, dropped, inode_of, is_directory, entries_said, blocks_said, Found, Lookup, MayAsk, tree_under, mounted_by, IsLookup, lookup_refusal, refused_on, runs_look, runs_step, then_runs, as_before, same_room, no_more_room, write_takes, drop_takes, after_is, ask_done, rm_lost, rm_missing, rm_full, rm_none, may_still, held_live, block_long}
use Rattle.fs_trees.specs.declared.ask.ShellAsk.TheVariants as ask
use Rattle.fs_trees.specs.declared.ask.ShellKind.TheVariants as kind
use Rattle.fs_trees.specs.declared.refusal.FsRefusal.TheVariants as no
use Rattle.inode_layout.proofs.ListedLaws.{entry_length}
use Rattle.inode_changes.proofs.SpotLaws.{Spot, spot_of, live, order}
use Rattle.inode_changes.proofs.ListingLaws.{named_without, length_without}
use Rattle.inode_changes.proofs.RemovalLaws as removal
use Rattle.inode_changes.proofs.PlaceLaws.{there_at, entries_at}
use Rattle.fs_laws.proofs.AtLaws.{name_fits}

-- ---- how long a directory's bytes are

listed_length : (es : List Entry) → all_named es ≡ true → length (flat_map entry_bytes es) ≡ 32 * length es
listed_length [] h = refl
listed_length (e ∷ es) h =
    let parts = and_parts (is_name e.name) (all_named es) h in
    let here = entry_length e (name_fits e.name parts.0) in
    let later = listed_length es parts.1 in
    let both = length-append (entry_bytes e) (flat_map entry_bytes es) in
    omega (arith, here, later, both)

pub directory_length : (es : List Entry) → all_named es ≡ true → length (inode_bytes (directory es)) ≡ 16 + 32 * length es
directory_length es h = let list = listed_length es h in omega (arith, list)

-- ---- an entry that is to be taken out

-- the way or the entry is missing
module _ (c : Client) (first : DiskView) (path : Path) (there : is_there (tree_under c first) ≡ true) where
  abbrev wanted : RoomNeed
  wanted = need_of kind.Inode first.world c.root (tree_under c first) (ask.Rm path)

  pub lost_refuses : (e : FsRefusal) → lookup_refusal (tree_under c first) path no.IsDir ≡ Some e → refused_on (mounted_by c) first (ask.Rm path) ≡ Some e
  lost_refuses e h = rm_lost kind.Inode first.world.geometry (tree_under c first) (free_count first.world) (length first.world.pairs) wanted there path e h

  pub missing_refuses : ◌≡◌ {A = Option FsRefusal} (lookup_refusal (tree_under c first) path no.IsDir) None → is_there (at (tree_under c first) path) ≡ false → refused_on (mounted_by c) first (ask.Rm path) ≡ Some no.NoEntry
  missing_refuses h none = rm_missing kind.Inode first.world.geometry (tree_under c first) (free_count first.world) (length first.world.pairs) wanted there path h none

-- it was found, and what it names was read
pub record Taking (c : Client) (first mid rd : DiskView) (path : Path) (lookup : Lookup) (b : ℕ) (k : Inode) : Type 0 where
  pub valid : IsValid first.world
  pub tree : is_there (tree_under c first) ≡ true
  pub primary : c.root < first.world.geometry.primaries
  pub seen : Looked first mid
  pub is_dir : is_directory (inode_of lookup.directory.inode) ≡ true
  pub place_is : IsLookup c mid path lookup
  pub some : lookup.old ≡ Some b
  pub found : ◌≡◌ {A = Option FsRefusal} (lookup_refusal (tree_under c first) path no.IsDir) None
  pub read : Looked mid rd
  pub stays : Stays mid rd
  pub says : inode_at mid.world b ≡ Some k

module _ {c : Client} {first mid rd : DiskView} {path : Path} {lookup : Lookup} {b : ℕ} {k : Inode} (x : Taking c first mid rd path lookup b k) where
  abbrev es : List Entry
  es = entries_said (inode_of lookup.directory.inode)

  abbrev n : Name
  n = lookup.name.now

  abbrev d : ℕ
  d = lookup.directory.block

  abbrev p : Path
  p = directory_of path

  pub same : rd.world ≡ first.world
  same = x.read.world ∙ x.seen.world

  spot : Spot rd.world c.root p d es
  spot = subst (λ w. Spot w c.root p d es) (sym x.read.world) (spot_of c mid path lookup (ap (λ w. is_there (inode_tree w c.root)) x.seen.world ∙ x.tree) x.is_dir x.place_is)

  listed : block_named n es ≡ Some b
  listed = sym x.place_is.old ∙ x.some

  primary_rd : c.root < rd.world.geometry.primaries
  primary_rd = subst (λ w. c.root < w.geometry.primaries) (sym same) x.primary

  valid_rd : IsValid rd.world
  valid_rd = x.read.valid.valid

  pub may_write : MayWrite c rd d
  may_write = may_again c mid rd d x.read x.stays x.seen.valid x.place_is.above.stands.may

  abbrev bytes : List ℕ
  bytes = inode_bytes (directory (without_listed n es))

  pub fits : length (inode_bytes (directory (without_listed lookup.name.now (entries_said (inode_of lookup.directory.inode))))) ≤ block_len rd.world.geometry
  fits =
      let long = directory_length (without_listed n es) (named_without n es (order rd.world c.root p d es spot valid_rd).0) in
      let less = length_without n es in
      let head = block_long rd.world valid_rd in
      omega (arith, long, less, spot.room, head)

  -- ---- the deciding write

  abbrev next : World
  next = written rd.world d bytes

  inside : is_inside rd.world c.root (write_by c d bytes) ≡ true
  inside = and_from (is_under rd.world c.root d) true (removal.dir_under rd.world c.root p d es spot valid_rd primary_rd n) refl

  -- the tree with it
  tree_next : inode_tree next c.root ≡ with_at path nothing (tree_under c first)
  tree_next = removal.tree_next rd.world c.root p d es spot valid_rd primary_rd n
      ∙ (ap (λ q. with_at q nothing (inode_tree rd.world c.root)) (sym x.place_is.name) ∙ ap (λ w. with_at path nothing (inode_tree w c.root)) same)

  there_first : is_there (at (tree_under c first) path) ≡ true
  there_first = ap (λ w. is_there (at (inode_tree w c.root) path)) (sym x.seen.world) ∙ there_at c mid path lookup x.is_dir x.place_is b x.some

  entries_first : nat_lt 0 (length (names_in (at (tree_under c first) path))) ≡ (is_directory k && nat_lt 0 (length (blocks_said k)))
  entries_first = ap (λ w. nat_lt 0 (length (names_in (at (inode_tree w c.root) path)))) (sym x.seen.world) ∙ entries_at c mid path lookup x.is_dir x.place_is b x.some k x.says

  -- where it has entries, this refuses it
  pub full_refuses : (is_directory k && nat_lt 0 (length (blocks_said k))) ≡ true → refused_on (mounted_by c) first (ask.Rm path) ≡ Some no.NotEmpty
  full_refuses full = rm_full kind.Inode first.world.geometry (tree_under c first) (free_count first.world) (length first.world.pairs) (need_of kind.Inode first.world c.root (tree_under c first) (ask.Rm path)) x.tree path x.found
      there_first (entries_first ∙ full)

  module _ (empty : (is_directory k && nat_lt 0 (length (blocks_said k))) ≡ false) where
    -- nothing refuses it
    pub none_refuses : ◌≡◌ {A = Option FsRefusal} (refused_on (mounted_by c) first (ask.Rm path)) None
    none_refuses = rm_none kind.Inode first.world.geometry (tree_under c first) (free_count first.world) (length first.world.pairs) (need_of kind.Inode first.world c.root (tree_under c first) (ask.Rm path)) x.tree path x.found
        there_first (entries_first ∙ empty)

    after : (w : World) → inode_tree w c.root ≡ with_at path nothing (tree_under c first) → IsValid w → w.geometry ≡ rd.world.geometry → OthersStay c.root rd.world w → IsEitherTree (mounted_by c) first (ask.Rm path) w
    after w tree valid size others = (
      inr (tree ∙ sym (after_is (mounted_by c) first (ask.Rm path) none_refuses refl)),
      record {
        valid = valid;
        geometry = size ∙ ap (λ v. v.geometry) same;
        others = subst (λ v. OthersStay c.root v w) same others;
      },
    )

    pub stop_at_write : (w : World) → (w ≡ rd.world) ⊎ ((w ≡ written rd.world d bytes) × Leads rd.world (write_by c d bytes) (written rd.world d bytes)) → IsEitherTree (mounted_by c) first (ask.Rm path) w
    stop_at_write w (inl before) = as_before (mounted_by c) first (ask.Rm path) w x.valid (before ∙ same)
    stop_at_write w (inr h) = subst (IsEitherTree (mounted_by c) first (ask.Rm path)) (sym h.0)
        (after next tree_next h.1.valid h.1.geometry (h.1.others c.root primary_rd inside))

    module _ {wr : DiskView} (went : Went c rd wr (write_by c d bytes) d (written rd.world d bytes)) (stays_wr : Stays rd wr) where
      live_next : (a : ℕ) → is_live rd.world a ≡ true → is_live next a ≡ true
      live_next a h = live-with_contents rd.world d a _ h

      pub may_drop : MayWrite c wr d
      may_drop = may_still c rd wr d (ap (λ w. w.geometry) went.world) (ap (λ w. w.version) went.world) (ap (λ w. w.records) went.world) (λ a h. ap (λ w. holds w.pairs a d) went.world ∙ h)
          (λ s a held. went.ways s a held (live_next a (held_live rd x.read.valid s a held)))
          (ap (λ w. is_live w d) went.world ∙ live_next d (live rd.world c.root p d es spot valid_rd)) stays_wr may_write

      pub pair_held : holds wr.world.pairs d b ≡ true
      pair_held = ap (λ w. holds w.pairs d b) went.world ∙ removal.old_held rd.world c.root p d es spot valid_rd primary_rd n went.leads.valid b listed

      -- ---- letting go

      abbrev last : World
      last = dropped next d b

      inside_next : is_inside next c.root (unlink_by c d b) ≡ true
      inside_next = and_from (is_under next c.root d) _ (removal.dir_under_next rd.world c.root p d es spot valid_rd primary_rd n went.leads.valid)
          (and_from (is_under next c.root b) true (removal.old_under rd.world c.root p d es spot valid_rd primary_rd n went.leads.valid b listed) refl)

      module _ (leads : Leads next (unlink_by c d b) last) where
        keeps : Keeps next last (named_at kind.Inode next c.root)
        keeps = leads.keeps c.root (named_at kind.Inode next c.root) (inodes_under_root next c.root primary_rd (removal.there_next rd.world c.root p d es spot valid_rd primary_rd n))
            (ap not (removal.old_spared rd.world c.root p d es spot valid_rd primary_rd n went.leads.valid b listed))

        tree_last : inode_tree last c.root ≡ with_at path nothing (tree_under c first)
        tree_last = (removal.same_last rd.world c.root p d es spot valid_rd primary_rd n went.leads.valid b listed keeps leads.valid).tree ∙ tree_next

        others_last : OthersStay c.root rd.world last
        others_last = outside_twice c.root rd.world next last (went.leads.others c.root primary_rd inside) (leads.others c.root primary_rd inside_next)

        at_last_world : IsEitherTree (mounted_by c) first (ask.Rm path) last
        at_last_world = after last tree_last leads.valid (leads.geometry ∙ went.leads.geometry) others_last

      on_next : (w : World) → Leads wr.world (unlink_by c d b) w → w ≡ dropped wr.world d b → Leads next (unlink_by c d b) last
      on_next w leads e = subst (λ v. Leads v (unlink_by c d b) (dropped v d b)) went.world (subst (Leads wr.world (unlink_by c d b)) e leads)

      to_last : dropped wr.world d b ≡ last
      to_last = ap (λ v. dropped v d b) went.world

      pub stop_at_drop : (w : World) → (w ≡ wr.world) ⊎ ((w ≡ dropped wr.world d b) × Leads wr.world (unlink_by c d b) (dropped wr.world d b)) → IsEitherTree (mounted_by c) first (ask.Rm path) w
      stop_at_drop w (inl before) = subst (IsEitherTree (mounted_by c) first (ask.Rm path)) (sym (before ∙ went.world))
          (after next tree_next went.leads.valid went.leads.geometry (went.leads.others c.root primary_rd inside))
      stop_at_drop w (inr h) = subst (IsEitherTree (mounted_by c) first (ask.Rm path)) (sym (h.0 ∙ to_last)) (at_last_world (on_next (dropped wr.world d b) h.1 refl))

      module _ {fin : DiskView} (gone : Went c wr fin (unlink_by c d b) d (dropped wr.world d b)) (unspent : fin.spent ≡ false) where
        leads_last : Leads next (unlink_by c d b) last
        leads_last = on_next (dropped wr.world d b) gone.leads refl

        fin_is : fin.world ≡ last
        fin_is = gone.world ∙ to_last

        pub tree_fin : tree_under c fin ≡ with_at path nothing (tree_under c first)
        tree_fin = ap (λ w. inode_tree w c.root) fin_is ∙ tree_last leads_last

        pub left_fin : LeavesTidyWorld (mounted_by c) first fin
        left_fin = record {
          unspent = unspent;
          tidy = λ tidy. subst (λ w. IsTidy kind.Inode w c.root) (sym fin_is)
              (removal.tidy_last rd.world c.root p d es spot valid_rd primary_rd n went.leads.valid b listed (keeps leads_last) leads_last.valid (subst (λ w. IsTidy kind.Inode w c.root) (sym same) tidy));
          others = subst (OthersStay c.root first.world) (sym fin_is) (subst (λ v. OthersStay c.root v last) same (others_last leads_last));
          taken = λ a free lives. absurd (removal.none_taken rd.world c.root p d es spot valid_rd primary_rd n went.leads.valid b listed (keeps leads_last) leads_last.valid a
              (ap (λ w. is_free w a) same ∙ free) (ap (λ w. is_live w a) (sym fin_is) ∙ lives));
        }

-- ---- the call, stage by stage

-- after the looks: the entry and what it names were read
pub record HasRead (told : Type 0) (c : Client) (first mid rd : DiskView) (path : Path) (lookup : Lookup) (b : ℕ) (k : Inode) : Type 0 where
  pub taking : told → Taking c first mid rd path lookup b k
  pub looks : OnlyLooks {X = Unit {0}} told first rd (Ok tt)

pub read_so : {told : Type 0} {c : Client} {first mid rd : DiskView} {path : Path} {lookup : Lookup} {b : ℕ} {old : Found} → MayAsk told c first → (told → first.spent ≡ false → IsDiskSound first)
    → OnlyLooks told first mid (Ok lookup) → is_directory (inode_of lookup.directory.inode) ≡ true → (told → IsLookup c mid path lookup) → (told → ◌≡◌ {A = Option FsRefusal} (lookup_refusal (tree_under c first) path no.IsDir) None)
    → lookup.old ≡ Some b → OnlyLooks told mid rd (Ok old) → (told → inode_at mid.world b ≡ Some (inode_of old.inode)) → HasRead told c first mid rd path lookup b (inode_of old.inode)
read_so {told = told} {c = c} {first = first} {mid = mid} {rd = rd} {lookup = lookup} {old = old} may sound first_looks is_dir place found some looks says = record {
  taking = λ t. record {
    valid = (may.valid t).valid;
    tree = may.tree t;
    primary = subst (λ g. c.root < g.primaries) (sym (sound t may.ready.unspent).geometry) may.ready.primary;
    seen = (first_looks.looked t).0;
    is_dir = is_dir;
    place_is = place t;
    some = some;
    found = found t;
    read = (looks.looked t).0;
    stays = looks.stays.0;
    says = says t;
  };
  looks = then_looks told first mid rd lookup (Ok tt) first_looks (looks_as told mid rd old tt looks);
}

module _ {told : Type 0} {c : Client} {first mid rd : DiskView} {path : Path} {lookup : Lookup} {b : ℕ} {k : Inode} (r : HasRead told c first mid rd path lookup b k) (empty : (is_directory k && nat_lt 0 (length (blocks_said k))) ≡ false) where
  abbrev listing : List ℕ
  listing = inode_bytes (directory (without_listed lookup.name.now (entries_said (inode_of lookup.directory.inode))))

  abbrev P : World → Type 0
  P = IsEitherTree (mounted_by c) first (ask.Rm path)

  -- after the write: it decides
  pub wrote_runs : {wr : DiskView} {result : Result (Unit {0}) FsRefusal} → Steps told c rd wr (write_by c lookup.directory.block listing) lookup.directory.block (written rd.world lookup.directory.block listing) result → Runs told first wr (IsEitherTree (mounted_by c) first (ask.Rm path)) result
  wrote_runs {wr = wr} {result = result} wrote = then_runs told first rd wr P tt result
      (runs_look told first rd P (Ok tt) (λ t w is. as_before (mounted_by c) first (ask.Rm path) w (r.taking t).valid is) r.looks)
      (runs_step told c rd wr (write_by c lookup.directory.block listing) lookup.directory.block (written rd.world lookup.directory.block listing) P result (λ t. (r.taking t).read.valid) (λ t. stop_at_write (r.taking t) empty) wrote)

  module _ {wr : DiskView} (wrote : Steps {X = Unit {0}} told c rd wr (write_by c lookup.directory.block listing) lookup.directory.block (written rd.world lookup.directory.block listing) (Ok tt)) where
    -- after the pointer was dropped
    pub dropped_runs : {fin : DiskView} {result : Result ℕ FsRefusal} → Steps told c wr fin (unlink_by c lookup.directory.block b) lookup.directory.block (dropped wr.world lookup.directory.block b) result → Runs told first fin (IsEitherTree (mounted_by c) first (ask.Rm path)) result
    dropped_runs {fin = fin} {result = result} gone = then_runs told first wr fin P tt result (wrote_runs wrote)
        (runs_step told c wr fin (unlink_by c lookup.directory.block b) lookup.directory.block (dropped wr.world lookup.directory.block b) P result (λ t. (wrote.went t).valid) (λ t. stop_at_drop (r.taking t) empty (wrote.went t) wrote.stays.0) gone)

    module _ {fin : DiskView} {count : ℕ} (gone : Steps {X = ℕ} told c wr fin (unlink_by c lookup.directory.block b) lookup.directory.block (dropped wr.world lookup.directory.block b) (Ok count)) where
      pub keeps_room : told → KeepsRoom (need 0 0) first.world fin.world
      keeps_room t = no_more_room (need 0 0) first.world wr.world fin.world
          (no_more_room (need 0 0) first.world rd.world wr.world (same_room (need 0 0) first.world rd.world (r.looks.looked t).0.world)
          (write_takes c rd wr (r.taking t).read.valid (write_by c lookup.directory.block listing) lookup.directory.block listing (may_write (r.taking t)).live (wrote.went t)))
          (drop_takes c wr fin (wrote.went t).valid (unlink_by c lookup.directory.block b) lookup.directory.block b (gone.went t))

      pub removed : told → Answers {X = Unit {0}} (mounted_by c) first fin (ask.Rm path) (Ok tt) (λ _ answer. answer ≡ done)
      removed t = ask_done (mounted_by c) first fin (ask.Rm path) tt (none_refuses (r.taking t) empty) refl (tree_fin (r.taking t) empty (wrote.went t) wrote.stays.0 (gone.went t) gone.unspent.0)

      pub left : told → LeavesTidyWorld (mounted_by c) first fin
      left t = left_fin (r.taking t) empty (wrote.went t) wrote.stays.0 (gone.went t) gone.unspent.0
