-- What was made is entered, from the deciding write to the last request.
-- The laws of the write and of the pointer that is dropped stand in DecideLaws. Here they are put together for the lookup of a path.
use Rattle.std.proofs.Common.{◌≡◌, ℕ, ◌≤◌, true, List, [], ◌∷◌, ◌++◌, length, sym, ◌∙◌, ap, subst, arith, inl, inr, ◌⊎◌, Option, Some, None, Result, Ok}
use Rattle.inode_changes.proofs.Common.{block_len, World, has_number, holds, Name, Path, Tree, with_at, Entry, directory, block_named, with_listed, inode_bytes, data_blocks, inode_tree, OthersStay, directory_of, is_under, FsRefusal, DiskView, IsValidNow, Runs, Client, write_by, unlink_by, written, Steps, Leads, dropped, runs_step, then_runs, inode_of, entries_said, Lookup, block_long, Grounds, IsMadeInode, MayEnter, HasMade, HasEither, Enters, EntersOrNot}
use Rattle.inode_changes.proofs.SpotLaws.{order}
use Rattle.inode_changes.proofs.ListingLaws.{named_with}
use Rattle.inode_changes.proofs.RemoveLaws.{directory_length}
use Rattle.inode_changes.proofs.MakingLaws.{tree_same}
use Rattle.inode_changes.proofs.EntryLaws.{spot, name_is, deep, fits, of_files}
use Rattle.inode_changes.proofs.DecideLaws as deciding

module _ (c : Client) (first : World) (path : Path) (lookup : Lookup) (i : ℕ) (made : Tree) (g : Grounds c.root first path lookup) (w : World) (m : IsMadeInode c.root first lookup.directory.block i made w) where
  abbrev es : List Entry
  es = entries_said (inode_of lookup.directory.inode)

  abbrev n : Name
  n = lookup.name.now

  abbrev d : ℕ
  d = lookup.directory.block

  abbrev p : Path
  p = directory_of path

  -- the world after the deciding write
  abbrev next : World
  next = written w d (inode_bytes (directory (with_listed (record { name = n; block = i }) es)))

  of : (b : ℕ) → has_number m.shared b ≡ true → has_number (data_blocks (spot c.root first path lookup g).old) b ≡ true
  of = of_files c.root first path lookup g m.shared m.of_files

  made_tree : with_at (p ++ n ∷ []) made (inode_tree first c.root) ≡ with_at path made (inode_tree first c.root)
  made_tree = ap (λ q. with_at q made (inode_tree first c.root)) (sym g.entry.name)

  tree_next : inode_tree next c.root ≡ with_at path made (inode_tree first c.root)
  tree_next = deciding.tree_next first c.root p d es (spot c.root first path lookup g) g.valid g.primary n (name_is c.root first path lookup g) (deep c.root first path lookup g).0 (deep c.root first path lookup g).1
      i m.shared m.fresh w m.making m.inode m.says m.blocks m.bare of (fits c.root first path lookup g i)
      ∙ (ap (λ t. with_at (p ++ n ∷ []) t (inode_tree first c.root)) m.is ∙ made_tree)

  -- the list fits the block
  pub list_is_short : length (inode_bytes (directory (with_listed (record { name = lookup.name.now; block = i }) (entries_said (inode_of lookup.directory.inode))))) ≤ block_len w.geometry
  list_is_short =
      let long = directory_length (with_listed (record { name = n; block = i }) es) (named_with (record { name = n; block = i }) es (name_is c.root first path lookup g) (order first c.root p d es (spot c.root first path lookup g) g.valid).0) in
      let room = fits c.root first path lookup g i in
      let head = block_long first g.valid in
      subst (λ x. length (inode_bytes (directory (with_listed (record { name = n; block = i }) es))) ≤ block_len x) (sym m.making.geometry) (omega (arith, long, room, head))

  dir_under : is_under first c.root d ≡ true
  dir_under = deciding.dir_under first c.root p d es (spot c.root first path lookup g) g.valid g.primary n (name_is c.root first path lookup g) (deep c.root first path lookup g).0 (deep c.root first path lookup g).1
      i m.shared m.fresh w m.making m.inode m.says m.blocks m.bare of (fits c.root first path lookup g i)

  -- before it the tree is as it was
  pub either_before : HasEither c.root first path made w
  either_before = record {
    tree = inl (tree_same c.root first g.valid g.primary g.there d dir_under i m.shared m.fresh w m.making);
    valid = m.making.valid;
    geometry = m.making.geometry;
    others = m.making.others;
  }

  module _ (leads : Leads w (write_by c lookup.directory.block (inode_bytes (directory (with_listed (record { name = lookup.name.now; block = i }) (entries_said (inode_of lookup.directory.inode))))))
      (written w lookup.directory.block (inode_bytes (directory (with_listed (record { name = lookup.name.now; block = i }) (entries_said (inode_of lookup.directory.inode))))))) where
    others_next : OthersStay c.root first next
    others_next = deciding.others_next first c.root p d es (spot c.root first path lookup g) g.valid g.primary n (name_is c.root first path lookup g) (deep c.root first path lookup g).0 (deep c.root first path lookup g).1
        i m.shared m.fresh w m.making m.inode m.says m.blocks m.bare of (fits c.root first path lookup g i) c leads

    pub either_next : HasEither c.root first path made (written w lookup.directory.block (inode_bytes (directory (with_listed (record { name = lookup.name.now; block = i }) (entries_said (inode_of lookup.directory.inode))))))
    either_next = record { tree = inr tree_next; valid = leads.valid; geometry = leads.geometry ∙ m.making.geometry; others = others_next }

    -- nothing had the name
    pub new_made : ◌≡◌ {A = Option ℕ} lookup.old None → HasMade c.root first path made (written w lookup.directory.block (inode_bytes (directory (with_listed (record { name = lookup.name.now; block = i }) (entries_said (inode_of lookup.directory.inode))))))
    new_made none =
        let k = sym g.entry.old ∙ none in
        record {
          tree = tree_next;
          tidy = deciding.tidy_new first c.root p d es (spot c.root first path lookup g) g.valid g.primary n (name_is c.root first path lookup g) (deep c.root first path lookup g).0 (deep c.root first path lookup g).1
              i m.shared m.fresh w m.making m.inode m.says m.blocks m.bare of (fits c.root first path lookup g i) leads.valid k;
          others = others_next;
          taken = deciding.taken_new first c.root p d es (spot c.root first path lookup g) g.valid g.primary n (name_is c.root first path lookup g) (deep c.root first path lookup g).0 (deep c.root first path lookup g).1
              i m.shared m.fresh w m.making m.inode m.says m.blocks m.bare of (fits c.root first path lookup g i) leads.valid k;
        }

    -- an old one had it
    module _ (b : ℕ) (some : lookup.old ≡ Some b) where
      named : block_named n es ≡ Some b
      named = sym g.entry.old ∙ some

      pub old_pair : holds w.pairs lookup.directory.block b ≡ true
      old_pair = deciding.old_held first c.root p d es (spot c.root first path lookup g) g.valid g.primary n (name_is c.root first path lookup g) (deep c.root first path lookup g).0 (deep c.root first path lookup g).1
          i m.shared m.fresh w m.making m.inode m.says m.blocks m.bare of (fits c.root first path lookup g i) leads.valid b named

      module _ (gone : Leads (written w lookup.directory.block (inode_bytes (directory (with_listed (record { name = lookup.name.now; block = i }) (entries_said (inode_of lookup.directory.inode)))))) (unlink_by c lookup.directory.block b)
          (dropped (written w lookup.directory.block (inode_bytes (directory (with_listed (record { name = lookup.name.now; block = i }) (entries_said (inode_of lookup.directory.inode)))))) lookup.directory.block b)) where
        abbrev last : World
        last = dropped next d b

        tree_last : inode_tree last c.root ≡ with_at path made (inode_tree first c.root)
        tree_last = deciding.tree_last first c.root p d es (spot c.root first path lookup g) g.valid g.primary n (name_is c.root first path lookup g) (deep c.root first path lookup g).0 (deep c.root first path lookup g).1
            i m.shared m.fresh w m.making m.inode m.says m.blocks m.bare of (fits c.root first path lookup g i) leads.valid b named c gone ∙ tree_next

        others_last : OthersStay c.root first last
        others_last = deciding.others_last first c.root p d es (spot c.root first path lookup g) g.valid g.primary n (name_is c.root first path lookup g) (deep c.root first path lookup g).0 (deep c.root first path lookup g).1
            i m.shared m.fresh w m.making m.inode m.says m.blocks m.bare of (fits c.root first path lookup g i) leads.valid b named c gone others_next

        pub either_last : HasEither c.root first path made (dropped (written w lookup.directory.block (inode_bytes (directory (with_listed (record { name = lookup.name.now; block = i }) (entries_said (inode_of lookup.directory.inode)))))) lookup.directory.block b)
        either_last = record { tree = inr tree_last; valid = gone.valid; geometry = gone.geometry ∙ (leads.geometry ∙ m.making.geometry); others = others_last }

        pub old_made : HasMade c.root first path made (dropped (written w lookup.directory.block (inode_bytes (directory (with_listed (record { name = lookup.name.now; block = i }) (entries_said (inode_of lookup.directory.inode)))))) lookup.directory.block b)
        old_made = record {
          tree = tree_last;
          tidy = deciding.tidy_last first c.root p d es (spot c.root first path lookup g) g.valid g.primary n (name_is c.root first path lookup g) (deep c.root first path lookup g).0 (deep c.root first path lookup g).1
              i m.shared m.fresh w m.making m.inode m.says m.blocks m.bare of (fits c.root first path lookup g i) leads.valid b named c gone;
          others = others_last;
          taken = deciding.taken_last first c.root p d es (spot c.root first path lookup g) g.valid g.primary n (name_is c.root first path lookup g) (deep c.root first path lookup g).0 (deep c.root first path lookup g).1
              i m.shared m.fresh w m.making m.inode m.says m.blocks m.bare of (fits c.root first path lookup g i) leads.valid b named c gone;
        }

-- ---- whatever has gone before

module _ (c : Client) (lookup : Lookup) (i : ℕ) (w : World) where
  abbrev dir : ℕ
  dir = lookup.directory.block

  abbrev list : List ℕ
  list = inode_bytes (directory (with_listed (record { name = lookup.name.now; block = i }) (entries_said (inode_of lookup.directory.inode))))

  pub short_enough : MayEnter c.root lookup i w → length (inode_bytes (directory (with_listed (record { name = lookup.name.now; block = i }) (entries_said (inode_of lookup.directory.inode))))) ≤ block_len w.geometry
  short_enough may = list_is_short c may.0 may.1 lookup i may.2 may.3 w may.4

  pub stop_at_write : (v : World) → (v ≡ w) ⊎ ((v ≡ written w dir list) × Leads w (write_by c dir list) (written w dir list)) → EntersOrNot c.root lookup i w v
  stop_at_write v h first path made g m = elim h [
    | inl before ↦ subst (HasEither c.root first path made) (sym before) (either_before c first path lookup i made g w m)
    | inr after ↦ subst (HasEither c.root first path made) (sym after.0) (either_next c first path lookup i made g w m after.1)
  ]

  module _ (mid : World) (is : mid ≡ written w lookup.directory.block (inode_bytes (directory (with_listed (record { name = lookup.name.now; block = i }) (entries_said (inode_of lookup.directory.inode))))))
      (leads : Leads w (write_by c lookup.directory.block (inode_bytes (directory (with_listed (record { name = lookup.name.now; block = i }) (entries_said (inode_of lookup.directory.inode))))))
      (written w lookup.directory.block (inode_bytes (directory (with_listed (record { name = lookup.name.now; block = i }) (entries_said (inode_of lookup.directory.inode))))))) where
    pub enters_new : ◌≡◌ {A = Option ℕ} lookup.old None → Enters c.root lookup i w mid
    enters_new none first path made g m = subst (HasMade c.root first path made) (sym is) (new_made c first path lookup i made g w m leads none)

    module _ (b : ℕ) (some : lookup.old ≡ Some b) where
      pub still_held : MayEnter c.root lookup i w → holds mid.pairs lookup.directory.block b ≡ true
      still_held may = ap (λ x. holds x.pairs dir b) is ∙ old_pair c may.0 may.1 lookup i may.2 may.3 w may.4 leads b some

      on_next : Leads mid (unlink_by c dir b) (dropped mid dir b) → Leads (written w dir list) (unlink_by c dir b) (dropped (written w dir list) dir b)
      on_next gone = subst (λ x. Leads x (unlink_by c dir b) (dropped x dir b)) is gone

      to_last : dropped mid dir b ≡ dropped (written w dir list) dir b
      to_last = ap (λ x. dropped x dir b) is

      pub stop_at_drop : (v : World) → (v ≡ mid) ⊎ ((v ≡ dropped mid lookup.directory.block b) × Leads mid (unlink_by c lookup.directory.block b) (dropped mid lookup.directory.block b)) → EntersOrNot c.root lookup i w v
      stop_at_drop v h first path made g m = elim h [
        | inl before ↦ subst (HasEither c.root first path made) (sym (before ∙ is)) (either_next c first path lookup i made g w m leads)
        | inr after ↦ subst (HasEither c.root first path made) (sym (after.0 ∙ to_last)) (either_last c first path lookup i made g w m leads b some (on_next after.1))
      ]

      pub enters_old : (v : World) → v ≡ dropped mid lookup.directory.block b → Leads mid (unlink_by c lookup.directory.block b) (dropped mid lookup.directory.block b) → Enters c.root lookup i w v
      enters_old v e gone first path made g m = subst (HasMade c.root first path made) (sym (e ∙ to_last)) (old_made c first path lookup i made g w m leads b some (on_next gone))

-- ---- the call, stage by stage

-- the directory's bytes with the entry
abbrev pub listing : Lookup → ℕ → List ℕ
listing lookup i = inode_bytes (directory (with_listed (record { name = lookup.name.now; block = i }) (entries_said (inode_of lookup.directory.inode))))

module _ {told : Type 0} {c : Client} {old mid : DiskView} (lookup : Lookup) (i : ℕ) (now : told → IsValidNow old) where
  -- after the write: it decides
  pub wrote_runs : {result : Result (Unit {0}) FsRefusal} → Steps told c old mid (write_by c lookup.directory.block (listing lookup i)) lookup.directory.block (written old.world lookup.directory.block (listing lookup i)) result → Runs told old mid (EntersOrNot c.root lookup i old.world) result
  wrote_runs {result = result} wrote =
      let d = lookup.directory.block in
      runs_step told c old mid (write_by c d (listing lookup i)) d (written old.world d (listing lookup i)) (EntersOrNot c.root lookup i old.world) result now (λ t. stop_at_write c lookup i old.world) wrote

  -- after the pointer was dropped
  module _ (wrote : Steps {X = Unit {0}} told c old mid (write_by c lookup.directory.block (listing lookup i)) lookup.directory.block (written old.world lookup.directory.block (listing lookup i)) (Ok tt)) {b : ℕ} (some : lookup.old ≡ Some b) where
    pub dropped_runs : {fin : DiskView} {result : Result ℕ FsRefusal} → Steps told c mid fin (unlink_by c lookup.directory.block b) lookup.directory.block (dropped mid.world lookup.directory.block b) result → Runs told old fin (EntersOrNot c.root lookup i old.world) result
    dropped_runs {fin = fin} {result = result} gone =
        let d = lookup.directory.block in
        let P = EntersOrNot c.root lookup i old.world in
        then_runs told old mid fin P tt result (wrote_runs wrote)
        (runs_step told c mid fin (unlink_by c d b) d (dropped mid.world d b) P result (λ t. (wrote.went t).valid) (λ t. stop_at_drop c lookup i old.world mid.world (wrote.went t).world (wrote.went t).leads b some) gone)
