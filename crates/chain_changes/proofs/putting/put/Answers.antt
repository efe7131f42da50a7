use Rattle.std.proofs.Common.{◌≡◌, ◌<◌, ◌≤◌, ℕ, true, false, nat_lt, [], ◌∷◌, length, sym, ◌∙◌, ap, subst, arith, Some, Result}
use Rattle.chain_changes.proofs.Common.{nat_tests, done, names_max, entries_room, FsRefusal, DiskView, Answers, looks_refused, looks_but_refuses, Changes, refused_on, cluster_of, block_len_of, dir_cluster, entries_in, MayAsk, mounted_by, IsLookupWithin, IsLookupOf}
use Rattle.fs_trees.specs.declared.ask.ShellAsk.TheVariants as ask
use Rattle.fs_trees.specs.declared.refusal.FsRefusal.TheVariants as no
use Rattle.chain_changes.proofs.PlacedLaws.{entries_used, new_count, new_entry, refused_full, refused_lost, refused_since, name_of_path}
use Rattle.chain_changes.proofs.AgainLaws.{may_ask_again}
use Rattle.chain_changes.proofs.WritingLaws.{Ends, looks_ends, ends_again}
use Rattle.chain_changes.proofs.putting.put.Goals.{In-Ok}
use Rattle.chain_changes.proofs.putting.put.Goals as goal

-- what was done under the one name of the path is done at the path
at_path : (g : _) (c : In-Ok g) (new : DiskView) (result : Result (Unit {0}) FsRefusal)
    → (g.K.Blocks.told → Answers (mounted_by c.args.client.now) (g.K.Blocks.view c.look_up.new.disk) new (ask.Put (c.in-Ok.found.1.now ∷ []) c.args.bytes.now) result (λ _ answer. answer ≡ done))
    → Changes g.K.Blocks.told (mounted_by c.args.client.now) (g.K.Blocks.view c.look_up.new.disk) new (ask.Put (c.in-Ok.found.1.now ∷ []) c.args.bytes.now) result
    → Ends g.K.Blocks.told c.args.client.now (g.K.Blocks.view c.args.disk.now) new (ask.Put c.args.path.now c.args.bytes.now) result
at_path g c new result answer changes =
    let e = c.in-Ok.ensures in
    subst (λ p. Ends g.K.Blocks.told c.args.client.now (g.K.Blocks.view c.args.disk.now) new (ask.Put p c.args.bytes.now) result) (sym e.path) (ends_again (λ t. (c.requires.may.valid t).valid) e.looks answer changes)

pub look_up-requires : goal.look_up-requires
look_up-requires g c = record { may = c.requires.may; refusal = λ e. cc }

pub returns-in-Err : goal.returns-in-Err
returns-in-Err g c =
    let told = g.K.Blocks.told in
    let first = g.K.Blocks.view c.args.disk.now in
    let mid = g.K.Blocks.view c.look_up.new.disk in
    let me = c.args.client.now in
    let path = c.args.path.now in
    let body = c.args.bytes.now in
    let e = c.in-Err.ensures in
    let r = c.in-Err.refusal in
    let ends = looks_ends told me first mid (ask.Put path body) (λ t. (c.requires.may.valid t).valid) r
    (λ t ne. refused_lost me first (c.requires.may.tree t) path body r (e.refused t ne)) (looks_refused told first mid r e.looks) in
    record { answer = ends.answer; changes = ends.changes }

pub replace-requires : goal.replace-requires
replace-requires g c =
    let e = c.in-Ok.ensures in
    record {
      may = may_ask_again g.K.Blocks.told c.args.client.now (g.K.Blocks.view c.args.disk.now) (g.K.Blocks.view c.look_up.new.disk) c.in-Ok.found e.looks c.requires.may;
      found = λ t. subst (IsLookupOf c.args.client.now (g.K.Blocks.view c.look_up.new.disk) c.in-Ok.found.1.now) c.in-Taken.is (e.found t);
      within = subst IsLookupWithin c.in-Taken.is e.within;
      named = name_of_path c.args.path.now c.in-Ok.found.1.now e.path e.named;
    }

pub returns-then-count-ge-NAMES_MAX : goal.returns-then-count-ge-NAMES_MAX
returns-then-count-ge-NAMES_MAX g c =
    let told = g.K.Blocks.told in
    let first = g.K.Blocks.view c.args.disk.now in
    let mid = g.K.Blocks.view c.look_up.new.disk in
    let me = c.args.client.now in
    let path = c.args.path.now in
    let body = c.args.bytes.now in
    let f = mounted_by me in
    let e = c.in-Ok.ensures in
    let n = c.in-Ok.found.1.now in
    let b = ask.Put (n ∷ []) body in
    let same = λ (t : told). (e.looks.looked t).0.world in
    let full : names_max ≤ c.in-Free.count = c.if-count-ge-NAMES_MAX.true in
    let primary : told → me.root < mid.world.geometry.primaries = λ t. subst (λ v. me.root < v.geometry.primaries) (sym (same t)) (subst (λ k. me.root < k.primaries) (sym (g.met.K.Blocks.sound c.args.disk.now t c.requires.may.ready.unspent).geometry) c.requires.may.ready.primary) in
    let may : MayAsk told me mid = may_ask_again told me first mid c.in-Ok.found e.looks c.requires.may in
    let named = name_of_path path n e.path e.named in
    let at = λ (t : told). subst (IsLookupOf me mid n) c.in-Free.is (e.found t) in
    let refuses : told → refused_on f first (ask.Put path body) ≡ Some no.DirFull = λ t.
    ap (λ p. refused_on f first (ask.Put p body)) e.path ∙ (sym (refused_since f first mid b (same t))
    ∙ refused_full me mid n (at t).chains (at t).under body (new_entry me mid n c.in-Free.page (may.valid t) (may.tree t) (primary t) named c.in-Free.count (at t))
    (subst (λ k. names_max ≤ k) (sym (new_count me mid n c.in-Free.page (may.valid t) (may.tree t) (primary t) named c.in-Free.count (at t))) full)) in
    let ends = looks_ends told me first mid (ask.Put path body) (λ t. (c.requires.may.valid t).valid) no.DirFull (λ t ne. refuses t) (looks_but_refuses told first mid c.in-Ok.found no.DirFull (λ k. cc) e.looks) in
    record { answer = ends.answer; changes = ends.changes }

pub add-requires : goal.add-requires
add-requires g c =
    let e = c.in-Ok.ensures in
    let page = c.in-Free.page in
    let used = entries_used page in
    let fewer = c.if-count-ge-NAMES_MAX.false in
    let test : nat_lt (cluster_of (dir_cluster page.cluster)).used (entries_room (block_len_of (dir_cluster page.cluster))) ≡ true = sym c.has_room.ensures ∙ c.if-has_room.true in
    record {
      may = may_ask_again g.K.Blocks.told c.args.client.now (g.K.Blocks.view c.args.disk.now) (g.K.Blocks.view c.look_up.new.disk) c.in-Ok.found e.looks c.requires.may;
      found = λ t. subst (IsLookupOf c.args.client.now (g.K.Blocks.view c.look_up.new.disk) c.in-Ok.found.1.now) c.in-Free.is (e.found t);
      few = omega (arith, fewer);
      room = tested (length (entries_in page.cluster)) (cluster_of (dir_cluster page.cluster)).used (entries_room (block_len_of (dir_cluster page.cluster))) used test;
      named = name_of_path c.args.path.now c.in-Ok.found.1.now e.path e.named;
    }
  where
    tested : (k u r : ℕ) → k ≡ u → nat_lt u r ≡ true → k < r
    tested k u r same h = grind (arith, nat_tests)

pub extend-requires : goal.extend-requires
extend-requires g c =
    let e = c.in-Ok.ensures in
    let page = c.in-Free.page in
    let used = entries_used page in
    let fewer = c.if-count-ge-NAMES_MAX.false in
    let test : nat_lt (cluster_of (dir_cluster page.cluster)).used (entries_room (block_len_of (dir_cluster page.cluster))) ≡ false = sym c.has_room.ensures ∙ c.if-has_room.false in
    record {
      may = may_ask_again g.K.Blocks.told c.args.client.now (g.K.Blocks.view c.args.disk.now) (g.K.Blocks.view c.look_up.new.disk) c.in-Ok.found e.looks c.requires.may;
      found = λ t. subst (IsLookupOf c.args.client.now (g.K.Blocks.view c.look_up.new.disk) c.in-Ok.found.1.now) c.in-Free.is (e.found t);
      few = omega (arith, fewer);
      full = tested (length (entries_in page.cluster)) (cluster_of (dir_cluster page.cluster)).used (entries_room (block_len_of (dir_cluster page.cluster))) used test;
      named = name_of_path c.args.path.now c.in-Ok.found.1.now e.path e.named;
    }
  where
    tested : (k u r : ℕ) → k ≡ u → nat_lt u r ≡ false → r ≤ k
    tested k u r same h = grind (arith, nat_tests)

pub returns-in-Taken : goal.returns-in-Taken
returns-in-Taken g c =
    let ends = at_path g (goal.at.returns-in-Taken g c).In-Ok (g.K.Blocks.view c.replace.new.disk) c.replace.result c.replace.ensures.answer c.replace.ensures.changes in
    record { answer = ends.answer; changes = ends.changes }

pub returns-then-has_room : goal.returns-then-has_room
returns-then-has_room g c =
    let ends = at_path g (goal.at.returns-then-has_room g c).In-Ok (g.K.Blocks.view c.add.new.disk) c.add.result c.add.ensures.answer c.add.ensures.changes in
    record { answer = ends.answer; changes = ends.changes }

pub returns-else-has_room : goal.returns-else-has_room
returns-else-has_room g c =
    let ends = at_path g (goal.at.returns-else-has_room g c).In-Ok (g.K.Blocks.view c.extend.new.disk) c.extend.result c.extend.ensures.answer c.extend.ensures.changes in
    record { answer = ends.answer; changes = ends.changes }
