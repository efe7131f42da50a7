use Rattle.std.proofs.Common.{◌≡◌, ◌<◌, ◌≤◌, true, false, [], length, refl, sym, subst, Ok, Err}
use Rattle.chain_changes.proofs.Common.{free_count, need_of, done, Answers, looks_as, looks_refused, then_looks, Changes, ask_done, looks_change, OnlyLooks, tree_under, mounted_by, IsLastOf}
use Rattle.fs_trees.specs.declared.ask.ShellAsk.TheVariants as ask
use Rattle.fs_trees.specs.declared.ask.ShellKind.TheVariants as kind
use Rattle.chain_changes.proofs.GrowthLaws.{append_lost}
use Rattle.chain_changes.proofs.AppendLaws.{nothing_needed, nothing_added, some_bytes}
use Rattle.chain_changes.proofs.AgainLaws.{may_ask_again, last_of_file}
use Rattle.chain_changes.proofs.WritingLaws.{looks_ends, ends_again}
use Rattle.chain_changes.proofs.appending.append.Goals.{In-Ok-last_part}
use Rattle.chain_changes.proofs.appending.append.Goals as goal
use Rattle.tsd_model.proofs.ValueLaws.{clash}

-- the last cluster was read, and nothing has changed
looked : (g : _) (c : In-Ok-last_part g) → OnlyLooks g.K.Blocks.told (g.K.Blocks.view c.args.disk.now) (g.K.Blocks.view c.last_part.new.disk) (Ok c.in-Ok-last_part.last)
looked g c = then_looks g.K.Blocks.told (g.K.Blocks.view c.args.disk.now) (g.K.Blocks.view c.find_file.new.disk) (g.K.Blocks.view c.last_part.new.disk) c.in-Ok.first (Ok c.in-Ok-last_part.last) c.in-Ok.ensures.looks c.in-Ok-last_part.ensures.looks

-- it is that of the file
is_last : (g : _) (c : In-Ok-last_part g) → g.K.Blocks.told → IsLastOf c.args.client.now (g.K.Blocks.view c.last_part.new.disk) c.args.path.now c.in-Ok-last_part.last
is_last g c t =
    let f = c.in-Ok.ensures.found t in
    let h = c.in-Ok-last_part.ensures in
    last_of_file c.args.client.now (g.K.Blocks.view c.find_file.new.disk) (g.K.Blocks.view c.last_part.new.disk) c.args.path.now c.in-Ok.first c.in-Ok-last_part.last f (h.looks.looked t).0.world (h.last t f.file.chain f.ahead)

pub find_file-requires : goal.find_file-requires
find_file-requires g c = record { may = c.requires.may }

pub returns-in-Err : goal.returns-in-Err
returns-in-Err g c =
    let told = g.K.Blocks.told in
    let first = g.K.Blocks.view c.args.disk.now in
    let mid = g.K.Blocks.view c.find_file.new.disk in
    let me = c.args.client.now in
    let path = c.args.path.now in
    let x = c.args.bytes.now in
    let e = c.in-Err.ensures in
    let r = c.in-Err.refusal in
    let t0 = tree_under me first in
    let looks = looks_refused told first mid r e.looks in
    let ends = looks_ends told me first mid (ask.Append path x) (λ t. (c.requires.may.valid t).valid) r
    (λ t ne. append_lost first.world.geometry t0 (free_count first.world) (length first.world.pairs) (need_of kind.Chain first.world me.root t0 (ask.Append path x)) path x r (c.requires.may.tree t) (e.refused t ne)) looks in
    record { answer = ends.answer; changes = ends.changes; idle = λ none. looks }

pub returns-then-is_empty : goal.returns-then-is_empty
returns-then-is_empty g c =
    let told = g.K.Blocks.told in
    let first = g.K.Blocks.view c.args.disk.now in
    let mid = g.K.Blocks.view c.find_file.new.disk in
    let me = c.args.client.now in
    let path = c.args.path.now in
    let x = c.args.bytes.now in
    let e = c.in-Ok.ensures in
    let empty : x ≡ [] = c.is_empty.ensures.0 c.if-is_empty.true in
    record {
      answer = λ t.
          let valid = (c.requires.may.valid t).valid in
          let there = c.requires.may.tree t in
          let same = (e.looks.looked t).0.world in
          subst (λ y. Answers {X = Unit {0}} (mounted_by me) first mid (ask.Append path y) (Ok tt) (λ _ answer. answer ≡ done)) (sym empty)
          (ask_done {X = Unit {0}} (mounted_by me) first mid (ask.Append path []) tt (nothing_needed me first mid path c.in-Ok.first valid there same (e.found t) (e.none t)) refl
          (nothing_added me first mid path c.in-Ok.first valid there same (e.found t)));
      changes = looks_change told (mounted_by me) first mid (ask.Append path x) (Ok tt) (λ t. (c.requires.may.valid t).valid) (looks_as told first mid c.in-Ok.first tt e.looks);
      idle = λ none. (looks_as told first mid c.in-Ok.first tt e.looks);
    }

pub last_part-requires : goal.last_part-requires
last_part-requires g c =
    let e = c.in-Ok.ensures in
    record {
      unspent = e.looks.unspent.0;
      valid = λ t. (e.looks.looked t).0.valid;
      file = λ t. let f = e.found t in (f.file.chain, f.ahead);
    }

pub returns-in-Err-last_part : goal.returns-in-Err-last_part
returns-in-Err-last_part g c =
    let told = g.K.Blocks.told in
    let first = g.K.Blocks.view c.args.disk.now in
    let mid = g.K.Blocks.view c.find_file.new.disk in
    let rd = g.K.Blocks.view c.last_part.new.disk in
    let h = c.in-Err-last_part.ensures in
    let r = c.in-Err-last_part.refusal in
    let looks = then_looks told first mid rd c.in-Ok.first (Err r) c.in-Ok.ensures.looks (looks_refused told mid rd r h.looks) in
    let ends = looks_ends told c.args.client.now first rd (ask.Append c.args.path.now c.args.bytes.now) (λ t. (c.requires.may.valid t).valid) r (λ t ne. absurd (ne (h.only t))) looks in
    record { answer = ends.answer; changes = ends.changes; idle = λ none. looks }

pub grow-requires : goal.grow-requires
grow-requires g c =
    let at = (goal.at.grow-requires g c).In-Ok-last_part in
    let x = c.args.bytes.now in
    record {
      may = may_ask_again g.K.Blocks.told c.args.client.now (g.K.Blocks.view c.args.disk.now) (g.K.Blocks.view c.last_part.new.disk) c.in-Ok-last_part.last (looked g at) c.requires.may;
      last = λ t. (c.args.path.now, is_last g at t);
      some = subst (λ y. 0 < length y) (sym c.as_slice.ensures.value) (some_bytes x (λ none. clash c.is_empty.result (c.is_empty.ensures.1 none) c.if-is_empty.false));
      small = subst (λ y. length y ≤ 4096) (sym c.as_slice.ensures.value) c.as_slice.ensures.fits;
    }

pub returns : goal.returns
returns g c =
    let at = (goal.at.returns g c).In-Ok-last_part in
    let f = mounted_by c.args.client.now in
    let rd = g.K.Blocks.view c.last_part.new.disk in
    let fin = g.K.Blocks.view c.grow.new.disk in
    let path = c.args.path.now in
    let r = c.grow.result in
    let ends = ends_again (λ (t : g.K.Blocks.told). (c.requires.may.valid t).valid) (looked g at)
    (λ t. subst (λ y. Answers {X = Unit {0}} f rd fin (ask.Append path y) r (λ _ answer. answer ≡ done)) c.as_slice.ensures.value (c.grow.ensures.answer t path (is_last g at t)))
    (subst (λ y. Changes {X = Unit {0}} g.K.Blocks.told f rd fin (ask.Append path y) r) c.as_slice.ensures.value (c.grow.ensures.changes path (is_last g at))) in
    record { answer = ends.answer; changes = ends.changes; idle = λ none. absurd (clash c.is_empty.result (c.is_empty.ensures.1 none) c.if-is_empty.false) }
