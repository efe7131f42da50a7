use Rattle.std.proofs.Common.{◌<◌, ◌≤◌, ◌-◌, true, false, refl, sym, ◌∙◌, subst, Ok, Err, arith, inl, inr}
use Rattle.inode_fs.proofs.Common.{inode_of, blocks_said, MayWrite, no_look, looks_as, looks_refused, then_looks, place_in, IsSeenAt, come_from}
use Rattle.inode_fs.proofs.SeeLaws.{comes_none, no_level, come_before, none_held, noted_on}
use Rattle.inode_fs.proofs.LoopLaws.{may_still, each_on, told_as}
use Rattle.inode_fs.proofs.RightLaws.{seen_before, at_inode, no_entry, right_file, dir_stops, dir_ends}
use Rattle.inode_fs.proofs.looking.+is_right.Goals.{then-levels-eq0-via-then-levels-eq0, then-levels-eq0-via-else-levels-eq0+then-is_inode, then-levels-eq0-via-else-levels-eq0+else-is_inode+then-is_data_block}
use Rattle.inode_fs.proofs.looking.+is_right.Goals as goal

pub returns-then-levels-eq0-clause-comes : goal.returns-then-levels-eq0-clause-comes
returns-then-levels-eq0-clause-comes g t c = λ told s agrees.
    let w = (g.K.Blocks.view c.args.disk.now).world in
    comes_none c.args.marks.now _ (elim c.then-levels-eq0.branch [
      | then-levels-eq0-via-then-levels-eq0 h ↦ no_level c.args.is_entry w c.args.block s c.args.levels h.if-levels-eq0.true
      | then-levels-eq0-via-else-levels-eq0+then-is_inode h ↦ come_before c.args.is_entry w c.args.block s c.args.levels (seen_before c.args.marks.now s c.args.block agrees (inl (sym h.is_inode.ensures ∙ h.if-is_inode.true)))
      | then-levels-eq0-via-else-levels-eq0+else-is_inode+then-is_data_block h ↦ come_before c.args.is_entry w c.args.block s c.args.levels (seen_before c.args.marks.now s c.args.block agrees (inr (sym h.is_data_block.ensures ∙ h.if-is_data_block.true)))
    ])

pub returns-then-levels-eq0-clause-noted : goal.returns-then-levels-eq0-clause-noted
returns-then-levels-eq0-clause-noted g t c = c.requires.noted

pub returns-then-levels-eq0-clause-looks : goal.returns-then-levels-eq0-clause-looks
returns-then-levels-eq0-clause-looks g t c = looks_as g.K.Blocks.told (g.K.Blocks.view c.args.disk.now) (g.K.Blocks.view c.args.disk.now) tt false
    (no_look g.K.Blocks.told (g.K.Blocks.view c.args.disk.now) c.requires.unspent (λ u. g.met.K.Blocks.sound c.args.disk.now u c.requires.unspent) c.requires.valid)

pub look_at-requires-clause-unspent : goal.look_at-requires-clause-unspent
look_at-requires-clause-unspent g t c = c.requires.unspent

pub look_at-requires-clause-valid : goal.look_at-requires-clause-valid
look_at-requires-clause-valid g t c = c.requires.valid

pub look_at-requires-clause-may : goal.look_at-requires-clause-may
look_at-requires-clause-may g t c = c.requires.may

pub returns-in-Ok-None-clause-comes : goal.returns-in-Ok-None-clause-comes
returns-in-Ok-None-clause-comes g t c = λ told s agrees.
    comes_none c.args.marks.now _ (none_held c.args.is_entry (g.K.Blocks.view c.args.disk.now).world c.args.block s c.args.levels (subst (IsSeenAt c.args.client.now (g.K.Blocks.view c.args.disk.now) (g.K.Blocks.view c.look_at.new.disk) c.args.block) c.in-Ok-None.field-0-is (c.in-Ok-None.ensures.seen told)))

pub returns-in-Ok-None-clause-noted : goal.returns-in-Ok-None-clause-noted
returns-in-Ok-None-clause-noted g t c = λ told.
    noted_on c.args.client.now (g.K.Blocks.view c.args.disk.now) (g.K.Blocks.view c.look_at.new.disk) c.args.marks.now (c.in-Ok-None.ensures.looks.looked told).0 (c.requires.noted told)

pub returns-in-Ok-None-clause-looks : goal.returns-in-Ok-None-clause-looks
returns-in-Ok-None-clause-looks g t c = looks_as g.K.Blocks.told (g.K.Blocks.view c.args.disk.now) (g.K.Blocks.view c.look_at.new.disk) _ false c.in-Ok-None.ensures.looks

pub returns-in-Err-clause-only : goal.returns-in-Err-clause-only
returns-in-Err-clause-only g t c = c.in-Err.ensures.only

pub returns-in-Err-clause-looks : goal.returns-in-Err-clause-looks
returns-in-Err-clause-looks g t c = looks_refused g.K.Blocks.told (g.K.Blocks.view c.args.disk.now) (g.K.Blocks.view c.look_at.new.disk) c.in-Err.refusal c.in-Err.ensures.looks

pub returns-then-not-is_entry-clause-comes : goal.returns-then-not-is_entry-clause-comes
returns-then-not-is_entry-clause-comes g t c =
    let here = at_inode c.requires.valid c.requires.may c.requires.noted c.in-Ok-Some.ensures.looks c.in-Ok-Some.ensures.seen c.in-Ok-Some.field-0-is c.mark_inode.ensures in
    no_entry here c.args.is_entry c.args.levels c.if-not-is_entry.true (sym c.is_directory.ensures ∙ c.if-not-is_directory.true)

pub returns-then-not-is_entry-clause-noted : goal.returns-then-not-is_entry-clause-noted
returns-then-not-is_entry-clause-noted g t c =
    let here = at_inode c.requires.valid c.requires.may c.requires.noted c.in-Ok-Some.ensures.looks c.in-Ok-Some.ensures.seen c.in-Ok-Some.field-0-is c.mark_inode.ensures in
    here.noted

pub returns-then-not-is_entry-clause-looks : goal.returns-then-not-is_entry-clause-looks
returns-then-not-is_entry-clause-looks g t c = looks_as g.K.Blocks.told (g.K.Blocks.view c.args.disk.now) (g.K.Blocks.view c.look_at.new.disk) _ false c.in-Ok-Some.ensures.looks

pub is_file_right-requires-clause-unspent : goal.is_file_right-requires-clause-unspent
is_file_right-requires-clause-unspent g t c = c.in-Ok-Some.ensures.looks.unspent.0

pub is_file_right-requires-clause-valid : goal.is_file_right-requires-clause-valid
is_file_right-requires-clause-valid g t c = λ told. (c.in-Ok-Some.ensures.looks.looked told).0.valid

pub is_file_right-requires-clause-may : goal.is_file_right-requires-clause-may
is_file_right-requires-clause-may g t c =
    let here = at_inode c.requires.valid c.requires.may c.requires.noted c.in-Ok-Some.ensures.looks c.in-Ok-Some.ensures.seen c.in-Ok-Some.field-0-is c.mark_inode.ensures in
    here.may

pub is_file_right-requires-clause-noted : goal.is_file_right-requires-clause-noted
is_file_right-requires-clause-noted g t c =
    let here = at_inode c.requires.valid c.requires.may c.requires.noted c.in-Ok-Some.ensures.looks c.in-Ok-Some.ensures.seen c.in-Ok-Some.field-0-is c.mark_inode.ensures in
    here.noted

pub returns-then-not-is_directory-clause-comes : goal.returns-then-not-is_directory-clause-comes
returns-then-not-is_directory-clause-comes g t c =
    let here = at_inode c.requires.valid c.requires.may c.requires.noted c.in-Ok-Some.ensures.looks c.in-Ok-Some.ensures.seen c.in-Ok-Some.field-0-is c.mark_inode.ensures in
    right_file here c.args.is_entry c.args.levels (omega (arith, c.if-levels-eq0.false)) (sym c.is_inode.ensures ∙ c.if-is_inode.false) (sym c.is_data_block.ensures ∙ c.if-is_data_block.false)
    c.is_file_right.new.marks c.is_file_right.result c.if-not-is_entry.false (sym c.is_directory.ensures ∙ c.if-not-is_directory.true) c.is_file_right.ensures.comes

pub returns-then-not-is_directory-clause-noted : goal.returns-then-not-is_directory-clause-noted
returns-then-not-is_directory-clause-noted g t c = c.is_file_right.ensures.noted

pub returns-then-not-is_directory-clause-only : goal.returns-then-not-is_directory-clause-only
returns-then-not-is_directory-clause-only g t c = c.is_file_right.ensures.only

pub returns-then-not-is_directory-clause-looks : goal.returns-then-not-is_directory-clause-looks
returns-then-not-is_directory-clause-looks g t c =
    then_looks g.K.Blocks.told (g.K.Blocks.view c.args.disk.now) (g.K.Blocks.view c.look_at.new.disk) (g.K.Blocks.view c.is_file_right.new.disk) _ c.is_file_right.result c.in-Ok-Some.ensures.looks c.is_file_right.ensures.looks

pub loop-position-init : goal.loop-position-init
loop-position-init g t c =
    let here = at_inode c.requires.valid c.requires.may c.requires.noted c.in-Ok-Some.ensures.looks c.in-Ok-Some.ensures.seen c.in-Ok-Some.field-0-is c.mark_inode.ensures in
    record {
      looks = looks_as g.K.Blocks.told (g.K.Blocks.view c.args.disk.now) (g.K.Blocks.view c.look_at.new.disk) _ tt c.in-Ok-Some.ensures.looks;
      may = here.may;
      noted = here.noted;
      comes = λ told s agrees. (s, agrees, refl);
    }

pub named-requires : goal.named-requires
named-requires g t c = subst (λ n. c.loop-position.position < n) c.count-position-end.ensures.value c.loop-position-test.true

pub overflow_sub-levels : goal.overflow_sub-levels
overflow_sub-levels g t c = omega (arith, c.if-levels-eq0.false)

pub is_right-requires : goal.is_right-requires
is_right-requires g t c κs within =
    let may : g.K.Blocks.told → MayWrite c.args.client.now (g.K.Blocks.view c.loop-position.disk) c.named.result =
    λ told. subst (MayWrite c.args.client.now (g.K.Blocks.view c.loop-position.disk)) (sym c.named.ensures)
    (c.loop-position.invariant.may told _ (place_in (blocks_said (inode_of c.in-Ok-Some.seen.found.inode)) c.loop-position.position (subst (λ n. c.loop-position.position < n) c.count-position-end.ensures.value c.loop-position-test.true))) in
    let less : c.args.levels - 1 < t = omega (arith, c.decreases, c.if-levels-eq0.false) in
    (less, (within, (c.loop-position.invariant.looks.unspent.0, ((λ told. (c.loop-position.invariant.looks.looked told).0.valid), (may, c.loop-position.invariant.noted)))))

pub returns-in-Ok-false-clause-comes : goal.returns-in-Ok-false-clause-comes
returns-in-Ok-false-clause-comes g t c =
    let here = at_inode c.requires.valid c.requires.may c.requires.noted c.in-Ok-Some.ensures.looks c.in-Ok-Some.ensures.seen c.in-Ok-Some.field-0-is c.mark_inode.ensures in
    let going = c.loop-position.invariant in
    dir_stops here c.args.is_entry c.args.levels (omega (arith, c.if-levels-eq0.false)) (sym c.is_inode.ensures ∙ c.if-is_inode.false) (sym c.is_data_block.ensures ∙ c.if-is_data_block.false)
    (sym c.is_directory.ensures ∙ c.if-not-is_directory.false) going c.is_right.new.marks (subst (λ n. c.loop-position.position < n) c.count-position-end.ensures.value c.loop-position-test.true)
    (λ told. told_as (g.K.Blocks.view c.loop-position.disk) (g.K.Blocks.view c.args.disk.now) (c.args.levels - 1) c.named.result _ c.is_right.new.marks c.loop-position.marks c.in-Ok-false.field-0 false (going.looks.looked told).0.world c.named.ensures c.in-Ok-false.field-0-test (c.in-Ok-false.ensures.comes told))

pub returns-in-Ok-false-clause-noted : goal.returns-in-Ok-false-clause-noted
returns-in-Ok-false-clause-noted g t c = c.in-Ok-false.ensures.noted

pub returns-in-Ok-false-clause-looks : goal.returns-in-Ok-false-clause-looks
returns-in-Ok-false-clause-looks g t c =
    let cur = g.K.Blocks.view c.loop-position.disk in
    let new = g.K.Blocks.view c.is_right.new.disk in
    then_looks g.K.Blocks.told (g.K.Blocks.view c.args.disk.now) cur new tt (Ok false) c.loop-position.invariant.looks (looks_as g.K.Blocks.told cur new c.in-Ok-false.field-0 false c.in-Ok-false.ensures.looks)

pub returns-in-Err-is_right-clause-only : goal.returns-in-Err-is_right-clause-only
returns-in-Err-is_right-clause-only g t c = c.in-Err-is_right.ensures.only

pub returns-in-Err-is_right-clause-looks : goal.returns-in-Err-is_right-clause-looks
returns-in-Err-is_right-clause-looks g t c =
    let cur = g.K.Blocks.view c.loop-position.disk in
    let new = g.K.Blocks.view c.is_right.new.disk in
    then_looks g.K.Blocks.told (g.K.Blocks.view c.args.disk.now) cur new tt (Err c.in-Err-is_right.refusal) c.loop-position.invariant.looks (looks_refused g.K.Blocks.told cur new c.in-Err-is_right.refusal c.in-Err-is_right.ensures.looks)

pub loop-position-smaller : goal.loop-position-smaller
loop-position-smaller g t c = omega (arith, c.loop-position-test.true)

pub loop-position-preserved : goal.loop-position-preserved
loop-position-preserved g t c =
    let told = g.K.Blocks.told in
    let old = g.K.Blocks.view c.args.disk.now in
    let cur = g.K.Blocks.view c.loop-position.disk in
    let new = g.K.Blocks.view c.is_right.new.disk in
    let bs = blocks_said (inode_of c.in-Ok-Some.seen.found.inode) in
    let inv = c.loop-position.invariant in
    let e = c.in-Ok-true.ensures in
    record {
      looks = then_looks told old cur new tt (Ok tt) inv.looks (looks_as told cur new c.in-Ok-true.field-0 tt e.looks);
      may = λ u. may_still c.args.client.now cur new bs told c.in-Ok-true.field-0 u e.looks (inv.looks.looked u).0.valid (inv.may u);
      noted = e.noted;
      comes = λ u. each_on (come_from old.world (c.args.levels - 1)) bs c.loop-position.position c.mark_inode.new.self c.loop-position.marks (inv.comes u) c.is_right.new.marks
          (subst (λ n. c.loop-position.position < n) c.count-position-end.ensures.value c.loop-position-test.true)
          (told_as cur old (c.args.levels - 1) c.named.result _ c.is_right.new.marks c.loop-position.marks c.in-Ok-true.field-0 true (inv.looks.looked u).0.world c.named.ensures c.in-Ok-true.field-0-test (e.comes u));
    }

pub returns-clause-comes : goal.returns-clause-comes
returns-clause-comes g t c =
    let here = at_inode c.requires.valid c.requires.may c.requires.noted c.in-Ok-Some.ensures.looks c.in-Ok-Some.ensures.seen c.in-Ok-Some.field-0-is c.mark_inode.ensures in
    dir_ends here c.args.is_entry c.args.levels (omega (arith, c.if-levels-eq0.false)) (sym c.is_inode.ensures ∙ c.if-is_inode.false) (sym c.is_data_block.ensures ∙ c.if-is_data_block.false)
    (sym c.is_directory.ensures ∙ c.if-not-is_directory.false) c.loop-position.invariant (subst (λ n. n ≤ c.loop-position.position) c.count-position-end.ensures.value c.loop-position-test.false)

pub returns-clause-noted : goal.returns-clause-noted
returns-clause-noted g t c = c.loop-position.invariant.noted

pub returns-clause-looks : goal.returns-clause-looks
returns-clause-looks g t c = looks_as g.K.Blocks.told (g.K.Blocks.view c.args.disk.now) (g.K.Blocks.view c.loop-position.disk) tt true c.loop-position.invariant.looks
