use Rattle.std.proofs.Common.{◌<◌, true, false, refl, sym, subst, Ok, Err}
use Rattle.chain_reading.proofs.Common.{MayWrite, no_look, looks_as, looks_refused, then_looks, place_in, entries_in, entry_blocks}
use Rattle.chain_reading.proofs.LoopLaws.{may_still, file_told, files_go_on, files_stop, files_end, within_blocks, over_blocks}
use Rattle.chain_reading.proofs.looking.are_files_right.Goals as goal

pub loop-position-init : goal.loop-position-init
loop-position-init g c = record {
  looks = no_look g.K.Blocks.told (g.K.Blocks.view c.args.disk.now) c.requires.unspent (λ t. g.met.K.Blocks.sound c.args.disk.now t c.requires.unspent) c.requires.valid;
  may = c.requires.may;
  on = λ t s agrees. (s, agrees, refl);
}

pub block-requires : goal.block-requires
block-requires g c = subst (λ n. c.loop-position.position < n) c.count-position-end.ensures.value c.loop-position-test.true

pub is_file_right-requires-clause-unspent : goal.is_file_right-requires-clause-unspent
is_file_right-requires-clause-unspent g c = c.loop-position.invariant.looks.unspent.0

pub is_file_right-requires-clause-valid : goal.is_file_right-requires-clause-valid
is_file_right-requires-clause-valid g c = λ t. (c.loop-position.invariant.looks.looked t).0.valid

pub is_file_right-requires-clause-may : goal.is_file_right-requires-clause-may
is_file_right-requires-clause-may g c = λ t.
    let es = entries_in c.args.page.now in
    subst (MayWrite c.args.client.now (g.K.Blocks.view c.loop-position.disk)) (sym c.block.ensures)
    (c.loop-position.invariant.may t _ (place_in (entry_blocks es) c.loop-position.position (within_blocks es c.count-position-end.result c.loop-position.position c.count-position-end.ensures.value c.loop-position-test.true)))

pub returns-in-Ok-false-clause-comes : goal.returns-in-Ok-false-clause-comes
returns-in-Ok-false-clause-comes g c = λ t.
    let first = g.K.Blocks.view c.args.disk.now in
    let cur = g.K.Blocks.view c.loop-position.disk in
    let es = entries_in c.args.page.now in
    let inv = c.loop-position.invariant in
    files_stop first.world (entry_blocks es) c.loop-position.position c.args.seen.now c.loop-position.seen (inv.on t) c.is_file_right.new.seen
    (within_blocks es c.count-position-end.result c.loop-position.position c.count-position-end.ensures.value c.loop-position-test.true)
    (file_told cur.world first.world c.block.result _ c.loop-position.seen c.is_file_right.new.seen c.in-Ok-false.field-0 false (inv.looks.looked t).0.world c.block.ensures c.in-Ok-false.field-0-test (c.in-Ok-false.ensures.comes t))

pub returns-in-Ok-false-clause-looks : goal.returns-in-Ok-false-clause-looks
returns-in-Ok-false-clause-looks g c =
    let told = g.K.Blocks.told in
    let cur = g.K.Blocks.view c.loop-position.disk in
    let new = g.K.Blocks.view c.is_file_right.new.disk in
    then_looks told (g.K.Blocks.view c.args.disk.now) cur new tt (Ok _) c.loop-position.invariant.looks (looks_as told cur new c.in-Ok-false.field-0 _ c.in-Ok-false.ensures.looks)

pub returns-in-Err-clause-only : goal.returns-in-Err-clause-only
returns-in-Err-clause-only g c = c.in-Err.ensures.only

pub returns-in-Err-clause-looks : goal.returns-in-Err-clause-looks
returns-in-Err-clause-looks g c =
    let told = g.K.Blocks.told in
    let cur = g.K.Blocks.view c.loop-position.disk in
    let new = g.K.Blocks.view c.is_file_right.new.disk in
    then_looks told (g.K.Blocks.view c.args.disk.now) cur new tt (Err c.in-Err.refusal) c.loop-position.invariant.looks (looks_refused told cur new c.in-Err.refusal c.in-Err.ensures.looks)

pub loop-position-preserved : goal.loop-position-preserved
loop-position-preserved g c =
    let told = g.K.Blocks.told in
    let first = g.K.Blocks.view c.args.disk.now in
    let cur = g.K.Blocks.view c.loop-position.disk in
    let new = g.K.Blocks.view c.is_file_right.new.disk in
    let es = entries_in c.args.page.now in
    let inv = c.loop-position.invariant in
    let e = c.in-Ok-true.ensures in
    record {
      looks = then_looks told first cur new tt (Ok tt) inv.looks (looks_as told cur new c.in-Ok-true.field-0 tt e.looks);
      may = λ t. may_still c.args.client.now cur new (entry_blocks es) (e.looks.looked t).0 e.looks.stays.0 (inv.looks.looked t).0.valid (inv.may t);
      on = λ t. files_go_on first.world (entry_blocks es) c.loop-position.position c.args.seen.now c.loop-position.seen (inv.on t) c.is_file_right.new.seen
          (within_blocks es c.count-position-end.result c.loop-position.position c.count-position-end.ensures.value c.loop-position-test.true)
          (file_told cur.world first.world c.block.result _ c.loop-position.seen c.is_file_right.new.seen c.in-Ok-true.field-0 true (inv.looks.looked t).0.world c.block.ensures c.in-Ok-true.field-0-test (e.comes t));
    }

pub returns-clause-comes : goal.returns-clause-comes
returns-clause-comes g c = λ t.
    let first = g.K.Blocks.view c.args.disk.now in
    let es = entries_in c.args.page.now in
    files_end first.world (entry_blocks es) c.loop-position.position c.args.seen.now c.loop-position.seen (c.loop-position.invariant.on t)
    (over_blocks es c.count-position-end.result c.loop-position.position c.count-position-end.ensures.value c.loop-position-test.false)

pub returns-clause-looks : goal.returns-clause-looks
returns-clause-looks g c = looks_as g.K.Blocks.told (g.K.Blocks.view c.args.disk.now) (g.K.Blocks.view c.loop-position.disk) tt _ c.loop-position.invariant.looks
