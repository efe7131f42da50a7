use Rattle.std.proofs.Common.{◌<◌, ◌≤◌, refl, sym, ◌∙◌, ap, subst, Ok, Err}
use Rattle.inode_fs.proofs.Common.{inode_of, blocks_said, MayWrite, no_look, looks_as, looks_refused, then_looks, place_in, is_inode, NamesData}
use Rattle.inode_fs.proofs.LoopLaws.{may_still, data_on, data_stops, data_ends}
use Rattle.inode_fs.proofs.looking.is_file_right.Goals as goal

pub loop-position-init : goal.loop-position-init
loop-position-init g c = record {
  looks = no_look g.K.Blocks.told (g.K.Blocks.view c.args.disk.now) c.requires.unspent (λ t. g.met.K.Blocks.sound c.args.disk.now t c.requires.unspent) c.requires.valid;
  may = c.requires.may;
  noted = c.requires.noted;
  comes = λ t s agrees. (s, agrees, refl);
}

pub named-block-requires : goal.named-block-requires
named-block-requires g c = subst (λ n. c.loop-position.position < n) c.count-position-end.ensures.value c.loop-position-test.true

pub returns-then-is_inode-clause-comes : goal.returns-then-is_inode-clause-comes
returns-then-is_inode-clause-comes g c = λ t.
    let bs = blocks_said (inode_of c.args.file.now.inode) in
    data_stops bs c.loop-position.position c.args.marks.now c.loop-position.marks (c.loop-position.invariant.comes t) (subst (λ n. c.loop-position.position < n) c.count-position-end.ensures.value c.loop-position-test.true)
    (ap (is_inode c.loop-position.marks) (sym c.named-block.ensures) ∙ (sym c.is_inode.ensures ∙ c.if-is_inode.true))

pub returns-then-is_inode-clause-noted : goal.returns-then-is_inode-clause-noted
returns-then-is_inode-clause-noted g c = c.loop-position.invariant.noted

pub returns-then-is_inode-clause-looks : goal.returns-then-is_inode-clause-looks
returns-then-is_inode-clause-looks g c = looks_as g.K.Blocks.told (g.K.Blocks.view c.args.disk.now) (g.K.Blocks.view c.loop-position.disk) tt _ c.loop-position.invariant.looks

pub see_data_block-requires-clause-unspent : goal.see_data_block-requires-clause-unspent
see_data_block-requires-clause-unspent g c = c.loop-position.invariant.looks.unspent.0

pub see_data_block-requires-clause-valid : goal.see_data_block-requires-clause-valid
see_data_block-requires-clause-valid g c = λ t. (c.loop-position.invariant.looks.looked t).0.valid

pub see_data_block-requires-clause-may : goal.see_data_block-requires-clause-may
see_data_block-requires-clause-may g c = λ t.
    let bs = blocks_said (inode_of c.args.file.now.inode) in
    subst (MayWrite c.args.client.now (g.K.Blocks.view c.loop-position.disk)) (sym c.named-block.ensures)
    (c.loop-position.invariant.may t _ (place_in bs c.loop-position.position (subst (λ n. c.loop-position.position < n) c.count-position-end.ensures.value c.loop-position-test.true)))

pub see_data_block-requires-clause-noted : goal.see_data_block-requires-clause-noted
see_data_block-requires-clause-noted g c = c.loop-position.invariant.noted

pub returns-in-Err-clause-only : goal.returns-in-Err-clause-only
returns-in-Err-clause-only g c = c.in-Err.ensures.only

pub returns-in-Err-clause-looks : goal.returns-in-Err-clause-looks
returns-in-Err-clause-looks g c =
    let told = g.K.Blocks.told in
    let cur = g.K.Blocks.view c.loop-position.disk in
    let new = g.K.Blocks.view c.see_data_block.new.disk in
    then_looks told (g.K.Blocks.view c.args.disk.now) cur new tt (Err c.in-Err.refusal) c.loop-position.invariant.looks (looks_refused told cur new c.in-Err.refusal c.in-Err.ensures.looks)

pub loop-position-preserved : goal.loop-position-preserved
loop-position-preserved g c =
    let told = g.K.Blocks.told in
    let bs = blocks_said (inode_of c.args.file.now.inode) in
    let cur = g.K.Blocks.view c.loop-position.disk in
    let new = g.K.Blocks.view c.see_data_block.new.disk in
    let inv = c.loop-position.invariant in
    let e = c.in-Ok.ensures in
    record {
      looks = then_looks told (g.K.Blocks.view c.args.disk.now) cur new tt (Ok tt) inv.looks e.looks;
      may = λ t. may_still c.args.client.now cur new bs told tt t e.looks (inv.looks.looked t).0.valid (inv.may t);
      noted = e.noted;
      comes = λ t. data_on bs c.loop-position.position c.args.marks.now c.loop-position.marks (inv.comes t) c.see_data_block.new.marks (subst (λ n. c.loop-position.position < n) c.count-position-end.ensures.value c.loop-position-test.true)
          (ap (is_inode c.loop-position.marks) (sym c.named-block.ensures) ∙ (sym c.is_inode.ensures ∙ c.if-is_inode.false))
          (subst (NamesData c.loop-position.marks c.see_data_block.new.marks) c.named-block.ensures (e.marked t));
    }

pub returns-clause-comes : goal.returns-clause-comes
returns-clause-comes g c = λ t.
    data_ends (blocks_said (inode_of c.args.file.now.inode)) c.loop-position.position c.args.marks.now c.loop-position.marks (c.loop-position.invariant.comes t) (subst (λ n. n ≤ c.loop-position.position) c.count-position-end.ensures.value c.loop-position-test.false)

pub returns-clause-noted : goal.returns-clause-noted
returns-clause-noted g c = c.loop-position.invariant.noted

pub returns-clause-looks : goal.returns-clause-looks
returns-clause-looks g c = looks_as g.K.Blocks.told (g.K.Blocks.view c.args.disk.now) (g.K.Blocks.view c.loop-position.disk) tt _ c.loop-position.invariant.looks
