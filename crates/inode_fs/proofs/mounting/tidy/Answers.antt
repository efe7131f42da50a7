use Rattle.std.proofs.Common.{sym, ◌∙◌, ap, arith, Ok, Err}
use Rattle.inode_fs.proofs.Common.{IsDiskSound, no_look, trims_by_looks, then_trims}
use Rattle.inode_fs.proofs.TidyLaws.{tidy_still, under, clean_next, clean_all}
use Rattle.inode_fs.proofs.mounting.tidy.Goals as goal

pub loop-block-init : goal.loop-block-init
loop-block-init g c =
    let told = g.K.Blocks.told in
    let first = g.K.Blocks.view c.args.disk.now in
    let me = c.args.client.now in
    let may = c.requires.1 in
    let sound : told → IsDiskSound first = λ t. g.met.K.Blocks.sound c.args.disk.now t may.ready.unspent in
    record {
      may = may;
      trims = trims_by_looks told me g.kept first first (Ok tt) may.valid (λ t. under told me g.kept first c.args.marks.now t may (sound t)) (λ t. tt) (no_look told first may.ready.unspent sound may.valid);
      clean = λ t a less. absurd (omega (arith, less));
    }

pub tidy_block-requires : goal.tidy_block-requires
tidy_block-requires g c κs within = (within, c.loop-block.invariant.may)

pub returns-in-Err-clause-trims : goal.returns-in-Err-clause-trims
returns-in-Err-clause-trims g c =
    then_trims g.K.Blocks.told c.args.client.now g.kept (g.K.Blocks.view c.args.disk.now) (g.K.Blocks.view c.loop-block.disk) (g.K.Blocks.view c.tidy_block.new.disk) tt (Err c.in-Err.refusal) c.loop-block.invariant.trims c.in-Err.ensures.trims

pub loop-block-preserved : goal.loop-block-preserved
loop-block-preserved g c =
    let told = g.K.Blocks.told in
    let first = g.K.Blocks.view c.args.disk.now in
    let now = g.K.Blocks.view c.loop-block.disk in
    let new = g.K.Blocks.view c.tidy_block.new.disk in
    let me = c.args.client.now in
    let inv = c.loop-block.invariant in
    let e = c.in-Ok.ensures in
    record {
      may = tidy_still told me g.kept now new c.args.marks.now tt inv.may e.trims;
      trims = then_trims told me g.kept first now new tt (Ok tt) inv.trims e.trims;
      clean = λ t. clean_next me g.kept now new c.loop-block.block (e.trims.trimmed t) (inv.clean t) (e.clean t);
    }

pub returns-clause-trims : goal.returns-clause-trims
returns-clause-trims g c = c.loop-block.invariant.trims

pub returns-clause-clean : goal.returns-clause-clean
returns-clause-clean g c = λ t.
    let now = g.K.Blocks.view c.loop-block.disk in
    let inv = c.loop-block.invariant in
    let whole = ap (λ x. x.blocks) (c.geometry-end.ensures ∙ (sym inv.trims.runs.counts.geometry ∙ sym (g.met.K.Blocks.sound c.loop-block.disk t inv.may.ready.unspent).geometry)) in
    clean_all g.kept now c.loop-block.block c.geometry-end.result.blocks (inv.may.valid t).valid whole c.loop-block-test.false (inv.clean t)
