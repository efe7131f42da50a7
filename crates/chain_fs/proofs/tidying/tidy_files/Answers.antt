use Rattle.std.proofs.Common.{◌<◌, ◌≤◌, sym, subst, arith, Ok, Err}
use Rattle.chain_fs.proofs.Common.{no_look, trims_by_looks, then_trims, named_of, IsFileHere}
use Rattle.chain_fs.proofs.PageLaws.{file_here, page_still, files_more, files_all}
use Rattle.chain_fs.proofs.tidying.tidy_files.Goals as goal

pub loop-position-init : goal.loop-position-init
loop-position-init g c =
    let told = g.K.Blocks.told in
    let first = g.K.Blocks.view c.args.disk.now in
    let me = c.args.client.now in
    let may = c.requires.1 in
    record {
      may = may;
      trims = trims_by_looks told me (named_of g.kept) first first (Ok tt) may.tree.valid (λ t. (may.tree.stands t).under) (λ t. tt)
          (no_look told first may.tree.ready.unspent (λ t. g.met.K.Blocks.sound c.args.disk.now t may.tree.ready.unspent) may.tree.valid);
      clean = λ t j less. absurd (omega (arith, less));
    }

pub block-requires : goal.block-requires
block-requires g c = subst (λ n. c.loop-position.position < n) c.count-position-end.ensures.value c.loop-position-test.true

pub tidy_file-requires : goal.tidy_file-requires
tidy_file-requires g c κs within =
    let inv = c.loop-position.invariant in
    let page = c.args.page.now in
    let me = c.args.client.now in
    let cur = g.K.Blocks.view c.loop-position.disk in
    let less = subst (λ n. c.loop-position.position < n) c.count-position-end.ensures.value c.loop-position-test.true in (
      within,
      record {
        tree = inv.may.tree;
        file = λ t.
            let f = file_here me g.kept cur (inv.may.tree.stands t) page (inv.may.here t) c.loop-position.position less in
            (f.0, subst (λ b. IsFileHere me g.kept cur b f.0) (sym c.block.ensures) f.1);
      },
    )

pub returns-in-Err-clause-trims : goal.returns-in-Err-clause-trims
returns-in-Err-clause-trims g c = then_trims g.K.Blocks.told c.args.client.now (named_of g.kept) (g.K.Blocks.view c.args.disk.now) (g.K.Blocks.view c.loop-position.disk) (g.K.Blocks.view c.tidy_file.new.disk) tt (Err c.in-Err.refusal) c.loop-position.invariant.trims c.in-Err.ensures.trims

pub loop-position-preserved : goal.loop-position-preserved
loop-position-preserved g c =
    let told = g.K.Blocks.told in
    let first = g.K.Blocks.view c.args.disk.now in
    let cur = g.K.Blocks.view c.loop-position.disk in
    let new = g.K.Blocks.view c.tidy_file.new.disk in
    let me = c.args.client.now in
    let page = c.args.page.now in
    let inv = c.loop-position.invariant in
    let e = c.in-Ok.ensures in
    record {
      may = page_still told me g.kept cur new page tt inv.may e.trims;
      trims = then_trims told me (named_of g.kept) first cur new tt (Ok tt) inv.trims e.trims;
      clean = λ t. files_more me g.kept cur new page c.loop-position.position (e.trims.trimmed t) (inv.may.here t).held (inv.clean t)
          (λ f here. e.clean t f (subst (λ b. IsFileHere me g.kept cur b f) (sym c.block.ensures) here));
    }

pub returns-clause-trims : goal.returns-clause-trims
returns-clause-trims g c = c.loop-position.invariant.trims

pub returns-clause-clean : goal.returns-clause-clean
returns-clause-clean g c = λ t.
    let inv = c.loop-position.invariant in
    files_all c.args.client.now g.kept (g.K.Blocks.view c.loop-position.disk) (inv.may.tree.stands t) c.args.page.now (inv.may.here t) c.loop-position.position
    (subst (λ n. n ≤ c.loop-position.position) c.count-position-end.ensures.value c.loop-position-test.false) (inv.clean t)
