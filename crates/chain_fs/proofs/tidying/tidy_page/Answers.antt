use Rattle.chain_fs.proofs.Common.{⊑_static, MayDelete, Trimmed, on_ok, then_trims, blocks_in, named_of, AreClean}
use Rattle.std.proofs.Common.{[], ◌∷◌}
use Rattle.chain_fs.proofs.TidyLaws.{clean_still}
use Rattle.chain_fs.proofs.PageLaws.{page_trim, own_clean, page_still}
use Rattle.chain_fs.proofs.tidying.tidy_page.Goals as goal

pub delete_others-requires : goal.delete_others-requires
delete_others-requires g c κs within =
    let v = g.K.Blocks.view c.args.disk.now in
    let me = c.args.client.now in
    let page = c.args.page.now in
    let may = c.requires.1 in
    let deletes : MayDelete g.K.Blocks.told me (named_of g.kept) v page.block (blocks_in page.cluster) = record {
      unspent = may.tree.ready.unspent;
      valid = may.tree.valid;
      trim = λ t. page_trim me g.kept v (may.tree.stands t) page (may.here t);
    } in
    (within, (⊑_static _, deletes))

pub tidy_files-requires : goal.tidy_files-requires
tidy_files-requires g c κs within =
    (within, page_still g.K.Blocks.told c.args.client.now g.kept (g.K.Blocks.view c.args.disk.now) (g.K.Blocks.view c.delete_others.new.disk) c.args.page.now tt c.requires.1 c.in-Ok.ensures.trims)

pub returns-in-Ok-clause-trims : goal.returns-in-Ok-clause-trims
returns-in-Ok-clause-trims g c = then_trims g.K.Blocks.told c.args.client.now (named_of g.kept) (g.K.Blocks.view c.args.disk.now) (g.K.Blocks.view c.delete_others.new.disk) (g.K.Blocks.view c.tidy_files.new.disk) tt c.tidy_files.result c.in-Ok.ensures.trims c.tidy_files.ensures.trims

pub returns-in-Ok-clause-own : goal.returns-in-Ok-clause-own
returns-in-Ok-clause-own g c = λ t.
    let old = g.K.Blocks.view c.args.disk.now in
    let mid = g.K.Blocks.view c.delete_others.new.disk in
    let new = g.K.Blocks.view c.tidy_files.new.disk in
    let me = c.args.client.now in
    let page = c.args.page.now in
    let n = named_of g.kept in
    on_ok (Trimmed me n mid new) (AreClean n new.world (page.block ∷ [])) c.tidy_files.result
    (λ h. clean_still n mid.world new.world (page.block ∷ []) h.fewer (own_clean me g.kept old (c.requires.1.tree.stands t) page (c.requires.1.here t) mid.world (c.in-Ok.ensures.named t)))
    (c.tidy_files.ensures.trims.trimmed t)

pub returns-in-Ok-clause-clean : goal.returns-in-Ok-clause-clean
returns-in-Ok-clause-clean g c = c.tidy_files.ensures.clean

pub returns-in-Err-clause-trims : goal.returns-in-Err-clause-trims
returns-in-Err-clause-trims g c = c.in-Err.ensures.trims
