use Rattle.std.proofs.Common.{◌≡◌, length, List, ◌∙◌, ap, arith}
use Rattle.image_layout.specs.declared.offset.Patch.{Patch}
use Rattle.intent_journal.specs.Batch.{with_patch}
use Rattle.intent_journal.specs.Home.{overlaid}
use Rattle.intent_journal.proofs.Uses.{overlaid_with_patch}
use Rattle.volume_laws.proofs.BlockLaws.{put_ok, length-with_patch}
use Rattle.volume_changes.proofs.growing.put_patch.Goals as goal

pub returns-clause-few : goal.returns-clause-few
returns-clause-few c =
    let put : c.put.new.self ≡ with_patch c.args.patch.now c.args.batch.now = put_ok c.put.result _ _ (length c.args.batch.now) c.put.ensures.ok c.put.ensures.full c.requires.room in
    omega (arith, ap (λ (ps : List Patch). length ps) put, length-with_patch c.args.patch.now c.args.batch.now)

pub returns-clause-laid : goal.returns-clause-laid
returns-clause-laid c = λ x n.
    let put : c.put.new.self ≡ with_patch c.args.patch.now c.args.batch.now = put_ok c.put.result _ _ (length c.args.batch.now) c.put.ensures.ok c.put.ensures.full c.requires.room in
    ap (λ (ps : List Patch). overlaid ps x n) put ∙ overlaid_with_patch c.args.patch.now c.args.batch.now x n c.put.ensures.was.distinct
