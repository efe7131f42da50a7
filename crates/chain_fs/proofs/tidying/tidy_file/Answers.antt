use Rattle.chain_fs.proofs.Common.{⊑_static, cluster_of}
use Rattle.std.proofs.Common.{sym, ◌∙◌, ap}
use Rattle.chain_fs.proofs.TidyLaws.{lost_trims, turn_trims, first_part, part_may, part_is, parts_over, part_deletes, part_last, part_next}
use Rattle.chain_fs.proofs.tidying.tidy_file.Goals as goal

pub loop-turn-init : goal.loop-turn-init
loop-turn-init g c = first_part c.requires.1.tree (g.met.K.Blocks.sound c.args.disk.now)

pub read_part-requires-clause-unspent : goal.read_part-requires-clause-unspent
read_part-requires-clause-unspent g c = c.loop-turn.invariant.tree.ready.unspent

pub read_part-requires-clause-valid : goal.read_part-requires-clause-valid
read_part-requires-clause-valid g c = c.loop-turn.invariant.tree.valid

pub read_part-requires-clause-may : goal.read_part-requires-clause-may
read_part-requires-clause-may g c = part_may c.loop-turn.invariant c.requires.1.file

pub read_part-requires-clause-there : goal.read_part-requires-clause-there
read_part-requires-clause-there g c = part_is c.loop-turn.invariant c.requires.1.file

pub returns-in-Err-clause-trims : goal.returns-in-Err-clause-trims
returns-in-Err-clause-trims g c =
    let here = c.loop-turn.invariant in
    lost_trims here.tree here.trims c.in-Err.ensures.looks c.in-Err.ensures.only

pub delete_others-requires : goal.delete_others-requires
delete_others-requires g c κs within =
    let read = c.in-Ok.ensures in
    (within, (⊑_static _, part_deletes c.loop-turn.invariant read.looks read.part c.requires.1.file))

pub returns-in-Err-delete_others-clause-trims : goal.returns-in-Err-delete_others-clause-trims
returns-in-Err-delete_others-clause-trims g c =
    let here = c.loop-turn.invariant in
    turn_trims here.tree here.trims c.in-Ok.ensures.looks c.in-Err-delete_others.ensures.trims

pub returns-in-None-clause-trims : goal.returns-in-None-clause-trims
returns-in-None-clause-trims g c =
    let here = c.loop-turn.invariant in
    turn_trims here.tree here.trims c.in-Ok.ensures.looks c.in-Ok-delete_others.ensures.trims

pub returns-in-None-clause-clean : goal.returns-in-None-clause-clean
returns-in-None-clause-clean g c =
    let read = c.in-Ok.ensures in
    let deleted = c.in-Ok-delete_others.ensures in
    let none = sym (c.next.ensures.value ∙ ap (λ x. (cluster_of x).next) c.cluster.ensures) ∙ c.in-None.is in
    part_last c.loop-turn.invariant read.looks read.part deleted.trims deleted.named none

pub loop-turn-preserved : goal.loop-turn-preserved
loop-turn-preserved g c =
    let read = c.in-Ok.ensures in
    let deleted = c.in-Ok-delete_others.ensures in
    let some = sym (c.next.ensures.value ∙ ap (λ x. (cluster_of x).next) c.cluster.ensures) ∙ c.in-Some.is in
    part_next c.loop-turn.invariant read.looks read.part deleted.trims deleted.named some read.held

pub returns-clause-trims : goal.returns-clause-trims
returns-clause-trims g c =
    parts_over c.loop-turn.invariant c.requires.1.file (g.met.K.Blocks.sound c.loop-turn.disk) c.geometry-turn-end.ensures c.loop-turn-test.false
