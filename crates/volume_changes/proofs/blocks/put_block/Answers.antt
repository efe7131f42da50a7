use Rattle.std.proofs.Common.{◌≡◌, ◌<◌, length, ap, arith, List}
use Rattle.tsd_model.specs.Geometry.{block_len}
use Rattle.tsd_model.specs.Step.{filled}
use Rattle.image_layout.specs.Ring.{bodies}
use Rattle.image_layout.specs.declared.offset.Patch.{Patch}
use Rattle.intent_journal.specs.Batch.{with_patch}
use Rattle.volume_laws.proofs.BlockLaws.{filled_part, laid_none, laid_more, laid_written, put_ok, length-with_patch, sectors_most}
use Rattle.volume_changes.proofs.blocks.put_block.Goals as goal

pub loop-part-init : goal.loop-part-init
loop-part-init c = record {
  few = omega (arith, ap (λ (ps : List Patch). length ps) c.requires.none);
  laid = laid_none c.args.layout.now.geometry c.args.block (filled (block_len c.args.layout.now.geometry) c.args.bytes.now) c.args.batch.now c.requires.none;
}

pub loop-part-preserved : goal.loop-part-preserved
loop-part-preserved c =
    let g = c.args.layout.now.geometry in
    let all = filled (block_len g) c.args.bytes.now in
    let most = sectors_most g c.args.layout.now.lawful in
    let few = c.loop-part.invariant.few in
    let room : length c.loop-part.batch < bodies = omega arith in
    let p : Patch = record { sector = c.data_sector.result; bytes = c.part_of-sector.result } in
    let put : c.put.new.self ≡ with_patch p c.loop-part.batch = put_ok c.put.result _ _ (length c.loop-part.batch) c.put.ensures.ok c.put.ensures.full room in
    let body = filled_part c.part_of-sector.result c.args.bytes.now (block_len g) c.loop-part.part c.part_of-sector.ensures.size c.part_of-sector.ensures.bytes c.requires.size (omega arith) in
    record {
      few = let long = length-with_patch p c.loop-part.batch in let e = ap (λ (ps : List Patch). length ps) put in omega (arith, long, e, few);
      laid = laid_more g c.args.block all c.loop-part.part p c.loop-part.batch c.put.new.self c.put.ensures.was c.loop-part.invariant.laid put c.data_sector.ensures.value body;
    }

pub returns-clause-homes : goal.returns-clause-homes
returns-clause-homes c = let few = c.loop-part.invariant.few in omega (arith, few)

pub returns-clause-written : goal.returns-clause-written
returns-clause-written c =
    laid_written c.args.layout.now.geometry c.args.block (filled (block_len c.args.layout.now.geometry) c.args.bytes.now) c.loop-part.part c.loop-part.batch c.loop-part.invariant.laid (omega arith)
