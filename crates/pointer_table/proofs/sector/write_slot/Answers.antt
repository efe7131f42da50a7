use Rattle.std.proofs.Common.{◌+◌, ◌*◌, ◌++◌, take, drop, refl, ap, ◌∙◌, arith}
use Rattle.pointer_table.proofs.Common.{little_bytes}
use Rattle.pointer_table.proofs.SectorLaws.{put_two, slot_numbers}
use Rattle.pointer_table.proofs.sector.write_slot.Goals as goal

pub returns : goal.returns
returns c =
    let source = c.args.slot.now.source in
    let kept = c.target_to_write.result in
    put_two c.args.sector.now c.put_number.new.sector c.put_number-2.new.sector (little_bytes 4 source) (little_bytes 4 kept) (8 * c.args.index)
    (omega arith) refl refl c.put_number.ensures c.put_number-2.ensures
    ∙ ap (λ xs. take (8 * c.args.index) c.args.sector.now ++ xs ++ drop (8 * c.args.index + 8) c.args.sector.now)
    (slot_numbers source c.args.slot.now.target kept c.target_to_write.ensures)
