use Rattle.std.proofs.Common.{ℕ, ◌≡◌, ◌+◌, ◌*◌, ◌++◌, take, drop, sym, ap, ◌∙◌, arith}
use Rattle.pointer_table.proofs.Common.{take_all, length-replicate, slot_bytes, row_bytes}
use Rattle.pointer_table.proofs.SectorLaws.{row_bytes-none, row_more}
use Rattle.pointer_table.proofs.sector.sector_bytes.Goals as goal

pub loop-index-init : goal.loop-index-init
loop-index-init c = (length-replicate {A = ℕ} 512 0, sym (row_bytes-none c.args.slots.now (64 * c.args.part)))

pub loop-index-preserved : goal.loop-index-preserved
loop-index-preserved c =
    let i = c.loop-index.index in (
      c.write_slot.array_long,
      row_more c.loop-index.sector c.write_slot.new.sector c.args.slots.now (64 * c.args.part) i (omega arith)
          (c.write_slot.ensures ∙ ap (λ slot. take (8 * i) c.loop-index.sector ++ slot_bytes slot ++ drop (8 * i + 8) c.loop-index.sector) c.get-slot.ensures)
          c.loop-index.invariant.1,
    )

pub returns : goal.returns
returns c =
    let i : c.loop-index.index ≡ 64 = omega arith in
    sym (take_all (8 * c.loop-index.index) c.loop-index.sector (omega arith))
    ∙ (c.loop-index.invariant.1 ∙ ap (row_bytes c.args.slots.now (64 * c.args.part)) i)
