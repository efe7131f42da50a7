use Rattle.std.proofs.Common.{◌+◌, ◌*◌, ◌<◌, ◌≤◌, length, sym, subst, ap, ◌∙◌, arith}
use Rattle.pointer_table.proofs.Common.{length-set, AreReadTo, AreWithinTo}
use Rattle.pointer_table.proofs.LoadLaws.{source_at, target_at, least_bad, read_more, within_more}
use Rattle.pointer_table.proofs.load.take_sector.Goals as goal

pub returns-then-is_bad_slot-clause-read : goal.returns-then-is_bad_slot-clause-read
returns-then-is_bad_slot-clause-read c image is so_far =
    let position = c.loop-position.position in
    let g = c.args.geometry.now in
    let from : 64 * c.args.part ≤ position = omega arith in
    let below : position < 64 * c.args.part + 64 = omega arith in
    let all = c.loop-position.invariant.all in
    least_bad image g position c.loop-position.slots c.read_slot-slot.result (omega arith)
    (c.read_slot-slot.ensures.source ∙ sym (source_at image g position c.args.part c.args.sector.now from below is))
    (c.read_slot-slot.ensures.target ∙ sym (target_at image g position c.args.part c.args.sector.now from below is))
    (sym c.is_bad_slot.ensures ∙ c.if-is_bad_slot.true) (c.loop-position.invariant.read image is so_far)

pub loop-position-preserved : goal.loop-position-preserved
loop-position-preserved c =
    let position = c.loop-position.position in
    let g = c.args.geometry.now in
    let from : 64 * c.args.part ≤ position = omega arith in
    let below : position < 64 * c.args.part + 64 = omega arith in
    let all = c.loop-position.invariant.all in
    record {
      all = ap length c.set.ensures ∙ (length-set c.loop-position.slots position _ ∙ c.loop-position.invariant.all);
      read = λ image is so_far.
          subst (AreReadTo image g (position + 1)) (sym c.set.ensures)
          (read_more image g position c.loop-position.slots c.read_slot-slot.result (omega arith)
          (c.read_slot-slot.ensures.source ∙ sym (source_at image g position c.args.part c.args.sector.now from below is))
          (c.read_slot-slot.ensures.target ∙ sym (target_at image g position c.args.part c.args.sector.now from below is))
          (sym c.is_bad_slot.ensures ∙ c.if-is_bad_slot.false) (c.loop-position.invariant.read image is so_far));
      within = λ so_far.
          subst (AreWithinTo g (position + 1)) (sym c.set.ensures)
          (within_more g position c.loop-position.slots c.read_slot-slot.result (omega arith) (sym c.is_bad_slot.ensures ∙ c.if-is_bad_slot.false)
          (c.loop-position.invariant.within so_far));
    }

pub set-requires : goal.set-requires
set-requires c = let all = c.loop-position.invariant.all in omega arith
