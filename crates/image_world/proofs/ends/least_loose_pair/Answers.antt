use Rattle.std.proofs.Common.{arith}
use Rattle.image_world.proofs.EndLaws.{loose_behind, loose_more}
use Rattle.image_world.proofs.ends.least_loose_pair.Goals as goal

pub loop-slot-preserved : goal.loop-slot-preserved
loop-slot-preserved c =
    let slots = c.args.pointers.now.slots in
    let live = c.args.live.now.live in
    let at = c.loop-slot.slot in
    rw (c.lesser-least.ensures, c.loose_pair.ensures) (loose_more slots live at c.loop-slot.least c.loop-slot.invariant)

pub returns : goal.returns
returns c =
    let end = c.slots_end-slot-end.ensures in
    let test = c.loop-slot-test.false in
    loose_behind c.args.pointers.now.slots c.args.live.now.live c.loop-slot.slot c.args.pointers.now.geometry.slots c.loop-slot.least (omega (arith, end.inside))
    (λ j far. end.empty j (omega arith)) c.loop-slot.invariant
