use Rattle.std.proofs.Common.{arith, ap, ◌≡◌, length}
use Rattle.plain_disk.proofs.world.World.add_pointer.Goals as goal

pub invariant_of-self : goal.invariant_of-self
invariant_of-self c =
    let pairs : length c.self.inside.pairs.items ≡ length c.args.self.now.pairs = ap (λ w. length w.pairs) c.self.view_is in
    let slots : c.self.inside.geometry.slots ≡ c.args.self.now.geometry.slots = ap (λ w. w.geometry.slots) c.self.view_is in
    record { lawful = c.self.invariant.lawful; each_block = c.self.invariant.each_block; full = c.self.invariant.full; room = omega (arith, c.add_pair.ensures.room, pairs, slots, c.requires) }
