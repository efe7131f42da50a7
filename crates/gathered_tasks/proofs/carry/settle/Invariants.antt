use Rattle.std.proofs.Common.{◌≡◌, true}
use Rattle.gathered_tasks.proofs.Common.{HoldsOn, Ok, gathered, is_some, owed}
use Rattle.gathered_tasks.proofs.carry.settle.Given as goal

abbrev pub invariant-loop : goal.invariant-loop
invariant-loop g l =
    let view = g.D.Device.view in
    record {
      here : is_some l.room.room ≡ true;
      holds : HoldsOn {T = Unit {0}} g.D.Device.told l.fn.core l.core l.room.ring (gathered l.fn.room) (gathered l.room) (view l.fn.dev) (view l.dev) (Ok tt);
      still : owed l.fn.core.volume.tables ≡ 0 → (l.core ≡ l.fn.core) × (gathered l.room ≡ gathered l.fn.room) × (l.dev ≡ l.fn.dev);
    }
