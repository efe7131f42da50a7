use Rattle.std.proofs.Common.{◌≡◌, ◌++◌, List, ℕ, length}
use Rattle.mirror_device.specs.Putting.{SidesSend}
use Rattle.mirror_device.specs.SideCalls.{SidesPut}
use Rattle.mirror_device.proofs.put.put_all.Given as goal

abbrev pub invariant-loop-rest : goal.invariant-loop-rest
invariant-loop-rest g l =
    let view = g.P.Sides.view in
    let told = g.P.Sides.told in
    record {
      done : List ℕ;
      split : l.fn.piece ≡ done ++ l.rest;
      sent : told → (view l.sides).sent ≡ (view l.fn.sides).sent ++ done;
      sends : told → SidesSend l.fn.piece (view l.fn.sides) (view l.sides);
      puts : SidesPut (view l.fn.sides) (view l.sides);
      faultless : (view l.sides).put_faults ≡ (view l.fn.sides).put_faults;
    }

abbrev pub decreases-loop-rest : goal.decreases-loop-rest
decreases-loop-rest g l = length l.rest
