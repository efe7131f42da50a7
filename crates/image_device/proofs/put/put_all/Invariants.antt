use Rattle.std.proofs.Common.{◌≡◌, ◌++◌, List, ℕ, length}
use Rattle.image_device.specs.View.{IsLeftInPut}
use Rattle.image_device.specs.Runs.{LeavesOnly}
use Rattle.image_device.specs.Calls.{Puts}
use Rattle.image_device.proofs.put.put_all.Given as goal

abbrev pub invariant-loop-rest : goal.invariant-loop-rest
invariant-loop-rest g l =
    let view = g.P.Device.view in
    let told = g.P.Device.told in
    record {
      done : List ℕ;
      split : l.fn.piece ≡ done ++ l.rest;
      sent : told → (view l.port).sent ≡ (view l.fn.port).sent ++ done;
      reads : told → (view l.port).reads ≡ (view l.fn.port).reads;
      loose : told → (view l.port).loose ≡ (view l.fn.port).loose;
      leaves : told → LeavesOnly (view l.fn.port) (view l.port) (IsLeftInPut l.fn.piece (view l.fn.port));
      puts : Puts (view l.fn.port) (view l.port);
      faultless : (view l.port).put_faults ≡ (view l.fn.port).put_faults;
    }

abbrev pub decreases-loop-rest : goal.decreases-loop-rest
decreases-loop-rest g l = length l.rest
