use Rattle.std.proofs.Common.{◌≡◌, ◌-◌, ◌≤◌, ◌++◌, List, ℕ, length}
use Rattle.image_device.specs.View.{IsLeftInPut}
use Rattle.image_device.specs.Runs.{LeavesOnly}
use Rattle.image_device.specs.Calls.{Puts}
use Rattle.image_audit.specs.Laws.{listings_from}
use Rattle.audit_runs.specs.Audit.{listings_text, text_from}
use Rattle.audit_runs.proofs.listings.put_listings.Given as goal

abbrev pub invariant-loop-from : goal.invariant-loop-from
invariant-loop-from g l =
    let view = g.P.Device.view in
    let told = g.P.Device.told in
    let text = listings_text (listings_from 0 l.fn.reached) in
    record {
      done : List ℕ;
      split : text ≡ done ++ text_from l.fn.reached l.from;
      within : l.from ≤ length l.fn.reached;
      sent : told → (view l.port).sent ≡ (view l.fn.port).sent ++ done;
      reads : told → (view l.port).reads ≡ (view l.fn.port).reads;
      loose : told → (view l.port).loose ≡ (view l.fn.port).loose;
      leaves : told → LeavesOnly (view l.fn.port) (view l.port) (IsLeftInPut text (view l.fn.port));
      puts : Puts (view l.fn.port) (view l.port);
      faultless : (view l.port).put_faults ≡ (view l.fn.port).put_faults;
    }

abbrev pub decreases-loop-from : goal.decreases-loop-from
decreases-loop-from g l = length l.fn.reached - l.from
