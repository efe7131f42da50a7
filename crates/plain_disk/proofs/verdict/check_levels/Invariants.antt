use Rattle.std.proofs.Common.{◌≡◌, drop}
use Rattle.std.specs.Prelude.{map}
use Rattle.tsd_model.specs.Verdict.{first_rule, denied}
use Rattle.plain_disk.proofs.verdict.check_levels.Given as goal

-- no need so far is denied
abbrev pub invariant-loop-need : goal.invariant-loop-need
invariant-loop-need l = first_rule (map (denied l.world l.sessions l.session) l.need-items) ≡ first_rule (map (denied l.world l.sessions l.session) (drop l.need-index l.need-items))
