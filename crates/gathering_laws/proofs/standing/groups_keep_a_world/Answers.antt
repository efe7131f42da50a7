use Rattle.std.proofs.Common.{inl, inr, ⊎_elim, sym, ◌∙◌}
use Rattle.gathering.specs.Gathered.{cleared}
use Rattle.gathering.proofs.Closed.{cleared_closed, cleared_home, closed_home, closed_valid}
use Rattle.gathering_laws.proofs.Alike.{carries_over, closed_alike, stands_alike}
use Rattle.gathering_laws.proofs.standing.groups_keep_a_world.Goals as goal

pub returns-clause-alike : goal.returns-clause-alike
returns-clause-alike c = closed_alike

pub returns-clause-begins : goal.returns-clause-begins
returns-clause-begins c x w stands = stands_alike x (cleared x) w stands (record { valid = closed_valid (cleared x) (cleared_closed x); stands = cleared_home x })

pub returns-clause-keeps : goal.returns-clause-keeps
returns-clause-keeps c start end old new at_start at_end closed x f left = ⊎_elim
    (λ h. inl (stands_alike start.sectors x old at_start h.0, h.1))
    (λ h. inr (closed_alike end.sectors x new at_end closed h.0, h.1))
    left

pub returns-clause-carries : goal.returns-clause-carries
returns-clause-carries c = carries_over

pub returns-clause-goes_on : goal.returns-clause-goes_on
returns-clause-goes_on c x left good closed agrees =
    let shut = cleared_closed left in
    carries_over x (cleared left) good closed shut (λ n out. (λ i. sym (closed_home (cleared left) shut) i n) ∙ cleared_home left n out ∙ agrees n out)
