-- When the disk is full.
use Rattle.std.specs.Prelude.{◌≡◌, ℕ, ◌<◌, Bool, Option, Some, None, ◌↔◌}
use Rattle.tsd_model.specs.World.{free_count}
use Rattle.tsd_model.specs.Needs.{wanted_blocks}
use Rattle.tsd_model.specs.Verdict.{first_rule, rules_before_room}
use Rattle.tsd_model.specs.Step.{State}
use Rattle.tsd_model.specs.Run.{answer}
use Rattle.tsd_model.specs.declared.replies.Reply.TheVariants as reply
use Rattle.tsd_model.specs.declared.replies.Rule.{Rule}
use Rattle.tsd_model.specs.declared.replies.Rule.TheVariants as rule
use Rattle.tsd_model.specs.declared.requests.PlaceKind.{PlaceKind}
use Rattle.tsd_model.specs.declared.requests.Request.{Request}

-- The request wants so many free blocks, no rule that stands before Full applies, so many are free, and they are fewer.
abbrev pub IsFullAt : State → Request → ℕ → ℕ → Type 0
IsFullAt s q free count =
    (◌≡◌ {A = Option ℕ} (wanted_blocks q) (Some count))
    × (◌≡◌ {A = Option Rule} (first_rule (rules_before_room s.world s.sessions q)) None)
    × (free ≡ free_count s.world)
    × (free < count)

-- The reply is Full with two numbers exactly there.
abbrev pub FullMeansFull : Type 0
FullMeansFull =
    (kind : PlaceKind) (s : State) (q : Request) (want : Bool) (free count : ℕ)
    → ((answer kind s q want).reply ≡ reply.Refused (rule.Full free count)) ↔ IsFullAt s q free count
