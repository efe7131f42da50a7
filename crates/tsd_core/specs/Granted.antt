-- A request that is granted, once levels have risen.
use Rattle.std.specs.Prelude.{◌≡◌, Option, Some, None}
use Rattle.tsd_model.specs.World.{World}
use Rattle.tsd_model.specs.Sessions.{Sessions, raised_sessions}
use Rattle.tsd_model.specs.Attained.{attained_from}
use Rattle.tsd_model.specs.Verdict.{verdict}
use Rattle.tsd_model.specs.Step.{raised_by}
use Rattle.tsd_model.specs.declared.needs.Need.{Need}
use Rattle.tsd_model.specs.declared.replies.Rule.{Rule}
use Rattle.tsd_model.specs.declared.requests.Request.{Request}
use Rattle.std.specs.Prelude.{ℕ}

-- No rule refused it at these sessions, and the levels are those that have risen by it.
pub record IsRaised (w : World) (q : Request) (now : Sessions) : Type 0 where
  pub sessions : Sessions
  pub granted : ◌≡◌ {A = Option Rule} (verdict w sessions q) None
  pub risen : now ≡ raised_by w sessions q

-- what is held once it has risen where one level is needed
abbrev pub raised_need : World → Sessions → ℕ → Option Need → Sessions → Sessions
raised_need w v s None now = now
raised_need w v s (Some n) now = raised_sessions now s n.block (attained_from w v s n.block n.shown)
