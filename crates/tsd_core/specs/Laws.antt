-- What a table of grants that may still hold levels at free blocks says of requests.
use Rattle.std.specs.Prelude.{◌≡◌, ℕ, true, false, Option, Some, None}
use Rattle.tsd_model.specs.Pairs.{holds}
use Rattle.tsd_model.specs.World.{World, is_live}
use Rattle.tsd_model.specs.Sessions.{Sessions, fitted}
use Rattle.tsd_model.specs.Valid.{IsSized}
use Rattle.tsd_model.specs.Verdict.{verdict}
use Rattle.tsd_model.specs.Step.{gives, step, targets_from}
use Rattle.tsd_model.specs.ReplyForm.{HasForm}
use Rattle.tsd_model.specs.declared.replies.Reply.TheVariants as reply
use Rattle.tsd_model.specs.declared.replies.Rule.{Rule}
use Rattle.tsd_model.specs.declared.requests.PlaceKind.{PlaceKind}
use Rattle.tsd_model.specs.declared.requests.Request.{Request}
use Rattle.disk_laws.specs.Bytes.{AreLike}
use Rattle.grant_table.specs.Table.{Table}
use Rattle.tsd_core.specs.Seen.{IsOver, state_over, table_after, world_after, reply_to, is_read}

-- The verdict on a request by what is told and all that the table holds is that at the disk by what is seen of the
-- table.
abbrev pub VerdictsAreSeen : Type 0
VerdictsAreSeen = (g : Table) (t w : World) (q : Request) → IsOver g t w
    → verdict w (fitted t g.sessions) q ≡ verdict t g.sessions q

-- A granted request leads to the world and the reply of its change, and what is seen of the table afterwards is what
-- sessions hold then.
abbrev pub StepsAreSeen : Type 0
StepsAreSeen =
    (kind : PlaceKind) (g : Table) (t w : World) (q : Request) → IsOver g t w
    → ◌≡◌ {A = Option Rule} (verdict t g.sessions q) None
    → step kind (state_over t w g) q
    ≡ gives (world_after kind w q) (fitted (world_after kind w q) (table_after kind t g.sessions q)) (reply_to kind w q)

-- What is told gives the reply to every request but a read.
abbrev pub RepliesAreTold : Type 0
RepliesAreTold = (kind : PlaceKind) (t w : World) (q : Request) → AreLike t w → is_read q ≡ false
    → reply_to kind t q ≡ reply_to kind w q

-- A refusal has a form that can be sent, and so have targets of live blocks.
abbrev pub RefusalsHaveForm : Type 0
RefusalsHaveForm = (w : World) (v : Sessions) (q : Request) (r : Rule) → IsSized w → verdict w v q ≡ Some r
    → HasForm (reply.Refused r)

abbrev pub TargetsHaveForm : Type 0
TargetsHaveForm =
    (w : World) (a start : ℕ) → IsSized w → ((x y : ℕ) → holds w.pairs x y ≡ true → is_live w y ≡ true)
    → HasForm (reply.Targets (targets_from w.pairs a start))
