-- A request, applied.
use Rattle.std.specs.Prelude.{◌≡◌, ◌⊎◌, ℕ, ◌+◌, ◌≤◌, Bool, true, false, List, Option, Result, Ok, IsOk, OnOk, OnErr}
use Rattle.std.specs.Prelude.{IfOk, IfSome}
use Rattle.tsd_model.specs.World.{World}
use Rattle.tsd_model.specs.ReplyForm.{HasForm, is_refusal}
use Rattle.tsd_model.specs.Step.{State, step}
use Rattle.tsd_model.specs.Run.{answer}
use Rattle.tsd_model.specs.Verdict.{verdict}
use Rattle.tsd_model.specs.declared.replies.Reply.{Reply}
use Rattle.tsd_model.specs.declared.replies.Reply.TheVariants as reply
use Rattle.tsd_model.specs.declared.replies.Rule.{Rule}
use Rattle.tsd_model.specs.declared.requests.PlaceKind.{PlaceKind}
use Rattle.tsd_model.specs.declared.requests.Request.{Request}
use Rattle.tsd_model.specs.declared.requests.Request.TheVariants as ask
use Rattle.image_device.specs.View.{View}
use Rattle.image_device.specs.Counts.{CountsFault}
use Rattle.image_device.specs.declared.device.Failed.{Failed}
use Rattle.disk_laws.specs.Bytes.{AreLike}
use Rattle.disk_laws.specs.Reclaiming.{is_sweep}
use Rattle.tsd_model.specs.Run.{IsAnswer}
use Rattle.volume.specs.Sweeping.{sweep_cost}
use Rattle.volume_laws.specs.Moments.{LeavesEither}
use Rattle.volume_laws.specs.Writes.{due, zeroed_cost, Works}
use Rattle.tsd_core.specs.Core.{Core, IsCoreReady, IsCoreAt, told_world, told_state, sessions_of, state_on}
use Rattle.tsd_core.specs.Journal.{bytes_given, waits, most_homes, owed_then, makes_blocks, count_of, HasGrown}
use Rattle.tsd_core.specs.Seen.{writes_nothing}
use Rattle.volume_laws.specs.Data.{KeepsData}
use Rattle.volume_laws.specs.Rings.{CommitsOnce}
use Rattle.image_world.specs.Debt.{owed}
use Rattle.image_world.specs.Behind.{behind}
use Rattle.image_device.specs.Calls.{Rests}
use Rattle.image_device.specs.Runs.{LeavesPart}
use Rattle.tsd_core.specs.Work.{made_in, cost_in, write_limit, LeavesDebt, SameSize}

-- the same reply, or both are the bytes of a block
abbrev pub IsReplyLike : Reply → Reply → Type 0
IsReplyLike r s = (r ≡ s) ⊎ ((x : List ℕ) × (y : List ℕ) × (r ≡ reply.Bytes x) × (s ≡ reply.Bytes y))

-- The answer by the rules of the disk, as far as memory tells it: all but the bytes of blocks. It holds for every
-- device.
pub record IsToldAnswer (kind : PlaceKind) (old : Core) (q : Request) (r : Reply) (new : Core) : Type 0 where
  pub want : Bool
  pub reply : IsReplyLike r (answer kind (told_state old) q want).reply
  pub world : AreLike (told_world new) (answer kind (told_state old) q want).state.world
  pub sessions : sessions_of new ≡ (answer kind (told_state old) q want).state.sessions

-- the rule that refuses a request, if one does: memory tells it
abbrev pub told_verdict : Core → Request → Option Rule
told_verdict c q = verdict (told_world c) (sessions_of c) q

-- it opens or closes a session, or is answered from memory
abbrev pub asks_nothing : Request → Bool
asks_nothing ask.Bad = true
asks_nothing (ask.Begin s) = true
asks_nothing (ask.End s) = true
asks_nothing ask.GetFree = true
asks_nothing (ask.List s a shown start) = true
asks_nothing q = false

-- the world after the request, by the rules of the disk
abbrev pub next_world : PlaceKind → State → Request → World
next_world kind s q = (step kind s q).state.world

-- What a request does, between these devices.
pub record IsApplied (told : Type 0) (kind : PlaceKind) (q : Request) (old new : Core) (v w : View)
    (result : Result Reply Failed) : Type 0 where
  pub ready : OnOk result (IsCoreReady new)
  pub at : told → OnOk result (IsCoreAt new w)
  pub form : IfOk result HasForm
  pub given : told → IfOk result (λ r. IsAnswer kind (state_on old v.reads) q r (state_on new w.reads))
  pub told_given : IfOk result (λ r. IsToldAnswer kind old q r new)
  pub refused : IfOk result (λ r. is_refusal r ≡ true → new ≡ old)
  pub refusal : IfSome (told_verdict old q) (λ rule. result ≡ Ok (reply.Refused rule))
  pub answered : asks_nothing q ≡ true → IsOk result
  pub size : SameSize old new
  pub spent : OnErr result (new.volume.is_spent ≡ true)
  pub sent : told → w.sent ≡ v.sent
  pub data_kept : told → KeepsData old.volume.tables.geometry (bytes_given kind (told_world old) q) v w result
  pub behind : told → LeavesPart (behind old.volume.tables.geometry) v w
  pub once : waits old.volume q ≡ false
      → CommitsOnce (most_homes old.volume.tables.geometry q) old.volume new.volume v w result
  pub owes : IfOk result (λ r. is_refusal r ≡ false → owed new.volume.tables ≡ owed_then old.volume q)
  pub grown : makes_blocks q ≡ true → IfOk result (λ r. is_refusal r ≡ false → HasGrown kind q old.volume new.volume)
  pub rests : told → writes_nothing q ≡ true → Rests v w
  pub any_moment : told → LeavesEither v w (next_world kind (state_on old v.reads) q)
  pub debt : told → is_sweep q ≡ false → LeavesDebt v w (made_in (state_on old v.reads) q)
  pub paid : told → is_sweep q ≡ false
      → OnOk result (w.writes + due new.volume ≤ v.writes + due old.volume + cost_in (state_on old v.reads) q)
  pub most : told → is_sweep q ≡ false → w.writes ≤ v.writes + due old.volume + cost_in (state_on old v.reads) q
  pub limit : is_sweep q ≡ false → w.writes ≤ v.writes + write_limit old.volume q
  pub new_paid : makes_blocks q ≡ true → OnOk result (w.writes + due new.volume
      ≤ v.writes + due old.volume + zeroed_cost old.volume.tables.geometry (count_of q))
  pub new_most : makes_blocks q ≡ true
      → w.writes ≤ v.writes + due old.volume + zeroed_cost old.volume.tables.geometry (count_of q)
  pub sweep_paid : is_sweep q ≡ true
      → OnOk result (w.writes + due new.volume ≤ v.writes + due old.volume + sweep_cost (told_world old))
  pub swept : is_sweep q ≡ true → w.writes ≤ v.writes + due old.volume + sweep_cost (told_world old)
  pub works : Works v w
  pub faults : CountsFault result v.faults w.faults
