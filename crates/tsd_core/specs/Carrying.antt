-- A request that no rule refuses, carried out once the levels have risen.
use Rattle.std.specs.Prelude.{◌≡◌, ◌⊎◌, ℕ, ◌+◌, ◌≤◌, true, false, List, Result, Ok, Err, OnOk, IfOk}
use Rattle.tsd_model.specs.Pairs.{holds}
use Rattle.tsd_model.specs.World.{World, is_live}
use Rattle.tsd_model.specs.Valid.{IsSized}
use Rattle.tsd_model.specs.ReplyForm.{HasForm}
use Rattle.tsd_model.specs.declared.replies.Reply.{Reply}
use Rattle.tsd_model.specs.declared.replies.Reply.TheVariants as answered
use Rattle.tsd_model.specs.declared.requests.PlaceKind.{PlaceKind}
use Rattle.tsd_model.specs.declared.requests.Request.{Request}
use Rattle.image_device.specs.View.{View}
use Rattle.image_device.specs.declared.device.Failed.{Failed}
use Rattle.intent_journal.specs.Ring.{checkpoint_writes}
use Rattle.disk_laws.specs.Bytes.{AreLike}
use Rattle.disk_laws.specs.Reclaiming.{is_sweep}
use Rattle.grant_table.specs.Table.{Table, with_sessions}
use Rattle.tsd_core.specs.Seen.{table_change, world_after, reply_to, is_read, writes_nothing, IsStarved}
use Rattle.volume.specs.Sweeping.{sweep_cost}
use Rattle.volume_laws.specs.Operations.{IsOperation}
use Rattle.volume_laws.specs.Volume.{IsVolumeReady, Volume, told_by, world_on}
use Rattle.image_world.specs.Debt.{owed}
use Rattle.volume_laws.specs.Moments.{LeavesOwed}
use Rattle.volume_laws.specs.Writes.{due, zeroed_cost, IsPaid}
use Rattle.tsd_core.specs.Core.{Core, told_world}
use Rattle.tsd_core.specs.Work.{made_by, cost_of, write_limit}
use Rattle.tsd_core.specs.Journal.{bytes_given, waits, most_homes, owed_then, makes_blocks, count_of, HasGrown}
use Rattle.volume_laws.specs.Rings.{CommitsOnce}
use Rattle.image_device.specs.Calls.{Rests}

-- What holds of each volume: the sizes of what it tells, that both ends of each pair are live, and how much the journal
-- holds.
pub record IsKnown (v : Volume) : Type 0 where
  pub geometry : (told_by v).geometry ≡ v.tables.geometry
  pub version : (told_by v).version ≡ v.tables.version
  pub sized : IsSized (told_by v)
  pub ends : (a b : ℕ) → holds (told_by v).pairs a b ≡ true
      → (is_live (told_by v) a ≡ true) × (is_live (told_by v) b ≡ true)
  pub ring : checkpoint_writes v.ring ≤ 121

-- What a call on the volume does for a request, between these devices: it makes the change of the request, in memory
-- too. What it costs is said of a sweep by what it takes away, and of all others by what they doom.
pub record DoesRequest {T : Type 0} (told : Type 0) (kind : PlaceKind) (q : Request) (old new : Volume) (v w : View)
    (result : Result T Failed) : Type 0 where
  pub operation : IsOperation told (bytes_given kind (told_by old) q) (λ u. world_after kind u q) old new v w result
  -- it commits one batch, where it needn't wait for what is doomed; what is owed then; and what new blocks leave of the
  -- journal
  pub once : waits old q ≡ false → CommitsOnce (most_homes old.tables.geometry q) old new v w result
  pub owes : OnOk result (owed new.tables ≡ owed_then old q)
  pub grown : makes_blocks q ≡ true → OnOk result (HasGrown kind q old new)
  pub rests : told → writes_nothing q ≡ true → Rests v w
  pub version : new.tables.version ≡ old.tables.version
  pub like : OnOk result (AreLike (told_by new) (world_after kind (told_by old) q))
  pub ready : OnOk result (IsVolumeReady new)
  -- what all but a sweep cost
  pub any_owed : told → is_sweep q ≡ false → LeavesOwed v w (owed old.tables + made_by (told_by old) q)
  pub paid : is_sweep q ≡ false → OnOk result (IsPaid (cost_of (told_by old) q) old v new w)
  pub most : is_sweep q ≡ false → w.writes ≤ v.writes + due old + cost_of (told_by old) q
  pub limit : is_sweep q ≡ false → w.writes ≤ v.writes + write_limit old q
  -- what new blocks cost
  pub new_paid : makes_blocks q ≡ true
      → OnOk result (IsPaid (zeroed_cost old.tables.geometry (count_of q)) old v new w)
  pub new_most : makes_blocks q ≡ true → w.writes ≤ v.writes + due old + zeroed_cost old.tables.geometry (count_of q)
  -- what a sweep costs: by what it takes away
  pub sweep_paid : is_sweep q ≡ true → OnOk result (IsPaid (sweep_cost (told_by old)) old v new w)
  pub swept : is_sweep q ≡ true → w.writes ≤ v.writes + due old + sweep_cost (told_by old)

-- In memory: the table is that of the change and the reply that of the rules, but for the bytes of a read.
pub record IsChanged (kind : PlaceKind) (w : World) (old : Table) (q : Request) (r : Reply) (new : Table) : Type 0 where
  pub table : new ≡ with_sessions old (table_change kind w old.sessions q)
  pub reply : is_read q ≡ false → r ≡ reply_to kind w q
  pub read : is_read q ≡ true → (bytes : List ℕ) × (r ≡ answered.Bytes bytes)

-- The request is carried out.
pub record IsCarriedOut (told : Type 0) (kind : PlaceKind) (q : Request) (old new : Core) (v w : View)
    (result : Result Reply Failed) : Type 0 where
  pub kept : IfOk result (λ r. IsChanged kind (told_world old) old.grants q r new.grants
      ⊎ IsStarved old.grants q r new.grants)
  pub bytes : told → IfOk result (λ r. is_read q ≡ true → r ≡ reply_to kind (world_on v) q)
  pub form : IfOk result HasForm
  pub volume : DoesRequest told kind q old.volume new.volume v w result

-- the outcome of a call as the outcome of the request, with the reply that its value gives
abbrev pub replied : {T : Type 0} → Result T Failed → (T → Reply) → Result Reply Failed
replied (Ok x) reply_of = Ok (reply_of x)
replied (Err e) reply_of = Err e

-- the outcome of a call that puts its reply into a room: the reply that stands there then, unless it failed
abbrev pub left_in : {T : Type 0} → Result T Failed → Reply → Result Reply Failed
left_in outcome into = replied outcome (λ x. into)
