-- How often an opening writes.
use Rattle.std.proofs.Common.{◌≡◌, ◌+◌, ◌≤◌, [], ap, arith}
use Rattle.recovery.proofs.Common.{Uses, View, uses_within, uses_and, tables_of, home, replay_writes, checkpoint_writes, Volume, IsVolumeAt, due, opening_writes}
use Rattle.image_device.proofs.Resting.{uses_none}
use Rattle.volume.specs.Sweeping.{left_cost, left_due}
use Rattle.recovery.proofs.OpenRuns.{IsStill, IsReplayed, same_tables}

pub costs_none : (v0 : View) → Uses (opening_writes v0.reads) v0 v0
costs_none v0 = uses_within 0 (opening_writes v0.reads) v0 v0 (omega arith) (uses_none v0)

-- before the replay
pub costs_start : (v0 v1 : View) → Uses 0 v0 v1 → Uses (opening_writes v0.reads) v0 v1
costs_start v0 v1 uses = uses_within 0 (opening_writes v0.reads) v0 v1 (omega arith) uses

-- what was replayed
pub uses_replay : (v0 v2 v3 : View) → IsStill v0 v2 → Uses 0 v0 v2 → Uses (replay_writes v2.reads) v2 v3 → Uses (replay_writes v0.reads) v0 v3
uses_replay v0 v2 v3 still before replay =
    let same : replay_writes v2.reads ≡ replay_writes v0.reads = ap replay_writes still.reads in
    uses_and 0 (replay_writes v2.reads) (replay_writes v0.reads) v0 v2 v3 (omega (arith, same)) before replay

pub costs_replay : (v0 v3 : View) → Uses (replay_writes v0.reads) v0 v3 → Uses (opening_writes v0.reads) v0 v3
costs_replay v0 v3 uses = uses_within (replay_writes v0.reads) (opening_writes v0.reads) v0 v3 (omega arith) uses

pub uses_load : (v0 v3 v4 : View) → Uses (replay_writes v0.reads) v0 v3 → Uses 0 v3 v4 → Uses (replay_writes v0.reads) v0 v4
uses_load v0 v3 v4 replay load = uses_and (replay_writes v0.reads) 0 (replay_writes v0.reads) v0 v3 v4 (omega arith) replay load

-- what the volume has left is what the image had left: its records are in place
left_same : (v0 v4 : View) (vol : Volume) → IsReplayed v0 v4 → IsVolumeAt vol v4 → vol.ring ≡ [] → left_due vol ≡ left_cost (tables_of (home v0.reads))
left_same v0 v4 vol done at none =
    let tables : left_cost vol.tables ≡ left_cost (tables_of (home v0.reads)) = ap left_cost (same_tables v0 v4 vol done at) in
    let empty : checkpoint_writes vol.ring ≡ 0 = ap checkpoint_writes none in
    omega (arith, tables, empty)

pub costs_finish : (v0 v4 v5 : View) (vol : Volume) → IsReplayed v0 v4 → IsVolumeAt vol v4 → vol.ring ≡ [] → Uses (replay_writes v0.reads) v0 v4 → Uses (left_due vol) v4 v5 → Uses (opening_writes v0.reads) v0 v5
costs_finish v0 v4 v5 vol done at none before finish =
    uses_and (replay_writes v0.reads) (left_due vol) (opening_writes v0.reads) v0 v4 v5 (omega (arith, left_same v0 v4 vol done at none)) before finish

pub costs_paid : (v0 v4 v5 : View) (vol now : Volume) → IsReplayed v0 v4 → IsVolumeAt vol v4 → vol.ring ≡ [] → Uses (replay_writes v0.reads) v0 v4
    → v5.writes + due now ≤ v4.writes + left_due vol → v5.writes + due now ≤ v0.writes + opening_writes v0.reads
costs_paid v0 v4 v5 vol now done at none before paid = omega (arith, left_same v0 v4 vol done at none, before.most, paid)
