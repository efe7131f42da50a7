use Rattle.std.proofs.Common.{◌≡◌, drop}
use Rattle.tsd_core.proofs.Common.{dropped_each, with_sessions}
use Rattle.tsd_core.proofs.grow.drop_at.Given as goal

abbrev pub invariant-loop-block : goal.invariant-loop-block
invariant-loop-block l =
    (l.grants ≡ with_sessions l.fn.grants l.grants.sessions)
    × (dropped_each (drop l.block-index l.blocks) l.grants.sessions ≡ dropped_each l.blocks l.fn.grants.sessions)
