use Rattle.std.proofs.Common.{None, arith}
use Rattle.std.specs.Prelude.{map, option_map, slice_set}
use Rattle.tsd_model.specs.Sessions.{Held}
use Rattle.tsd_model.specs.declared.requests.Level.TheVariants as level
use Rattle.grant_table.proofs.HeldLaws.{changed_all}
use Rattle.grant_table.proofs.grants.drop_at_each.Goals as goal

pub returns : goal.returns
returns c =
    let f : Held → Held = map (λ levels. slice_set levels c.args.block level.Bare) in
    changed_all None (option_map f) c.args.held.now c.loop-position.held c.loop-position.position (omega arith) (omega arith) c.loop-position.invariant.done
