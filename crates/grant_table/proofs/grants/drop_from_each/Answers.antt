use Rattle.std.proofs.Common.{None, arith, length, replicate, []}
use Rattle.std.specs.Prelude.{option_map, slice_set, slice_index_or}
use Rattle.tsd_model.specs.Sessions.{Held}
use Rattle.tsd_model.specs.declared.requests.Level.TheVariants as level
use Rattle.grant_table.proofs.HeldLaws.{changed_all}
use Rattle.grant_table.proofs.grants.drop_from_each.Goals as goal

pub returns : goal.returns
returns c =
    let f : Held → Held = λ h. slice_set h c.args.origin (replicate (length (slice_index_or h c.args.origin [])) level.Bare) in
    changed_all None (option_map f) c.args.held.now c.loop-position.held c.loop-position.position (omega arith) (omega arith) c.loop-position.invariant.done
