use Rattle.std.proofs.Common.{◌∙◌, ap, arith, List, []}
use Rattle.std.specs.Prelude.{map, slice_set}
use Rattle.tsd_model.specs.declared.requests.Level.{Level}
use Rattle.tsd_model.specs.declared.requests.Level.TheVariants as level
use Rattle.grant_table.proofs.HeldLaws.{changed_all}
use Rattle.grant_table.proofs.holding.Holding.drop_at.Goals as goal

pub returns : goal.returns
returns c =
    let f = λ (levels : List Level). slice_set levels c.args.block level.Bare in
    changed_all [] f c.self.inside.tables.items c.loop-origin.self-inside.tables.items c.loop-origin.origin c.loop-origin.invariant.sized (omega arith) c.loop-origin.invariant.done
    ∙ ap (map f) c.self.view_is
