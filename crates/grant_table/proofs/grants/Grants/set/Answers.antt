use Rattle.std.proofs.Common.{sym, ◌∙◌, ap, subst, ◌≡◌, ◌-◌, length, take, drop, ◌++◌}
use Rattle.std.specs.Prelude.{slice_set, IfSome}
use Rattle.std.proofs.lemmas.List.{length-set}
use Rattle.tsd_model.specs.Sessions.{Sessions}
use Rattle.grant_table.specs.Table.{Table, IsTable, IsHeldAt}
use Rattle.grant_table.proofs.TableLaws.{table_set, refill_whole}
use Rattle.grant_table.proofs.grants.Grants.set.Goals as goal

pub invariant_of-self : goal.invariant_of-self
invariant_of-self c =
    let old : Sessions = c.self.inside.held.items in
    let t : Table = record { blocks = c.self.inside.blocks; primaries = c.self.inside.primaries; sessions = old } in
    let position = c.args.session - 1 in
    let seen : Sessions = c.as_mut_slice-held.result.now in
    let new : Sessions = slice_set seen position c.args.holding in
    let long : length new ≡ length old = length-set seen position c.args.holding ∙ ap length c.as_mut_slice-held.ensures.value in
    let whole : take (length old) (new ++ drop (length new) old) ≡ slice_set old position c.args.holding = refill_whole old new long ∙ ap (λ v. slice_set v position c.args.holding) c.as_mut_slice-held.ensures.value in
    let P : Table → Type 0 = λ u. IfSome c.args.holding (IsHeldAt u.blocks u.primaries) in
    let Q : Sessions → Type 0 = λ v. IsTable (record { blocks = t.blocks; primaries = t.primaries; sessions = v }) in
    subst Q (sym whole) (table_set t position c.args.holding c.self.invariant (subst P (sym c.self.view_is) c.requires))
