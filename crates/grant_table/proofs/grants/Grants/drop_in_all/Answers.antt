use Rattle.std.proofs.Common.{sym, ◌∙◌, ap, subst, ◌≡◌, length, take, drop, ◌++◌}
use Rattle.std.specs.Prelude.{slice_set, map, option_map}
use Rattle.std.proofs.lemmas.List.{length-map}
use Rattle.tsd_model.specs.Sessions.{Sessions, Held}
use Rattle.tsd_model.specs.declared.requests.Level.TheVariants as level
use Rattle.grant_table.specs.Table.{Table, IsTable}
use Rattle.grant_table.proofs.TableLaws.{table_map, held_dropped_at, refill_whole}
use Rattle.grant_table.proofs.grants.Grants.drop_in_all.Goals as goal

pub invariant_of-self : goal.invariant_of-self
invariant_of-self c =
    let old : Sessions = c.self.inside.held.items in
    let t : Table = record { blocks = c.self.inside.blocks; primaries = c.self.inside.primaries; sessions = old } in
    let f : Held → Held = map (λ levels. slice_set levels c.args.block level.Bare) in
    let new : Sessions = c.drop_at_each.new.held in
    let changed : new ≡ map (option_map f) old = c.drop_at_each.ensures ∙ ap (map (option_map f)) c.as_mut_slice.ensures.value in
    let long : length new ≡ length old = ap length changed ∙ length-map old (option_map f) in
    let whole : take (length old) (new ++ drop (length new) old) ≡ map (option_map f) old = refill_whole old new long ∙ changed in
    let Q : Sessions → Type 0 = λ v. IsTable (record { blocks = t.blocks; primaries = t.primaries; sessions = v }) in
    subst Q (sym whole) (table_map t f (held_dropped_at t.blocks t.primaries c.args.block) c.self.invariant)
