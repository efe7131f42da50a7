use Rattle.std.proofs.Common.{sym, ◌∙◌, ap, subst, ◌≡◌, ℕ, length, take, drop, ◌++◌, replicate, []}
use Rattle.std.specs.Prelude.{slice_set, slice_index_or, map, option_map}
use Rattle.std.proofs.lemmas.List.{length-map}
use Rattle.tsd_model.specs.Sessions.{Sessions, Held, dropped_from}
use Rattle.tsd_model.specs.declared.requests.Level.TheVariants as level
use Rattle.grant_table.specs.Table.{Table, IsTable, with_sessions}
use Rattle.grant_table.proofs.TableLaws.{table_map, held_dropped_from, cleared_all, refill_whole}
use Rattle.grant_table.proofs.grants.Grants.drop_from.Goals as goal

-- the places after the call are those of the definition
whole : (t : Table) (new : Sessions) (o : ℕ) → IsTable t → new ≡ map (option_map (λ h. slice_set h o (replicate (length (slice_index_or h o [])) level.Bare))) t.sessions →
    take (length t.sessions) (new ++ drop (length new) t.sessions) ≡ dropped_from t.blocks o t.sessions
whole t new o h changed =
    let long : length new ≡ length t.sessions = ap length changed ∙ length-map t.sessions (option_map (λ h. slice_set h o (replicate (length (slice_index_or h o [])) level.Bare))) in
    refill_whole t.sessions new long ∙ (changed ∙ cleared_all t o h)

pub invariant_of-self : goal.invariant_of-self
invariant_of-self c =
    let t : Table = record { blocks = c.self.inside.blocks; primaries = c.self.inside.primaries; sessions = c.self.inside.held.items } in
    let o = c.args.primary in
    let f : Held → Held = λ h. slice_set h o (replicate (length (slice_index_or h o [])) level.Bare) in
    let changed : c.drop_from_each.new.held ≡ map (option_map f) t.sessions = c.drop_from_each.ensures ∙ ap (map (option_map f)) c.as_mut_slice.ensures.value in
    let Q : Sessions → Type 0 = λ v. IsTable (record { blocks = t.blocks; primaries = t.primaries; sessions = v }) in
    subst Q (sym (whole t c.drop_from_each.new.held o c.self.invariant changed))
    (table_map t (λ h. slice_set h o (replicate t.blocks level.Bare)) (held_dropped_from t.blocks t.primaries o) c.self.invariant)

pub returns : goal.returns
returns c =
    let t : Table = record { blocks = c.self.inside.blocks; primaries = c.self.inside.primaries; sessions = c.self.inside.held.items } in
    let o = c.args.primary in
    let f : Held → Held = λ h. slice_set h o (replicate (length (slice_index_or h o [])) level.Bare) in
    let changed : c.drop_from_each.new.held ≡ map (option_map f) t.sessions = c.drop_from_each.ensures ∙ ap (map (option_map f)) c.as_mut_slice.ensures.value in
    ap (λ v. with_sessions t v) (whole t c.drop_from_each.new.held o c.self.invariant changed)
    ∙ ap (λ u. with_sessions u (dropped_from u.blocks o u.sessions)) c.self.view_is
