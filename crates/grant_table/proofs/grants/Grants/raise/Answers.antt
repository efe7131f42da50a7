use Rattle.std.proofs.Common.{sym, ◌∙◌, ap, subst, ◌≡◌, ℕ, ◌-◌, ◌<◌, Option, None, length, take, drop, ◌++◌}
use Rattle.std.specs.Prelude.{slice_set, slice_index_or, option_map}
use Rattle.std.proofs.lemmas.List.{length-set, get_or_default}
use Rattle.tsd_model.specs.Sessions.{Sessions, Held, held_by, raised_sessions, raised_held}
use Rattle.tsd_model.specs.declared.requests.Level.{Level}
use Rattle.tsd_model.specs.declared.requests.Level.TheVariants as level
use Rattle.tsd_model.proofs.SessionLaws.{held-placed, with_held-placed}
use Rattle.grant_table.specs.Table.{Table, IsTable, with_sessions}
use Rattle.grant_table.proofs.TableLaws.{table_set, held_raised, IfSome-map, option_raised_same, refill_whole}
use Rattle.grant_table.proofs.grants.Grants.raise.Goals as goal

-- the places after the call: what the session held was raised
whole : (old seen : Sessions) (position b : ℕ) (f : ℕ → Level) (x y : Option Held) → seen ≡ old → position < length seen → y ≡ option_map (raised_held b f) (slice_index_or seen position x) →
    take (length old) (slice_set seen position y ++ drop (length (slice_set seen position y)) old) ≡ slice_set old position (option_map (raised_held b f) (slice_index_or old position None))
whole old seen position b f x y same within risen =
    let found : slice_index_or seen position x ≡ slice_index_or old position None = get_or_default seen position x None within ∙ ap (λ v. slice_index_or v position None) same in
    refill_whole old (slice_set seen position y) (length-set seen position y ∙ ap length same)
    ∙ (ap (λ v. slice_set v position y) same ∙ ap (slice_set old position) (risen ∙ ap (option_map (raised_held b f)) found))

pub invariant_of-self : goal.invariant_of-self
invariant_of-self c =
    let t : Table = record { blocks = c.self.inside.blocks; primaries = c.self.inside.primaries; sessions = c.self.inside.held.items } in
    let f : ℕ → Level = λ o. slice_index_or c.args.origins.now o level.Bare in
    let position = c.args.session - 1 in
    let Q : Sessions → Type 0 = λ v. IsTable (record { blocks = t.blocks; primaries = t.primaries; sessions = v }) in
    subst Q (sym (whole t.sessions c.as_mut_slice-held.result.now position c.args.block f c.index-held-position.result c.raise_held.new.held c.as_mut_slice-held.ensures.value c.if-position-held.true c.raise_held.ensures))
    (table_set t position _ c.self.invariant
    (IfSome-map t.blocks t.primaries (raised_held c.args.block f) (held_raised t.blocks t.primaries c.args.block f) (slice_index_or t.sessions position None) (c.self.invariant.held position)))

pub returns-then-position-held : goal.returns-then-position-held
returns-then-position-held c = λ f same.
    let t : Table = record { blocks = c.self.inside.blocks; primaries = c.self.inside.primaries; sessions = c.self.inside.held.items } in
    let g : ℕ → Level = λ o. slice_index_or c.args.origins.now o level.Bare in
    let position = c.args.session - 1 in
    let P : Table → Type 0 = λ u. (o : ℕ) → o < u.primaries → f o ≡ g o in
    let alike : P t = subst P (sym c.self.view_is) same in
    let some : c.args.session ≡ 0 → ⊥ = c.if-session-eq0.false in
    ap (λ v. with_sessions t v) (whole t.sessions c.as_mut_slice-held.result.now position c.args.block g c.index-held-position.result c.raise_held.new.held c.as_mut_slice-held.ensures.value c.if-position-held.true c.raise_held.ensures)
    ∙ (ap (λ x. with_sessions t (slice_set t.sessions position x)) (sym (option_raised_same t.blocks t.primaries c.args.block f g alike (slice_index_or t.sessions position None) (c.self.invariant.held position)))
    ∙ (ap (λ x. with_sessions t (slice_set t.sessions position (option_map (raised_held c.args.block f) x))) (sym (held-placed t.sessions c.args.session some))
    ∙ (ap (λ v. with_sessions t v) (sym (with_held-placed t.sessions c.args.session (option_map (raised_held c.args.block f) (held_by t.sessions c.args.session)) some))
    ∙ ap (λ u. with_sessions u (raised_sessions u.sessions c.args.session c.args.block f)) c.self.view_is)))
