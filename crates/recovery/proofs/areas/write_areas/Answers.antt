use Rattle.std.proofs.Common.{◌≡◌, ℕ, ◌<◌, ◌≤◌, sym, subst, inl, refl, Ok}
use Rattle.recovery.proofs.Common.{Geometry, confined_sync, IsConfined, on_ok, sweep_flag, IsHeaderReading, fresh_end, fresh_bytes, is_fresh}
use Rattle.recovery.proofs.AreaRuns.{but_gate, after_header, after_gates, after_tables, all_written, header_inside, gates_inside, inside_joined}
use Rattle.recovery.proofs.areas.write_areas.Goals as goal

pub returns-in_err-write-clause-confined : goal.returns-in_err-write-clause-confined
returns-in_err-write-clause-confined g c told = after_header _ _ (g.met.D.Device.sound c.args.dev.now told) (c.write.ensures.touches told)

pub returns-in_err-close_gates-clause-confined : goal.returns-in_err-close_gates-clause-confined
returns-in_err-close_gates-clause-confined g c told =
    after_gates _ _ _ (after_header _ _ (g.met.D.Device.sound c.args.dev.now told) (c.write.ensures.touches told)) (c.close_gates.ensures.confined told)

pub returns-in_err-write_tables-clause-confined : goal.returns-in_err-write_tables-clause-confined
returns-in_err-write_tables-clause-confined g c told =
    after_tables _ _ _ (after_gates _ _ _ (after_header _ _ (g.met.D.Device.sound c.args.dev.now told) (c.write.ensures.touches told)) (c.close_gates.ensures.confined told)) (c.write_tables.ensures.confined told)

pub returns-clause-confined : goal.returns-clause-confined
returns-clause-confined g c told =
    confined_sync but_gate _ _ _
    (after_tables _ _ _ (after_gates _ _ _ (after_header _ _ (g.met.D.Device.sound c.args.dev.now told) (c.write.ensures.touches told)) (c.close_gates.ensures.confined told)) (c.write_tables.ensures.confined told))
    (c.sync.ensures.settles told)

pub returns-in_err-write-clause-inside : goal.returns-in_err-write-clause-inside
returns-in_err-write-clause-inside g c told = header_inside c.args.geometry.now _ _ (g.met.D.Device.sound c.args.dev.now told) (c.write.ensures.touches told)

pub returns-in_err-close_gates-clause-inside : goal.returns-in_err-close_gates-clause-inside
returns-in_err-close_gates-clause-inside g c told =
    gates_inside c.args.geometry.now _ _ _ (header_inside c.args.geometry.now _ _ (g.met.D.Device.sound c.args.dev.now told) (c.write.ensures.touches told)) (c.close_gates.ensures.confined told)

pub returns-in_err-write_tables-clause-inside : goal.returns-in_err-write_tables-clause-inside
returns-in_err-write_tables-clause-inside g c told =
    inside_joined c.args.geometry.now _ _ _ (gates_inside c.args.geometry.now _ _ _ (header_inside c.args.geometry.now _ _ (g.met.D.Device.sound c.args.dev.now told) (c.write.ensures.touches told)) (c.close_gates.ensures.confined told))
    (subst (λ (k : Geometry). IsConfined (is_fresh k) (g.D.Device.view c.close_gates.new.dev) (g.D.Device.view c.write_tables.new.dev)) c.of.ensures (c.write_tables.ensures.inside told))

pub returns-clause-inside : goal.returns-clause-inside
returns-clause-inside g c told =
    confined_sync (is_fresh c.args.geometry.now) _ _ _
    (inside_joined c.args.geometry.now _ _ _ (gates_inside c.args.geometry.now _ _ _ (header_inside c.args.geometry.now _ _ (g.met.D.Device.sound c.args.dev.now told) (c.write.ensures.touches told)) (c.close_gates.ensures.confined told))
    (subst (λ (k : Geometry). IsConfined (is_fresh k) (g.D.Device.view c.close_gates.new.dev) (g.D.Device.view c.write_tables.new.dev)) c.of.ensures (c.write_tables.ensures.inside told)))
    (c.sync.ensures.settles told)

pub returns-clause-written : goal.returns-clause-written
returns-clause-written g c told =
    let header = subst (λ bytes. IsHeaderReading bytes (Ok (record { version = 1; geometry = c.args.geometry.now }))) (sym (c.in_ok-write.ensures.written told)) (c.write_header.ensures.reads_back (inl refl) c.requires.lawful) in
    let now = g.D.Device.view c.write_tables.new.dev in
    let fresh = subst (λ (k : Geometry). (n : ℕ) → sweep_flag ≤ n → n < fresh_end k → now.reads n ≡ fresh_bytes k c.args.caps.now n) c.of.ensures (c.in_ok-write_tables.ensures.fresh told) in
    on_ok c.sync.result
    (all_written c.args.geometry.now c.args.caps.now _ _ _ _ c.requires.lawful c.requires.each c.in_ok-write_tables.ensures.kept header
    (c.close_gates.ensures.confined told) (c.in_ok-close_gates.ensures.closed told) (c.write_tables.ensures.confined told) fresh (c.sync.ensures.settles told))
