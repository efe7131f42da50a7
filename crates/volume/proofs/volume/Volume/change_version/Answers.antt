use Rattle.std.proofs.Common.{arith}
use Rattle.volume.proofs.Common.{batch_cost, owed, committed_op, committed_within, map, cases_eq, upgraded, upgraded_record, IsLawful, Geometry, IsHeaderReading, header_bytes, Store, caps_sector_bytes, AreKept, AreSound, Tables, Turns, Patch, Volume, tables_in, commits_once, any_bytes, IsOp, op_told, home}
use Rattle.std.proofs.Common.{◌≡◌, ◌≤◌, ℕ, inl, inr, List, length, refl, sym, ◌∙◌, ap, subst, Ok}
use Rattle.tsd_model.specs.declared.records.Record.{Record}
use Rattle.image_world.specs.Changes.{upgraded_tables}
use Rattle.volume_laws.proofs.UpgradeLaws.{upgrade_turn, no_upgrade, upgraded_in, upgrade_op}
use Rattle.volume_laws.proofs.DigestLaws.{digests_laid, same_laid}
use Rattle.volume.proofs.volume.Volume.change_version.Given
use Rattle.volume.proofs.volume.Volume.change_version.Goals as goal

-- no version is both
not_both : (version : ℕ) → version ≡ 1 → version ≡ 2 → ⊥
not_both version one two = omega (arith, one, two)

-- the volume then
abbrev now : (g : Given.Over) → goal.After-self-2-1 g → Volume
now g c = let i = c.self.inside in record { tables = tables_in (record { version = 2; geometry = i.header.geometry }) i.pointers i.counts i.live c.upgrade.new.self i.is_sweeping; ring = c.commit-outcome.new.self; is_ready = i.is_ready; is_spent = c.is_err-self-inside.result }

turns : (g : Given.Over) (c : goal.After-self-2-1 g) → Turns c.args.self.now.tables (upgraded_tables c.args.self.now.tables) c.put_upgrade.new.batch
turns g c =
    let i = c.self.inside in
    let t = c.args.self.now.tables in
    let is = ap (λ (w : Volume). w.tables) c.self.view_is in
    let sound = subst (λ (u : Tables). AreSound u) is c.self.invariant.sound in
    let records : i.caps.records ≡ t.records = ap (λ (u : Tables). u.records) is in
    let size : i.header.geometry ≡ t.geometry = ap (λ (u : Tables). u.geometry) is in
    let up : c.upgrade.new.self.records ≡ map upgraded_record t.records = ap (λ (s : Store). s.records) c.upgrade.ensures.upgraded ∙ ap (map upgraded_record) records in
    elim (cases_eq i.header.version 2) [
      | inl two ↦
          let same : map upgraded_record i.caps.records ≡ i.caps.records = ap (λ (s : Store). s.records) (sym c.upgrade.ensures.upgraded ∙ c.upgrade.ensures.same (c.self.invariant.kept_version ∙ two)) in
          no_upgrade t c.put_upgrade.new.batch sound (sym (ap (λ (u : Tables). u.version) is) ∙ two) (ap (map upgraded_record) (sym records) ∙ (same ∙ records)) (c.put_upgrade.ensures.none two)
      | inr other ↦
          upgrade_turn t c.put_upgrade.new.batch (header_bytes (record { version = 2; geometry = i.header.geometry })) (caps_sector_bytes 2 c.upgrade.new.self.records 0) (caps_sector_bytes 2 c.upgrade.new.self.records 1) sound
          (subst (λ (k : Geometry). IsHeaderReading (header_bytes (record { version = 2; geometry = i.header.geometry })) (Ok (record { version = 2; geometry = k }))) size
          (c.put_upgrade.ensures.header (inr refl) (subst (λ (k : Geometry). IsLawful k) (sym size) sound.slots.lawful)))
          (λ y first second. subst (λ (rs : List Record). AreKept 2 rs y) up (c.upgrade.ensures.both y first second))
          (c.put_upgrade.ensures.laid other)
    ]

this : (g : Given.Over) (c : goal.After-self-2-1 g) → IsOp any_bytes c.args.self.now (now g c).tables c.put_upgrade.new.batch 3 0 (λ w. upgraded w)
this g c =
    let i = c.self.inside in
    upgrade_op c.args.self.now (now g c).tables c.put_upgrade.new.batch
    (upgraded_in i.header i.pointers i.counts i.live i.caps c.upgrade.new.self i.is_sweeping c.args.self.now.tables c.upgrade.ensures.upgraded (ap (λ (w : Volume). w.tables) c.self.view_is))
    (turns g c) c.put_upgrade.ensures.few

pub returns-clause-told : goal.returns-clause-told
returns-clause-told g c = op_told c.commit-outcome.result any_bytes c.args.self.now (now g c) c.put_upgrade.new.batch 3 0 _ (this g c)

pub returns-clause-operation : goal.returns-clause-operation
returns-clause-operation g c =
    let e = c.commit-outcome.ensures in
    committed_op g.D.Device.told c.commit-outcome.result any_bytes c.args.self.now (now g c) (g.D.Device.view c.args.dev.now) (g.D.Device.view c.commit-outcome.new.dev) c.put_upgrade.new.batch 3 0 _ upgraded (this g c) c.requires.at (λ told. tt)
    e.done e.at e.firm e.any_moment e.sent e.uses e.faults c.is_err-self-inside.ensures.value (ap (λ (w : Volume). w.tables.geometry) c.self.view_is)

pub returns-clause-cost : goal.returns-clause-cost
returns-clause-cost g c =
    let e = c.commit-outcome.ensures in
    committed_within g.D.Device.told c.commit-outcome.result any_bytes c.args.self.now (now g c) c.self.inside.ring (g.D.Device.view c.args.dev.now) (g.D.Device.view c.commit-outcome.new.dev) c.put_upgrade.new.batch 3 0 (owed c.args.self.now.tables) (batch_cost 3) upgraded (this g c) c.requires.at (ap (λ (w : Volume). w.ring) c.self.view_is)
    e.any_moment e.uses e.records (omega arith) (omega arith)

pub returns-clause-none : goal.returns-clause-none
returns-clause-none g c two =
    let version = ap (λ (w : Volume). w.tables.version) c.self.view_is ∙ two in
    let empty = ap (λ (ps : List Patch). length ps) (c.put_upgrade.ensures.none version) in
    commits_once c.commit-outcome.result c.args.self.now (now g c) c.self.inside.ring (g.D.Device.view c.args.dev.now) (g.D.Device.view c.commit-outcome.new.dev) c.put_upgrade.new.batch 0 (omega (arith, empty)) (ap (λ (w : Volume). w.ring) c.self.view_is)
    c.commit-outcome.ensures.uses c.commit-outcome.ensures.records

pub returns-clause-digests : goal.returns-clause-digests
returns-clause-digests g c told one =
    let i = c.self.inside in
    let version = ap (λ (w : Volume). w.tables.version) c.self.view_is ∙ one in
    digests_laid c.commit-outcome.result c.put_upgrade.new.batch (header_bytes (record { version = 2; geometry = i.header.geometry })) c.upgrade.new.self.records (home (g.D.Device.view c.args.dev.now).reads) (home (g.D.Device.view c.commit-outcome.new.dev).reads)
    (c.put_upgrade.ensures.laid (λ two. absurd (not_both i.header.version version two))) (c.commit-outcome.ensures.done told)

pub returns-clause-stays : goal.returns-clause-stays
returns-clause-stays g c told two =
    same_laid c.commit-outcome.result c.put_upgrade.new.batch (home (g.D.Device.view c.args.dev.now).reads) (home (g.D.Device.view c.commit-outcome.new.dev).reads)
    (c.put_upgrade.ensures.none (ap (λ (w : Volume). w.tables.version) c.self.view_is ∙ two)) (c.commit-outcome.ensures.done told)
