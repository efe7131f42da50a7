use Rattle.volume.proofs.Common.{batch_cost, committed_op, committed_within, OnOk, OnErr, slice_set, kept, with_caps, Header, Patch, with_patch, Pointers, Counts, LiveMap, Store, Tables, left_of, world_with, Volume, tables_in, owed, put_ok, Turns, commits_once, any_bytes, IsOp, op_told, AreSound}
use Rattle.std.proofs.Common.{◌≡◌, ℕ, Bool, List, [], ◌∷◌, length, sym, ◌∙◌, ap, subst, arith, Result}
use Rattle.tsd_model.specs.declared.caps.CapPair.{CapPair}
use Rattle.cap_store.specs.Changes.{KeepsStored}
use Rattle.volume_laws.proofs.Kept.{caps_set, left_with_caps, owed_kept}
use Rattle.volume.proofs.volume.Volume.set_caps.Given
use Rattle.volume.proofs.volume.Volume.set_caps.Goals as goal

-- the tables in memory are those with the record set
now_tables : (h : Header) (p : Pointers) (c : Counts) (l : LiveMap) (old new : Store) (s : Bool) (t : Tables) (b : ℕ) (caps : CapPair) → old.version ≡ h.version → new ≡ record old { records = slice_set old.records b (kept old.version caps) } → tables_in h p c l old s ≡ t
    → tables_in h p c l new s ≡ record t { records = slice_set t.records b (kept t.version caps) }
now_tables h p c l old new s t b caps version set is =
    ap (λ (x : Store). tables_in h p c l x s) set
    ∙ (ap (λ (v : ℕ). record (tables_in h p c l old s) { records = slice_set old.records b (kept v caps) }) version
    ∙ ap (λ (u : Tables). record u { records = slice_set u.records b (kept u.version caps) }) is)

-- where the batch is the patch alone
one_patch : {T E : Type 0} (r : Result T E) (A : Type 0) (ps new : List Patch) (p : Patch) → ps ≡ [] → OnOk r (new ≡ with_patch p ps) → OnErr r (A × (length ps ≡ 113)) → new ≡ p ∷ []
one_patch r A ps new p none ok full =
    put_ok r A (new ≡ with_patch p ps) (length ps) ok full (omega (arith, ap (λ (qs : List Patch). length qs) none)) ∙ ap (with_patch p) none

op : (vol : Volume) (now : Tables) (b : ℕ) (caps : CapPair) (patch : Patch) (batch : List Patch)
    → now ≡ record vol.tables { records = slice_set vol.tables.records b (kept vol.tables.version caps) } → batch ≡ patch ∷ []
    → Turns vol.tables (record vol.tables { records = slice_set vol.tables.records b (kept vol.tables.version caps) }) (patch ∷ [])
    → IsOp any_bytes vol now batch 1 0 (λ w. with_caps w b (kept vol.tables.version caps))
op vol now b caps patch batch same one turns = record {
  turns = subst (λ (ps : List Patch). Turns vol.tables now ps) (sym one) (subst (λ (t : Tables). Turns vol.tables t (patch ∷ [])) (sym same) turns);
  zeros = tt;
  world = λ c fits. ap (λ (t : Tables). left_of t (world_with t c)) same ∙ left_with_caps vol.tables b (kept vol.tables.version caps) c;
  few = omega (arith, ap (λ (ps : List Patch). length ps) one);
  owes = omega (arith, ap owed same, owed_kept vol.tables (slice_set vol.tables.records b (kept vol.tables.version caps)));
}

-- the volume then
abbrev now : (g : Given.Over) → goal.After-self-1 g → Volume
now g c = let i = c.self.inside in record { tables = tables_in i.header i.pointers i.counts i.live c.set.new.self i.is_sweeping; ring = c.commit-outcome.new.self; is_ready = i.is_ready; is_spent = c.is_err-self-inside.result }

this : (g : Given.Over) (c : goal.After-self-1 g) → IsOp any_bytes c.args.self.now (now g c).tables c.put.new.self 1 0 (λ w. with_caps w c.args.block (kept c.args.self.now.tables.version c.args.caps.now))
this g c =
    let i = c.self.inside in
    let p = c.patch-patch.result in
    let is = ap (λ (w : Volume). w.tables) c.self.view_is in
    let sound = subst (λ (t : Tables). AreSound t) is c.self.invariant.sound in
    let set = c.set.ensures.set in
    op c.args.self.now (now g c).tables c.args.block c.args.caps.now p c.put.new.self
    (now_tables i.header i.pointers i.counts i.live i.caps c.set.new.self i.is_sweeping c.args.self.now.tables c.args.block c.args.caps.now c.self.invariant.kept_version set is)
    (one_patch c.put.result _ c.clear.new.self c.put.new.self p c.clear.ensures c.put.ensures.ok c.put.ensures.full)
    (caps_set c.args.self.now.tables i.caps c.set.new.self c.args.block c.args.caps.now p sound (c.self.invariant.kept_version ∙ ap (λ (t : Tables). t.version) is) (ap (λ (t : Tables). t.records) is) set
    c.patch-patch.ensures.inside (subst (λ (q : Patch). KeepsStored i.caps c.set.new.self q) (sym c.patch-patch.ensures.value) c.set.ensures.stored))

pub returns-clause-told : goal.returns-clause-told
returns-clause-told g c = op_told c.commit-outcome.result any_bytes c.args.self.now (now g c) c.put.new.self 1 0 _ (this g c)

pub returns-clause-operation : goal.returns-clause-operation
returns-clause-operation g c =
    let e = c.commit-outcome.ensures in
    committed_op g.D.Device.told c.commit-outcome.result any_bytes c.args.self.now (now g c) (g.D.Device.view c.args.dev.now) (g.D.Device.view c.commit-outcome.new.dev) c.put.new.self 1 0 _ (λ w. with_caps w c.args.block (kept c.args.self.now.tables.version c.args.caps.now)) (this g c) c.requires.at (λ told. tt)
    e.done e.at e.firm e.any_moment e.sent e.uses e.faults c.is_err-self-inside.ensures.value (ap (λ (w : Volume). w.tables.geometry) c.self.view_is)

pub returns-clause-cost : goal.returns-clause-cost
returns-clause-cost g c =
    let e = c.commit-outcome.ensures in
    committed_within g.D.Device.told c.commit-outcome.result any_bytes c.args.self.now (now g c) c.self.inside.ring (g.D.Device.view c.args.dev.now) (g.D.Device.view c.commit-outcome.new.dev) c.put.new.self 1 0 (owed c.args.self.now.tables) (batch_cost 1) (λ w. with_caps w c.args.block (kept c.args.self.now.tables.version c.args.caps.now)) (this g c) c.requires.at (ap (λ (w : Volume). w.ring) c.self.view_is)
    e.any_moment e.uses e.records (omega arith) (omega arith)

pub returns-clause-once : goal.returns-clause-once
returns-clause-once g c =
    commits_once c.commit-outcome.result c.args.self.now (now g c) c.self.inside.ring (g.D.Device.view c.args.dev.now) (g.D.Device.view c.commit-outcome.new.dev) c.put.new.self 1 (this g c).few (ap (λ (w : Volume). w.ring) c.self.view_is)
    c.commit-outcome.ensures.uses c.commit-outcome.ensures.records

pub returns-clause-owes : goal.returns-clause-owes
returns-clause-owes g c =
    let i = c.self.inside in
    let t = c.args.self.now.tables in
    ap owed (now_tables i.header i.pointers i.counts i.live i.caps c.set.new.self i.is_sweeping t c.args.block c.args.caps.now c.self.invariant.kept_version c.set.ensures.set (ap (λ (w : Volume). w.tables) c.self.view_is))
    ∙ owed_kept t (slice_set t.records c.args.block (kept t.version c.args.caps.now))
