use Rattle.volume.proofs.Common.{committed_op, committed_uses, on_ok, doomed, sweep_flag, AreSound, Tables, graph_in, Volume, tables_in, any_bytes, IsOp, op_told, none_owed}
use Rattle.std.proofs.Common.{◌≡◌, ℕ, List, [], ◌∷◌, false, refl, sym, ◌∙◌, ap, subst}
use Rattle.volume.proofs.SweepOps.{flag_patch, flag_alone, close_op, whole_has_none}
use Rattle.volume.proofs.SweepCosts.{flag_due, flag_paid}
use Rattle.volume.proofs.volume.Volume.close_flag.Given
use Rattle.volume.proofs.volume.Volume.close_flag.Goals as goal

-- the volume then
abbrev now : (g : Given.Over) → goal.After-self-2-1 g → Volume
now g c = let i = c.self.inside in record { tables = tables_in i.header i.pointers i.counts i.live i.caps false; ring = c.commit-outcome.new.self; is_ready = i.is_ready; is_spent = c.is_err-self-inside.result }

sound_of : (g : Given.Over) (c : goal.After-self-2-1 g) → AreSound c.args.self.now.tables
sound_of g c = subst (λ (t : Tables). AreSound t) (ap (λ (w : Volume). w.tables) c.self.view_is) c.self.invariant.sound

this : (g : Given.Over) (c : goal.After-self-2-1 g) → IsOp any_bytes c.args.self.now (now g c).tables c.put.new.self 1 0 (λ w. w)
this g c =
    let is = ap (λ (w : Volume). w.tables) c.self.view_is in
    let one : c.put.new.self ≡ flag_patch false ∷ [] =
    flag_alone c.put.result _ c.clear.new.self c.put.new.self (record { sector = sweep_flag; bytes = c.gate_bytes.result }) c.clear.ensures c.put.ensures.ok c.put.ensures.full
    ∙ ap (λ (bytes : List ℕ). record { sector = sweep_flag; bytes = bytes } ∷ []) c.gate_bytes.ensures.value in
    subst (λ (t : Tables). IsOp any_bytes c.args.self.now t c.put.new.self 1 0 (λ w. w)) (ap (λ (t : Tables). record t { is_sweeping = false }) (sym is))
    (close_op c.args.self.now c.put.new.self (sound_of g c) c.requires.sweeping c.requires.whole one)

pub invariant_of-self : goal.invariant_of-self
invariant_of-self g c =
    let v = c.self.invariant in
    record {
      pointers = v.pointers;
      counts = v.counts;
      live = v.live;
      kept_version = v.kept_version;
      kept = v.kept;
      marks_each = v.marks_each;
      sound = (this g c).turns.sound;
      counted = v.counted;
      hidden = v.hidden;
      ahead = v.ahead;
      begun = v.begun;
      still = λ _. refl;
    }

pub returns-clause-told : goal.returns-clause-told
returns-clause-told g c = op_told c.commit-outcome.result any_bytes c.args.self.now (now g c) c.put.new.self 1 0 (λ w. w) (this g c)

pub returns-clause-settled : goal.returns-clause-settled
returns-clause-settled g c =
    on_ok c.commit-outcome.result ((none_owed (now g c).tables).1 (subst (λ (t : Tables). doomed (graph_in t) ≡ []) (sym (ap (λ (w : Volume). w.tables) c.self.view_is)) (whole_has_none c.args.self.now.tables (sound_of g c) c.requires.whole)))

pub returns-clause-operation : goal.returns-clause-operation
returns-clause-operation g c =
    let e = c.commit-outcome.ensures in
    committed_op g.D.Device.told c.commit-outcome.result any_bytes c.args.self.now (now g c) (g.D.Device.view c.args.dev.now) (g.D.Device.view c.commit-outcome.new.dev) c.put.new.self 1 0 _ (λ w. w) (this g c) c.requires.at (λ told. tt)
    e.done e.at e.firm e.any_moment e.sent e.uses e.faults c.is_err-self-inside.ensures.value (ap (λ (w : Volume). w.tables.geometry) c.self.view_is)

ring_is : (g : Given.Over) (c : goal.After-self-2-1 g) → c.self.inside.ring ≡ c.args.self.now.ring
ring_is g c = ap (λ (w : Volume). w.ring) c.self.view_is

pub returns-clause-paid : goal.returns-clause-paid
returns-clause-paid g c =
    flag_due c.commit-outcome.result c.args.self.now (now g c) (g.D.Device.view c.args.dev.now) (g.D.Device.view c.commit-outcome.new.dev) (returns-clause-settled g c)
    (flag_paid c.commit-outcome.result c.args.self.now (now g c) c.self.inside.ring c.put.new.self (g.D.Device.view c.args.dev.now) (g.D.Device.view c.commit-outcome.new.dev) (ring_is g c) (this g c).few c.commit-outcome.ensures.uses c.commit-outcome.ensures.records)

pub returns-clause-uses : goal.returns-clause-uses
returns-clause-uses g c =
    committed_uses c.args.self.now c.self.inside.ring (g.D.Device.view c.args.dev.now) (g.D.Device.view c.commit-outcome.new.dev) c.put.new.self 1 (this g c).few (ring_is g c) c.commit-outcome.ensures.uses
