use Rattle.volume.proofs.Common.{committed_op, committed_uses, cases_Bool, swept, sweep_flag, AreSound, Tables, owed, Volume, tables_in, none_gone, any_bytes, IsOp, op_told, Failed, on_ok, sweep_left}
use Rattle.std.proofs.Common.{◌≡◌, ℕ, List, [], ◌∷◌, true, false, inl, inr, sym, ◌∙◌, ap, subst, Ok}
use Rattle.volume.proofs.SweepOps.{flag_patch, flag_alone, open_op}
use Rattle.volume.proofs.SweepCosts.{opened_left, flag_paid}
use Rattle.volume.proofs.volume.Volume.begin_sweep.Given
use Rattle.volume.proofs.volume.Volume.begin_sweep.Goals as goal

-- the volume then
abbrev now : (g : Given.Over) → goal.After-self-3-1 g → Volume
now g c = let i = c.self.inside in record { tables = tables_in i.header i.pointers i.counts i.live i.caps true; ring = c.commit-outcome.new.self; is_ready = false; is_spent = c.is_err-self-inside.result }

this : (g : Given.Over) (c : goal.After-self-3-1 g) → IsOp any_bytes c.args.self.now (now g c).tables c.put.new.self 1 0 (λ w. swept w)
this g c =
    let is = ap (λ (w : Volume). w.tables) c.self.view_is in
    let sound = subst (λ (t : Tables). AreSound t) is c.self.invariant.sound in
    let one : c.put.new.self ≡ flag_patch true ∷ [] =
    flag_alone c.put.result _ c.clear.new.self c.put.new.self (record { sector = sweep_flag; bytes = c.gate_bytes.result }) c.clear.ensures c.put.ensures.ok c.put.ensures.full
    ∙ ap (λ (bytes : List ℕ). record { sector = sweep_flag; bytes = bytes } ∷ []) c.gate_bytes.ensures.value in
    subst (λ (t : Tables). IsOp any_bytes c.args.self.now t c.put.new.self 1 0 (λ w. swept w)) (ap (λ (t : Tables). record t { is_sweeping = true }) (sym is))
    (open_op c.args.self.now c.put.new.self sound c.requires.still c.requires.none one)

pub invariant_of-self : goal.invariant_of-self
invariant_of-self g c =
    let i = c.self.inside in
    let v = c.self.invariant in
    let t = tables_in i.header i.pointers i.counts i.live i.caps i.is_sweeping in
    let none : owed t ≡ 0 = ap (λ (w : Volume). owed w.tables) c.self.view_is ∙ c.requires.none in
    record {
      pointers = v.pointers;
      counts = v.counts;
      live = v.live;
      kept_version = v.kept_version;
      kept = v.kept;
      marks_each = v.marks_each;
      sound = (this g c).turns.sound;
      counted = v.counted;
      hidden = v.hidden;
      ahead = λ never. absurd (cc);
      begun = λ _. elim (cases_Bool i.is_ready) [
        | inl is ↦ none_gone t i.ahead none (v.ahead is)
        | inr not_yet ↦ v.begun not_yet
      ];
      still = λ never. absurd (cc);
    }

pub returns-clause-told : goal.returns-clause-told
returns-clause-told g c = op_told c.commit-outcome.result any_bytes c.args.self.now (now g c) c.put.new.self 1 0 (λ w. swept w) (this g c)

pub returns-clause-operation : goal.returns-clause-operation
returns-clause-operation g c =
    let e = c.commit-outcome.ensures in
    committed_op g.D.Device.told c.commit-outcome.result any_bytes c.args.self.now (now g c) (g.D.Device.view c.args.dev.now) (g.D.Device.view c.commit-outcome.new.dev) c.put.new.self 1 0 _ (λ w. swept w) (this g c) c.requires.at (λ told. tt)
    e.done e.at e.firm e.any_moment e.sent e.uses e.faults c.is_err-self-inside.ensures.value (ap (λ (w : Volume). w.tables.geometry) c.self.view_is)

ring_is : (g : Given.Over) (c : goal.After-self-3-1 g) → c.self.inside.ring ≡ c.args.self.now.ring
ring_is g c = ap (λ (w : Volume). w.ring) c.self.view_is

pub returns-clause-left : goal.returns-clause-left
returns-clause-left g c = on_ok c.commit-outcome.result
    (opened_left c.args.self.now (now g c) c.requires.still c.requires.none (ap (λ (w : Volume). sweep_left w.tables) c.self.view_is)
    (op_told {T = Unit {0}} {E = Failed} (Ok tt) any_bytes c.args.self.now (now g c) c.put.new.self 1 0 (λ w. swept w) (this g c)))

pub returns-clause-paid : goal.returns-clause-paid
returns-clause-paid g c =
    flag_paid c.commit-outcome.result c.args.self.now (now g c) c.self.inside.ring c.put.new.self (g.D.Device.view c.args.dev.now) (g.D.Device.view c.commit-outcome.new.dev) (ring_is g c) (this g c).few c.commit-outcome.ensures.uses c.commit-outcome.ensures.records

pub returns-clause-uses : goal.returns-clause-uses
returns-clause-uses g c =
    committed_uses c.args.self.now c.self.inside.ring (g.D.Device.view c.args.dev.now) (g.D.Device.view c.commit-outcome.new.dev) c.put.new.self 1 (this g c).few (ring_is g c) c.commit-outcome.ensures.uses
