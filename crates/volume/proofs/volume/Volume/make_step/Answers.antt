use Rattle.volume.proofs.Common.{committed_op, on_ok, AreSound, Tables, graph_in, owed, Kept, is_gone, hides_stepped, ahead_then, gone_then, counted_then, graph_laid_out, MayPut, IsStepPut, IsStepped, with_all, Volume, tables_in, any_bytes, op_told, batch_ok, IsStepOf, step_of, step_paid, step_used, step_uses, step_most, owed_moments}
use Rattle.std.proofs.Common.{◌≡◌, refl, sym, ◌∙◌, ap, subst, arith}
use Rattle.volume_laws.specs.Graphs.{IsStepNext}
use Rattle.volume_laws.proofs.Freed.{next_allowed}
use Rattle.volume.proofs.volume.Volume.make_step.Given
use Rattle.volume.proofs.volume.Volume.make_step.Goals as goal

-- the value's tables have the parts
sound_of : (g : Given.Over) (c : goal.After-self-1 g) → AreSound c.args.self.now.tables
sound_of g c = subst (λ (t : Tables). AreSound t) (ap (λ (w : Volume). w.tables) c.self.view_is) c.self.invariant.sound

may : (g : Given.Over) (c : goal.After-self-1 g) → MayPut c.args.self.now.tables c.self.inside.pointers c.self.inside.counts c.self.inside.live c.args.step.now
may g c =
    let is = ap (λ (w : Volume). w.tables) c.self.view_is in
    let size = ap (λ (t : Tables). t.geometry) is in
    record {
      parts = record {
        slots_size = c.self.invariant.pointers ∙ size;
        counts_size = c.self.invariant.counts ∙ size;
        slots = ap (λ (t : Tables). t.slots) is;
        counts = ap (λ (t : Tables). t.counts) is;
      };
      live_size = c.self.invariant.live ∙ size;
      live = ap (λ (t : Tables). t.live) is;
      sound = sound_of g c;
      next = next_allowed c.args.self.now.tables c.args.step.now c.requires.next;
    }

-- the volume then
abbrev now : (g : Given.Over) → goal.After-self-1 g → Volume
now g c = let i = c.self.inside in record { tables = tables_in i.header c.put_step.new.pointers c.put_step.new.counts c.put_step.new.live i.caps i.is_sweeping; ring = c.commit-outcome.new.self; is_ready = i.is_ready; is_spent = c.is_err-self-inside.result }

-- the tables as they were
abbrev was : (g : Given.Over) → goal.After-self-1 g → Tables
was g c = let i = c.self.inside in tables_in i.header i.pointers i.counts i.live i.caps i.is_sweeping

put : (g : Given.Over) (c : goal.After-self-1 g) → IsStepPut c.args.self.now.tables c.args.step.now (now g c).tables c.put_step.new.batch
put g c =
    let is = ap (λ (w : Volume). w.tables) c.self.view_is in
    subst (λ (t : Tables). IsStepPut c.args.self.now.tables c.args.step.now (with_all t c.put_step.new.pointers c.put_step.new.counts c.put_step.new.live) c.put_step.new.batch) (sym is)
    (c.put_step.ensures.put c.args.self.now.tables (may g c))

this : (g : Given.Over) (c : goal.After-self-1 g) → IsStepOf c.args.self.now c.args.step.now (now g c).tables c.put_step.new.batch
this g c = step_of c.args.self.now c.args.step.now (now g c).tables c.put_step.new.batch c.requires.still c.requires.next (put g c)

stepped : (g : Given.Over) (c : goal.After-self-1 g) → IsStepped (was g c) (now g c).tables c.args.step.now.block c.args.step.now.targets c.args.step.now.freed
stepped g c = subst (λ (t : Tables). IsStepped t (now g c).tables c.args.step.now.block c.args.step.now.targets c.args.step.now.freed) (sym (ap (λ (w : Volume). w.tables) c.self.view_is)) (put g c).stepped

pub invariant_of-self : goal.invariant_of-self
invariant_of-self g c =
    let i = c.self.inside in
    let v = c.self.invariant in
    let s = c.args.step.now in
    let n = c.note_step.ensures in
    let next : IsStepNext (was g c) s = subst (λ (t : Tables). IsStepNext t s) (sym (ap (λ (w : Volume). w.tables) c.self.view_is)) c.requires.next in
    let gone = gone_then (was g c) (now g c).tables s i.ahead c.note_step.new.ahead i.is_ready next (stepped g c) v.ahead n.ahead n.same in
    record {
      pointers = c.put_step.ensures.slots ∙ v.pointers;
      counts = c.put_step.ensures.counts ∙ v.counts;
      live = c.put_step.ensures.live ∙ v.live;
      kept_version = v.kept_version;
      kept = v.kept;
      marks_each = v.marks_each;
      sound = (put g c).turns.sound;
      counted = counted_then (was g c) (now g c).tables s i.ahead c.note_step.new.ahead i.is_ready next (stepped g c) v.ahead n.ahead n.same i.header.geometry.blocks v.counted refl;
      hidden = hides_stepped i.live c.put_step.new.live s.block s.freed (is_gone i.ahead.gone) (is_gone c.note_step.new.ahead.gone) (stepped g c).live c.put_step.ensures.shown v.hidden gone;
      ahead = ahead_then (was g c) (now g c).tables s i.ahead c.note_step.new.ahead i.is_ready next (stepped g c) v.ahead n.ahead n.same;
      begun = λ e b. ap (λ (m : Kept). is_gone m.gone b) (n.same e) ∙ v.begun e b;
      still = v.still;
    }

pub note_step-requires : goal.note_step-requires
note_step-requires g c =
    let i = c.self.inside in
    let t = tables_in i.header i.pointers i.counts i.live i.caps i.is_sweeping in
    let next : IsStepNext t c.args.step.now = subst (λ (u : Tables). IsStepNext u c.args.step.now) (sym (ap (λ (w : Volume). w.tables) c.self.view_is)) c.requires.next in
    record { told = λ e. (graph_in t, record { laid_out = graph_laid_out t; lost = next.may.lost; step = next.may.step; ahead = c.self.invariant.ahead e }) }

pub returns-clause-told : goal.returns-clause-told
returns-clause-told g c = op_told c.commit-outcome.result any_bytes c.args.self.now (now g c) c.put_step.new.batch 33 0 (λ w. w) (this g c).op

pub returns-clause-lowered : goal.returns-clause-lowered
returns-clause-lowered g c = on_ok c.commit-outcome.result (let t = this g c in let e = t.takes in let some = t.some in omega (arith, e, some))

ring_is : (g : Given.Over) (c : goal.After-self-1 g) → c.self.inside.ring ≡ c.args.self.now.ring
ring_is g c = ap (λ (w : Volume). w.ring) c.self.view_is

pub returns-clause-used : goal.returns-clause-used
returns-clause-used g c =
    step_used c.commit-outcome.result c.args.self.now (now g c) c.args.step.now c.self.inside.ring (g.D.Device.view c.args.dev.now) (g.D.Device.view c.commit-outcome.new.dev) c.put_step.new.batch (this g c) (ring_is g c) c.commit-outcome.ensures.uses c.commit-outcome.ensures.records

pub returns-clause-uses : goal.returns-clause-uses
returns-clause-uses g c =
    step_most c.args.self.now (now g c).tables c.args.step.now c.self.inside.ring (g.D.Device.view c.args.dev.now) (g.D.Device.view c.commit-outcome.new.dev) c.put_step.new.batch (this g c) (ring_is g c) c.commit-outcome.ensures.uses

pub returns-clause-operation : goal.returns-clause-operation
returns-clause-operation g c =
    let e = c.commit-outcome.ensures in
    committed_op g.D.Device.told c.commit-outcome.result any_bytes c.args.self.now (now g c) (g.D.Device.view c.args.dev.now) (g.D.Device.view c.commit-outcome.new.dev) c.put_step.new.batch 33 0 _ (λ w. w) (this g c).op c.requires.at (λ told. tt)
    e.done e.at e.firm e.any_moment e.sent e.uses e.faults c.is_err-self-inside.ensures.value (ap (λ (w : Volume). w.tables.geometry) c.self.view_is)

pub returns-clause-cost : goal.returns-clause-cost
returns-clause-cost g c = record {
  any_owed = λ told.
      owed_moments c.args.self.now (g.D.Device.view c.args.dev.now) (g.D.Device.view c.commit-outcome.new.dev) c.put_step.new.batch (now g c).tables (owed c.args.self.now.tables) (c.requires.at told) (put g c).turns
      (omega arith) (let e = (this g c).takes in omega (arith, e)) (c.commit-outcome.ensures.any_moment told);
  paid =
      step_paid c.commit-outcome.result c.args.self.now (now g c) c.args.step.now c.self.inside.ring (g.D.Device.view c.args.dev.now) (g.D.Device.view c.commit-outcome.new.dev) c.put_step.new.batch (this g c) (ring_is g c) c.commit-outcome.ensures.uses c.commit-outcome.ensures.records;
  uses =
      step_uses c.args.self.now (now g c).tables c.args.step.now c.self.inside.ring (g.D.Device.view c.args.dev.now) (g.D.Device.view c.commit-outcome.new.dev) c.put_step.new.batch (this g c) (ring_is g c) c.commit-outcome.ensures.uses;
}

pub returns-clause-ring : goal.returns-clause-ring
returns-clause-ring g c =
    batch_ok c.commit-outcome.result 33 c.self.inside.ring c.args.self.now.ring c.commit-outcome.new.self c.put_step.new.batch (this g c).op.few (ring_is g c) c.commit-outcome.ensures.records

pub returns-clause-few : goal.returns-clause-few
returns-clause-few g c = on_ok c.commit-outcome.result (this g c).most

pub returns-clause-few_blocks : goal.returns-clause-few_blocks
returns-clause-few_blocks g c = on_ok c.commit-outcome.result (this g c).blocks
