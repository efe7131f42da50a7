use Rattle.volume.proofs.Common.{LeavesWorld, owed, as_either, spent_unless_ok, spent_on_err, works_of, Uses, checkpoint_writes, Volume, data_emptied, emptied_ok, before_moments, ok_map, kept_owed}
use Rattle.std.proofs.Common.{◌≡◌, ℕ, [], refl, ap, subst, arith}
use Rattle.volume.proofs.volume.Volume.empty_ring.Given
use Rattle.volume.proofs.volume.Volume.empty_ring.Goals as goal

kept_now : (g : Given.Over) (c : goal.After-self-1 g) → g.D.Device.told → LeavesWorld (g.D.Device.view c.args.dev.now) (g.D.Device.view c.checkpoint-outcome.new.dev)
kept_now g c told = before_moments c.args.self.now (g.D.Device.view c.args.dev.now) (g.D.Device.view c.checkpoint-outcome.new.dev) (c.requires.at told) (c.checkpoint-outcome.ensures.any_moment told)

pub returns-clause-operation : goal.returns-clause-operation
returns-clause-operation g c = record {
  at = λ told.
      let old = g.D.Device.view c.args.dev.now in
      let new = g.D.Device.view c.checkpoint-outcome.new.dev in
      ok_map c.checkpoint-outcome.result _ _ (λ both. both.0)
      (emptied_ok c.checkpoint-outcome.result c.args.self.now _ old new (c.requires.at told) (c.checkpoint-outcome.ensures.done told) (c.checkpoint-outcome.ensures.at told) (c.checkpoint-outcome.ensures.firm told)
      c.checkpoint-outcome.ensures.empty (ap (λ (w : Volume). w.tables) c.self.view_is));
  done = λ told.
      let old = g.D.Device.view c.args.dev.now in
      let new = g.D.Device.view c.checkpoint-outcome.new.dev in
      ok_map c.checkpoint-outcome.result _ _ (λ both. both.1)
      (emptied_ok c.checkpoint-outcome.result c.args.self.now (record c.args.self.now { ring = c.checkpoint-outcome.new.self }) old new (c.requires.at told) (c.checkpoint-outcome.ensures.done told) (c.checkpoint-outcome.ensures.at told) (c.checkpoint-outcome.ensures.firm told)
      c.checkpoint-outcome.ensures.empty refl);
  any_moment = λ t. as_either _ _ _ (kept_now g c t);
  sent = c.checkpoint-outcome.ensures.sent;
  data_kept = λ told.
      data_emptied c.checkpoint-outcome.result c.args.self.now.tables.geometry [] (g.D.Device.view c.args.dev.now) (g.D.Device.view c.checkpoint-outcome.new.dev) (c.requires.at told).firm
      (c.checkpoint-outcome.ensures.done told) (c.checkpoint-outcome.ensures.at told) (c.checkpoint-outcome.ensures.any_moment told);
  unspent = spent_unless_ok c.checkpoint-outcome.result c.is_err-self-inside.result c.is_err-self-inside.ensures.value;
  spent = spent_on_err c.checkpoint-outcome.result c.is_err-self-inside.result c.is_err-self-inside.ensures.value;
  faults = c.checkpoint-outcome.ensures.faults;
  works = works_of _ (g.D.Device.view c.args.dev.now) (g.D.Device.view c.checkpoint-outcome.new.dev) c.checkpoint-outcome.ensures.uses;
  geometry = ap (λ (w : Volume). w.tables.geometry) c.self.view_is;
}

pub returns-clause-cost : goal.returns-clause-cost
returns-clause-cost g c = record {
  any_owed = λ told. kept_owed c.args.self.now (g.D.Device.view c.args.dev.now) (g.D.Device.view c.checkpoint-outcome.new.dev) (c.requires.at told) (c.checkpoint-outcome.ensures.any_moment told);
  paid = ok_map c.checkpoint-outcome.result _ _ (λ (none : c.checkpoint-outcome.new.self ≡ []).
      let now : checkpoint_writes c.checkpoint-outcome.new.self ≡ checkpoint_writes [] = ap checkpoint_writes none in
      let ring : checkpoint_writes c.self.inside.ring ≡ checkpoint_writes c.args.self.now.ring = ap (λ (w : Volume). checkpoint_writes w.ring) c.self.view_is in
      let same = ap (λ (w : Volume). owed w.tables) c.self.view_is in
      omega (arith, now, ring, same, c.checkpoint-outcome.ensures.uses.most)) c.checkpoint-outcome.ensures.empty;
  uses = subst (λ (n : ℕ). Uses n (g.D.Device.view c.args.dev.now) (g.D.Device.view c.checkpoint-outcome.new.dev)) (ap (λ (w : Volume). checkpoint_writes w.ring) c.self.view_is) c.checkpoint-outcome.ensures.uses;
}
