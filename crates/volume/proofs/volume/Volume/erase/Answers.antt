use Rattle.std.proofs.Common.{◌≡◌, arith}
use Rattle.volume.proofs.Common.{LeavesWorld, owed, checkpoint_writes, as_either, spent_unless_ok, spent_on_err, works_of, on_ok, Volume, ok_map}
use Rattle.std.proofs.Common.{◌∙◌, ap}
use Rattle.volume_laws.proofs.ErasedLaws.{erased_ok, erased_moments, erased_owed, erased_closed, erased_data}
use Rattle.volume.proofs.volume.Volume.erase.Given
use Rattle.volume.proofs.volume.Volume.erase.Goals as goal

kept_now : (g : Given.Over) (c : goal.After-self-1 g) → g.D.Device.told → LeavesWorld (g.D.Device.view c.args.dev.now) (g.D.Device.view c.erase_bodies-outcome.new.dev)
kept_now g c told = erased_moments c.args.self.now (g.D.Device.view c.args.dev.now) (c.requires.at told) c.requires.emptied (g.D.Device.view c.erase_bodies-outcome.new.dev) (c.erase_bodies-outcome.ensures.confined told)

pub returns-clause-closed : goal.returns-clause-closed
returns-clause-closed g c told =
    on_ok c.erase_bodies-outcome.result
    (erased_closed c.args.self.now (g.D.Device.view c.args.dev.now) (c.requires.at told) c.requires.emptied (g.D.Device.view c.erase_bodies-outcome.new.dev) (c.erase_bodies-outcome.ensures.confined told))

pub returns-clause-operation : goal.returns-clause-operation
returns-clause-operation g c = record {
  at = λ told.
      ok_map c.erase_bodies-outcome.result _ _ (λ both. both.0)
      (erased_ok c.erase_bodies-outcome.result c.args.self.now _ (g.D.Device.view c.args.dev.now) (g.D.Device.view c.erase_bodies-outcome.new.dev) (c.requires.at told) c.requires.emptied
      (ap (λ (w : Volume). w.ring) c.self.view_is ∙ c.requires.emptied) (ap (λ (w : Volume). w.tables) c.self.view_is) (c.erase_bodies-outcome.ensures.confined told) (c.erase_bodies-outcome.ensures.firm told));
  done = λ told.
      ok_map c.erase_bodies-outcome.result _ _ (λ both. both.1)
      (erased_ok c.erase_bodies-outcome.result c.args.self.now c.args.self.now (g.D.Device.view c.args.dev.now) (g.D.Device.view c.erase_bodies-outcome.new.dev) (c.requires.at told) c.requires.emptied
      c.requires.emptied (λ i. c.args.self.now.tables) (c.erase_bodies-outcome.ensures.confined told) (c.erase_bodies-outcome.ensures.firm told));
  any_moment = λ t. as_either _ _ _ (kept_now g c t);
  sent = λ t. (c.erase_bodies-outcome.ensures.confined t).sent;
  data_kept = λ told.
      erased_data c.erase_bodies-outcome.result c.args.self.now (g.D.Device.view c.args.dev.now) (g.D.Device.view c.erase_bodies-outcome.new.dev) (c.requires.at told) c.requires.emptied (c.erase_bodies-outcome.ensures.confined told);
  unspent = spent_unless_ok c.erase_bodies-outcome.result c.is_err-self-inside.result c.is_err-self-inside.ensures.value;
  spent = spent_on_err c.erase_bodies-outcome.result c.is_err-self-inside.result c.is_err-self-inside.ensures.value;
  faults = c.erase_bodies-outcome.ensures.faults;
  works = works_of _ (g.D.Device.view c.args.dev.now) (g.D.Device.view c.erase_bodies-outcome.new.dev) c.erase_bodies-outcome.ensures.uses;
  geometry = ap (λ (w : Volume). w.tables.geometry) c.self.view_is;
}

pub returns-clause-cost : goal.returns-clause-cost
returns-clause-cost g c = record {
  any_owed = λ told. erased_owed c.args.self.now (g.D.Device.view c.args.dev.now) (c.requires.at told) c.requires.emptied (g.D.Device.view c.erase_bodies-outcome.new.dev) (c.erase_bodies-outcome.ensures.confined told);
  paid = on_ok c.erase_bodies-outcome.result (let ring : checkpoint_writes c.self.inside.ring ≡ checkpoint_writes c.args.self.now.ring = ap (λ (w : Volume). checkpoint_writes w.ring) c.self.view_is in let same = ap (λ (w : Volume). owed w.tables) c.self.view_is in omega (arith, ring, same, c.erase_bodies-outcome.ensures.uses.most));
  uses = c.erase_bodies-outcome.ensures.uses;
}
