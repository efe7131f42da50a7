use Rattle.std.proofs.Common.{◌≡◌, ◌∙◌, inl, sym, subst}
use Rattle.image_runs.proofs.Common.{IfOk, World, CountsFaultOf, IsFirm, LeavesOnly, StandAlike, weakened, Volume, IsVolumeAt, at_core, IsSummary}
use Rattle.std.specs.Prelude.{ℕ}
use Rattle.tsd_words.specs.declared.status.Status.TheVariants as status
use Rattle.image_runs.specs.Looking.{OnlyLooks}
use Rattle.image_runs.proofs.Looking.{spares_then}
use Rattle.image_runs.proofs.Loaded.{loaded_on, load_moments, starved_there, judged_on, unopened_on}
use Rattle.volume_laws.proofs.OperationLaws.{works_joined}
use Rattle.image_runs.proofs.load.carry_out.Goals as goal

pub returns-in-Ok : goal.returns-in-Ok
returns-in-Ok g c =
    let old = g.D.Device.view c.args.dev.now in
    let mid = g.D.Device.view c.open_volume.new.dev in
    let new = g.D.Device.view c.run.new.dev in
    let kind = c.args.placement.now.kind in
    let seed = c.args.load.now.seed in
    let count = c.args.load.now.count in
    let is = c.in-Ok.ensures in
    let opened = c.open_volume.ensures in
    let ran = c.run.ensures in
    record {
      loaded = λ told. loaded_on kind seed old.reads mid.reads count new c.run.result (is.read told) (is.done told) (ran.loaded told);
      summary = λ told. subst (λ (w : World). IfOk c.run.result (λ s. IsSummary kind seed w count s)) (is.done told) (ran.summary told);
      judged = λ told. judged_on old.reads c.run.result ran.stops;
      stops = unopened_on old.reads c.run.result ran.stops;
      sent = λ told. ran.sent told ∙ opened.sent told;
      spares = spares_then c.new-core.result.volume (g.met.D.Device.sound c.open_volume.new.dev) is.read (λ told. subst (λ (v : Volume). IsVolumeAt v mid) (sym c.new-core.ensures.volume) (is.at told)) is.done opened.behind ran.behind;
      any_moment = λ told firm. load_moments kind seed count old mid new (is.read told) (is.done told) (opened.sent told) (opened.any_moment told firm) (ran.any_moment told);
      no_memory = λ told. starved_there (λ d. IsFirm old → LeavesOnly old (g.D.Device.view d) (λ x f. StandAlike old.reads x × (f ≡ old.sent))) _ _ c.run.result (opened.any_moment told) (ran.first told);
      looked = λ told. starved_there (λ d. OnlyLooks old (g.D.Device.view d)) _ _ c.run.result (opened.opens.looks.only told) (ran.first told);
      works = works_joined old mid new opened.works ran.works;
      faults = subst (λ (n : ℕ). CountsFaultOf status.DeviceFault c.run.result n new.faults) (is.faults.1 (λ e. cc)) ran.faults;
    }

pub returns-in-Err-clause-any_moment : goal.returns-in-Err-clause-any_moment
returns-in-Err-clause-any_moment g c told firm =
    weakened (g.D.Device.view c.args.dev.now) (g.D.Device.view c.open_volume.new.dev) _ _ (c.open_volume.ensures.any_moment told firm) (λ x f left. (inl left.0, left.1))

pub run-requires-clause-at : goal.run-requires-clause-at
run-requires-clause-at g c told =
    let mid = g.D.Device.view c.open_volume.new.dev in
    at_core c.new-core.result mid (subst (λ (v : Volume). IsVolumeAt v mid) (sym c.new-core.ensures.volume) (c.in-Ok.ensures.at told))

pub returns-in-Err-clause-no_memory : goal.returns-in-Err-clause-no_memory
returns-in-Err-clause-no_memory g c told memory = c.open_volume.ensures.any_moment told

pub returns-in-Err-clause-looked : goal.returns-in-Err-clause-looked
returns-in-Err-clause-looked g c told memory = c.open_volume.ensures.opens.looks.only told
