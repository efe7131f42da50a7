use Rattle.std.proofs.Common.{◌≢◌, inl, inr, List, ℕ, ◌∙◌, subst}
use Rattle.tsd_words.specs.declared.status.Status.TheVariants as status
use Rattle.image_runs.proofs.Common.{HasLoaded, IsLeftOfLoad, weakened}
use Rattle.image_runs.specs.Sending.{HasPut, IsEnding}
use Rattle.image_runs.proofs.Looking.{spares_put}
use Rattle.image_runs.proofs.Loaded.{line_is, loaded_put, not_loaded}
use Rattle.image_runs.proofs.Saying.{ends_put, faults_put, put_over, said_put}
use Rattle.image_runs.proofs.load.load_image.Goals as goal

pub returns-in-Ok : goal.returns-in-Ok
returns-in-Ok g c =
    let old = g.P.Device.view c.args.port.now in
    let mid = g.P.Device.view c.carry_out.new.dev in
    let new = g.P.Device.view c.put_text.new.port in
    let kind = c.args.placement.now.kind in
    let seed = c.args.load.now.seed in
    let count = c.args.load.now.count in
    let spares = spares_put (g.met.P.Device.sound c.carry_out.new.dev) c.put_text.ensures c.carry_out.ensures.spares in
    let put = λ (told : g.P.Device.told). subst (λ (t : List ℕ). HasPut g.P.Device.told t status.Done c.put_text.result mid new) (c.load_line.ensures ∙ line_is kind seed old.reads count c.in-Ok.summary (c.in-Ok.ensures.summary told)) c.put_text.ensures in
    let none = ends_put (λ s. s ≢ status.NoMemory) c.put_text.ensures (λ e. cc) (λ e. cc) in
    record {
      ending = ends_put IsEnding c.put_text.ensures tt tt;
      loaded = λ told.
          let is = loaded_put told c.put_text.ensures (c.in-Ok.ensures.loaded told) in
          said_put (λ s. HasLoaded s kind seed count old new) told (put told) (c.carry_out.ensures.sent told) (λ all. (is, all)) (λ front. (is, front));
      untouched = spares.foreign;
      spared = spares.damaged;
      any_moment = λ told firm.
          let is = c.in-Ok.ensures.loaded told in
          put_over _ (IsLeftOfLoad kind seed count old) told (put told) is.firm (c.carry_out.ensures.sent told) (c.carry_out.ensures.any_moment told firm) (λ x f left. inl left) (λ f part. inr (is.load, part));
      no_memory = λ told e. absurd (none e);
      looked = λ told e. absurd (none e);
      behind = spares.behind;
      faults = faults_put c.put_text.ensures tt (c.in-Ok.ensures.faults.1 (λ e. cc)) c.carry_out.ensures.works.put_faults;
    }

pub returns-in-Err-clause-loaded : goal.returns-in-Err-clause-loaded
returns-in-Err-clause-loaded g c told =
    not_loaded c.in-Err.why c.args.placement.now.kind c.args.load.now.seed c.args.load.now.count (g.P.Device.view c.args.port.now) (g.P.Device.view c.carry_out.new.dev) c.in-Err.ensures.stops
    (c.in-Err.ensures.judged told) (c.carry_out.ensures.sent told)

pub returns-in-Err-clause-any_moment : goal.returns-in-Err-clause-any_moment
returns-in-Err-clause-any_moment g c told firm =
    weakened (g.P.Device.view c.args.port.now) (g.P.Device.view c.carry_out.new.dev) _ _ (c.carry_out.ensures.any_moment told firm) (λ x f left. inl left)

pub returns-in-Err-clause-no_memory : goal.returns-in-Err-clause-no_memory
returns-in-Err-clause-no_memory g c told = c.in-Err.ensures.no_memory told

pub returns-in-Err-clause-looked : goal.returns-in-Err-clause-looked
returns-in-Err-clause-looked g c told = c.in-Err.ensures.looked told
