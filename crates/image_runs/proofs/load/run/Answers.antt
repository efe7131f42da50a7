use Rattle.std.proofs.Common.{◌≡◌, ℕ, ◌+◌, refl, ◌∙◌, ap, subst, arith}
use Rattle.std.proofs.lemmas.Result.{err_from_is_err_and}
use Rattle.image_runs.proofs.Common.{world_of, Generator, state_on, part_stays, behind, aside_then, IsAnswer, Reply, asks_nothing, is_refusal, or_left}
use Rattle.image_runs.proofs.Requests.{applied_more}
use Rattle.image_runs.proofs.LoadRuns.{drawn, run_ended, run_more, run_next, run_started, starved_first}
use Rattle.image_runs.proofs.Loaded.{loaded_there, summed}
use Rattle.volume_laws.proofs.OperationLaws.{works_joined}
use Rattle.image_runs.proofs.load.run.Goals as goal

pub loop-number-init : goal.loop-number-init
loop-number-init g c =
    let start = g.D.Device.view c.args.dev.now in
    record {
      ready = c.requires.ready;
      at = c.requires.at;
      applied = λ told. record { state = c.requires.start told; granted_are = refl; refused_are = refl };
      first = λ none. refl;
      one = refl;
      draws = c.requires.draws;
      sent = λ told. refl;
      moments = λ told. run_started c.args.placement.now.kind c.args.load.now.seed start (g.met.D.Device.sound c.args.dev.now told) (c.requires.at told).0 (c.requires.at told).1.good;
      size = refl;
      behind = λ told. part_stays (behind c.args.core.now.volume.tables.geometry) start (g.met.D.Device.sound c.args.dev.now told) (c.requires.at told).0;
      works = record { clock = omega arith; faults = omega arith; put_faults = refl; writes = omega arith };
      faults = refl;
    }

pub loop-number-preserved : goal.loop-number-preserved
loop-number-preserved g c =
    let start = g.D.Device.view c.args.dev.now in
    let mid = g.D.Device.view c.loop-number.dev in
    let new = g.D.Device.view c.apply.new.dev in
    let kind = c.args.placement.now.kind in
    let seed = c.args.load.now.seed in
    let n = c.loop-number.number in
    let q = c.next_request.result in
    let l = c.loop-number.invariant in
    let is = c.in-Ok.ensures in
    let counted = c.in_ok-count.ensures in
    record {
      ready = is.ready;
      at = is.at;
      applied = λ told.
          applied_more kind seed (world_of start.reads) n (state_on c.loop-number.core mid.reads) (state_on c.apply.new.self new.reads) q c.in-Ok.reply _ _ _ _ (l.applied told)
          (drawn c.args.core.now start seed n _ q (c.requires.at told) l.draws c.next_request.ensures.request) (is.given told) counted.memory counted.granted counted.refused;
      first = λ none. absurd (omega (arith, none));
      one = counted.one ∙ ap (λ (k : ℕ). k + 1) l.one;
      draws = c.next_request.ensures.drawn ∙ ap (λ (d : Generator). record d { drawn = d.drawn + 1 }) l.draws;
      sent = λ told. c.apply.ensures.sent told ∙ l.sent told;
      moments = λ told.
          run_more kind seed n start mid new (state_on c.loop-number.core mid.reads) q refl (l.applied told).state (drawn c.args.core.now start seed n _ q (c.requires.at told) l.draws c.next_request.ensures.request)
          (l.sent told) (l.moments told) (c.apply.ensures.any_moment told);
      size = c.apply.ensures.size.geometry ∙ l.size;
      behind = λ told. aside_then (behind c.args.core.now.volume.tables.geometry) (behind c.loop-number.core.volume.tables.geometry) start mid new (g.met.D.Device.sound c.loop-number.dev told) (ap behind l.size) (l.behind told) (c.apply.ensures.behind told);
      works = works_joined start mid new l.works c.apply.ensures.works;
      faults = is.faults ∙ l.faults;
    }

pub returns-in_err-count-clause-any_moment : goal.returns-in_err-count-clause-any_moment
returns-in_err-count-clause-any_moment g c told =
    let start = g.D.Device.view c.args.dev.now in
    let l = c.loop-number.invariant in
    run_next c.args.placement.now.kind c.args.load.now.seed c.loop-number.number c.args.load.now.count start (g.D.Device.view c.loop-number.dev) (g.D.Device.view c.apply.new.dev) _ c.next_request.result (omega (arith, c.loop-number-test.true)) refl
    (l.applied told).state (drawn c.args.core.now start c.args.load.now.seed c.loop-number.number _ _ (c.requires.at told) l.draws c.next_request.ensures.request) (l.sent told) (l.moments told) (c.apply.ensures.any_moment told)

pub returns-in_err-count-clause-first : goal.returns-in_err-count-clause-first
returns-in_err-count-clause-first g c told =
    let start = g.D.Device.view c.args.dev.now in
    let kind = c.args.placement.now.kind in
    let seed = c.args.load.now.seed in
    let n = c.loop-number.number in
    let l = c.loop-number.invariant in
    let reply = c.in-Ok.reply in
    let none = (c.in_err-count.ensures.none).1 in
    let s = state_on c.loop-number.core (g.D.Device.view c.loop-number.dev).reads in
    let t = state_on c.apply.new.self (g.D.Device.view c.apply.new.dev).reads in
    let asked = drawn c.args.core.now start seed n _ _ (c.requires.at told) l.draws c.next_request.ensures.request in
    let given = subst (λ (a : Reply). IsAnswer kind s c.next_request.result a t) none (c.in-Ok.ensures.given told) in
    let is = err_from_is_err_and c.from_residual.result c.from_residual.ensures.1 in
    rw (is.1, is.2) (λ e. c.in-Ok.ensures.asks_nothing (or_left (is_refusal reply) (asks_nothing c.next_request.result) (ap is_refusal none))
    ∙ l.first (starved_first kind seed (world_of start.reads).geometry n s t c.next_request.result asked given))

pub returns-in_err-count-clause-faults : goal.returns-in_err-count-clause-faults
returns-in_err-count-clause-faults g c =
    let none = (c.in_err-count.ensures.none).0 in
    let same = c.in-Ok.ensures.faults ∙ c.loop-number.invariant.faults in
    let is = err_from_is_err_and c.from_residual.result c.from_residual.ensures.1 in
    rw (is.1, is.2) ((λ e. absurd (cc)), (λ other. same))

pub returns-in_err-count-clause-behind : goal.returns-in_err-count-clause-behind
returns-in_err-count-clause-behind g c told =
    let l = c.loop-number.invariant in
    aside_then (behind c.args.core.now.volume.tables.geometry) (behind c.loop-number.core.volume.tables.geometry) (g.D.Device.view c.args.dev.now) (g.D.Device.view c.loop-number.dev) (g.D.Device.view c.apply.new.dev)
    (g.met.D.Device.sound c.loop-number.dev told) (ap behind l.size) (l.behind told) (c.apply.ensures.behind told)

pub returns-in_default-clause-any_moment : goal.returns-in_default-clause-any_moment
returns-in_default-clause-any_moment g c told =
    let start = g.D.Device.view c.args.dev.now in
    let l = c.loop-number.invariant in
    run_next c.args.placement.now.kind c.args.load.now.seed c.loop-number.number c.args.load.now.count start (g.D.Device.view c.loop-number.dev) (g.D.Device.view c.apply.new.dev) _ c.next_request.result (omega (arith, c.loop-number-test.true)) refl
    (l.applied told).state (drawn c.args.core.now start c.args.load.now.seed c.loop-number.number _ _ (c.requires.at told) l.draws c.next_request.ensures.request) (l.sent told) (l.moments told) (c.apply.ensures.any_moment told)

pub returns-in_default-clause-behind : goal.returns-in_default-clause-behind
returns-in_default-clause-behind g c told =
    let l = c.loop-number.invariant in
    aside_then (behind c.args.core.now.volume.tables.geometry) (behind c.loop-number.core.volume.tables.geometry) (g.D.Device.view c.args.dev.now) (g.D.Device.view c.loop-number.dev) (g.D.Device.view c.apply.new.dev)
    (g.met.D.Device.sound c.loop-number.dev told) (ap behind l.size) (l.behind told) (c.apply.ensures.behind told)

pub returns-in-Ok-close : goal.returns-in-Ok-close
returns-in-Ok-close g c =
    let old = g.D.Device.view c.args.dev.now in
    let mid = g.D.Device.view c.loop-number.dev in
    let new = g.D.Device.view c.close.new.dev in
    let kind = c.args.placement.now.kind in
    let seed = c.args.load.now.seed in
    let count = c.args.load.now.count in
    let l = c.loop-number.invariant in
    let is = c.in-Ok-close.ensures in
    let all : c.loop-number.number ≡ count = omega arith in
    record {
      loaded = λ told. loaded_there kind seed old.reads count c.close.new.self new _ _ _ (rw all at (l.applied told)) (c.requires.at told).1.good (is.at told) (is.state told) (is.closed told);
      summary = λ told. summed kind seed (world_of old.reads) count c.close.new.self new _ _ _ _ _ (rw all at (l.applied told)) (is.at told) (is.state told) c.free_count.ensures c.pointers.ensures;
      stops = tt;
      sent = λ told. c.close.ensures.sent told ∙ l.sent told;
      any_moment = λ told. run_ended kind seed c.loop-number.number count old mid new _ refl (omega arith) (l.applied told).state (l.sent told) (l.moments told) (c.close.ensures.any_moment told);
      first = λ told. tt;
      behind = λ told. aside_then (behind c.args.core.now.volume.tables.geometry) (behind c.loop-number.core.volume.tables.geometry) old mid new (g.met.D.Device.sound c.loop-number.dev told) (ap behind l.size) (l.behind told) (c.close.ensures.behind told);
      works = works_joined old mid new l.works c.close.ensures.works;
      faults = ((λ e. absurd (cc)), (λ other. is.faults ∙ l.faults));
    }

pub returns-in-Err-clause-any_moment : goal.returns-in-Err-clause-any_moment
returns-in-Err-clause-any_moment g c told =
    let l = c.loop-number.invariant in
    run_ended c.args.placement.now.kind c.args.load.now.seed c.loop-number.number c.args.load.now.count (g.D.Device.view c.args.dev.now) (g.D.Device.view c.loop-number.dev) (g.D.Device.view c.close.new.dev) _ refl (omega arith) (l.applied told).state (l.sent told)
    (l.moments told) (c.close.ensures.any_moment told)

pub returns-in-Err-clause-behind : goal.returns-in-Err-clause-behind
returns-in-Err-clause-behind g c told =
    let l = c.loop-number.invariant in
    aside_then (behind c.args.core.now.volume.tables.geometry) (behind c.loop-number.core.volume.tables.geometry) (g.D.Device.view c.args.dev.now) (g.D.Device.view c.loop-number.dev) (g.D.Device.view c.close.new.dev)
    (g.met.D.Device.sound c.loop-number.dev told) (ap behind l.size) (l.behind told) (c.close.ensures.behind told)

pub returns-in-Err-clause-first : goal.returns-in-Err-clause-first
returns-in-Err-clause-first g c told e = absurd (cc)
