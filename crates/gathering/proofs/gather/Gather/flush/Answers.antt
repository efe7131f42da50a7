use Rattle.std.proofs.Common.{⊎_elim, ℕ, List, refl, sym, ◌∙◌, subst, arith}
use Rattle.std.proofs.lemmas.Result.{on_ok_weaker}
use Rattle.gathering.specs.Gathered.{ArePut, gathered_view}
use Rattle.gathering.proofs.Flushing.{between, few_writes, given_up, grouped, left_alone, net_home}
use Rattle.gathering.proofs.gather.Gather.flush.Goals as goal

pub returns-clause-done : goal.returns-clause-done
returns-clause-done g c told =
    let m = c.args.self in
    on_ok_weaker c.flush_to-result.result (λ done n out. done n out ∙ net_home g.K.Began.start m.group.past.events m.group.batch m.group.net (g.P.Device.view m.inner).reads (m.reads told) n out) (c.flush_to-result.ensures.done told)

pub returns-clause-any_moment : goal.returns-clause-any_moment
returns-clause-any_moment g c told =
    let m = c.args.self in
    let puts = subst (λ (w : List ℕ). ArePut m.group.past.events w) (sym c.as_slice.ensures.value) m.group.waits in
    grouped g.K.Began.start m.group.past.events m.group.batch m.group.net m.ring c.as_slice.result.now puts (gathered_view g.K.Began.start m.group.past.events m.faults m.put_faults m.writes) (g.P.Device.view m.inner) _ refl refl (m.firm told) (m.at told) (m.reads told) (m.loose told) (m.sent told) (m.leaves told) (c.flush_to-result.ensures.any_moment told)

pub returns-then-device_failed-clause-any_moment : goal.returns-then-device_failed-clause-any_moment
returns-then-device_failed-clause-any_moment g c told =
    let m = c.args.self in
    given_up g.K.Began.start m.group.past.events m.group.batch m.group.net m.ring m.group.waiting.items m.group.waits (gathered_view g.K.Began.start m.group.past.events m.faults m.put_faults m.writes) (g.P.Device.view m.inner) (g.P.Device.view m.inner) refl refl (m.firm told) (m.at told) (m.reads told) (m.loose told) (m.sent told) (m.leaves told)

pub returns-then-faults-gt0-clause-any_moment : goal.returns-then-faults-gt0-clause-any_moment
returns-then-faults-gt0-clause-any_moment g c told =
    let m = c.args.self in
    given_up g.K.Began.start m.group.past.events m.group.batch m.group.net m.ring m.group.waiting.items m.group.waits (gathered_view g.K.Began.start m.group.past.events m.faults m.put_faults m.writes) (g.P.Device.view m.inner) (g.P.Device.view m.inner) refl refl (m.firm told) (m.at told) (m.reads told) (m.loose told) (m.sent told) (m.leaves told)

pub returns-then-device_failed-clause-given_up : goal.returns-then-device_failed-clause-given_up
returns-then-device_failed-clause-given_up g c told fails =
    let m = c.args.self in
    left_alone g.K.Began.start (g.P.Device.view m.inner) m.ring (m.firm told) (m.at told) (m.leaves told)

pub returns-then-faults-gt0-clause-given_up : goal.returns-then-faults-gt0-clause-given_up
returns-then-faults-gt0-clause-given_up g c told fails =
    let m = c.args.self in
    left_alone g.K.Began.start (g.P.Device.view m.inner) m.ring (m.firm told) (m.at told) (m.leaves told)

pub returns-clause-put_done : goal.returns-clause-put_done
returns-clause-put_done g c told is n out =
    let m = c.args.self in
    c.flush_to-result.ensures.put_done told is n out ∙ net_home g.K.Began.start m.group.past.events m.group.batch m.group.net (g.P.Device.view m.inner).reads (m.reads told) n out

pub returns-clause-put_sent : goal.returns-clause-put_sent
returns-clause-put_sent g c told is =
    let m = c.args.self in
    let puts = subst (λ (w : List ℕ). ArePut m.group.past.events w) (sym c.as_slice.ensures.value) m.group.waits in
    between g.K.Began.start m.group.past.events c.as_slice.result.now puts (g.P.Device.view m.inner) (m.sent told) _ refl _ (c.flush_to-result.ensures.put_sent told is)

pub returns-clause-unsent : goal.returns-clause-unsent
returns-clause-unsent g c told which = ⊎_elim
    (λ is. c.flush_to-result.ensures.unsent told is ∙ c.args.self.sent told)
    (λ is. absurd (c.flush_to-result.ensures.room is))
    which

pub returns-clause-bounded : goal.returns-clause-bounded
returns-clause-bounded g c =
    let most = c.flush_to-result.ensures.most in
    let few = few_writes _ c.flush_to-result.ensures.fits in
    let before = c.args.self.counts.most in
    omega (arith, most, few, before)
