use Rattle.std.proofs.Common.{◌≡◌, ◌∙◌, List, ℕ, sym}
use Rattle.intent_journal.proofs.Common.{Image, on_ok, started, after_sync, IsBefore, uses_within}
use Rattle.intent_journal.proofs.Committing.{before_now}
use Rattle.intent_journal.proofs.Emptying.{listed_at, closing_of_ring, ring_most, none_to_close}
use Rattle.intent_journal.proofs.ring.Ring.checkpoint.Goals as goal

pub returns-then-records-eq0-clause-any_moment : goal.returns-then-records-eq0-clause-any_moment
returns-then-records-eq0-clause-any_moment g c told =
    let v = g.D.Device.view c.args.dev.now in
    let P : Image → List ℕ → Type 0 = λ x f. IsBefore v x × (f ≡ v.sent) in
    let now = λ (x : Image) (f : List ℕ) (left : _). let h : P x f = (before_now c.args.self.now v (c.requires told) x f left, left.1) in h in
    after_sync v v _ P (started v P (g.met.D.Device.sound c.args.dev.now told) now) (c.sync.ensures.settles told) now

pub put_in_place-requires-clause-listed : goal.put_in_place-requires-clause-listed
put_in_place-requires-clause-listed g c told =
    listed_at c.args.self.now (g.D.Device.view c.args.dev.now) c.patches.result.now c.first_gates-gates.result c.records-2.result (c.requires told) c.patches.ensures.value c.records-2.ensures.value c.first_gates-gates.ensures

pub returns-clause-uses : goal.returns-clause-uses
returns-clause-uses g c =
    let less = closing_of_ring c.args.self.now c.patches.result.now c.first_gates-gates.result c.records-2.result c.patches.ensures.ring c.patches.ensures.value c.records-2.ensures.value c.first_gates-gates.ensures in
    uses_within _ _ _ _ less c.put_in_place.ensures.uses

pub returns-in_err-put_in_place-clause-uses : goal.returns-in_err-put_in_place-clause-uses
returns-in_err-put_in_place-clause-uses g c =
    let less = closing_of_ring c.args.self.now c.patches.result.now c.first_gates-gates.result c.records-2.result c.patches.ensures.ring c.patches.ensures.value c.records-2.ensures.value c.first_gates-gates.ensures in
    uses_within _ _ _ _ less c.put_in_place.ensures.uses

pub returns-in_err-put_in_place-clause-most : goal.returns-in_err-put_in_place-clause-most
returns-in_err-put_in_place-clause-most g c = ring_most c.args.self.now c.records.ensures.ring

pub returns-clause-most : goal.returns-clause-most
returns-clause-most g c = ring_most c.args.self.now c.records.ensures.ring

pub returns-then-records-eq0-clause-gates : goal.returns-then-records-eq0-clause-gates
returns-then-records-eq0-clause-gates g c told =
    let view = g.D.Device.view in
    on_ok c.sync.result (none_to_close c.args.self.now (view c.args.dev.now) (view c.sync.new.self) (c.requires told) (sym c.records.ensures.value ∙ c.if-records-eq0.true) (c.sync.ensures.settles told).reads)
