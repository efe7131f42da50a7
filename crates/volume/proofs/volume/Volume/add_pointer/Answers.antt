use Rattle.volume.proofs.Common.{ok_map, with_pointer, checkpoint_writes, IsOperation, IsWithin, CommitsOnce, kept_then, kept_fails, within_then, within_more, within_fails, pairs_of, World, Geometry, owed, Volume, IsVolumeReady, told_by, settled_pairs, View, batch_cost, due, on_ok}
use Rattle.std.proofs.Common.{[], ◌≡◌, ◌+◌, ◌<◌, ℕ, List, length, sym, ◌∙◌, ap, subst, arith}
use Rattle.volume.proofs.volume.Volume.add_pointer.Goals as goal
use Rattle.volume.proofs.volume.Volume.add_pointer.Goals.{then-len-self+in_ok-settle_all, else-len-self}

-- where all is settled the slots have room for what is told
room_settled : (old new : Volume) → IsVolumeReady new → owed new.tables ≡ 0 → told_by new ≡ told_by old → new.tables.geometry ≡ old.tables.geometry → length (told_by old).pairs < old.tables.geometry.slots → length (pairs_of new.tables) < new.tables.geometry.slots
room_settled old new ready none told size room =
    let all = ap (λ (es : List (ℕ × ℕ)). length es) (settled_pairs new.tables ready.1 none) in
    let same : length (told_by new).pairs ≡ length (told_by old).pairs = ap (λ (w : World). length w.pairs) told in
    let slots = ap (λ (g : Geometry). g.slots) size in
    omega (arith, all, same, slots, room)

pub add_pair-requires-clause-room : goal.add_pair-requires-clause-room
add_pair-requires-clause-room g c = elim c.if-len-self.branch [
  | then-len-self+in_ok-settle_all w ↦
      subst (λ (v : Volume). length (pairs_of v.tables) < v.tables.geometry.slots) (sym w.self-is)
      (room_settled c.args.self.now w.settle_all.new.self w.in_ok-settle_all.ensures.ready w.in_ok-settle_all.ensures.settled w.in_ok-settle_all.ensures.told w.in_ok-settle_all.ensures.operation.geometry c.requires.room)
  | else-len-self w ↦
      let here = w.self-is in
      subst (λ (v : Volume). length (pairs_of v.tables) < v.tables.geometry.slots) (sym here)
      (let slots = ap (λ (v : Volume). v.tables.geometry.slots) c.self.view_is in
      let long = ap (λ (v : Volume). length (pairs_of v.tables)) c.self.view_is in
      let other = w.if-len-self.false in
      let most = c.len.ensures.pairs.room in
      let size = ap (λ (k : Geometry). k.slots) c.self.invariant.pointers in
      let value = c.len.ensures.value in
      omega (arith, slots, long, other, most, size, value))
]

pub returns-clause-unsettled : goal.returns-clause-unsettled
returns-clause-unsettled g c few = elim c.if-len-self.branch [
  | then-len-self+in_ok-settle_all w ↦
      let slots = ap (λ (v : Volume). v.tables.geometry.slots) c.self.view_is in
      let long = ap (λ (v : Volume). length (pairs_of v.tables)) c.self.view_is in
      let size = ap (λ (k : Geometry). k.slots) c.self.invariant.pointers in
      let value = c.len.ensures.value in
      let full = w.if-len-self.true in
      absurd (few (omega (arith, slots, long, size, value, full)))
  | else-len-self w ↦ on_ok c.add_pair.result (c.add_pair.ensures.owes ∙ ap (λ (v : Volume). owed v.tables) w.self-is)
]

pub returns-clause-operation : goal.returns-clause-operation
returns-clause-operation g c =
    let told = g.D.Device.told in
    let view = g.D.Device.view in
    elim c.if-len-self.branch [
      | then-len-self+in_ok-settle_all w ↦ kept_then told (λ z. with_pointer z c.args.source c.args.target) c.args.self.now w.settle_all.new.self c.add_pair.new.self (view c.args.dev.now) (view w.settle_all.new.dev) (view c.add_pair.new.dev) _ c.add_pair.result w.in_ok-settle_all.ensures.operation
          (subst (λ (x : Volume). IsOperation told [] (λ z. with_pointer z c.args.source c.args.target) x c.add_pair.new.self (view w.settle_all.new.dev) (view c.add_pair.new.dev) c.add_pair.result) w.self-is
          (subst (λ (z : View). IsOperation told [] (λ z. with_pointer z c.args.source c.args.target) c.if-len-self.self c.add_pair.new.self z (view c.add_pair.new.dev) c.add_pair.result) (ap view w.dev-is) c.add_pair.ensures.operation))
      | else-len-self w ↦ subst (λ (x : Volume). IsOperation told [] (λ z. with_pointer z c.args.source c.args.target) x c.add_pair.new.self (view c.args.dev.now) (view c.add_pair.new.dev) c.add_pair.result) w.self-is
          (subst (λ (z : View). IsOperation told [] (λ z. with_pointer z c.args.source c.args.target) c.if-len-self.self c.add_pair.new.self z (view c.add_pair.new.dev) c.add_pair.result) (ap view w.dev-is) c.add_pair.ensures.operation)
    ]

pub returns-clause-cost : goal.returns-clause-cost
returns-clause-cost g c =
    let told = g.D.Device.told in
    let view = g.D.Device.view in
    elim c.if-len-self.branch [
      | then-len-self+in_ok-settle_all w ↦
          let none = w.in_ok-settle_all.ensures.settled in
          within_then told c.args.self.now w.settle_all.new.self c.add_pair.new.self (view c.args.dev.now) (view w.settle_all.new.dev) (view c.add_pair.new.dev) _ c.add_pair.result _ _ _ _ _ _ (owed c.args.self.now.tables) (batch_cost 2) (due c.args.self.now + batch_cost 2) w.in_ok-settle_all.ensures.cost
          (subst (λ (x : Volume). IsWithin told (owed x.tables) (batch_cost 2) (checkpoint_writes x.ring + batch_cost 2) x c.add_pair.new.self (view w.settle_all.new.dev) (view c.add_pair.new.dev) c.add_pair.result) w.self-is
          (subst (λ (z : View). IsWithin told (owed c.if-len-self.self.tables) (batch_cost 2) (checkpoint_writes c.if-len-self.self.ring + batch_cost 2) c.if-len-self.self c.add_pair.new.self z (view c.add_pair.new.dev) c.add_pair.result) (ap view w.dev-is) c.add_pair.ensures.cost))
          (omega arith) (omega (arith, none)) (omega arith) (omega arith)
      | else-len-self w ↦ within_more told _ _ _ c.args.self.now c.add_pair.new.self (view c.args.dev.now) (view c.add_pair.new.dev) (due c.args.self.now + batch_cost 2) c.add_pair.result
          (subst (λ (x : Volume). IsWithin told (owed x.tables) (batch_cost 2) (checkpoint_writes x.ring + batch_cost 2) x c.add_pair.new.self (view c.args.dev.now) (view c.add_pair.new.dev) c.add_pair.result) w.self-is
          (subst (λ (z : View). IsWithin told (owed c.if-len-self.self.tables) (batch_cost 2) (checkpoint_writes c.if-len-self.self.ring + batch_cost 2) c.if-len-self.self c.add_pair.new.self z (view c.add_pair.new.dev) c.add_pair.result) (ap view w.dev-is) c.add_pair.ensures.cost))
          (omega arith)
    ]

pub returns-in_err-settle_all-clause-operation : goal.returns-in_err-settle_all-clause-operation
returns-in_err-settle_all-clause-operation g c =
    let told = g.D.Device.told in
    let view = g.D.Device.view in
    kept_fails told (λ z. with_pointer z c.args.source c.args.target) c.args.self.now c.settle_all.new.self (view c.args.dev.now) (view c.settle_all.new.dev) _ _ c.from_residual.result c.from_residual.ensures.1 c.in_err-settle_all.ensures.operation

pub returns-in_err-settle_all-clause-cost : goal.returns-in_err-settle_all-clause-cost
returns-in_err-settle_all-clause-cost g c =
    let told = g.D.Device.told in
    let view = g.D.Device.view in
    within_fails told _ _ _ c.args.self.now c.settle_all.new.self (view c.args.dev.now) (view c.settle_all.new.dev) _ _ _ _ _ c.from_residual.result c.from_residual.ensures.1 c.in_err-settle_all.ensures.cost (omega arith) (omega arith)

pub returns-clause-told : goal.returns-clause-told
returns-clause-told g c = ok_map c.add_pair.result _ _ (λ (told : told_by c.add_pair.new.self ≡ with_pointer (told_by c.if-len-self.self) c.args.source c.args.target).
    elim c.if-len-self.branch [
      | then-len-self+in_ok-settle_all w ↦ told ∙ ap (λ z. with_pointer z c.args.source c.args.target) (ap told_by w.self-is ∙ w.in_ok-settle_all.ensures.told)
      | else-len-self w ↦ told ∙ ap (λ z. with_pointer z c.args.source c.args.target) (ap told_by w.self-is)
    ]) c.add_pair.ensures.told

pub returns-clause-settled : goal.returns-clause-settled
returns-clause-settled g c full = elim c.if-len-self.branch [
  | then-len-self+in_ok-settle_all w ↦ on_ok c.add_pair.result (c.add_pair.ensures.owes ∙ (ap (λ (v : Volume). owed v.tables) w.self-is ∙ w.in_ok-settle_all.ensures.settled))
  | else-len-self w ↦
      let slots = ap (λ (v : Volume). v.tables.geometry.slots) c.self.view_is in
      let long = ap (λ (v : Volume). length (pairs_of v.tables)) c.self.view_is in
      let size = ap (λ (k : Geometry). k.slots) c.self.invariant.pointers in
      let value = c.len.ensures.value in
      let some = w.if-len-self.false in
      let all : length (pairs_of c.args.self.now.tables) ≡ c.args.self.now.tables.geometry.slots = full in
      absurd (grind (arith, slots, long, size, value, some, all))
]

pub returns-clause-once : goal.returns-clause-once
returns-clause-once g c few = elim c.if-len-self.branch [
  | then-len-self+in_ok-settle_all w ↦
      let slots = ap (λ (v : Volume). v.tables.geometry.slots) c.self.view_is in
      let long = ap (λ (v : Volume). length (pairs_of v.tables)) c.self.view_is in
      let size = ap (λ (k : Geometry). k.slots) c.self.invariant.pointers in
      let value = c.len.ensures.value in
      let full = w.if-len-self.true in
      absurd (few (omega (arith, slots, long, size, value, full)))
  | else-len-self w ↦
      let view = g.D.Device.view in
      subst (λ (x : Volume). CommitsOnce 2 x c.add_pair.new.self (view c.args.dev.now) (view c.add_pair.new.dev) c.add_pair.result) w.self-is
      (subst (λ (z : View). CommitsOnce 2 c.if-len-self.self c.add_pair.new.self z (view c.add_pair.new.dev) c.add_pair.result) (ap view w.dev-is) c.add_pair.ensures.once)
]

-- where it had to settle first, the slots were full
pub returns-in_err-settle_all-clause-once : goal.returns-in_err-settle_all-clause-once
returns-in_err-settle_all-clause-once g c few =
    let slots = ap (λ (v : Volume). v.tables.geometry.slots) c.self.view_is in
    let long = ap (λ (v : Volume). length (pairs_of v.tables)) c.self.view_is in
    let size = ap (λ (k : Geometry). k.slots) c.self.invariant.pointers in
    let value = c.len.ensures.value in
    let full = c.if-len-self.true in
    absurd (few (omega (arith, slots, long, size, value, full)))
