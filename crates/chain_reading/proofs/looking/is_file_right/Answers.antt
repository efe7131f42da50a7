use Rattle.std.proofs.Common.{◌==◌, sym, ◌∙◌, ap, subst, Ok, Err}
use Rattle.chain_reading.proofs.Common.{no_look, looks_as, looks_refused, then_looks, on_disk, cluster_of, part_cluster, IsPartSeenAt, part_seen}
use Rattle.chain_reading.proofs.SeenLaws.{part_is}
use Rattle.chain_reading.proofs.RightLaws.{next_held_of}
use Rattle.chain_reading.proofs.LoopLaws.{file_begins, file_over, file_twice, file_stops, file_ends, file_goes_on, led_may, within_is, over_is}
use Rattle.chain_reading.proofs.looking.is_file_right.Goals as goal

pub loop-position-init : goal.loop-position-init
loop-position-init g c =
    let first = g.K.Blocks.view c.args.disk.now in
    record {
      looks = no_look g.K.Blocks.told first c.requires.unspent (λ t. g.met.K.Blocks.sound c.args.disk.now t c.requires.unspent) c.requires.valid;
      may = c.requires.may;
      on = λ t. file_begins first.world c.args.first c.args.seen.now;
    }

pub returns-then-not-insert-clause-comes : goal.returns-then-not-insert-clause-comes
returns-then-not-insert-clause-comes g c = λ t.
    let first = g.K.Blocks.view c.args.disk.now in
    let sound = g.met.K.Blocks.sound c.args.disk.now t c.requires.unspent in
    file_twice first.world c.args.first c.loop-position.position c.loop-position.block c.args.seen.now c.loop-position.seen c.insert.new.self (c.loop-position.invariant.on t)
    (within_is first c.geometry-position-end.result.blocks c.loop-position.position (ap (λ x. x.blocks) sound.geometry) (ap (λ x. x.blocks) c.geometry-position-end.ensures) c.loop-position-test.true)
    c.insert.result c.insert.ensures.new c.if-not-insert.true

pub returns-then-not-insert-clause-looks : goal.returns-then-not-insert-clause-looks
returns-then-not-insert-clause-looks g c = looks_as g.K.Blocks.told (g.K.Blocks.view c.args.disk.now) (g.K.Blocks.view c.loop-position.disk) tt _ c.loop-position.invariant.looks

pub look_at_part-requires-clause-unspent : goal.look_at_part-requires-clause-unspent
look_at_part-requires-clause-unspent g c = c.loop-position.invariant.looks.unspent.0

pub look_at_part-requires-clause-valid : goal.look_at_part-requires-clause-valid
look_at_part-requires-clause-valid g c = λ t. (c.loop-position.invariant.looks.looked t).0.valid

pub look_at_part-requires-clause-may : goal.look_at_part-requires-clause-may
look_at_part-requires-clause-may g c = c.loop-position.invariant.may

pub returns-in-Ok-None-clause-comes : goal.returns-in-Ok-None-clause-comes
returns-in-Ok-None-clause-comes g c = λ t.
    let first = g.K.Blocks.view c.args.disk.now in
    let cur = g.K.Blocks.view c.loop-position.disk in
    let new = g.K.Blocks.view c.look_at_part.new.disk in
    let b = c.loop-position.block in
    let i = c.loop-position.position in
    let sound = g.met.K.Blocks.sound c.args.disk.now t c.requires.unspent in
    let seen = subst (IsPartSeenAt c.args.client.now cur new (i == 0) b) c.in-Ok-None.field-0-is (c.in-Ok-None.ensures.seen t) in
    file_stops first.world c.args.first i b c.args.seen.now c.loop-position.seen c.insert.new.self (c.loop-position.invariant.on t)
    (within_is first c.geometry-position-end.result.blocks i (ap (λ x. x.blocks) sound.geometry) (ap (λ x. x.blocks) c.geometry-position-end.ensures) c.loop-position-test.true)
    c.insert.result c.insert.ensures.new c.if-not-insert.false (ap (λ w. part_seen w (i == 0) b) (sym (c.loop-position.invariant.looks.looked t).0.world) ∙ seen)

pub returns-in-Ok-None-clause-looks : goal.returns-in-Ok-None-clause-looks
returns-in-Ok-None-clause-looks g c =
    let told = g.K.Blocks.told in
    let cur = g.K.Blocks.view c.loop-position.disk in
    let new = g.K.Blocks.view c.look_at_part.new.disk in
    then_looks told (g.K.Blocks.view c.args.disk.now) cur new tt (Ok _) c.loop-position.invariant.looks (looks_as told cur new c.in-Ok-None.field-0 _ c.in-Ok-None.ensures.looks)

pub returns-in-Err-clause-only : goal.returns-in-Err-clause-only
returns-in-Err-clause-only g c = c.in-Err.ensures.only

pub returns-in-Err-clause-looks : goal.returns-in-Err-clause-looks
returns-in-Err-clause-looks g c =
    let told = g.K.Blocks.told in
    let cur = g.K.Blocks.view c.loop-position.disk in
    let new = g.K.Blocks.view c.look_at_part.new.disk in
    then_looks told (g.K.Blocks.view c.args.disk.now) cur new tt (Err c.in-Err.refusal) c.loop-position.invariant.looks (looks_refused told cur new c.in-Err.refusal c.in-Err.ensures.looks)

pub returns-in-None-clause-comes : goal.returns-in-None-clause-comes
returns-in-None-clause-comes g c = λ t.
    let first = g.K.Blocks.view c.args.disk.now in
    let cur = g.K.Blocks.view c.loop-position.disk in
    let new = g.K.Blocks.view c.look_at_part.new.disk in
    let inv = c.loop-position.invariant in
    let b = c.loop-position.block in
    let i = c.loop-position.position in
    let cl = cluster_of (part_cluster c.in-Ok-Some.part.cluster) in
    let sound = g.met.K.Blocks.sound c.args.disk.now t c.requires.unspent in
    let seen = subst (IsPartSeenAt c.args.client.now cur new (i == 0) b) c.in-Ok-Some.field-0-is (c.in-Ok-Some.ensures.seen t) in
    file_ends first.world c.args.first i b c.args.seen.now c.loop-position.seen c.insert.new.self (inv.on t)
    (within_is first c.geometry-position-end.result.blocks i (ap (λ x. x.blocks) sound.geometry) (ap (λ x. x.blocks) c.geometry-position-end.ensures) c.loop-position-test.true)
    c.insert.result c.insert.ensures.new c.if-not-insert.false cl (ap (λ w. part_seen w (i == 0) b) (sym (inv.looks.looked t).0.world) ∙ seen.0)
    (on_disk cur b (inv.looks.looked t).0.valid (inv.may t).live) c.insert.ensures.gains
    (sym (c.next.ensures.value ∙ ap (λ k. (cluster_of k).next) c.cluster.ensures) ∙ c.in-None.is)

pub returns-in-None-clause-looks : goal.returns-in-None-clause-looks
returns-in-None-clause-looks g c =
    let told = g.K.Blocks.told in
    let cur = g.K.Blocks.view c.loop-position.disk in
    let new = g.K.Blocks.view c.look_at_part.new.disk in
    then_looks told (g.K.Blocks.view c.args.disk.now) cur new tt (Ok _) c.loop-position.invariant.looks (looks_as told cur new c.in-Ok-Some.field-0 _ c.in-Ok-Some.ensures.looks)

pub loop-position-preserved : goal.loop-position-preserved
loop-position-preserved g c =
    let told = g.K.Blocks.told in
    let first = g.K.Blocks.view c.args.disk.now in
    let cur = g.K.Blocks.view c.loop-position.disk in
    let new = g.K.Blocks.view c.look_at_part.new.disk in
    let inv = c.loop-position.invariant in
    let b = c.loop-position.block in
    let i = c.loop-position.position in
    let cl = cluster_of (part_cluster c.in-Ok-Some.part.cluster) in
    let looks = c.in-Ok-Some.ensures.looks in
    record {
      looks = then_looks told first cur new tt (Ok tt) inv.looks (looks_as told cur new c.in-Ok-Some.field-0 tt looks);
      may = λ t.
          let seen = subst (IsPartSeenAt c.args.client.now cur new (i == 0) b) c.in-Ok-Some.field-0-is (c.in-Ok-Some.ensures.seen t) in
          led_may c.args.client.now cur new b b c.in-Some.next (looks.looked t).0.valid (inv.may t) looks.stays.0
          (next_held_of cur.world new.world (looks.looked t).0.world b c.in-Some.next cl (part_is cur.world (i == 0) b cl seen.0).held (sym (c.next.ensures.value ∙ ap (λ k. (cluster_of k).next) c.cluster.ensures) ∙ c.in-Some.is)) seen.1;
      on = λ t.
          let sound = g.met.K.Blocks.sound c.args.disk.now t c.requires.unspent in
          let seen = subst (IsPartSeenAt c.args.client.now cur new (i == 0) b) c.in-Ok-Some.field-0-is (c.in-Ok-Some.ensures.seen t) in
          file_goes_on first.world c.args.first i b c.args.seen.now c.loop-position.seen c.insert.new.self (inv.on t)
          (within_is first c.geometry-position-end.result.blocks i (ap (λ x. x.blocks) sound.geometry) (ap (λ x. x.blocks) c.geometry-position-end.ensures) c.loop-position-test.true)
          c.insert.result c.insert.ensures.new c.if-not-insert.false cl (ap (λ w. part_seen w (i == 0) b) (sym (inv.looks.looked t).0.world) ∙ seen.0)
          (on_disk cur b (inv.looks.looked t).0.valid (inv.may t).live) c.insert.ensures.gains c.in-Some.next
          (sym (c.next.ensures.value ∙ ap (λ k. (cluster_of k).next) c.cluster.ensures) ∙ c.in-Some.is);
    }

pub returns-clause-comes : goal.returns-clause-comes
returns-clause-comes g c = λ t.
    let first = g.K.Blocks.view c.args.disk.now in
    let sound = g.met.K.Blocks.sound c.args.disk.now t c.requires.unspent in
    file_over first.world c.args.first c.loop-position.position c.loop-position.block c.args.seen.now c.loop-position.seen c.loop-position.seen (c.loop-position.invariant.on t)
    (over_is first c.geometry-position-end.result.blocks c.loop-position.position (ap (λ x. x.blocks) sound.geometry) (ap (λ x. x.blocks) c.geometry-position-end.ensures) c.loop-position-test.false)

pub returns-clause-looks : goal.returns-clause-looks
returns-clause-looks g c = looks_as g.K.Blocks.told (g.K.Blocks.view c.args.disk.now) (g.K.Blocks.view c.loop-position.disk) tt _ c.loop-position.invariant.looks
