use Rattle.std.proofs.Common.{◌+◌, true, false, nat_le, sym, ◌∙◌, ap, subst, arith, Ok, Err}
use Rattle.chain_reading.proofs.Common.{no_look, looks_as, looks_refused, then_looks, on_disk, cluster_of, entry_blocks, IsPageSeenAt, page_seen, listed_in}
use Rattle.chain_reading.proofs.SeenLaws.{page_is}
use Rattle.chain_reading.proofs.RightLaws.{entry_held_of, page_held_of}
use Rattle.chain_reading.proofs.LoopLaws.{directory_begins, directory_over, directory_twice, directory_stops, files_are_wrong, directory_ends, directory_goes_on, files_told, led_may, within_is, over_is}
use Rattle.chain_reading.proofs.looking.is_directory_right.Goals as goal

pub loop-position-init : goal.loop-position-init
loop-position-init g c =
    let first = g.K.Blocks.view c.args.disk.now in
    record {
      looks = no_look g.K.Blocks.told first c.requires.unspent (λ t. g.met.K.Blocks.sound c.args.disk.now t c.requires.unspent) c.requires.valid;
      may = c.requires.may;
      on = λ t. directory_begins first.world c.args.client.now.root c.args.seen.now;
      few = omega arith;
    }

pub returns-then-not-insert-clause-comes : goal.returns-then-not-insert-clause-comes
returns-then-not-insert-clause-comes g c = λ t.
    let first = g.K.Blocks.view c.args.disk.now in
    let inv = c.loop-position.invariant in
    let b = c.loop-position.block in
    let i = c.loop-position.position in
    let sound = g.met.K.Blocks.sound c.args.disk.now t c.requires.unspent in
    directory_twice first.world c.args.client.now.root i b c.loop-position.count c.args.seen.now c.loop-position.seen (inv.on t)
    (within_is first c.geometry-position-end.result.blocks i (ap (λ x. x.blocks) sound.geometry) (ap (λ x. x.blocks) c.geometry-position-end.ensures) c.loop-position-test.true)
    c.insert.result c.insert.ensures.new c.insert.new.self c.if-not-insert.true

pub returns-then-not-insert-clause-looks : goal.returns-then-not-insert-clause-looks
returns-then-not-insert-clause-looks g c = looks_as g.K.Blocks.told (g.K.Blocks.view c.args.disk.now) (g.K.Blocks.view c.loop-position.disk) tt _ c.loop-position.invariant.looks

pub look_at_page-requires-clause-unspent : goal.look_at_page-requires-clause-unspent
look_at_page-requires-clause-unspent g c = c.loop-position.invariant.looks.unspent.0

pub look_at_page-requires-clause-valid : goal.look_at_page-requires-clause-valid
look_at_page-requires-clause-valid g c = λ t. (c.loop-position.invariant.looks.looked t).0.valid

pub look_at_page-requires-clause-may : goal.look_at_page-requires-clause-may
look_at_page-requires-clause-may g c = c.loop-position.invariant.may

pub returns-in-Ok-None-clause-comes : goal.returns-in-Ok-None-clause-comes
returns-in-Ok-None-clause-comes g c = λ t.
    let first = g.K.Blocks.view c.args.disk.now in
    let cur = g.K.Blocks.view c.loop-position.disk in
    let mid = g.K.Blocks.view c.look_at_page.new.disk in
    let inv = c.loop-position.invariant in
    let b = c.loop-position.block in
    let i = c.loop-position.position in
    let sound = g.met.K.Blocks.sound c.args.disk.now t c.requires.unspent in
    let seen = subst (IsPageSeenAt c.args.client.now cur mid b) c.in-Ok-None.field-0-is (c.in-Ok-None.ensures.seen t) in
    directory_stops first.world c.args.client.now.root i b c.loop-position.count c.args.seen.now c.loop-position.seen (inv.on t)
    (within_is first c.geometry-position-end.result.blocks i (ap (λ x. x.blocks) sound.geometry) (ap (λ x. x.blocks) c.geometry-position-end.ensures) c.loop-position-test.true)
    c.insert.result c.insert.ensures.new c.if-not-insert.false c.insert.new.self (ap (λ w. page_seen w b) (sym (inv.looks.looked t).0.world) ∙ seen)

pub returns-in-Ok-None-clause-looks : goal.returns-in-Ok-None-clause-looks
returns-in-Ok-None-clause-looks g c =
    let told = g.K.Blocks.told in
    let cur = g.K.Blocks.view c.loop-position.disk in
    let mid = g.K.Blocks.view c.look_at_page.new.disk in
    then_looks told (g.K.Blocks.view c.args.disk.now) cur mid tt (Ok _) c.loop-position.invariant.looks (looks_as told cur mid c.in-Ok-None.field-0 _ c.in-Ok-None.ensures.looks)

pub returns-in-Err-clause-only : goal.returns-in-Err-clause-only
returns-in-Err-clause-only g c = c.in-Err.ensures.only

pub returns-in-Err-clause-looks : goal.returns-in-Err-clause-looks
returns-in-Err-clause-looks g c =
    let told = g.K.Blocks.told in
    let cur = g.K.Blocks.view c.loop-position.disk in
    let mid = g.K.Blocks.view c.look_at_page.new.disk in
    then_looks told (g.K.Blocks.view c.args.disk.now) cur mid tt (Err c.in-Err.refusal) c.loop-position.invariant.looks (looks_refused told cur mid c.in-Err.refusal c.in-Err.ensures.looks)

pub overflow_add-count : goal.overflow_add-count
overflow_add-count g c = omega (arith, c.loop-position.invariant.few, c.count-count.ensures.few, c.loop-position-test.true)

pub are_files_right-requires-clause-unspent : goal.are_files_right-requires-clause-unspent
are_files_right-requires-clause-unspent g c = c.in-Ok-Some.ensures.looks.unspent.0

pub are_files_right-requires-clause-valid : goal.are_files_right-requires-clause-valid
are_files_right-requires-clause-valid g c = λ t. (c.in-Ok-Some.ensures.looks.looked t).0.valid

pub are_files_right-requires-clause-may : goal.are_files_right-requires-clause-may
are_files_right-requires-clause-may g c = λ t d m.
    let cur = g.K.Blocks.view c.loop-position.disk in
    let mid = g.K.Blocks.view c.look_at_page.new.disk in
    let b = c.loop-position.block in
    let looks = c.in-Ok-Some.ensures.looks in
    let seen = subst (IsPageSeenAt c.args.client.now cur mid b) c.in-Ok-Some.field-0-is (c.in-Ok-Some.ensures.seen t) in
    let p = listed_in c.in-Ok-Some.page in
    led_may c.args.client.now cur mid b b d (looks.looked t).0.valid (c.loop-position.invariant.may t) looks.stays.0 (entry_held_of cur.world mid.world (looks.looked t).0.world b p (page_is cur.world b p seen.0).held d m) seen.1

pub returns-in-Ok-false-clause-comes : goal.returns-in-Ok-false-clause-comes
returns-in-Ok-false-clause-comes g c = λ t.
    let first = g.K.Blocks.view c.args.disk.now in
    let cur = g.K.Blocks.view c.loop-position.disk in
    let mid = g.K.Blocks.view c.look_at_page.new.disk in
    let inv = c.loop-position.invariant in
    let b = c.loop-position.block in
    let i = c.loop-position.position in
    let sound = g.met.K.Blocks.sound c.args.disk.now t c.requires.unspent in
    let seen = subst (IsPageSeenAt c.args.client.now cur mid b) c.in-Ok-Some.field-0-is (c.in-Ok-Some.ensures.seen t) in
    let p = listed_in c.in-Ok-Some.page in
    files_are_wrong first.world c.args.client.now.root i b c.loop-position.count c.args.seen.now c.loop-position.seen (inv.on t)
    (within_is first c.geometry-position-end.result.blocks i (ap (λ x. x.blocks) sound.geometry) (ap (λ x. x.blocks) c.geometry-position-end.ensures) c.loop-position-test.true)
    c.insert.result c.insert.ensures.new c.if-not-insert.false p (ap (λ w. page_seen w b) (sym (inv.looks.looked t).0.world) ∙ seen.0) (on_disk cur b (inv.looks.looked t).0.valid (inv.may t).live) c.insert.new.self c.are_files_right.new.seen c.insert.ensures.gains
    (files_told mid.world first.world (entry_blocks p.entries) c.insert.new.self c.are_files_right.new.seen c.in-Ok-false.field-0 false ((c.in-Ok-Some.ensures.looks.looked t).0.world ∙ (inv.looks.looked t).0.world) c.in-Ok-false.field-0-test (c.in-Ok-false.ensures.comes t))

pub returns-in-Ok-false-clause-looks : goal.returns-in-Ok-false-clause-looks
returns-in-Ok-false-clause-looks g c =
    let told = g.K.Blocks.told in
    let first = g.K.Blocks.view c.args.disk.now in
    let cur = g.K.Blocks.view c.loop-position.disk in
    let mid = g.K.Blocks.view c.look_at_page.new.disk in
    let new = g.K.Blocks.view c.are_files_right.new.disk in
    then_looks told first cur new tt (Ok _) c.loop-position.invariant.looks (then_looks told cur mid new c.in-Ok-Some.field-0 (Ok _) c.in-Ok-Some.ensures.looks (looks_as told mid new c.in-Ok-false.field-0 _ c.in-Ok-false.ensures.looks))

pub returns-in-Err-are_files_right-clause-only : goal.returns-in-Err-are_files_right-clause-only
returns-in-Err-are_files_right-clause-only g c = c.in-Err-are_files_right.ensures.only

pub returns-in-Err-are_files_right-clause-looks : goal.returns-in-Err-are_files_right-clause-looks
returns-in-Err-are_files_right-clause-looks g c =
    let told = g.K.Blocks.told in
    let first = g.K.Blocks.view c.args.disk.now in
    let cur = g.K.Blocks.view c.loop-position.disk in
    let mid = g.K.Blocks.view c.look_at_page.new.disk in
    let new = g.K.Blocks.view c.are_files_right.new.disk in
    then_looks told first cur new tt (Err c.in-Err-are_files_right.refusal) c.loop-position.invariant.looks (then_looks told cur mid new c.in-Ok-Some.field-0 (Err c.in-Err-are_files_right.refusal) c.in-Ok-Some.ensures.looks (looks_refused told mid new c.in-Err-are_files_right.refusal c.in-Err-are_files_right.ensures.looks))

pub returns-in-None-clause-comes : goal.returns-in-None-clause-comes
returns-in-None-clause-comes g c = λ t.
    let first = g.K.Blocks.view c.args.disk.now in
    let cur = g.K.Blocks.view c.loop-position.disk in
    let mid = g.K.Blocks.view c.look_at_page.new.disk in
    let inv = c.loop-position.invariant in
    let b = c.loop-position.block in
    let i = c.loop-position.position in
    let sound = g.met.K.Blocks.sound c.args.disk.now t c.requires.unspent in
    let seen = subst (IsPageSeenAt c.args.client.now cur mid b) c.in-Ok-Some.field-0-is (c.in-Ok-Some.ensures.seen t) in
    let p = listed_in c.in-Ok-Some.page in
    directory_ends first.world c.args.client.now.root i b c.loop-position.count c.args.seen.now c.loop-position.seen (inv.on t)
    (within_is first c.geometry-position-end.result.blocks i (ap (λ x. x.blocks) sound.geometry) (ap (λ x. x.blocks) c.geometry-position-end.ensures) c.loop-position-test.true)
    c.insert.result c.insert.ensures.new c.if-not-insert.false p (ap (λ w. page_seen w b) (sym (inv.looks.looked t).0.world) ∙ seen.0) (on_disk cur b (inv.looks.looked t).0.valid (inv.may t).live) c.insert.new.self c.are_files_right.new.seen c.insert.ensures.gains
    (files_told mid.world first.world (entry_blocks p.entries) c.insert.new.self c.are_files_right.new.seen c.in-Ok-true.field-0 true ((c.in-Ok-Some.ensures.looks.looked t).0.world ∙ (inv.looks.looked t).0.world) c.in-Ok-true.field-0-test (c.in-Ok-true.ensures.comes t))
    (sym (c.next.ensures.value ∙ ap (λ k. (cluster_of k).next) c.cluster.ensures) ∙ c.in-None.is) _ (ap (λ n. nat_le (c.loop-position.count + n) 4096) c.count-count.ensures.value)

pub returns-in-None-clause-looks : goal.returns-in-None-clause-looks
returns-in-None-clause-looks g c =
    let told = g.K.Blocks.told in
    let first = g.K.Blocks.view c.args.disk.now in
    let cur = g.K.Blocks.view c.loop-position.disk in
    let mid = g.K.Blocks.view c.look_at_page.new.disk in
    let new = g.K.Blocks.view c.are_files_right.new.disk in
    then_looks told first cur new tt (Ok _) c.loop-position.invariant.looks (then_looks told cur mid new c.in-Ok-Some.field-0 (Ok _) c.in-Ok-Some.ensures.looks (looks_as told mid new c.in-Ok-true.field-0 _ c.in-Ok-true.ensures.looks))

pub loop-position-preserved : goal.loop-position-preserved
loop-position-preserved g c =
    let told = g.K.Blocks.told in
    let first = g.K.Blocks.view c.args.disk.now in
    let cur = g.K.Blocks.view c.loop-position.disk in
    let mid = g.K.Blocks.view c.look_at_page.new.disk in
    let new = g.K.Blocks.view c.are_files_right.new.disk in
    let inv = c.loop-position.invariant in
    let b = c.loop-position.block in
    let i = c.loop-position.position in
    let p = listed_in c.in-Ok-Some.page in
    let both = then_looks told cur mid new c.in-Ok-Some.field-0 (Ok tt) c.in-Ok-Some.ensures.looks (looks_as told mid new c.in-Ok-true.field-0 tt c.in-Ok-true.ensures.looks) in
    record {
      looks = then_looks told first cur new tt (Ok tt) inv.looks both;
      may = λ t.
          let seen = subst (IsPageSeenAt c.args.client.now cur mid b) c.in-Ok-Some.field-0-is (c.in-Ok-Some.ensures.seen t) in
          led_may c.args.client.now cur new b b c.in-Some.next (both.looked t).0.valid (inv.may t) both.stays.0
          (page_held_of cur.world new.world (both.looked t).0.world b c.in-Some.next p (page_is cur.world b p seen.0).held (sym (c.next.ensures.value ∙ ap (λ k. (cluster_of k).next) c.cluster.ensures) ∙ c.in-Some.is))
          ((c.in-Ok-true.ensures.looks.looked t).0.ways c.args.client.now.session b seen.1);
      on = λ t.
          let sound = g.met.K.Blocks.sound c.args.disk.now t c.requires.unspent in
          let seen = subst (IsPageSeenAt c.args.client.now cur mid b) c.in-Ok-Some.field-0-is (c.in-Ok-Some.ensures.seen t) in
          directory_goes_on first.world c.args.client.now.root i b c.loop-position.count c.args.seen.now c.loop-position.seen (inv.on t)
          (within_is first c.geometry-position-end.result.blocks i (ap (λ x. x.blocks) sound.geometry) (ap (λ x. x.blocks) c.geometry-position-end.ensures) c.loop-position-test.true)
          c.insert.result c.insert.ensures.new c.if-not-insert.false p (ap (λ w. page_seen w b) (sym (inv.looks.looked t).0.world) ∙ seen.0) (on_disk cur b (inv.looks.looked t).0.valid (inv.may t).live) c.insert.new.self c.are_files_right.new.seen c.insert.ensures.gains
          (files_told mid.world first.world (entry_blocks p.entries) c.insert.new.self c.are_files_right.new.seen c.in-Ok-true.field-0 true ((c.in-Ok-Some.ensures.looks.looked t).0.world ∙ (inv.looks.looked t).0.world) c.in-Ok-true.field-0-test (c.in-Ok-true.ensures.comes t))
          c.in-Some.next _ (sym (c.next.ensures.value ∙ ap (λ k. (cluster_of k).next) c.cluster.ensures) ∙ c.in-Some.is) (ap (λ n. c.loop-position.count + n) c.count-count.ensures.value);
      few = omega (arith, inv.few, c.count-count.ensures.few);
    }

pub returns-clause-comes : goal.returns-clause-comes
returns-clause-comes g c = λ t.
    let first = g.K.Blocks.view c.args.disk.now in
    let sound = g.met.K.Blocks.sound c.args.disk.now t c.requires.unspent in
    directory_over first.world c.args.client.now.root c.loop-position.position c.loop-position.block c.loop-position.count c.args.seen.now c.loop-position.seen (c.loop-position.invariant.on t)
    (over_is first c.geometry-position-end.result.blocks c.loop-position.position (ap (λ x. x.blocks) sound.geometry) (ap (λ x. x.blocks) c.geometry-position-end.ensures) c.loop-position-test.false)

pub returns-clause-looks : goal.returns-clause-looks
returns-clause-looks g c = looks_as g.K.Blocks.told (g.K.Blocks.view c.args.disk.now) (g.K.Blocks.view c.loop-position.disk) tt _ c.loop-position.invariant.looks
