use Rattle.std.proofs.Common.{sym, ◌∙◌, ap, None, Ok, Err}
use Rattle.chain_reading.proofs.Common.{are_held, looks_as, looks_refused, then_looks, may_again, cluster_of, part_cluster, next_blocks, IsPartOfRoot}
use Rattle.chain_reading.proofs.SeenLaws.{no_part, seen_part, unfilled, unheld, if_some, if_none}
use Rattle.chain_reading.proofs.looking.look_at_part.Goals as goal

pub part_at-requires-clause-unspent : goal.part_at-requires-clause-unspent
part_at-requires-clause-unspent g c = c.requires.unspent

pub part_at-requires-clause-valid : goal.part_at-requires-clause-valid
part_at-requires-clause-valid g c = c.requires.valid

pub part_at-requires-clause-may : goal.part_at-requires-clause-may
part_at-requires-clause-may g c = c.requires.may

pub returns-in-Ok-None-clause-seen : goal.returns-in-Ok-None-clause-seen
returns-in-Ok-None-clause-seen g c = λ t. no_part (g.K.Blocks.view c.args.disk.now).world c.args.is_first c.args.block (if_none _ c.in-Ok-None.field-0 c.in-Ok-None.field-0-is (c.in-Ok-None.ensures.none t))

pub returns-in-Ok-None-clause-looks : goal.returns-in-Ok-None-clause-looks
returns-in-Ok-None-clause-looks g c = looks_as g.K.Blocks.told (g.K.Blocks.view c.args.disk.now) (g.K.Blocks.view c.part_at.new.disk) _ None c.in-Ok-None.ensures.looks

pub returns-in-Err-clause-only : goal.returns-in-Err-clause-only
returns-in-Err-clause-only g c = c.in-Err.ensures.only

pub returns-in-Err-clause-looks : goal.returns-in-Err-clause-looks
returns-in-Err-clause-looks g c = looks_refused g.K.Blocks.told (g.K.Blocks.view c.args.disk.now) (g.K.Blocks.view c.part_at.new.disk) c.in-Err.refusal c.in-Err.ensures.looks

pub returns-then-not-is_filled-clause-seen : goal.returns-then-not-is_filled-clause-seen
returns-then-not-is_filled-clause-seen g c = λ t.
    let w = (g.K.Blocks.view c.args.disk.now).world in
    let is = if_some (IsPartOfRoot w c.args.block) c.in-Ok-Some.field-0 c.in-Ok-Some.part c.in-Ok-Some.field-0-is (c.in-Ok-Some.ensures.part t) in
    unfilled w c.args.is_first c.args.block c.in-Ok-Some.part is (sym c.if-not-is_filled.true ∙ c.is_filled.ensures.filled)

pub returns-then-not-is_filled-clause-looks : goal.returns-then-not-is_filled-clause-looks
returns-then-not-is_filled-clause-looks g c = looks_as g.K.Blocks.told (g.K.Blocks.view c.args.disk.now) (g.K.Blocks.view c.part_at.new.disk) _ None c.in-Ok-Some.ensures.looks

pub is_held-requires-clause-unspent : goal.is_held-requires-clause-unspent
is_held-requires-clause-unspent g c = c.in-Ok-Some.ensures.looks.unspent.0

pub is_held-requires-clause-valid : goal.is_held-requires-clause-valid
is_held-requires-clause-valid g c = λ t. (c.in-Ok-Some.ensures.looks.looked t).0.valid

pub is_held-requires-clause-may : goal.is_held-requires-clause-may
is_held-requires-clause-may g c = λ t.
    may_again c.args.client.now (g.K.Blocks.view c.args.disk.now) (g.K.Blocks.view c.part_at.new.disk) c.args.block (c.in-Ok-Some.ensures.looks.looked t).0 c.in-Ok-Some.ensures.looks.stays.0 (c.requires.valid t) (c.requires.may t)

pub is_held-requires-clause-counted : goal.is_held-requires-clause-counted
is_held-requires-clause-counted g c = c.count_of.ensures

pub returns-in-Ok-true-clause-seen : goal.returns-in-Ok-true-clause-seen
returns-in-Ok-true-clause-seen g c = λ t.
    let w = (g.K.Blocks.view c.args.disk.now).world in
    let part = c.in-Ok-Some.part in
    let names = next_blocks (cluster_of (part_cluster part.cluster)).next in
    let is = if_some (IsPartOfRoot w c.args.block) c.in-Ok-Some.field-0 part c.in-Ok-Some.field-0-is (c.in-Ok-Some.ensures.part t) in (
      seen_part w c.args.is_first c.args.block part is c.is_filled.ensures.fits (sym c.if-not-is_filled.false ∙ c.is_filled.ensures.filled)
          (sym c.in-Ok-true.field-0-test ∙ (c.in-Ok-true.ensures.held t ∙ ap (λ u. are_held u c.args.block names) (c.in-Ok-Some.ensures.looks.looked t).0.world)),
      (c.in-Ok-true.ensures.looks.looked t).0.ways c.args.client.now.session c.args.block (c.in-Ok-Some.ensures.held t),
    )

pub returns-in-Ok-true-clause-looks : goal.returns-in-Ok-true-clause-looks
returns-in-Ok-true-clause-looks g c =
    let told = g.K.Blocks.told in
    let old = g.K.Blocks.view c.args.disk.now in
    let mid = g.K.Blocks.view c.part_at.new.disk in
    let new = g.K.Blocks.view c.is_held.new.disk in
    then_looks told old mid new c.in-Ok-Some.field-0 (Ok _) c.in-Ok-Some.ensures.looks (looks_as told mid new c.in-Ok-true.field-0 _ c.in-Ok-true.ensures.looks)

pub returns-in-Ok-false-clause-seen : goal.returns-in-Ok-false-clause-seen
returns-in-Ok-false-clause-seen g c = λ t.
    let w = (g.K.Blocks.view c.args.disk.now).world in
    let part = c.in-Ok-Some.part in
    let names = next_blocks (cluster_of (part_cluster part.cluster)).next in
    let is = if_some (IsPartOfRoot w c.args.block) c.in-Ok-Some.field-0 part c.in-Ok-Some.field-0-is (c.in-Ok-Some.ensures.part t) in
    unheld w c.args.is_first c.args.block part is
    (sym c.in-Ok-false.field-0-test ∙ (c.in-Ok-false.ensures.held t ∙ ap (λ u. are_held u c.args.block names) (c.in-Ok-Some.ensures.looks.looked t).0.world))

pub returns-in-Ok-false-clause-looks : goal.returns-in-Ok-false-clause-looks
returns-in-Ok-false-clause-looks g c =
    let told = g.K.Blocks.told in
    let old = g.K.Blocks.view c.args.disk.now in
    let mid = g.K.Blocks.view c.part_at.new.disk in
    let new = g.K.Blocks.view c.is_held.new.disk in
    then_looks told old mid new c.in-Ok-Some.field-0 (Ok _) c.in-Ok-Some.ensures.looks (looks_as told mid new c.in-Ok-false.field-0 _ c.in-Ok-false.ensures.looks)

pub returns-in-Err-is_held-clause-only : goal.returns-in-Err-is_held-clause-only
returns-in-Err-is_held-clause-only g c = c.in-Err-is_held.ensures.only

pub returns-in-Err-is_held-clause-looks : goal.returns-in-Err-is_held-clause-looks
returns-in-Err-is_held-clause-looks g c =
    let told = g.K.Blocks.told in
    let old = g.K.Blocks.view c.args.disk.now in
    let mid = g.K.Blocks.view c.part_at.new.disk in
    let new = g.K.Blocks.view c.is_held.new.disk in
    then_looks told old mid new c.in-Ok-Some.field-0 (Err c.in-Err-is_held.refusal) c.in-Ok-Some.ensures.looks (looks_refused told mid new c.in-Err-is_held.refusal c.in-Err-is_held.ensures.looks)
