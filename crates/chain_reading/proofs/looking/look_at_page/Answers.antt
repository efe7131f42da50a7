use Rattle.std.proofs.Common.{sym, ◌∙◌, ap, None, Ok, Err}
use Rattle.chain_reading.proofs.Common.{are_held, looks_as, looks_refused, then_looks, may_again, blocks_in, IsPage}
use Rattle.chain_reading.proofs.SeenLaws.{no_page, seen_page, unseen_page, if_some, if_none}
use Rattle.chain_reading.proofs.looking.look_at_page.Goals as goal

pub page_at-requires-clause-unspent : goal.page_at-requires-clause-unspent
page_at-requires-clause-unspent g c = c.requires.unspent

pub page_at-requires-clause-valid : goal.page_at-requires-clause-valid
page_at-requires-clause-valid g c = c.requires.valid

pub page_at-requires-clause-may : goal.page_at-requires-clause-may
page_at-requires-clause-may g c = c.requires.may

pub returns-in-Ok-None-clause-seen : goal.returns-in-Ok-None-clause-seen
returns-in-Ok-None-clause-seen g c = λ t. no_page (g.K.Blocks.view c.args.disk.now).world c.args.block (if_none _ c.in-Ok-None.field-0 c.in-Ok-None.field-0-is (c.in-Ok-None.ensures.none t))

pub returns-in-Ok-None-clause-looks : goal.returns-in-Ok-None-clause-looks
returns-in-Ok-None-clause-looks g c = looks_as g.K.Blocks.told (g.K.Blocks.view c.args.disk.now) (g.K.Blocks.view c.page_at.new.disk) _ None c.in-Ok-None.ensures.looks

pub returns-in-Err-clause-only : goal.returns-in-Err-clause-only
returns-in-Err-clause-only g c = c.in-Err.ensures.only

pub returns-in-Err-clause-looks : goal.returns-in-Err-clause-looks
returns-in-Err-clause-looks g c = looks_refused g.K.Blocks.told (g.K.Blocks.view c.args.disk.now) (g.K.Blocks.view c.page_at.new.disk) c.in-Err.refusal c.in-Err.ensures.looks

pub is_held-requires-clause-unspent : goal.is_held-requires-clause-unspent
is_held-requires-clause-unspent g c = c.in-Ok-Some.ensures.looks.unspent.0

pub is_held-requires-clause-valid : goal.is_held-requires-clause-valid
is_held-requires-clause-valid g c = λ t. (c.in-Ok-Some.ensures.looks.looked t).0.valid

pub is_held-requires-clause-may : goal.is_held-requires-clause-may
is_held-requires-clause-may g c = λ t.
    may_again c.args.client.now (g.K.Blocks.view c.args.disk.now) (g.K.Blocks.view c.page_at.new.disk) c.args.block (c.in-Ok-Some.ensures.looks.looked t).0 c.in-Ok-Some.ensures.looks.stays.0 (c.requires.valid t) (c.requires.may t)

pub is_held-requires-clause-counted : goal.is_held-requires-clause-counted
is_held-requires-clause-counted g c = c.names_count.ensures

pub returns-in-Ok-true-clause-seen : goal.returns-in-Ok-true-clause-seen
returns-in-Ok-true-clause-seen g c = λ t.
    let w = (g.K.Blocks.view c.args.disk.now).world in
    let page = c.in-Ok-Some.page in
    let names = blocks_in page.cluster in
    let is = if_some (IsPage w c.args.block) c.in-Ok-Some.field-0 page c.in-Ok-Some.field-0-is (c.in-Ok-Some.ensures.page t) in (
      seen_page w c.args.block page is
          (sym c.in-Ok-true.field-0-test ∙ (c.in-Ok-true.ensures.held t ∙ ap (λ u. are_held u c.args.block names) (c.in-Ok-Some.ensures.looks.looked t).0.world)),
      (c.in-Ok-true.ensures.looks.looked t).0.ways c.args.client.now.session c.args.block (c.in-Ok-Some.ensures.held t),
    )

pub returns-in-Ok-true-clause-looks : goal.returns-in-Ok-true-clause-looks
returns-in-Ok-true-clause-looks g c =
    let told = g.K.Blocks.told in
    let old = g.K.Blocks.view c.args.disk.now in
    let mid = g.K.Blocks.view c.page_at.new.disk in
    let new = g.K.Blocks.view c.is_held.new.disk in
    then_looks told old mid new c.in-Ok-Some.field-0 (Ok _) c.in-Ok-Some.ensures.looks (looks_as told mid new c.in-Ok-true.field-0 _ c.in-Ok-true.ensures.looks)

pub returns-in-Ok-false-clause-seen : goal.returns-in-Ok-false-clause-seen
returns-in-Ok-false-clause-seen g c = λ t.
    let w = (g.K.Blocks.view c.args.disk.now).world in
    let page = c.in-Ok-Some.page in
    let names = blocks_in page.cluster in
    let is = if_some (IsPage w c.args.block) c.in-Ok-Some.field-0 page c.in-Ok-Some.field-0-is (c.in-Ok-Some.ensures.page t) in
    unseen_page w c.args.block page is
    (sym c.in-Ok-false.field-0-test ∙ (c.in-Ok-false.ensures.held t ∙ ap (λ u. are_held u c.args.block names) (c.in-Ok-Some.ensures.looks.looked t).0.world))

pub returns-in-Ok-false-clause-looks : goal.returns-in-Ok-false-clause-looks
returns-in-Ok-false-clause-looks g c =
    let told = g.K.Blocks.told in
    let old = g.K.Blocks.view c.args.disk.now in
    let mid = g.K.Blocks.view c.page_at.new.disk in
    let new = g.K.Blocks.view c.is_held.new.disk in
    then_looks told old mid new c.in-Ok-Some.field-0 (Ok _) c.in-Ok-Some.ensures.looks (looks_as told mid new c.in-Ok-false.field-0 _ c.in-Ok-false.ensures.looks)

pub returns-in-Err-is_held-clause-only : goal.returns-in-Err-is_held-clause-only
returns-in-Err-is_held-clause-only g c = c.in-Err-is_held.ensures.only

pub returns-in-Err-is_held-clause-looks : goal.returns-in-Err-is_held-clause-looks
returns-in-Err-is_held-clause-looks g c =
    let told = g.K.Blocks.told in
    let old = g.K.Blocks.view c.args.disk.now in
    let mid = g.K.Blocks.view c.page_at.new.disk in
    let new = g.K.Blocks.view c.is_held.new.disk in
    then_looks told old mid new c.in-Ok-Some.field-0 (Err c.in-Err-is_held.refusal) c.in-Ok-Some.ensures.looks (looks_refused told mid new c.in-Err-is_held.refusal c.in-Err-is_held.ensures.looks)
