use Rattle.std.proofs.Common.{false, sym, ◌∙◌, ap, subst, Ok, Err}
use Rattle.chain_reading.proofs.Common.{are_distinct, entry_names, HoldsWrite, state_of, no_look, then_looks, looks_as, looks_refused, looks_but_refuses, cluster_of, dir_cluster, entries_in, AreFirstDistinct, placed_names}
use Rattle.chain_reading.proofs.NameLaws.{distinct_passes, distinct_stops}
use Rattle.chain_reading.proofs.LoopLaws.{over_is}
use Rattle.chain_reading.proofs.PageLaws.{page_there, page_again, pages_at, left_first, left_below, left_on, left_ends, left_stops}
use Rattle.chain_reading.proofs.comparing.are_names_distinct.Goals as goal

pub loop-position-init : goal.loop-position-init
loop-position-init g c =
    let first = g.K.Blocks.view c.args.disk.now in
    record {
      looks = no_look g.K.Blocks.told first c.requires.unspent (λ t. g.met.K.Blocks.sound c.args.disk.now t c.requires.unspent) c.requires.valid;
      left = λ t ls ps pages. left_first c.args.client.now first c.args.client.now.root are_distinct ls ps pages;
    }

pub read_page-requires-clause-unspent : goal.read_page-requires-clause-unspent
read_page-requires-clause-unspent g c = c.loop-position.invariant.looks.unspent.0

pub read_page-requires-clause-valid : goal.read_page-requires-clause-valid
read_page-requires-clause-valid g c = λ t. (c.loop-position.invariant.looks.looked t).0.valid

pub read_page-requires-clause-may : goal.read_page-requires-clause-may
read_page-requires-clause-may g c = λ t.
    let all = c.requires.pages t in
    (c.loop-position.invariant.left t all.0 all.1 all.2).ahead.ahead.may

pub read_page-requires-clause-there : goal.read_page-requires-clause-there
read_page-requires-clause-there g c = λ t.
    let all = c.requires.pages t in
    let left = c.loop-position.invariant.left t all.0 all.1 all.2 in
    page_there c.args.client.now (g.K.Blocks.view c.loop-position.disk) c.loop-position.block left.chain left.entries left.ahead

pub returns-in-Err-clause-only : goal.returns-in-Err-clause-only
returns-in-Err-clause-only g c = c.in-Err.ensures.only

pub returns-in-Err-clause-looks : goal.returns-in-Err-clause-looks
returns-in-Err-clause-looks g c =
    let told = g.K.Blocks.told in
    let first = g.K.Blocks.view c.args.disk.now in
    let cur = g.K.Blocks.view c.loop-position.disk in
    let mid = g.K.Blocks.view c.read_page.new.disk in
    then_looks told first cur mid tt (Err c.in-Err.refusal) c.loop-position.invariant.looks (looks_refused told cur mid c.in-Err.refusal c.in-Err.ensures.looks)

pub is_page_distinct-requires-clause-unspent : goal.is_page_distinct-requires-clause-unspent
is_page_distinct-requires-clause-unspent g c = c.in-Ok.ensures.looks.unspent.0

pub is_page_distinct-requires-clause-valid : goal.is_page_distinct-requires-clause-valid
is_page_distinct-requires-clause-valid g c = λ t. (c.in-Ok.ensures.looks.looked t).0.valid

pub is_page_distinct-requires-clause-pages : goal.is_page_distinct-requires-clause-pages
is_page_distinct-requires-clause-pages g c = λ t.
    let cur = g.K.Blocks.view c.loop-position.disk in
    let mid = g.K.Blocks.view c.read_page.new.disk in
    let all = c.requires.pages t in
    let left = c.loop-position.invariant.left t all.0 all.1 all.2 in
    let looks = c.in-Ok.ensures.looks in
    (left.chain, left.entries, pages_at c.args.client.now cur mid c.loop-position.block left.chain left.entries c.in-Ok.page (looks.looked t).0 looks.stays.0 (c.loop-position.invariant.looks.looked t).0.valid left.ahead (c.in-Ok.ensures.page t))

pub is_page_distinct-requires-clause-read : goal.is_page_distinct-requires-clause-read
is_page_distinct-requires-clause-read g c = λ t.
    page_again (g.K.Blocks.view c.loop-position.disk) (g.K.Blocks.view c.read_page.new.disk) c.loop-position.block c.in-Ok.page (c.in-Ok.ensures.looks.looked t).0 (c.in-Ok.ensures.page t)

pub is_page_distinct-requires-clause-held : goal.is_page_distinct-requires-clause-held
is_page_distinct-requires-clause-held g c = λ t.
    subst (HoldsWrite (state_of (g.K.Blocks.view c.read_page.new.disk)) c.args.client.now.session) (sym (c.in-Ok.ensures.page t).block) (c.in-Ok.ensures.held t)

pub returns-in-Ok-false-clause-distinct : goal.returns-in-Ok-false-clause-distinct
returns-in-Ok-false-clause-distinct g c = λ t ls ps pages.
    let first = g.K.Blocks.view c.args.disk.now in
    let cur = g.K.Blocks.view c.loop-position.disk in
    let mid = g.K.Blocks.view c.read_page.new.disk in
    let inv = c.loop-position.invariant in
    let left = inv.left t ls ps pages in
    let page = c.in-Ok.page in
    let read = c.in-Ok.ensures.page t in
    let looks = c.in-Ok.ensures.looks in
    let es = entry_names (entries_in page.cluster) in
    sym (left_stops c.args.client.now first cur c.loop-position.position c.loop-position.block are_distinct (placed_names ps) left (cluster_of (dir_cluster page.cluster)) (entries_in page.cluster) read.read.says read.entries false
    (distinct_stops es (placed_names left.entries) (subst (AreFirstDistinct es (placed_names left.entries)) c.in-Ok-false.field-0-test (c.in-Ok-false.ensures.distinct t left.chain left.entries
    (pages_at c.args.client.now cur mid c.loop-position.block left.chain left.entries page (looks.looked t).0 looks.stays.0 (inv.looks.looked t).0.valid left.ahead read)))))

pub returns-in-Ok-false-clause-looks : goal.returns-in-Ok-false-clause-looks
returns-in-Ok-false-clause-looks g c =
    let told = g.K.Blocks.told in
    let first = g.K.Blocks.view c.args.disk.now in
    let cur = g.K.Blocks.view c.loop-position.disk in
    let mid = g.K.Blocks.view c.read_page.new.disk in
    let new = g.K.Blocks.view c.is_page_distinct.new.disk in
    then_looks told first cur new tt (Ok _) c.loop-position.invariant.looks (then_looks told cur mid new c.in-Ok.page (Ok _) c.in-Ok.ensures.looks (looks_as told mid new c.in-Ok-false.field-0 _ c.in-Ok-false.ensures.looks))

pub returns-in-Err-is_page_distinct-clause-only : goal.returns-in-Err-is_page_distinct-clause-only
returns-in-Err-is_page_distinct-clause-only g c = c.in-Err-is_page_distinct.ensures.only

pub returns-in-Err-is_page_distinct-clause-looks :
    goal.returns-in-Err-is_page_distinct-clause-looks
returns-in-Err-is_page_distinct-clause-looks g c =
    let told = g.K.Blocks.told in
    let first = g.K.Blocks.view c.args.disk.now in
    let cur = g.K.Blocks.view c.loop-position.disk in
    let mid = g.K.Blocks.view c.read_page.new.disk in
    let new = g.K.Blocks.view c.is_page_distinct.new.disk in
    then_looks told first cur new tt (Err _) c.loop-position.invariant.looks (then_looks told cur mid new c.in-Ok.page (Err _) c.in-Ok.ensures.looks c.in-Err-is_page_distinct.ensures.looks)

pub returns-in-None-clause-distinct : goal.returns-in-None-clause-distinct
returns-in-None-clause-distinct g c = λ t ls ps pages.
    let first = g.K.Blocks.view c.args.disk.now in
    let cur = g.K.Blocks.view c.loop-position.disk in
    let mid = g.K.Blocks.view c.read_page.new.disk in
    let inv = c.loop-position.invariant in
    let left = inv.left t ls ps pages in
    let page = c.in-Ok.page in
    let read = c.in-Ok.ensures.page t in
    let looks = c.in-Ok.ensures.looks in
    let es = entry_names (entries_in page.cluster) in
    sym (left_ends c.args.client.now first cur c.loop-position.position c.loop-position.block are_distinct (placed_names ps) left (cluster_of (dir_cluster page.cluster)) (entries_in page.cluster) read.read.says read.entries
    (distinct_passes es (placed_names left.entries) (subst (AreFirstDistinct es (placed_names left.entries)) c.in-Ok-true.field-0-test (c.in-Ok-true.ensures.distinct t left.chain left.entries
    (pages_at c.args.client.now cur mid c.loop-position.block left.chain left.entries page (looks.looked t).0 looks.stays.0 (inv.looks.looked t).0.valid left.ahead read))))
    (sym (c.next.ensures.value ∙ ap (λ k. (cluster_of k).next) c.cluster.ensures) ∙ c.in-None.is))

pub returns-in-None-clause-looks : goal.returns-in-None-clause-looks
returns-in-None-clause-looks g c =
    let told = g.K.Blocks.told in
    let first = g.K.Blocks.view c.args.disk.now in
    let cur = g.K.Blocks.view c.loop-position.disk in
    let mid = g.K.Blocks.view c.read_page.new.disk in
    let new = g.K.Blocks.view c.is_page_distinct.new.disk in
    then_looks told first cur new tt (Ok _) c.loop-position.invariant.looks (then_looks told cur mid new c.in-Ok.page (Ok _) c.in-Ok.ensures.looks (looks_as told mid new c.in-Ok-true.field-0 _ c.in-Ok-true.ensures.looks))

pub loop-position-preserved : goal.loop-position-preserved
loop-position-preserved g c =
    let told = g.K.Blocks.told in
    let first = g.K.Blocks.view c.args.disk.now in
    let cur = g.K.Blocks.view c.loop-position.disk in
    let mid = g.K.Blocks.view c.read_page.new.disk in
    let new = g.K.Blocks.view c.is_page_distinct.new.disk in
    let inv = c.loop-position.invariant in
    let page = c.in-Ok.page in
    let looks = c.in-Ok.ensures.looks in
    let es = entry_names (entries_in page.cluster) in
    let both = then_looks told cur mid new c.in-Ok.page (Ok tt) c.in-Ok.ensures.looks (looks_as told mid new c.in-Ok-true.field-0 tt c.in-Ok-true.ensures.looks) in
    record {
      looks = then_looks told first cur new tt (Ok tt) inv.looks both;
      left = λ t ls ps pages.
          let left = inv.left t ls ps pages in
          let read = c.in-Ok.ensures.page t in
          left_on c.args.client.now first cur c.loop-position.position c.loop-position.block are_distinct (placed_names ps) left (cluster_of (dir_cluster page.cluster)) (entries_in page.cluster) read.read.says read.entries
          (distinct_passes es (placed_names left.entries) (subst (AreFirstDistinct es (placed_names left.entries)) c.in-Ok-true.field-0-test (c.in-Ok-true.ensures.distinct t left.chain left.entries
          (pages_at c.args.client.now cur mid c.loop-position.block left.chain left.entries page (looks.looked t).0 looks.stays.0 (inv.looks.looked t).0.valid left.ahead read))))
          new c.in-Some.next (sym (c.next.ensures.value ∙ ap (λ k. (cluster_of k).next) c.cluster.ensures) ∙ c.in-Some.is)
          (both.looked t).0 both.stays.0 ((c.in-Ok-true.ensures.looks.looked t).0.ways c.args.client.now.session c.loop-position.block (c.in-Ok.ensures.held t));
    }

pub returns-clause-only : goal.returns-clause-only
returns-clause-only g c = λ t.
    let first = g.K.Blocks.view c.args.disk.now in
    let cur = g.K.Blocks.view c.loop-position.disk in
    let all = c.requires.pages t in
    let sound = g.met.K.Blocks.sound c.args.disk.now t c.requires.unspent in
    absurd (left_below c.args.client.now first cur c.loop-position.position c.loop-position.block _ _ (c.loop-position.invariant.left t all.0 all.1 all.2)
    (over_is first c.geometry-position-end.result.blocks c.loop-position.position (ap (λ x. x.blocks) sound.geometry) (ap (λ x. x.blocks) c.geometry-position-end.ensures) c.loop-position-test.false))

pub returns-clause-looks : goal.returns-clause-looks
returns-clause-looks g c = looks_but_refuses g.K.Blocks.told (g.K.Blocks.view c.args.disk.now) (g.K.Blocks.view c.loop-position.disk) tt _ (λ e. cc) c.loop-position.invariant.looks
