use Rattle.std.proofs.Common.{sym, ◌∙◌, ap, Ok, Err}
use Rattle.chain_reading.proofs.Common.{entry_names, no_look, then_looks, looks_as, looks_refused, looks_but_refuses, cluster_of, dir_cluster, entries_in, are_apart_from}
use Rattle.chain_reading.proofs.NameLaws.{apart_passes, apart_stops, apart_from_none}
use Rattle.chain_reading.proofs.LoopLaws.{over_is}
use Rattle.chain_reading.proofs.PageLaws.{page_there, left_first, left_below, left_on, left_ends, left_stops}
use Rattle.chain_reading.proofs.comparing.is_apart_from.Goals as goal

pub loop-position-init : goal.loop-position-init
loop-position-init g c =
    let first = g.K.Blocks.view c.args.disk.now in
    record {
      looks = no_look g.K.Blocks.told first c.requires.unspent (λ t. g.met.K.Blocks.sound c.args.disk.now t c.requires.unspent) c.requires.valid;
      left = λ t ls ps pages. left_first c.args.client.now first c.args.first (are_apart_from (entry_names (entries_in c.args.page.now))) ls ps pages;
    }

pub read_page-requires-clause-unspent : goal.read_page-requires-clause-unspent
read_page-requires-clause-unspent g c = c.loop-position.invariant.looks.unspent.0

pub read_page-requires-clause-valid : goal.read_page-requires-clause-valid
read_page-requires-clause-valid g c = λ t. (c.loop-position.invariant.looks.looked t).0.valid

pub read_page-requires-clause-may : goal.read_page-requires-clause-may
read_page-requires-clause-may g c = λ t.
    let all = c.requires.pages t in
    (c.loop-position.invariant.left t all.0 all.1 all.2).ahead.ahead.may

pub read_page-requires-clause-there : goal.read_page-requires-clause-there
read_page-requires-clause-there g c = λ t.
    let all = c.requires.pages t in
    let left = c.loop-position.invariant.left t all.0 all.1 all.2 in
    page_there c.args.client.now (g.K.Blocks.view c.loop-position.disk) c.loop-position.block left.chain left.entries left.ahead

pub returns-in-Err-clause-only : goal.returns-in-Err-clause-only
returns-in-Err-clause-only g c = c.in-Err.ensures.only

pub returns-in-Err-clause-looks : goal.returns-in-Err-clause-looks
returns-in-Err-clause-looks g c =
    let told = g.K.Blocks.told in
    let first = g.K.Blocks.view c.args.disk.now in
    let cur = g.K.Blocks.view c.loop-position.disk in
    let new = g.K.Blocks.view c.read_page.new.disk in
    then_looks told first cur new tt (Err c.in-Err.refusal) c.loop-position.invariant.looks (looks_refused told cur new c.in-Err.refusal c.in-Err.ensures.looks)

pub returns-then-shares_a_name-clause-apart : goal.returns-then-shares_a_name-clause-apart
returns-then-shares_a_name-clause-apart g c = λ t ls ps pages.
    let first = g.K.Blocks.view c.args.disk.now in
    let cur = g.K.Blocks.view c.loop-position.disk in
    let read = c.in-Ok.ensures.page t in
    let es = entries_in c.in-Ok.later.cluster in
    let names = entry_names (entries_in c.args.page.now) in
    sym (left_stops c.args.client.now first cur c.loop-position.position c.loop-position.block (are_apart_from names) _ (c.loop-position.invariant.left t ls ps pages) (cluster_of (dir_cluster c.in-Ok.later.cluster)) es read.read.says read.entries
    _ (λ ns parts. apart_stops names (entry_names es) (sym c.shares_a_name.ensures ∙ c.if-shares_a_name.true) ns))

pub returns-then-shares_a_name-clause-looks : goal.returns-then-shares_a_name-clause-looks
returns-then-shares_a_name-clause-looks g c =
    let told = g.K.Blocks.told in
    let first = g.K.Blocks.view c.args.disk.now in
    let cur = g.K.Blocks.view c.loop-position.disk in
    let new = g.K.Blocks.view c.read_page.new.disk in
    then_looks told first cur new tt (Ok _) c.loop-position.invariant.looks (looks_as told cur new c.in-Ok.later _ c.in-Ok.ensures.looks)

pub returns-in-None-clause-apart : goal.returns-in-None-clause-apart
returns-in-None-clause-apart g c = λ t ls ps pages.
    let first = g.K.Blocks.view c.args.disk.now in
    let cur = g.K.Blocks.view c.loop-position.disk in
    let read = c.in-Ok.ensures.page t in
    let es = entries_in c.in-Ok.later.cluster in
    let names = entry_names (entries_in c.args.page.now) in
    sym (left_ends c.args.client.now first cur c.loop-position.position c.loop-position.block (are_apart_from names) _ (c.loop-position.invariant.left t ls ps pages) (cluster_of (dir_cluster c.in-Ok.later.cluster)) es read.read.says read.entries
    (λ ns parts. apart_passes names (entry_names es) (sym c.shares_a_name.ensures ∙ c.if-shares_a_name.false) ns) (sym (c.next.ensures.value ∙ ap (λ k. (cluster_of k).next) c.cluster.ensures) ∙ c.in-None.is)
    ∙ apart_from_none names)

pub returns-in-None-clause-looks : goal.returns-in-None-clause-looks
returns-in-None-clause-looks g c =
    let told = g.K.Blocks.told in
    let first = g.K.Blocks.view c.args.disk.now in
    let cur = g.K.Blocks.view c.loop-position.disk in
    let new = g.K.Blocks.view c.read_page.new.disk in
    then_looks told first cur new tt (Ok _) c.loop-position.invariant.looks (looks_as told cur new c.in-Ok.later _ c.in-Ok.ensures.looks)

pub loop-position-preserved : goal.loop-position-preserved
loop-position-preserved g c =
    let told = g.K.Blocks.told in
    let first = g.K.Blocks.view c.args.disk.now in
    let cur = g.K.Blocks.view c.loop-position.disk in
    let new = g.K.Blocks.view c.read_page.new.disk in
    let inv = c.loop-position.invariant in
    let es = entries_in c.in-Ok.later.cluster in
    let names = entry_names (entries_in c.args.page.now) in
    record {
      looks = then_looks told first cur new tt (Ok tt) inv.looks (looks_as told cur new c.in-Ok.later tt c.in-Ok.ensures.looks);
      left = λ t ls ps pages.
          let read = c.in-Ok.ensures.page t in
          left_on c.args.client.now first cur c.loop-position.position c.loop-position.block (are_apart_from names) _ (inv.left t ls ps pages) (cluster_of (dir_cluster c.in-Ok.later.cluster)) es read.read.says read.entries
          (λ ns parts. apart_passes names (entry_names es) (sym c.shares_a_name.ensures ∙ c.if-shares_a_name.false) ns) new c.in-Some.next (sym (c.next.ensures.value ∙ ap (λ k. (cluster_of k).next) c.cluster.ensures) ∙ c.in-Some.is)
          (c.in-Ok.ensures.looks.looked t).0 c.in-Ok.ensures.looks.stays.0 (c.in-Ok.ensures.held t);
    }

pub returns-clause-only : goal.returns-clause-only
returns-clause-only g c = λ t.
    let first = g.K.Blocks.view c.args.disk.now in
    let cur = g.K.Blocks.view c.loop-position.disk in
    let all = c.requires.pages t in
    let sound = g.met.K.Blocks.sound c.args.disk.now t c.requires.unspent in
    absurd (left_below c.args.client.now first cur c.loop-position.position c.loop-position.block _ _ (c.loop-position.invariant.left t all.0 all.1 all.2)
    (over_is first c.geometry-position-end.result.blocks c.loop-position.position (ap (λ x. x.blocks) sound.geometry) (ap (λ x. x.blocks) c.geometry-position-end.ensures) c.loop-position-test.false))

pub returns-clause-looks : goal.returns-clause-looks
returns-clause-looks g c = looks_but_refuses g.K.Blocks.told (g.K.Blocks.view c.args.disk.now) (g.K.Blocks.view c.loop-position.disk) tt _ (λ e. cc) c.loop-position.invariant.looks
