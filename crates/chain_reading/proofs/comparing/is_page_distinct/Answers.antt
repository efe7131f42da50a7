use Rattle.std.proofs.Common.{sym, ◌∙◌, ap}
use Rattle.chain_reading.proofs.Common.{entry_names, no_look, looks_as, cluster_of, dir_cluster, entries_in}
use Rattle.chain_reading.proofs.NameLaws.{first_none, first_distinct, first_twice, first_alone}
use Rattle.chain_reading.proofs.PageLaws.{first_page, pages_on, none_behind}
use Rattle.chain_reading.proofs.comparing.is_page_distinct.Goals as goal

pub returns-then-count-eq0-clause-distinct : goal.returns-then-count-eq0-clause-distinct
returns-then-count-eq0-clause-distinct g c = λ t ls ps pages.
    let v = g.K.Blocks.view c.args.disk.now in
    let page = c.args.page.now in
    let read = c.requires.read t in
    let first = first_page c.args.client.now v page.block ls ps pages (cluster_of (dir_cluster page.cluster)) (entries_in page.cluster) read.read.says read.entries in
    first_none (entries_in page.cluster) _ _ first.names (sym c.count.ensures.value ∙ c.if-count-eq0.true)

pub returns-then-count-eq0-clause-looks : goal.returns-then-count-eq0-clause-looks
returns-then-count-eq0-clause-looks g c =
    let v = g.K.Blocks.view c.args.disk.now in
    looks_as g.K.Blocks.told v v tt _ (no_look g.K.Blocks.told v c.requires.unspent (λ t. g.met.K.Blocks.sound c.args.disk.now t c.requires.unspent) c.requires.valid)

pub returns-then-not-has_distinct_names-clause-distinct :
    goal.returns-then-not-has_distinct_names-clause-distinct
returns-then-not-has_distinct_names-clause-distinct g c = λ t ls ps pages.
    let v = g.K.Blocks.view c.args.disk.now in
    let page = c.args.page.now in
    let read = c.requires.read t in
    let first = first_page c.args.client.now v page.block ls ps pages (cluster_of (dir_cluster page.cluster)) (entries_in page.cluster) read.read.says read.entries in
    first_twice (entry_names (entries_in page.cluster)) _ _ first.names (sym c.has_distinct_names.ensures ∙ c.if-not-has_distinct_names.true)

pub returns-then-not-has_distinct_names-clause-looks :
    goal.returns-then-not-has_distinct_names-clause-looks
returns-then-not-has_distinct_names-clause-looks g c =
    let v = g.K.Blocks.view c.args.disk.now in
    looks_as g.K.Blocks.told v v tt _ (no_look g.K.Blocks.told v c.requires.unspent (λ t. g.met.K.Blocks.sound c.args.disk.now t c.requires.unspent) c.requires.valid)

pub is_apart_from-requires-clause-unspent : goal.is_apart_from-requires-clause-unspent
is_apart_from-requires-clause-unspent g c = c.requires.unspent

pub is_apart_from-requires-clause-valid : goal.is_apart_from-requires-clause-valid
is_apart_from-requires-clause-valid g c = c.requires.valid

pub is_apart_from-requires-clause-pages : goal.is_apart_from-requires-clause-pages
is_apart_from-requires-clause-pages g c = λ t.
    let v = g.K.Blocks.view c.args.disk.now in
    let page = c.args.page.now in
    let read = c.requires.read t in
    let all = c.requires.pages t in
    let cl = cluster_of (dir_cluster page.cluster) in
    let es = entries_in page.cluster in
    let none = no_look g.K.Blocks.told v c.requires.unspent (λ u. g.met.K.Blocks.sound c.args.disk.now u c.requires.unspent) c.requires.valid in
    let first = first_page c.args.client.now v page.block all.0 all.1 all.2 cl es read.read.says read.entries in (
      first.later,
      first.entries,
      pages_on c.args.client.now v page.block all.0 all.1 all.2 cl es read.read.says read.entries first v c.in-Some.next
          (sym (c.next.ensures.value ∙ ap (λ k. (cluster_of k).next) c.cluster.ensures) ∙ c.in-Some.is) (none.looked t).0 none.stays.0 (c.requires.held t),
    )

pub returns-in-Some-clause-distinct : goal.returns-in-Some-clause-distinct
returns-in-Some-clause-distinct g c = λ t ls ps pages.
    let v = g.K.Blocks.view c.args.disk.now in
    let page = c.args.page.now in
    let read = c.requires.read t in
    let cl = cluster_of (dir_cluster page.cluster) in
    let es = entries_in page.cluster in
    let none = no_look g.K.Blocks.told v c.requires.unspent (λ u. g.met.K.Blocks.sound c.args.disk.now u c.requires.unspent) c.requires.valid in
    let first = first_page c.args.client.now v page.block ls ps pages cl es read.read.says read.entries in
    first_distinct (entry_names es) _ _ c.is_apart_from.result first.names (sym c.has_distinct_names.ensures ∙ c.if-not-has_distinct_names.false)
    (c.is_apart_from.ensures.apart t first.later first.entries (pages_on c.args.client.now v page.block ls ps pages cl es read.read.says read.entries first v c.in-Some.next
    (sym (c.next.ensures.value ∙ ap (λ k. (cluster_of k).next) c.cluster.ensures) ∙ c.in-Some.is) (none.looked t).0 none.stays.0 (c.requires.held t)))

pub returns-in-Some-clause-only : goal.returns-in-Some-clause-only
returns-in-Some-clause-only g c = c.is_apart_from.ensures.only

pub returns-in-Some-clause-looks : goal.returns-in-Some-clause-looks
returns-in-Some-clause-looks g c = c.is_apart_from.ensures.looks

pub returns-in-None-clause-distinct : goal.returns-in-None-clause-distinct
returns-in-None-clause-distinct g c = λ t ls ps pages.
    let v = g.K.Blocks.view c.args.disk.now in
    let page = c.args.page.now in
    let read = c.requires.read t in
    let cl = cluster_of (dir_cluster page.cluster) in
    let es = entries_in page.cluster in
    let first = first_page c.args.client.now v page.block ls ps pages cl es read.read.says read.entries in
    first_alone (entry_names es) _ _ first.names
    (none_behind c.args.client.now v page.block ls ps pages cl es read.read.says read.entries first (sym (c.next.ensures.value ∙ ap (λ k. (cluster_of k).next) c.cluster.ensures) ∙ c.in-None.is))
    (sym c.has_distinct_names.ensures ∙ c.if-not-has_distinct_names.false)

pub returns-in-None-clause-looks : goal.returns-in-None-clause-looks
returns-in-None-clause-looks g c =
    let v = g.K.Blocks.view c.args.disk.now in
    looks_as g.K.Blocks.told v v tt _ (no_look g.K.Blocks.told v c.requires.unspent (λ t. g.met.K.Blocks.sound c.args.disk.now t c.requires.unspent) c.requires.valid)
