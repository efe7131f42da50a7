use Rattle.std.proofs.Common.{◌≡◌, ◌+◌, ℕ, refl, sym, ◌∙◌, ap, subst, arith, Ok, Err, Option, Some, None}
use Rattle.chain_reading.proofs.Common.{position_from, block_len, has_name, cluster_of, dir_cluster, entries_in, no_look, then_looks, looks_as, looks_refused, Taken, Free, IsPage, IsRoomiest}
use Rattle.chain_reading.proofs.WalkLaws.{link_of}
use Rattle.chain_reading.proofs.ListLaws.{page_there, own_entries}
use Rattle.chain_reading.proofs.SearchLaws.{IsSearched, search_starts, search_on, search_ends, search_finds, place_within}
use Rattle.chain_reading.proofs.finding.search.Goals as goal

is_none_of : (o : Option ℕ) → ((x : ℕ) → o ≡ Some x → ⊥) → o ≡ None
is_none_of None h = refl
is_none_of (Some x) h = absurd (h x refl)

pub loop-turn-init : goal.loop-turn-init
loop-turn-init g c =
    let first = g.K.Blocks.view c.args.disk.now in
    record {
      looks = no_look g.K.Blocks.told first c.requires.unspent (λ t. g.met.K.Blocks.sound c.args.disk.now t c.requires.unspent) c.requires.valid;
      searched = λ t ls ps ahead. search_starts c.args.client.now first ls ps c.args.name.now ahead;
      few = omega arith;
    }

pub read_page-requires-clause-there : goal.read_page-requires-clause-there
read_page-requires-clause-there g c = λ t.
    let first = g.K.Blocks.view c.args.disk.now in
    let cur = g.K.Blocks.view c.loop-turn.disk in
    let inv = c.loop-turn.invariant in
    let all = c.requires.directory t in
    let searched = inv.searched t all.0 all.1 all.2 in
    page_there c.args.client.now cur (block_len first.world.geometry) all.0 all.1 searched.qs c.loop-turn.turn c.loop-turn.block searched.looking (ap (λ w. block_len w.geometry) (sym (inv.looks.looked t).0.world))

pub returns-in-Err-clause-looks : goal.returns-in-Err-clause-looks
returns-in-Err-clause-looks g c =
    let told = g.K.Blocks.told in
    let first = g.K.Blocks.view c.args.disk.now in
    let cur = g.K.Blocks.view c.loop-turn.disk in
    let new = g.K.Blocks.view c.read_page.new.disk in
    then_looks told first cur new tt (Err c.in-Err.refusal) c.loop-turn.invariant.looks (looks_refused told cur new c.in-Err.refusal c.in-Err.ensures.looks)

pub block-first-requires : goal.block-first-requires
block-first-requires g c =
    let es = entries_in c.in-Ok.page.cluster in
    place_within c.args.name.now es c.in-Some.position (sym (c.position.ensures ∙ ap (λ n. position_from (has_name n) 0 es) c.as_slice.ensures.value) ∙ c.in-Some.is)

pub returns-in-Some-clause-found : goal.returns-in-Some-clause-found
returns-in-Some-clause-found g c = λ t ls ps ahead.
    let first = g.K.Blocks.view c.args.disk.now in
    let cur = g.K.Blocks.view c.loop-turn.disk in
    let new = g.K.Blocks.view c.read_page.new.disk in
    let inv = c.loop-turn.invariant in
    let es = entries_in c.in-Ok.page.cluster in
    search_finds c.args.client.now first cur new ls ps c.loop-turn.turn c.loop-turn.block c.args.name.now c.loop-turn.count c.loop-turn.best c.in-Ok.page c.in-Some.position c.block-first.result (inv.searched t ls ps ahead) (inv.looks.looked t).0 (c.in-Ok.ensures.looks.looked t).0 c.in-Ok.ensures.looks.stays.0
    (c.in-Ok.ensures.page t) (c.in-Ok.ensures.held t) (sym (c.position.ensures ∙ ap (λ n. position_from (has_name n) 0 es) c.as_slice.ensures.value) ∙ c.in-Some.is) c.block-first.ensures

pub returns-in-Some-clause-within : goal.returns-in-Some-clause-within
returns-in-Some-clause-within g c =
    let es = entries_in c.in-Ok.page.cluster in
    place_within c.args.name.now es c.in-Some.position (sym (c.position.ensures ∙ ap (λ n. position_from (has_name n) 0 es) c.as_slice.ensures.value) ∙ c.in-Some.is)

pub returns-in-Some-clause-looks : goal.returns-in-Some-clause-looks
returns-in-Some-clause-looks g c =
    let told = g.K.Blocks.told in
    let first = g.K.Blocks.view c.args.disk.now in
    let cur = g.K.Blocks.view c.loop-turn.disk in
    let new = g.K.Blocks.view c.read_page.new.disk in
    let answer = Taken c.in-Ok.page c.in-Some.position c.block-first.result in
    then_looks told first cur new tt (Ok answer) c.loop-turn.invariant.looks (looks_as told cur new c.in-Ok.page answer c.in-Ok.ensures.looks)

pub returns-in-None-clause-found : goal.returns-in-None-clause-found
returns-in-None-clause-found g c = λ t ls ps ahead.
    let first = g.K.Blocks.view c.args.disk.now in
    let cur = g.K.Blocks.view c.loop-turn.disk in
    let inv = c.loop-turn.invariant in
    let page = c.in-Ok.page in
    let read = c.in-Ok.ensures.page t in
    let cl = cluster_of (dir_cluster page.cluster) in
    let es = entries_in page.cluster in
    let len = block_len first.world.geometry in
    let same = ap (λ w. block_len w.geometry) (sym (inv.looks.looked t).0.world) in
    let own = own_entries cur.world c.loop-turn.block len cl es same read.read.says read.entries in
    let new = g.K.Blocks.view c.read_page.new.disk in
    let found = search_ends c.args.client.now cur len ls ps c.loop-turn.turn c.loop-turn.block c.args.name.now c.loop-turn.count c.count-count.result c.loop-turn.best cl es (inv.searched t ls ps ahead) read.read.says own
    (sym (c.position.ensures ∙ ap (λ n. position_from (has_name n) 0 es) c.as_slice.ensures.value) ∙ is_none_of c.position.result c.in_default.not-Some) c.count-count.ensures.value
    page (ap (λ k. link_of k cl) read.block) (subst (λ k. IsPage cur.world k page) (sym read.block) read) new (inv.looks.looked t).0.valid (c.in-Ok.ensures.looks.looked t).0 c.in-Ok.ensures.looks.stays.0 (c.in-Ok.ensures.held t)
    (sym (c.next-next.ensures.value ∙ ap (λ k. (cluster_of k).next) c.cluster.ensures) ∙ c.in-None.is) in
    (found.0, found.1, subst (IsRoomiest c.args.client.now new ls) (sym c.better-page.ensures) found.2)

pub returns-in-None-clause-looks : goal.returns-in-None-clause-looks
returns-in-None-clause-looks g c =
    let told = g.K.Blocks.told in
    let first = g.K.Blocks.view c.args.disk.now in
    let cur = g.K.Blocks.view c.loop-turn.disk in
    let new = g.K.Blocks.view c.read_page.new.disk in
    let answer = Free c.better-page.result (c.loop-turn.count + c.count-count.result) in
    then_looks told first cur new tt (Ok answer) c.loop-turn.invariant.looks (looks_as told cur new c.in-Ok.page answer c.in-Ok.ensures.looks)

pub loop-turn-preserved : goal.loop-turn-preserved
loop-turn-preserved g c =
    let told = g.K.Blocks.told in
    let first = g.K.Blocks.view c.args.disk.now in
    let cur = g.K.Blocks.view c.loop-turn.disk in
    let new = g.K.Blocks.view c.read_page.new.disk in
    let inv = c.loop-turn.invariant in
    let page = c.in-Ok.page in
    let cl = cluster_of (dir_cluster page.cluster) in
    let es = entries_in page.cluster in
    let b = c.loop-turn.block in
    let len = block_len first.world.geometry in
    record {
      looks = then_looks told first cur new tt (Ok tt) inv.looks (looks_as told cur new page tt c.in-Ok.ensures.looks);
      searched = λ t ls ps ahead.
          let read = c.in-Ok.ensures.page t in
          let same = ap (λ w. block_len w.geometry) (sym (inv.looks.looked t).0.world) in
          let own = own_entries cur.world b len cl es same read.read.says read.entries in
          let on = search_on c.args.client.now cur len ls ps c.loop-turn.turn b c.args.name.now c.loop-turn.count c.count-count.result c.loop-turn.best cl es (inv.searched t ls ps ahead) read.read.says own
          (sym (c.position.ensures ∙ ap (λ n. position_from (has_name n) 0 es) c.as_slice.ensures.value) ∙ is_none_of c.position.result c.in_default.not-Some) c.count-count.ensures.value
          page (ap (λ k. link_of k cl) read.block) (subst (λ k. IsPage cur.world k page) (sym read.block) read) new (inv.looks.looked t).0.valid (c.in-Ok.ensures.looks.looked t).0 c.in-Ok.ensures.looks.stays.0 (c.in-Ok.ensures.held t)
          c.in-Some-next.next (sym (c.next-next.ensures.value ∙ ap (λ k. (cluster_of k).next) c.cluster.ensures) ∙ c.in-Some-next.is) in
          subst (λ p. IsSearched c.args.client.now new len ls ps (c.loop-turn.turn + 1) c.in-Some-next.next c.args.name.now (c.loop-turn.count + c.count-count.result) (Some p)) (sym c.better-page.ensures) on;
      few = omega (arith, inv.few, c.count-count.ensures.few);
    }
