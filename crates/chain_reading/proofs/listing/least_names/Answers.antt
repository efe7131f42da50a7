use Rattle.std.proofs.Common.{◌++◌, [], refl, sym, ◌∙◌, ap, Ok, Err}
use Rattle.chain_reading.proofs.Common.{block_len, cluster_of, dir_cluster, entries_in, placed, no_look, then_looks, looks_as, looks_refused}
use Rattle.chain_reading.specs.Nexts.{least_names}
use Rattle.chain_reading.proofs.ListLaws.{look_starts, look_on, look_ends, page_there, own_entries, placed_names}
use Rattle.chain_reading.proofs.NamesToldLaws.{names_more, own_names}
use Rattle.chain_reading.proofs.listing.least_names.Goals as goal

pub loop-position-init : goal.loop-position-init
loop-position-init g c =
    let first = g.K.Blocks.view c.args.disk.now in
    record {
      looks = no_look g.K.Blocks.told first c.requires.unspent (λ t. g.met.K.Blocks.sound c.args.disk.now t c.requires.unspent) c.requires.valid;
      seen = λ t ls ps ahead. record { qs = []; looking = look_starts c.args.client.now first (block_len first.world.geometry) ls ps refl ahead; is = c.requires.empty };
    }

pub read_page-requires-clause-there : goal.read_page-requires-clause-there
read_page-requires-clause-there g c = λ t.
    let first = g.K.Blocks.view c.args.disk.now in
    let cur = g.K.Blocks.view c.loop-position.disk in
    let inv = c.loop-position.invariant in
    let all = c.requires.directory t in
    let seen = inv.seen t all.0 all.1 all.2 in
    page_there c.args.client.now cur (block_len first.world.geometry) all.0 all.1 seen.qs c.loop-position.position c.loop-position.block seen.looking (ap (λ w. block_len w.geometry) (sym (inv.looks.looked t).0.world))

pub returns-in-Err-clause-looks : goal.returns-in-Err-clause-looks
returns-in-Err-clause-looks g c =
    let told = g.K.Blocks.told in
    let first = g.K.Blocks.view c.args.disk.now in
    let cur = g.K.Blocks.view c.loop-position.disk in
    let new = g.K.Blocks.view c.read_page.new.disk in
    then_looks told first cur new tt (Err c.in-Err.refusal) c.loop-position.invariant.looks (looks_refused told cur new c.in-Err.refusal c.in-Err.ensures.looks)

pub returns-in-None-clause-least : goal.returns-in-None-clause-least
returns-in-None-clause-least g c = λ t ls ps ahead.
    let first = g.K.Blocks.view c.args.disk.now in
    let cur = g.K.Blocks.view c.loop-position.disk in
    let inv = c.loop-position.invariant in
    let page = c.in-Ok.page in
    let read = c.in-Ok.ensures.page t in
    let cl = cluster_of (dir_cluster page.cluster) in
    let es = entries_in page.cluster in
    let seen = inv.seen t ls ps ahead in
    let len = block_len first.world.geometry in
    let same = ap (λ w. block_len w.geometry) (sym (inv.looks.looked t).0.world) in
    let own = own_entries cur.world c.loop-position.block len cl es same read.read.says read.entries in
    names_more c.args.after.now seen.qs c.loop-position.block es c.loop-position.into.items c.put_names.new.into.items seen.is (c.put_names.ensures (own_names len cl es own))
    ∙ ap (λ xs. least_names 64 c.args.after.now (placed_names xs)) (sym (look_ends c.args.client.now cur len ls ps seen.qs c.loop-position.position c.loop-position.block seen.looking cl es read.read.says own (sym (c.next.ensures.value ∙ ap (λ k. (cluster_of k).next) c.cluster.ensures) ∙ c.in-None.is)))

pub returns-in-None-clause-looks : goal.returns-in-None-clause-looks
returns-in-None-clause-looks g c =
    let told = g.K.Blocks.told in
    let first = g.K.Blocks.view c.args.disk.now in
    let cur = g.K.Blocks.view c.loop-position.disk in
    let new = g.K.Blocks.view c.read_page.new.disk in
    then_looks told first cur new tt (Ok tt) c.loop-position.invariant.looks (looks_as told cur new c.in-Ok.page tt c.in-Ok.ensures.looks)

pub loop-position-preserved : goal.loop-position-preserved
loop-position-preserved g c =
    let told = g.K.Blocks.told in
    let first = g.K.Blocks.view c.args.disk.now in
    let cur = g.K.Blocks.view c.loop-position.disk in
    let new = g.K.Blocks.view c.read_page.new.disk in
    let inv = c.loop-position.invariant in
    let page = c.in-Ok.page in
    let cl = cluster_of (dir_cluster page.cluster) in
    let es = entries_in page.cluster in
    let b = c.loop-position.block in
    let len = block_len first.world.geometry in
    record {
      looks = then_looks told first cur new tt (Ok tt) inv.looks (looks_as told cur new page tt c.in-Ok.ensures.looks);
      seen = λ t ls ps ahead.
          let read = c.in-Ok.ensures.page t in
          let seen = inv.seen t ls ps ahead in
          let same = ap (λ w. block_len w.geometry) (sym (inv.looks.looked t).0.world) in
          let own = own_entries cur.world b len cl es same read.read.says read.entries in
          record {
            qs = seen.qs ++ placed b es;
            looking = look_on c.args.client.now cur len ls ps seen.qs c.loop-position.position b seen.looking cl es read.read.says own new c.in-Some.next (sym (c.next.ensures.value ∙ ap (λ k. (cluster_of k).next) c.cluster.ensures) ∙ c.in-Some.is)
                (c.in-Ok.ensures.looks.looked t).0 c.in-Ok.ensures.looks.stays.0 (c.in-Ok.ensures.held t);
            is = names_more c.args.after.now seen.qs b es c.loop-position.into.items c.put_names.new.into.items seen.is (c.put_names.ensures (own_names len cl es own));
          };
    }
