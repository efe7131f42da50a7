use Rattle.std.proofs.Common.{◌+◌, length, sym, ◌∙◌, ap, arith, Ok, Err}
use Rattle.chain_reading.proofs.Common.{cluster_of, part_cluster, no_look, then_looks, looks_as, looks_refused}
use Rattle.chain_reading.proofs.SizeLaws.{count_starts, count_on, count_ends, count_part}
use Rattle.chain_reading.proofs.reading.chain_size.Goals as goal

pub loop-position-init : goal.loop-position-init
loop-position-init g c =
    let first = g.K.Blocks.view c.args.disk.now in
    record {
      looks = no_look g.K.Blocks.told first c.requires.unspent (λ t. g.met.K.Blocks.sound c.args.disk.now t c.requires.unspent) c.requires.valid;
      counted = λ t ls file. count_starts c.args.client.now first c.args.first ls file;
      few = omega arith;
    }

pub read_part-requires-clause-there : goal.read_part-requires-clause-there
read_part-requires-clause-there g c = λ t.
    let inv = c.loop-position.invariant in
    let file = c.requires.file t in
    count_part c.args.client.now (g.K.Blocks.view c.args.disk.now) (g.K.Blocks.view c.loop-position.disk) c.args.first c.loop-position.position c.loop-position.block c.loop-position.size file.0 (inv.looks.looked t).0 file.1 (inv.counted t file.0 file.1)

pub returns-in-Err-clause-looks : goal.returns-in-Err-clause-looks
returns-in-Err-clause-looks g c =
    let told = g.K.Blocks.told in
    let first = g.K.Blocks.view c.args.disk.now in
    let cur = g.K.Blocks.view c.loop-position.disk in
    let new = g.K.Blocks.view c.read_part.new.disk in
    then_looks told first cur new tt (Err c.in-Err.refusal) c.loop-position.invariant.looks (looks_refused told cur new c.in-Err.refusal c.in-Err.ensures.looks)

pub returns-in-None-clause-size : goal.returns-in-None-clause-size
returns-in-None-clause-size g c = λ t ls file.
    let cur = g.K.Blocks.view c.loop-position.disk in
    let part = c.in-Ok.part in
    let cl = cluster_of (part_cluster part.cluster) in
    count_ends c.args.client.now cur ls c.loop-position.position c.loop-position.block c.loop-position.size (length c.bytes.result.now) cl (c.loop-position.invariant.counted t ls file) (c.in-Ok.ensures.part t).read.says
    (sym (c.next.ensures.value ∙ ap (λ k. (cluster_of k).next) c.cluster.ensures) ∙ c.in-None.is) (ap length c.bytes.ensures.value)

pub returns-in-None-clause-looks : goal.returns-in-None-clause-looks
returns-in-None-clause-looks g c =
    let told = g.K.Blocks.told in
    let first = g.K.Blocks.view c.args.disk.now in
    let cur = g.K.Blocks.view c.loop-position.disk in
    let new = g.K.Blocks.view c.read_part.new.disk in
    then_looks told first cur new tt (Ok (c.loop-position.size + length c.bytes.result.now)) c.loop-position.invariant.looks (looks_as told cur new c.in-Ok.part (c.loop-position.size + length c.bytes.result.now) c.in-Ok.ensures.looks)

pub loop-position-preserved : goal.loop-position-preserved
loop-position-preserved g c =
    let told = g.K.Blocks.told in
    let first = g.K.Blocks.view c.args.disk.now in
    let cur = g.K.Blocks.view c.loop-position.disk in
    let new = g.K.Blocks.view c.read_part.new.disk in
    let part = c.in-Ok.part in
    let cl = cluster_of (part_cluster part.cluster) in
    let inv = c.loop-position.invariant in
    let size = c.loop-position.size in
    let more = length c.bytes.result.now in
    record {
      looks = then_looks told first cur new tt (Ok tt) inv.looks (looks_as told cur new part tt c.in-Ok.ensures.looks);
      counted = λ t ls file. count_on c.args.client.now cur new ls c.loop-position.position c.loop-position.block c.in-Some.next size more cl (inv.counted t ls file) (c.in-Ok.ensures.part t).read.says
          (sym (c.next.ensures.value ∙ ap (λ k. (cluster_of k).next) c.cluster.ensures) ∙ c.in-Some.is) (ap length c.bytes.ensures.value) (c.in-Ok.ensures.looks.looked t).0 c.in-Ok.ensures.looks.stays.0 (c.in-Ok.ensures.held t);
      few = omega (arith, inv.few, c.bytes.ensures.small);
    }
