use Rattle.std.proofs.Common.{◌+◌, ◌-◌, min, ◌++◌, length, sym, ◌∙◌, ap, arith, Ok, Err}
use Rattle.chain_reading.proofs.Common.{take, drop, cluster_of, part_cluster, no_look, then_looks, looks_as, looks_refused}
use Rattle.fs_walks.specs.declared.place.Place.{Place}
use Rattle.chain_reading.proofs.PlaceLaws.{place_full, place_end}
use Rattle.chain_reading.proofs.SizeLaws.{count_part}
use Rattle.chain_reading.proofs.CopyLaws.{copy_starts, copy_on, copy_ends, copy_full}
use Rattle.chain_reading.proofs.reading.read_chain.Goals as goal

pub loop-position-init : goal.loop-position-init
loop-position-init g c =
    let first = g.K.Blocks.view c.args.disk.now in
    record {
      looks = no_look g.K.Blocks.told first c.requires.unspent (λ t. g.met.K.Blocks.sound c.args.disk.now t c.requires.unspent) c.requires.valid;
      copied = λ t ls file. copy_starts c.args.client.now first c.args.first c.args.start c.args.into.now ls c.requires.empty file;
      few = omega arith;
    }

pub read_part-requires-clause-there : goal.read_part-requires-clause-there
read_part-requires-clause-there g c = λ t.
    let inv = c.loop-position.invariant in
    let file = c.requires.file t in
    count_part c.args.client.now (g.K.Blocks.view c.args.disk.now) (g.K.Blocks.view c.loop-position.disk) c.args.first c.loop-position.position c.loop-position.block c.loop-position.before file.0 (inv.looks.looked t).0 file.1 (inv.copied t file.0 file.1).counted

pub returns-in-Err-clause-looks : goal.returns-in-Err-clause-looks
returns-in-Err-clause-looks g c =
    let told = g.K.Blocks.told in
    let first = g.K.Blocks.view c.args.disk.now in
    let cur = g.K.Blocks.view c.loop-position.disk in
    let new = g.K.Blocks.view c.read_part.new.disk in
    then_looks told first cur new tt (Err c.in-Err.refusal) c.loop-position.invariant.looks (looks_refused told cur new c.in-Err.refusal c.in-Err.ensures.looks)

pub returns-then-len-eq-DATA_MAX-clause-bytes : goal.returns-then-len-eq-DATA_MAX-clause-bytes
returns-then-len-eq-DATA_MAX-clause-bytes g c = λ t ls file.
    let cur = g.K.Blocks.view c.loop-position.disk in
    let into = c.loop-position.into in
    let cl = cluster_of (part_cluster c.in-Ok.part.cluster) in
    copy_full c.args.client.now cur ls c.loop-position.position c.loop-position.block c.loop-position.before c.args.start (length c.bytes-in-loop-position.result.now) into c.add_part-read.new.into cl (c.loop-position.invariant.copied t ls file) (c.in-Ok.ensures.part t).read.says
    (ap length c.bytes-in-loop-position.ensures.value) (c.add_part-read.ensures.added ∙ ap (λ xs. into ++ take (4096 - length into) (drop (c.args.start - c.loop-position.before) xs)) c.bytes.ensures.value)
    (sym c.len.ensures.value ∙ c.if-len-eq-DATA_MAX.true)

pub returns-then-len-eq-DATA_MAX-clause-place : goal.returns-then-len-eq-DATA_MAX-clause-place
returns-then-len-eq-DATA_MAX-clause-place g c = λ t ls file.
    let first = g.K.Blocks.view c.args.disk.now in
    let cur = g.K.Blocks.view c.loop-position.disk in
    let new = g.K.Blocks.view c.read_part.new.disk in
    let into = c.loop-position.into in
    let start = c.args.start in
    let before = c.loop-position.before in
    let cl = cluster_of (part_cluster c.in-Ok.part.cluster) in
    let inv = c.loop-position.invariant in
    place_full c.args.client.now first cur new ls c.args.first c.loop-position.position c.loop-position.block before start (length c.bytes-in-loop-position.result.now) c.add_part-read.result into c.add_part-read.new.into cl (inv.looks.looked t).0 file (inv.copied t ls file) (c.in-Ok.ensures.part t).read.says
    (ap length c.bytes-in-loop-position.ensures.value) (c.add_part-read.ensures.added ∙ ap (λ xs. into ++ take (4096 - length into) (drop (start - before) xs)) c.bytes.ensures.value)
    (c.add_part-read.ensures.read ∙ ap (λ xs. min (length xs) ((start - before) + (4096 - length into))) c.bytes.ensures.value) (c.in-Ok.ensures.looks.looked t).0 c.in-Ok.ensures.looks.stays.0
    (sym c.len.ensures.value ∙ c.if-len-eq-DATA_MAX.true)

pub returns-then-len-eq-DATA_MAX-clause-looks : goal.returns-then-len-eq-DATA_MAX-clause-looks
returns-then-len-eq-DATA_MAX-clause-looks g c =
    let told = g.K.Blocks.told in
    let first = g.K.Blocks.view c.args.disk.now in
    let cur = g.K.Blocks.view c.loop-position.disk in
    let new = g.K.Blocks.view c.read_part.new.disk in
    let place : Place = record { block = c.loop-position.block; read = c.add_part-read.result } in
    then_looks told first cur new tt (Ok place) c.loop-position.invariant.looks (looks_as told cur new c.in-Ok.part place c.in-Ok.ensures.looks)

pub returns-in-None-clause-bytes : goal.returns-in-None-clause-bytes
returns-in-None-clause-bytes g c = λ t ls file.
    let cur = g.K.Blocks.view c.loop-position.disk in
    let into = c.loop-position.into in
    let cl = cluster_of (part_cluster c.in-Ok.part.cluster) in
    copy_ends c.args.client.now cur ls c.loop-position.position c.loop-position.block c.loop-position.before c.args.start (length c.bytes-in-loop-position.result.now) into c.add_part-read.new.into cl (c.loop-position.invariant.copied t ls file) (c.in-Ok.ensures.part t).read.says
    (ap length c.bytes-in-loop-position.ensures.value) (c.add_part-read.ensures.added ∙ ap (λ xs. into ++ take (4096 - length into) (drop (c.args.start - c.loop-position.before) xs)) c.bytes.ensures.value)
    (sym (c.next.ensures.value ∙ ap (λ k. (cluster_of k).next) c.cluster.ensures) ∙ c.in-None.is)

pub returns-in-None-clause-place : goal.returns-in-None-clause-place
returns-in-None-clause-place g c = λ t ls file.
    let first = g.K.Blocks.view c.args.disk.now in
    let cur = g.K.Blocks.view c.loop-position.disk in
    let new = g.K.Blocks.view c.read_part.new.disk in
    let into = c.loop-position.into in
    let start = c.args.start in
    let before = c.loop-position.before in
    let cl = cluster_of (part_cluster c.in-Ok.part.cluster) in
    let inv = c.loop-position.invariant in
    place_end c.args.client.now first cur new ls c.args.first c.loop-position.position c.loop-position.block before start (length c.bytes-in-loop-position.result.now) c.add_part-read.result into c.add_part-read.new.into cl (inv.looks.looked t).0 file (inv.copied t ls file) (c.in-Ok.ensures.part t).read.says
    (ap length c.bytes-in-loop-position.ensures.value) (c.add_part-read.ensures.added ∙ ap (λ xs. into ++ take (4096 - length into) (drop (start - before) xs)) c.bytes.ensures.value)
    (c.add_part-read.ensures.read ∙ ap (λ xs. min (length xs) ((start - before) + (4096 - length into))) c.bytes.ensures.value) (c.in-Ok.ensures.looks.looked t).0 c.in-Ok.ensures.looks.stays.0
    (sym (c.next.ensures.value ∙ ap (λ k. (cluster_of k).next) c.cluster.ensures) ∙ c.in-None.is)

pub returns-in-None-clause-looks : goal.returns-in-None-clause-looks
returns-in-None-clause-looks g c =
    let told = g.K.Blocks.told in
    let first = g.K.Blocks.view c.args.disk.now in
    let cur = g.K.Blocks.view c.loop-position.disk in
    let new = g.K.Blocks.view c.read_part.new.disk in
    let place : Place = record { block = c.loop-position.block; read = c.add_part-read.result } in
    then_looks told first cur new tt (Ok place) c.loop-position.invariant.looks (looks_as told cur new c.in-Ok.part place c.in-Ok.ensures.looks)

pub loop-position-preserved : goal.loop-position-preserved
loop-position-preserved g c =
    let told = g.K.Blocks.told in
    let first = g.K.Blocks.view c.args.disk.now in
    let cur = g.K.Blocks.view c.loop-position.disk in
    let new = g.K.Blocks.view c.read_part.new.disk in
    let part = c.in-Ok.part in
    let into = c.loop-position.into in
    let cl = cluster_of (part_cluster part.cluster) in
    let inv = c.loop-position.invariant in
    record {
      looks = then_looks told first cur new tt (Ok tt) inv.looks (looks_as told cur new part tt c.in-Ok.ensures.looks);
      copied = λ t ls file. copy_on c.args.client.now cur ls c.loop-position.position c.loop-position.block c.loop-position.before c.args.start (length c.bytes-in-loop-position.result.now) into c.add_part-read.new.into cl (inv.copied t ls file) (c.in-Ok.ensures.part t).read.says
          (ap length c.bytes-in-loop-position.ensures.value) (c.add_part-read.ensures.added ∙ ap (λ xs. into ++ take (4096 - length into) (drop (c.args.start - c.loop-position.before) xs)) c.bytes.ensures.value)
          new c.in-Some.next (λ full. c.if-len-eq-DATA_MAX.false (c.len.ensures.value ∙ full)) (sym (c.next.ensures.value ∙ ap (λ k. (cluster_of k).next) c.cluster.ensures) ∙ c.in-Some.is) (c.in-Ok.ensures.looks.looked t).0 c.in-Ok.ensures.looks.stays.0 (c.in-Ok.ensures.held t);
      few = omega (arith, inv.few, c.bytes-in-loop-position.ensures.small);
    }
