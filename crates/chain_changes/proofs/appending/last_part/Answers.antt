use Rattle.std.proofs.Common.{sym, ◌∙◌, ap, Ok, Err}
use Rattle.chain_changes.proofs.Common.{cluster_of, part_cluster, no_look, then_looks, looks_as, looks_refused}
use Rattle.chain_changes.proofs.LastLaws.{step_starts, step_on, step_part, step_ends}
use Rattle.chain_changes.proofs.appending.last_part.Goals as goal

pub loop-position-init : goal.loop-position-init
loop-position-init g c =
    let first = g.K.Blocks.view c.args.disk.now in
    record {
      looks = no_look g.K.Blocks.told first c.requires.unspent (λ t. g.met.K.Blocks.sound c.args.disk.now t c.requires.unspent) c.requires.valid;
      stepped = λ t ls file. step_starts c.args.client.now first c.args.first ls file;
    }

pub read_part-requires-clause-there : goal.read_part-requires-clause-there
read_part-requires-clause-there g c = λ t.
    let inv = c.loop-position.invariant in
    let file = c.requires.file t in
    step_part c.args.client.now (g.K.Blocks.view c.args.disk.now) (g.K.Blocks.view c.loop-position.disk) c.args.first c.loop-position.position c.loop-position.block file.0 (inv.looks.looked t).0 file.1 (inv.stepped t file.0 file.1)

pub returns-in-Err-clause-looks : goal.returns-in-Err-clause-looks
returns-in-Err-clause-looks g c =
    let told = g.K.Blocks.told in
    let first = g.K.Blocks.view c.args.disk.now in
    let cur = g.K.Blocks.view c.loop-position.disk in
    let new = g.K.Blocks.view c.read_part.new.disk in
    then_looks told first cur new tt (Err c.in-Err.refusal) c.loop-position.invariant.looks (looks_refused told cur new c.in-Err.refusal c.in-Err.ensures.looks)

pub returns-in-None-clause-last : goal.returns-in-None-clause-last
returns-in-None-clause-last g c = λ t ls file.
    let first = g.K.Blocks.view c.args.disk.now in
    let cur = g.K.Blocks.view c.loop-position.disk in
    let new = g.K.Blocks.view c.read_part.new.disk in
    let inv = c.loop-position.invariant in
    step_ends c.args.client.now first cur new ls c.loop-position.position c.loop-position.block c.in-Ok.part (inv.stepped t ls file) (inv.looks.looked t).0 (c.in-Ok.ensures.looks.looked t).0 c.in-Ok.ensures.looks.stays.0 (c.in-Ok.ensures.part t)
    (sym (c.next.ensures.value ∙ ap (λ k. (cluster_of k).next) c.cluster.ensures) ∙ c.in-None.is)

pub returns-in-None-clause-looks : goal.returns-in-None-clause-looks
returns-in-None-clause-looks g c =
    let told = g.K.Blocks.told in
    let first = g.K.Blocks.view c.args.disk.now in
    let cur = g.K.Blocks.view c.loop-position.disk in
    let new = g.K.Blocks.view c.read_part.new.disk in
    then_looks told first cur new tt (Ok c.in-Ok.part) c.loop-position.invariant.looks c.in-Ok.ensures.looks

pub loop-position-preserved : goal.loop-position-preserved
loop-position-preserved g c =
    let told = g.K.Blocks.told in
    let first = g.K.Blocks.view c.args.disk.now in
    let cur = g.K.Blocks.view c.loop-position.disk in
    let new = g.K.Blocks.view c.read_part.new.disk in
    let part = c.in-Ok.part in
    let cl = cluster_of (part_cluster part.cluster) in
    let inv = c.loop-position.invariant in
    record {
      looks = then_looks told first cur new tt (Ok tt) inv.looks (looks_as told cur new part tt c.in-Ok.ensures.looks);
      stepped = λ t ls file. step_on c.args.client.now cur new ls c.loop-position.position c.loop-position.block c.in-Some.next cl (inv.stepped t ls file) (c.in-Ok.ensures.part t).read.says
          (sym (c.next.ensures.value ∙ ap (λ k. (cluster_of k).next) c.cluster.ensures) ∙ c.in-Some.is) (c.in-Ok.ensures.looks.looked t).0 c.in-Ok.ensures.looks.stays.0 (c.in-Ok.ensures.held t);
    }
