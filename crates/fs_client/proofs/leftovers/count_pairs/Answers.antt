use Rattle.std.proofs.Common.{◌≡◌, ◌+◌, ◌≤◌, length, sym, ◌∙◌, ap, subst, arith, Ok, Err}
use Rattle.fs_client.proofs.Common.{filter, has_number, targets_from, named_targets, targets_of}
use Rattle.fs_client.proofs.LookLaws.{no_look, then_looks, looks_as, looks_refused}
use Rattle.fs_client.proofs.Counting.{rest_of, more_named, more_in_all, named_at_first, all_at_first, named_at_last, others_at_last}
use Rattle.fs_client.proofs.leftovers.count_pairs.Goals as goal

pub loop-start-init : goal.loop-start-init
loop-start-init g c =
    let first = g.K.Blocks.view c.args.disk.now in
    record {
      looks = no_look g.K.Blocks.told first c.requires.unspent (λ t. g.met.K.Blocks.sound c.args.disk.now t c.requires.unspent) c.requires.valid;
      may = c.requires.may;
      named = λ t. named_at_first first.world c.args.source (g.N.Names.blocks c.args.namer.now);
      all = λ t. all_at_first first.world c.args.source;
      few = omega arith;
    }

pub targets-requires-clause-unspent : goal.targets-requires-clause-unspent
targets-requires-clause-unspent g c = c.loop-start.invariant.looks.unspent.0

pub targets-requires-clause-valid : goal.targets-requires-clause-valid
targets-requires-clause-valid g c = λ t. (c.loop-start.invariant.looks.looked t).0.valid

pub targets-requires-clause-may : goal.targets-requires-clause-may
targets-requires-clause-may g c = c.loop-start.invariant.may

pub next_start-start-requires : goal.next_start-start-requires
next_start-start-requires g c = c.loop-start-test.true

pub loop-start-preserved : goal.loop-start-preserved
loop-start-preserved g c =
    let told = g.K.Blocks.told in
    let first = g.K.Blocks.view c.args.disk.now in
    let cur = g.K.Blocks.view c.loop-start.disk in
    let new = g.K.Blocks.view c.targets.new.disk in
    let a = c.args.source in
    let names = g.N.Names.blocks c.args.namer.now in
    let start = c.loop-start.start in
    let end = c.geometry-end.result.blocks in
    let page = c.in-Ok.targets in
    let inv = c.loop-start.invariant in
    let next = c.next_start-start.result in
    let whole : told → end ≡ first.world.geometry.blocks = λ t. ap (λ x. x.blocks) (c.geometry-end.ensures ∙ sym (g.met.K.Blocks.sound c.args.disk.now t c.requires.unspent).geometry) in
    let listed : told → page ≡ targets_from first.world.pairs a start = λ t. c.in-Ok.ensures.targets t ∙ ap (λ w. targets_from w.pairs a start) (inv.looks.looked t).0.world in
    record {
      looks = then_looks told first cur new tt (Ok tt) inv.looks (looks_as told cur new page tt c.in-Ok.ensures.looks);
      may = c.in-Ok.ensures.still;
      named = λ t. subst (λ s. c.counted-count.result.named + length (filter (has_number names) (rest_of first.world a s)) ≡ length (named_targets first.world a names)) (sym c.next_start-start.ensures.value)
          (more_named first.world a start end c.loop-start.count.named c.counted-count.result.named page names (c.requires.valid t).valid c.loop-start-test.true (whole t) (listed t) c.counted-count.ensures.named (inv.named t));
      all = λ t. subst (λ s. (c.counted-count.result.named + c.counted-count.result.others) + length (rest_of first.world a s) ≡ length (targets_of first.world a)) (sym c.next_start-start.ensures.value)
          (more_in_all first.world a start end (c.loop-start.count.named + c.loop-start.count.others) (c.counted-count.result.named + c.counted-count.result.others) page (c.requires.valid t).valid c.loop-start-test.true (whole t) (listed t) c.counted-count.ensures.all (inv.all t));
      few = omega (arith, inv.few, c.counted-count.ensures.all, c.counted-count.ensures.few, c.next_start-start.ensures.later);
    }

pub returns-in-Err : goal.returns-in-Err
returns-in-Err g c =
    let told = g.K.Blocks.told in
    let first = g.K.Blocks.view c.args.disk.now in
    let cur = g.K.Blocks.view c.loop-start.disk in
    let new = g.K.Blocks.view c.targets.new.disk in
    record {
      named = λ t. tt;
      others = λ t. tt;
      only = c.in-Err.ensures.only;
      looks = then_looks told first cur new tt (Err c.in-Err.refusal) c.loop-start.invariant.looks (looks_refused told cur new c.in-Err.refusal c.in-Err.ensures.looks);
    }

pub returns : goal.returns
returns g c =
    let told = g.K.Blocks.told in
    let first = g.K.Blocks.view c.args.disk.now in
    let cur = g.K.Blocks.view c.loop-start.disk in
    let a = c.args.source in
    let names = g.N.Names.blocks c.args.namer.now in
    let start = c.loop-start.start in
    let inv = c.loop-start.invariant in
    let count = c.loop-start.count in
    let whole : told → c.geometry-end.result.blocks ≡ first.world.geometry.blocks = λ t. ap (λ x. x.blocks) (c.geometry-end.ensures ∙ sym (g.met.K.Blocks.sound c.args.disk.now t c.requires.unspent).geometry) in
    let past : told → first.world.geometry.blocks ≤ start = λ t. subst (λ n. n ≤ start) (whole t) c.loop-start-test.false in
    let named : told → count.named ≡ length (named_targets first.world a names) = λ t. named_at_last first.world a start count.named names (c.requires.valid t).valid (past t) (inv.named t) in
    record {
      named = named;
      others = λ t. others_at_last first.world a start count.named count.others names (c.requires.valid t).valid (past t) (named t) (inv.all t);
      only = λ t. tt;
      looks = looks_as told first cur tt count inv.looks;
    }
