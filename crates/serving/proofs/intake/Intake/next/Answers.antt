use Rattle.std.proofs.Common.{sym, ◌++◌, take, refl, ◌∙◌, subst, arith, append_assoc}
use Rattle.serving.specs.Goes.{Reads, IsNextAtEnd}
use Rattle.serving.proofs.Inputs.{at_the_end, came_more, came_none, came_same, reads_first, over_end, handed_on, read_none, read_one, found_fault, found_long, found_at_end, reads_more, left_filled, left_read}
use Rattle.serving.proofs.Ends.{ends_open, more_taken, end_taken, later_same, later_at_end}
use Rattle.serving.proofs.intake.Intake.next.Goals as goal

pub returns-then-self-clause-found : goal.returns-then-self-clause-found
returns-then-self-clause-found g c bytes qs was = over_end g.R.Protocol.spelling _ _ _ _ _ c.args.self.now bytes qs c.if-self.true was

pub loop-self-init : goal.loop-self-init
loop-self-init g c = record {
  over = c.if-self.false;
  limit = omega arith;
  ends = refl;
  faults = omega arith;
  left = omega arith;
  reads = λ bytes qs was. reads_first g.R.Protocol.spelling _ _ _ _ _ c.args.self.now bytes qs c.if-self.false was;
}

pub returns-then-read_held-clause-found : goal.returns-then-read_held-clause-found
returns-then-read_held-clause-found g c bytes qs was =
    let r = c.loop-self.invariant.reads bytes qs was in
    (r.0, r.1, handed_on g.R.Protocol.spelling _ _ c.read_held.new.self (bytes ++ r.0) _ (c.read_held.ensures.over ∙ c.loop-self.invariant.over) (read_one g.R.Protocol.spelling _ _ _ qs _ _ c.if-read_held.true (c.read_held.ensures.handed (bytes ++ r.0) qs r.2)))

pub returns-then-self-2-clause-found : goal.returns-then-self-2-clause-found
returns-then-self-2-clause-found g c bytes qs was =
    let r = c.loop-self.invariant.reads bytes qs was in
    (r.0, r.1, found_long g.R.Protocol.spelling _ (Unit {0}) c.read_held.new.self (bytes ++ r.0) qs (read_none g.R.Protocol.spelling _ _ _ qs _ _ c.if-read_held.false (c.read_held.ensures.handed (bytes ++ r.0) qs r.2)) (c.read_held.ensures.all c.if-read_held.false) c.if-self-2.true c.read_held.new.self.few)

pub returns-in-Err-clause-found : goal.returns-in-Err-clause-found
returns-in-Err-clause-found g c bytes qs was =
    let r = c.loop-self.invariant.reads bytes qs was in
    let i = c.read_held.new.self in (
      r.0,
      came_same g.S.Source.told _ _ _ _ _ _ r.0 c.in-Err.ensures.err r.1,
      found_fault g.R.Protocol.spelling _ (Unit {0}) i (bytes ++ r.0) qs (read_none g.R.Protocol.spelling _ _ _ qs _ _ c.if-read_held.false (c.read_held.ensures.handed (bytes ++ r.0) qs r.2)) (c.read_held.ensures.all c.if-read_held.false) (omega (arith, c.if-self-2.false)),
    )

pub returns-in-Ok-eq0-clause-found : goal.returns-in-Ok-eq0-clause-found
returns-in-Ok-eq0-clause-found g c bytes qs was =
    let r = c.loop-self.invariant.reads bytes qs was in
    let i = c.read_held.new.self in (
      r.0,
      came_none g.S.Source.told _ _ _ _ _ _ _ r.0 _ c.in-Ok-eq0.field-0-test c.in-Ok-eq0.ensures.taken c.in-Ok-eq0.ensures.bytes r.1,
      found_at_end g.R.Protocol.spelling _ _ _ i _ (bytes ++ r.0) qs _ _ _ _ (read_none g.R.Protocol.spelling _ _ _ qs _ _ c.if-read_held.false (c.read_held.ensures.handed (bytes ++ r.0) qs r.2)) (c.read_held.ensures.all c.if-read_held.false) (omega (arith, c.if-self-2.false)) c.last.ensures.counts.limit
          (at_the_end g.S.Source.told _ _ _ _ _ c.in-Ok-eq0.field-0-test c.in-Ok-eq0.ensures.found_end c.in-Ok-eq0.ensures.end c.in-Ok-eq0.ensures.bytes) c.last.ensures.next.1 c.last.ensures.next.2,
    )

pub loop-self-preserved : goal.loop-self-preserved
loop-self-preserved g c = record {
  over = c.fill.ensures.over ∙ c.read_held.ensures.over ∙ c.loop-self.invariant.over;
  limit = c.fill.ensures.limit ∙ c.read_held.ensures.counts.limit ∙ c.loop-self.invariant.limit;
  ends = more_taken c.in-Ok.count _ _ (omega (arith, c.in-Ok.count-test)) c.in-Ok.ensures.ends ∙ c.loop-self.invariant.ends;
  faults = c.in-Ok.ensures.faults ∙ c.loop-self.invariant.faults;
  left =
      let filled = left_filled c.read_held.new.self c.fill.new.self c.in-Ok.count c.fill.ensures.limit c.fill.ensures.taken c.fill.ensures.from c.fill.ensures.to c.fill.ensures.over (omega (arith, c.if-self-2.false)) in
      let read = left_read c.loop-self.self c.read_held.new.self c.read_held.ensures.counts.limit c.read_held.ensures.counts.taken c.read_held.ensures.over c.read_held.ensures.to c.read_held.ensures.later in
      omega (arith, filled, read, c.loop-self.invariant.left);
  reads = λ bytes qs was.
      let r = c.loop-self.invariant.reads bytes qs was in
      let p = take c.in-Ok.count c.take_some.new.room in (
        r.0 ++ p,
        came_more g.S.Source.told _ _ _ _ _ _ r.0 p r.1 c.in-Ok.ensures.taken c.in-Ok.ensures.bytes,
        subst (λ b. Reads g.R.Protocol.spelling (λ x. g.R.Protocol.was_fed x c.read_held.new.protocol) c.fill.new.self b qs) (append_assoc bytes r.0 p)
            (reads_more g.R.Protocol.spelling (λ x. g.R.Protocol.was_fed x c.read_held.new.protocol) c.read_held.new.self c.fill.new.self (bytes ++ r.0) c.take_some.new.room qs c.in-Ok.count (read_none g.R.Protocol.spelling _ _ _ qs _ _ c.if-read_held.false (c.read_held.ensures.handed (bytes ++ r.0) qs r.2)) (c.read_held.ensures.all c.if-read_held.false) (omega (arith, c.if-self-2.false))
            c.in-Ok.ensures.fits c.fill.ensures.limit c.fill.ensures.taken c.fill.ensures.from c.fill.ensures.to c.fill.ensures.room),
      );
}

pub returns-then-read_held-clause-later : goal.returns-then-read_held-clause-later
returns-then-read_held-clause-later g c is = later_same c.args.self.now c.read_held.new.self _ _ c.if-self.false (c.read_held.ensures.over ∙ c.loop-self.invariant.over) c.loop-self.invariant.ends

pub returns-in-Ok-eq0-clause-once : goal.returns-in-Ok-eq0-clause-once
returns-in-Ok-eq0-clause-once g c =
    let unfound = ends_open c.args.self.now c.if-self.false in
    let found = end_taken _ _ _ c.in-Ok-eq0.field-0-test c.in-Ok-eq0.ensures.ends in
    omega (arith, unfound, found, c.loop-self.invariant.ends)

pub returns-in-Ok-eq0-clause-later : goal.returns-in-Ok-eq0-clause-later
returns-in-Ok-eq0-clause-later g c is =
    let found = end_taken _ _ _ c.in-Ok-eq0.field-0-test c.in-Ok-eq0.ensures.ends in
    later_at_end c.last.ensures.next.0 c.last.result c.args.self.now c.last.new.self c.last.new.into _ _ (subst (λ over. IsNextAtEnd c.last.ensures.next.0 c.last.result c.last.new.into c.last.new.self.over over) (c.read_held.ensures.over ∙ c.loop-self.invariant.over ∙ sym c.if-self.false) c.last.ensures.next.2) c.if-self.false (omega (arith, found, c.loop-self.invariant.ends)) is
