use Rattle.std.proofs.Common.{rules}
use Rattle.mirror_device.specs.declared.entry.LogEntry.TheVariants.{Fail}
use Rattle.mirror_device.specs.History.{lapse_of}
use Rattle.mirror_device.specs.Pair.{pair_view}
use Rattle.mirror_device.specs.Twins.{log_entries}
use Rattle.mirror_device.proofs.Pushes.{blames, counts_once, goes_agreeing, kept_entries, lapsed_first, lapsed_then, rose_lapsed, rose_both}
use Rattle.mirror_device.proofs.twins.Twins.blame.Goals as goal

pub invariant_of-self : goal.invariant_of-self
invariant_of-self c =
    let m = c.args.self.now in
    let entry = Fail c.args.side c.saturating_add-faults.result in
    record { agrees = goes_agreeing (log_entries m) _ (pair_view m.pair) (pair_view c.blame.new.self) entry (kept_entries m.log.items c.push.new.self.items m.lapse entry c.in-Never.is (search rules)) m.agrees c.blame.ensures.done }

pub returns-then-is_ok-clause-rests : goal.returns-then-is_ok-clause-rests
returns-then-is_ok-clause-rests c =
    let m = c.args.self.now in
    let entry = Fail c.args.side c.saturating_add-faults.result in
    blames c.args.side (log_entries m) _ _ _ c.saturating_add-faults.result (kept_entries m.log.items c.push.new.self.items m.lapse entry c.in-Never.is (search rules))

pub invariant_of-self-in-Never : goal.invariant_of-self-in-Never
invariant_of-self-in-Never c =
    let m = c.args.self.now in
    record { agrees = goes_agreeing (log_entries m) _ (pair_view m.pair) (pair_view c.blame-in-Never.new.self) (lapse_of c.args.side) (lapsed_first m.log.items c.push.new.self.items m.lapse c.args.side c.in-Never.is (search rules)) m.agrees c.blame-in-Never.ensures.done }

pub returns-else-is_ok-clause-rests : goal.returns-else-is_ok-clause-rests
returns-else-is_ok-clause-rests c =
    let m = c.args.self.now in
    blames c.args.side (log_entries m) _ _ _ _ (lapsed_first m.log.items c.push.new.self.items m.lapse c.args.side c.in-Never.is (search rules))

pub invariant_of-self-then-ne : goal.invariant_of-self-then-ne
invariant_of-self-then-ne c =
    let m = c.args.self.now in
    record { agrees = goes_agreeing (log_entries m) _ (pair_view m.pair) (pair_view c.blame-then-ne.new.self) (lapse_of c.args.side) (lapsed_then m.log.items m.lapse c.in-Of.lapsed c.args.side c.in-Of.is (search rules)) m.agrees c.blame-then-ne.ensures.done }

pub returns-then-ne-clause-rests : goal.returns-then-ne-clause-rests
returns-then-ne-clause-rests c =
    let m = c.args.self.now in
    blames c.args.side (log_entries m) _ _ _ _ (lapsed_then m.log.items m.lapse c.in-Of.lapsed c.args.side c.in-Of.is (search rules))

pub returns-else-ne-clause-cause : goal.returns-else-ne-clause-cause
returns-else-ne-clause-cause c =
    let m = c.args.self.now in
    rose_lapsed m.log.items m.lapse c.in-Of.lapsed c.args.side m.put_faults c.in-Of.is (search rules)

pub returns-in-OfBoth-clause-cause : goal.returns-in-OfBoth-clause-cause
returns-in-OfBoth-clause-cause c =
    let m = c.args.self.now in
    rose_both m.log.items m.lapse _ c.args.side m.put_faults c.in-OfBoth.is

pub returns-then-is_ok-clause-once : goal.returns-then-is_ok-clause-once
returns-then-is_ok-clause-once c whole =
    let m = c.args.self.now in
    let entry = Fail c.args.side c.saturating_add-faults.result in
    counts_once c.args.side (log_entries m) _ m.put_faults _ c.seen.result.faults c.saturating_add-faults.result (kept_entries m.log.items c.push.new.self.items m.lapse entry c.in-Never.is (search rules)) (search rules) (search rules) c.seen.ensures.faults
