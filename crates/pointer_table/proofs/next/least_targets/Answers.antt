use Rattle.std.proofs.Common.{◌+◌, ◌++◌, length, take, sym, ap, ◌∙◌, arith}
use Rattle.pointer_table.proofs.Common.{take-take, pairs_in}
use Rattle.pointer_table.proofs.NextLaws.{all_targets, first_target, no_targets, targets_more, targets_longer, targets_full, targets_ended}
use Rattle.pointer_table.proofs.SlotLaws.{rising-pairs_in}
use Rattle.pointer_table.proofs.next.least_targets.Goals as goal

pub loop-from-init : goal.loop-from-init
loop-from-init c = record {
  all =
      ap (λ xs. take c.args.most (xs ++ all_targets (pairs_in c.args.slots.now) c.args.source c.args.start)) c.new-targets.ensures
      ∙ sym (take-take c.args.most 64 (all_targets (pairs_in c.args.slots.now) c.args.source c.args.start) c.requires.most);
  within = (let none = ap length c.new-targets.ensures in omega arith);
}

pub loop-from-smaller : goal.loop-from-smaller
loop-from-smaller c =
    let most = c.requires.most in
    let longer = targets_longer c.loop-from.targets c.push_wanted.new.self c.in-Some.target (omega arith) c.push_wanted.ensures in
    omega arith

pub loop-from-preserved : goal.loop-from-preserved
loop-from-preserved c =
    let es = pairs_in c.args.slots.now in
    let t = c.in-Some.target in
    let most = c.requires.most in
    let longer = targets_longer c.loop-from.targets c.push_wanted.new.self t (omega arith) c.push_wanted.ensures in
    let first = first_target es c.args.source c.loop-from.from t (rising-pairs_in c.args.slots.now) c.in-Some.ensures in
    record {
      all =
          targets_more c.args.most c.loop-from.targets c.push_wanted.new.self (all_targets es c.args.source (t + 1)) (take c.args.most (take 64 (all_targets es c.args.source c.args.start))) t
          (omega arith) c.push_wanted.ensures (ap (λ xs. take c.args.most (c.loop-from.targets ++ xs)) (sym first) ∙ c.loop-from.invariant.all);
      within = omega arith;
    }

pub returns-after-loop-from : goal.returns-after-loop-from
returns-after-loop-from c =
    let es = pairs_in c.args.slots.now in
    targets_full c.args.most c.loop-from.targets (all_targets es c.args.source c.loop-from.from) (take c.args.most (take 64 (all_targets es c.args.source c.args.start)))
    c.loop-from.invariant.within (omega arith) c.loop-from.invariant.all

pub returns-in_default : goal.returns-in_default
returns-in_default c =
    let es = pairs_in c.args.slots.now in
    targets_ended c.args.most c.loop-from.targets (all_targets es c.args.source c.loop-from.from) (take c.args.most (take 64 (all_targets es c.args.source c.args.start)))
    c.loop-from.invariant.within (no_targets es c.args.source c.loop-from.from c.in_default.ensures) c.loop-from.invariant.all
