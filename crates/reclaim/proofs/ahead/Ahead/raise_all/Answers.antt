use Rattle.std.proofs.Common.{◌<◌, length, subst, sym}
use Rattle.reclaim.proofs.Common.{slice_index, with_new_blocks, Kept, IsGrowing, kept_ahead}
use Rattle.reclaim.proofs.ToldLaws.{count_fits, growing_within, grow_ahead, marks_same}
use Rattle.reclaim.proofs.ahead.Ahead.raise_all.Goals as goal

pub raise_all-requires-clause-once : goal.raise_all-requires-clause-once
raise_all-requires-clause-once c = c.requires.told.1.once

pub raise_all-requires-clause-within : goal.raise_all-requires-clause-within
raise_all-requires-clause-within c = λ b is. let told = c.requires.told in
    subst (λ (k : Kept). b < length k.counts) (sym c.self.view_is) (subst (λ n. b < n) (sym told.1.ahead.counts_each) (growing_within told.0 c.args.targets.now c.args.self.now told.1 b is))

pub raise_all-requires-clause-fits : goal.raise_all-requires-clause-fits
raise_all-requires-clause-fits c = λ b is. let told = c.requires.told in
    subst (λ (k : Kept). slice_index k.counts b < 4294967295) (sym c.self.view_is) (count_fits told.0 c.args.self.now b told.1.raw told.1.ahead (growing_within told.0 c.args.targets.now c.args.self.now told.1 b is))

pub returns-clause-ahead : goal.returns-clause-ahead
returns-clause-ahead c = λ w a growing.
    let t = c.self.inside.tally in let all = c.raise_all.ensures in
    marks_same (with_new_blocks w a c.args.targets.now) t c.raise_all.new.self all.others
    (grow_ahead w a c.args.targets.now (kept_ahead t.counts.items t.gone t.doomed t.pairs) c.raise_all.new.self.counts.items (subst (λ (k : Kept). IsGrowing w c.args.targets.now k) (sym c.self.view_is) growing) all.long all.counts)
