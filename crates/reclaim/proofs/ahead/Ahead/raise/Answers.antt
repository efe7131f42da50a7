use Rattle.std.proofs.Common.{◌<◌, length, subst, sym}
use Rattle.reclaim.proofs.Common.{slice_index, with_pointer, Kept, IsAdding, kept_ahead}
use Rattle.reclaim.proofs.ToldLaws.{count_fits, raise_ahead, marks_same}
use Rattle.reclaim.proofs.ahead.Ahead.raise.Goals as goal

pub raise-requires-clause-within : goal.raise-requires-clause-within
raise-requires-clause-within c = let told = c.requires.told in
    subst (λ (k : Kept). c.args.target < length k.counts) (sym c.self.view_is) (subst (λ n. c.args.target < n) (sym told.2.ahead.counts_each) told.2.within)

pub raise-requires-clause-fits : goal.raise-requires-clause-fits
raise-requires-clause-fits c = let told = c.requires.told in
    subst (λ (k : Kept). slice_index k.counts c.args.target < 4294967295) (sym c.self.view_is) (count_fits told.0 c.args.self.now c.args.target told.2.raw told.2.ahead told.2.within)

pub returns-clause-ahead : goal.returns-clause-ahead
returns-clause-ahead c = λ w a adding.
    let t = c.self.inside.tally in let one = c.raise.ensures in
    marks_same (with_pointer w a c.args.target) t c.raise.new.self one.others
    (raise_ahead w a c.args.target (kept_ahead t.counts.items t.gone t.doomed t.pairs) c.raise.new.self.counts.items (subst (λ (k : Kept). IsAdding w a c.args.target k) (sym c.self.view_is) adding) one.counts)
