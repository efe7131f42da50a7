use Rattle.std.proofs.Common.{◌≡◌, ◌<◌, ℕ, inl, inr, true, nat_lt, arith}
use Rattle.volume.proofs.Common.{nil_from_length, cases_lt, lt-ltb, nat_tests, doomed, graph_in, none_owed}
use Rattle.volume.proofs.volume.Volume.is_owed.Goals as goal

below : (m n : ℕ) → nat_lt m n ≡ true → m < n
below m n is = grind (arith, nat_tests)

pub returns : goal.returns
returns c =
    let t = c.args.self.now.tables in
    let count = c.doomed_count.ensures in (
      λ is. let some = below 0 c.doomed_count.result is in omega (arith, some, count),
      λ some. elim (cases_lt 0 c.doomed_count.result) [
        | inl less ↦ lt-ltb 0 c.doomed_count.result less
        | inr none ↦ absurd (let zero_ = (none_owed t).1 (nil_from_length (doomed (graph_in t)) (omega (arith, none, count))) in omega (arith, zero_, some))
      ],
    )
