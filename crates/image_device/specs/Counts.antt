-- Counts of calls and of failures, each kept in a u64.
use Rattle.std.specs.Prelude.{ℕ, Result, MatchResult, IsErrOf, ◌≡◌, ◌==◌, if◌then◌else◌, ◌+◌, ◌-◌, ◌^◌, ◌≤◌, min}

-- one more, but never above the greatest u64
abbrev pub raised : ℕ → ℕ
raised count = min (count + 1) (2 ^ 64 - 1)

-- A count rose. One that stands at the greatest u64 counts as one that rose.
abbrev pub Rose : ℕ → ℕ → Type 0
Rose before now = raised before ≤ now

-- No fault is swallowed: a call that answers Ok leaves the count of faults as it was, and one that fails raised it.
abbrev pub CountsFault : {T E : Type 0} → Result T E → ℕ → ℕ → Type 0
CountsFault result before now = MatchResult result (λ _. now ≡ before) (λ _. Rose before now)

-- The same of a call with several errors, of which this one alone is the device's: it raised the count of faults, and
-- each other answer left it as it was.
abbrev pub CountsFaultOf : {T E : Type 0} → E → Result T E → ℕ → ℕ → Type 0
CountsFaultOf device result before now =
    (IsErrOf result device → Rose before now) × (¬ IsErrOf result device → now ≡ before)

-- Each take that finds the end of a source is counted, and no other.
abbrev pub CountsEnd : {E : Type 0} → Result ℕ E → ℕ → ℕ → Type 0
CountsEnd result before now =
    MatchResult result (λ count. now ≡ (if count == 0 then raised before else before)) (λ _. now ≡ before)

-- two counts of one kind together
abbrev pub both : ℕ → ℕ → ℕ
both one other = min (one + other) (2 ^ 64 - 1)
