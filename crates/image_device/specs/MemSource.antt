-- A source in memory.
use Rattle.std.specs.List.{list_any}
use Rattle.std.specs.Prelude.{ℕ, ◌==◌, ◌≡◌, Bool, true, List, take, drop, Result, OnOk, OnErr, IsErr}
use Rattle.image_device.specs.declared.mem_source.MemSource.{MemSource}
use Rattle.image_device.specs.Counts.{raised}

-- the bytes still to come
abbrev pub rest_of : MemSource → List ℕ
rest_of s = drop s.at s.bytes.items

-- the bytes taken so far
abbrev pub front_of : MemSource → List ℕ
front_of s = take s.at s.bytes.items

-- at most so many bytes come at a time
abbrev pub cut_of : MemSource → ℕ
cut_of s = s.cut

-- how many takes came, and which of them are to fail
abbrev pub takes_of : MemSource → ℕ
takes_of s = s.calls

abbrev pub failing_takes_of : MemSource → List ℕ
failing_takes_of s = s.fail.items

-- how often a take found the end
abbrev pub ends_of : MemSource → ℕ
ends_of s = s.ends

-- how often a take failed
abbrev pub faults_of : MemSource → ℕ
faults_of s = s.faults

-- the next take is one of those that are to fail
abbrev pub is_failing_take : MemSource → Bool
is_failing_take s = list_any (λ n. n == s.calls) s.fail.items

-- One take came. It failed exactly where its number is one of those that are to fail.
pub record IsTakeCalled {T E : Type 0} (old new : MemSource) (result : Result T E) : Type 0 where
  pub takes : takes_of new ≡ raised (takes_of old)
  pub fail : failing_takes_of new ≡ failing_takes_of old
  pub cut : cut_of new ≡ cut_of old
  pub numbered : is_failing_take old ≡ true → IsErr result
  pub only : OnErr result (is_failing_take old ≡ true)
  pub fine : OnOk result (faults_of new ≡ faults_of old)
  -- a take that failed is counted once
  pub once : OnErr result (faults_of new ≡ raised (faults_of old))
