-- The bytes of a file, by their offsets.
use Rattle.std.specs.Prelude.{ℕ, ◌<◌, ◌≤◌, ◌+◌, ◌≡◌, ◌⊎◌, List, length, slice_index}

-- these bytes are those of a file from an offset on
abbrev pub IsPart : (ℕ → ℕ) → ℕ → List ℕ → Type 0
IsPart content at bytes = (i : ℕ) → i < length bytes → slice_index bytes i ≡ content (at + i)

-- a file once these bytes were written at an offset
pub record IsWritten (at : ℕ) (bytes : List ℕ) (old new : ℕ → ℕ) : Type 0 where
  pub there : IsPart new at bytes
  pub elsewhere : (offset : ℕ) → (offset < at) ⊎ (at + length bytes ≤ offset) → new offset ≡ old offset
