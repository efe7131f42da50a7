-- The fields of a body and the bytes of each.
use Rattle.std.specs.Prelude.{◌≡◌, ℕ, ◌^◌, ◌<◌, ◌≤◌, List, [], ◌∷◌, ◌++◌, length}
use Rattle.byteorder.specs.Endian.{little_bytes}
use Rattle.tsd_model.specs.declared.caps.Cap.{Cap}
use Rattle.tsd_model.specs.declared.caps.Shown.{Shown}
use Rattle.tsd_model.specs.declared.caps.Shown.TheVariants.{Nothing, Key}
use Rattle.tsd_model.specs.declared.requests.Hint.{Hint}
use Rattle.tsd_model.specs.declared.requests.Hint.TheVariants.{Null, At}
use Rattle.tsd_model.specs.declared.requests.Level.{Level}
use Rattle.tsd_model.specs.declared.requests.Level.TheVariants as level

-- what stands next to one another in a body
pub data Field : Type 0 where
  Code : ℕ → Field
  Number : ℕ → Field
  Show : Shown → Field
  New : Cap → Field
  Near : Hint → Field
  Rank : Level → Field
  Bytes : List ℕ → Field

-- the byte of a level
abbrev pub level_code : Level → ℕ
level_code level.Bare = 0
level_code level.Read = 1
level_code level.Write = 2

-- A code and a level have one byte, a number four, its lowest first, a capability sixteen. A byte 0 stands for nothing
-- shown and for no hint, a byte 1 before a capability that is shown and before a hint.
abbrev pub field_bytes : Field → List ℕ
field_bytes (Code c) = c ∷ []
field_bytes (Number n) = little_bytes 4 n
field_bytes (Show Nothing) = 0 ∷ []
field_bytes (Show (Key cap)) = 1 ∷ cap.bytes
field_bytes (New cap) = cap.bytes
field_bytes (Near Null) = 0 ∷ []
field_bytes (Near (At b)) = 1 ∷ little_bytes 4 b
field_bytes (Rank l) = level_code l ∷ []
field_bytes (Bytes bytes) = bytes

-- the bytes have room for the value
abbrev pub HasRoomFor : Field → Type 0
HasRoomFor (Number n) = n < 2 ^ 32
HasRoomFor (Show (Key cap)) = length cap.bytes ≡ 16
HasRoomFor (New cap) = length cap.bytes ≡ 16
HasRoomFor (Near (At b)) = b < 2 ^ 32
HasRoomFor (Bytes bytes) = length bytes ≤ 4096
HasRoomFor (Code c) = Unit {0}
HasRoomFor (Show Nothing) = Unit {0}
HasRoomFor (Near Null) = Unit {0}
HasRoomFor (Rank l) = Unit {0}

-- each fits
abbrev pub AllFit : List Field → Type 0
AllFit [] = Unit {0}
AllFit (f ∷ fs) = HasRoomFor f × AllFit fs

-- the bytes of each, one after another
abbrev pub bytes_of : List Field → List ℕ
bytes_of [] = []
bytes_of (f ∷ fs) = field_bytes f ++ bytes_of fs
