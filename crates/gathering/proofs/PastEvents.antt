-- Events as a past has them. A box and a vector are there only for what they hold.
use Rattle.std.proofs.Common.{◌≡◌, ◌<◌, ◌≤◌, ◌^◌, ℕ, List, [], ◌∷◌, ◌++◌, length, Bool, true, false, nat_lt, refl, arith}
use Rattle.std.specs.Global.{Box, Vec}
use Rattle.std.proofs.lemmas.Bool.Decides.{nat_tests}
use Rattle.std.proofs.Handle.{handle}
use denote.RawPtr.{null_ptr}
use Rattle.image_device.specs.declared.event.Event.{Event}
use Rattle.image_device.specs.declared.event.Event.TheVariants.{Put, Sync, Write}
use Rattle.image_layout.specs.declared.offset.Patch.{Patch}

abbrev pub boxed : List ℕ → Box (List ℕ)
boxed bytes = record { ptr = null_ptr; alloc = handle; value = bytes }

-- a sector was written last
abbrev pub then_write : List Event → ℕ → List ℕ → List Event
then_write es sector bytes = es ++ Write sector (boxed bytes) ∷ []

-- no vector has 2 ^ 63 bytes
pub below : (n : ℕ) → nat_lt n (2 ^ 63) ≡ true → n < 2 ^ 63
below n is = grind (arith, nat_tests)

pub at_most_itself : (n : ℕ) → n ≤ n
at_most_itself n = omega arith

pub none_below : 0 < 2 ^ 63
none_below = omega arith

abbrev vector_by : (bytes : List ℕ) (b : Bool) → nat_lt (length bytes) (2 ^ 63) ≡ b → Vec ℕ
vector_by bytes true is = record {
  ptr = null_ptr;
  len = length bytes;
  cap = length bytes;
  alloc = handle;
  items = bytes;
  ok = (refl, at_most_itself (length bytes));
  small = below (length bytes) is;
}
vector_by bytes false is = record { ptr = null_ptr; len = 0; cap = 0; alloc = handle; items = []; ok = (refl, at_most_itself 0); small = none_below }

abbrev pub vector : List ℕ → Vec ℕ
vector bytes = vector_by bytes (nat_lt (length bytes) (2 ^ 63)) refl

vector_has_by : (bytes : List ℕ) (b : Bool) (is : nat_lt (length bytes) (2 ^ 63) ≡ b) → length bytes < 2 ^ 63 → (vector_by bytes b is).items ≡ bytes
vector_has_by bytes true is less = refl
vector_has_by bytes false is less = absurd (grind (arith, nat_tests))

pub vector_has : (bytes : List ℕ) → length bytes < 2 ^ 63 → (vector bytes).items ≡ bytes
vector_has bytes less = vector_has_by bytes (nat_lt (length bytes) (2 ^ 63)) refl less

-- a piece was put last
abbrev pub then_put : List Event → List ℕ → List Event
then_put es bytes = es ++ Put (vector bytes) ∷ []
