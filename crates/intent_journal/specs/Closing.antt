-- What a disk is before records are put in place and their gates closed.
use Rattle.std.specs.Prelude.{ℕ, suc, zero, ◌+◌, ◌<◌, ◌≡◌, ◌==◌, ◌&&◌, ◌||◌, nat_le, nat_lt, not, Bool, true, false}
use Rattle.std.specs.Prelude.{cond, List, length, slice_index_or}
use Rattle.image_device.specs.Image.{Image}
use Rattle.image_device.specs.View.{View}
use Rattle.image_layout.specs.declared.offset.Patch.{Patch}
use Rattle.image_layout.specs.Image.{gate_bytes}
use Rattle.image_layout.specs.Ring.{records, gate_sector, descriptor_sector, body_sector}
use Rattle.intent_journal.specs.Batch.{has_home}
use Rattle.intent_journal.specs.Home.{is_journal}
use Rattle.intent_journal.specs.Records.{patches_of, open_records, is_gate_open, has_valid_records}
use Rattle.intent_journal.specs.Ring.{last_patches}

abbrev pub is_listed_open : List Bool → ℕ → Bool
is_listed_open gates index = slice_index_or gates index false

-- The open records have these patches and are valid, the gates are as listed, and no sector of the journal is loose.
pub record IsListed (ps : List Patch) (listed : List Bool) (v : View) : Type 0 where
  pub patches : patches_of (open_records v.reads) ≡ ps
  pub valid : has_valid_records v.reads ≡ true
  pub gates : (index : ℕ) → index < records → is_listed_open listed index ≡ is_gate_open v.reads index
  pub journal_firm : (n : ℕ) → is_journal n ≡ true → v.loose n ≡ false

abbrev pub one_if : Bool → ℕ
one_if b = cond b 1 0

-- how many gates from 1 on and below this one are listed open
abbrev pub later_open : List Bool → ℕ → ℕ
later_open gates zero = 0
later_open gates (suc zero) = 0
later_open gates (suc (suc i)) = later_open gates (suc i) + one_if (is_listed_open gates (suc i))

-- each home once, and each gate that is listed open
abbrev pub closing_writes : List Patch → List Bool → ℕ
closing_writes ps gates = length (last_patches ps) + one_if (is_listed_open gates 0) + later_open gates 8

-- the sectors of so many bodies from this one on
abbrev pub is_body_of : ℕ → ℕ → ℕ → Bool
is_body_of start len n = nat_le (body_sector start) n && nat_lt n (body_sector start + len)

-- the sectors of a record but its gate
abbrev pub is_in_record : ℕ → ℕ → ℕ → ℕ → Bool
is_in_record index start len n = (n == descriptor_sector index) || is_body_of start len n

-- the patch is in place unless a later one has the same home, and nothing else changed
abbrev pub IsPutUnlessLater : Patch → List Patch → Image → Image → Type 0
IsPutUnlessLater p later old new =
    (n : ℕ) → new n ≡ cond ((n == p.sector) && not (has_home later p.sector)) p.bytes (old n)

-- each gate from 1 on that is listed open is closed by zeros, and no other of them is written
abbrev pub ClosesLaterGates : List Bool → Image → Image → Type 0
ClosesLaterGates gates old new =
    (index : ℕ) → 0 < index → index < records
    → new (gate_sector index) ≡ cond (is_listed_open gates index) (gate_bytes false) (old (gate_sector index))
