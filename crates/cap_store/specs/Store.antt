-- What is kept of the capabilities of the primary blocks.
use Rattle.std.specs.Prelude.{◌≡◌, ℕ, List, length, map, slice_get, Some}
use Rattle.tsd_model.specs.declared.geometry.Geometry.{Geometry}
use Rattle.tsd_model.specs.declared.caps.Shown.{Shown}
use Rattle.tsd_model.specs.declared.caps.Shown.TheVariants.{Nothing, Key}
use Rattle.tsd_model.specs.declared.records.KeptCap.{KeptCap}
use Rattle.tsd_model.specs.declared.records.KeptCap.TheVariants.{Plain, Digested}
use Rattle.tsd_model.specs.declared.records.Record.{Record}
use Rattle.tsd_model.specs.declared.requests.Level.{Level}
use Rattle.tsd_model.specs.declared.requests.Level.TheVariants as level
use Rattle.tsd_model.specs.Geometry.{IsLawful}
use Rattle.tsd_model.specs.Records.{kept_of, upgraded_record}
use Rattle.tsd_model.specs.Attained.{record_level}
use Rattle.image_layout.specs.Header.{IsVersion}
use Rattle.image_layout.specs.Image.{kept_len}

-- the version, the size of the disk, and at index b the record of primary block b
pub record Store : Type 0 where
  pub version : ℕ
  pub geometry : Geometry
  pub records : List Record

-- ---- what is right
-- a capability of 16 bytes in version 1, a digest of 32 in version 2
abbrev pub IsOfVersion : ℕ → KeptCap → Type 0
IsOfVersion version (Plain c) = (version ≡ 1) × (length c.bytes ≡ kept_len version)
IsOfVersion version (Digested d) = (version ≡ 2) × (length d ≡ kept_len version)

pub record IsRecord (version : ℕ) (r : Record) : Type 0 where
  pub read : IsOfVersion version r.read
  pub write : IsOfVersion version r.write

abbrev pub AreRecords : ℕ → List Record → Type 0
AreRecords version records = (block : ℕ) (r : Record) → slice_get records block ≡ Some r → IsRecord version r

-- what a store's value must be: the version and the size are right, and each primary block has a record of the version
pub record IsTable (s : Store) : Type 0 where
  pub version : IsVersion s.version
  pub lawful : IsLawful s.geometry
  pub each : length s.records ≡ s.geometry.primaries
  pub kept : AreRecords s.version s.records

-- ---- what it tells, and what changes it
-- the level that a shown capability attains at a primary block
abbrev pub level_shown : Store → ℕ → Shown → Level
level_shown s block Nothing = level.Bare
level_shown s block (Key c) = record_level (slice_get s.records block) (kept_of s.version c)

-- in version 2: of each capability only the digest is kept
abbrev pub upgraded : Store → Store
upgraded s = record s { version = 2; records = map upgraded_record s.records }
