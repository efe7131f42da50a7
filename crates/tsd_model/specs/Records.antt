-- What is kept of capabilities.
use Rattle.std.specs.Prelude.{ℕ, Bool, false, cond, ◌&&◌, ◌==◌, map, bytes_eq}
use Rattle.sha2.specs.Sha256.{sha256}
use Rattle.tsd_model.specs.World.{World}
use Rattle.tsd_model.specs.declared.caps.Cap.{Cap}
use Rattle.tsd_model.specs.declared.caps.CapPair.{CapPair}
use Rattle.tsd_model.specs.declared.records.KeptCap.{KeptCap}
use Rattle.tsd_model.specs.declared.records.KeptCap.TheVariants.{Plain, Digested}
use Rattle.tsd_model.specs.declared.records.Record.{Record}

-- version 1 keeps a capability, version 2 its digest
abbrev pub kept_of : ℕ → Cap → KeptCap
kept_of version c = cond (version == 2) (Digested (sha256 c.bytes)) (Plain c)

abbrev pub kept : ℕ → CapPair → Record
kept version caps = record { read = kept_of version caps.read; write = kept_of version caps.write }

-- whether the same is kept
abbrev pub kept_eq : KeptCap → KeptCap → Bool
kept_eq (Plain c) (Plain d) = bytes_eq c.bytes d.bytes
kept_eq (Plain c) (Digested e) = false
kept_eq (Digested d) (Plain c) = false
kept_eq (Digested d) (Digested e) = bytes_eq d e

-- whether it is of the form that the version keeps
abbrev pub is_of_version : ℕ → KeptCap → Bool
is_of_version version (Plain c) = version == 1
is_of_version version (Digested d) = version == 2

abbrev pub is_record_of : ℕ → Record → Bool
is_record_of version r = is_of_version version r.read && is_of_version version r.write

abbrev pub upgraded_kept : KeptCap → KeptCap
upgraded_kept (Plain c) = Digested (sha256 c.bytes)
upgraded_kept (Digested d) = Digested d

abbrev pub upgraded_record : Record → Record
upgraded_record r = record { read = upgraded_kept r.read; write = upgraded_kept r.write }

-- the world in version 2: of each capability only the digest is kept
abbrev pub upgraded : World → World
upgraded w = record w { version = 2; records = map upgraded_record w.records }
