-- The file systems of these tests.
use Rattle.std.specs.Prelude.{◌≡◌, ℕ, replicate}
use Rattle.tsd_model.specs.declared.caps.Cap.{Cap}
use Rattle.fs_port.specs.Files.{FilesView}

-- what is shown, sixteen times one byte
abbrev pub cap_of_byte : ℕ → Cap
cap_of_byte byte = record { bytes = replicate 16 byte }

-- one of session 1 at block 0
pub record IsOurs (f : FilesView) : Type 0 where
  pub root : f.root ≡ 0
  pub cap : f.cap ≡ cap_of_byte 187
  pub session : f.session ≡ 1
