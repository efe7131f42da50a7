-- When a file system of these tests may be called.
use Rattle.std.specs.Prelude.{◌≡◌, ℕ, ◌<◌, ◌≤◌, Bool, false, IsTrue, slice_get}
use Rattle.std.proofs.Common.{refl, sym, subst, ltb-false}
use Rattle.tsd_model.specs.Attained.{record_level}
use Rattle.tsd_model.specs.Records.{kept_of}
use Rattle.tsd_model.specs.Sessions.{is_open, sessions_max}
use Rattle.tsd_model.specs.declared.caps.Cap.{Cap}
use Rattle.tsd_model.specs.declared.geometry.Geometry.{Geometry}
use Rattle.tsd_model.specs.declared.requests.Level.TheVariants as level
use Rattle.fs_port.specs.Files.{FilesView, IsClientReady}
use Rattle.fixtures_fs.specs.Ours.{IsOurs, cap_of_byte}
use Rattle.fixtures_fs.specs.Untold.{untold_view}

-- where the disk isn't spent and has a primary block
pub is_ready : (f : FilesView) (g : Geometry) (faults : ℕ) (spent : Bool) → IsOurs f → spent ≡ false → 0 < g.primaries → IsClientReady f (untold_view g faults spent)
is_ready f g faults spent ours unspent some =
    let v = untold_view g faults spent in
    record {
      unspent = unspent;
      number = subst (λ s. s ≤ sessions_max) (sym ours.session) (ltb-false 64 1 refl);
      begun = subst (λ s. IsTrue (is_open v.sessions s)) (sym ours.session) refl;
      primary = subst (λ r. r < g.primaries) (sym ours.root) some;
      attains = subst (λ (c : Cap). record_level (slice_get v.records f.root) (kept_of 1 c) ≡ level.Write) (sym ours.cap)
          (subst (λ r. record_level (slice_get v.records r) (kept_of 1 (cap_of_byte 187)) ≡ level.Write) (sym ours.root) refl);
    }
