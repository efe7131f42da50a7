-- What a run leaves alone and writes that opens an image, also behind a text that is put.
use Rattle.std.proofs.Common.{◌≡◌, ◌≤◌, ◌∙◌, List, [], ℕ, arith}
use Rattle.image_device.specs.Calls.{Uses}
use Rattle.image_runs.proofs.Common.{Image, IsFirm, IsForeign, IsGood, IsQuiet, IsSound, IsUntouched, LeavesBehind, LeavesOnly, LeavesPart, SparesDamaged, StandAlike, Status, IsVolumeAt, Volume, world_of, Works, View, behind, home, size_of_image, tables_of}
use Rattle.recovery.specs.Opening.{LeavesData, opening_writes}
use Rattle.recovery.specs.Spared.{SparesImage}
use Rattle.volume_laws.specs.Data.{HasSameData}
use Rattle.image_runs.specs.Looking.{LooksAt, OnlyLooks, OnlyOpens}
use Rattle.image_runs.specs.Sending.{HasPut}
use Rattle.image_runs.proofs.Behind.{behind_kept, behind_said, behind_then, size_of_volume}
use Rattle.image_runs.proofs.Opened.{not_foreign, spared_put, untouched_put}
use Rattle.image_runs.proofs.Saying.{put_behind}

pub looked : (old new : View) → Uses (opening_writes old.reads) old new → (IsQuiet old.reads → new.writes ≤ old.writes) → OnlyLooks old new
looked old new uses unwritten = record { quiet = λ quiet. omega (arith, uses.writes, unwritten quiet); most = uses.most }

-- an opening is no more than that
pub opens_alone : {told : Type 0} {old new : View} → (told → IsForeign old.reads → IsUntouched old new) → (told → SparesDamaged old new) → (told → IsFirm old → LeavesData old new)
    → (told → Uses (opening_writes old.reads) old new) → (told → IsQuiet old.reads → Uses 0 old new) → (told → new.sent ≡ old.sent)
    → (told → IsFirm old → LeavesOnly old new (λ x f. StandAlike old.reads x × (f ≡ old.sent))) → Works old new → OnlyOpens told old new
opens_alone {old = old} {new = new} foreign damaged kept uses unwritten sent moments works = record {
  looks = record {
    spares = record { foreign = foreign; damaged = damaged; behind = λ tells firm. behind_kept (size_of_image old.reads) old new (kept tells firm) };
    only = λ tells. looked old new (uses tells) (λ quiet. omega (arith, (unwritten tells quiet).most));
    kept = kept;
  };
  sent = sent;
  any_moment = moments;
  works = works;
}

-- where the image stands for a world
pub spares_good : {told : Type 0} {old new : View} → (told → IsGood old.reads) → (told → IsFirm old → LeavesBehind old new) → SparesImage told old new
spares_good {old = old} good after = record { foreign = λ tells foreign. absurd (not_foreign old.reads (good tells) foreign); damaged = λ tells bad. absurd (bad (good tells)); behind = after }

-- and a run follows of the volume that was opened
pub spares_then : {told : Type 0} {old mid new : View} (vol : Volume) → (told → IsSound mid) → (told → IsGood old.reads) → (told → IsVolumeAt vol mid) → (told → world_of mid.reads ≡ world_of old.reads)
    → (told → IsFirm old → LeavesBehind old mid) → (told → LeavesPart (behind vol.tables.geometry) mid new) → SparesImage told old new
spares_then {old = old} {mid = mid} {new = new} vol sound good at same before more =
    spares_good good (λ tells firm. behind_then vol.tables.geometry old mid new (sound tells) (size_of_volume vol old.reads mid (at tells) (same tells)) (before tells firm) (more tells))

-- ---- a text that is put

pub spares_put : {told : Type 0} {text : List ℕ} {done r : Status} {old mid new : View} → (told → IsSound mid) → HasPut told text done r mid new → SparesImage told old mid → SparesImage told old new
spares_put {told = told} {text = text} {old = old} {mid = mid} {new = new} sound has spares = record {
  foreign = λ tells foreign. untouched_put told text old mid new has.put tells has.puts (spares.foreign tells foreign);
  damaged = λ tells. spared_put told text old mid new has.put tells (sound tells) has.puts (spares.damaged tells);
  behind = λ tells firm. behind_said (behind (size_of_image old.reads)) text old mid new (sound tells) (spares.behind tells firm) (has.puts.any_moment tells);
}

pub looks_put : {told : Type 0} {text : List ℕ} {done r : Status} {old mid new : View} → (told → IsSound mid) → HasPut told text done r mid new → LooksAt told old mid → LooksAt told old new
looks_put {text = text} {old = old} {mid = mid} {new = new} sound has looks =
    let kept : Image → List ℕ → Type 0 = λ x f. HasSameData (tables_of (home old.reads)).geometry [] old.reads x in
    record {
      spares = spares_put sound has looks.spares;
      only = λ tells. record { quiet = λ quiet. has.puts.puts.writes ∙ (looks.only tells).quiet quiet; most = omega (arith, has.puts.puts.writes, (looks.only tells).most) };
      kept = λ tells firm. put_behind old mid new text kept kept (sound tells) (looks.kept tells firm) (has.puts.any_moment tells) (λ x f same. same) (λ x f same part. same);
    }
