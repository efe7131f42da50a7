-- Why an image wasn't opened, as a status, and the state of a disk that was.
use Rattle.std.proofs.Common.{◌≡◌, ◌∙◌, ap, sym, subst, refl, arith}
use Rattle.std.specs.Prelude.{ℕ, List, Result, Err}
use Rattle.image_runs.proofs.Common.{World, Sessions, no_sessions, fitted, State, at_rest, sweep_flag, Image, says_open, View, IsSound, PutsAll, home, IsGood, world_of, header_on, tables_of, IsForeign, IsOpening, IsUntouched, SparesDamaged, OpenFault, Core, state_on, told_world, IsJudged, IsUnopened, status_of}
use Rattle.intent_journal.specs.Crash.{IsTheSame}
use Rattle.recovery.specs.declared.fault.OpenFault.TheVariants as opening
use Rattle.tsd_words.specs.declared.status.Status.TheVariants as status
use Rattle.image_runs.proofs.Saying.{put_behind}

-- the flag of a sweep, in the tables and on the image
pub flag_of : (x : Image) → (tables_of x).is_sweeping ≡ says_open (x sweep_flag)
unfolding tables_of
flag_of x = refl

-- a disk with no session open, of this world
pub state_of_none : (c : Core) (x : Image) (w : World) → world_of x ≡ w → c.grants.sessions ≡ no_sessions → state_on c x ≡ at_rest w
state_of_none c x w e none =
    let same : state_on c x ≡ record { world = world_of x; sessions = fitted (told_world c) no_sessions } =
    ap (λ (v : Sessions). let s : State = record { world = world_of x; sessions = fitted (told_world c) v } in s) none in
    same ∙ ap at_rest e

pub judged_of : (image : Image) (why : OpenFault) → IsOpening image (Err why) → IsJudged image (status_of why)
judged_of image (opening.Image reason) h = h
judged_of image why h = tt

pub unopened_of : (why : OpenFault) → IsUnopened (status_of why)
unopened_of (opening.Image reason) = tt
unopened_of why = tt

pub device_of : (why : OpenFault) → status_of why ≡ status.DeviceFault → why ≡ opening.Device
device_of opening.Device e = refl
device_of why e = absurd (cc)

-- a fault of the device has that status alone
pub device_only : {T : Type 0} (why : OpenFault) → ◌≡◌ {A = Result T OpenFault} (Err why) (Err opening.Device) → status_of why ≡ status.DeviceFault
device_only opening.Device e = refl
device_only why e = absurd (cc)

-- ---- what isn't a disk of this format

-- an image that stands for a world passes all tests
pub not_foreign : (image : Image) → IsGood image → ¬ IsForeign image
not_foreign image good foreign = foreign (header_on (home image)) (record { formatted = good.formatted; journal = good.journal; header = good.header })

-- a text that is put writes nothing
pub untouched_put : {T E : Type 0} (told : Type 0) (text : List ℕ) (old mid new : View) (result : Result T E) → told → PutsAll told text mid new result → IsUntouched old mid → IsUntouched old new
untouched_put told text old mid new result tells puts before = record { writes = puts.puts.writes ∙ before.writes; reads = puts.reads tells ∙ before.reads }

-- ---- an image that stands for no world

-- a text that is put spares what was spared
pub spared_put : {T E : Type 0} (told : Type 0) (text : List ℕ) (old mid new : View) (result : Result T E) → told → IsSound mid → PutsAll told text mid new result → SparesDamaged old mid → SparesDamaged old new
spared_put told text old mid new result tells sound puts before bad =
    let was = before bad in
    record {
      reads = subst (IsTheSame old.reads) (sym (puts.reads tells)) was.reads;
      writes = omega (arith, was.writes, puts.puts.writes);
      left = λ firm.
          put_behind old mid new text (λ x f. IsTheSame old.reads x) (λ x f. IsTheSame old.reads x) sound (was.left firm) (puts.any_moment tells) (λ x f left. left)
          (λ x f left part. left);
    }
