-- A copy over an image, joined from its steps.
use Rattle.std.proofs.Common.{◌≡◌, ◌≢◌, ◌<◌, inl, inr, ℕ, Bool, true, false, cond, nat_lt, refl, sym, ◌∙◌, ap, subst, arith, Option, Some, None, Result, Ok, Err, OnOk}
use Rattle.std.proofs.lemmas.Bool.{ltb-true}
use Rattle.image_shell.proofs.Common.{AreLike, CopyFs, Core, FilesView, Fits, Geometry, Image, IsFirm, IsForeign, IsGood, IsJudged, IsQuiet, IsRootDenied, IsSound, IsUnopened, IsUntouched, IsVolumeAt, LeavesBehind, LeavesOnly, Level, Rose, Sessions, SparesDamaged, StandAlike, Stands, Status, View, Volume, World, at_core, behind_after, fitted, joined, level_at, like_at, no_sessions_fit, not_foreign, told_by, told_world, weakened, world_of, world_valid}
use Rattle.tsd_model.specs.declared.requests.Level.TheVariants as level
use Rattle.tsd_words.specs.declared.status.Status.TheVariants as status
use Rattle.image_runs.specs.Looking.{OnlyLooks}
use Rattle.image_shell.proofs.FromLaws.{level_like}
use Rattle.image_shell.proofs.StartLaws.{alike_of}
use Rattle.image_copy.specs.Copied.{AreAdmitted, IsCopyJudged, IsKeptOut, level_under, source, target}
use Rattle.image_copy.specs.Ends.{EndsAs}
use Rattle.image_copy.specs.Steps.{CarriesOut, CopiesOn, IsAdmitted, IsDenial, IsLeftBy, IsLeftFrom, IsRefused, IsSharing, IsStartOf, IsUnended}
use Rattle.image_copy.specs.declared.ending.CopyEnd.{CopyEnd}
use Rattle.tsd_words.specs.declared.commands.TreeRoot.{TreeRoot}
use Rattle.image_copy.proofs.SharedLaws.{sharing_like}

-- ---- who may come in, by what memory tells

denied_like : (u w : World) → AreLike u w → (root : ℕ) (cap : _) (l : Level) → IsRootDenied u root cap l → IsRootDenied w root cap l
denied_like u w like root cap l h = (h.0 ∙ level_like root cap u w like, h.1)

pub denial_like : (u w : World) → AreLike u w → (words : CopyFs) (r : Option Level) → IsDenial u words r → IsDenial w words r
denial_like u w like words (Some l) (inl from) = inl (denied_like u w like words.from.root words.from.cap l from)
denial_like u w like words (Some l) (inr into) = inr (sym (level_like words.from.root words.from.cap u w like) ∙ into.0, denied_like u w like words.into.root words.into.cap l into.1)
denial_like u w like words None both = record { from = sym (level_like words.from.root words.from.cap u w like) ∙ both.from; into = sym (level_like words.into.root words.into.cap u w like) ∙ both.into }

split_level : (b : Bool) (x : Level) → cond b x level.Bare ≡ level.Write → b ≡ true
split_level true x e = refl
split_level false x e = absurd (cc)

-- where a capability attains write, its root is inside
pub root_inside : (vol : Volume) (t : TreeRoot) → level_under (told_by vol) t ≡ level.Write → (told_by vol).geometry ≡ vol.tables.geometry → (told_by vol).geometry.primaries < (told_by vol).geometry.blocks → t.root < vol.tables.geometry.blocks
root_inside vol t attained told fewer =
    let low = ltb-true t.root (told_by vol).geometry.primaries (split_level (nat_lt t.root (told_by vol).geometry.primaries) _ attained) in
    subst (λ (g : Geometry). t.root < g.blocks) told (omega (arith, low, fewer))

-- ---- a copy begins

module _ (told : Type 0) (words : CopyFs) (vol : Volume) (v : View) (sound : told → IsSound v) (at : told → IsVolumeAt vol v) (c : Core) (shared : Option ℕ) (admitted : IsAdmitted vol words c shared) (f g : FilesView) (from : f ≡ source words) (into : g ≡ target words) where
  pub begins_on : IsStartOf told f g c v
  begins_on = rw (from, into) (record {
    ready = admitted.ready;
    source = ap (λ (o : Volume). level_at (told_by o) words.from.root words.from.cap) admitted.of ∙ admitted.both.from;
    target = ap (λ (o : Volume). level_at (told_by o) words.into.root words.into.cap) admitted.of ∙ admitted.both.into;
    source_asks = refl;
    target_asks = refl;
    at = λ t. record {
      core = at_core c v (subst (λ (o : Volume). IsVolumeAt o v) (sym admitted.of) (at t));
      world = refl;
      valid = world_valid v.reads (world_of v.reads) (sound t).own.whole (record { good = (at t).good; world = refl });
      fits = subst (λ (u : Sessions). Fits (world_of v.reads) u) (sym (ap (fitted (told_world c)) admitted.none)) (no_sessions_fit (world_of v.reads));
    };
  })

  pub shares_on : told → IsSharing (world_of v.reads) f.root g.root shared
  shares_on t = rw (from, into) (sharing_like (told_by vol) (world_of v.reads) (like_at vol v (at t)) words.from.root words.into.root shared admitted.sharing)

-- ---- over an image that wasn't opened

pub unopened_unended : (why : Status) → IsUnopened why → IsUnended why
unopened_unended (status.NotImage why) h = tt
unopened_unended status.DeviceFault h = tt
unopened_unended status.NoMemory h = tt
unopened_unended why h = absurd h

pub unopened_judged : (words : CopyFs) (image : Image) (why : Status) → IsUnopened why → IsJudged image why → IsCopyJudged words image why
unopened_judged words image (status.NotImage why) h judged = judged
unopened_judged words image status.DeviceFault h judged = tt
unopened_judged words image status.NoMemory h judged = tt
unopened_judged words image why h judged = absurd h

pub not_carried_out : (told : Type 0) (words : CopyFs) (old new : View) (why : Status) → IsUnended why → (told → IsCopyJudged words old.reads why) → (told → new.sent ≡ old.sent) → (told → IsFirm old → LeavesOnly old new (λ x s. StandAlike old.reads x × (s ≡ old.sent)))
    → (told → IsForeign old.reads → IsUntouched old new) → (told → SparesDamaged old new) → new.put_faults ≡ old.put_faults
    → ((why ≡ status.DeviceFault → Rose old.faults new.faults) × (why ≢ status.DeviceFault → new.faults ≡ old.faults)) → (told → IsFirm old → LeavesBehind old new) → (told → IsKeptOut why → OnlyLooks old new) → CarriesOut told words old new (Err why)
not_carried_out told words old new why stops judged sent any untouched spared put_faults faults aside looks = record {
  has_words = tt;
  ends = λ t. tt;
  stops = stops;
  read = λ t. tt;
  judged = judged;
  sent = sent;
  any_moment = λ t firm. weakened old new (λ x s. StandAlike old.reads x × (s ≡ old.sent)) (λ x s. IsLeftFrom words old.reads x × (s ≡ old.sent)) (any t firm) (λ x s left. (inl left.0, left.1));
  behind = aside;
  not_begun = λ t not firm. any t firm;
  looked = looks;
  untouched = untouched;
  spared = spared;
  put_faults = put_faults;
  faults = (λ is. faults.0 (cc), λ ne. faults.1 (λ e. ne (ap Err e)));
}

-- ---- over one that was

module _ (told : Type 0) (words : CopyFs) (old mid : View) (vol : Volume) (at : told → IsVolumeAt vol mid) (good : told → IsGood old.reads) (same : told → world_of mid.reads ≡ world_of old.reads) (sent : told → mid.sent ≡ old.sent)
    (any : told → IsFirm old → LeavesOnly old mid (λ x s. StandAlike old.reads x × (s ≡ old.sent))) (put_faults : mid.put_faults ≡ old.put_faults) (faults : mid.faults ≡ old.faults)
    (sound : told → IsSound mid) (aside : told → IsFirm old → LeavesBehind old mid) (looks : told → OnlyLooks old mid) where
  spared_all : (new : View) → told → SparesDamaged old new
  spared_all new t bad = absurd (bad (good t))

  untouched_all : (new : View) → told → IsForeign old.reads → IsUntouched old new
  untouched_all new t foreign = absurd (not_foreign old.reads (good t) foreign)

  denial_all : (r : Option Level) → IsDenial (told_by vol) words r → told → IsDenial (world_of old.reads) words r
  denial_all r denial t = subst (λ (w : World). IsDenial w words r) (same t) (denial_like (told_by vol) (world_of mid.reads) (like_at vol mid (at t)) words r denial)

  kept_out : (why : Status) → IsUnended why → (told → IsCopyJudged words old.reads why) → why ≢ status.DeviceFault → CarriesOut told words old mid (Err why)
  kept_out why stops judged other = not_carried_out told words old mid why stops judged sent any (untouched_all mid) (spared_all mid) put_faults (λ is. absurd (other is), λ ne. faults) aside (λ t out. looks t)

  pub refused : (why : Status) → IsRefused (told_by vol) words why → CarriesOut told words old mid (Err why)
  refused (status.RootDenied attained) denial = kept_out (status.RootDenied attained) tt (λ t. (good t, denial_all (Some attained) denial t)) (λ e. cc)
  refused status.NoMemory h = kept_out status.NoMemory tt (λ t. tt) (λ e. cc)
  refused why h = absurd h

  module _ (new : View) (c : Core) (admitted : AreAdmitted (told_by vol) words) where
    moments_all : told → IsFirm old → LeavesOnly mid new (λ x s. IsLeftBy (source words) (target words) (world_of mid.reads) x × (s ≡ mid.sent)) → LeavesOnly old new (λ x s. IsLeftFrom words old.reads x × (s ≡ old.sent))
    moments_all t firm run =
        joined old mid new (λ x s. IsLeftFrom words old.reads x × (s ≡ old.sent)) (λ x s. IsLeftBy (source words) (target words) (world_of mid.reads) x × (s ≡ mid.sent))
        (weakened old mid (λ x s. StandAlike old.reads x × (s ≡ old.sent)) (λ x s. IsLeftFrom words old.reads x × (s ≡ old.sent)) (any t firm) (λ x s left. (inl left.0, left.1)))
        run
        (λ x s left. (inr (good t, subst (λ (w : World). IsLeftBy (source words) (target words) w x) (same t) left.0), left.1 ∙ sent t))

    carried_out : (r : Result CopyEnd Status) → (told → OnOk r (IsQuiet new.reads)) → CopiesOn told (source words) (target words) c mid new r → CarriesOut told words old new r
    carried_out (Ok e) quiet copies = record {
      has_words = copies.ended.words;
      ends = λ t. record {
        world = world_of new.reads;
        ends = subst (λ (w : World). EndsAs (source words) (target words) w e (world_of new.reads)) (same t) (copies.ended.ends t);
        at_ease = record { firm = (copies.ended.at t).0; stands = record { good = (copies.ended.at t).1.good; world = refl }; quiet = quiet t };
      };
      stops = tt;
      read = λ t. (good t, denial_all None admitted t);
      judged = λ t. tt;
      sent = λ t. copies.sent t ∙ sent t;
      any_moment = λ t firm. moments_all t firm (copies.any_moment t);
      behind = λ t firm. behind_after old mid new (sound t) (same t) (aside t firm) (copies.behind t);
      not_begun = λ t. tt;
      looked = λ t. tt;
      untouched = untouched_all new;
      spared = spared_all new;
      put_faults = copies.put_faults ∙ put_faults;
      faults = (λ is. absurd (cc), λ ne. copies.ended.faults ∙ faults);
    }
    carried_out (Err status.DeviceFault) quiet copies = record {
      has_words = tt;
      ends = λ t. tt;
      stops = tt;
      read = λ t. tt;
      judged = λ t. tt;
      sent = λ t. copies.sent t ∙ sent t;
      any_moment = λ t firm. moments_all t firm (copies.any_moment t);
      behind = λ t firm. behind_after old mid new (sound t) (same t) (aside t firm) (copies.behind t);
      not_begun = λ t not. absurd not;
      looked = λ t out. absurd out;
      untouched = untouched_all new;
      spared = spared_all new;
      put_faults = copies.put_faults ∙ put_faults;
      faults = (λ is. subst (λ (n : ℕ). Rose n new.faults) faults copies.stopped, λ ne. absurd (ne refl));
    }
    carried_out (Err status.NoMemory) quiet copies =
        not_carried_out told words old new status.NoMemory tt (λ t. tt) (λ t. copies.sent t ∙ sent t)
        (λ t firm. joined old mid new (λ x s. StandAlike old.reads x × (s ≡ old.sent)) (λ x s. Stands x (world_of mid.reads) × (s ≡ mid.sent)) (any t firm) (copies.stopped.1 t)
        (λ x s left. (alike_of old.reads x (good t) (subst (λ (w : World). Stands x w) (same t) left.0), left.1 ∙ sent t)))
        (untouched_all new) (spared_all new) (copies.put_faults ∙ put_faults) (λ is. absurd (cc), λ ne. copies.stopped.0 ∙ faults)
        (λ t firm. behind_after old mid new (sound t) (same t) (aside t firm) (copies.behind t)) (λ t out. absurd out)
    carried_out (Err why) quiet copies = absurd copies.stopped

    pub carried_out_by : (f g : FilesView) → f ≡ source words → g ≡ target words → (r : Result CopyEnd Status) → (told → OnOk r (IsQuiet new.reads)) → CopiesOn told f g c mid new r → CarriesOut told words old new r
    carried_out_by f g from into r quiet copies = carried_out r quiet (subst (λ (h : FilesView). CopiesOn told (source words) h c mid new r) into (subst (λ (h : FilesView). CopiesOn told h g c mid new r) from copies))
