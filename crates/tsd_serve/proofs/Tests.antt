-- From the tests of the first side to what the command did.
use Rattle.std.proofs.Common.{◌≡◌, ◌≢◌, inl, inr, ⊎_elim, ℕ, ◌^◌, ◌<◌, ◌≤◌, List, [], ◌∷◌, ◌++◌}
use Rattle.std.proofs.Common.{refl, sym, ◌∙◌, ap, subst, arith}
use Rattle.std.proofs.Math.Bridge.{le_prop}
use Rattle.std.proofs.Math.Logic.{∥∥₁_elim}
use Rattle.std.specs.Coded.{coded_ℕ, coded_list}
use base.Stored.{Coded-set}
use mathlib.Core.Bool.{Bool-set}
use Rattle.std.specs.Prelude.{◌↔◌, Option, None, Some, Result, Ok, Err}
use Rattle.image_device.specs.Counts.{CountsFaultOf, Rose}
use Rattle.image_device.specs.Image.{Image, IsImage}
use Rattle.image_layout.specs.declared.fault.ImageFault.{ImageFault}
use Rattle.image_probe.proofs.FirstReads.{counts_none, reads_none}
use Rattle.image_probe.specs.Reading.{InReading, OnlyReads, ReadCounts}
use Rattle.image_probe.specs.Tested.{IsFaultOf}
use Rattle.image_runs.specs.Check.{HasChecked}
use Rattle.image_runs.specs.Opened.{IsUnopened, status_of}
use Rattle.image_runs.specs.Sending.{ProperFrontWasSent}
use Rattle.image_runs.specs.declared.check.Telling.{Telling}
use Rattle.image_world.proofs.FaultLaws.{no_fault}
use Rattle.image_world.specs.Faults.{IsFirstFault, IsGood}
use Rattle.image_world.specs.Stands.{world_of}
use Rattle.mirror_device.specs.Copying.{CopyWrites, Copying, InCopying, IsBrokenOff, IsLeftOfFirst, differing, differing_below}
use Rattle.mirror_device.specs.Mirror.{start_at}
use Rattle.mirror_device.specs.Putting.{SidesSend}
use Rattle.mirror_device.specs.Sending.{IsIdleSince, StartsAt}
use Rattle.mirror_device.specs.SideCalls.{SidesPut}
use Rattle.mirror_device.specs.SidesView.{IsItemNow, IsSideNow, Item, SidesAreSound, SidesView, SideView}
use Rattle.mirror_device.specs.declared.side.Side.{Side}
use Rattle.recovery.specs.declared.fault.OpenFault.{OpenFault}
use Rattle.recovery.specs.declared.fault.OpenFault.TheVariants as opening
use Rattle.serving.specs.Ran.{Taking}
use Rattle.tsd_words.specs.StatusText.{fault_text}
use Rattle.tsd_words.specs.declared.commands.Command.{Command}
use Rattle.tsd_words.specs.declared.commands.Command.TheVariants as command
use Rattle.tsd_words.specs.declared.status.Status.{Status}
use Rattle.tsd_words.specs.declared.status.Status.TheVariants as status
use Rattle.tsd_serve.specs.MirrorDid.{AreSoundAtEnd, HasFailed as Failed, MirrorHeadline, NoSideIsLeft, WritesWhatDiffers}
use Rattle.tsd_serve.specs.MirrorStatus.{own_status}
use Rattle.tsd_serve.specs.MirrorTest.{AreSpared, DidTest, HasPassed, HasPut, HasStopped, HasTold, IsFound, OpensImage}
use Rattle.tsd_serve.specs.MirrorTest.{StandsForNone, TellsWhatIsWrong}
use Rattle.tsd_serve.specs.declared.mirror_status.MirrorStatus.TheVariants.{Ended, SideLost}
use Rattle.tsd_serve.proofs.Mirrored.{headline_unbegun}

-- ---- reads of the first side, and then a copying

module _ (u v : SidesView) (reads : OnlyReads u v) where
  image_back : (x : Image) → IsImage v.first.reads v.first.loose x → IsImage u.first.reads u.first.loose x
  image_back x image = record {
    agrees = λ n h. image.agrees n ((λ j. reads.loose j n) ∙ h) ∙ (λ j. reads.reads j n);
    whole = image.whole;
  }

  image_on : (x : Image) → IsImage u.first.reads u.first.loose x → IsImage v.first.reads v.first.loose x
  image_on x image = record {
    agrees = λ n h. image.agrees n (sym (λ j. reads.loose j n) ∙ h) ∙ sym (λ j. reads.reads j n);
    whole = image.whole;
  }

  syncs : v.second.syncs ≡ u.second.syncs
  syncs = ap (λ (w : SideView). w.syncs) reads.second

  now_copying : (i : Item) → IsItemNow u i → InCopying u i
  now_copying i now = record {
    first = now.first.image;
    second = λ lt. absurd (omega (arith, now.second.syncs));
    sent = now.sent;
  }

  read_copying : (i : Item) → InReading u i → InCopying u i
  read_copying i here = record {
    first = here.first;
    second = λ lt. absurd (omega (arith, here.second.syncs));
    sent = here.sent;
  }

  copying_back : (i : Item) → InCopying v i → InCopying u i
  copying_back i here = record {
    first = image_back i.first.image here.first;
    second = λ lt. image_back i.second.image (here.second (omega (arith, lt, syncs)));
    sent = here.sent ∙ reads.sent;
  }

  copying_on : (i : Item) → InCopying u i → InCopying v i
  copying_on i here = record {
    first = image_on i.first.image here.first;
    second = λ lt. image_on i.second.image (here.second (omega (arith, lt, syncs)));
    sent = here.sent ∙ sym reads.sent;
  }

  pub copies_on : (w : SidesView) → Copying v w → Copying u w
  copies_on w copying = record {
    reads = copying.reads ∙ reads.reads;
    loose = λ n h. copying.loose n ((λ j. reads.loose j n) ∙ h);
    sent = copying.sent ∙ reads.sent;
    later = omega (arith, reads.later, copying.later);
    nothing_else = λ t i le left. ⊎_elim
        (λ was. ⊎_elim inl (λ here. inr (read_copying i here)) (reads.nothing_else t i le was))
        (λ here. inr (copying_back i here))
        (copying.nothing_else t i (omega (arith, le, reads.later)) left);
    keeps = λ t i le left. copying.keeps t i (omega (arith, le, reads.later)) (reads.keeps t i le left);
  }

  pub left_back : (x : Image) (f : _) → IsLeftOfFirst v x f → IsLeftOfFirst u x f
  left_back x f was = (image_back x was.0, was.1 ∙ reads.sent)

  module _ (sound : SidesAreSound u) where
    pub idle_since : IsIdleSince (start_at u) v
    idle_since = record {
      sent = reads.sent;
      left = λ i left. copying_on i (⊎_elim
          (λ was. now_copying i (sound.only_now i was))
          (read_copying i)
          (reads.nothing_else u.clock i (omega arith) left));
    }

    left_now : (i : Item) → v.left u.clock i
        → IsImage u.first.reads u.first.loose i.first.image × IsSideNow u.second i.second
    left_now i left = ⊎_elim
        (λ was. let now = sound.only_now i was in (now.first.image, now.second))
        (λ here. (here.first, here.second))
        (reads.nothing_else u.clock i (omega arith) left)

    -- both are as they were
    pub spared_reads : AreSpared u v
    spared_reads = record {
      reads = reads.reads;
      loose = reads.loose;
      second = reads.second;
      left_first = λ i left. (left_now i left).0;
      left_second = λ i left. (left_now i left).1;
    }

    -- and so they are once a text was put
    pub spared_put : (w : SidesView) (text : List ℕ) → SidesSend text v w → AreSpared u w
    spared_put w text send = record {
      reads = (λ j. (send.first j).reads) ∙ reads.reads;
      loose = (λ j. (send.first j).loose) ∙ reads.loose;
      second = send.second ∙ reads.second;
      left_first = λ i left. ⊎_elim
          (λ was. (left_now i was).0)
          (λ here. image_back i.first.image here.first.image)
          (send.nothing_else u.clock i reads.later left);
      left_second = λ i left. ⊎_elim
          (λ was. (left_now i was).1)
          (λ here. subst (λ (s : SideView). IsSideNow s i.second) reads.second here.second)
          (send.nothing_else u.clock i reads.later left);
    }

    -- nothing was sent
    pub none_sent : (i : Item) → v.left u.clock i → i.sent ≡ u.sent
    none_sent i left = ⊎_elim
        (λ was. (sound.only_now i was).sent)
        (λ here. here.sent)
        (reads.nothing_else u.clock i (omega arith) left)

    -- a crash since leaves what one in a copying leaves
    pub since_read : (i : Item) → v.left u.clock i → InCopying u i
    since_read i left = ⊎_elim
        (λ was. now_copying i (sound.only_now i was))
        (read_copying i)
        (reads.nothing_else u.clock i (omega arith) left)

    pub since_copied : (w : SidesView) → Copying v w → (i : Item) → w.left u.clock i → InCopying u i
    since_copied w copying i left = ⊎_elim
        (since_read i)
        (copying_back i)
        (copying.nothing_else u.clock i reads.later left)

  -- and what the copying writes
  writes_on : (w : SidesView) → CopyWrites v w → WritesWhatDiffers u w
  writes_on w copy =
      let same : differing v ≡ differing u = (λ j. differing_below (2 ^ 32) (reads.reads j) (ap (λ (s : SideView). s.reads) reads.second j)) in
      let count : v.second.writes ≡ u.second.writes = ap (λ (s : SideView). s.writes) reads.second in
      omega (arith, copy.second, same, count)

-- ---- the same of reads that merely were so

bytes_set : IsSet (List ℕ)
bytes_set = Coded-set (coded_list coded_ℕ)

numbers_set : IsSet ℕ
numbers_set = Coded-set coded_ℕ

less_prop : (a b : ℕ) → IsProp (a < b)
less_prop a b = le_prop

at_most_prop : (a b : ℕ) → IsProp (a ≤ b)
at_most_prop a b = le_prop

module _ (u v : SidesView) (merely : ∥ OnlyReads u v ∥₁) where
  pub same_reads : v.first.reads ≡ u.first.reads
  same_reads =
      let prop : IsProp (v.first.reads ≡ u.first.reads) = hlevel (bytes_set, numbers_set, Bool-set, less_prop) in
      ∥∥₁_elim merely prop (λ (reads : OnlyReads u v). reads.reads)

  pub same_sent : v.sent ≡ u.sent
  same_sent =
      let prop : IsProp (v.sent ≡ u.sent) = hlevel (bytes_set, numbers_set, Bool-set, less_prop) in
      ∥∥₁_elim merely prop (λ (reads : OnlyReads u v). reads.sent)

  pub copies_more : (w : SidesView) → Copying v w → ∥ Copying u w ∥₁
  copies_more w copying =
      let prop : IsProp (∥ Copying u w ∥₁) = hlevel in
      ∥∥₁_elim merely prop (λ (reads : OnlyReads u v). ∣ copies_on u v reads w copying ∣₁)

  pub writes_more : (w : SidesView) → CopyWrites v w → WritesWhatDiffers u w
  writes_more w copy = ∥∥₁_elim merely (at_most_prop _ _) (λ (reads : OnlyReads u v). writes_on u v reads w copy)

  pub left_more : (x : Image) (f : List ℕ) → IsLeftOfFirst v x f → IsLeftOfFirst u x f
  left_more x f was =
      let prop : IsProp (IsLeftOfFirst u x f) = hlevel (bytes_set, numbers_set, Bool-set, less_prop) in
      ∥∥₁_elim merely prop (λ (reads : OnlyReads u v). left_back u v reads x f was)

  module _ (sound : SidesAreSound u) where
    pub idle_more : IsIdleSince (start_at u) v
    idle_more =
        let prop : IsProp (IsIdleSince (start_at u) v) = hlevel (bytes_set, numbers_set, Bool-set, less_prop) in
        ∥∥₁_elim merely prop (λ (reads : OnlyReads u v). idle_since u v reads sound)

    pub spared_merely : AreSpared u v
    spared_merely =
        let prop : IsProp (AreSpared u v) = hlevel (bytes_set, numbers_set, Bool-set, less_prop) in
        ∥∥₁_elim merely prop (λ (reads : OnlyReads u v). spared_reads u v reads sound)

    pub put_merely : (w : SidesView) (text : List ℕ) → SidesSend text v w → AreSpared u w
    put_merely w text send =
        let prop : IsProp (AreSpared u w) = hlevel (bytes_set, numbers_set, Bool-set, less_prop) in
        ∥∥₁_elim merely prop (λ (reads : OnlyReads u v). spared_put u v reads sound w text send)

    pub silent_merely : (i : Item) → v.left u.clock i → i.sent ≡ u.sent
    silent_merely i left =
        let prop : IsProp (i.sent ≡ u.sent) = hlevel (bytes_set, numbers_set, Bool-set, less_prop) in
        ∥∥₁_elim merely prop (λ (reads : OnlyReads u v). none_sent u v reads sound i left)

    pub since_merely : (i : Item) → v.left u.clock i → InCopying u i
    since_merely i left =
        let prop : IsProp (InCopying u i) = hlevel (bytes_set, numbers_set, Bool-set, less_prop) in
        ∥∥₁_elim merely prop (λ (reads : OnlyReads u v). since_read u v reads sound i left)

    pub copied_merely : (w : SidesView) → Copying v w → (i : Item) → w.left u.clock i → InCopying u i
    copied_merely w copying i left =
        let prop : IsProp (InCopying u i) = hlevel (bytes_set, numbers_set, Bool-set, less_prop) in
        ∥∥₁_elim merely prop (λ (reads : OnlyReads u v). since_copied u v reads sound w copying i left)

-- ---- the first side passed

module _ (told : Type 0) (words : Option Command) (u v : SidesView) (passed : HasPassed told words u v) where
  pub starts_after : StartsAt (start_at u) v
  starts_after = record {
    first_faults = passed.faults;
    second_faults = passed.counts.second_faults;
    second_syncs = passed.counts.second_syncs;
    clock = passed.counts.clock;
  }

  pub breaks_after : (w : SidesView) → IsBrokenOff v w → IsBrokenOff u w
  breaks_after w broken = record {
    first_faults = subst (λ k. Rose k w.first.faults) passed.faults broken.first_faults;
    second_faults = broken.second_faults ∙ passed.counts.second_faults;
    syncs = broken.syncs ∙ passed.counts.second_syncs;
  }

-- where no test is made
pub passed_none : (told : Type 0) (words : Option Command) (u v : SidesView) → (OpensImage words → ⊥) → u ≡ v
    → HasPassed told words u v
passed_none told words u v makes same = record {
  good = λ t opens. absurd (makes opens);
  reads = λ t. ∣ reads_none u v same ∣₁;
  counts = counts_none u v same;
  faults = sym (λ j. (same j).first.faults);
}

-- a fault that an opening has is no fault of the image but this
pub untold_by : (s : Status) → IsUnopened s → ((why : ImageFault) → s ≢ status.NotImage why) → IsFound s → ⊥
untold_by (status.NotImage why) unopened other found = other why refl
untold_by status.PutFault unopened other found = unopened
untold_by status.Done unopened other found = found
untold_by status.Usage unopened other found = found
untold_by status.SourceFault unopened other found = found
untold_by status.DeviceFault unopened other found = found
untold_by status.TooLong unopened other found = found
untold_by status.NoMemory unopened other found = found
untold_by status.Truncated unopened other found = found
untold_by (status.RootDenied level) unopened other found = found

pub stands_for_one : (x : Image) → IsGood x → StandsForNone x → ⊥
stands_for_one x good none = none (world_of x) (record { good = good; world = refl })

none_by : (x : Image) (why : ImageFault) → IsFirstFault x why → StandsForNone x
none_by x why is w stands = no_fault x why stands.good is

-- ---- it didn't

-- a fault of an opening is none of these
pub unopened_not : (r : Status) → IsUnopened r
    → (r ≢ status.Usage) × (r ≢ status.Done) × (r ≢ status.PutFault) × (r ≢ status.SourceFault)
unopened_not r unopened = (
  λ e. subst IsUnopened e unopened,
  λ e. subst IsUnopened e unopened,
  λ e. subst IsUnopened e unopened,
  λ e. subst IsUnopened e unopened,
)

-- The tests ended with a fault, of which nothing was put yet.
pub record HasNotPassed (told : Type 0) (words : Option Command) (s : Status) (u v : SidesView) : Type 0 where
  pub opens : OpensImage words
  pub unopened : IsUnopened s
  pub judged : told → (f : ImageFault) → s ≡ status.NotImage f → IsFirstFault u.first.reads f
  pub reads : told → ∥ OnlyReads u v ∥₁
  pub counts : ReadCounts u v
  pub cause : s ≡ status.DeviceFault → Rose u.first.faults v.first.faults
  pub faults : s ≢ status.DeviceFault → v.first.faults ≡ u.first.faults

-- what the failed calls of a test say, by its fault
err_in : {T : Type 0} → OpenFault → Result T OpenFault → OpenFault
err_in d (Ok x) = d
err_in d (Err e) = e

pub cause_by : {T : Type 0} (why : OpenFault) (before now : ℕ) → CountsFaultOf {T = T} opening.Device (Err why) before now
    → (why ≡ opening.Device → Rose before now) × (why ≢ opening.Device → now ≡ before)
unfolding err_in
cause_by why before now counts =
    (λ e. counts.0 (ap Err e), λ other. counts.1 (λ e. other (ap (err_in why) e)))

-- the fault of a status, or this one
fault_in : ImageFault → Status → ImageFault
fault_in f (status.NotImage g) = g
fault_in f status.Done = f
fault_in f status.Usage = f
fault_in f status.SourceFault = f
fault_in f status.DeviceFault = f
fault_in f status.PutFault = f
fault_in f status.TooLong = f
fault_in f status.NoMemory = f
fault_in f status.Truncated = f
fault_in f (status.RootDenied level) = f

pub failed_by : (told : Type 0) (words : Option Command) (why : OpenFault) (u v : SidesView) → OpensImage words
    → (told → IsFaultOf u.first.reads why) → (told → ∥ OnlyReads u v ∥₁) → ReadCounts u v
    → (why ≡ opening.Device → Rose u.first.faults v.first.faults)
    → (why ≢ opening.Device → v.first.faults ≡ u.first.faults)
    → HasNotPassed told words (status_of why) u v
unfolding fault_in
failed_by told words (opening.Image g) u v opens judged reads counts cause faults = record {
  opens = opens;
  unopened = tt;
  judged = λ t f e. subst (IsFirstFault u.first.reads) (ap (fault_in f) e) (judged t);
  reads = reads;
  counts = counts;
  cause = λ e. absurd (cc);
  faults = λ e. faults (λ d. absurd (cc));
}
failed_by told words opening.Device u v opens judged reads counts cause faults = record {
  opens = opens;
  unopened = tt;
  judged = λ t f e. absurd (cc);
  reads = reads;
  counts = counts;
  cause = λ e. cause refl;
  faults = λ e. absurd (e refl);
}
failed_by told words opening.NoMemory u v opens judged reads counts cause faults = record {
  opens = opens;
  unopened = tt;
  judged = λ t f e. absurd (cc);
  reads = reads;
  counts = counts;
  cause = λ e. absurd (cc);
  faults = λ e. faults (λ d. absurd (cc));
}

-- nothing was put
module _ (told : Type 0) (words : Option Command) (u v : SidesView) (sound : told → SidesAreSound u) where
  none_found : (s : Status) → HasNotPassed told words s u v → told → IsFound s → StandsForNone u.first.reads
  none_found (status.NotImage f) failed t found = none_by u.first.reads f (failed.judged t f refl)
  none_found status.PutFault failed t found = absurd failed.unopened
  none_found status.Done failed t found = absurd found
  none_found status.Usage failed t found = absurd found
  none_found status.SourceFault failed t found = absurd found
  none_found status.DeviceFault failed t found = absurd found
  none_found status.TooLong failed t found = absurd found
  none_found status.NoMemory failed t found = absurd found
  none_found status.Truncated failed t found = absurd found
  none_found (status.RootDenied level) failed t found = absurd found

  none_said : (s : Status) → HasNotPassed told words s u v → (TellsWhatIsWrong words → IsFound s → ⊥) → told
      → TellsWhatIsWrong words → (t : Telling) → HasChecked t s u.first.reads u.sent v.sent
  none_said status.DeviceFault failed untold t tells telling = same_sent u v (failed.reads t)
  none_said status.NoMemory failed untold t tells telling = same_sent u v (failed.reads t)
  none_said (status.NotImage f) failed untold t tells telling = absurd (untold tells tt)
  none_said status.PutFault failed untold t tells telling = absurd failed.unopened
  none_said status.Done failed untold t tells telling = absurd failed.unopened
  none_said status.Usage failed untold t tells telling = absurd failed.unopened
  none_said status.SourceFault failed untold t tells telling = absurd failed.unopened
  none_said status.TooLong failed untold t tells telling = absurd failed.unopened
  none_said status.Truncated failed untold t tells telling = absurd failed.unopened
  none_said (status.RootDenied level) failed untold t tells telling = absurd failed.unopened

  stopped_unsaid : (s : Status) → HasNotPassed told words s u v → (TellsWhatIsWrong words → IsFound s → ⊥)
      → HasStopped told words s u v
  stopped_unsaid s failed untold = record {
    opens = failed.opens;
    ended = inl failed.unopened;
    judged = failed.judged;
    none = none_found s failed;
    spared = λ t. spared_merely u v (failed.reads t) (sound t);
    said = none_said s failed untold;
    quiet = λ t none. failed.reads t;
    clock = failed.counts.clock;
    second_faults = failed.counts.second_faults;
    second_syncs = failed.counts.second_syncs;
    first_syncs = failed.counts.first_syncs;
    cause = failed.cause;
    faults = failed.faults;
    put_cause = λ e. absurd ((unopened_not s failed.unopened).2 e);
    put_faults = λ e. failed.counts.put_faults;
  }

  -- the line was put, or a front of it
  module _ (w : SidesView) (f : ImageFault) (tells : TellsWhatIsWrong words)
      (failed : HasNotPassed told words (status.NotImage f) u v) where
    first_same : SidesPut v w → w.first.faults ≡ u.first.faults
    first_same puts = puts.first_faults ∙ failed.faults (λ e. absurd (cc))

    stopped_said : (told → SidesSend (fault_text f ++ 10 ∷ []) v w) → SidesPut v w
        → (told → w.sent ≡ v.sent ++ (fault_text f ++ 10 ∷ [])) → w.put_faults ≡ v.put_faults
        → HasStopped told words (status.NotImage f) u w
    stopped_said sends puts sent fine = record {
      opens = failed.opens;
      ended = inl tt;
      judged = failed.judged;
      none = λ t found. none_by u.first.reads f (failed.judged t f refl);
      spared = λ t. put_merely u v (failed.reads t) (sound t) w (fault_text f ++ 10 ∷ []) (sends t);
      said = λ t tells telling. (
        fault_text f ++ 10 ∷ [],
        (failed.judged t f refl, refl),
        sent t ∙ ap (λ l. l ++ (fault_text f ++ 10 ∷ [])) (same_sent u v (failed.reads t)),
      );
      quiet = λ t none. absurd (none tells tt);
      clock = omega (arith, failed.counts.clock, puts.clock);
      second_faults = puts.second_faults ∙ failed.counts.second_faults;
      second_syncs = puts.second_syncs ∙ failed.counts.second_syncs;
      first_syncs = puts.first_syncs ∙ failed.counts.first_syncs;
      cause = λ e. absurd (cc);
      faults = λ e. first_same puts;
      put_cause = λ e. absurd (cc);
      put_faults = λ e. fine ∙ failed.counts.put_faults;
    }

    stopped_cut : (told → SidesSend (fault_text f ++ 10 ∷ []) v w) → SidesPut v w
        → (told → ProperFrontWasSent v.sent (fault_text f ++ 10 ∷ []) w.sent) → Rose v.put_faults w.put_faults
        → HasStopped told words status.PutFault u w
    stopped_cut sends puts front rose = record {
      opens = failed.opens;
      ended = inr (tells, refl);
      judged = λ t g e. absurd (cc);
      none = λ t found. none_by u.first.reads f (failed.judged t f refl);
      spared = λ t. put_merely u v (failed.reads t) (sound t) w (fault_text f ++ 10 ∷ []) (sends t);
      said = λ t tells telling. (
        status.NotImage f,
        fault_text f ++ 10 ∷ [],
        (failed.judged t f refl, refl),
        subst (λ (b : List ℕ). ProperFrontWasSent b (fault_text f ++ 10 ∷ []) w.sent) (same_sent u v (failed.reads t)) (front t),
      );
      quiet = λ t none. absurd (none tells tt);
      clock = omega (arith, failed.counts.clock, puts.clock);
      second_faults = puts.second_faults ∙ failed.counts.second_faults;
      second_syncs = puts.second_syncs ∙ failed.counts.second_syncs;
      first_syncs = puts.first_syncs ∙ failed.counts.first_syncs;
      cause = λ e. absurd (cc);
      faults = λ e. first_same puts;
      put_cause = λ e. subst (λ k. Rose k w.put_faults) failed.counts.put_faults rose;
      put_faults = λ e. absurd (e refl);
    }

    stopped_put : (r : Status) → HasPut told (fault_text f ++ 10 ∷ []) (status.NotImage f) r v w
        → HasStopped told words r u w
    stopped_put r put = elim put.ended [
      | inl whole ↦ subst (λ (k : Status). HasStopped told words k u w) (sym whole.0)
          (stopped_said put.sends put.puts whole.1 whole.2)
      | inr cut ↦ subst (λ (k : Status). HasStopped told words k u w) (sym cut.0)
          (stopped_cut put.sends put.puts cut.1 cut.2)
    ]

-- whatever was put
pub stopped_by : {P : Type 0} (told : Type 0) (view : P → SidesView) (words : Option Command) (s r : Status) (u : SidesView)
    (v w : P) → (told → SidesAreSound u) → HasNotPassed told words s u (view v) → HasTold told view words s r v w
    → HasStopped told words r u (view w)
stopped_by told view words s r u v w sound failed (inl unsaid) =
    subst (λ (k : Status). HasStopped told words k u (view w)) (sym unsaid.status)
    (subst (λ x. HasStopped told words s u (view x)) (sym unsaid.same)
    (stopped_unsaid told words u (view v) sound s failed unsaid.silent))
stopped_by told view words s r u v w sound failed (inr said) =
    let f = said.why in
    stopped_put told words u (view v) sound (view w) f said.tells
    (subst (λ (k : Status). HasNotPassed told words k u (view v)) said.is failed) r
    (subst (λ (k : Status). HasPut told (fault_text f ++ 10 ∷ []) k r (view v) (view w)) said.is said.put)

-- ---- what follows where a command stopped so

stopped_not : (told : Type 0) (words : Option Command) (r : Status) (u w : SidesView) → HasStopped told words r u w
    → (r ≢ status.Usage) × (r ≢ status.Done) × (r ≢ status.SourceFault)
stopped_not told words r u w stopped = elim stopped.ended [
  | inl unopened ↦ (let no = unopened_not r unopened in (no.0, no.1, no.3))
  | inr cut ↦ (
    (λ e. absurd (cc (e, cut.1))),
    (λ e. absurd (cc (e, cut.1))),
    (λ e. absurd (cc (e, cut.1))),
  )
]

module _ (told : Type 0) (words : Option Command) (r : Status) (u w : SidesView)
    (stopped : HasStopped told words r u w) where
  pub sound_stopped : AreSoundAtEnd (Ended r) u w
  sound_stopped = elim stopped.ended [
    | inl unopened ↦ sound_unopened r unopened stopped.faults
    | inr cut ↦ subst (λ (k : Status). AreSoundAtEnd (Ended k) u w) (sym cut.1)
        (inl (omega (arith, stopped.faults (λ e. absurd (cc (e, cut.1))))))
  ]
    where
      sound_unopened : (k : Status) → IsUnopened k → (k ≢ status.DeviceFault → w.first.faults ≡ u.first.faults)
          → AreSoundAtEnd (Ended k) u w
      sound_unopened status.DeviceFault unopened same = tt
      sound_unopened (status.NotImage why) unopened same = inl (omega (arith, same (λ e. absurd (cc))))
      sound_unopened status.NoMemory unopened same = inl (omega (arith, same (λ e. absurd (cc))))
      sound_unopened status.Done unopened same = absurd unopened
      sound_unopened status.Usage unopened same = absurd unopened
      sound_unopened status.SourceFault unopened same = absurd unopened
      sound_unopened status.PutFault unopened same = absurd unopened
      sound_unopened status.TooLong unopened same = absurd unopened
      sound_unopened status.Truncated unopened same = absurd unopened
      sound_unopened (status.RootDenied level) unopened same = absurd unopened

  pub did_stopped : (source : Taking) → source.untouched → DidTest told words (Ended r) source u w
  did_stopped source untaken = record { status = refl; stopped = stopped; untaken = untaken }

  pub left_stopped : r ≡ status.DeviceFault → NoSideIsLeft u w
  left_stopped fault = record {
    first = stopped.cause fault;
    second = λ le. omega (arith, stopped.second_syncs);
  }

  pub lost_stopped : (side : Side) → (Ended r ≡ SideLost side) ↔ ((own_status (Ended r) ≡ status.Done) × Failed side u w)
  lost_stopped side = (λ e. absurd (cc), λ h. absurd ((stopped_not told words r u w stopped).1 h.0))

  pub usage_stopped : (c : Command) → words ≡ Some c → (Ended r ≡ Ended status.Usage) ↔ (words ≡ None)
  usage_stopped c is = (λ e. absurd ((stopped_not told words r u w stopped).0 (ap own_status e)), λ e. absurd (cc (e, is)))

  pub late_stopped : told → SidesAreSound u → (TellsWhatIsWrong words → StandsForNone u.first.reads → ⊥)
      → (i : Item) → w.left u.clock i → i.sent ≡ u.sent
  late_stopped t sound silent =
      silent_merely u w (stopped.quiet t (λ tells found. silent tells (stopped.none t found))) sound

-- the headline: nothing was asked
pub headline_stopped : (told : Type 0) (words : Command) (r : Status) (u w : SidesView) (source : Taking)
    → HasStopped told (Some words) r u w → source.came [] → SidesAreSound u → told → MirrorHeadline words source u w
headline_stopped told (command.Run kind) r u w source stopped came sound t =
    headline_unbegun (command.Run kind) source u w came sound
    (since_merely u w (stopped.quiet t (λ tells found. absurd tells)) sound)
headline_stopped told (command.Serve kind) r u w source stopped came sound t =
    headline_unbegun (command.Serve kind) source u w came sound
    (since_merely u w (stopped.quiet t (λ tells found. absurd tells)) sound)
headline_stopped told (command.Group kind) r u w source stopped came sound t =
    headline_unbegun (command.Group kind) source u w came sound
    (since_merely u w (stopped.quiet t (λ tells found. absurd tells)) sound)
headline_stopped told (command.Fresh fresh) r u w source stopped came sound t = absurd stopped.opens
headline_stopped told (command.Format words) r u w source stopped came sound t = tt
headline_stopped told (command.Shell shell) r u w source stopped came sound t = tt
headline_stopped told (command.Files shell) r u w source stopped came sound t = tt
headline_stopped told command.Check r u w source stopped came sound t = tt
headline_stopped told command.Info r u w source stopped came sound t = tt
headline_stopped told (command.Load load) r u w source stopped came sound t = tt
headline_stopped told command.Upgrade r u w source stopped came sound t = tt
headline_stopped told command.Audit r u w source stopped came sound t = tt
headline_stopped told command.Verify r u w source stopped came sound t = tt
headline_stopped told (command.CopyFs words) r u w source stopped came sound t = tt
