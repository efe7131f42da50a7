-- What a crash leaves of a group and its flush.
use Rattle.std.proofs.Common.{◌≡◌, inl, inr, ⊎_elim, ℕ, ◌≤◌, ◌==◌, false, cond, List, [], ◌++◌, refl, sym, ◌∙◌, ap, subst, append_assoc, arith}
use Rattle.std.proofs.Math.Logic.{∥∥₁_elim}
use Rattle.std.proofs.lemmas.Bool.{cases_Bool, or_from}
use Rattle.std.proofs.lemmas.List.{append-nil}
use Rattle.image_device.specs.Image.{Image, zeros}
use Rattle.image_device.specs.View.{View, IsLeftNow, IsLeftInPut, IsPart, IsSound}
use Rattle.image_device.specs.Runs.{IsFirm, LeavesOnly}
use Rattle.image_device.proofs.Moments.{joined, started, weakened}
use Rattle.image_layout.specs.declared.offset.Patch.{Patch}
use Rattle.intent_journal.specs.Crash.{IsBefore, IsAfter, IsBeforeOrAfter}
use Rattle.intent_journal.specs.Home.{home, overlaid, is_journal, AgreeBut}
use Rattle.intent_journal.specs.Records.{JournalRecord}
use Rattle.intent_journal.specs.Ring.{IsRingAt}
use Rattle.intent_journal.proofs.Committing.{before_now}
use Rattle.intent_journal.proofs.Overlays.{overlaid_alike}
use Rattle.image_device.specs.declared.event.Event.{Event}
use Rattle.image_device.specs.History.{after}
use Rattle.gathering.specs.Gathered.{IsNet, ArePut, begun_on, cleared}
use Rattle.gathering.specs.Left.{IsHomeOf, IsLeftByFlush, IsLeftAtStart, IsLeftByGroup, IsSentBetween, moment_of, most_writes}

-- nothing was committed
pub none_committed : (rs : List JournalRecord) (batch : List Patch) (v : View) → IsSound v → IsRingAt rs v
    → LeavesOnly v v (λ x f. IsBeforeOrAfter batch v x × (f ≡ v.sent))
none_committed rs batch v sound at = started v (λ x f. IsBeforeOrAfter batch v x × (f ≡ v.sent)) sound (λ x f now. (inl (before_now rs v at x f now), now.1))

-- where nothing is loose, an image from before stands for what the device stands for
pub before_home : (v : View) → IsFirm v → (x : Image) → IsBefore v x → IsHomeOf (home v.reads) x
before_home v firm x before = record {
  valid = before.valid;
  stands = λ n out. before.stands n (or_from (is_journal n) (v.loose n) out (firm n));
}

-- a commit, and then a put
pub flushed : (rs : List JournalRecord) (batch : List Patch) (waiting : List ℕ) (old mid new : View)
    → LeavesOnly old mid (λ x f. IsBeforeOrAfter batch old x × (f ≡ old.sent))
    → IsRingAt rs mid → IsFirm mid → AgreeBut is_journal (overlaid batch (home old.reads)) (home mid.reads) → mid.sent ≡ old.sent
    → LeavesOnly mid new (IsLeftInPut waiting mid)
    → LeavesOnly old new (IsLeftByFlush batch waiting old)
flushed rs batch waiting old mid new commit at firm done sent put =
    joined old mid new (IsLeftByFlush batch waiting old) (IsLeftInPut waiting mid) (committed old mid commit) put here
  where
    committed : (old mid : View) → LeavesOnly old mid (λ x f. IsBeforeOrAfter batch old x × (f ≡ old.sent)) → LeavesOnly old mid (IsLeftByFlush batch waiting old)
    committed old mid commit = weakened old mid (λ x f. IsBeforeOrAfter batch old x × (f ≡ old.sent)) (IsLeftByFlush batch waiting old) commit
        (λ x f left. ⊎_elim (λ before. inl (before, left.1)) (λ whole. inr (whole, record { front = []; back = waiting; sent = left.1 ∙ sym (append-nil old.sent); whole = refl })) left.0)

    here : (x : Image) (f : List ℕ) → IsLeftInPut waiting mid x f → IsLeftByFlush batch waiting old x f
    here x f left =
        let home : IsHomeOf (home mid.reads) x = before_home mid firm x (before_now rs mid at x mid.sent (left.0, refl)) in
        inr (record { valid = home.valid; stands = λ n out. home.stands n out ∙ done n out }, subst (λ (s : List ℕ). IsPart s waiting f) sent left.1)

-- a front of the waiting bytes is sent
pub between : (start : View) (es : List Event) (waiting : List ℕ) → ArePut es waiting → (inner : View) → inner.sent ≡ start.sent
    → (end : List ℕ) → end ≡ (after es (begun_on start)).sent → (f : List ℕ) → IsPart inner.sent waiting f → IsSentBetween start.sent end f
between start es waiting puts inner same end is f part = record {
  front = part.front;
  back = part.back;
  sent = part.sent ∙ ap (λ s. s ++ part.front) same;
  rest =
      is ∙ puts (begun_on start) ∙ ap (λ w. start.sent ++ w) part.whole ∙ sym (append_assoc start.sent part.front part.back)
      ∙ ap (λ s. s ++ part.back) (sym (part.sent ∙ ap (λ s. s ++ part.front) same));
}

-- how often a flush writes at most
pub few_writes : (homes : ℕ) → homes ≤ 113 → most_writes homes ≤ 236
few_writes homes few = elim (cases_Bool (homes == 0)) [
  | inl e ↦ rw e (omega arith)
  | inr e ↦ rw e (omega arith)
]

-- a commit that failed
pub flush_failed : (batch : List Patch) (waiting : List ℕ) (old new : View)
    → LeavesOnly old new (λ x f. IsBeforeOrAfter batch old x × (f ≡ old.sent)) → LeavesOnly old new (IsLeftByFlush batch waiting old)
flush_failed batch waiting old new commit = weakened old new (λ x f. IsBeforeOrAfter batch old x × (f ≡ old.sent)) (IsLeftByFlush batch waiting old) commit
    (λ x f left. ⊎_elim (λ before. inl (before, left.1)) (λ whole. inr (whole, record { front = []; back = waiting; sent = left.1 ∙ sym (append-nil old.sent); whole = refl })) left.0)

-- nothing was flushed
pub left_alone : (start inner : View) (rs : List JournalRecord) → IsFirm start → IsRingAt rs start → ∥ LeavesOnly start inner (IsLeftNow start) ∥₁
    → ∥ LeavesOnly start inner (IsLeftAtStart (moment_of start)) ∥₁
left_alone start inner rs firm at leaves =
    let prop : IsProp (∥ LeavesOnly start inner (IsLeftAtStart (moment_of start)) ∥₁) = hlevel in
    ∥∥₁_elim leaves prop (λ (so_far : LeavesOnly start inner (IsLeftNow start)).
    ∣ weakened start inner (IsLeftNow start) (IsLeftAtStart (moment_of start)) so_far (λ x f now. (before_home start firm x (before_now rs start at x f now), now.1)) ∣₁)

-- The group: the events since the start, with their batch.
module _ (start : View) (es : List Event) (batch : List Patch) (net : IsNet es batch) where
  pub net_home : (r : Image) → r ≡ start.reads → (n : ℕ) → is_journal n ≡ false → overlaid batch (home r) n ≡ (after es (begun_on start)).reads n
  net_home r same n out =
      (λ i. overlaid batch (home (same i)) n)
      ∙ overlaid_alike batch (cleared start.reads) (home start.reads) n (λ missed. sym (ap (λ b. cond b zeros (home start.reads n)) out))
      ∙ sym (net (begun_on start) n out)

  module _ (rs : List JournalRecord) (waiting : List ℕ) (puts : ArePut es waiting) (gathered inner new : View)
      (holds : gathered.reads ≡ (after es (begun_on start)).reads) (sent : gathered.sent ≡ (after es (begun_on start)).sent)
      (firm : IsFirm start) (at : IsRingAt rs start)
      (same_reads : inner.reads ≡ start.reads) (same_loose : inner.loose ≡ start.loose) (same_sent : inner.sent ≡ start.sent) where
    at_rest : (x : Image) (f : List ℕ) → IsLeftNow start x f → IsLeftByGroup (moment_of start) (moment_of gathered) x f
    at_rest x f now = inl (before_home start firm x (before_now rs start at x f now), now.1)

    of_flush : (x : Image) (f : List ℕ) → IsLeftByFlush batch waiting inner x f → IsLeftByGroup (moment_of start) (moment_of gathered) x f
    of_flush x f left = ⊎_elim
        (λ (before : IsBefore inner x × (f ≡ inner.sent)).
        let firm' : IsFirm inner = λ n. (λ i. same_loose i n) ∙ firm n in
        let h = before_home inner firm' x before.0 in
        inl (record { valid = h.valid; stands = λ n out. h.stands n out ∙ (λ i. home (same_reads i) n) }, before.1 ∙ same_sent))
        (λ (whole : IsAfter batch inner x × IsPart inner.sent waiting f).
        inr (
          record { valid = whole.0.valid; stands = λ n out. whole.0.stands n out ∙ net_home inner.reads same_reads n out ∙ (λ i. sym holds i n) },
          between start es waiting puts inner same_sent gathered.sent sent f whole.1,
        ))
        left

    pub grouped : ∥ LeavesOnly start inner (IsLeftNow start) ∥₁ → LeavesOnly inner new (IsLeftByFlush batch waiting inner)
        → ∥ LeavesOnly start new (IsLeftByGroup (moment_of start) (moment_of gathered)) ∥₁
    grouped leaves flush =
        let prop : IsProp (∥ LeavesOnly start new (IsLeftByGroup (moment_of start) (moment_of gathered)) ∥₁) = hlevel in
        ∥∥₁_elim leaves prop (λ (so_far : LeavesOnly start inner (IsLeftNow start)).
        ∣ joined start inner new (IsLeftByGroup (moment_of start) (moment_of gathered)) (IsLeftByFlush batch waiting inner) (weakened start inner (IsLeftNow start) (IsLeftByGroup (moment_of start) (moment_of gathered)) so_far at_rest) flush of_flush ∣₁)

    -- nothing was flushed
    pub given_up : ∥ LeavesOnly start inner (IsLeftNow start) ∥₁ → ∥ LeavesOnly start inner (IsLeftByGroup (moment_of start) (moment_of gathered)) ∥₁
    given_up leaves =
        let prop : IsProp (∥ LeavesOnly start inner (IsLeftByGroup (moment_of start) (moment_of gathered)) ∥₁) = hlevel in
        ∥∥₁_elim leaves prop (λ (so_far : LeavesOnly start inner (IsLeftNow start)). ∣ weakened start inner (IsLeftNow start) (IsLeftByGroup (moment_of start) (moment_of gathered)) so_far at_rest ∣₁)
