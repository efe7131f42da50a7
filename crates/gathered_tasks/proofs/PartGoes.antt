-- A task in memory, said of the device below.
use Rattle.std.proofs.Common.{◌≡◌, ◌⊎◌, inl, inr, ⊎_elim, ℕ, ◌+◌, ◌≤◌, ◌<◌, List, length, refl, sym, ◌∙◌, ap, subst, arith}
use Rattle.gathered_tasks.proofs.Common.{AgreeBut, AreClosed, Core, Err, Failed, FitsReads, Geometry, GoesOn, IfOk, Image, IsCoreAt, IsGood, IsInMemory, IsLeftNow, IsSound, JournalRecord, LeavesEither, LeavesOnly, LeavesPart, LeavesStray, Ok, Patch, Result, Rose, SameSize, Stands, StandsForAny, State, View, World, at_kept, behind, firm_image, gone_on, held_state, is_journal, part_at_end, state_on, weakened, world_of}
use Rattle.image_device.specs.Calls.{Uses}
use Rattle.image_layout.specs.Ring.{bodies}
use Rattle.intent_journal.specs.Batch.{IsBatch}
use Rattle.gathering.proofs.PartLaws.{on_closed}
use Rattle.gathered_tasks.proofs.BelowGoes.{RanBelow}
use Rattle.gathered_tasks.proofs.HoldLaws.{behind_closed, fits_over, works_of}
use Rattle.gathered_tasks.proofs.StrayLaws.{no_stray}

-- the facts of a part as it is left
pub record IsLeftOff (told : Type 0) (b0 b1 : List Patch) (p1 v w : View) : Type 0 where
  pub reads : told → w.reads ≡ v.reads
  pub loose : told → w.loose ≡ v.loose
  pub sent : told → w.sent ≡ v.sent
  pub any_moment : told → LeavesOnly v w (IsLeftNow v)
  pub counts : Uses 0 v w
  pub holds : told → AgreeBut is_journal p1.reads (gone_on b1 v.reads) ⊎ LeavesStray p1
  pub is : IsBatch b1
  pub failed : 0 < p1.faults → Rose v.faults w.faults ⊎ (bodies < length b0 + p1.writes)
  pub unfailed : p1.faults ≡ 0 → w.faults ≡ v.faults

module _ {told : Type 0} {c0 : Core} {rs : List JournalRecord} {b0 b1 : List Patch} {v w p1 : View} (p0 : View) (most : ℕ)
    (at0 : told → IsInMemory c0 rs b0 v) (reads0 : p0.reads ≡ gone_on b0 v.reads) (clock0 : p0.clock ≡ 1) (faults0 : p0.faults ≡ 0) (writes0 : p0.writes ≡ 0) (sound1 : told → IsSound p1)
    (fits : length b0 + most ≤ bodies) (left : IsLeftOff told b0 b1 p1 v w) where
  rose_some : (m n : ℕ) → m ≡ 0 → Rose m n → 0 < n
  rose_some m n is rose = let one : Rose 0 n = subst (λ k. Rose k n) is rose in grind arith

  moments : (next : World) → told → LeavesOnly v w (λ x f. StandsForAny (world_of v.reads) (world_of (gone_on b0 v.reads)) next x × (f ≡ v.sent))
  moments next t =
      weakened v w (IsLeftNow v) (λ x f. StandsForAny (world_of v.reads) (world_of (gone_on b0 v.reads)) next x × (f ≡ v.sent)) (left.any_moment t)
      (λ x f now. (inl (subst (λ (y : Image). Stands y (world_of v.reads)) (sym (firm_image v (at0 t).firm x f now)) (record { good = (at0 t).good; world = refl })), now.1))

  aside : (t : told) → LeavesPart (behind c0.volume.tables.geometry) v w
  aside t =
      weakened v w (IsLeftNow v) (λ x f. behind c0.volume.tables.geometry x ≡ behind c0.volume.tables.geometry v.reads) (left.any_moment t)
      (λ x f now. ap (behind c0.volume.tables.geometry) (firm_image v (at0 t).firm x f now))

  fits_p0 : (t : told) → FitsReads c0 p0.reads
  fits_p0 t = subst (λ (x : Image). FitsReads c0 x) (sym reads0) (at0 t).fits

  module _ {c1 : Core} {next : World} (any : told → LeavesEither p0 p1 next) (behind_p : told → LeavesPart (behind c0.volume.tables.geometry) p0 p1) (size : SameSize c0 c1) where
    agrees : (t : told) → AgreeBut is_journal p1.reads (gone_on b1 v.reads)
    agrees t = ⊎_elim (λ holds. holds) (λ stray. absurd (no_stray c0 p0 p1 next (fits_p0 t) clock0 (any t) (behind_p t) stray)) (left.holds t)

    over : (t : told) → IsCoreAt c1 p1 → AreClosed p1.reads → FitsReads c1 (gone_on b1 v.reads) × (state_on c1 (gone_on b1 v.reads) ≡ state_on c1 p1.reads)
    over t at closed = fits_over c1 p1.reads (gone_on b1 v.reads) at.1 closed (on_closed b1 v.reads left.is) (agrees t)

    behind_now : (t : told) → AreClosed p1.reads → behind c0.volume.tables.geometry (gone_on b1 v.reads) ≡ behind c0.volume.tables.geometry v.reads
    behind_now t closed =
        let g = c0.volume.tables.geometry in
        behind_closed g p1.reads (gone_on b1 v.reads) closed (on_closed b1 v.reads left.is) (agrees t)
        ∙ part_at_end (behind g) p0 p1 (sound1 t) (behind_p t) ∙ ap (behind g) reads0 ∙ (at0 t).aside

    held : (t : told) → IsCoreAt c1 p1 → AreClosed p1.reads → IsInMemory c1 rs b1 w
    held t at closed = record {
      firm = λ n. (λ i. left.loose t i n) ∙ (at0 t).firm n;
      ring_at = at_kept (at0 t).ring_at (λ n inside. ((λ i. left.reads t i n), (λ i. left.loose t i n) ∙ (at0 t).firm n));
      good = subst (λ (x : Image). IsGood x) (sym (left.reads t)) (at0 t).good;
      fits = subst (λ (x : Image). FitsReads c1 (gone_on b1 x)) (sym (left.reads t)) (over t at closed).0;
      aside = subst (λ (g : Geometry). behind g (gone_on b1 w.reads) ≡ behind g w.reads) (sym size.geometry) (subst (λ (x : Image). behind c0.volume.tables.geometry (gone_on b1 x) ≡ behind c0.volume.tables.geometry x) (sym (left.reads t)) (behind_now t closed));
    }

    pub held_now : (t : told) → IsCoreAt c1 p1 → AreClosed p1.reads → held_state c1 b1 w ≡ state_on c1 p1.reads
    held_now t at closed = ap (λ (x : Image). state_on c1 (gone_on b1 x)) (left.reads t) ∙ (over t at closed).1

  pub part_goes : {T : Type 0} {c1 : Core} {next : World} (r : Result T Failed) → RanBelow told c0 c1 p0 p1 next r → p1.writes ≤ p0.writes + most → GoesOn told c0 c1 rs b0 b1 v w next r
  part_goes (Ok x) ran wrote = record {
    ready = record { ready = ran.ready; empty = ran.empty };
    at = λ t. held ran.any_moment ran.behind ran.size t (ran.at t) (ran.closed t);
    size = ran.size;
    spent = tt;
    sent = left.sent;
    any_moment = moments _;
    behind = aside;
    works = works_of 0 v w left.counts;
    faults = left.unfailed (ran.faults ∙ faults0);
  }
  part_goes (Err e) ran wrote = record {
    ready = tt;
    at = λ t. tt;
    size = ran.size;
    spent = ran.spent;
    sent = left.sent;
    any_moment = moments _;
    behind = aside;
    works = works_of 0 v w left.counts;
    faults = elim (left.failed (rose_some p0.faults p1.faults faults0 ran.faults)) [
      | inl rose ↦ rose
      | inr full ↦ absurd (omega (arith, full, wrote, writes0, fits))
    ];
  }

  pub part_given : {T : Type 0} {c1 : Core} {next : World} (P : State → T → State → Type 0) (r : Result T Failed) → RanBelow told c0 c1 p0 p1 next r → (t : told) → IfOk r (λ x. P (state_on c0 p0.reads) x (state_on c1 p1.reads))
      → IfOk r (λ x. P (held_state c0 b0 v) x (held_state c1 b1 w))
  part_given {c1 = c1} P (Ok x) ran t given =
      subst (λ (s : State). P s x (held_state c1 b1 w)) (ap (λ (y : Image). state_on c0 y) reads0) (subst (λ (s : State). P (state_on c0 p0.reads) x s) (sym (held_now ran.any_moment ran.behind ran.size t (ran.at t) (ran.closed t))) given)
  part_given P (Err e) ran t given = tt
