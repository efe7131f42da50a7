-- A group of requests, by what its flush leaves.
use Rattle.std.proofs.Common.{◌≡◌, ◌⊎◌, ◌<◌, inl, inr, ⊎_elim, ℕ, List, [], ◌++◌, refl, sym, ◌∙◌, ap, subst, arith, append_assoc, append-nil}
use Rattle.std.specs.Prelude.{Result, Ok, Err, OnErr}
use Rattle.image_device.specs.Counts.{Rose}
use Rattle.image_device.specs.View.{View}
use Rattle.image_device.specs.Runs.{LeavesOnly}
use Rattle.intent_journal.specs.Records.{JournalRecord, AreClosed}
use Rattle.intent_journal.specs.Ring.{IsRingAt}
use Rattle.intent_journal.proofs.Uses.{at_valid}
use Rattle.gathering.proofs.Merely.{weakened_mere}
use Rattle.std.proofs.lemmas.List.{append_cancel_left}
use Rattle.image_device.specs.Image.{Image}
use Rattle.intent_journal.specs.Home.{home, is_journal, AgreeBut}
use Rattle.serving.specs.Runs.{Run, Served, texts}
use Rattle.serving.specs.Service.{Service}
use Rattle.gathering.specs.Gathered.{cleared}
use Rattle.gathering.specs.Left.{Moment, moment_of, IsHomeOf, IsLeftAtStart, IsLeftByGroup, IsSentBetween}
use Rattle.gathering.proofs.Closed.{cleared_closed, cleared_home, closed_home, closed_valid}
use Rattle.gathering_runs.specs.Promise.{IsLeftByRun, IsOfPrefix}
use Rattle.gathering.specs.declared.flush.FlushFault.{FlushFault}
use Rattle.gathering.specs.declared.flush.FlushFault.TheVariants as fault
use Rattle.gathering_runs.specs.Sent.{IsSentBy}
use Rattle.gathering_runs.specs.Turns.{status_by}
use Rattle.gathering_runs.proofs.Sent.{sent_flushed}
use Rattle.gathering_runs.proofs.Joined.{of_all, of_earlier, of_none}
use Rattle.gathering_runs.proofs.Turning.{Went}

-- an image with the home of a start has that of its cleared one
pub home_cleared : (start x : Image) → IsHomeOf (home start) x → IsHomeOf (home (cleared start)) x
home_cleared start x has = record { valid = has.valid; stands = λ n out. has.stands n out ∙ sym (cleared_home start n out) }

pub home_closed : (y x : Image) → AreClosed y → IsHomeOf y x → IsHomeOf (home y) x
home_closed y x closed has = subst (λ (h : Image). IsHomeOf h x) (sym (closed_home y closed)) has

module _ {Q : Type 0} (k : Service Q) (part : Image → Image) (alike : (s : k.States) (x y : Image) → IsHomeOf (home x) y → k.stands s x → k.stands s y)
    (part_alike : (x y : Image) → IsHomeOf (home x) y → part y ≡ part x) (start : Moment) (s : k.States) (held : k.stands s (cleared start.sectors)) (qs : List Q) where
  -- nothing of it counts
  pub none_counts : (x : Image) (f : List ℕ) → IsLeftAtStart start x f → IsOfPrefix k s start.sent qs x f × (part x ≡ part start.sectors)
  none_counts x f left = (of_none k s start.sent qs x f (alike s (cleared start.sectors) x (home_cleared start.sectors x left.0) held) left.1, part_alike start.sectors x left.0)

  -- all were answered
  pub all_count : (end : Moment) (t : k.States) → Served k s start.sent qs t end.sent → k.stands t end.sectors → AreClosed end.sectors → part end.sectors ≡ part start.sectors
      → (x : Image) (f : List ℕ) → IsLeftByGroup start end x f → IsOfPrefix k s start.sent qs x f × (part x ≡ part start.sectors)
  all_count end t served stands closed kept x f left = ⊎_elim (none_counts x f)
      (λ (h : IsHomeOf end.sectors x × IsSentBetween start.sent end.sent f).
      let p = h.1 in
      let has = home_closed end.sectors x closed h.0 in (
        of_all k s t start.sent qs served.answers x f served.run (alike t end.sectors x has stands)
            (record {
              front = p.front;
              back = p.back;
              sent = p.sent;
              whole =
                  append_cancel_left start.sent (texts served.answers) (p.front ++ p.back) (sym served.sent ∙ p.rest ∙ ap (λ l. l ++ p.back) p.sent ∙ append_assoc start.sent p.front p.back);
            }),
        part_alike end.sectors x has ∙ kept,
      ))
      left

-- nothing failed, so all were carried out
pub gathered_well : {T E : Type 0} (r : Result T E) (f0 f p0 p : ℕ) → f0 ≡ 0 → p0 ≡ 0 → f ≡ 0 → p ≡ 0 → OnErr r (Rose f0 f ⊎ Rose p0 p) → (b : T) × (r ≡ Ok b)
gathered_well (Ok b) f0 f p0 p e0 d0 e d failed = (b, refl)
gathered_well (Err x) f0 f p0 p e0 d0 e d failed = absurd (⊎_elim (λ rose. no_rise f0 f e0 e rose) (λ rose. no_rise p0 p d0 d rose) failed)
  where
    no_rise : (a b : ℕ) → a ≡ 0 → b ≡ 0 → Rose a b → ⊥
    no_rise a b a0 b0 rose = omega (arith, a0, b0, rose)

-- one failed, so a count rose
pub gathered_badly : (f0 f p0 p : ℕ) → f0 ≡ 0 → p0 ≡ 0 → Rose f0 f ⊎ Rose p0 p → (0 < f) ⊎ (0 < p)
gathered_badly f0 f p0 p e0 d0 failed = ⊎_elim (λ rose. inl (rises f0 f e0 rose)) (λ rose. inr (rises p0 p d0 rose)) failed
  where
    rises : (a b : ℕ) → a ≡ 0 → Rose a b → 0 < b
    rises a b a0 rose = omega (arith, a0, rose)

-- ---- over views: the real device at the start, the disk in memory at its end, and the real device then
module _ {Q : Type 0} (k : Service Q) (part : Image → Image) (start v new : View) (alike : (s : k.States) (x y : Image) → IsHomeOf (home x) y → k.stands s x → k.stands s y)
    (part_alike : (x y : Image) → IsHomeOf (home x) y → part y ≡ part x) (s : k.States) (held : k.stands s (cleared start.reads)) (qs more : List Q) where
  pub left_given_up : ∥ LeavesOnly start new (IsLeftAtStart (moment_of start)) ∥₁ → ∥ LeavesOnly start new (IsLeftByRun k part s start (qs ++ more)) ∥₁
  left_given_up leaves = weakened_mere start new (IsLeftAtStart (moment_of start)) (IsLeftByRun k part s start (qs ++ more)) leaves (none_counts k part alike part_alike (moment_of start) s held (qs ++ more))

  module _ (t : k.States) (begun : Image) (reads : begun ≡ cleared start.reads) (sent0 : List ℕ) (same_sent : sent0 ≡ start.sent) (s0 : k.States) (same_state : s0 ≡ s) (served : Served k s0 sent0 qs t v.sent) (stands : k.stands t v.reads) (closed : AreClosed v.reads) (kept : part v.reads ≡ part begun) where
    from_start : Served k s start.sent qs t v.sent
    from_start = subst (λ (z : k.States). Served k z start.sent qs t v.sent) same_state (subst (λ l. Served k s0 l qs t v.sent) same_sent served)

    part_start : part v.reads ≡ part start.reads
    part_start = kept ∙ ap part reads ∙ part_alike start.reads (cleared start.reads) (record { valid = closed_valid (cleared start.reads) (cleared_closed start.reads); stands = cleared_home start.reads })

    pub left_flushed : ∥ LeavesOnly start new (IsLeftByGroup (moment_of start) (moment_of v)) ∥₁ → ∥ LeavesOnly start new (IsLeftByRun k part s start (qs ++ more)) ∥₁
    left_flushed leaves = weakened_mere start new (IsLeftByGroup (moment_of start) (moment_of v)) (IsLeftByRun k part s start (qs ++ more)) leaves
        (λ x f left.
        let p = all_count k part alike part_alike (moment_of start) s held qs (moment_of v) t from_start stands closed part_start x f left in
        (of_earlier k s start.sent qs more x f p.0, p.1))

    pub sent_by_flush : (e : FlushFault) → ((e ≡ fault.Device) ⊎ (e ≡ fault.Room) → new.sent ≡ start.sent) → (e ≡ fault.Put → IsSentBetween start.sent v.sent new.sent) → IsSentBy (status_by e) k s start.sent (qs ++ more) new.sent
    sent_by_flush e unsent put = sent_flushed k e s t start v new qs more from_start unsent put

    pub went_flushed : (u : k.States) (ring : List JournalRecord) → more ≡ [] → ∥ LeavesOnly start new (IsLeftByGroup (moment_of start) (moment_of v)) ∥₁ → AgreeBut is_journal v.reads (home new.reads) → IsRingAt ring new → new.sent ≡ v.sent → u ≡ t → Went k part s u start new qs
    went_flushed u ring none leaves done ring_at sent same = record {
      served = record { answers = from_start.answers; run = subst (λ (z : k.States). Run k s qs from_start.answers z) (sym same) from_start.run; sent = sent ∙ from_start.sent };
      kept = part_alike v.reads new.reads (record { valid = at_valid ring_at; stands = λ n out. done n out ∙ (λ i. sym (closed_home v.reads closed) i n) }) ∙ part_start;
      any_moment = subst (λ l. ∥ LeavesOnly start new (IsLeftByRun k part s start l) ∥₁) (ap (λ l. qs ++ l) none ∙ append-nil qs) (left_flushed leaves);
    }
