-- What a core does on a disk in memory, said of the device below it.
use Rattle.image_device.specs.Image.{zeros}
use Rattle.std.proofs.Common.{◌≡◌, inl, inr, ℕ, cond, ◌+◌, ◌≤◌, true, false, Bool, List, [], length, refl, sym, ◌∙◌, ap, subst, arith}
use Rattle.gathered_tasks.proofs.Common.{AgreeBut, AreClosed, Core, CountsFault, Err, Failed, FitsReads, Geometry, GoesOn, Image, IsCoreReady, IsFirm, IsGood, IsInMemory, JournalRecord, LeavesOnly, LeavesPart, Ok, Patch, Result, Rose, SameSize, Stands, StandsForAny, State, View, Works, World, at_closed, at_valid, behind, cleared, gone_on, held_state, home, is_err, is_journal, open_records, overlaid, state_on, total, weakened, world_of}
use Rattle.intent_journal.specs.Crash.{IsBefore, IsBeforeOrAfter}
use Rattle.intent_journal.specs.Ring.{IsRingAt}
use Rattle.intent_journal.proofs.Overlays.{overlaid_alike}
use Rattle.image_world.proofs.AgreeLaws.{before_outside, before_stands}
use Rattle.image_world.proofs.WrittenLaws.{above_journal}
use Rattle.gathering.proofs.Closed.{cleared_closed, cleared_home, closed_home, closed_ring}
use Rattle.gathering_laws.proofs.Alike.{carries_over, closed_alike}
use Rattle.image_device.specs.Calls.{Uses}

-- ---- disks with closed journals

-- what a core with an empty ring fits has a closed journal
pub fits_closed : (c : Core) (x : Image) → c.volume.ring ≡ [] → FitsReads c x → AreClosed x
fits_closed c x empty fits index less = fits.others_closed index (subst (λ (rs : List JournalRecord). length rs ≤ index) (sym empty) (omega arith)) less

-- a core fits each disk with a closed journal that reads the same outside it, in the same state
pub fits_over : (c : Core) (x y : Image) → FitsReads c x → AreClosed x → AreClosed y → AgreeBut is_journal x y → FitsReads c y × (state_on c y ≡ state_on c x)
fits_over c x y fits closed shut agrees =
    let over = carries_over x y fits.good closed shut agrees in
    let none : open_records x ≡ [] = (closed_ring x closed).shows in (
      record { shows = over.ring ∙ sym none ∙ fits.shows; others_closed = λ index from less. shut index less; good = over.good; tables = over.tables ∙ fits.tables },
      ap (λ (w : World). state_on_world w) over.world,
    )
  where
    state_on_world : World → State
    state_on_world w = record { world = w; sessions = (state_on c x).sessions }

-- what lies behind an image with a closed journal is what it reads there
pub behind_closed : (g : Geometry) (x y : Image) → AreClosed x → AreClosed y → AgreeBut is_journal x y → behind g y ≡ behind g x
behind_closed g x y closed shut agrees i n =
    ((λ j. closed_home y shut j (total g + n)) ∙ agrees (total g + n) (above_journal (total g + n) (omega arith)) ∙ (λ j. sym (closed_home x closed) j (total g + n))) i

-- a device that nothing was gathered for
pub cleared_aside : (g : Geometry) (x : Image) → behind g (cleared x) ≡ behind g x
cleared_aside g x i n = cleared_home x (total g + n) (above_journal (total g + n) (omega arith)) i

-- ---- a commit

module _ {c : Core} {rs : List JournalRecord} {batch : List Patch} {v : View} (empty : c.volume.ring ≡ []) (at : IsInMemory c rs batch v) where
  held_closed : AreClosed (gone_on batch v.reads)
  held_closed = fits_closed c (gone_on batch v.reads) empty at.fits

  held_stands : Stands (gone_on batch v.reads) (world_of (gone_on batch v.reads))
  held_stands = record { good = at.fits.good; world = refl }

  -- in place on the home of the device the batch gives what the disk in memory reads
  placed : (n : ℕ) → is_journal n ≡ false → overlaid batch (home v.reads) n ≡ gone_on batch v.reads n
  placed n out = overlaid_alike batch (cleared v.reads) (home v.reads) n (λ missed. sym (ap (λ b. cond b zeros (home v.reads n)) out))

  -- an image that a commit leaves
  pub commit_left : (next : World) (x : Image) → IsBeforeOrAfter batch v x → StandsForAny (world_of v.reads) (world_of (gone_on batch v.reads)) next x
  commit_left next x (inl before) = inl (before_stands v x at.firm at.good before)
  commit_left next x (inr whole) =
      inr (inl (closed_alike (gone_on batch v.reads) x (world_of (gone_on batch v.reads)) held_stands held_closed (record { valid = whole.valid; stands = λ n out. whole.stands n out ∙ placed n out })))

  pub commit_behind : (x : Image) → IsBeforeOrAfter batch v x → behind c.volume.tables.geometry x ≡ behind c.volume.tables.geometry v.reads
  commit_behind x (inl before) = λ i n. before_outside v x at.firm before (total c.volume.tables.geometry + n) (above_journal (total c.volume.tables.geometry + n) (omega arith)) i
  commit_behind x (inr whole) = (λ i n. here n i) ∙ at.aside
    where
      here : (n : ℕ) → home x (total c.volume.tables.geometry + n) ≡ home (gone_on batch v.reads) (total c.volume.tables.geometry + n)
      here n =
          let at : ℕ = total c.volume.tables.geometry + n in
          let out : is_journal (total c.volume.tables.geometry + n) ≡ false = above_journal (total c.volume.tables.geometry + n) (omega arith) in
          whole.stands (total c.volume.tables.geometry + n) out ∙ placed (total c.volume.tables.geometry + n) out ∙ (λ j. sym (closed_home (gone_on batch v.reads) held_closed) j (total c.volume.tables.geometry + n))

  -- after it
  module _ {w : View} {ring : List JournalRecord} (firm : IsFirm w) (ringed : IsRingAt ring w) (done : AgreeBut is_journal (overlaid batch (home v.reads)) (home w.reads)) where
    agrees : AgreeBut is_journal (gone_on batch v.reads) (cleared w.reads)
    agrees n out = ap (λ b. cond b zeros (home w.reads n)) out ∙ done n out ∙ placed n out

    over : FitsReads c (cleared w.reads) × (state_on c (cleared w.reads) ≡ state_on c (gone_on batch v.reads))
    over = fits_over c (gone_on batch v.reads) (cleared w.reads) at.fits held_closed (cleared_closed w.reads) agrees

    now_stands : Stands w.reads (world_of (gone_on batch v.reads))
    now_stands = closed_alike (gone_on batch v.reads) w.reads (world_of (gone_on batch v.reads)) held_stands held_closed (record { valid = at_valid ringed; stands = λ n out. done n out ∙ placed n out })

    pub committed_at : IsInMemory c ring [] w
    committed_at = record { firm = firm; ring_at = ringed; good = now_stands.good; fits = over.0; aside = cleared_aside c.volume.tables.geometry w.reads }

    pub committed_state : held_state c [] w ≡ held_state c batch v
    committed_state = over.1

    pub committed_base : world_of w.reads ≡ world_of (gone_on batch v.reads)
    committed_base = sym now_stands.world

-- ---- what a failed commit leaves

pub fault_of : {T : Type 0} (r : Result T Failed) (b : Bool) (m n : ℕ) → b ≡ true → b ≡ is_err r → CountsFault r m n → Rose m n
fault_of (Ok x) b m n h k p = absurd (cc)
fault_of (Err e) b m n h k p = p

pub same_of : {T : Type 0} (r : Result T Failed) (b : Bool) (m n : ℕ) → b ≡ false → b ≡ is_err r → CountsFault r m n → n ≡ m
same_of (Ok x) b m n h k p = p
same_of (Err e) b m n h k p = absurd (cc)

pub works_of : (limit : ℕ) (v w : View) → Uses limit v w → Works v w
works_of limit v w uses = record { clock = uses.clock; faults = uses.faults; put_faults = uses.put_faults; writes = uses.writes }

pub spent_size : (c d : Core) → d ≡ record c { volume = record c.volume { is_spent = true } } → SameSize c d
spent_size c d is = record { geometry = ap (λ (k : Core). k.volume.tables.geometry) is; version = ap (λ (k : Core). k.volume.tables.version) is }

-- a call that failed, and so spent the core
spent_fails : {T told : Type 0} {c d : Core} {ring : List JournalRecord} {b0 b1 : List Patch} {v w : View} {next : World} → d ≡ record c { volume = record c.volume { is_spent = true } } → (told → w.sent ≡ v.sent) → (told → LeavesOnly v w (λ x f. StandsForAny (world_of v.reads) (world_of (gone_on b0 v.reads)) next x × (f ≡ v.sent)))
    → (told → LeavesPart (behind c.volume.tables.geometry) v w) → Works v w → Rose v.faults w.faults → GoesOn {T = T} told c d ring b0 b1 v w next (Err record {})
spent_fails {c = c} {d = d} is sent any aside works rose =
    record { ready = tt; at = λ t. tt; size = spent_size c d is; spent = ap (λ (k : Core). k.volume.is_spent) is; sent = sent; any_moment = any; behind = aside; works = works; faults = rose }

module _ {told : Type 0} {c : Core} {rs : List JournalRecord} {batch : List Patch} {v w : View} (empty : c.volume.ring ≡ []) (at : told → IsInMemory c rs batch v)
    (leaves : told → LeavesOnly v w (λ x f. IsBeforeOrAfter batch v x × (f ≡ v.sent))) where
  commit_moments : (next : World) → told → LeavesOnly v w (λ x f. StandsForAny (world_of v.reads) (world_of (gone_on batch v.reads)) next x × (f ≡ v.sent))
  commit_moments next t = weakened v w (λ x f. IsBeforeOrAfter batch v x × (f ≡ v.sent)) (λ x f. StandsForAny (world_of v.reads) (world_of (gone_on batch v.reads)) next x × (f ≡ v.sent)) (leaves t) (λ x f left. (commit_left empty (at t) next x left.0, left.1))

  commit_aside : told → LeavesPart (behind c.volume.tables.geometry) v w
  commit_aside t = weakened v w (λ x f. IsBeforeOrAfter batch v x × (f ≡ v.sent)) (λ x f. behind c.volume.tables.geometry x ≡ behind c.volume.tables.geometry v.reads) (leaves t) (λ x f left. commit_behind empty (at t) x left.0)

  pub commit_fails : {T : Type 0} (d : Core) (ring : List JournalRecord) (b1 : List Patch) (next : World) → d ≡ record c { volume = record c.volume { is_spent = true } } → (told → w.sent ≡ v.sent) → Works v w → Rose v.faults w.faults
      → GoesOn {T = T} told c d ring batch b1 v w next (Err record {})
  commit_fails d ring b1 next is sent works rose = spent_fails is sent (commit_moments next) commit_aside works rose

  pub commit_done : (ring : List JournalRecord) (b1 : List Patch) (next : World) → IsCoreReady c → (told → w.sent ≡ v.sent) → Works v w → w.faults ≡ v.faults → b1 ≡ []
      → (told → IsFirm w) → (told → IsRingAt ring w) → (told → AgreeBut is_journal (overlaid batch (home v.reads)) (home w.reads))
      → GoesOn {T = Unit {0}} told c c ring batch b1 v w next (Ok tt)
  commit_done ring b1 next ready sent works same none firm ringed done = record {
    ready = record { ready = ready; empty = empty };
    at = λ t. subst (λ (b : List Patch). IsInMemory c ring b w) (sym none) (committed_at empty (at t) (firm t) (ringed t) (done t));
    size = record { geometry = refl; version = refl };
    spent = tt;
    sent = sent;
    any_moment = commit_moments next;
    behind = commit_aside;
    works = works;
    faults = same;
  }

-- ---- on the device itself

module _ {c : Core} {rs : List JournalRecord} {v : View} (empty : c.volume.ring ≡ []) (at : IsInMemory c rs [] v) where
  module _ {u : View} (firm : IsFirm u) (ringed : IsRingAt [] u) (done : AgreeBut is_journal (home v.reads) u.reads) where
    emptied_closed : AreClosed u.reads
    emptied_closed index less = ringed.others_closed index (omega arith) less

    emptied_agrees : AgreeBut is_journal (cleared v.reads) u.reads
    emptied_agrees n out = done n out ∙ sym (ap (λ b. cond b zeros (home v.reads n)) out)

    emptied_over : FitsReads c u.reads × (state_on c u.reads ≡ state_on c (cleared v.reads))
    emptied_over = fits_over c (cleared v.reads) u.reads at.fits (cleared_closed v.reads) emptied_closed emptied_agrees

    pub emptied_at : IsFirm u × FitsReads c u.reads
    emptied_at = (firm, emptied_over.0)

    pub emptied_state : state_on c u.reads ≡ held_state c [] v
    emptied_state = emptied_over.1

-- a core at a device whose journal is closed
module _ {c : Core} (w : View) (at : IsFirm w × FitsReads c w.reads) (empty : c.volume.ring ≡ []) (closed : AreClosed w.reads) where
  below_over : FitsReads c (cleared w.reads) × (state_on c (cleared w.reads) ≡ state_on c w.reads)
  below_over = fits_over c w.reads (cleared w.reads) at.1 closed (cleared_closed w.reads) (λ n out. ap (λ b. cond b zeros (home w.reads n)) out ∙ (λ i. closed_home w.reads closed i n))

  pub below_at : IsInMemory c [] [] w
  below_at = record { firm = at.0; ring_at = at_closed w closed (λ n inside. at.0 n); good = at.1.good; fits = below_over.0; aside = cleared_aside c.volume.tables.geometry w.reads }

  pub below_state : held_state c [] w ≡ state_on c w.reads
  below_state = below_over.1

  pub below_base : world_of w.reads ≡ world_of (cleared w.reads)
  below_base = ap (λ (s : State). s.world) (sym below_over.1)

-- an emptied journal
module _ {told : Type 0} (c : Core) {v u : View} (firm : told → IsFirm v) (good : told → IsGood v.reads) (leaves : told → LeavesOnly v u (λ x f. IsBefore v x × (f ≡ v.sent))) where
  pub emptied_moments : (now next : World) → told → LeavesOnly v u (λ x f. StandsForAny (world_of v.reads) now next x × (f ≡ v.sent))
  emptied_moments now next t = weakened v u (λ x f. IsBefore v x × (f ≡ v.sent)) (λ x f. StandsForAny (world_of v.reads) now next x × (f ≡ v.sent)) (leaves t) (λ x f left. (inl (before_stands v x (firm t) (good t) left.0), left.1))

  pub emptied_aside : told → LeavesPart (behind c.volume.tables.geometry) v u
  emptied_aside t = weakened v u (λ x f. IsBefore v x × (f ≡ v.sent)) (λ x f. behind c.volume.tables.geometry x ≡ behind c.volume.tables.geometry v.reads) (leaves t)
      (λ x f left i n. before_outside v x (firm t) left.0 (total c.volume.tables.geometry + n) (above_journal (total c.volume.tables.geometry + n) (omega arith)) i)

  pub empty_fails : {T : Type 0} (d : Core) (ring : List JournalRecord) (b0 b1 : List Patch) (next : World) → d ≡ record c { volume = record c.volume { is_spent = true } } → (told → u.sent ≡ v.sent) → Works v u → Rose v.faults u.faults
      → GoesOn {T = T} told c d ring b0 b1 v u next (Err record {})
  empty_fails d ring b0 b1 next is sent works rose = spent_fails is sent (emptied_moments (world_of (gone_on b0 v.reads)) next) emptied_aside works rose
