-- How "a crash at any moment since the start leaves what has P" goes from call to call.
--
-- A run begins with `started`, which asks P of what a crash leaves now. Each call more is `after_read`, `after_write`,
-- `after_sync` or `after_put`, which ask P of what a crash inside that call leaves; a function called is `joined` by its own
-- LeavesOnly. Where a phase of several writes keeps P whatever its sectors hold, state it by IsConfined
-- (proofs/Confined.antt) and join it once. In the end `ends_in` and `leaves_now` give P of the device as it stands.
use Rattle.std.proofs.Common.{◌≡◌, inl, inr, ⊎_elim, ℕ, ◌+◌, ◌≤◌, ◌==◌, false, List, refl, ◌∙◌, arith}
use Rattle.image_device.specs.Image.{Image}
use Rattle.image_device.specs.View.{View, IsLeftNow, IsLeftWithin, IsLeftInPut, IsSound}
use Rattle.image_device.specs.Calls.{Elapses, Rests, Touches, Settles, Appends, Uses}
use Rattle.image_device.specs.Runs.{LeavesOnly}

-- before the first call
pub started : (v : View) (P : Image → List ℕ → Type 0) → IsSound v → ((x : Image) (f : List ℕ) → IsLeftNow v x f → P x f) → LeavesOnly v v P
started v P sound here = record {
  later = omega arith;
  each = λ x f left. here x f (sound.only_now x f left);
  before = λ t x f le left. inl left;
  keeps = λ t x f le left. left;
}

-- one call more
pub goes_on : (old mid new : View) (P inside : Image → List ℕ → Type 0) → LeavesOnly old mid P → Elapses mid new inside
    → ((x : Image) (f : List ℕ) → inside x f → P x f) → LeavesOnly old new P
goes_on old mid new P inside so_far time here = record {
  later = omega (arith, so_far.later, time.later);
  each = λ x f left. ⊎_elim (so_far.each x f) (here x f) (time.nothing_else old.clock x f so_far.later left);
  before = λ t x f le left. ⊎_elim (so_far.before t x f le) (λ now. inr (here x f now)) (time.nothing_else t x f (omega (arith, le, so_far.later)) left);
  keeps = λ t x f le left. time.keeps t x f (omega (arith, le, so_far.later)) (so_far.keeps t x f le left);
}

-- one run more
pub joined : (old mid new : View) (P Q : Image → List ℕ → Type 0) → LeavesOnly old mid P → LeavesOnly mid new Q
    → ((x : Image) (f : List ℕ) → Q x f → P x f) → LeavesOnly old new P
joined old mid new P Q so_far more here = record {
  later = omega (arith, so_far.later, more.later);
  each = λ x f left. ⊎_elim (so_far.each x f) (here x f) (more.before old.clock x f so_far.later left);
  before = λ t x f le left. ⊎_elim (so_far.before t x f le) (λ now. inr (here x f now)) (more.before t x f (omega (arith, le, so_far.later)) left);
  keeps = λ t x f le left. more.keeps t x f (omega (arith, le, so_far.later)) (so_far.keeps t x f le left);
}

pub weakened : (old new : View) (P Q : Image → List ℕ → Type 0) → LeavesOnly old new P → ((x : Image) (f : List ℕ) → P x f → Q x f) → LeavesOnly old new Q
weakened old new P Q leaves here = record {
  later = leaves.later;
  each = λ x f left. here x f (leaves.each x f left);
  before = λ t x f le left. ⊎_elim inl (λ p. inr (here x f p)) (leaves.before t x f le left);
  keeps = leaves.keeps;
}

-- what is left in the end has it
pub leaves_now : (old new : View) (P : Image → List ℕ → Type 0) → IsSound new → LeavesOnly old new P → (x : Image) (f : List ℕ) → IsLeftNow new x f → P x f
leaves_now old new P sound leaves x f now = leaves.each x f (sound.counts_now old.clock x f leaves.later now)

-- what is read and sent in the end has it
pub ends_in : (old new : View) (P : Image → List ℕ → Type 0) → IsSound new → LeavesOnly old new P → P new.reads new.sent
ends_in old new P sound leaves = leaves_now old new P sound leaves new.reads new.sent (sound.own, refl)

-- both facts
pub leaves_both : (old new : View) (P Q : Image → List ℕ → Type 0) → LeavesOnly old new P → LeavesOnly old new Q → LeavesOnly old new (λ x f. P x f × Q x f)
leaves_both old new P Q a b = record {
  later = a.later;
  each = λ x f left. (a.each x f left, b.each x f left);
  before = λ t x f le left. ⊎_elim inl (λ p. ⊎_elim inl (λ q. inr (p, q)) (b.before t x f le left)) (a.before t x f le left);
  keeps = a.keeps;
}

-- the call was a read
pub after_read : (old mid new : View) (P : Image → List ℕ → Type 0) → LeavesOnly old mid P → Rests mid new → ((x : Image) (f : List ℕ) → IsLeftNow mid x f → P x f) → LeavesOnly old new P
after_read old mid new P so_far call here = goes_on old mid new P (IsLeftNow mid) so_far call.time here

-- the call was a write
pub after_write : (sector : ℕ) (old mid new : View) (P : Image → List ℕ → Type 0) → LeavesOnly old mid P → Touches sector mid new
    → ((x : Image) (f : List ℕ) → IsLeftWithin (λ n. n == sector) mid x f → P x f) → LeavesOnly old new P
after_write sector old mid new P so_far call here = goes_on old mid new P (IsLeftWithin (λ n. n == sector) mid) so_far call.time here

-- the call was a sync
pub after_sync : (old mid new : View) (P : Image → List ℕ → Type 0) → LeavesOnly old mid P → Settles mid new → ((x : Image) (f : List ℕ) → IsLeftNow mid x f → P x f) → LeavesOnly old new P
after_sync old mid new P so_far call here = goes_on old mid new P (IsLeftNow mid) so_far call.time here

-- the call was a put, inside which any front of the piece is sent
pub after_put : (piece : List ℕ) (old mid new : View) (P : Image → List ℕ → Type 0) → LeavesOnly old mid P → Appends piece mid new
    → ((x : Image) (f : List ℕ) → IsLeftInPut piece mid x f → P x f) → LeavesOnly old new P
after_put piece old mid new P so_far call here = goes_on old mid new P (IsLeftInPut piece mid) so_far call.time here

-- calls that only read
pub rested : (v new : View) (P : Image → List ℕ → Type 0) → IsSound v → Rests v new → ((x : Image) (f : List ℕ) → IsLeftNow v x f → P x f) → LeavesOnly v new P
rested v new P sound rests now = goes_on v v new P (IsLeftNow v) (started v P sound now) rests.time now

-- where nothing is loose, a crash leaves what is read
pub firm_image : (v : View) → ((n : ℕ) → v.loose n ≡ false) → (x : Image) (f : List ℕ) → IsLeftNow v x f → x ≡ v.reads
firm_image v firm x f left i n = left.0.agrees n (firm n) i

-- the counts over one run more
pub uses_joined : (few many : ℕ) (old mid new : View) → Uses few old mid → Uses many mid new → Uses (few + many) old new
uses_joined few many old mid new a b = record {
  clock = omega (arith, a.clock, b.clock);
  faults = omega (arith, a.faults, b.faults);
  put_faults = b.put_faults ∙ a.put_faults;
  writes = omega (arith, a.writes, b.writes);
  most = omega (arith, a.most, b.most);
}

-- the same with a higher limit
pub uses_within : (few many : ℕ) (old new : View) → few ≤ many → Uses few old new → Uses many old new
uses_within few many old new le a = record { clock = a.clock; faults = a.faults; put_faults = a.put_faults; writes = a.writes; most = omega (arith, a.most) }

pub uses_and : (few many all : ℕ) (old mid new : View) → few + many ≤ all → Uses few old mid → Uses many mid new → Uses all old new
uses_and few many all old mid new le a b = uses_within (few + many) all old new le (uses_joined few many old mid new a b)
