-- Calls that only read, one after another.
use Rattle.std.proofs.Common.{inl, inr, ⊎_elim, ℕ, List, refl, ◌∙◌, arith}
use Rattle.image_device.specs.Image.{Image}
use Rattle.image_device.specs.View.{View, IsLeftNow}
use Rattle.image_device.specs.Calls.{Rests, Uses}

-- no call yet
pub rests_none : (v : View) → Rests v v
rests_none v = record {
  reads = refl;
  loose = refl;
  sent = refl;
  time = record { later = omega arith; nothing_else = λ t x f le left. inl left; keeps = λ t x f le left. left };
}

-- what is left after reads was left before
pub left_still : (old new : View) → Rests old new → (x : Image) (f : List ℕ) → IsLeftNow new x f → IsLeftNow old x f
left_still old new rests x f left = (
  record { agrees = λ n h. left.0.agrees n ((λ i. rests.loose i n) ∙ h) ∙ (λ i. rests.reads i n); whole = left.0.whole },
  left.1 ∙ rests.sent,
)

-- some reads more
pub rests_joined : (old mid new : View) → Rests old mid → Rests mid new → Rests old new
rests_joined old mid new a b = record {
  reads = b.reads ∙ a.reads;
  loose = b.loose ∙ a.loose;
  sent = b.sent ∙ a.sent;
  time = record {
    later = omega (arith, a.time.later, b.time.later);
    nothing_else = λ t x f le left. ⊎_elim (a.time.nothing_else t x f le) (λ now. inr (left_still old mid a x f now)) (b.time.nothing_else t x f (omega (arith, le, a.time.later)) left);
    keeps = λ t x f le left. b.time.keeps t x f (omega (arith, le, a.time.later)) (a.time.keeps t x f le left);
  };
}

-- the counts before the first call
pub uses_none : (v : View) → Uses 0 v v
uses_none v = record { clock = omega arith; faults = omega arith; put_faults = refl; writes = omega arith; most = omega arith }

-- the counts over some reads more
pub uses_read : (limit : ℕ) (old mid new : View) → Uses limit old mid → Uses 0 mid new → Uses limit old new
uses_read limit old mid new a b = record {
  clock = omega (arith, a.clock, b.clock);
  faults = omega (arith, a.faults, b.faults);
  put_faults = b.put_faults ∙ a.put_faults;
  writes = omega (arith, a.writes, b.writes);
  most = omega (arith, a.most, b.most);
}

-- reads one after another, for the search
pub ruleset rests_calls = (rests_none, rests_joined)
