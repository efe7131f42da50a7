-- Calls of a device that is only read.
use Rattle.std.proofs.Common.{◌≡◌, ◌≢◌, inl, ℕ, ◌+◌, ◌≤◌, List, true, false, cond, refl, sym, ◌∙◌, ap, subst, arith}
use Rattle.std.proofs.lemmas.Bool.{cases_Bool}
use Rattle.image_device.specs.Calls.{Elapses, Rests, Settles, Touches}
use Rattle.image_device.specs.Image.{Image, zeros}
use Rattle.image_device.specs.View.{View}
use Rattle.image_probe.specs.Still.{first_view, settled_reads, settled_view, still_view}
use Rattle.image_probe.specs.Tested.{IsFaultOf, IsTested}
use Rattle.image_world.proofs.AgreeLaws.{agree_back, agree_stands, home_gate, outside_agree}
use Rattle.image_world.proofs.FaultAlike.{fault_alike}
use Rattle.image_world.specs.Alike.{ReadAlike}
use Rattle.image_world.specs.Faults.{IsFormatGateOpen, IsGood}
use Rattle.image_world.specs.Stands.{Stands, world_of}
use Rattle.image_layout.specs.Image.{says_open}
use Rattle.image_layout.specs.Ring.{gate_sector}
use Rattle.recovery.specs.declared.fault.OpenFault.{OpenFault}
use Rattle.recovery.specs.declared.fault.OpenFault.TheVariants as fault
use Rattle.std.specs.Prelude.{Result, Ok, Err}
use Rattle.intent_journal.proofs.Opened.{home_of_empty, opened_none}
use Rattle.intent_journal.proofs.Places.{gate_in}
use Rattle.intent_journal.specs.Home.{home, is_journal}
use Rattle.intent_journal.specs.Records.{has_valid_records, is_gate_open, AreClosed}

-- a call that leaves what it reads as and what was sent
module _ (r r' : Image) (s s' : List ℕ) (c c' a a' b b' w w' : ℕ) (reads : r' ≡ r) (sent : s' ≡ s)
    (later : c ≤ c') where
  time_by : (inside : Image → List ℕ → Type 0) → Elapses (still_view r s c a b w) (still_view r' s' c' a' b' w') inside
  time_by inside = record {
    later = later;
    nothing_else = λ t x f le left. inl (left.0 ∙ reads, left.1 ∙ sent);
    keeps = λ t x f le left. (left.0 ∙ sym reads, left.1 ∙ sym sent);
  }

  pub rests_by : Rests (still_view r s c a b w) (still_view r' s' c' a' b' w')
  rests_by = record { reads = reads; loose = refl; sent = sent; time = time_by _ }

  pub settles_by : Settles (still_view r s c a b w) (still_view r' s' c' a' b' w')
  settles_by = record { reads = reads; loose = λ n h. h; sent = sent; time = time_by _ }

  pub touches_by : (sector : ℕ) → Touches sector (still_view r s c a b w) (still_view r' s' c' a' b' w')
  touches_by sector = record { reads = λ n h j. reads j n; loose = λ n h. refl; sent = sent; time = time_by _ }

-- ---- an image as it is to read

pub settled_closed : (x : Image) → AreClosed (settled_reads x)
settled_closed x index less =
    ap (λ t. says_open (cond t zeros (home x (gate_sector index)))) (gate_in index less)

pub settled_formatted : (x : Image) → IsFormatGateOpen x → IsFormatGateOpen (settled_reads x)
settled_formatted x formatted = ap says_open (home_gate x) ∙ formatted

pub outside : (x : Image) (n : ℕ) → is_journal n ≡ false → settled_reads x n ≡ home x n
outside x n out = ap (λ t. cond t zeros (home x n)) out

-- over an image on which no record is open
pub outside_closed : (x : Image) (n : ℕ) → is_journal n ≡ false → is_gate_open x 0 ≡ false → settled_reads x n ≡ x n
outside_closed x n out shut = outside x n out ∙ (λ j. home_of_empty x (opened_none x shut).0 j n)

settled_alike : (x : Image) → has_valid_records x ≡ true → ReadAlike x (settled_reads x)
settled_alike x valid =
    let none = opened_none (settled_reads x) (settled_closed x 0 (omega arith)) in
    outside_agree x (settled_reads x) (none.1 ∙ sym valid)
    (λ n out. (λ j. home_of_empty (settled_reads x) none.0 j n) ∙ outside x n out)

fault_by : (x : Image) → has_valid_records x ≡ true → (why : OpenFault) → IsFaultOf (settled_reads x) why
    → IsFaultOf x why
fault_by x valid (fault.Image why) is =
    fault_alike (settled_reads x) x (agree_back x (settled_reads x) (settled_alike x valid)) why is
fault_by x valid fault.Device is = tt
fault_by x valid fault.NoMemory is = tt

pub tested_by : {T : Type 0} (x : Image) → has_valid_records x ≡ true → (r : Result T OpenFault)
    → IsTested (settled_reads x) r → IsTested x r
tested_by x valid (Ok done) good =
    (agree_stands (settled_reads x) x (world_of (settled_reads x))
    (agree_back x (settled_reads x) (settled_alike x valid)) (record { good = good; world = refl })).good
tested_by x valid (Err why) is = fault_by x valid why is
