-- Images that agree where it matters.
use Rattle.std.proofs.Common.{◌≡◌, ℕ, ◌<◌, Bool, true, false, inl, inr, ◌||◌, refl, sym, ◌∙◌, ap, subst, arith}
use Rattle.image_world.proofs.Common.{◌↔◌, cases_Bool, nat_tests, World, Geometry, View, header_sector, format_gate, data_start, header_of, data_sector, Image, says_open, is_bit_set, IsBefore, IsTheSame, home, is_journal, AgreeBut, has_valid_records, AreAlike, ReadAlike, AreUnused, debt, IsFormatGateOpen, HasJournal, HasHeader, IsGood, world_of, Stands, header_on}
use Rattle.image_device.specs.Runs.{IsFirm}
use Rattle.intent_journal.proofs.Gates.{valid_same}
use Rattle.intent_journal.proofs.Uses.{home_unlawful, home_alike, journal_alike}
use Rattle.image_world.proofs.AreaLaws.{same_marks}
use Rattle.image_world.proofs.DebtLaws.{debt_alike}
use Rattle.image_world.proofs.StandLaws.{stands_alike}
use Rattle.image_world.proofs.WrittenLaws.{above_journal}

-- ---- the other way round
pub alike_back : (x y : Image) → AreAlike x y → AreAlike y x
alike_back x y alike = record {
  header = sym alike.header;
  areas = λ n from to. sym (alike.areas n from (subst (λ (g : Geometry). n < data_start g) size to));
  blocks = λ b part inside within live.
      let inside_x = subst (λ (g : Geometry). b < g.blocks) size inside in
      let within_x = subst (λ (g : Geometry). part < g.sectors) size within in
      let live_x = sym (same_marks (header_on x).geometry x y alike.areas b inside_x) ∙ subst (λ (g : Geometry). is_bit_set y g b ≡ true) size live in
      subst (λ (g : Geometry). x (data_sector g b part) ≡ y (data_sector g b part)) (sym size) (sym (alike.blocks b part inside_x within_x live_x));
}
  where
    size : (header_on y).geometry ≡ (header_on x).geometry
    size = ap (λ bytes. (header_of bytes).geometry) alike.header

pub agree_back : (image y : Image) → ReadAlike image y → ReadAlike y image
agree_back image y agree = record { gate = sym agree.gate; journal = sym agree.journal; homes = alike_back (home image) (home y) agree.homes }

-- ---- they stand for the same
pub agree_stands : (image y : Image) (w : World) → ReadAlike image y → Stands image w → Stands y w
agree_stands image y w agree stands = stands_alike image y w agree.homes (agree.gate ∙ stands.good.formatted) (agree.journal ∙ stands.good.journal) stands

pub agree_both : (image y : Image) → ReadAlike image y → (w : World) → Stands image w ↔ Stands y w
agree_both image y agree w = (agree_stands image y w agree, agree_stands y image w (agree_back image y agree))

pub agree_owe : (image y : Image) → HasHeader (home image) → ReadAlike image y → debt y ≡ debt image
agree_owe image y header agree = debt_alike image y header agree.homes

-- ---- homes that agree outside the journal
pub home_gate : (x : Image) → home x format_gate ≡ x format_gate
home_gate x = home_unlawful x format_gate refl

pub alike_outside : (x y : Image) → AgreeBut is_journal x y → AreAlike x y
alike_outside x y same = record {
  header = same header_sector refl;
  areas = λ n from to. same n (above_journal n from);
  blocks = λ b part inside within live. same (data_sector (header_on x).geometry b part) (above_journal (data_sector (header_on x).geometry b part) (omega arith));
}

pub gate_outside : (x y : Image) → home y format_gate ≡ home x format_gate → says_open (y format_gate) ≡ says_open (x format_gate)
gate_outside x y same = ap says_open (sym (home_gate y) ∙ (same ∙ home_gate x))

pub formatted_by : (x y : Image) → home y format_gate ≡ home x format_gate → IsFormatGateOpen x → IsFormatGateOpen y
formatted_by x y same formatted = gate_outside x y same ∙ formatted

pub outside_agree : (image y : Image) → has_valid_records y ≡ has_valid_records image → AgreeBut is_journal (home image) (home y) → ReadAlike image y
outside_agree image y valid same = record { gate = gate_outside image y (same format_gate refl); journal = valid; homes = alike_outside (home image) (home y) same }

pub same_agree : (image y : Image) → IsTheSame image y → ReadAlike image y
same_agree image y same = outside_agree image y same.valid same.stands

pub same_stand : (image y : Image) → IsTheSame image y → (w : World) → Stands image w ↔ Stands y w
same_stand image y same = agree_both image y (same_agree image y same)

pub same_owe : (image y : Image) → HasHeader (home image) → IsTheSame image y → debt y ≡ debt image
same_owe image y header same = agree_owe image y header (same_agree image y same)

pub old_agree : (image y : Image) → IsGood image → AgreeBut is_journal (home image) (home y) → HasJournal y → ReadAlike image y
old_agree image y good same valid = outside_agree image y (valid ∙ sym good.journal) same

pub old_stands : (image y : Image) → IsGood image → AgreeBut is_journal (home image) (home y) → HasJournal y → Stands y (world_of image)
old_stands image y good same valid = agree_stands image y (world_of image) (old_agree image y good same valid) (record { good = good; world = refl })

-- what a call on the ring leaves of a firm device, where its batch doesn't count
pub before_outside : (old : View) (y : Image) → IsFirm old → IsBefore old y → AgreeBut is_journal (home old.reads) (home y)
before_outside old y firm before = λ n out. before.stands n (neither n out)
  where
    neither : (n : ℕ) → is_journal n ≡ false → (is_journal n || old.loose n) ≡ false
    neither n out = rw out (firm n)

pub before_agree : (old : View) (y : Image) → IsFirm old → IsGood old.reads → IsBefore old y → ReadAlike old.reads y
before_agree old y firm good before = old_agree old.reads y good (before_outside old y firm before) before.valid

pub before_stands : (old : View) (y : Image) → IsFirm old → IsGood old.reads → IsBefore old y → Stands y (world_of old.reads)
before_stands old y firm good before = old_stands old.reads y good (before_outside old y firm before) before.valid

-- ---- unused sectors
not_unused : (g : Geometry) (x : Image) (some : ℕ → Bool) → AreUnused g x some → (n : ℕ) → n < data_start g → some n ≡ false
not_unused g x some unused n low = elim (cases_Bool (some n)) [
  | inl e ↦ absurd (let above = unused.above n e in omega arith)
  | inr e ↦ e
]

pub unused_agree : (image y : Image) (some : ℕ → Bool) → AreUnused (header_on (home image)).geometry (home image) some → ((n : ℕ) → some n ≡ false → y n ≡ image n) → ReadAlike image y
unused_agree image y some unused same = record {
  gate = ap says_open (same format_gate (low format_gate (omega arith)));
  journal = valid_same image y (journal_alike image y journal);
  homes = record {
    header = there header_sector (low header_sector (omega arith));
    areas = λ n from to. there n (not_unused g (home image) some unused n to);
    blocks = λ b part inside within live. there (data_sector g b part) (unused.apart b part inside within live);
  };
}
  where
    g : Geometry
    g = (header_on (home image)).geometry

    low : (n : ℕ) → n < 134 → some n ≡ false
    low n h = not_unused g (home image) some unused n (omega arith)

    journal : (n : ℕ) → is_journal n ≡ true → y n ≡ image n
    journal n inside = same n (low n (in_low n inside))
      where
        in_low : (m : ℕ) → is_journal m ≡ true → m < 134
        in_low m h = grind (arith, nat_tests)

    there : (n : ℕ) → some n ≡ false → home y n ≡ home image n
    there n out = home_alike image y n journal (same n out)

-- an image that differs in such sectors alone stands for the same world
pub unused_stands : (image y : Image) (w : World) (some : ℕ → Bool) → Stands image w → AreUnused (header_on (home image)).geometry (home image) some → ((n : ℕ) → some n ≡ false → y n ≡ image n) → Stands y w
unused_stands image y w some stands unused same = agree_stands image y w (unused_agree image y some unused same) stands
