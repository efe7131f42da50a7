-- What images stand for around a commit.
use Rattle.std.proofs.Common.{◌≡◌, ◌≢◌, ℕ, ◌<◌, true, false, ◌||◌, inl, inr, ⊎_elim, List, [], length, refl, sym, ◌∙◌, ap, subst, arith, Result, Ok, Err}
use Rattle.volume_laws.proofs.Common.{OnOk, cases_Bool, Geometry, block_len, is_live, with_contents, View, LeavesOnly, IsFirm, weakened, format_gate, data_sector, Image, Patch, home, overlaid, is_journal, AgreeBut, JournalRecord, IsRingAt, IsBefore, IsAfter, IsBeforeOrAfter, home_of_empty, at_valid, IsWritten, HasJournal, Tables, header_on, tables_of, left_of, world_with, blank_of, data_on, zeros_of, world_of, Stands, left_like, tables_like, left_live, live_inside, blocks_with, alike_tables, alike_outside, formatted_by, old_stands, above_journal, written_stands, written_tables, Volume, IsVolumeAt, told_by, world_on, StandsForEither, LeavesEither, LeavesWorld}
use Rattle.disk_laws.specs.Bytes.{AreLike}

-- ---- homes that agree outside the journal
pub agree_stands : (vol : Volume) (old : View) (x : Image) → IsVolumeAt vol old → ((n : ℕ) → is_journal n ≡ false → home x n ≡ home old.reads n) → HasJournal x → Stands x (world_on old)
agree_stands vol old x at same valid = old_stands old.reads x at.good same valid

pub before_stands : (vol : Volume) (old : View) (x : Image) → IsVolumeAt vol old → IsBefore old x → Stands x (world_on old)
before_stands vol old x at before = agree_stands vol old x at (λ n out. before.stands n (neither n out)) before.valid
  where
    neither : (n : ℕ) → is_journal n ≡ false → (is_journal n || old.loose n) ≡ false
    neither n out = rw out (at.firm n)

-- a device whose home is the same
pub same_new : (vol now : Volume) (old new : View) → IsVolumeAt vol old → ((n : ℕ) → is_journal n ≡ false → home new.reads n ≡ home old.reads n) → IsRingAt now.ring new → IsFirm new → now.tables ≡ vol.tables
    → IsVolumeAt now new × (world_on new ≡ world_on old)
same_new vol now old new at same ring firm kept =
    let stands = agree_stands vol old new.reads at same (at_valid ring) in (
      record {
        firm = firm;
        ring = ring;
        good = stands.good;
        tables = alike_tables (home old.reads) (home new.reads) at.good.header (alike_outside (home old.reads) (home new.reads) same) ∙ (at.tables ∙ sym kept);
      },
      sym stands.world,
    )

-- the ring was emptied
pub emptied_ok : {T E : Type 0} (r : Result T E) (vol now : Volume) (old new : View) → IsVolumeAt vol old → OnOk r (AgreeBut is_journal (home old.reads) new.reads) → OnOk r (IsRingAt [] new) → OnOk r (IsFirm new) → OnOk r (now.ring ≡ []) → now.tables ≡ vol.tables
    → OnOk r (IsVolumeAt now new × (world_on new ≡ world_on old))
emptied_ok (Ok u) vol now old new at agree ring firm none kept =
    let here = home_of_empty new.reads ring.shows in
    same_new vol now old new at (λ n out. (λ i. here i n) ∙ agree n out) (subst (λ (rs : List JournalRecord). IsRingAt rs new) (sym none) ring) firm kept
emptied_ok (Err e) vol now old new at agree ring firm none kept = tt

pub before_moments : (vol : Volume) (old new : View) → IsVolumeAt vol old → LeavesOnly old new (λ x f. IsBefore old x × (f ≡ old.sent)) → LeavesWorld old new
before_moments vol old new at leaves =
    weakened old new (λ x f. IsBefore old x × (f ≡ old.sent)) (λ x f. Stands x (world_on old) × (f ≡ old.sent)) leaves (λ x f left. (before_stands vol old x at left.0, left.1))

-- ---- what memory tells
pub told_like : (vol : Volume) (v : View) → IsVolumeAt vol v → AreLike (told_by vol) (world_on v)
unfolding world_of
told_like vol v at =
    let t = tables_of (home v.reads) in
    let here : AreLike (blank_of t) (left_of t (world_with t (data_on (home v.reads)))) = left_like t (world_with t (zeros_of t)) (world_with t (data_on (home v.reads))) (tables_like t (zeros_of t) (data_on (home v.reads))) in
    subst (λ (s : Tables). AreLike (blank_of s) (world_on v)) at.tables here

pub geometry_with : (t : Tables) (c : ℕ → List ℕ) → (left_of t (world_with t c)).geometry ≡ t.geometry
unfolding left_of world_with
geometry_with t c = elim (cases_Bool t.is_sweeping) [ inl e ↦ rw e refl | inr e ↦ rw e refl ]

pub told_geometry : (vol : Volume) (v : View) → IsVolumeAt vol v → (world_on v).geometry ≡ vol.tables.geometry
told_geometry vol v at = sym (told_like vol v at).geometry ∙ geometry_with vol.tables (zeros_of vol.tables)

header_geometry : (x : Image) → (tables_of x).geometry ≡ (header_on x).geometry
unfolding tables_of
header_geometry x = refl

pub image_geometry : (vol : Volume) (v : View) → IsVolumeAt vol v → (header_on (home v.reads)).geometry ≡ vol.tables.geometry
image_geometry vol v at = sym (header_geometry (home v.reads)) ∙ ap (λ (t : Tables). t.geometry) at.tables

-- a block that is told live is one of the disk
pub told_inside : (vol : Volume) (b : ℕ) → is_live (told_by vol) b ≡ true → b < vol.tables.geometry.blocks
told_inside vol b live =
    let raw = left_live vol.tables (world_with vol.tables (zeros_of vol.tables)) b live in
    omega (arith, live_inside (world_with vol.tables (zeros_of vol.tables)) b raw, blocks_with vol.tables (zeros_of vol.tables))

-- ---- a block's bytes were committed
pub written_after : (batch : List Patch) (g : Geometry) (b : ℕ) (bytes : List ℕ) (old x : Image) → ((z : Image) → IsWritten g b bytes z (overlaid batch z)) → AgreeBut is_journal (overlaid batch (home old)) (home x) → IsWritten g b bytes (home old) (home x)
written_after batch g b bytes old x written agree = record {
  parts = λ part h. agree (data_sector g b part) (above_journal (data_sector g b part) (omega arith)) ∙ (written (home old)).parts part h;
  others = λ n out apart. agree n out ∙ (written (home old)).others n out apart;
}

gate_apart : (g : Geometry) (b part : ℕ) → format_gate ≢ data_sector g b part
gate_apart g b part same = omega arith

pub after_stands : (vol : Volume) (old : View) (x : Image) (batch : List Patch) (g : Geometry) (b : ℕ) (bytes : List ℕ) → IsVolumeAt vol old → g ≡ vol.tables.geometry → is_live (told_by vol) b ≡ true → length bytes ≡ block_len g
    → ((z : Image) → IsWritten g b bytes z (overlaid batch z)) → IsAfter batch old x → Stands x (with_contents (world_on old) b bytes)
after_stands vol old x batch g b bytes at same live long written after =
    let now = written_after batch g b bytes old.reads x written after.stands in
    let size : g ≡ (header_on (home old.reads)).geometry = same ∙ sym (image_geometry vol old at) in
    let gate = now.others format_gate refl (λ part h. gate_apart g b part) in
    written_stands old.reads x (world_on old) b bytes (record { good = at.good; world = refl })
    (sym ((told_like vol old at).live b) ∙ live)
    (long ∙ ap block_len size)
    (subst (λ k. IsWritten k b bytes (home old.reads) (home x)) size now)
    (formatted_by old.reads x gate at.good.formatted) after.valid

-- the images that a commit leaves
pub written_moments : (vol : Volume) (old new : View) (batch : List Patch) (g : Geometry) (b : ℕ) (bytes : List ℕ) → IsVolumeAt vol old → g ≡ vol.tables.geometry → is_live (told_by vol) b ≡ true → length bytes ≡ block_len g
    → ((z : Image) → IsWritten g b bytes z (overlaid batch z)) → LeavesOnly old new (λ x f. IsBeforeOrAfter batch old x × (f ≡ old.sent)) → LeavesEither old new (with_contents (world_on old) b bytes)
written_moments vol old new batch g b bytes at same live long written leaves =
    weakened old new (λ x f. IsBeforeOrAfter batch old x × (f ≡ old.sent)) (λ x f. StandsForEither (world_on old) (with_contents (world_on old) b bytes) x × (f ≡ old.sent)) leaves
    (λ x f left. (⊎_elim (λ before. inl (before_stands vol old x at before)) (λ after. inr (after_stands vol old x batch g b bytes at same live long written after)) left.0, left.1))

-- the device after it
pub written_new : (vol now : Volume) (old new : View) (batch : List Patch) (g : Geometry) (b : ℕ) (bytes : List ℕ) → IsVolumeAt vol old → g ≡ vol.tables.geometry → is_live (told_by vol) b ≡ true → length bytes ≡ block_len g
    → ((z : Image) → IsWritten g b bytes z (overlaid batch z)) → AgreeBut is_journal (overlaid batch (home old.reads)) (home new.reads)
    → IsRingAt now.ring new → IsFirm new → now.tables ≡ vol.tables
    → IsVolumeAt now new × (world_on new ≡ with_contents (world_on old) b bytes)
written_new vol now old new batch g b bytes at same live long written agree ring firm kept =
    let stands = after_stands vol old new.reads batch g b bytes at same live long written (record { valid = at_valid ring; stands = agree }) in
    let size : g ≡ (header_on (home old.reads)).geometry = same ∙ sym (image_geometry vol old at) in
    let bytes_at = subst (λ k. IsWritten k b bytes (home old.reads) (home new.reads)) size (written_after batch g b bytes old.reads new.reads written agree) in (
      record {
        firm = firm;
        ring = ring;
        good = stands.good;
        tables = written_tables b bytes (home old.reads) (home new.reads) at.good.header bytes_at ∙ (at.tables ∙ sym kept);
      },
      sym stands.world,
    )

-- the same, where the commit was Ok
pub written_ok : {T E : Type 0} (r : Result T E) (vol now : Volume) (old new : View) (batch : List Patch) (g : Geometry) (b : ℕ) (bytes : List ℕ) → IsVolumeAt vol old → g ≡ vol.tables.geometry → is_live (told_by vol) b ≡ true → length bytes ≡ block_len g
    → ((z : Image) → IsWritten g b bytes z (overlaid batch z)) → OnOk r (AgreeBut is_journal (overlaid batch (home old.reads)) (home new.reads))
    → OnOk r (IsRingAt now.ring new) → OnOk r (IsFirm new) → now.tables ≡ vol.tables
    → OnOk r (IsVolumeAt now new × (world_on new ≡ with_contents (world_on old) b bytes))
written_ok (Ok u) vol now old new batch g b bytes at same live long written agree ring firm kept = written_new vol now old new batch g b bytes at same live long written agree ring firm kept
written_ok (Err e) vol now old new batch g b bytes at same live long written agree ring firm kept = tt

pub ok_map : {T E : Type 0} (r : Result T E) (P Q : Type 0) → (P → Q) → OnOk r P → OnOk r Q
ok_map (Ok u) P Q f p = f p
ok_map (Err e) P Q f p = tt
