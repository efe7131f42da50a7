-- A device where blocks got zeros before they are live.
use Rattle.std.proofs.Common.{◌≡◌, ◌≢◌, ℕ, ◌+◌, ◌-◌, ◌<◌, ◌≤◌, true, false, ◌&&◌, ◌||◌, nat_le, nat_lt, ◌==◌, inl, inr, ⊎_elim, Bool, List, [], ◌∷◌, refl, sym, ◌∙◌, ap, subst, arith}
use Rattle.volume_laws.proofs.Common.{cases_Bool, cases_lt, or_parts, both_ways, nat_tests, Geometry, World, has_number, zeros, View, LeavesOnly, IsConfined, weakened, joined, header_sector, format_gate, data_start, data_sector, Image, sector_bytes, Patch, IsBefore, IsBeforeOrAfter, home, is_journal, has_home, JournalRecord, patches_of, home_missed, at_kept, IsRingAt, is_marked_in, AreAlike, Stands, Tables, header_on, tables_of, data_on, alike_tables, above_journal, AreFree, Volume, IsVolumeAt, world_on, LeavesEither, LeavesWorld, StandsForEither, AreUnused, is_part, is_data, firmed, AreMissed, IsZeroedAt, Turns, formatted_by, unused_stands, unused_agree}
use Rattle.image_world.proofs.FreshLaws.{zero_bytes}
use Rattle.image_world.proofs.StandLaws.{stands_alike}
use Rattle.image_layout.proofs.ThingLaws.{parts_apart}
use Rattle.volume_laws.proofs.Changed.{turned_world, turned_stands, has_its_tables}
use Rattle.volume_laws.proofs.Committed.{image_geometry}
use Rattle.volume_laws.proofs.Made.{has_zeros}

-- ---- sectors
-- below the data none is one of blocks
pub low_data : (g : Geometry) (bs : List ℕ) (n : ℕ) → n < data_start g → is_data g bs n ≡ false
low_data g [] n low = refl
low_data g (b ∷ bs) n low = let here : is_part g b n ≡ false = no_part (data_sector g b 0) g.sectors n (omega arith) in rw here (low_data g bs n low)
  where
    no_part : (first k m : ℕ) → m < first → (nat_le first m && nat_lt m (first + k)) ≡ false
    no_part first k m h = grind (arith, nat_tests)

-- nor is a sector of the journal
pub journal_low : (g : Geometry) (bs : List ℕ) (n : ℕ) → is_journal n ≡ true → is_data g bs n ≡ false
journal_low g bs n inside = low_data g bs n (let h : n ≤ 130 = in_journal n inside in omega arith)
  where
    in_journal : (m : ℕ) → is_journal m ≡ true → m ≤ 130
    in_journal m e = grind (arith, nat_tests)

pub part_inside : (first k m : ℕ) → (nat_le first m && nat_lt m (first + k)) ≡ true → (first ≤ m) × (m < first + k)
part_inside first k m h = (grind (arith, nat_tests), grind (arith, nat_tests))

-- a sector of another block isn't one of these
pub other_data : (g : Geometry) (bs : List ℕ) (b part : ℕ) → part < g.sectors → has_number bs b ≡ false → is_data g bs (data_sector g b part) ≡ false
other_data g [] b part inside out = refl
other_data g (c ∷ cs) b part inside out =
    let parts = or_parts (c == b) (has_number cs b) out in
    let here : is_part g c (data_sector g b part) ≡ false = elim (cases_Bool (is_part g c (data_sector g b part))) [
      | inl e ↦
          let at = part_inside (data_sector g c 0) g.sectors (data_sector g b part) e in
          absurd (parts_apart g c b (data_sector g b part - data_sector g c 0) part (omega (arith, at.0, at.1)) inside (unlike c b parts.0) (omega (arith, at.0, at.1)))
      | inr e ↦ e
    ] in
    rw here (other_data g cs b part inside parts.1)
  where
    unlike : (m k : ℕ) → (m == k) ≡ false → m ≢ k
    unlike m k e same = grind (arith, nat_tests)

-- a live block is none of free ones
pub live_out : (live : List Bool) (n : ℕ) (bs : List ℕ) (b : ℕ) → AreFree live n bs → is_marked_in live b ≡ true → has_number bs b ≡ false
live_out live n [] b free on = refl
live_out live n (c ∷ cs) b free on =
    let other : c ≢ b = λ same. both_ways (is_marked_in live b) (ap (is_marked_in live) (sym same) ∙ free.1) on in
    let here : (c == b) ≡ false = differ c b other in
    rw here (live_out live n cs b free.3 on)
  where
    differ : (m k : ℕ) → m ≢ k → (m == k) ≡ false
    differ m k e = grind (arith, nat_tests)

-- such sectors are unused
pub data_unused : (vol : Volume) (v : View) (bs : List ℕ) → IsVolumeAt vol v → AreFree vol.tables.live vol.tables.geometry.blocks bs → AreUnused (header_on (home v.reads)).geometry (home v.reads) (is_data vol.tables.geometry bs)
data_unused vol v bs at free = subst (λ k. AreUnused k (home v.reads) (is_data vol.tables.geometry bs)) (sym (image_geometry vol v at)) (record {
  above = λ n some. above n some;
  apart = λ b part inside within live. other_data vol.tables.geometry bs b part within (live_out vol.tables.live vol.tables.geometry.blocks bs b free (sym ((has_its_tables vol v at).live b inside) ∙ live));
})
  where
    above : (n : ℕ) → is_data vol.tables.geometry bs n ≡ true → data_start vol.tables.geometry ≤ n
    above n some = elim (cases_lt n (data_start vol.tables.geometry)) [
      | inl low ↦ absurd (both_ways (is_data vol.tables.geometry bs n) (low_data vol.tables.geometry bs n low) some)
      | inr high ↦ high
    ]

-- ---- the device
pub zeroed_ring : (vol : Volume) (v : View) (bs : List ℕ) (rs : List JournalRecord) → rs ≡ vol.ring → IsZeroedAt vol v bs → IsRingAt rs v
zeroed_ring vol v bs rs is z = subst (λ (qs : List JournalRecord). IsRingAt qs v) (sym is) (record {
  shows = z.at.ring.shows;
  others_closed = z.at.ring.others_closed;
  journal_firm = λ n inside. z.loose n (low_data vol.tables.geometry bs n (low n inside));
})
  where
    low : (n : ℕ) → is_journal n ≡ true → n < data_start vol.tables.geometry
    low n inside = let h : n ≤ 130 = in_journal n inside in omega arith
      where
        in_journal : (m : ℕ) → is_journal m ≡ true → m ≤ 130
        in_journal m e = grind (arith, nat_tests)

pub zeroed_bytes : (vol : Volume) (v : View) (bs : List ℕ) → IsZeroedAt vol v bs → has_zeros vol.tables bs (data_on (home v.reads))
zeroed_bytes vol v bs z = λ b in_.
    let size : (tables_of (home v.reads)).geometry ≡ vol.tables.geometry = ap (λ (t : Tables). t.geometry) z.at.tables in
    ap (λ (g : Geometry). sector_bytes (home v.reads) (data_sector g b 0) g.sectors) size
    ∙ zero_bytes (home v.reads) (data_sector vol.tables.geometry b 0) vol.tables.geometry.sectors (λ i h. ap (home v.reads) (omega arith) ∙ z.zeroed b i in_ h)

-- what a crash leaves before the batch counts is alike
loosely_alike : (vol : Volume) (old : View) (bs : List ℕ) (x : Image) → IsZeroedAt vol old bs → AreFree vol.tables.live vol.tables.geometry.blocks bs → IsBefore old x → AreAlike (home old.reads) (home x)
loosely_alike vol old bs x z free before = record {
  header = there header_sector refl (low_data g bs header_sector (omega arith));
  areas = λ n from to. there n (above_journal n from) (low_data g bs n (subst (λ k. n < data_start k) size to));
  blocks = λ b part inside within live. there (data_sector (header_on (home old.reads)).geometry b part) (above_journal (data_sector (header_on (home old.reads)).geometry b part) (omega arith)) (unused.apart b part inside within live);
}
  where
    g : Geometry
    g = vol.tables.geometry

    there : (n : ℕ) → is_journal n ≡ false → is_data g bs n ≡ false → home x n ≡ home old.reads n
    there n out none = before.stands n (neither n out (z.loose n none))
      where
        neither : (m : ℕ) → is_journal m ≡ false → old.loose m ≡ false → (is_journal m || old.loose m) ≡ false
        neither m one two = rw (one, two) refl

    unused : AreUnused (header_on (home old.reads)).geometry (home old.reads) (is_data g bs)
    unused = data_unused vol (firmed old) bs z.at free

    size : (header_on (home old.reads)).geometry ≡ g
    size = image_geometry vol (firmed old) z.at

-- so its tables are the volume's
pub loosely_tables : (vol : Volume) (old : View) (bs : List ℕ) (x : Image) → IsZeroedAt vol old bs → AreFree vol.tables.live vol.tables.geometry.blocks bs → IsBefore old x → tables_of (home x) ≡ vol.tables
loosely_tables vol old bs x z free before = alike_tables (home old.reads) (home x) z.at.good.header (loosely_alike vol old bs x z free before) ∙ z.at.tables

-- and it stands for the same world
loosely_before : (vol : Volume) (old : View) (bs : List ℕ) (x : Image) → IsZeroedAt vol old bs → AreFree vol.tables.live vol.tables.geometry.blocks bs → IsBefore old x → Stands x (world_on old)
loosely_before vol old bs x z free before =
    stands_alike old.reads x (world_on old) (loosely_alike vol old bs x z free before)
    (formatted_by old.reads x (there format_gate refl (low_data g bs format_gate (omega arith))) z.at.good.formatted) before.valid (record { good = z.at.good; world = refl })
  where
    g : Geometry
    g = vol.tables.geometry

    there : (n : ℕ) → is_journal n ≡ false → is_data g bs n ≡ false → home x n ≡ home old.reads n
    there n out none = before.stands n (neither n out (z.loose n none))
      where
        neither : (m : ℕ) → is_journal m ≡ false → old.loose m ≡ false → (is_journal m || old.loose m) ≡ false
        neither m one two = rw (one, two) refl

pub zeroed_moments : (vol : Volume) (old new : View) (bs : List ℕ) (batch : List Patch) (t : Tables) (w : World) → IsZeroedAt vol old bs → AreFree vol.tables.live vol.tables.geometry.blocks bs → Turns vol.tables t batch → turned_world t old ≡ w
    → LeavesOnly old new (λ x f. IsBeforeOrAfter batch old x × (f ≡ old.sent)) → LeavesEither old new w
zeroed_moments vol old new bs batch t w z free turns is leaves =
    weakened old new (λ x f. IsBeforeOrAfter batch old x × (f ≡ old.sent)) (λ x f. StandsForEither (world_on old) w x × (f ≡ old.sent)) leaves
    (λ x f left. (⊎_elim (λ before. inl (loosely_before vol old bs x z free before)) (λ after. inr (subst (Stands x) is (turned_stands vol (firmed old) x batch t z.at turns (record { valid = after.valid; stands = after.stands })))) left.0, left.1))

pub free_inside : (live : List Bool) (n : ℕ) (bs : List ℕ) (b : ℕ) → AreFree live n bs → has_number bs b ≡ true → b < n
free_inside live n [] b free in_ = absurd (cc)
free_inside live n (c ∷ cs) b free in_ = elim (cases_Bool (c == b)) [
  | inl e ↦ let same : c ≡ b = equal c b e in omega (arith, same, free.0)
  | inr e ↦ let rest : has_number cs b ≡ true = (λ i. sym e i || has_number cs b) ∙ in_ in free_inside live n cs b free.3 rest
]
  where
    equal : (m k : ℕ) → (m == k) ≡ true → m ≡ k
    equal m k e = grind (arith, nat_tests)

-- no sector at all is unused
pub none_unused : (g : Geometry) (x : Image) → AreUnused g x (λ n. false)
none_unused g x = record { above = λ n some. absurd (cc); apart = λ b part inside within live. refl }

-- ---- after zeros were written
pub zero_done : (vol : Volume) (old new : View) (bs : List ℕ) → IsVolumeAt vol old → AreFree vol.tables.live vol.tables.geometry.blocks bs → IsConfined (is_data vol.tables.geometry bs) old new → world_on new ≡ world_on old
zero_done vol old new bs at free run =
    sym (unused_stands old.reads new.reads (world_on old) (is_data vol.tables.geometry bs) (record { good = at.good; world = refl }) (data_unused vol old bs at free) run.reads).world

pub zeroed_at : (vol now : Volume) (old new : View) (bs : List ℕ) → now.tables ≡ vol.tables → now.ring ≡ vol.ring → IsVolumeAt vol old → AreFree vol.tables.live vol.tables.geometry.blocks bs → AreMissed vol.tables.geometry (patches_of vol.ring) bs
    → IsConfined (is_data vol.tables.geometry bs) old new → ((b part : ℕ) → has_number bs b ≡ true → part < vol.tables.geometry.sectors → new.reads (data_sector vol.tables.geometry b part) ≡ zeros) → IsZeroedAt now new bs
zeroed_at vol now old new bs kept same at free missed run written = record {
  at = record {
    firm = λ n. refl;
    ring = subst (λ (rs : List JournalRecord). IsRingAt rs (firmed new)) (sym same) ring;
    good = stands.good;
    tables = alike_tables (home old.reads) (home new.reads) at.good.header (unused_agree old.reads new.reads (is_data g bs) (data_unused vol old bs at free) run.reads).homes ∙ (at.tables ∙ sym kept);
  };
  loose = subst (λ (t : Tables). (n : ℕ) → is_data t.geometry bs n ≡ false → new.loose n ≡ false) (sym kept) (λ n out. run.loose n out (at.firm n));
  zeroed = subst (λ (t : Tables). (b part : ℕ) → has_number bs b ≡ true → part < t.geometry.sectors → home new.reads (data_sector t.geometry b part) ≡ zeros) (sym kept) (λ b part in_ h.
      home_missed new.reads (data_sector g b part) (ap (λ (rs : List JournalRecord). has_home (patches_of rs) (data_sector g b part)) ring.shows ∙ missed b part in_ h) ∙ written b part in_ h);
}
  where
    g : Geometry
    g = vol.tables.geometry

    low : (n : ℕ) → is_journal n ≡ true → n < data_start g
    low n inside = let h : n ≤ 130 = in_journal n inside in omega arith
      where
        in_journal : (m : ℕ) → is_journal m ≡ true → m ≤ 130
        in_journal m e = grind (arith, nat_tests)

    ring : IsRingAt vol.ring (firmed new)
    ring = at_kept at.ring (λ n inside. (run.reads n (low_data g bs n (low n inside)), refl))

    stands : Stands new.reads (world_on old)
    stands = unused_stands old.reads new.reads (world_on old) (is_data g bs) (record { good = at.good; world = refl }) (data_unused vol old bs at free) run.reads

-- three runs, of which the last alone changes the world
pub grow_moments : (v0 v1 v2 v3 : View) (change : World → World) → LeavesWorld v0 v1 → world_on v1 ≡ world_on v0 → v1.sent ≡ v0.sent → LeavesWorld v1 v2 → world_on v2 ≡ world_on v1 → v2.sent ≡ v1.sent → LeavesEither v2 v3 (change (world_on v2))
    → LeavesEither v0 v3 (change (world_on v0))
grow_moments v0 v1 v2 v3 change one w1 s1 two w2 s2 three =
    joined v0 v2 v3 (λ x f. StandsForEither (world_on v0) (change (world_on v0)) x × (f ≡ v0.sent)) (λ x f. StandsForEither (world_on v2) (change (world_on v2)) x × (f ≡ v2.sent))
    (joined v0 v1 v2 (λ x f. StandsForEither (world_on v0) (change (world_on v0)) x × (f ≡ v0.sent)) (λ x f. Stands x (world_on v1) × (f ≡ v1.sent))
    (weakened v0 v1 (λ x f. Stands x (world_on v0) × (f ≡ v0.sent)) (λ x f. StandsForEither (world_on v0) (change (world_on v0)) x × (f ≡ v0.sent)) one (λ x f left. (inl left.0, left.1)))
    two (λ x f left. (inl (subst (Stands x) w1 left.0), left.1 ∙ s1)))
    three (λ x f left. (⊎_elim (λ same. inl (subst (Stands x) (w2 ∙ w1) same)) (λ then. inr (subst (Stands x) (ap change (w2 ∙ w1)) then)) left.0, left.1 ∙ (s2 ∙ s1)))
