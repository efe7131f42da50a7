-- Batches that turn tables into others.
use Rattle.std.proofs.Common.{◌≡◌, ℕ, ◌<◌, ◌≤◌, ◌==◌, Bool, true, false, List, [], ◌∷◌, refl, sym, ◌∙◌, ap, subst, arith}
use Rattle.std.proofs.Common.{Ok}
use Rattle.image_world.proofs.Common.{nat_tests, Geometry, put_at, View, header_sector, format_gate, sweep_flag, data_start, IsHeaderReading, data_sector, Image, says_open, data_bytes, gate_bytes, Patch, IsAfter, home, overlaid, is_journal, AgreeBut, put_here, put_elsewhere, HasJournal, IsGood, world_with, left_of, data_on, raw_of, HasTables, AreSound, world_of, Tables, tables_of, stored_elsewhere, same_counts, same_bits, same_records}
use Rattle.image_world.specs.Turns.{Turns, IsTurned}
use Rattle.image_world.proofs.AgreeLaws.{formatted_by}
use Rattle.image_world.proofs.AlikeLaws.{same_data, same_contents}
use Rattle.image_world.proofs.SoundLaws.{tables_had, has_one, had_elsewhere, tables_good}
use Rattle.image_world.proofs.WrittenLaws.{above_journal}

-- ---- one after another
pub no_turn : (t : Tables) → AreSound t → Turns t t []
no_turn t sound = record { sound = sound; size = refl; has = λ z had. had; contents = λ z n h. refl; gate = λ z. refl }

-- ---- an image after such a batch
at_data : (g : Geometry) (b part : ℕ) → data_start g ≤ data_sector g b part
at_data g b part = omega arith

data_above : (g : Geometry) (n : ℕ) → data_start g ≤ n → is_journal n ≡ false
data_above g n h = above_journal n (omega arith)

pub turned_had : (image y : Image) (t : Tables) (batch : List Patch) → IsGood image → Turns (tables_of (home image)) t batch → AgreeBut is_journal (overlaid batch (home image)) (home y) → HasTables t (home y)
turned_had image y t batch good turns agree =
    had_elsewhere t (overlaid batch (home image)) (home y) turns.sound (agree header_sector refl) (λ n from to. agree n (above_journal n from)) (turns.has (home image) (tables_had (home image) good.header))

pub turned : (image y : Image) (t : Tables) (batch : List Patch) → IsGood image → Turns (tables_of (home image)) t batch → AgreeBut is_journal (overlaid batch (home image)) (home y) → HasJournal y → IsTurned t image y
unfolding world_of
turned image y t batch good turns agree valid = record {
  tables = here;
  raw = raw;
  stands = record {
    good = tables_good t y (formatted_by image y (agree format_gate refl ∙ turns.gate (home image)) good.formatted) valid turns.sound had;
    world = sym (λ i. left_of (here i) (raw i));
  };
}
  where
    had : HasTables t (home y)
    had = turned_had image y t batch good turns agree

    here : tables_of (home y) ≡ t
    here = has_one t (home y) turns.sound had

    g : Geometry
    g = (tables_of (home image)).geometry

    bytes : (b : ℕ) → data_bytes (home y) t.geometry b ≡ data_on (home image) b
    bytes b =
        ap (λ k. data_bytes (home y) k b) turns.size
        ∙ same_data (home image) (home y) g b (λ part h. agree (data_sector g b part) (data_above g (data_sector g b part) (at_data g b part)) ∙ turns.contents (home image) (data_sector g b part) (at_data g b part))

    raw : raw_of (home y) ≡ world_with t (data_on (home image))
    raw =
        (λ i. world_with (here i) (λ b. data_bytes (home y) (here i).geometry b))
        ∙ same_contents t (λ b. data_bytes (home y) t.geometry b) (data_on (home image)) (λ b inside live. bytes b)

-- what a commit leaves of a device, where its batch counts
pub after_turned : (old : View) (y : Image) (t : Tables) (batch : List Patch) → IsGood old.reads → Turns (tables_of (home old.reads)) t batch → IsAfter batch old y → IsTurned t old.reads y
after_turned old y t batch good turns after = turned old.reads y t batch good turns after.stands after.valid

-- ---- the sweep flag
pub flag_turns : (t : Tables) (open_now : Bool) → AreSound t → Turns t (record t { is_sweeping = open_now }) (record { sector = sweep_flag; bytes = gate_bytes open_now } ∷ [])
flag_turns t open_now sound = record {
  sound = record {
    version = sound.version;
    slots = sound.slots;
    each_block = sound.each_block;
    each_count = sound.each_count;
    each_record = sound.each_record;
    primaries = sound.primaries;
    ends = sound.ends;
    counted = sound.counted;
  };
  size = refl;
  has = λ z had. let other = elsewhere z in record {
    header = subst (λ bytes. IsHeaderReading bytes (Ok (record { version = t.version; geometry = t.geometry }))) (sym (other header_sector refl)) had.header;
    live = same_bits t.live t.geometry z (now z) (λ n from to. other n (above n (omega arith))) had.live;
    slots = stored_elsewhere t.slots t.geometry z (now z) (λ n from to. other n (above n (omega arith))) had.slots;
    counts = same_counts t.counts t.geometry z (now z) (λ n from to. other n (above n (omega arith))) had.counts;
    records = same_records t.version t.records z (now z) sound.version (omega (arith, sound.each_record, sound.slots.lawful.primaries.1)) (λ n from to. other n (above n (omega arith))) had.records;
    flag = ap says_open (put_here sweep_flag (gate_bytes open_now) z sweep_flag refl) ∙ is_gate open_now;
  };
  contents = λ z n from. elsewhere z n (above n (omega arith));
  gate = λ z. elsewhere z format_gate refl;
}
  where
    now : Image → Image
    now z = put_at sweep_flag (gate_bytes open_now) z

    elsewhere : (z : Image) (n : ℕ) → (n == sweep_flag) ≡ false → now z n ≡ z n
    elsewhere z n other = put_elsewhere sweep_flag (gate_bytes open_now) z n other

    above : (n : ℕ) → sweep_flag < n → (n == sweep_flag) ≡ false
    above n more = grind (arith, nat_tests)

    is_gate : (now_open : Bool) → says_open (gate_bytes now_open) ≡ now_open
    is_gate true = refl
    is_gate false = refl
