-- Records become those of version 2, with the header.
use Rattle.std.proofs.Common.{◌≡◌, ◌≢◌, ℕ, ◌+◌, ◌≤◌, ◌==◌, inr, Bool, List, [], length, refl, sym, ◌∙◌, ap, subst, arith, Ok}
use Rattle.std.specs.Prelude.{map}
use Rattle.volume_laws.proofs.Common.{length-map, upgraded, upgraded_record, put_at, header_sector, format_gate, caps_start, IsHeaderReading, Image, says_open, Header, Patch, overlaid, put_here, put_elsewhere, Pointers, stored_elsewhere, Counts, same_counts, LiveMap, same_bits, Store, upgraded_store, AreKept, left_of, world_with, HasTables, AreSound, Tables, upgrade_change, owed, Turns, Volume, tables_in}
use Rattle.image_world.specs.Changes.{upgraded_tables}
use Rattle.volume_laws.proofs.Ops.{any_bytes, IsOp}
use Rattle.volume_laws.proofs.BlockLaws.{away}

sound_upgraded : (t : Tables) → AreSound t → AreSound (upgraded_tables t)
sound_upgraded t sound = record {
  version = inr refl;
  slots = sound.slots;
  each_block = sound.each_block;
  each_count = sound.each_count;
  each_record = length-map t.records upgraded_record ∙ sound.each_record;
  primaries = sound.primaries;
  ends = sound.ends;
  counted = sound.counted;
}

-- the batch of the header and both sectors of records
pub upgrade_turn : (t : Tables) (batch : List Patch) (h first second : List ℕ) → AreSound t → IsHeaderReading h (Ok (record { version = 2; geometry = t.geometry }))
    → ((y : Image) → y caps_start ≡ first → y (caps_start + 1) ≡ second → AreKept 2 (map upgraded_record t.records) y)
    → ((x : Image) (n : ℕ) → overlaid batch x n ≡ put_at (caps_start + 1) second (put_at caps_start first (put_at 0 h x)) n)
    → Turns t (upgraded_tables t) batch
upgrade_turn t batch h first second sound reads kept laid = record {
  sound = sound_upgraded t sound;
  size = refl;
  has = λ z had. record {
    header = subst (λ bytes. IsHeaderReading bytes (Ok (record { version = 2; geometry = t.geometry }))) (sym (laid z header_sector ∙ zero_ z)) reads;
    live = same_bits t.live t.geometry z (overlaid batch z) (λ n f u. others z n (λ e. omega arith) (λ e. omega arith) (λ e. omega arith)) had.live;
    slots = stored_elsewhere t.slots t.geometry z (overlaid batch z) (λ n f u. others z n (λ e. omega arith) (λ e. omega arith) (λ e. omega arith)) had.slots;
    counts = same_counts t.counts t.geometry z (overlaid batch z) (λ n f u. others z n (λ e. omega arith) (λ e. omega arith) (λ e. omega arith)) had.counts;
    records = kept (overlaid batch z) (laid z caps_start ∙ one z) (laid z (caps_start + 1) ∙ two z);
    flag = ap says_open (others z 131 (λ e. omega arith) (λ e. omega arith) (λ e. omega arith)) ∙ had.flag;
  };
  contents = λ z n above. others z n (λ e. omega arith) (λ e. omega arith) (λ e. omega arith);
  gate = λ z. others z format_gate (λ e. omega arith) (λ e. omega arith) (λ e. omega arith);
}
  where
    others : (z : Image) (n : ℕ) → n ≢ 0 → n ≢ 132 → n ≢ 133 → overlaid batch z n ≡ z n
    others z n a b c = laid z n
        ∙ (put_elsewhere 133 second (put_at 132 first (put_at 0 h z)) n (away 133 n c)
        ∙ (put_elsewhere 132 first (put_at 0 h z) n (away 132 n b) ∙ put_elsewhere 0 h z n (away 0 n a)))

    zero_ : (z : Image) → put_at 133 second (put_at 132 first (put_at 0 h z)) 0 ≡ h
    zero_ z = put_elsewhere 133 second (put_at 132 first (put_at 0 h z)) 0 refl ∙ (put_elsewhere 132 first (put_at 0 h z) 0 refl ∙ put_here 0 h z 0 refl)

    one : (z : Image) → put_at 133 second (put_at 132 first (put_at 0 h z)) 132 ≡ first
    one z = put_elsewhere 133 second (put_at 132 first (put_at 0 h z)) 132 refl ∙ put_here 132 first (put_at 0 h z) 132 refl

    two : (z : Image) → put_at 133 second (put_at 132 first (put_at 0 h z)) 133 ≡ second
    two z = put_here 133 second (put_at 132 first (put_at 0 h z)) 133 refl

-- where the version is 2 already, nothing changes
pub no_upgrade : (t : Tables) (batch : List Patch) → AreSound t → t.version ≡ 2 → map upgraded_record t.records ≡ t.records → batch ≡ [] → Turns t (upgraded_tables t) batch
no_upgrade t batch sound version same none = subst (λ (ps : List Patch). Turns t (upgraded_tables t) ps) (sym none) (record {
  sound = sound_upgraded t sound;
  size = refl;
  has = λ z had. subst (λ (u : Tables). HasTables u z) is had;
  contents = λ z n above. refl;
  gate = λ z. refl;
})
  where
    is : t ≡ upgraded_tables t
    is i = record t { version = version i; records = sym same i }

-- the tables in memory
pub upgraded_in : (h : Header) (p : Pointers) (c : Counts) (l : LiveMap) (old new : Store) (k : Bool) (t : Tables) → new ≡ upgraded_store old → tables_in h p c l old k ≡ t
    → tables_in (record { version = 2; geometry = h.geometry }) p c l new k ≡ upgraded_tables t
upgraded_in h p c l old new k t up is =
    (λ i. tables_in (record { version = 2; geometry = h.geometry }) p c l (up i) k) ∙ ap upgraded_tables is

pub upgrade_op : (vol : Volume) (now : Tables) (batch : List Patch) → now ≡ upgraded_tables vol.tables → Turns vol.tables (upgraded_tables vol.tables) batch → length batch ≤ 3 → IsOp any_bytes vol now batch 3 0 (λ w. upgraded w)
upgrade_op vol now batch same turns few = record {
  turns = subst (λ (t : Tables). Turns vol.tables t batch) (sym same) turns;
  zeros = tt;
  world = λ c fits. ap (λ (t : Tables). left_of t (world_with t c)) same ∙ upgrade_change vol.tables c;
  few = few;
  owes = let e = ap owed same in omega (arith, e);
}
