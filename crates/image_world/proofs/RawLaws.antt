-- Where the tests pass, sectors say a raw world.
use Rattle.std.proofs.Common.{◌≡◌, ℕ, zero, suc, ◌+◌, ◌*◌, ◌<◌, ◌≤◌, true, false, inl, inr, Bool, cond, List, length, length-append, refl, sym, ◌∙◌, ap, subst, arith}
use Rattle.std.proofs.Common.{Some, None}
use Rattle.image_world.proofs.Common.{map, is_some, IfSome, range_with_len, list_all, cases_lt, and_from, and_parts, length-map-range_with_len, block_len, is_of_version, is_record_of, contents, is_live, IsRaw, IsSector, IsVersion, Image, is_bit_set, sector_bytes, rising-pairs_in, length-pairs_in_le, stored_slot, is_marked_in, kept_as, stored_record, HasHeader, AreRight, blocks-world_with, contents-world_with, contents_past-world_with, Tables, header_on, slots_on, pairs_of, tables_of, world_with, data_on, raw_of}
use Rattle.image_world.proofs.AlikeLaws.{live_is}
use Rattle.image_world.proofs.StandLaws.{pair_within}

-- ---- the world of tables
pub contents_with : (t : Tables) (c : ℕ → List ℕ) (b : ℕ) → b < t.geometry.blocks → contents (world_with t c) b ≡ cond (is_marked_in t.live b) (Some (c b)) None
unfolding world_with
contents_with t c b h = contents-world_with t.geometry t.live (pairs_of t) c t.version t.records b h

pub contents_past : (t : Tables) (c : ℕ → List ℕ) (b : ℕ) → t.geometry.blocks ≤ b → contents (world_with t c) b ≡ None
unfolding world_with
contents_past t c b h = contents_past-world_with t.geometry t.live (pairs_of t) c t.version t.records b h

some_if : (t : Bool) (bytes : List ℕ) → is_some (cond t (Some bytes) None) ≡ t
some_if true bytes = refl
some_if false bytes = refl

pub live_with : (t : Tables) (c : ℕ → List ℕ) (b : ℕ) → b < t.geometry.blocks → is_live (world_with t c) b ≡ is_marked_in t.live b
live_with t c b h = ap is_some (contents_with t c b h) ∙ some_if (is_marked_in t.live b) (c b)

pub blocks_with : (t : Tables) (c : ℕ → List ℕ) → length (world_with t c).blocks ≡ t.geometry.blocks
unfolding world_with
blocks_with t c = blocks-world_with t.geometry t.live (pairs_of t) c t.version t.records

full_if : (t : Bool) (bytes : List ℕ) (len : ℕ) → length bytes ≡ len → IfSome (cond t (Some bytes) None) (λ bs. length bs ≡ len)
full_if true bytes len e = e
full_if false bytes len e = tt

-- ---- the bytes of a block
pub length_sectors : (x : Image) (first k : ℕ) → ((n : ℕ) → IsSector (x n)) → length (sector_bytes x first k) ≡ 512 * k
length_sectors x first zero whole = refl
length_sectors x first (suc k) whole = length-append (x first) (sector_bytes x (first + 1) k) ∙ (let here = (whole first).size in let rest = length_sectors x (first + 1) k whole in omega (arith, here, rest))

-- ---- records
of_version_as : (version : ℕ) (bytes : List ℕ) → IsVersion version → is_of_version version (kept_as version bytes) ≡ true
of_version_as version bytes (inl e) = subst (λ v. is_of_version v (kept_as v bytes) ≡ true) (sym e) refl
of_version_as version bytes (inr e) = subst (λ v. is_of_version v (kept_as v bytes) ≡ true) (sym e) refl

records_of_version : (version : ℕ) (x : Image) → IsVersion version → (a n : ℕ) → list_all (is_record_of version) (map (stored_record version x) (range_with_len a n)) ≡ true
records_of_version version x is a zero = refl
records_of_version version x is a (suc n) =
    and_from _ _ (and_from _ _ (of_version_as version _ is) (of_version_as version _ is)) (records_of_version version x is (a + 1) n)

-- ---- the raw world
pub raw_is_raw : (x : Image) → ((n : ℕ) → IsSector (x n)) → HasHeader x → AreRight x (header_on x).geometry → IsRaw (raw_of x)
unfolding tables_of world_with
raw_is_raw x whole header right =
    let g = (header_on x).geometry in
    let t = tables_of x in
    let marked : (b : ℕ) → b < g.blocks → is_bit_set x g b ≡ true → is_live (raw_of x) b ≡ true = λ b h e. live_with t (data_on x) b h ∙ (live_is x b h ∙ e) in
    record {
      sized = record {
        lawful = header.2;
        each_block = blocks_with t (data_on x);
        full = λ b. elim (cases_lt b g.blocks) [
          | inl h ↦ subst (λ o. IfSome o (λ bs. length bs ≡ block_len g)) (sym (contents_with t (data_on x) b h)) (full_if (is_marked_in t.live b) (data_on x b) (block_len g) (length_sectors x _ g.sectors whole))
          | inr h ↦ subst (λ o. IfSome o (λ bs. length bs ≡ block_len g)) (sym (contents_past t (data_on x) b h)) tt
        ];
        room = omega (arith, length-pairs_in_le (slots_on x g), length-map-range_with_len (stored_slot x g) 0 g.slots);
      };
      version = header.1;
      each_record = length-map-range_with_len (stored_record (header_on x).version x) 0 g.primaries;
      of_version = records_of_version (header_on x).version x header.1 0 g.primaries;
      rising = rising-pairs_in (slots_on x g);
      primaries = λ b h. marked b (let most = header.2.primaries.2 in omega arith) (right.primaries b h);
      sources = λ a b h. let within = pair_within x g right.no_bad a b h in marked a within.0 (and_parts _ _ (right.ends (a, b) h)).0;
      targets = λ a b h. let within = pair_within x g right.no_bad a b h in marked b within.2 (and_parts _ _ (right.ends (a, b) h)).1;
      apart = λ a b h. (pair_within x g right.no_bad a b h).1;
    }
