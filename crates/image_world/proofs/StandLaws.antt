-- Which images stand for a world depends on the sectors that matter.
use Rattle.std.proofs.Common.{◌≡◌, ℕ, ◌<◌, true, ◌&&◌, sym, ◌∙◌, ap, subst, arith}
use Rattle.std.proofs.Common.{None, Ok}
use Rattle.image_world.proofs.Common.{length-map-range_with_len, get_or-map-range_with_len, Geometry, IsLawful, count_to, holds, World, IsHeaderReading, header_of, Image, source_field, target_field, home, pairs_in, MayBeHeld, stored_slot, is_bad_slot, is_bad_at, HasNoBad, IsRepeatedOn, good_slot, slot_from_holds, AreAlike, IsFormatGateOpen, HasJournal, HasHeader, HasNoRepeated, HasPrimaries, HasEnds, are_marked, found_count, AreRight, IsGood, header_on, slots_on, left_of, world_of, Stands}
use Rattle.image_world.proofs.Lists.{same_below}
use Rattle.image_world.proofs.AreaLaws.{SameAreas, same_marks, same_slots, same_stored_counts, same_sources, same_targets}
use Rattle.image_world.proofs.AlikeLaws.{alike_header, alike_tables, alike_raw}

-- ---- pairs of slots of which none is bad
pub pair_within : (x : Image) (g : Geometry) → HasNoBad x g → (a b : ℕ) → holds (pairs_in (slots_on x g)) a b ≡ true → MayBeHeld g (a, b)
pair_within x g good a b held =
    let found = slot_from_holds (slots_on x g) a b held in
    let long = length-map-range_with_len (stored_slot x g) 0 g.slots in
    let inside : found.0 < g.slots = let less = found.1 in omega (arith, long, less) in
    let at = get_or-map-range_with_len (stored_slot x g) 0 g.slots found.0 found.0 None inside (omega arith) in
    good_slot g (source_field x g found.0) (target_field x g found.0) (a, b) (good found.0 inside) (sym at ∙ found.2)

-- ---- tests 4 to 8
pub same_pairs : (g : Geometry) (x y : Image) → SameAreas g x y → pairs_in (slots_on y g) ≡ pairs_in (slots_on x g)
same_pairs g x y same = ap pairs_in (same_below (stored_slot y g) (stored_slot x g) g.slots (same_slots g x y same))

pub bad_alike : (g : Geometry) (x y : Image) → SameAreas g x y → (k : ℕ) → k < g.slots → is_bad_at y g k ≡ is_bad_at x g k
bad_alike g x y same k h = λ i. is_bad_slot g (same_sources g x y same k h i) (same_targets g x y same k h i)

pub no_bad_alike : (g : Geometry) (x y : Image) → SameAreas g x y → HasNoBad x g → HasNoBad y g
no_bad_alike g x y same none k h = bad_alike g x y same k h ∙ none k h

-- a pair that y has in two slots x has there
pub repeated_alike : (g : Geometry) (x y : Image) → SameAreas g x y → (e : ℕ × ℕ) → IsRepeatedOn y g e → IsRepeatedOn x g e
repeated_alike g x y same e r = record {
  first = r.first;
  second = r.second;
  apart = r.apart;
  inside = r.inside;
  one = sym (same_slots g x y same r.first (let a = r.apart in let b = r.inside in omega arith)) ∙ r.one;
  other = sym (same_slots g x y same r.second r.inside) ∙ r.other;
}

pub none_repeated_alike : (g : Geometry) (x y : Image) → SameAreas g x y → HasNoRepeated x g → HasNoRepeated y g
none_repeated_alike g x y same none e r = none e (repeated_alike g x y same e r)

pub primaries_alike : (g : Geometry) (x y : Image) → IsLawful g → SameAreas g x y → HasPrimaries x g → HasPrimaries y g
primaries_alike g x y lawful same all b h = same_marks g x y same b (let most = lawful.primaries.2 in omega arith) ∙ all b h

-- a pair that y holds x holds, and both mark its ends alike
pub held_alike : (g : Geometry) (x y : Image) → SameAreas g x y → (e : ℕ × ℕ) → holds (pairs_in (slots_on y g)) e.0 e.1 ≡ true → holds (pairs_in (slots_on x g)) e.0 e.1 ≡ true
held_alike g x y same e h = ap (λ es. holds es e.0 e.1) (sym (same_pairs g x y same)) ∙ h

pub marked_alike : (g : Geometry) (x y : Image) → SameAreas g x y → HasNoBad x g → (e : ℕ × ℕ) → holds (pairs_in (slots_on x g)) e.0 e.1 ≡ true → are_marked y g e ≡ are_marked x g e
marked_alike g x y same none e held =
    let within = pair_within x g none e.0 e.1 held in
    λ i. same_marks g x y same e.0 within.0 i && same_marks g x y same e.1 within.2 i

pub ends_alike : (g : Geometry) (x y : Image) → SameAreas g x y → HasNoBad x g → HasEnds x g → HasEnds y g
ends_alike g x y same none all e h = let held = held_alike g x y same e h in marked_alike g x y same none e held ∙ all e held

pub found_alike : (g : Geometry) (x y : Image) → SameAreas g x y → (b : ℕ) → found_count y g b ≡ found_count x g b
found_alike g x y same b = ap (λ es. count_to es b) (same_pairs g x y same)

pub right_alike : (g : Geometry) (x y : Image) → IsLawful g → SameAreas g x y → AreRight x g → AreRight y g
right_alike g x y lawful same right = record {
  no_bad = no_bad_alike g x y same right.no_bad;
  none_repeated = none_repeated_alike g x y same right.none_repeated;
  primaries = primaries_alike g x y lawful same right.primaries;
  ends = ends_alike g x y same right.no_bad right.ends;
  counts = λ b h. same_stored_counts g x y same b h ∙ (right.counts b h ∙ sym (found_alike g x y same b));
}

-- ---- all of them
pub header_alike : (x y : Image) → HasHeader x → AreAlike x y → HasHeader y
header_alike x y right alike = subst (λ bytes. IsHeaderReading bytes (Ok (header_of bytes))) (sym alike.header) right

pub good_alike : (image y : Image) → IsGood image → AreAlike (home image) (home y) → IsFormatGateOpen y → HasJournal y → IsGood y
good_alike image y good alike formatted journal = record {
  formatted = formatted;
  journal = journal;
  header = header_alike (home image) (home y) good.header alike;
  tables =
      let g = (header_on (home image)).geometry in
      let right : AreRight (home y) g = right_alike g (home image) (home y) good.header.2 alike.areas good.tables in
      subst (λ h. AreRight (home y) h.geometry) (sym (alike_header (home image) (home y) alike)) right;
}

pub world_alike : (image y : Image) → HasHeader (home image) → AreAlike (home image) (home y) → world_of y ≡ world_of image
unfolding world_of
world_alike image y right alike =
    (λ i. left_of (alike_tables (home image) (home y) right alike i) (alike_raw (home image) (home y) right alike i))

pub stands_alike : (image y : Image) (w : World) → AreAlike (home image) (home y) → IsFormatGateOpen y → HasJournal y → Stands image w → Stands y w
stands_alike image y w alike formatted journal stands = record {
  good = good_alike image y stands.good alike formatted journal;
  world = stands.world ∙ sym (world_alike image y stands.good.header alike);
}
