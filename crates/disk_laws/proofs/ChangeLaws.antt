-- Changes of a world keep it valid.
use Rattle.std.proofs.Common.{◌≡◌, ℕ, zero, suc, ◌+◌, ◌<◌, ◌≤◌, Bool, true, false, not, cond, ◌==◌, nat_lt, List, [], ◌∷◌, ◌⊎◌, length, refl, sym, ◌∙◌, ap, subst, arith, inl, inr, Option, Some, None, take, length-append}
use Rattle.disk_laws.proofs.Common.{eqb-true, eq-eqb, and_parts, and_from, or_cases, ltb-true, cases_eq, cases_lt, or_left, or_right, get_or-set_same, get_or-set_other, length-set, length-replicate, length-take, filter, is_some, is_none, IfSome, list_all, range_with_len, block_len, holds, is_pair, rank_of, World, contents, is_live, is_free, all_blocks, in_rank_order, sorted_by_rank, hint_block, free_blocks, chosen, is_free_run, runs, first_block, chosen_run, filled, with_contents, with_pointer, without_pointer, zeros, with_new_blocks, run_at, IsSized, IsRaw, IsValid, Hint, PlaceKind, length-with_pair, sized-with_pointer, sized-without_pointer, holds-with_pair, holds-filter, is_rising-with_pair, is_rising-filter}
use Rattle.disk_laws.proofs.GraphLaws.{length-range}
use Rattle.disk_laws.proofs.DoomLaws.{live_below}

-- ---- contents

pub length-filled : (n : ℕ) (bytes : List ℕ) → length bytes ≤ n → length (filled n bytes) ≡ n
length-filled n bytes h = simp (length-append, length-replicate) (omega arith)

-- a block other than that which gets contents
pub contents-other : (w : World) (b c : ℕ) (bytes : List ℕ) → (c ≡ b → ⊥) → contents (with_contents w b bytes) c ≡ contents w c
contents-other w b c bytes other = get_or-set_other w.blocks b c (Some bytes) None other

pub contents-same : (w : World) (b : ℕ) (bytes : List ℕ) → b < length w.blocks → contents (with_contents w b bytes) b ≡ Some bytes
contents-same w b bytes within = get_or-set_same w.blocks b (Some bytes) None within

-- live blocks stay live where a block gets contents
pub live-with_contents : (w : World) (b c : ℕ) (bytes : List ℕ) → is_live w c ≡ true → is_live (with_contents w b bytes) c ≡ true
live-with_contents w b c bytes h = elim (cases_eq c b) [
  | inl same ↦ let within : b < length w.blocks = subst (λ k. k < length w.blocks) same (live_below w.blocks c h) in
      subst (λ k. is_live (with_contents w b bytes) k ≡ true) (sym same) (ap is_some (contents-same w b bytes within))
  | inr other ↦ ap is_some (contents-other w b c bytes other) ∙ h
]

full-with_contents : (w : World) (b c : ℕ) (bytes : List ℕ) → IsSized w → b < length w.blocks → length bytes ≡ block_len w.geometry → IfSome (contents (with_contents w b bytes) c) (λ x. length x ≡ block_len w.geometry)
full-with_contents w b c bytes h within e = elim (cases_eq c b) [
  | inl same ↦ subst (λ k. IfSome (contents (with_contents w b bytes) k) (λ x. length x ≡ block_len w.geometry)) (sym same) (subst (λ o. IfSome o (λ x. length x ≡ block_len w.geometry)) (sym (contents-same w b bytes within)) e)
  | inr other ↦ subst (λ o. IfSome o (λ x. length x ≡ block_len w.geometry)) (sym (contents-other w b c bytes other)) (h.full c)
]

pub raw-with_contents : (w : World) (b : ℕ) (bytes : List ℕ) → IsRaw w → b < length w.blocks → length bytes ≡ block_len w.geometry → IsRaw (with_contents w b bytes)
raw-with_contents w b bytes raw within e = record {
  sized = record {
    lawful = raw.sized.lawful;
    each_block = length-set w.blocks b (Some bytes) ∙ raw.sized.each_block;
    full = λ c. full-with_contents w b c bytes raw.sized within e;
    room = raw.sized.room;
  };
  version = raw.version;
  each_record = raw.each_record;
  of_version = raw.of_version;
  rising = raw.rising;
  primaries = λ c h. live-with_contents w b c bytes (raw.primaries c h);
  sources = λ x y h. live-with_contents w b x bytes (raw.sources x y h);
  targets = λ x y h. live-with_contents w b y bytes (raw.targets x y h);
  apart = raw.apart;
}

pub with_contents_is_valid : (w : World) (b : ℕ) (bytes : List ℕ) → IsValid w → is_live w b ≡ true → length bytes ≡ block_len w.geometry → IsValid (with_contents w b bytes)
with_contents_is_valid w b bytes valid live e = record {
  raw = raw-with_contents w b bytes valid.raw (live_below w.blocks b live) e;
  led_to = λ c le live2. valid.led_to c le (was_live c live2);
}
  where
    was_live : (c : ℕ) → is_live (with_contents w b bytes) c ≡ true → is_live w c ≡ true
    was_live c h = elim (cases_eq c b) [
      | inl same ↦ subst (λ k. is_live w k ≡ true) (sym same) live
      | inr other ↦ ap is_some (sym (contents-other w b c bytes other)) ∙ h
    ]

-- ---- pointers

-- a pair that is held once (a, b) is
pub either_pair : (w : World) (a b x y : ℕ) → holds (with_pointer w a b).pairs x y ≡ true → ((a ≡ x) × (b ≡ y)) ⊎ (holds w.pairs x y ≡ true)
either_pair w a b x y h = elim (or_cases _ _ (sym (holds-with_pair (a, b) w.pairs x y) ∙ h)) [
  | inl here ↦ let parts = and_parts (a == x) (b == y) here in inl (eqb-true a x parts.0, eqb-true b y parts.1)
  | inr old ↦ inr old
]

pub old_pair : (w : World) (a b x y : ℕ) → holds w.pairs x y ≡ true → holds (with_pointer w a b).pairs x y ≡ true
old_pair w a b x y h = holds-with_pair (a, b) w.pairs x y ∙ or_right _ _ h

pub new_pair : (w : World) (a b : ℕ) → holds (with_pointer w a b).pairs a b ≡ true
new_pair w a b = holds-with_pair (a, b) w.pairs a b ∙ or_left _ _ (and_from (a == a) (b == b) (eq-eqb a a refl) (eq-eqb b b refl))

pub raw-with_pointer : (w : World) (a b : ℕ) → IsRaw w → is_live w a ≡ true → is_live w b ≡ true → w.geometry.primaries ≤ b → length w.pairs < w.geometry.slots → IsRaw (with_pointer w a b)
raw-with_pointer w a b raw from to apart room = record {
  sized = sized-with_pointer w a b raw.sized room;
  version = raw.version;
  each_record = raw.each_record;
  of_version = raw.of_version;
  rising = is_rising-with_pair (a, b) w.pairs raw.rising;
  primaries = raw.primaries;
  sources = λ x y h. elim (either_pair w a b x y h) [ inl new ↦ subst (λ z. is_live w z ≡ true) new.0 from | inr old ↦ raw.sources x y old ];
  targets = λ x y h. elim (either_pair w a b x y h) [ inl new ↦ subst (λ z. is_live w z ≡ true) new.1 to | inr old ↦ raw.targets x y old ];
  apart = λ x y h. elim (either_pair w a b x y h) [ inl new ↦ subst (λ z. w.geometry.primaries ≤ z) new.1 apart | inr old ↦ raw.apart x y old ];
}

pub with_pointer_is_valid : (w : World) (a b : ℕ) → IsValid w → is_live w a ≡ true → is_live w b ≡ true → w.geometry.primaries ≤ b → length w.pairs < w.geometry.slots → IsValid (with_pointer w a b)
with_pointer_is_valid w a b valid from to apart room = record {
  raw = raw-with_pointer w a b valid.raw from to apart room;
  led_to = λ y le live. let found = valid.led_to y le live in (found.0, old_pair w a b found.0 y found.1);
}

-- what is held after a pair went was held before
pub held_before : (w : World) (a b x y : ℕ) → holds (without_pointer w a b).pairs x y ≡ true → holds w.pairs x y ≡ true
held_before w a b x y h = (and_parts _ _ (sym (holds-filter (λ e. not (is_pair a b e)) w.pairs x y) ∙ h)).0

pub raw-without_pointer : (w : World) (a b : ℕ) → IsRaw w → IsRaw (without_pointer w a b)
raw-without_pointer w a b raw = record {
  sized = sized-without_pointer w a b raw.sized;
  version = raw.version;
  each_record = raw.each_record;
  of_version = raw.of_version;
  rising = is_rising-filter (λ e. not (is_pair a b e)) w.pairs raw.rising;
  primaries = raw.primaries;
  sources = λ x y h. raw.sources x y (held_before w a b x y h);
  targets = λ x y h. raw.targets x y (held_before w a b x y h);
  apart = λ x y h. raw.apart x y (held_before w a b x y h);
}

-- ---- new blocks

with_new_block_is_valid : (w : World) (a b : ℕ) → IsValid w → is_live w a ≡ true → b < length w.blocks → w.geometry.primaries ≤ b → length w.pairs < w.geometry.slots → IsValid (with_pointer (with_contents w b (zeros w)) a b)
with_new_block_is_valid w a b valid from within apart room =
    let next = with_contents w b (zeros w) in
    let raw = raw-with_contents w b (zeros w) valid.raw within (length-replicate (block_len w.geometry) 0) in
    record {
      raw = raw-with_pointer next a b raw (live-with_contents w b a (zeros w) from) (ap is_some (contents-same w b (zeros w) within)) apart room;
      led_to = λ y le live. elim (cases_eq y b) [
        | inl same ↦ (a, subst (λ z. holds (with_pointer next a b).pairs a z ≡ true) (sym same) (new_pair next a b))
        | inr other ↦ let found = valid.led_to y le (ap is_some (sym (contents-other w b y (zeros w) other)) ∙ live) in (found.0, old_pair next a b found.0 y found.1)
      ];
    }

-- each of the list is so
abbrev pub AllOf : (ℕ → Type 0) → List ℕ → Type 0
AllOf P [] = Unit {0}
AllOf P (b ∷ bs) = P b × AllOf P bs

pub AllOf-map : (P Q : ℕ → Type 0) → ((b : ℕ) → P b → Q b) → (bs : List ℕ) → AllOf P bs → AllOf Q bs
AllOf-map P Q f [] h = tt
AllOf-map P Q f (b ∷ bs) h = (f b h.0, AllOf-map P Q f bs h.1)

AllOf-filter : (P : ℕ → Type 0) (f : ℕ → Bool) → ((b : ℕ) → f b ≡ true → P b) → (xs : List ℕ) → AllOf P (filter f xs)
AllOf-filter P f h [] = tt
AllOf-filter P f h (x ∷ xs) = elim (f x) as (λ t. f x ≡ t → AllOf P (cond t (x ∷ filter f xs) (filter f xs))) [
  | true ↦ λ e. (h x e, AllOf-filter P f h xs)
  | false ↦ λ e. AllOf-filter P f h xs
] refl

AllOf-in_rank_order : (P : ℕ → Type 0) (rank : ℕ → ℕ) (b : ℕ) (xs : List ℕ) → P b → AllOf P xs → AllOf P (in_rank_order rank b xs)
AllOf-in_rank_order P rank b [] p h = (p, tt)
AllOf-in_rank_order P rank b (x ∷ xs) p h = elim (nat_lt (rank b) (rank x)) as (λ t. AllOf P (cond t (b ∷ x ∷ xs) (x ∷ in_rank_order rank b xs))) [ true ↦ (p, h) | false ↦ (h.0, AllOf-in_rank_order P rank b xs p h.1) ]

AllOf-sorted : (P : ℕ → Type 0) (rank : ℕ → ℕ) (xs : List ℕ) → AllOf P xs → AllOf P (sorted_by_rank rank xs)
AllOf-sorted P rank [] h = tt
AllOf-sorted P rank (x ∷ xs) h = AllOf-in_rank_order P rank x (sorted_by_rank rank xs) h.0 (AllOf-sorted P rank xs h.1)

AllOf-take : (P : ℕ → Type 0) (n : ℕ) (xs : List ℕ) → AllOf P xs → AllOf P (take n xs)
AllOf-take P zero [] h = tt
AllOf-take P zero (x ∷ xs) h = tt
AllOf-take P (suc n) [] h = tt
AllOf-take P (suc n) (x ∷ xs) h = (h.0, AllOf-take P n xs h.1)

abbrev pub AllFree : World → List ℕ → Type 0
AllFree w bs = AllOf (λ b. is_free w b ≡ true) bs

-- the chosen blocks are free
pub chosen_are_free : (kind : PlaceKind) (w : World) (h : Hint) (count : ℕ) → AllFree w (chosen kind w h count)
chosen_are_free kind w h count = AllOf-take _ count (sorted_by_rank (rank_of kind (hint_block h)) (free_blocks w)) (AllOf-sorted _ (rank_of kind (hint_block h)) (free_blocks w) (AllOf-filter (λ b. is_free w b ≡ true) (is_free w) (λ b e. e) (all_blocks w)))

free_in_run : (w : World) (xs : List ℕ) → list_all (is_free w) xs ≡ true → AllFree w xs
free_in_run w [] h = tt
free_in_run w (x ∷ xs) h = let parts = and_parts (is_free w x) (list_all (is_free w) xs) h in (parts.0, free_in_run w xs parts.1)

run_at_is_free : (w : World) (count : ℕ) (bs : List ℕ) → AllOf (λ b. is_free_run w count b ≡ true) bs → AllFree w (run_at (first_block bs) count)
run_at_is_free w count [] h = tt
run_at_is_free w count (b ∷ bs) h = free_in_run w (range_with_len b count) h.0

pub chosen_run_is_free : (kind : PlaceKind) (w : World) (h : Hint) (count : ℕ) → AllFree w (run_at (chosen_run kind w h count) count)
chosen_run_is_free kind w h count = let rank = rank_of kind (hint_block h) in
    run_at_is_free w count (sorted_by_rank rank (runs w count)) (AllOf-sorted _ rank (runs w count) (AllOf-filter (λ b. is_free_run w count b ≡ true) (is_free_run w count) (λ b e. e) (all_blocks w)))

pub length-chosen : (kind : PlaceKind) (w : World) (h : Hint) (count : ℕ) → length (chosen kind w h count) ≤ count
length-chosen kind w h count = omega (arith, length-take count (sorted_by_rank (rank_of kind (hint_block h)) (free_blocks w)))

pub length-run_at : (o : Option ℕ) (count : ℕ) → length (run_at o count) ≤ count
length-run_at None count = omega arith
length-run_at (Some b) count = omega (arith, length-range b count)

-- a free block is of the disk and isn't primary
pub free_may : (w : World) → IsRaw w → (b : ℕ) → is_free w b ≡ true → (b < length w.blocks) × (w.geometry.primaries ≤ b)
free_may w raw b h = let parts = and_parts (nat_lt b (length w.blocks)) (is_none (contents w b)) h in
    (ltb-true b (length w.blocks) parts.0, elim (cases_lt b w.geometry.primaries) [ inl below ↦ absurd (both (contents w b) (raw.primaries b below) parts.1) | inr above ↦ above ])
  where
    both : (o : Option (List ℕ)) → is_some o ≡ true → is_none o ≡ true → ⊥
    both None p q = cc
    both (Some x) p q = cc

new_blocks_valid : (a : ℕ) (bs : List ℕ) (w : World) → IsValid w → is_live w a ≡ true → AllOf (λ b. (b < length w.blocks) × (w.geometry.primaries ≤ b)) bs → length w.pairs + length bs ≤ w.geometry.slots → IsValid (with_new_blocks w a bs)
new_blocks_valid a [] w valid from may room = valid
new_blocks_valid a (b ∷ bs) w valid from may room =
    let next = with_pointer (with_contents w b (zeros w)) a b in
    let is_next : IsValid (with_pointer (with_contents w b (zeros w)) a b) = with_new_block_is_valid w a b valid from may.0.0 may.0.1 (omega arith) in
    new_blocks_valid a bs next is_next (live-with_contents w b a (zeros w) from) (subst (λ n. AllOf (λ c. (c < n) × (w.geometry.primaries ≤ c)) bs) (sym (length-set w.blocks b (Some (zeros w)))) may.1) (omega (arith, length-with_pair (a, b) w.pairs))

pub with_new_blocks_is_valid : (a : ℕ) (bs : List ℕ) (w : World) → IsValid w → is_live w a ≡ true → AllFree w bs → length w.pairs + length bs ≤ w.geometry.slots → IsValid (with_new_blocks w a bs)
with_new_blocks_is_valid a bs w valid from free room = new_blocks_valid a bs w valid from (AllOf-map _ (λ b. (b < length w.blocks) × (w.geometry.primaries ≤ b)) (free_may w valid.raw) bs free) room
