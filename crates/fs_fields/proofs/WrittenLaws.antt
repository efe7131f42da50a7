-- A directory's list is the bytes of its entries.
use Rattle.std.proofs.Common.{◌≡◌, ℕ, zero, suc, ◌+◌, ◌*◌, ◌-◌, ◌/◌, ◌%◌, ◌<◌, ◌≤◌, true, false, cond, ◌&&◌, ◌==◌, List, [], ◌∷◌, ◌++◌, length, refl, sym, ◌∙◌, ap, arith}
use Rattle.std.proofs.lemmas.Bool.{and_parts, eqb-true}
use Rattle.std.proofs.lemmas.List.{length-drop, length-take-le}
use Rattle.std.proofs.Math.Seq.{take-add}
use Rattle.std.specs.Prelude.{take, drop, replicate, flat_map, slice_index}
use Rattle.std.specs.List.{list_all}
use Rattle.byteorder.specs.Endian.{little_number, little_bytes}
use Rattle.fs_trees.specs.Names.{Name, name_lt}
use Rattle.fs_trees.specs.Fields.{unpadded, Entry, entry_in, entries, numbers, entry_bytes}
use Rattle.fs_fields.specs.Around.{listed_before, listed_behind, place_in, skipped, behind_in}
use Rattle.fs_fields.proofs.PadLaws.{drop-drop, entries_from}

abbrev pub AreBytes : List ℕ → Type 0
AreBytes xs = (k : ℕ) → slice_index xs k < 256

-- ---- a field and a number, written as they were read

zeros : (xs : List ℕ) → list_all (λ d. d == 0) xs ≡ true → replicate (length xs) 0 ≡ xs
zeros [] h = refl
zeros (x ∷ xs) h =
    let parts = and_parts (x == 0) (list_all (λ d. d == 0) xs) h in
    ap (λ y. y ∷ replicate (length xs) 0) (sym (eqb-true x 0 parts.0)) ∙ ap (λ ys. x ∷ ys) (zeros xs parts.1)

padded : (xs : List ℕ) → unpadded xs ++ replicate (length xs - length (unpadded xs)) 0 ≡ xs
padded [] = refl
padded (x ∷ xs) = elim ((x == 0) && list_all (λ d. d == 0) xs) as
    (λ t. ((x == 0) && list_all (λ d. d == 0) xs) ≡ t → cond t [] (x ∷ unpadded xs) ++ replicate (suc (length xs) - length (cond t [] (x ∷ unpadded xs))) 0 ≡ x ∷ xs) [
      | true ↦ λ e.
          let all : suc (length xs) - 0 ≡ suc (length xs) = omega arith in
          ap (λ k. replicate k 0) all ∙ zeros (x ∷ xs) e
      | false ↦ λ e.
          let less : suc (length xs) - suc (length (unpadded xs)) ≡ length xs - length (unpadded xs) = omega arith in
          ap (λ k. x ∷ (unpadded xs ++ replicate k 0)) less ∙ ap (λ ys. x ∷ ys) (padded xs)
    ] refl

number_written : (a b c d : ℕ) (xs : List ℕ) → a < 256 → b < 256 → c < 256 → d < 256 → little_bytes 4 (little_number 4 (a ∷ b ∷ c ∷ d ∷ xs)) ≡ a ∷ b ∷ c ∷ d ∷ []
number_written a b c d xs ha hb hc hd =
    let n : ℕ = a + 256 * (b + 256 * (c + 256 * (d + 256 * 0))) in
    let first : n % 256 ≡ a = omega arith in
    let second : n / 256 % 256 ≡ b = omega arith in
    let third : n / 65536 % 256 ≡ c = omega arith in
    let fourth : n / 16777216 % 256 ≡ d = omega arith in
    ap (λ x. x ∷ (n / 256 % 256) ∷ (n / 65536 % 256) ∷ (n / 16777216 % 256) ∷ []) first
    ∙ (ap (λ x. a ∷ x ∷ (n / 65536 % 256) ∷ (n / 16777216 % 256) ∷ []) second
    ∙ (ap (λ x. a ∷ b ∷ x ∷ (n / 16777216 % 256) ∷ []) third
    ∙ ap (λ x. a ∷ b ∷ c ∷ x ∷ []) fourth))

-- ---- an entry

entry_written : (xs : List ℕ) → AreBytes xs → 32 ≤ length xs → entry_bytes (entry_in xs) ≡ take 32 xs
entry_written [] bytes h = absurd (omega arith)
entry_written (a ∷ []) bytes h = absurd (omega arith)
entry_written (a ∷ b ∷ []) bytes h = absurd (omega arith)
entry_written (a ∷ b ∷ c ∷ []) bytes h = absurd (omega arith)
entry_written (a ∷ b ∷ c ∷ d ∷ xs) bytes h =
    let field = take 28 xs in
    let whole : length field ≡ 28 = length-take-le 28 xs (omega arith) in
    let name = ap (λ n. unpadded field ++ replicate (n - length (unpadded field)) 0) (sym whole) ∙ padded field in
    ap (λ x. x ++ (unpadded field ++ replicate (28 - length (unpadded field)) 0)) (number_written a b c d xs (bytes 0) (bytes 1) (bytes 2) (bytes 3))
    ∙ ap (λ x. a ∷ b ∷ c ∷ d ∷ x) name

-- what is behind the first bytes are bytes
dropped_bytes : (n : ℕ) (xs : List ℕ) → AreBytes xs → AreBytes (drop n xs)
dropped_bytes zero xs bytes = bytes
dropped_bytes (suc n) [] bytes = bytes
dropped_bytes (suc n) (x ∷ xs) bytes = dropped_bytes n xs (λ k. bytes (suc k))

-- so many entries
pub entries_written : (amount : ℕ) (xs : List ℕ) → AreBytes xs → 32 * amount ≤ length xs → flat_map entry_bytes (entries amount xs) ≡ take (32 * amount) xs
entries_written zero xs bytes h = refl
entries_written (suc n) xs bytes h =
    let rest : 32 * n ≤ length (drop 32 xs) = let e = length-drop 32 xs in omega (arith, e) in
    let more : 32 + 32 * n ≡ 32 * suc n = omega arith in
    ap (λ x. x ++ flat_map entry_bytes (entries n (drop 32 xs))) (entry_written xs bytes (omega arith))
    ∙ (ap (λ x. take 32 xs ++ x) (entries_written n (drop 32 xs) (dropped_bytes 32 xs bytes) rest)
    ∙ (sym (take-add 32 (32 * n) xs) ∙ ap (λ k. take k xs) more))

-- ---- parts of the list

-- the first entries, and those behind
pub take-entries : (j amount : ℕ) (xs : List ℕ) → j ≤ amount → take j (entries amount xs) ≡ entries j xs
take-entries zero amount xs h = refl
take-entries (suc j) zero xs h = absurd (omega arith)
take-entries (suc j) (suc n) xs h = ap (λ es. entry_in xs ∷ es) (take-entries j n (drop 32 xs) (omega arith))

pub drop-entries : (j amount : ℕ) (xs : List ℕ) → j ≤ amount → drop j (entries amount xs) ≡ entries (amount - j) (drop (32 * j) xs)
drop-entries zero amount xs h = let e : amount ≡ amount - 0 = omega arith in ap (λ k. entries k xs) e
drop-entries (suc j) zero xs h = absurd (omega arith)
drop-entries (suc j) (suc n) xs h =
    let e : n - j ≡ suc n - suc j = omega arith in
    let at : 32 + 32 * j ≡ 32 * suc j = omega arith in
    drop-entries j n (drop 32 xs) (omega arith) ∙ (ap (λ k. entries k (drop (32 * j) (drop 32 xs))) e ∙ ap (λ ys. entries (suc n - suc j) ys) (drop-drop 32 (32 * j) xs ∙ ap (λ k. drop k xs) at))

pub length-entries : (amount : ℕ) (xs : List ℕ) → length (entries amount xs) ≡ amount
length-entries zero xs = refl
length-entries (suc n) xs = ap suc (length-entries n (drop 32 xs))

-- those before a name are the first of them
pub before_first : (n : Name) (es : List Entry) → take (place_in n es) es ≡ listed_before n es
before_first n [] = refl
before_first n (e ∷ es) = elim (name_lt e.name n) as (λ t. take (length (cond t (e ∷ listed_before n es) [])) (e ∷ es) ≡ cond t (e ∷ listed_before n es) []) [
  | true ↦ ap (λ fs. e ∷ fs) (before_first n es)
  | false ↦ refl
]

-- those behind it are the last of them
pub behind_last : (n : Name) (es : List Entry) → drop (place_in n es + skipped n (drop (place_in n es) es)) es ≡ listed_behind n es
behind_last n [] = refl
behind_last n (e ∷ es) = elim (name_lt e.name n) as
    (λ t. drop (length (cond t (e ∷ listed_before n es) []) + skipped n (drop (length (cond t (e ∷ listed_before n es) [])) (e ∷ es))) (e ∷ es) ≡ cond t (listed_behind n es) (cond (name_lt n e.name) (e ∷ es) es)) [
      | true ↦ ap (λ k. drop k (e ∷ es)) (later (place_in n es) (skipped n (drop (place_in n es) es))) ∙ behind_last n es
      | false ↦ elim (name_lt n e.name) as (λ t. drop (0 + cond t 0 1) (e ∷ es) ≡ cond t (e ∷ es) es) [ true ↦ refl | false ↦ refl ]
    ]
  where
    later : (a b : ℕ) → suc a + b ≡ suc (a + b)
    later a b = omega arith

-- the entry at a position isn't the name's, or is
pub skips_at : (n : Name) (xs : List ℕ) (amount i : ℕ) → i < amount → (m : Name) → m ≡ (entry_in (drop (32 * i) xs)).name → behind_in n i (entries amount xs) ≡ i + cond (name_lt n m) 0 1
skips_at n xs amount i h m is =
    ap (λ es. i + skipped n es) (drop-entries i amount xs (omega arith) ∙ entries_from xs amount i h) ∙ ap (λ k. i + cond (name_lt n k) 0 1) (sym is)

pub skips_none : (n : Name) (xs : List ℕ) (amount i : ℕ) → i ≡ amount → behind_in n i (entries amount xs) ≡ i
skips_none n xs amount i h =
    let none : amount - i ≡ 0 = omega arith in
    let zero_more : i + 0 ≡ i = omega arith in
    ap (λ es. i + skipped n es) (drop-entries i amount xs (omega arith) ∙ ap (λ k. entries k (drop (32 * i) xs)) none) ∙ zero_more

-- ---- the bytes before a name, and those behind

pub bytes_before : (n : Name) (xs : List ℕ) (amount position : ℕ) → AreBytes xs → 32 * amount ≤ length xs → position ≤ amount → position ≡ place_in n (entries amount xs)
    → take (32 * position) xs ≡ flat_map entry_bytes (listed_before n (entries amount xs))
bytes_before n xs amount position bytes h within is =
    sym (ap (λ es. flat_map entry_bytes es) (sym (before_first n (entries amount xs)) ∙ (ap (λ k. take k (entries amount xs)) (sym is) ∙ take-entries position amount xs within))
    ∙ entries_written position xs bytes (omega arith))

pub bytes_behind : (n : Name) (xs : List ℕ) (amount position next : ℕ) → AreBytes xs → 32 * amount ≤ length xs → next ≤ amount → position ≡ place_in n (entries amount xs) → next ≡ behind_in n position (entries amount xs)
    → take (32 * amount - 32 * next) (drop (32 * next) xs) ≡ flat_map entry_bytes (listed_behind n (entries amount xs))
bytes_behind n xs amount position next bytes h within is is_next =
    let es = entries amount xs in
    let at : next ≡ place_in n es + skipped n (drop (place_in n es) es) = is_next ∙ ap (λ k. k + skipped n (drop k es)) is in
    let fits : 32 * (amount - next) ≤ length (drop (32 * next) xs) = let e = length-drop (32 * next) xs in omega (arith, e) in
    let same : 32 * (amount - next) ≡ 32 * amount - 32 * next = omega arith in
    sym (ap (λ fs. flat_map entry_bytes fs) (sym (behind_last n es) ∙ (ap (λ k. drop k es) (sym at) ∙ drop-entries next amount xs within))
    ∙ (entries_written (amount - next) (drop (32 * next) xs) (dropped_bytes (32 * next) xs bytes) fits ∙ ap (λ k. take k (drop (32 * next) xs)) same))

-- how many bytes they are
pub sized_before : (n : Name) (xs : List ℕ) (amount position : ℕ) → 32 * amount ≤ length xs → position ≤ amount → position ≡ place_in n (entries amount xs)
    → length (take (32 * position) xs) ≡ 32 * length (listed_before n (entries amount xs))
sized_before n xs amount position h within is = length-take-le (32 * position) xs (omega arith) ∙ ap (λ k. 32 * k) is

pub sized_behind : (n : Name) (xs : List ℕ) (amount position next : ℕ) → 32 * amount ≤ length xs → next ≤ amount → position ≡ place_in n (entries amount xs) → next ≡ behind_in n position (entries amount xs)
    → length (take (32 * amount - 32 * next) (drop (32 * next) xs)) ≡ 32 * length (listed_behind n (entries amount xs))
sized_behind n xs amount position next h within is is_next =
    let es = entries amount xs in
    let at : next ≡ place_in n es + skipped n (drop (place_in n es) es) = is_next ∙ ap (λ k. k + skipped n (drop k es)) is in
    let left : length (listed_behind n es) ≡ amount - next =
    ap length (sym (behind_last n es) ∙ (ap (λ k. drop k es) (sym at) ∙ drop-entries next amount xs within)) ∙ length-entries (amount - next) (drop (32 * next) xs) in
    let cut = length-take-le (32 * amount - 32 * next) (drop (32 * next) xs) (let e = length-drop (32 * next) xs in omega (arith, e)) in
    omega (arith, cut, left)

-- ---- numbers

pub numbers_written : (count : ℕ) (xs : List ℕ) → AreBytes xs → 4 * count ≤ length xs → flat_map (little_bytes 4) (numbers count xs) ≡ take (4 * count) xs
numbers_written zero xs bytes h = refl
numbers_written (suc n) [] bytes h = absurd (omega arith)
numbers_written (suc n) (a ∷ []) bytes h = absurd (omega arith)
numbers_written (suc n) (a ∷ b ∷ []) bytes h = absurd (omega arith)
numbers_written (suc n) (a ∷ b ∷ c ∷ []) bytes h = absurd (omega arith)
numbers_written (suc n) (a ∷ b ∷ c ∷ d ∷ xs) bytes h =
    let more : 4 + 4 * n ≡ 4 * suc n = omega arith in
    ap (λ x. x ++ flat_map (little_bytes 4) (numbers n xs)) (number_written a b c d xs (bytes 0) (bytes 1) (bytes 2) (bytes 3))
    ∙ (ap (λ x. a ∷ b ∷ c ∷ d ∷ x) (numbers_written n xs (dropped_bytes 4 (a ∷ b ∷ c ∷ d ∷ xs) bytes) (omega arith))
    ∙ (sym (take-add 4 (4 * n) (a ∷ b ∷ c ∷ d ∷ xs)) ∙ ap (λ k. take k (a ∷ b ∷ c ∷ d ∷ xs)) more))
