-- The pairs out of a block counted page by page: what holds at each page.
use Rattle.std.proofs.Common.{◌≡◌, ℕ, ◌+◌, ◌*◌, ◌<◌, ◌≤◌, true, nat_lt, nat_le, List, [], ◌∷◌, length, refl, sym, ◌∙◌, ap, subst, arith, Ok}
use Rattle.fs_client.proofs.Common.{lt-ltb, and_parts, and_from, nat_tests, drop, filter, list_all, World, has_number, IsValid, targets_from, live_below, DiskView, Client, targets_of, named_targets, other_targets, next_in, MayWrite, OnlyLooks}
use Rattle.std.specs.Prelude.{take}
use Rattle.fs_client.proofs.PageLaws.{targets_climb, all_targets, from_start, left_behind, counted_page, length_page, both_kinds, from_zero, none_from_end}

-- the targets from a start on
abbrev pub rest_of : World → ℕ → ℕ → List ℕ
rest_of w a start = filter (nat_le start) (targets_of w a)

pub record Counting (told : Type 0) (c : Client) (first now : DiskView) (a : ℕ) (names : List ℕ) (start m n : ℕ) : Type 0 where
  pub looks : OnlyLooks {X = Unit {0}} told first now (Ok tt)
  pub may : told → MayWrite c now a
  pub named : told → m + length (filter (has_number names) (rest_of first.world a start)) ≡ length (named_targets first.world a names)
  pub all : told → (m + n) + length (rest_of first.world a start) ≡ length (targets_of first.world a)
  pub few : m + n ≤ 64 * start

-- the targets of a valid world are blocks of the disk
pub targets_within : (w : World) (a : ℕ) → IsValid w → list_all (λ x. nat_lt x w.geometry.blocks) (targets_of w a) ≡ true
targets_within w a valid = all_targets (λ x. nat_lt x w.geometry.blocks) a w.pairs (λ y h.
    let below = live_below w.blocks y (valid.raw.targets a y h) in
    let many = valid.raw.sized.each_block in
    lt-ltb y w.geometry.blocks (omega (arith, below, many)))

-- a page, and what is left behind it
pub page_is : (w : World) (a start : ℕ) (page : List ℕ) → page ≡ targets_from w.pairs a start → page ≡ take 64 (rest_of w a start)
page_is w a start page e = e ∙ ap (take 64) (from_start a start w.pairs)

pub behind_page : (w : World) (a start end : ℕ) (page : List ℕ) → IsValid w → start < end → end ≡ w.geometry.blocks → page ≡ targets_from w.pairs a start → rest_of w a (next_in page start end) ≡ drop 64 (rest_of w a start)
behind_page w a start end page valid some whole e =
    ap (λ p. rest_of w a (next_in p start end)) (page_is w a start page e)
    ∙ left_behind (targets_of w a) start end some (targets_climb a w.pairs valid.raw.rising) (subst (λ n. list_all (λ x. nat_lt x n) (targets_of w a) ≡ true) (sym whole) (targets_within w a valid))

-- the counts of a page are added
pub more_named : (w : World) (a start end named more : ℕ) (page names : List ℕ) → IsValid w → start < end → end ≡ w.geometry.blocks → page ≡ targets_from w.pairs a start
    → more ≡ named + length (filter (has_number names) page)
    → named + length (filter (has_number names) (rest_of w a start)) ≡ length (named_targets w a names)
    → more + length (filter (has_number names) (rest_of w a (next_in page start end))) ≡ length (named_targets w a names)
more_named w a start end named more page names valid some whole e is so_far =
    let rest = rest_of w a start in
    let parts = counted_page (has_number names) rest in
    let here : length (filter (has_number names) page) ≡ length (filter (has_number names) (take 64 rest)) = ap (λ p. length (filter (has_number names) p)) (page_is w a start page e) in
    let left : length (filter (has_number names) (rest_of w a (next_in page start end))) ≡ length (filter (has_number names) (drop 64 rest)) = ap (λ p. length (filter (has_number names) p)) (behind_page w a start end page valid some whole e) in
    omega (arith, parts, here, left, is, so_far)

pub more_in_all : (w : World) (a start end old more : ℕ) (page : List ℕ) → IsValid w → start < end → end ≡ w.geometry.blocks → page ≡ targets_from w.pairs a start
    → more ≡ old + length page
    → old + length (rest_of w a start) ≡ length (targets_of w a)
    → more + length (rest_of w a (next_in page start end)) ≡ length (targets_of w a)
more_in_all w a start end old more page valid some whole e is so_far =
    let rest = rest_of w a start in
    let parts = length_page rest in
    let here : length page ≡ length (take 64 rest) = ap length (page_is w a start page e) in
    let left : length (rest_of w a (next_in page start end)) ≡ length (drop 64 rest) = ap length (behind_page w a start end page valid some whole e) in
    omega (arith, parts, here, left, is, so_far)

-- at first
pub named_at_first : (w : World) (a : ℕ) (names : List ℕ) → 0 + length (filter (has_number names) (rest_of w a 0)) ≡ length (named_targets w a names)
named_at_first w a names = let e = ap (λ xs. length (filter (has_number names) xs)) (from_zero (targets_of w a)) in omega (arith, e)

pub all_at_first : (w : World) (a : ℕ) → (0 + 0) + length (rest_of w a 0) ≡ length (targets_of w a)
all_at_first w a = let e = ap length (from_zero (targets_of w a)) in omega (arith, e)

-- at last
none_left : (w : World) (a start : ℕ) → IsValid w → w.geometry.blocks ≤ start → rest_of w a start ≡ []
none_left w a start valid h = none_from_end start (targets_of w a) (further w.geometry.blocks start (targets_of w a) h (targets_within w a valid))
  where
    further : (m n : ℕ) (xs : List ℕ) → m ≤ n → list_all (λ x. nat_lt x m) xs ≡ true → list_all (λ x. nat_lt x n) xs ≡ true
    further m n [] le all = refl
    further m n (x ∷ xs) le all =
        let parts = and_parts (nat_lt x m) (list_all (λ y. nat_lt y m) xs) all in
        let one : nat_lt x n ≡ true = grind (arith, nat_tests) in
        and_from (nat_lt x n) (list_all (λ y. nat_lt y n) xs) one (further m n xs le parts.1)

pub named_at_last : (w : World) (a start named : ℕ) (names : List ℕ) → IsValid w → w.geometry.blocks ≤ start → named + length (filter (has_number names) (rest_of w a start)) ≡ length (named_targets w a names) → named ≡ length (named_targets w a names)
named_at_last w a start named names valid h e =
    let none = ap (λ xs. length (filter (has_number names) xs)) (none_left w a start valid h) in omega (arith, none, e)

pub others_at_last : (w : World) (a start named others : ℕ) (names : List ℕ) → IsValid w → w.geometry.blocks ≤ start → named ≡ length (named_targets w a names)
    → (named + others) + length (rest_of w a start) ≡ length (targets_of w a) → others ≡ length (other_targets w a names)
others_at_last w a start named others names valid h is e =
    let none = ap length (none_left w a start valid h) in
    let both = both_kinds (has_number names) (targets_of w a) in
    omega (arith, none, both, is, e)
