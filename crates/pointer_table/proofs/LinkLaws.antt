-- Links in memory, and behind them those that were never set.
use Rattle.std.proofs.Common.{◌≡◌, ℕ, zero, suc, ◌+◌, ◌-◌, ◌<◌, ◌≤◌, ◌++◌, Bool, false, List, [], ◌∷◌, length, map, get_or, set, replicate, refl, sym, ◌∙◌, ap, arith}
use Rattle.pointer_table.proofs.Common.{range_with_len, length-append, length-set, get_or_append_left, get_or-append-add, set-append_left, set-get_or, append_assoc, length-map-range_with_len, get_or-map-range_with_len, unset_link, links_of, no_link}

-- those that were never set
abbrev pub rest_of : Bool → ℕ → ℕ → List ℕ
rest_of in_row count first = map (unset_link in_row count) (range_with_len first (count - first))

pub length_links : (in_row : Bool) (count : ℕ) (items : List ℕ) → length items ≤ count → length (links_of in_row count items) ≡ count
length_links in_row count items within =
    let rest = length-map-range_with_len (unset_link in_row count) (length items) (count - length items) in
    let all = length-append items (rest_of in_row count (length items)) in
    omega arith

-- one of them more in memory
pub touched : (in_row : Bool) (count : ℕ) (items : List ℕ) (link : ℕ) → length items < count → link ≡ unset_link in_row count (length items)
    → links_of in_row count (items ++ link ∷ []) ≡ links_of in_row count items
touched in_row count items link within is =
    let longer : length (items ++ link ∷ []) ≡ length items + 1 = length-append items (link ∷ []) in
    let left : count - length items ≡ suc (count - (length items + 1)) = omega arith in
    ap (λ (k : ℕ). (items ++ link ∷ []) ++ rest_of in_row count k) longer
    ∙ (append_assoc items (link ∷ []) (rest_of in_row count (length items + 1))
    ∙ (ap (λ (v : ℕ). items ++ v ∷ rest_of in_row count (length items + 1)) is
    ∙ sym (ap (λ (m : ℕ). items ++ map (unset_link in_row count) (range_with_len (length items) m)) left)))

pub get_touched : (in_row : Bool) (count : ℕ) (items : List ℕ) (k : ℕ) → k < length items → get_or items k 0 ≡ get_or (links_of in_row count items) k 0
get_touched in_row count items k inside = sym (get_or_append_left items (rest_of in_row count (length items)) 0 k inside)

pub get_unset : (in_row : Bool) (count : ℕ) (items : List ℕ) (k : ℕ) → length items ≤ k → k < count → unset_link in_row count k ≡ get_or (links_of in_row count items) k 0
get_unset in_row count items k past inside =
    let at : length items + (k - length items) ≡ k = omega arith in
    sym (ap (λ (j : ℕ). get_or (links_of in_row count items) j 0) (sym at)
    ∙ (get_or-append-add items (rest_of in_row count (length items)) (k - length items) 0
    ∙ get_or-map-range_with_len (unset_link in_row count) (length items) (count - length items) (k - length items) k 0 (omega arith) at))

pub set_touched : (in_row : Bool) (count : ℕ) (items : List ℕ) (k link : ℕ) → k < length items → links_of in_row count (set items k link) ≡ set (links_of in_row count items) k link
set_touched in_row count items k link inside =
    ap (λ (n : ℕ). set items k link ++ rest_of in_row count n) (length-set items k link)
    ∙ sym (set-append_left items (rest_of in_row count (length items)) k link inside)

-- a link set to what it is
pub set_again : (links : List ℕ) (k link : ℕ) → get_or links k 0 ≡ link → links ≡ set links k link
set_again links k link is = sym (ap (λ (v : ℕ). set links k v) (sym is) ∙ set-get_or links k 0)

pub none_set : (count : ℕ) (items : List ℕ) → items ≡ [] → links_of false count items ≡ replicate count no_link
none_set count items none = ap (λ (xs : List ℕ). links_of false count xs) none ∙ (ap (λ (m : ℕ). map (unset_link false count) (range_with_len 0 m)) (let e : count - 0 ≡ count = omega arith in e) ∙ go 0 count)
  where
    go : (a n : ℕ) → map (unset_link false count) (range_with_len a n) ≡ replicate n no_link
    go a zero = refl
    go a (suc n) = ap (λ (xs : List ℕ). no_link ∷ xs) (go (a + 1) n)
