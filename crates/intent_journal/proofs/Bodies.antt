-- Bodies that are written and read one after another.
use Rattle.std.proofs.Common.{◌≡◌, ◌≢◌, inl, inr, ℕ, zero, suc, ◌+◌, ◌<◌, ◌≤◌, ◌==◌, true, false, List, [], ◌∷◌, ◌++◌, length, map, get_or, sym, ◌∙◌, ap, subst, arith, append_assoc, Some}
use Rattle.intent_journal.proofs.Common.{range_with_len, slice_get, cases_eq, or_left, or_parts, nat_tests, get_or-map, map-range_with_len_more, length-map-range_with_len, length-range_with_len, get_or-range_with_len, Touches, Image, View, body_sector, descriptor_sector, Patch, count_in, home_in, homes_in, is_valid, descriptor_of, record_at, map_range_alike, is_body_of, is_in_record}

-- the patch at an index
pub got : (ps : List Patch) (k : ℕ) (d p : Patch) → slice_get ps k ≡ Some p → get_or ps k d ≡ p
got [] k d p is = absurd (cc)
got (q ∷ ps) zero d p is = cc
got (q ∷ ps) (suc k) d p is = got ps k d p is

pub got_within : (ps : List Patch) (k : ℕ) (p : Patch) → slice_get ps k ≡ Some p → k < length ps
got_within [] k p is = absurd (cc)
got_within (q ∷ ps) zero p is = omega arith
got_within (q ∷ ps) (suc k) p is = let h = got_within ps k p is in omega arith

pub body_within : (start len k : ℕ) → start ≤ k → k < start + len → is_body_of start len (body_sector k) ≡ true
body_within start len k low high = grind (arith, nat_tests)

pub body_apart : (a b : ℕ) → a ≢ b → body_sector a ≢ body_sector b
body_apart a b other e = other (omega arith)

-- one body more
pub bodies_more : (ps : List Patch) (start i at sector : ℕ) (d : Patch) (bytes : List ℕ) (mid new : View) → at ≡ start + i → sector ≡ body_sector at
    → ((k : ℕ) (p : Patch) → k < i → slice_get ps k ≡ Some p → mid.reads (body_sector (start + k)) ≡ p.bytes)
    → Touches sector mid new → new.reads sector ≡ bytes → bytes ≡ (get_or ps i d).bytes
    → (k : ℕ) (p : Patch) → k < i + 1 → slice_get ps k ≡ Some p → new.reads (body_sector (start + k)) ≡ p.bytes
bodies_more ps start i at sector d bytes mid new place where_to so_far touches written is k p less found = elim (cases_eq k i) [
  | inl here ↦
      let s : body_sector (start + k) ≡ sector = omega arith in
      let e : get_or ps i d ≡ p = got ps i d p (ap (slice_get ps) (sym here) ∙ found) in
      ap new.reads s ∙ written ∙ is ∙ ap (λ (q : Patch). q.bytes) e
  | inr other ↦
      let s : body_sector (start + k) ≢ sector = λ e. other (omega arith) in
      touches.reads (body_sector (start + k)) s ∙ so_far k p (omega arith) found
]

-- ---- read
pub read_more : (old : List Patch) (f : ℕ → Patch) (i : ℕ) (mid new : List Patch) (p : Patch) → new ≡ mid ++ p ∷ [] → p ≡ f i
    → mid ≡ old ++ map f (range_with_len 0 i) → new ≡ old ++ map f (range_with_len 0 (i + 1))
read_more old f i mid new p push is so_far =
    push ∙ ap (λ (l : List Patch). l ++ p ∷ []) so_far ∙ append_assoc old (map f (range_with_len 0 i)) (p ∷ [])
    ∙ ap (λ (l : List Patch). old ++ l) (ap (λ (q : Patch). map f (range_with_len 0 i) ++ q ∷ []) is ∙ sym (map-range_with_len_more f 0 i i (omega arith)))

-- ---- the sectors of a record
pub in_descriptor : (index start len n : ℕ) → n ≡ descriptor_sector index → is_in_record index start len n ≡ true
in_descriptor index start len n e = or_left (n == descriptor_sector index) (is_body_of start len n) (grind (arith, nat_tests))

pub in_bodies : (index start len many : ℕ) → len ≡ many → (n : ℕ) → is_in_record index start many n ≡ false → is_body_of start len n ≡ false
in_bodies index start len many e n out = ap (λ (k : ℕ). is_body_of start k n) e ∙ (or_parts (n == descriptor_sector index) (is_body_of start many n) out).1

-- ---- a record that is read
pub record_read : (image : Image) (index start : ℕ) (homes : List ℕ) → homes ≡ homes_in (descriptor_of image index)
    → map (λ k. record { sector = get_or homes k 0; bytes = image (body_sector (start + k)) }) (range_with_len 0 (length homes)) ≡ record_at image index start
record_read image index start homes is =
    let d : List ℕ = descriptor_of image index in
    let long : length homes ≡ count_in d = ap length is ∙ length-map-range_with_len (home_in d) 0 (count_in d) in
    let f : List ℕ → ℕ → Patch = λ hs k. record { sector = get_or hs k 0; bytes = image (body_sector (start + k)) } in
    ap (λ (n : ℕ). map (f homes) (range_with_len 0 n)) long
    ∙ map_range_alike (f homes) _ 0 (count_in d) (λ k low high. ap (λ (n : ℕ). record { sector = n; bytes = image (body_sector (start + k)) }) (ap (λ (hs : List ℕ). get_or hs k 0) is ∙ home_at_index d k (omega arith)))
  where
    home_at_index : (d : List ℕ) (k : ℕ) → k < count_in d → get_or (homes_in d) k 0 ≡ home_in d k
    home_at_index d k less = get_or-map (home_in d) (range_with_len 0 (count_in d)) k 0 0 (omega (arith, length-range_with_len 0 (count_in d))) ∙ ap (home_in d) (get_or-range_with_len 0 (count_in d) k 0 less ∙ omega arith)

-- the patches with a record more
pub record_added : (old mid late : Image) (index start : ℕ) (ps : List Patch) (homes hs : List ℕ) (new : List Patch) → mid ≡ old → late ≡ old → start ≡ length ps → hs ≡ homes
    → (is_valid start (descriptor_of mid index) ≡ true) × (homes ≡ homes_in (descriptor_of mid index))
    → new ≡ ps ++ map (λ k. record { sector = get_or hs k 0; bytes = late (body_sector (length ps + k)) }) (range_with_len 0 (length hs))
    → (is_valid (length ps) (descriptor_of old index) ≡ true) × (new ≡ ps ++ record_at old index (length ps))
record_added old mid late index start ps homes hs new first second at same valid push = (
  let P : ℕ → Image → Type 0 = λ n x. is_valid n (descriptor_of x index) ≡ true in
      subst (λ (x : Image). P (length ps) x) first (subst (λ (n : ℕ). P n mid) at valid.0),
  push
      ∙ ap (λ (x : Image). ps ++ map (λ k. record { sector = get_or hs k 0; bytes = x (body_sector (length ps + k)) }) (range_with_len 0 (length hs))) second
      ∙ ap (λ (l : List Patch). ps ++ l) (record_read old index (length ps) hs (same ∙ valid.1 ∙ ap (λ (x : Image). homes_in (descriptor_of x index)) first)),
)
