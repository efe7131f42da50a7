-- What is written into a descriptor, and what is read there.
use Rattle.std.proofs.Common.{◌≡◌, ◌≢◌, ℕ, zero, suc, ◌+◌, ◌*◌, ◌-◌, ◌^◌, ◌<◌, ◌≤◌, ◌&&◌, nat_le, Bool, true, List, [], ◌∷◌, ◌++◌, length, map, take, drop, replicate, get_or, refl, sym, ◌∙◌, ap, arith, append_assoc, add-one, zero-add, Some, option_map}
use Rattle.intent_journal.proofs.Common.{list_all, slice_get, range_with_len, take-suc, take-append_seam, drop-append-add, nat_tests, drop-replicate, length-take-le, flat_map-append, little_from, little_bytes, Patch, bodies, are_apart, is_lawful_home, homes_of, IsBatch, count_in, home_in, homes_in, is_valid, descriptor_bytes}
use Rattle.std.specs.List.{flat_map}
use Rattle.std.proofs.Math.Nat.{suc-add}
use Rattle.std.proofs.lemmas.Option.{slice_get-map}
use Rattle.byteorder.specs.Numbers.{little_from-cons, little_number-reads_back}
use Rattle.intent_journal.proofs.HomesOf.{homes_append, length_homes}
use Rattle.intent_journal.proofs.Bools.{and_true_parts}

-- ---- the sector as it is written
length_numbers : (ns : List ℕ) → length (flat_map (little_bytes 4) ns) ≡ 4 * length ns
length_numbers [] = refl
length_numbers (n ∷ ns) = omega (arith, length_numbers ns)

numbers_more : (ps : List Patch) (i : ℕ) (d : Patch) → i < length ps → flat_map (little_bytes 4) (homes_of (take (i + 1) ps)) ≡ flat_map (little_bytes 4) (homes_of (take i ps)) ++ little_bytes 4 (get_or ps i d).sector
numbers_more ps i d h =
    let front : take (i + 1) ps ≡ take i ps ++ (get_or ps i d ∷ []) = ap (λ k. take k ps) (add-one i) ∙ take-suc ps i d h in
    ap (λ l. flat_map (little_bytes 4) (homes_of l)) front ∙ ap (flat_map (little_bytes 4)) (homes_append (take i ps) (get_or ps i d ∷ []))
    ∙ flat_map-append (little_bytes 4) (homes_of (take i ps)) ((get_or ps i d).sector ∷ [])

-- four of the zeros behind a front are passed over
zeros_behind : (front : List ℕ) (many at fewer : ℕ) → length front ≡ at → fewer ≡ many - 4 → drop (at + 4) (front ++ replicate many 0) ≡ replicate fewer 0
zeros_behind front many at fewer long is =
    let behind : drop (length front + 4) (front ++ replicate many 0) ≡ replicate (many - 4) 0 = drop-append-add front (replicate many 0) 4 ∙ drop-replicate 4 many 0 in
    ap (λ k. drop (k + 4) (front ++ replicate many 0)) (sym long) ∙ behind ∙ ap (λ k. replicate k 0) (sym is)

-- one number more is written where zeros stand
pub write_more : (ps : List Patch) (i : ℕ) (d : Patch) (count at n : ℕ) (s s' : List ℕ) → i < length ps → length ps ≤ bodies → at ≡ 4 + 4 * i → n ≡ (get_or ps i d).sector
    → s ≡ little_bytes 4 count ++ flat_map (little_bytes 4) (homes_of (take i ps)) ++ replicate (508 - 4 * i) 0
    → s' ≡ take at s ++ little_bytes 4 n ++ drop (at + 4) s
    → s' ≡ little_bytes 4 count ++ flat_map (little_bytes 4) (homes_of (take (i + 1) ps)) ++ replicate (508 - 4 * (i + 1)) 0
write_more ps i d count at n s s' h few is number old new =
    let front : List ℕ = little_bytes 4 count ++ flat_map (little_bytes 4) (homes_of (take i ps)) in
    let zeros : List ℕ = replicate (508 - 4 * i) 0 in
    let long : length front ≡ at = omega (arith, length_numbers (homes_of (take i ps)), length_homes (take i ps), length-take-le i ps) in
    let kept : take at (front ++ zeros) ≡ front = ap (λ k. take k (front ++ zeros)) (sym long) ∙ take-append_seam front zeros in
    let rest : drop (at + 4) (front ++ zeros) ≡ replicate (508 - 4 * (i + 1)) 0 = zeros_behind front (508 - 4 * i) at (508 - 4 * (i + 1)) long (omega arith) in
    let more : front ++ little_bytes 4 n ≡ little_bytes 4 count ++ flat_map (little_bytes 4) (homes_of (take (i + 1) ps)) =
    ap (λ k. front ++ little_bytes 4 k) number ∙ append_assoc (little_bytes 4 count) (flat_map (little_bytes 4) (homes_of (take i ps))) (little_bytes 4 (get_or ps i d).sector) ∙ ap (λ l. little_bytes 4 count ++ l) (sym (numbers_more ps i d h)) in
    new ∙ ap (λ l. take at l ++ little_bytes 4 n ++ drop (at + 4) l) old ∙ ap (λ l. l ++ little_bytes 4 n ++ drop (at + 4) (front ++ zeros)) kept
    ∙ ap (λ l. front ++ little_bytes 4 n ++ l) rest ∙ ap (λ l. l ++ replicate (508 - 4 * (i + 1)) 0) more

-- ---- the numbers as they are read
-- what stands in front moves the places on
shifted : (xs ys : List ℕ) (i n : ℕ) → little_from (length xs + i) n (xs ++ ys) ≡ little_from i n ys
shifted [] ys i n = ap (λ k. little_from k n ys) (zero-add i)
shifted (x ∷ xs) ys i n = ap (λ k. little_from k n (x ∷ (xs ++ ys))) (suc-add (length xs) i) ∙ little_from-cons (length xs + i) n x (xs ++ ys) ∙ shifted xs ys i n

number_at : (ns : List ℕ) (k n : ℕ) (rest : List ℕ) → slice_get ns k ≡ Some n → n < 2 ^ 32 → little_from (4 * k) 4 (flat_map (little_bytes 4) ns ++ rest) ≡ n
number_at [] k n rest at small = absurd (cc)
number_at (m ∷ ms) zero n rest at small =
    let same : m ≡ n = cc in
    ap (λ j. little_from 0 4 (little_bytes 4 j ++ (flat_map (little_bytes 4) ms ++ rest))) same ∙ little_number-reads_back 4 n (flat_map (little_bytes 4) ms ++ rest) small
number_at (m ∷ ms) (suc k) n rest at small =
    let on : 4 * suc k ≡ 4 + 4 * k = omega arith in
    ap (λ i. little_from i 4 (little_bytes 4 m ++ (flat_map (little_bytes 4) ms ++ rest))) on ∙ shifted (little_bytes 4 m) (flat_map (little_bytes 4) ms ++ rest) (4 * k) 4 ∙ number_at ms k n rest at small

pub descriptor_count : (homes : List ℕ) → length homes ≤ bodies → count_in (descriptor_bytes homes) ≡ length homes
descriptor_count homes few = little_number-reads_back 4 (length homes) (flat_map (little_bytes 4) homes ++ replicate (508 - 4 * length homes) 0) (omega arith)

pub descriptor_home : (homes : List ℕ) (k n : ℕ) → slice_get homes k ≡ Some n → n < 2 ^ 32 → home_in (descriptor_bytes homes) k ≡ n
descriptor_home homes k n at small =
    let zeros : List ℕ = replicate (508 - 4 * length homes) 0 in
    shifted (little_bytes 4 (length homes)) (flat_map (little_bytes 4) homes ++ zeros) (4 * k) 4 ∙ number_at homes k n zeros at small

-- a list is what a function makes of its places, if it says each item
pub items_at : {X : Type 0} (f : ℕ → X) (xs : List X) (a : ℕ) → ((k : ℕ) (x : X) → slice_get xs k ≡ Some x → f (a + k) ≡ x) → map f (range_with_len a (length xs)) ≡ xs
items_at f [] a each = refl
items_at f (x ∷ xs) a each =
    let here : f a ≡ x = ap f (sym (omega arith)) ∙ each 0 x refl in
    let rest : map f (range_with_len (a + 1) (length xs)) ≡ xs = items_at f xs (a + 1) (λ k y at. let on : a + 1 + k ≡ a + suc k = omega arith in ap f on ∙ each (suc k) y at) in
    cc

pub descriptor_homes : (homes : List ℕ) → length homes ≤ bodies → ((k n : ℕ) → slice_get homes k ≡ Some n → n < 2 ^ 32) → homes_in (descriptor_bytes homes) ≡ homes
descriptor_homes homes few small =
    ap (λ n. map (home_in (descriptor_bytes homes)) (range_with_len 0 n)) (descriptor_count homes few)
    ∙ items_at (home_in (descriptor_bytes homes)) homes 0 (λ k n at. ap (home_in (descriptor_bytes homes)) (zero-add k) ∙ descriptor_home homes k n at (small k n at))

-- lawful homes fit four bytes
pub lawful_small : (homes : List ℕ) (k n : ℕ) → list_all is_lawful_home homes ≡ true → slice_get homes k ≡ Some n → n < 2 ^ 32
lawful_small [] k n l at = absurd (cc)
lawful_small (m ∷ ms) zero n l at =
    let same : m ≡ n = cc in
    small_one n (ap is_lawful_home (sym same) ∙ (and_true_parts (is_lawful_home m) (list_all is_lawful_home ms) l).0)
  where
    small_one : (j : ℕ) → is_lawful_home j ≡ true → j < 2 ^ 32
    small_one j lawful = grind (arith, nat_tests)
lawful_small (m ∷ ms) (suc k) n l at = lawful_small ms k n (and_true_parts (is_lawful_home m) (list_all is_lawful_home ms) l).1 at

both_true : (a b : Bool) → a ≡ true → b ≡ true → (a && b) ≡ true
both_true a b h k = ap (λ c. c && b) h ∙ k

some_patch : (ps : List Patch) → ps ≢ [] → 1 ≤ length ps
some_patch [] some = absurd (some refl)
some_patch (p ∷ ps) some = omega arith

pub batch_homes : (batch : List Patch) → IsBatch batch → homes_in (descriptor_bytes (homes_of batch)) ≡ homes_of batch
batch_homes batch b = descriptor_homes (homes_of batch) (omega (arith, length_homes batch, b.most)) (λ k n at. lawful_small (homes_of batch) k n b.lawful at)

pub batch_count : (batch : List Patch) → IsBatch batch → count_in (descriptor_bytes (homes_of batch)) ≡ length batch
batch_count batch b = descriptor_count (homes_of batch) (omega (arith, length_homes batch, b.most)) ∙ length_homes batch

pub descriptor_valid : (batch : List Patch) (start : ℕ) → IsBatch batch → batch ≢ [] → start + length batch ≤ bodies → is_valid start (descriptor_bytes (homes_of batch)) ≡ true
descriptor_valid batch start b some room =
    let bytes : List ℕ = descriptor_bytes (homes_of batch) in
    let count : count_in bytes ≡ length batch = batch_count batch b in
    let homes : homes_in bytes ≡ homes_of batch = batch_homes batch b in
    let one : nat_le 1 (count_in bytes) ≡ true = ap (nat_le 1) count ∙ le_true 1 (length batch) (some_patch batch some) in
    let fits : nat_le (start + count_in bytes) bodies ≡ true = ap (λ n. nat_le (start + n) bodies) count ∙ le_true (start + length batch) bodies room in
    let distinct : are_apart (homes_in bytes) ≡ true = ap are_apart homes ∙ b.distinct in
    let lawful : list_all is_lawful_home (homes_in bytes) ≡ true = ap (list_all is_lawful_home) homes ∙ b.lawful in
    both_true _ _ (both_true _ _ (both_true _ _ one fits) distinct) lawful
  where
    le_true : (n m : ℕ) → n ≤ m → nat_le n m ≡ true
    le_true n m h = grind (arith, nat_tests)

pub batch_home : (batch : List Patch) (k : ℕ) (p : Patch) → IsBatch batch → slice_get batch k ≡ Some p → home_in (descriptor_bytes (homes_of batch)) k ≡ p.sector
batch_home batch k p b at =
    let at_home : slice_get (homes_of batch) k ≡ Some p.sector = slice_get-map (λ (q : Patch). q.sector) batch k ∙ ap (option_map (λ (q : Patch). q.sector)) at in
    descriptor_home (homes_of batch) k p.sector at_home (lawful_small (homes_of batch) k p.sector b.lawful at_home)
