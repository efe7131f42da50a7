-- What is printed is spelled as the grammar wants it, and texts in the order in which they are written.
use Rattle.std.proofs.Common.{◌≡◌, ◌≢◌, ℕ, zero, suc, ◌+◌, ◌-◌, ◌*◌, ◌^◌, ◌<◌, ◌≤◌, Bool, true, false, cond, ◌&&◌, ◌==◌, List, [], ◌∷◌, ◌++◌, length, take, drop, map, flat_map, decimal, refl, sym, ◌∙◌, ap, arith, Ok, inl, inr, append-nil, get_or}
use Rattle.std.specs.List.{list_all, join_with_byte}
use Rattle.std.proofs.lemmas.Fmt.{decimal_is_IsNumeral, length-decimal-le}
use Rattle.std.proofs.lemmas.Bool.{ne_eqb}
use Rattle.std.proofs.lemmas.List.{take_more, take-append-drop}
use Rattle.hex.specs.Hex.{decode_of, encode_lower}
use Rattle.script_text.specs.Grammar.{IsNumber, IsData}
use Rattle.script_text.specs.Texts.{data_text, target_words, up_to_last}
use Rattle.tsd_model.proofs.ValueLaws.{and_false}

-- ---- words

pub number_spelled : (n : ℕ) → n < 2 ^ 32 → IsNumber (decimal n) n
number_spelled n h = let d = decimal_is_IsNumeral n (omega arith) in record { digits = d.0; few = length-decimal-le 10 n (omega arith) (omega arith) (omega arith); value = d.1; fits = h }

pub data_spelled : (bytes : List ℕ) → length bytes ≤ 4096 → length (encode_lower bytes) ≡ 2 * length bytes → decode_of (encode_lower bytes) ≡ Ok bytes → IsData (data_text bytes) bytes
data_spelled [] few long reads = inl (refl, refl)
data_spelled (b ∷ bs) few long reads = inr (omega arith, omega arith, reads)

-- ---- numbers

pub numbers_after : (first : List ℕ) (ns : List ℕ) → join_with_byte 32 (first ∷ map decimal ns) ≡ first ++ flat_map (λ n. 32 ∷ decimal n) ns
numbers_after first [] = sym (append-nil first)
numbers_after first (n ∷ ns) = ap (λ xs. first ++ (32 ∷ xs)) (numbers_after (decimal n) ns)

pub targets_after : (bs : List ℕ) → (length bs == 0) ≡ false → flat_map (λ n. 32 ∷ decimal n) bs ≡ 32 ∷ join_with_byte 32 (target_words bs)
targets_after [] h = absurd (cc)
targets_after (b ∷ bs) h = ap (λ xs. 32 ∷ xs) (sym (numbers_after (decimal b) bs))

-- ---- bytes without the zeros at their end

abbrev all_zero : List ℕ → Bool
all_zero bs = list_all (λ x. x == 0) bs

zeros_more : (bs zs : List ℕ) → all_zero zs ≡ true → all_zero (bs ++ zs) ≡ all_zero bs
zeros_more [] zs h = h
zeros_more (b ∷ bs) zs h = ap (λ t. (b == 0) && t) (zeros_more bs zs h)

-- zeros at the end are cut off
cut_zeros : (bs zs : List ℕ) → all_zero zs ≡ true → up_to_last (bs ++ zs) ≡ up_to_last bs
cut_zeros [] [] h = refl
cut_zeros [] (z ∷ zs) h = ap (λ t. cond t [] (z ∷ up_to_last zs)) h
cut_zeros (b ∷ bs) zs h = λ i. cond ((b == 0) && zeros_more bs zs h i) [] (b ∷ cut_zeros bs zs h i)

pub zeros_less : (bs front zeros : List ℕ) (n : ℕ) → front ≡ take n bs → zeros ≡ drop n bs → list_all (λ x. x == 0) zeros ≡ true → up_to_last front ≡ up_to_last bs
zeros_less bs front zeros n at_front behind zero_there =
    sym (cut_zeros front zeros zero_there) ∙ (λ i. up_to_last (at_front i ++ behind i)) ∙ ap up_to_last (take-append-drop n bs)

other_more : (bs : List ℕ) (x : ℕ) → x ≢ 0 → list_all (λ y. y == 0) (bs ++ x ∷ []) ≡ false
other_more [] x h = ap (λ t. t && true) (ne_eqb x 0 h)
other_more (b ∷ bs) x h = ap (λ t. (b == 0) && t) (other_more bs x h) ∙ and_false (b == 0)

-- any other byte keeps all before it
pub keep_other : (bs : List ℕ) (x : ℕ) → x ≢ 0 → up_to_last (bs ++ x ∷ []) ≡ bs ++ x ∷ []
keep_other [] x h = ap (λ t. cond (t && true) [] (x ∷ [])) (ne_eqb x 0 h)
keep_other (b ∷ bs) x h = ap (λ t. cond t [] (b ∷ up_to_last (bs ++ x ∷ []))) (other_more (b ∷ bs) x h) ∙ ap (λ xs. b ∷ xs) (keep_other bs x h)

last_of_front : (bs : List ℕ) (end : ℕ) → 0 < end → end ≤ length bs → take (end - 1) bs ++ get_or bs (end - 1) 0 ∷ [] ≡ take end bs
last_of_front bs end some within = let back : end - 1 + 1 ≡ end = omega arith in sym (take_more bs (end - 1) 0 (omega arith)) ∙ ap (λ k. take k bs) back

pub one_less : (bs : List ℕ) (end : ℕ) → 0 < end → end ≤ length bs → get_or bs (end - 1) 0 ≡ 0 → up_to_last (take (end - 1) bs) ≡ up_to_last (take end bs)
one_less bs end some within zero_there =
    sym (cut_zeros (take (end - 1) bs) (0 ∷ []) refl) ∙ ap (λ x. up_to_last (take (end - 1) bs ++ x ∷ [])) (sym zero_there) ∙ ap up_to_last (last_of_front bs end some within)

pub no_less : (bs : List ℕ) (end : ℕ) → 0 < end → end ≤ length bs → get_or bs (end - 1) 0 ≢ 0 → up_to_last (take end bs) ≡ take end bs
no_less bs end some within other =
    ap up_to_last (sym (last_of_front bs end some within)) ∙ keep_other (take (end - 1) bs) (get_or bs (end - 1) 0) other ∙ last_of_front bs end some within

pub none_left : (bs : List ℕ) (end : ℕ) → end ≤ 0 → up_to_last (take end bs) ≡ take end bs
none_left [] zero h = refl
none_left (b ∷ bs) zero h = refl
none_left bs (suc end) h = absurd (omega arith)
