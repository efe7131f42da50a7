-- Bytes that are read as numbers, one after another.
use Rattle.std.proofs.Common.{◌≡◌, ◌≢◌, ℕ, ◌<◌, ◌≤◌, true, false, cond, nat_le, List, [], ◌∷◌, ◌++◌, length, refl, sym, ◌∙◌, ap, subst, arith, append_assoc, append-nil, Option, Some, None}
use Rattle.std.specs.Prelude.{option_map}
use Rattle.std.proofs.lemmas.Bool.{leb-true, le-leb, lt-leb}
use Rattle.std.proofs.lemmas.List.{length-append}
use Rattle.byteorder.specs.Endian.{little_number, little_bytes}
use Rattle.byteorder.specs.Numbers.{little_number-reads_back}
use Rattle.tsd_model.specs.Step.{targets_max}
use Rattle.request_frames.specs.Fields.{AllFit, bytes_of}
use Rattle.request_frames.specs.Replies.{number_fields}
use Rattle.request_frames.specs.Reading.{num_of, numbers_of, list_of_blocks, ◌>>=◌}
use Rattle.request_frames.proofs.FieldLaws.{AreBytes, Spelled, bytes-drop, number_is, some_is, bind_some, leaves, same_value, same_rest}

-- the first number, and then the others
pub number_more : (bs : List ℕ) (n : ℕ) (rest : List ℕ) → num_of bs ≡ Some (n, rest) → (numbers_of bs ≡ option_map (λ ns. n ∷ ns) (numbers_of rest)) × (length rest < length bs)
unfolding num_of
number_more [] n rest e = absurd (cc)
number_more (a ∷ []) n rest e = absurd (cc)
number_more (a ∷ b ∷ []) n rest e = absurd (cc)
number_more (a ∷ b ∷ c ∷ []) n rest e = absurd (cc)
number_more (a ∷ b ∷ c ∷ d ∷ bs) n rest e =
    let some : nat_le 4 (length (a ∷ b ∷ c ∷ d ∷ bs)) ≡ true = le-leb 4 (length (a ∷ b ∷ c ∷ d ∷ bs)) (omega arith) in
    let read : leaves (little_number 4 (a ∷ b ∷ c ∷ d ∷ bs)) bs ≡ leaves n rest = ap (λ t. cond t (leaves (little_number 4 (a ∷ b ∷ c ∷ d ∷ bs)) bs) None) (sym some) ∙ e in
    let more : bs ≡ rest = same_rest read in
    let first : little_number 4 (a ∷ b ∷ c ∷ d ∷ bs) ≡ n = same_value read in
    (λ i. option_map (λ ns. first i ∷ ns) (numbers_of (more i)), omega (arith, ap length more))

-- too few bytes for one
pub number_none : (bs : List ℕ) → num_of bs ≡ None → bs ≢ [] → numbers_of bs ≡ None
unfolding num_of
number_none [] e some = absurd (some refl)
number_none (a ∷ []) e some = refl
number_none (a ∷ b ∷ []) e some = refl
number_none (a ∷ b ∷ c ∷ []) e some = refl
number_none (a ∷ b ∷ c ∷ d ∷ bs) e some =
    let there : nat_le 4 (length (a ∷ b ∷ c ∷ d ∷ bs)) ≡ true = le-leb 4 (length (a ∷ b ∷ c ∷ d ∷ bs)) (omega arith) in
    let read : leaves (little_number 4 (a ∷ b ∷ c ∷ d ∷ bs)) bs ≡ None = ap (λ t. cond t (leaves (little_number 4 (a ∷ b ∷ c ∷ d ∷ bs)) bs) None) (sym there) ∙ e in
    absurd (cc)

-- one more number
pub onto_last : (blocks : List ℕ) (n : ℕ) (o : Option (List ℕ)) → option_map (λ ns. blocks ++ ns) (option_map (λ ns. n ∷ ns) o) ≡ option_map (λ ns. (blocks ++ n ∷ []) ++ ns) o
onto_last blocks n None = refl
onto_last blocks n (Some ns) = ap (λ xs. Some xs) (sym (append_assoc blocks (n ∷ []) ns))

-- there are as many as fit, and no more
pub all_read : (bs blocks : List ℕ) → numbers_of bs ≡ option_map (λ ns. blocks ++ ns) (Some []) → length blocks ≤ targets_max → list_of_blocks bs ≡ Some blocks
unfolding list_of_blocks
all_read bs blocks e few =
    ap (λ o. o >>= λ ns. cond (nat_le (length ns) targets_max) (Some ns) None) e
    ∙ ap (λ ns. cond (nat_le (length ns) targets_max) (Some ns) None) (append-nil blocks)
    ∙ ap (λ t. cond t (Some blocks) None) (le-leb (length blocks) targets_max few)

-- there is something else
pub none_read : (bs blocks : List ℕ) → numbers_of bs ≡ option_map (λ ns. blocks ++ ns) None → list_of_blocks bs ≡ None
unfolding list_of_blocks
none_read bs blocks e = ap (λ o. o >>= λ ns. cond (nat_le (length ns) targets_max) (Some ns) None) e

-- there is one more than fits
pub many_read : (bs blocks : List ℕ) (n : ℕ) (o : Option (List ℕ)) → numbers_of bs ≡ option_map (λ ns. blocks ++ ns) (option_map (λ ns. n ∷ ns) o) → targets_max ≤ length blocks → list_of_blocks bs ≡ None
unfolding list_of_blocks
many_read bs blocks n None e many = ap (λ o. o >>= λ ns. cond (nat_le (length ns) targets_max) (Some ns) None) e
many_read bs blocks n (Some ns) e many =
    let long : targets_max < length (blocks ++ (n ∷ ns)) = omega (arith, length-append blocks (n ∷ ns)) in
    ap (λ o. o >>= λ ns. cond (nat_le (length ns) targets_max) (Some ns) None) e
    ∙ ap (λ t. cond t (Some (blocks ++ (n ∷ ns))) None) (lt-leb (length (blocks ++ (n ∷ ns))) targets_max long)

-- what is read as numbers is spelled by them
pub numbers_sound : (bs ns : List ℕ) → AreBytes bs → numbers_of bs ≡ Some ns → Spelled (number_fields ns) bs
numbers_sound [] ns all e = subst (λ ms. Spelled (number_fields ms) []) (some_is e) (tt, refl)
numbers_sound (a ∷ []) ns all e = absurd (cc)
numbers_sound (a ∷ b ∷ []) ns all e = absurd (cc)
numbers_sound (a ∷ b ∷ c ∷ []) ns all e = absurd (cc)
numbers_sound (a ∷ b ∷ c ∷ d ∷ bs) ns all e =
    let n : ℕ = little_number 4 (a ∷ b ∷ c ∷ d ∷ bs) in
    let first = number_is (a ∷ b ∷ c ∷ d ∷ bs) all (omega arith) in
    elim (numbers_of bs) as (λ o. numbers_of bs ≡ o → option_map (λ ms. little_number 4 (a ∷ b ∷ c ∷ d ∷ bs) ∷ ms) o ≡ Some ns → Spelled (number_fields ns) (a ∷ b ∷ c ∷ d ∷ bs)) [
      | None ↦ λ p q. absurd (cc)
      | Some ms ↦ λ p q. let more = numbers_sound bs ms (bytes-drop 4 (a ∷ b ∷ c ∷ d ∷ bs) all) p in
          subst (λ (xs : List ℕ). Spelled (number_fields xs) (a ∷ b ∷ c ∷ d ∷ bs)) (some_is q) ((first.0, more.0), first.1 ∙ ap (λ xs. little_bytes 4 (little_number 4 (a ∷ b ∷ c ∷ d ∷ bs)) ++ xs) more.1)
    ] refl e

pub blocks_sound : (bs ns : List ℕ) → AreBytes bs → list_of_blocks bs ≡ Some ns → Spelled (number_fields ns) bs × (length ns ≤ targets_max)
unfolding list_of_blocks
blocks_sound bs ns all e =
    elim (numbers_of bs) as (λ o. numbers_of bs ≡ o → (o >>= λ ms. cond (nat_le (length ms) targets_max) (Some ms) None) ≡ Some ns → Spelled (number_fields ns) bs × (length ns ≤ targets_max)) [
      | None ↦ λ p q. absurd (cc)
      | Some ms ↦ λ p q. elim (nat_le (length ms) targets_max) as (λ t. nat_le (length ms) targets_max ≡ t → cond t (Some ms) None ≡ Some ns → Spelled (number_fields ns) bs × (length ns ≤ targets_max)) [
        | true ↦ λ r s. subst (λ (xs : List ℕ). Spelled (number_fields xs) bs × (length xs ≤ targets_max)) (some_is s) (numbers_sound bs ms all p, leb-true (length ms) targets_max r)
        | false ↦ λ r s. absurd (cc)
      ] refl q
    ] refl e

-- numbers that are spelled are read
numbers_back : (ns : List ℕ) → AllFit (number_fields ns) → numbers_of (bytes_of (number_fields ns)) ≡ Some ns
numbers_back [] h = refl
numbers_back (n ∷ ns) h =
    ap (option_map (λ ms. little_number 4 (little_bytes 4 n ++ bytes_of (number_fields ns)) ∷ ms)) (numbers_back ns h.1)
    ∙ ap (λ m. Some (m ∷ ns)) (little_number-reads_back 4 n (bytes_of (number_fields ns)) h.0)

pub blocks_back : (ns : List ℕ) → AllFit (number_fields ns) → length ns ≤ targets_max → list_of_blocks (bytes_of (number_fields ns)) ≡ Some ns
unfolding list_of_blocks
blocks_back ns h few = bind_some _ _ _ _ (numbers_back ns h) (ap (λ t. cond t (Some ns) None) (le-leb (length ns) targets_max few))
