-- The parts of an answer, one after the other, are its text.
use Rattle.std.proofs.Common.{◌≡◌, ℕ, ◌/◌, ◌%◌, List, [], ◌∷◌, ◌++◌, flat_map, refl, sym, ◌∙◌, ap}
use Rattle.std.specs.Prelude.{codes, slice_index}
use Rattle.std.specs.List.{join_with_byte}
use Rattle.hex.specs.Hex.{encode_with, encode_lower, lower_digits}
use Rattle.fs_trees.specs.Names.{Name}
use Rattle.fs_trees.specs.Answer.{bytes, listed}
use Rattle.tsd_model.specs.Verdict.{is_empty}
use Rattle.shell_text.specs.Texts.{answer_text, data_head, names_head}

-- digits of bytes, one behind the other
digits-append : (t xs ys : List ℕ) → encode_with t (xs ++ ys) ≡ encode_with t xs ++ encode_with t ys
unfolding encode_with
digits-append t [] ys = refl
digits-append t (x ∷ xs) ys = ap (λ zs. slice_index t (x / 16) ∷ slice_index t (x % 16) ∷ zs) (digits-append t xs ys)

digits_in_parts : (parts : List (List ℕ)) → flat_map encode_lower parts ≡ encode_lower (flat_map (λ part. part) parts)
unfolding encode_with
digits_in_parts [] = refl
digits_in_parts (p ∷ ps) = ap (λ xs. encode_lower p ++ xs) (digits_in_parts ps) ∙ sym (digits-append lower_digits p (flat_map (λ part. part) ps))

headed : (x : List ℕ) → data_head (is_empty x) ++ encode_lower x ≡ answer_text (bytes x)
unfolding encode_with
headed [] = refl
headed (b ∷ bs) = refl

pub data_in_parts : (parts : List (List ℕ)) → data_head (is_empty (flat_map (λ part. part) parts)) ++ flat_map encode_lower parts ≡ answer_text (bytes (flat_map (λ part. part) parts))
data_in_parts parts = ap (λ xs. data_head (is_empty (flat_map (λ part. part) parts)) ++ xs) (digits_in_parts parts) ∙ headed (flat_map (λ part. part) parts)

names_after : (first : List ℕ) (ns : List Name) → join_with_byte 32 (first ∷ ns) ≡ first ++ flat_map (λ n. 32 ∷ n) ns
names_after first [] = sym (nothing_more first)
  where
    nothing_more : (xs : List ℕ) → xs ++ [] ≡ xs
    nothing_more [] = refl
    nothing_more (x ∷ xs) = ap (λ ys. x ∷ ys) (nothing_more xs)
names_after first (n ∷ ns) = ap (λ xs. first ++ (32 ∷ xs)) (names_after n ns)

pub names_in_parts : (ns : List Name) → names_head (is_empty ns) ++ flat_map (λ n. 32 ∷ n) ns ≡ answer_text (listed ns)
names_in_parts [] = refl
names_in_parts (n ∷ ns) = sym (names_after (codes "names") (n ∷ ns))
