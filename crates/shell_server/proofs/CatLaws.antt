-- The line of a file's bytes, part by part.
use Rattle.std.proofs.Common.{◌≡◌, ◌⊎◌, inl, inr, ⊎_elim, ℕ, zero, suc, ◌+◌, ◌/◌, ◌%◌, ◌<◌, ◌≤◌, ◌==◌, false, List, [], ◌∷◌, ◌++◌, length, take, drop, refl, sym, ◌∙◌, ap, arith, append-nil, append_assoc, take-append-drop}
use Rattle.shell_server.proofs.Common.{Image, slice_index, nat_tests, encode_with, encode_lower, lower_digits, World, Path, is_path, Answer, bytes, refused, ShellAsk, FsRefusal, TellsPart, is_empty, answer_text, data_head, ShellState, AnswersByLine, IsInParts, RestsIn, shell_step, part_of}
use Rattle.std.proofs.Math.Seq.{take-add}
use Rattle.std.proofs.lemmas.List.{take_all}
use Rattle.shell_text.proofs.LookedLaws.{looked_none}
use Rattle.shell_server.proofs.KeptLaws.{look_answered}
use Rattle.shell_server.proofs.StepLaws.{heard_looks}
use Rattle.fs_trees.specs.declared.ask.ShellAsk.TheVariants as ask

-- ---- digits

digits_more : (t xs ys : List ℕ) → encode_with t (xs ++ ys) ≡ encode_with t xs ++ encode_with t ys
unfolding encode_with
digits_more t [] ys = refl
digits_more t (x ∷ xs) ys = ap (λ zs. slice_index t (x / 16) ∷ slice_index t (x % 16) ∷ zs) (digits_more t xs ys)

headed : (x : List ℕ) → data_head (is_empty x) ++ encode_lower x ≡ answer_text (bytes x)
unfolding encode_with
headed [] = refl
headed (b ∷ bs) = refl

-- ---- the parts

-- what was sent up to a place, and what comes after it
abbrev pub up_to : List ℕ → ℕ → List ℕ
up_to x n = data_head (is_empty x) ++ encode_lower (take n x)

abbrev pub behind : List ℕ → ℕ → List ℕ
behind x n = encode_lower (drop n x) ++ 10 ∷ []

abbrev pub whole_line : List ℕ → List ℕ
whole_line x = answer_text (bytes x) ++ 10 ∷ []

pub line_parts : (x : List ℕ) (n : ℕ) → whole_line x ≡ up_to x n ++ behind x n
line_parts x n =
    ap (λ l. l ++ 10 ∷ []) (sym (headed x) ∙ ap (λ y. data_head (is_empty x) ++ encode_lower y) (sym (take-append-drop n x)) ∙ ap (λ l. data_head (is_empty x) ++ l) (digits_more lower_digits (take n x) (drop n x)) ∙ sym (append_assoc (data_head (is_empty x)) (encode_lower (take n x)) (encode_lower (drop n x))))
    ∙ append_assoc (up_to x n) (encode_lower (drop n x)) (10 ∷ [])

pub le_or_lt : (a b : ℕ) → (a ≤ b) ⊎ (b < a)
le_or_lt zero b = inl (omega arith)
le_or_lt (suc a) zero = inr (omega arith)
le_or_lt (suc a) (suc b) = ⊎_elim (λ h. inl (omega (arith, h))) (λ h. inr (omega (arith, h))) (le_or_lt a b)

same_take : (x : List ℕ) (n m : ℕ) → n ≤ m → (n < m → length x ≤ n) → take n x ≡ take m x
same_take x n m le all = elim (le_or_lt m n) [
  | inl h ↦ ap (λ k. take k x) (let e : n ≡ m = omega (arith, le, h) in e)
  | inr h ↦ take_all n x (all h) ∙ sym (take_all m x (omega (arith, h, all h)))
]

-- the next part
pub up_to_next : (x part : List ℕ) (n m : ℕ) → part ≡ take 4096 (drop n x) → m ≤ n + 4096 → (m < n + 4096 → length x ≤ m) → up_to x n ++ encode_lower part ≡ up_to x m
up_to_next x part n m is le all =
    append_assoc (data_head (is_empty x)) (encode_lower (take n x)) (encode_lower part)
    ∙ ap (λ l. data_head (is_empty x) ++ l) (ap (λ y. encode_lower (take n x) ++ encode_lower y) is ∙ sym (digits_more lower_digits (take n x) (take 4096 (drop n x))) ∙ ap encode_lower (sym (take-add n 4096 x) ∙ sym (same_take x m (n + 4096) le all)))

-- the line with the next part in it
pub line_next : (x part : List ℕ) (n : ℕ) → part ≡ take 4096 (drop n x) → whole_line x ≡ up_to x n ++ (encode_lower part ++ behind x (n + 4096))
line_next x part n is =
    line_parts x (n + 4096) ∙ ap (λ l. l ++ behind x (n + 4096)) (sym (up_to_next x part n (n + 4096) is (omega arith) (λ h. absurd (omega (arith, h))))) ∙ append_assoc (up_to x n) (encode_lower part) (behind x (n + 4096))

-- nothing is left
pub line_end : (x : List ℕ) (n : ℕ) → length x ≤ n → whole_line x ≡ up_to x n ++ 10 ∷ []
line_end x n all = ap (λ l. l ++ 10 ∷ []) (sym (headed x) ∙ ap (λ y. data_head (is_empty x) ++ encode_lower y) (sym (take_all n x all)))

some_not_none : (n : ℕ) → 0 < n → (n == 0) ≡ false
some_not_none n h = grind (arith, nat_tests)

pub no_size : (x : List ℕ) (n : ℕ) → n ≡ length x → data_head (n == 0) ≡ data_head (is_empty x)
no_size [] n e = ap (λ k. data_head (k == 0)) e
no_size (b ∷ bs) n e = ap data_head (some_not_none n (omega (arith, e)))

-- ---- the answer

pub cat_answers : (start : World) (s : ShellState) (path : Path) (x : List ℕ) → (shell_step s (ask.Cat path)).answer ≡ bytes x → (y : Image) → RestsIn start s y → AnswersByLine start s (ask.Cat path) (whole_line x) s
cat_answers start s path x is y rests = look_answered start s (ask.Cat path) (bytes x) is (looked_none (part_of x) tt) y rests (heard_looks (is_path path) (ask.Cat path) refl)

pub cat_in_parts : (path : Path) (x : List ℕ) → IsInParts (ask.Cat path) (whole_line x)
cat_in_parts path x = (x, refl)

pub not_refused : (x : List ℕ) (r : FsRefusal) (a : Answer) → a ≡ bytes x → a ≡ refused r → ⊥
not_refused x r a is refuses = cc

pub line_headed : (x : List ℕ) → whole_line x ≡ data_head (is_empty x) ++ (encode_lower x ++ 10 ∷ [])
line_headed x = ap (λ l. l ++ 10 ∷ []) (sym (headed x)) ∙ append_assoc (data_head (is_empty x)) (encode_lower x) (10 ∷ [])

pub up_to_none : (x : List ℕ) → up_to x 0 ≡ data_head (is_empty x)
unfolding encode_with
up_to_none x = append-nil (data_head (is_empty x))

-- what was read is of the file
pub part_is : (s u : ShellState) (q : ShellAsk) (x part : List ℕ) (n : ℕ) → u ≡ s → (shell_step s q).answer ≡ bytes x → TellsPart n part (shell_step u q).answer → part ≡ take 4096 (drop n x)
part_is s u q x part n same is tells =
    let both : bytes tells.0 ≡ bytes x = sym tells.1 ∙ (ap (λ (w : ShellState). (shell_step w q).answer) same ∙ is) in
    let one : tells.0 ≡ x = cc in
    tells.2 ∙ ap (λ y. take 4096 (drop n y)) one
