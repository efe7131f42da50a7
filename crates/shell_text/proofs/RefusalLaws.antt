-- A refusal is told in one line.
use Rattle.std.proofs.Common.{◌≡◌, ℕ, ◌+◌, ◌^◌, ◌<◌, ◌==◌, true, false, cond, List, [], ◌∷◌, ◌++◌, decimal, refl, ◌∙◌, ap, arith}
use Rattle.std.specs.Char.{is_ascii_digit}
use Rattle.std.specs.List.{list_all, join_with_byte}
use Rattle.std.proofs.lemmas.Bool.{and_parts}
use Rattle.std.proofs.lemmas.Bool.Decides.{nat_tests}
use Rattle.script_text.specs.Pieces.{line_feeds}
use Rattle.script_text.proofs.FeedLaws.{feeds-append}
use Rattle.script_text.proofs.TextsLaws.{number_spelled}
use Rattle.script_text.proofs.WordLaws.{are_digits}

no_feed : (c : ℕ) → is_ascii_digit c ≡ true → (c == 10) ≡ false
no_feed c h = grind (arith, nat_tests)

pub digits_none : (w : List ℕ) → list_all is_ascii_digit w ≡ true → line_feeds w ≡ 0
digits_none [] h = refl
digits_none (c ∷ cs) h =
    let parts = and_parts (is_ascii_digit c) (list_all is_ascii_digit cs) h in
    ap (λ t. cond t 1 0 + line_feeds cs) (no_feed c parts.0) ∙ ap (λ n. 0 + n) (digits_none cs parts.1)

pub number_none : (n : ℕ) → n < 2 ^ 32 → line_feeds (decimal n) ≡ 0
number_none n h = digits_none (decimal n) (are_digits (decimal n) (number_spelled n h).digits.1)

-- two words and two numbers
pub numbered_none : (first second : List ℕ) (m n : ℕ) → line_feeds first ≡ 0 → line_feeds second ≡ 0 → m < 2 ^ 32 → n < 2 ^ 32 → line_feeds (join_with_byte 32 (first ∷ second ∷ decimal m ∷ decimal n ∷ [])) ≡ 0
numbered_none first second m n a b few many =
    omega (
      arith,
      feeds-append first (32 ∷ (second ++ 32 ∷ (decimal m ++ 32 ∷ decimal n))),
      feeds-append second (32 ∷ (decimal m ++ 32 ∷ decimal n)),
      feeds-append (decimal m) (32 ∷ decimal n),
      a,
      b,
      number_none m few,
      number_none n many,
    )
