-- Replies as they are sent: none but the end of each is a line feed.
use Rattle.std.proofs.Common.{◌≡◌, ℕ, zero, suc, ◌+◌, ◌/◌, ◌%◌, ◌^◌, ◌<◌, ◌≤◌, ◌==◌, Bool, true, false, cond, List, [], ◌∷◌, ◌++◌, length, map, slice_index, decimal, refl, ◌∙◌, ap, arith}
use Rattle.std.specs.Char.{is_ascii_digit}
use Rattle.std.specs.List.{list_all, join_with_byte}
use Rattle.std.proofs.lemmas.Bool.{and_parts}
use Rattle.std.proofs.lemmas.Bool.Decides.{nat_tests}
use Rattle.hex.specs.Hex.{encode_with, encode_lower, lower_digits}
use Rattle.script_text.specs.Pieces.{line_feeds}
use Rattle.script_text.specs.Texts.{data_text, up_to_last, target_words, level_text, rule_words, reply_words, reply_text}
use Rattle.tsd_model.specs.ReplyForm.{AreNumbers, RuleHasNumbers, HasNumbers}
use Rattle.script_text.proofs.TextsLaws.{number_spelled}
use Rattle.script_text.proofs.WordLaws.{are_digits}
use Rattle.tsd_model.specs.declared.requests.Level.{Level}
use Rattle.tsd_model.specs.declared.requests.Level.TheVariants as level
use Rattle.tsd_model.specs.declared.replies.Reply.{Reply}
use Rattle.tsd_model.specs.declared.replies.Reply.TheVariants as reply
use Rattle.tsd_model.specs.declared.replies.Rule.{Rule}
use Rattle.tsd_model.specs.declared.replies.Rule.TheVariants as rule

pub feeds-append : (x y : List ℕ) → line_feeds (x ++ y) ≡ line_feeds x + line_feeds y
feeds-append [] y = omega arith
feeds-append (b ∷ bs) y = let rest = feeds-append bs y in omega (arith, rest)

none_append : (x y : List ℕ) → line_feeds x ≡ 0 → line_feeds y ≡ 0 → line_feeds (x ++ y) ≡ 0
none_append x y a b = omega (arith, feeds-append x y, a, b)

-- ---- words without a line feed

no_feed : (c : ℕ) → is_ascii_digit c ≡ true → (c == 10) ≡ false
no_feed c h = grind (arith, nat_tests)

digits_none : (w : List ℕ) → list_all is_ascii_digit w ≡ true → line_feeds w ≡ 0
digits_none [] h = refl
digits_none (c ∷ cs) h =
    let parts = and_parts (is_ascii_digit c) (list_all is_ascii_digit cs) h in
    ap (λ t. cond t 1 0 + line_feeds cs) (no_feed c parts.0) ∙ ap (λ n. 0 + n) (digits_none cs parts.1)

number_none : (n : ℕ) → n < 2 ^ 32 → line_feeds (decimal n) ≡ 0
number_none n h = digits_none (decimal n) (are_digits (decimal n) (number_spelled n h).digits.1)

pub first_none : (t : Bool) (n : ℕ) → cond t 1 0 + n ≡ 0 → (t ≡ false) × (n ≡ 0)
first_none true n e = absurd (omega (arith, e))
first_none false n e = (refl, omega (arith, e))

pub index_none : (t : List ℕ) (d : ℕ) → line_feeds t ≡ 0 → (slice_index t d == 10) ≡ false
index_none [] d h = refl
index_none (c ∷ cs) zero h = (first_none (c == 10) (line_feeds cs) h).0
index_none (c ∷ cs) (suc d) h = index_none cs d (first_none (c == 10) (line_feeds cs) h).1

hex_none : (bytes : List ℕ) → line_feeds (encode_lower bytes) ≡ 0
unfolding encode_with
hex_none [] = refl
hex_none (b ∷ bs) =
    ap (λ t. cond t 1 0 + line_feeds (slice_index lower_digits (b % 16) ∷ encode_with lower_digits bs)) (index_none lower_digits (b / 16) refl)
    ∙ ap (λ t. 0 + (cond t 1 0 + line_feeds (encode_with lower_digits bs))) (index_none lower_digits (b % 16) refl)
    ∙ ap (λ n. 0 + (0 + n)) (hex_none bs)

data_none : (bytes : List ℕ) → line_feeds (data_text bytes) ≡ 0
data_none [] = refl
data_none (b ∷ bs) = hex_none (b ∷ bs)

-- ---- lines

abbrev NoneIn : List (List ℕ) → Type 0
NoneIn [] = Unit {0}
NoneIn (w ∷ ws) = (line_feeds w ≡ 0) × NoneIn ws

join_none : (ws : List (List ℕ)) → NoneIn ws → line_feeds (join_with_byte 32 ws) ≡ 0
join_none [] h = refl
join_none (w ∷ []) h = h.0
join_none (w ∷ v ∷ ws) h = none_append w (32 ∷ join_with_byte 32 (v ∷ ws)) h.0 (ap (λ n. 0 + n) (join_none (v ∷ ws) h.1))

numbers_none : (ns : List ℕ) → AreNumbers ns → NoneIn (map decimal ns)
numbers_none [] h = tt
numbers_none (n ∷ ns) h = (number_none n h.0, numbers_none ns h.1)

targets_none : (ns : List ℕ) → AreNumbers ns → NoneIn (target_words ns)
targets_none [] h = (refl, tt)
targets_none (n ∷ ns) h = numbers_none (n ∷ ns) h

level_none : (l : Level) → line_feeds (level_text l) ≡ 0
level_none level.Bare = refl
level_none level.Read = refl
level_none level.Write = refl

rule_none : (r : Rule) → RuleHasNumbers r → NoneIn (rule_words r)
rule_none rule.BadRequest h = (refl, tt)
rule_none rule.BadSession h = (refl, tt)
rule_none rule.NotOpen h = (refl, tt)
rule_none rule.AlreadyOpen h = (refl, tt)
rule_none rule.BadCount h = (refl, tt)
rule_none rule.BadSize h = (refl, tt)
rule_none rule.NoSuchBlock h = (refl, tt)
rule_none rule.FreeBlock h = (refl, tt)
rule_none rule.NotPrimary h = (refl, tt)
rule_none rule.IsPrimary h = (refl, tt)
rule_none (rule.Denied attained needed) h = (refl, (level_none attained, (level_none needed, tt)))
rule_none rule.PointerExists h = (refl, tt)
rule_none rule.NoPointer h = (refl, tt)
rule_none (rule.Full free wanted) h = (refl, (number_none free h.0, (number_none wanted h.1, tt)))
rule_none (rule.NoRun free wanted) h = (refl, (number_none free h.0, (number_none wanted h.1, tt)))
rule_none (rule.PointersFull held most) h = (refl, (number_none held h.0, (number_none most h.1, tt)))

words_none : (r : Reply) → HasNumbers r → NoneIn (reply_words r)
words_none reply.Done h = (refl, tt)
words_none (reply.Bytes bytes) h = (refl, (data_none (up_to_last bytes), tt))
words_none (reply.Blocks blocks) h = (refl, numbers_none blocks h)
words_none (reply.Free n) h = (refl, (number_none n h, tt))
words_none (reply.Gone n) h = (refl, (number_none n h, tt))
words_none (reply.Targets blocks) h = (refl, targets_none blocks h)
words_none reply.NoMemory h = (refl, (refl, tt))
words_none (reply.Refused r) h = (refl, rule_none r h)

pub reply_none : (r : Reply) → HasNumbers r → line_feeds (reply_text r) ≡ 0
reply_none r h = join_none (reply_words r) (words_none r h)

-- a proper front of a line has no more line feeds than the line before its own
pub front_few : (w front back : List ℕ) → w ++ 10 ∷ [] ≡ front ++ back → 0 < length back → line_feeds front ≤ line_feeds w
front_few w [] back e some = omega arith
front_few [] (b ∷ fs) back e some = absurd (too_long fs back (cc) some)
  where
    too_long : (xs ys : List ℕ) → [] ≡ xs ++ ys → 0 < length ys → ⊥
    too_long [] [] e h = omega (arith, h)
    too_long [] (y ∷ ys) e h = cc
    too_long (x ∷ xs) ys e h = cc
front_few (c ∷ cs) (b ∷ fs) back e some =
    let same : b ≡ c = cc in
    let rest : cs ++ 10 ∷ [] ≡ fs ++ back = cc in
    let few = front_few cs fs back rest some in
    let first : ◌≡◌ {A = ℕ} (cond (b == 10) 1 0) (cond (c == 10) 1 0) = ap (λ x. cond (x == 10) 1 0) same in
    omega (arith, few, first)

-- ---- a reply and its line feed

pub reply_whole : (r : Reply) (f : List ℕ) → HasNumbers r → line_feeds ((reply_text r ++ 10 ∷ []) ++ f) ≡ 1 + line_feeds f
reply_whole r f fits =
    let one : line_feeds (reply_text r ++ 10 ∷ []) ≡ 1 = feeds-append (reply_text r) (10 ∷ []) ∙ ap (λ n. n + 1) (reply_none r fits) in
    omega (arith, feeds-append (reply_text r ++ 10 ∷ []) f, one)

pub reply_part : (r : Reply) (front back : List ℕ) → HasNumbers r → reply_text r ++ 10 ∷ [] ≡ front ++ back → 0 < length back → line_feeds front ≡ 0
reply_part r front back fits e some = omega (arith, front_few (reply_text r) front back e some, reply_none r fits)
