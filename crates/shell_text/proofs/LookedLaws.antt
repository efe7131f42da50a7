-- An answer to an ask that only looks is told in one line.
use Rattle.std.proofs.Common.{◌≡◌, ℕ, ◌+◌, ◌/◌, ◌%◌, ◌^◌, ◌<◌, ◌==◌, true, false, cond, List, [], ◌∷◌, ◌++◌, decimal, slice_index, refl, ◌∙◌, ap, arith}
use Rattle.std.specs.List.{list_all, join_with_byte}
use Rattle.std.proofs.lemmas.Bool.{and_parts}
use Rattle.std.proofs.lemmas.Bool.Decides.{nat_tests}
use Rattle.std.proofs.lemmas.Fmt.{decimal_is_IsNumeral}
use Rattle.hex.specs.Hex.{encode_with, encode_lower, lower_digits}
use Rattle.script_text.specs.Pieces.{line_feeds}
use Rattle.script_text.specs.Texts.{data_text}
use Rattle.script_text.proofs.FeedLaws.{feeds-append}
use Rattle.script_text.proofs.WordLaws.{are_digits}
use Rattle.fs_trees.specs.Names.{Name, is_name, is_name_byte}
use Rattle.fs_trees.specs.declared.refusal.FsRefusal.{FsRefusal}
use Rattle.fs_trees.specs.declared.refusal.FsRefusal.TheVariants as no
use Rattle.fs_trees.specs.Answer.{bytes, listed, bad, refused}
use Rattle.shell_text.specs.Texts.{refusal_words, answer_text}
use Rattle.shell_text.specs.Looked.{Looked, file_of, dir_here, part_of, next_file, next_dir, none_left, not_looked, not_heard, looked_words, looked_text, RefusalFits, LookedFits}
use Rattle.shell_text.proofs.PathLaws.{bytes_are}
use Rattle.shell_text.proofs.RefusalLaws.{digits_none, number_none}
use Rattle.script_text.proofs.FeedLaws.{index_none}

-- ---- words without a line feed

size_none : (n : ℕ) → n < 2 ^ 64 → line_feeds (decimal n) ≡ 0
size_none n h = digits_none (decimal n) (are_digits (decimal n) (decimal_is_IsNumeral n h).0.1)

byte_no_feed : (x : ℕ) → is_name_byte x ≡ true → (x == 10) ≡ false
byte_no_feed x h = grind (arith, nat_tests)

name_bytes_none : (w : List ℕ) → list_all is_name_byte w ≡ true → line_feeds w ≡ 0
name_bytes_none [] h = refl
name_bytes_none (c ∷ cs) h =
    let parts = and_parts (is_name_byte c) (list_all is_name_byte cs) h in
    ap (λ t. cond t 1 0 + line_feeds cs) (byte_no_feed c parts.0) ∙ ap (λ n. 0 + n) (name_bytes_none cs parts.1)

name_none : (n : Name) → is_name n ≡ true → line_feeds n ≡ 0
name_none n h = name_bytes_none n (bytes_are n h).1

hex_none : (bytes : List ℕ) → line_feeds (encode_lower bytes) ≡ 0
unfolding encode_with
hex_none [] = refl
hex_none (b ∷ bs) =
    ap (λ t. cond t 1 0 + line_feeds (slice_index lower_digits (b % 16) ∷ encode_with lower_digits bs)) (index_none lower_digits (b / 16) refl)
    ∙ ap (λ t. 0 + (cond t 1 0 + line_feeds (encode_with lower_digits bs))) (index_none lower_digits (b % 16) refl)
    ∙ ap (λ n. 0 + (0 + n)) (hex_none bs)

data_none : (bytes : List ℕ) → line_feeds (data_text bytes) ≡ 0
data_none [] = refl
data_none (b ∷ bs) = hex_none (b ∷ bs)

-- ---- lines

abbrev NoneIn : List (List ℕ) → Type 0
NoneIn [] = Unit {0}
NoneIn (w ∷ ws) = (line_feeds w ≡ 0) × NoneIn ws

none_append : (x y : List ℕ) → line_feeds x ≡ 0 → line_feeds y ≡ 0 → line_feeds (x ++ y) ≡ 0
none_append x y a b = omega (arith, feeds-append x y, a, b)

join_none : (ws : List (List ℕ)) → NoneIn ws → line_feeds (join_with_byte 32 ws) ≡ 0
join_none [] h = refl
join_none (w ∷ []) h = h.0
join_none (w ∷ v ∷ ws) h = none_append w (32 ∷ join_with_byte 32 (v ∷ ws)) h.0 (ap (λ n. 0 + n) (join_none (v ∷ ws) h.1))

refusal_none : (e : FsRefusal) → RefusalFits e → NoneIn (refusal_words e)
refusal_none no.NotThisFs h = (refl, tt)
refusal_none no.NoEntry h = (refl, tt)
refusal_none no.Exists h = (refl, tt)
refusal_none no.NotDir h = (refl, tt)
refusal_none no.IsDir h = (refl, tt)
refusal_none no.NotEmpty h = (refl, tt)
refusal_none no.DirFull h = (refl, tt)
refusal_none no.TooBig h = (refl, tt)
refusal_none (no.Full free wanted) h = (refl, (number_none free h.0, (number_none wanted h.1, tt)))
refusal_none (no.PointersFull held most) h = (refl, (number_none held h.0, (number_none most h.1, tt)))
refusal_none no.Device h = tt

words_none : (x : Looked) → LookedFits x → NoneIn (looked_words x)
words_none (file_of size) h = (refl, (size_none size h, tt))
words_none dir_here h = (refl, tt)
words_none (part_of x) h = (refl, (data_none x, tt))
words_none (next_file n size) h = (refl, (name_none n h.0, (refl, (size_none size h.1, tt))))
words_none (next_dir n) h = (refl, (name_none n h, (refl, tt)))
words_none none_left h = (refl, (refl, tt))
words_none (not_looked e) h = (refl, refusal_none e h)
words_none not_heard h = (refl, (refl, tt))

-- no answer has a line feed in its text
pub looked_none : (x : Looked) → LookedFits x → line_feeds (looked_text x) ≡ 0
looked_none x h = join_none (looked_words x) (words_none x h)

-- ---- the answers that asks of the shell have too

pub part_is_bytes : (x : List ℕ) → looked_text (part_of x) ≡ answer_text (bytes x)
part_is_bytes x = refl

pub none_is_listed : looked_text none_left ≡ answer_text (listed [])
none_is_listed = refl

pub refusal_is_refused : (e : FsRefusal) → looked_text (not_looked e) ≡ answer_text (refused e)
refusal_is_refused e = refl

pub not_heard_is_bad : looked_text not_heard ≡ answer_text bad
not_heard_is_bad = refl
