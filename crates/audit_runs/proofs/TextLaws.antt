-- The certificate of a world as lines: they are taken, and spell what they were made of.
use Rattle.std.proofs.Common.{◌≡◌, ◌≢◌, ℕ, suc, ◌+◌, ◌^◌, ◌<◌, true, not, ◌==◌, List, [], ◌∷◌, ◌++◌, refl, sym, ◌∙◌, ap, subst, arith, append_assoc, Option, Some, None}
use Rattle.std.specs.Prelude.{IfSome, decimal, codes}
use Rattle.std.specs.Char.{is_ascii_digit}
use Rattle.std.specs.List.{join_with_byte}
use Rattle.std.proofs.lemmas.Bool.{and_from, and_parts}
use Rattle.std.proofs.lemmas.Bool.Decides.{nat_tests}
use Rattle.script_text.specs.Grammar.{IsHint}
use Rattle.script_text.proofs.SpellingLaws.{weaker}
use Rattle.script_text.proofs.TextsLaws.{number_spelled}
use Rattle.script_text.proofs.WordLaws.{are_digits}
use Rattle.script_text.specs.Pieces.{all_lines, front, if_some, last_of, pieces}
use Rattle.script_text.proofs.PiecesLaws.{lacks, pieces-append, some_pieces}
use Rattle.image_audit.specs.declared.listing.Listing.{Listing}
use Rattle.image_audit.specs.declared.entry.Entry.{Entry}
use Rattle.image_audit.specs.Entries.{entry_at}
use Rattle.image_audit.specs.Laws.{listings_from}
use Rattle.image_audit.specs.Listing.{IsListing, parent_word}
use Rattle.image_audit.specs.Texts.{listing_words, parent_text}
use Rattle.audit_runs.specs.Audit.{listings_text}
use Rattle.audit_runs.specs.Certificate.{AreSpelled}

-- ---- a text of lines is cut into them

front_cons : (x : List ℕ) (ps : List (List ℕ)) → ps ≢ [] → front (x ∷ ps) ≡ x ∷ front ps
front_cons x [] n = absurd (n refl)
front_cons x (p ∷ ps) n = refl

last_cons : (x : List ℕ) (ps : List (List ℕ)) → ps ≢ [] → last_of (x ∷ ps) ≡ last_of ps
last_cons x [] n = absurd (n refl)
last_cons x (p ∷ ps) n = refl

-- a line that has no line feed in it, and the lines behind it
one_line : (x rest : List ℕ) → lacks 10 x ≡ true → all_lines (x ++ (10 ∷ rest)) ≡ x ∷ all_lines rest
one_line x rest none =
    let cut = pieces-append 10 x rest none in
    let some = some_pieces 10 rest in
    (λ i. front (cut i) ++ if_some (last_of (cut i))) ∙ (λ i. front_cons x (pieces 10 rest) some i ++ if_some (last_cons x (pieces 10 rest) some i))

-- what each line is, without its line feed
abbrev pub line_text : Listing → List ℕ
line_text l = join_with_byte 32 (listing_words l)

-- ---- lines whose numbers are small

pub record IsSmall (l : Listing) : Type 0 where
  pub block : l.block < 2 ^ 32
  pub depth : l.entry.depth < 2 ^ 32
  pub parent : IfSome l.entry.parent (λ a. a < 2 ^ 32)

abbrev pub EachSmall : List Listing → Type 0
EachSmall [] = Unit {0}
EachSmall (l ∷ ls) = IsSmall l × EachSmall ls

parent_spelled : (p : Option ℕ) → IfSome p (λ a. a < 2 ^ 32) → IsHint (parent_text p) (parent_word p)
parent_spelled None h = refl
parent_spelled (Some a) h = number_spelled a h

line_spelled : (l : Listing) → IsSmall l → IsListing (line_text l) l
line_spelled l h = record {
  words = listing_words l;
  spelled = (refl, (number_spelled l.block h.block, (refl, (number_spelled l.entry.depth h.depth, (refl, (parent_spelled l.entry.parent h.parent, tt))))));
  parted = refl;
}

digit_no_feed : (x : ℕ) → is_ascii_digit x ≡ true → not (x == 10) ≡ true
digit_no_feed x h = grind (arith, nat_tests)

number_lacks : (n : ℕ) → n < 2 ^ 32 → lacks 10 (decimal n) ≡ true
number_lacks n h = weaker is_ascii_digit (λ b. not (b == 10)) digit_no_feed (decimal n) (are_digits (decimal n) (number_spelled n h).digits.1)

parent_lacks : (p : Option ℕ) → IfSome p (λ a. a < 2 ^ 32) → lacks 10 (parent_text p) ≡ true
parent_lacks None h = refl
parent_lacks (Some a) h = number_lacks a h

both_lack : (xs ys : List ℕ) → lacks 10 xs ≡ true → lacks 10 ys ≡ true → lacks 10 (xs ++ ys) ≡ true
both_lack [] ys h k = k
both_lack (x ∷ xs) ys h k = let parts = and_parts (not (x == 10)) (lacks 10 xs) h in and_from (not (x == 10)) (lacks 10 (xs ++ ys)) parts.0 (both_lack xs ys parts.1 k)

joined_lack : (x y : List ℕ) (ws : List (List ℕ)) → lacks 10 x ≡ true → lacks 10 (join_with_byte 32 (y ∷ ws)) ≡ true → lacks 10 (join_with_byte 32 (x ∷ y ∷ ws)) ≡ true
joined_lack x y ws h k = both_lack x (32 ∷ join_with_byte 32 (y ∷ ws)) h (and_from (not (32 == 10)) (lacks 10 (join_with_byte 32 (y ∷ ws))) refl k)

line_lacks : (l : Listing) → IsSmall l → lacks 10 (line_text l) ≡ true
line_lacks l h =
    joined_lack (codes "block") (decimal l.block) (codes "depth" ∷ decimal l.entry.depth ∷ codes "parent" ∷ parent_text l.entry.parent ∷ []) refl
    (joined_lack (decimal l.block) (codes "depth") (decimal l.entry.depth ∷ codes "parent" ∷ parent_text l.entry.parent ∷ []) (number_lacks l.block h.block)
    (joined_lack (codes "depth") (decimal l.entry.depth) (codes "parent" ∷ parent_text l.entry.parent ∷ []) refl
    (joined_lack (decimal l.entry.depth) (codes "parent") (parent_text l.entry.parent ∷ []) (number_lacks l.entry.depth h.depth)
    (joined_lack (codes "parent") (parent_text l.entry.parent) [] refl (parent_lacks l.entry.parent h.parent)))))

-- so they are cut into lines that spell what they were made of
pub small_spelled : (ls : List Listing) → EachSmall ls → AreSpelled (all_lines (listings_text ls)) ls
small_spelled [] h = tt
small_spelled (l ∷ ls) h =
    let cut : all_lines (listings_text (l ∷ ls)) ≡ line_text l ∷ all_lines (listings_text ls) = ap all_lines (append_assoc (line_text l) (10 ∷ []) (listings_text ls)) ∙ one_line (line_text l) (listings_text ls) (line_lacks l h.0) in
    subst (λ xs. AreSpelled xs (l ∷ ls)) (sym cut) (line_spelled l h.0, small_spelled ls h.1)

moved : (b k : ℕ) (o : Option Entry) → IfSome o (λ e. IsSmall (record { block = b + suc k; entry = e })) → IfSome o (λ e. IsSmall (record { block = suc b + k; entry = e }))
moved b k None h = tt
moved b k (Some e) h = let at : b + suc k ≡ suc b + k = omega arith in subst (λ (n : ℕ). IsSmall (record { block = n; entry = e })) at h

-- the lines of entries with small numbers
pub small_from : (es : List (Option Entry)) (b : ℕ) → ((k : ℕ) → IfSome (entry_at es k) (λ e. IsSmall (record { block = b + k; entry = e }))) → EachSmall (listings_from b es)
small_from [] b h = tt
small_from (None ∷ es) b h = small_from es (suc b) (λ k. moved b k (entry_at es k) (h (suc k)))
small_from (Some e ∷ es) b h =
    let at : b + 0 ≡ b = omega arith in
    (subst (λ (n : ℕ). IsSmall (record { block = n; entry = e })) at (h 0), small_from es (suc b) (λ k. moved b k (entry_at es k) (h (suc k))))
