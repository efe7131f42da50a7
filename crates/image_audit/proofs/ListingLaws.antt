-- The line of a block in a certificate, read and spelled; and which block may follow.
use Rattle.std.proofs.Common.{◌≡◌, ℕ, zero, suc, ◌+◌, ◌<◌, ◌≤◌, true, false, not, cond, ◌==◌, nat_lt, List, [], ◌∷◌, length, take, refl, sym, ◌∙◌, ap, subst, arith, Option, Some, None}
use Rattle.image_audit.proofs.Common.{codes, bytes_eq, option_map, unwrap_or, Result, Ok, Err, OnOk, OnErr, list_all, join_with_byte, and_from, ltb-true, ltb-false, length-append, length-take, nat_tests, pieces, join-pieces, pieces-join, lacks, Entry, Listing, parent_word, listing_fields, IsListing, IsAdded, ListsNone, IsListingTaken, IsNotTaken, MayFollow, IsNextBlock, keyword, block_in, parent_of, if_last, listing_in, listing_of}
use Rattle.std.specs.Char.{is_ascii_digit}
use Rattle.std.proofs.lemmas.Slice.Eq.{bytes_eq-Decides}
use Rattle.tsd_model.specs.declared.requests.Hint.{Hint}
use Rattle.tsd_model.specs.declared.requests.Hint.TheVariants.{Null, At}
use Rattle.script_text.specs.Grammar.{line_max, held_max, Field, Verb, Number, Near, IsNumber, IsHint, IsField, AreFields}
use Rattle.script_text.specs.Reading.{reads, num_of, hint_of, Words, ◌>>=◌}
use Rattle.script_text.proofs.PiecesLaws.{take_all}
use Rattle.script_text.proofs.SpellingLaws.{bind_some, weaker}
use Rattle.script_text.proofs.WordLaws.{are_digits, num_is, num_back, hint_is, hint_back}

-- ---- what one word says

name_is : (name w : List ℕ) (t : Unit {0}) → keyword name w ≡ Some t → w ≡ name
name_is name w t h = elim (bytes_eq w name) as (λ u. bytes_eq w name ≡ u → cond u (Some tt) None ≡ Some t → w ≡ name) [
  | true ↦ λ e _. (bytes_eq-Decides w name).0 e
  | false ↦ λ _ k. absurd (cc)
] refl h

name_back : (name w : List ℕ) → w ≡ name → keyword name w ≡ Some tt
name_back name w h = ap (λ t. cond t (Some tt) None) ((bytes_eq-Decides w name).1 h)

word_of : (h : Hint) → parent_word (block_in h) ≡ h
word_of Null = refl
word_of (At b) = refl

in_word : (p : Option ℕ) → block_in (parent_word p) ≡ p
in_word None = refl
in_word (Some a) = refl

parent_is : (w : List ℕ) (p : Option ℕ) → parent_of w ≡ Some p → IsHint w (parent_word p)
parent_is w p h = elim (hint_of w) as (λ o. hint_of w ≡ o → (o >>= λ x. Some (block_in x)) ≡ Some p → IsHint w (parent_word p)) [
  | None ↦ λ _ k. absurd (cc)
  | Some x ↦ λ e k.
      let same : block_in x ≡ p = ap (λ o. unwrap_or o (block_in x)) k in
      subst (λ q. IsHint w (parent_word q)) same (subst (IsHint w) (sym (word_of x)) (hint_is w x e))
] refl h

parent_back : (w : List ℕ) (p : Option ℕ) → IsHint w (parent_word p) → parent_of w ≡ Some p
parent_back w p h = bind_some (hint_of w) (λ x. Some (block_in x)) (parent_word p) (Some p) (hint_back w (parent_word p) h) (ap (λ q. Some q) (in_word p))

-- ---- word by word

bound : {A B : Type 0} (o : Option A) (k : A → Option B) (y : B) → (o >>= k) ≡ Some y → (x : A) × (o ≡ Some x) × (k x ≡ Some y)
bound None k y h = absurd (cc)
bound (Some x) k y h = (x, refl, h)

word_is : {A : Type 0} (f : List ℕ → Option A) (field : A → Field) (fs : List Field) (ws : Words) (r : A × Words) → ((w : List ℕ) (x : A) → f w ≡ Some x → IsField (field x) w)
    → reads f ws ≡ Some r → AreFields fs r.1 → AreFields (field r.0 ∷ fs) ws
word_is f field fs [] r each h rest = absurd (cc)
word_is f field fs (w ∷ ws) r each h rest = elim (f w) as (λ o. f w ≡ o → option_map (λ x. (x, ws)) o ≡ Some r → AreFields (field r.0 ∷ fs) (w ∷ ws)) [
  | None ↦ λ _ k. absurd (cc)
  | Some x ↦ λ e k.
      let same : (x, ws) ≡ r = ap (λ o. unwrap_or o (x, ws)) k in
      (subst (λ y. IsField (field y) w) (ap (λ p. p.0) same) (each w x e), subst (AreFields fs) (sym (ap (λ p. p.1) same)) rest)
] refl h

word_back : {A : Type 0} (f : List ℕ → Option A) (x : A) (field : Field) (fs : List Field) (ws : Words) → ((w : List ℕ) → IsField field w → f w ≡ Some x) → AreFields (field ∷ fs) ws
    → (rest : Words) × (reads f ws ≡ Some (x, rest)) × AreFields fs rest
word_back f x field fs [] back h = absurd h
word_back f x field fs (w ∷ ws) back h = (ws, ap (option_map (λ v. (v, ws))) (back w h.0), h.1)

last_is : (ws : Words) (x l : Listing) → if_last ws x ≡ Some l → (x ≡ l) × AreFields [] ws
last_is [] x l h = (ap (λ o. unwrap_or o x) h, tt)
last_is (w ∷ ws) x l h = absurd (cc)

last_back : (ws : Words) (x : Listing) → AreFields [] ws → if_last ws x ≡ Some x
last_back [] x h = refl
last_back (w ∷ ws) x h = absurd h

-- what is read is spelled so
listing_is : (ws : Words) (l : Listing) → listing_in ws ≡ Some l → AreFields (listing_fields l) ws
unfolding listing_in
listing_is ws l h =
    let n = bound (reads (keyword (codes "block")) ws) _ l h in
    let b = bound (reads num_of n.0.1) _ l n.2 in
    let m = bound (reads (keyword (codes "depth")) b.0.1) _ l b.2 in
    let d = bound (reads num_of m.0.1) _ l m.2 in
    let o = bound (reads (keyword (codes "parent")) d.0.1) _ l d.2 in
    let p = bound (reads parent_of o.0.1) _ l o.2 in
    let read : Listing = record { block = b.0.0; entry = record { depth = d.0.0; parent = p.0.0 } } in
    let last = last_is p.0.1 read l p.2 in
    subst (λ x. AreFields (listing_fields x) ws) last.0
    (word_is (keyword (codes "block")) (λ _. Verb (codes "block")) (Number b.0.0 ∷ Verb (codes "depth") ∷ Number d.0.0 ∷ Verb (codes "parent") ∷ Near (parent_word p.0.0) ∷ []) ws n.0 (name_is (codes "block")) n.1
    (word_is num_of (λ x. Number x) (Verb (codes "depth") ∷ Number d.0.0 ∷ Verb (codes "parent") ∷ Near (parent_word p.0.0) ∷ []) n.0.1 b.0 num_is b.1
    (word_is (keyword (codes "depth")) (λ _. Verb (codes "depth")) (Number d.0.0 ∷ Verb (codes "parent") ∷ Near (parent_word p.0.0) ∷ []) b.0.1 m.0 (name_is (codes "depth")) m.1
    (word_is num_of (λ x. Number x) (Verb (codes "parent") ∷ Near (parent_word p.0.0) ∷ []) m.0.1 d.0 num_is d.1
    (word_is (keyword (codes "parent")) (λ _. Verb (codes "parent")) (Near (parent_word p.0.0) ∷ []) d.0.1 o.0 (name_is (codes "parent")) o.1
    (word_is parent_of (λ x. Near (parent_word x)) [] o.0.1 p.0 parent_is p.1 last.1))))))

-- what is spelled so is read
listing_back : (ws : Words) (l : Listing) → AreFields (listing_fields l) ws → listing_in ws ≡ Some l
unfolding listing_in
listing_back ws l h =
    let n = word_back (keyword (codes "block")) tt (Verb (codes "block")) (Number l.block ∷ Verb (codes "depth") ∷ Number l.entry.depth ∷ Verb (codes "parent") ∷ Near (parent_word l.entry.parent) ∷ []) ws (name_back (codes "block")) h in
    let b = word_back num_of l.block (Number l.block) (Verb (codes "depth") ∷ Number l.entry.depth ∷ Verb (codes "parent") ∷ Near (parent_word l.entry.parent) ∷ []) n.0 (λ w g. num_back w l.block g) n.2 in
    let m = word_back (keyword (codes "depth")) tt (Verb (codes "depth")) (Number l.entry.depth ∷ Verb (codes "parent") ∷ Near (parent_word l.entry.parent) ∷ []) b.0 (name_back (codes "depth")) b.2 in
    let d = word_back num_of l.entry.depth (Number l.entry.depth) (Verb (codes "parent") ∷ Near (parent_word l.entry.parent) ∷ []) m.0 (λ w g. num_back w l.entry.depth g) m.2 in
    let o = word_back (keyword (codes "parent")) tt (Verb (codes "parent")) (Near (parent_word l.entry.parent) ∷ []) d.0 (name_back (codes "parent")) d.2 in
    let p = word_back parent_of l.entry.parent (Near (parent_word l.entry.parent)) [] o.0 (λ w g. parent_back w l.entry.parent g) o.2 in
    bind_some _ _ _ _ n.1 (bind_some _ _ _ _ b.1 (bind_some _ _ _ _ m.1 (bind_some _ _ _ _ d.1 (bind_some _ _ _ _ o.1 (bind_some _ _ _ _ p.1 (last_back p.0 l p.2))))))

-- ---- a line

digit_no_space : (x : ℕ) → is_ascii_digit x ≡ true → not (x == 32) ≡ true
digit_no_space x h = grind (arith, nat_tests)

num_lacks : (w : List ℕ) (n : ℕ) → IsNumber w n → lacks 32 w ≡ true
num_lacks w n h = weaker is_ascii_digit (λ b. not (b == 32)) digit_no_space w (are_digits w h.digits.1)

same_lacks : (w name : List ℕ) → w ≡ name → lacks 32 name ≡ true → lacks 32 w ≡ true
same_lacks w name h n = subst (λ v. lacks 32 v ≡ true) (sym h) n

parent_lacks : (w : List ℕ) (p : Option ℕ) → IsHint w (parent_word p) → lacks 32 w ≡ true
parent_lacks w None h = same_lacks w (codes "-") h refl
parent_lacks w (Some a) h = num_lacks w a h

all_lack : (l : Listing) (ws : Words) → AreFields (listing_fields l) ws → (1 ≤ length ws) × (list_all (lacks 32) ws ≡ true)
all_lack l [] h = absurd h
all_lack l (a ∷ []) h = absurd h.1
all_lack l (a ∷ b ∷ []) h = absurd h.1.1
all_lack l (a ∷ b ∷ c ∷ []) h = absurd h.1.1.1
all_lack l (a ∷ b ∷ c ∷ d ∷ []) h = absurd h.1.1.1.1
all_lack l (a ∷ b ∷ c ∷ d ∷ e ∷ []) h = absurd h.1.1.1.1.1
all_lack l (a ∷ b ∷ c ∷ d ∷ e ∷ f ∷ []) h = (
  omega arith,
  and_from (lacks 32 a) _ (same_lacks a (codes "block") h.0 refl)
      (and_from (lacks 32 b) _ (num_lacks b l.block h.1.0)
      (and_from (lacks 32 c) _ (same_lacks c (codes "depth") h.1.1.0 refl)
      (and_from (lacks 32 d) _ (num_lacks d l.entry.depth h.1.1.1.0)
      (and_from (lacks 32 e) _ (same_lacks e (codes "parent") h.1.1.1.1.0 refl)
      (and_from (lacks 32 f) true (parent_lacks f l.entry.parent h.1.1.1.1.1.0) refl))))),
)
all_lack l (a ∷ b ∷ c ∷ d ∷ e ∷ f ∷ g ∷ ws) h = absurd h.1.1.1.1.1.1

pub line_is : (line : List ℕ) (l : Listing) → listing_in (pieces 32 line) ≡ Some l → IsListing line l
line_is line l h = record { words = pieces 32 line; spelled = listing_is (pieces 32 line) l h; parted = sym (join-pieces 32 line) }

pub line_back : (line : List ℕ) (l : Listing) → IsListing line l → listing_in (pieces 32 line) ≡ Some l
line_back line l h =
    let lack = all_lack l h.words h.spelled in
    let cut : pieces 32 line ≡ h.words = ap (pieces 32) h.parted ∙ pieces-join 32 h.words lack.0 lack.1 in
    ap listing_in cut ∙ listing_back h.words l h.spelled

-- ---- a line that is cut

-- a line that says something has few bytes
name_long : (w name : List ℕ) → w ≡ name → length w ≡ length name
name_long w name h = ap length h

hint_long : (w : List ℕ) (p : Option ℕ) → IsHint w (parent_word p) → length w ≤ 10
hint_long w None h = let one = name_long w (codes "-") h in omega (arith, one)
hint_long w (Some a) h = h.few

join_long : (x y : List ℕ) (ws : List (List ℕ)) → length (join_with_byte 32 (x ∷ y ∷ ws)) ≡ length x + suc (length (join_with_byte 32 (y ∷ ws)))
join_long x y ws = length-append x (32 ∷ join_with_byte 32 (y ∷ ws))

words_long : (l : Listing) (ws : Words) → AreFields (listing_fields l) ws → length (join_with_byte 32 ws) ≤ 51
words_long l [] h = absurd h
words_long l (a ∷ []) h = absurd h.1
words_long l (a ∷ b ∷ []) h = absurd h.1.1
words_long l (a ∷ b ∷ c ∷ []) h = absurd h.1.1.1
words_long l (a ∷ b ∷ c ∷ d ∷ []) h = absurd h.1.1.1.1
words_long l (a ∷ b ∷ c ∷ d ∷ e ∷ []) h = absurd h.1.1.1.1.1
words_long l (a ∷ b ∷ c ∷ d ∷ e ∷ f ∷ []) h =
    let j1 = join_long a b (c ∷ d ∷ e ∷ f ∷ []) in
    let j2 = join_long b c (d ∷ e ∷ f ∷ []) in
    let j3 = join_long c d (e ∷ f ∷ []) in
    let j4 = join_long d e (f ∷ []) in
    let j5 = join_long e f [] in
    let la = name_long a (codes "block") h.0 in
    let lb : length b ≤ 10 = h.1.0.few in
    let lc = name_long c (codes "depth") h.1.1.0 in
    let ld : length d ≤ 10 = h.1.1.1.0.few in
    let le = name_long e (codes "parent") h.1.1.1.1.0 in
    let lf = hint_long f l.entry.parent h.1.1.1.1.1.0 in
    omega (arith, j1, j2, j3, j4, j5, la, lb, lc, ld, le, lf)
words_long l (a ∷ b ∷ c ∷ d ∷ e ∷ f ∷ g ∷ ws) h = absurd h.1.1.1.1.1.1

pub line_long : (line : List ℕ) (l : Listing) → IsListing line l → length line ≤ 51
line_long line l h = subst (λ (x : List ℕ). length x ≤ 51) (sym h.parted) (words_long l h.words h.spelled)

says_none : (line : List ℕ) → line_max < length line → listing_of line ≡ None
says_none line long = elim (listing_of line) as (λ o. listing_of line ≡ o → o ≡ None) [
  | None ↦ λ _. refl
  | Some l ↦ λ e. let few = line_long line l (line_is line l e) in absurd (omega (arith, long, few))
] refl

-- a line that is cut after `held_max` bytes says as little as the whole
pub listing_of-cut : (line : List ℕ) → listing_of (take held_max line) ≡ listing_of line
listing_of-cut line = elim (nat_lt line_max (length line)) as (λ t. nat_lt line_max (length line) ≡ t → listing_of (take held_max line) ≡ listing_of line) [
  | true ↦ λ e.
      let long = ltb-true line_max (length line) e in
      let cut = length-take held_max line in
      says_none (take held_max line) (omega (arith, long, cut)) ∙ sym (says_none line long)
  | false ↦ λ e. let short = ltb-false line_max (length line) e in ap listing_of (take_all line held_max (omega (arith, short)))
] refl

-- ---- which block may follow

-- a block below the next one may not
pub too_low : (entries : List (Option Entry)) (next b : ℕ) → IsNextBlock entries next → b < next → MayFollow entries b → ⊥
too_low entries next b is below f = low next refl
  where
    low : (k : ℕ) → next ≡ k → ⊥
    low zero e = omega (arith, e, below)
    low (suc p) e = let under = f.above p (is.last p e) in omega (arith, e, under, below)

-- what a line says is taken, or it isn't
pub added_line : {T E : Type 0} (r : Result T E) (line : List ℕ) (said : Option Listing) (old new : List (Option Entry)) → said ≡ listing_of line → OnOk r (IsListingTaken said old new) → OnOk r (IsAdded line old new)
added_line (Ok x) line said old new is taken = record { listing = taken.listing; spelled = line_is line taken.listing (sym is ∙ taken.says); follows = taken.follows; entries = taken.entries }
added_line (Err e) line said old new is taken = taken

pub refused_line : {T E : Type 0} (r : Result T E) (line : List ℕ) (said : Option Listing) (old : List (Option Entry)) → said ≡ listing_of line → OnErr r (IsNotTaken said old) → OnErr r (ListsNone line old)
refused_line (Ok x) line said old is not = not
refused_line (Err e) line said old is not = λ l h follows. not l (is ∙ line_back line l h) follows
