-- A line that is cut to a length, and how one feed goes on with it.
use Rattle.std.proofs.Common.{◌≡◌, ◌≢◌, ℕ, zero, suc, ◌+◌, ◌≤◌, Bool, true, false, not, cond, ◌==◌, nat_lt, List, [], ◌∷◌, ◌++◌, length, take, refl, sym, ◌∙◌, ap, subst, arith, append_assoc, append-nil, map, min, Option, Some, None}
use Rattle.std.proofs.lemmas.Bool.{lt-ltb}
use Rattle.std.proofs.lemmas.Bool.Decides.{nat_tests}
use Rattle.std.proofs.lemmas.List.{map-append, take_min}
use Rattle.std.proofs.Math.Seq.{take-length, take-append-add}
use Rattle.std.specs.List.{position}
use Rattle.std.specs.Prelude.{MatchBool}
use Rattle.script_text.specs.Pieces.{pieces, onto_first, front, last_of, lines, unended}
use Rattle.script_text.specs.Grammar.{held_max}
use Rattle.script_text.specs.Lines.{Cutting, rest, WasFed, Cuts, FollowOn, text_fed, lines_held}
use Rattle.script_text.proofs.PiecesLaws.{cut_upto, cut_none, some_pieces}

same_test : (m k : ℕ) → nat_lt m k ≡ nat_lt (suc m) (suc k)
same_test m k = grind (arith, nat_tests)

-- one more byte, where there is room
pub take_snoc : (n : ℕ) (xs : List ℕ) (b : ℕ) → take n (xs ++ b ∷ []) ≡ cond (nat_lt (length (take n xs)) n) (take n xs ++ b ∷ []) (take n xs)
take_snoc zero [] b = refl
take_snoc zero (x ∷ xs) b = refl
take_snoc (suc n) [] b = let some : nat_lt 0 (suc n) ≡ true = lt-ltb 0 (suc n) (omega arith) in ap (λ ys. b ∷ ys) (take_none n) ∙ ap (λ t. cond t (b ∷ []) []) (sym some)
  where
    take_none : (k : ℕ) → take {A = ℕ} k [] ≡ []
    take_none zero = refl
    take_none (suc k) = refl
take_snoc (suc n) (x ∷ xs) b =
    ap (λ ys. x ∷ ys) (take_snoc n xs b) ∙ pull (nat_lt (length (take n xs)) n) (take n xs ++ b ∷ []) (take n xs) ∙ ap (λ t. cond t (x ∷ (take n xs ++ b ∷ [])) (x ∷ take n xs)) (same_test (length (take n xs)) n)
  where
    pull : (t : Bool) (ys zs : List ℕ) → x ∷ cond t ys zs ≡ cond t (x ∷ ys) (x ∷ zs)
    pull true ys zs = refl
    pull false ys zs = refl

-- what was cut before goes on as if it hadn't been
pub take_cut : (n : ℕ) (xs ys : List ℕ) → take n (take n xs ++ ys) ≡ take n (xs ++ ys)
take_cut zero [] ys = refl
take_cut zero (x ∷ xs) ys = zero_none (ys) ∙ refl
  where
    zero_none : (zs : List ℕ) → take 0 zs ≡ []
    zero_none [] = refl
    zero_none (z ∷ zs) = refl
take_cut (suc n) [] ys = refl
take_cut (suc n) (x ∷ xs) ys = ap (λ zs. x ∷ zs) (take_cut n xs ys)

pub snoc_step : (n : ℕ) (line xs : List ℕ) (b : ℕ) (full : Bool) → line ≡ take n xs → length line ≤ n → full ≡ (length line == n) → cond (not full) (line ++ b ∷ []) line ≡ take n (xs ++ b ∷ [])
snoc_step n line xs b full e h f =
    let same : not full ≡ nat_lt (length line) n = grind (arith, nat_tests) in
    ap (λ t. cond t (line ++ b ∷ []) line) same ∙ ap (λ l. cond (nat_lt (length l) n) (l ++ b ∷ []) l) e ∙ sym (take_snoc n xs b)

pub length_cut : (n : ℕ) (xs : List ℕ) → length (take n xs) ≤ n
length_cut zero [] = omega arith
length_cut zero (x ∷ xs) = omega arith
length_cut (suc n) [] = omega arith
length_cut (suc n) (x ∷ xs) = omega (arith, length_cut n xs)

-- the first piece goes on after r
abbrev pub onto : List ℕ → List (List ℕ) → List (List ℕ)
onto r [] = r ∷ []
onto r (q ∷ qs) = (r ++ q) ∷ qs

pub pieces-glue : (at : ℕ) (x y : List ℕ) → pieces at (x ++ y) ≡ front (pieces at x) ++ onto (last_of (pieces at x)) (pieces at y)
pieces-glue at [] y = none (pieces at y) (some_pieces at y)
  where
    none : (qs : List (List ℕ)) → qs ≢ [] → qs ≡ onto [] qs
    none [] n = absurd (n refl)
    none (q ∷ qs) n = refl
pieces-glue at (b ∷ bs) y =
    elim (b == at) as (λ t. cond t ([] ∷ pieces at (bs ++ y)) (onto_first b (pieces at (bs ++ y))) ≡ front (cond t ([] ∷ pieces at bs) (onto_first b (pieces at bs))) ++ onto (last_of (cond t ([] ∷ pieces at bs) (onto_first b (pieces at bs)))) (pieces at y)) [
      | true ↦ ap (λ ps. [] ∷ ps) (pieces-glue at bs y) ∙ cut (pieces at bs) (some_pieces at bs) (pieces at y)
      | false ↦ ap (onto_first b) (pieces-glue at bs y) ∙ go_on (pieces at bs) (some_pieces at bs) (pieces at y)
    ]
  where
    cut : (ps : List (List ℕ)) → ps ≢ [] → (qs : List (List ℕ)) → [] ∷ (front ps ++ onto (last_of ps) qs) ≡ front ([] ∷ ps) ++ onto (last_of ([] ∷ ps)) qs
    cut [] n qs = absurd (n refl)
    cut (p ∷ ps) n qs = refl

    go_on : (ps : List (List ℕ)) → ps ≢ [] → (qs : List (List ℕ)) → onto_first b (front ps ++ onto (last_of ps) qs) ≡ front (onto_first b ps) ++ onto (last_of (onto_first b ps)) qs
    go_on [] n qs = absurd (n refl)
    go_on (p ∷ []) n [] = refl
    go_on (p ∷ []) n (q ∷ qs) = refl
    go_on (p ∷ o ∷ ps) n qs = refl

front-snoc : (ps : List (List ℕ)) (p : List ℕ) → front (ps ++ p ∷ []) ≡ ps
front-snoc [] p = refl
front-snoc (q ∷ []) p = refl
front-snoc (q ∷ o ∷ ps) p = ap (λ xs. q ∷ xs) (front-snoc (o ∷ ps) p)

last-snoc : (ps : List (List ℕ)) (p : List ℕ) → last_of (ps ++ p ∷ []) ≡ p
last-snoc [] p = refl
last-snoc (q ∷ []) p = refl
last-snoc (q ∷ o ∷ ps) p = last-snoc (o ∷ ps) p

-- bytes without a line feed
pub lines_same : (x p : List ℕ) → pieces 10 p ≡ p ∷ [] → lines (x ++ p) ≡ lines x
lines_same x p e = ap front (pieces-glue 10 x p ∙ ap (λ qs. front (pieces 10 x) ++ onto (unended x) qs) e) ∙ front-snoc (front (pieces 10 x)) (unended x ++ p)

pub unended_more : (x p : List ℕ) → pieces 10 p ≡ p ∷ [] → unended (x ++ p) ≡ unended x ++ p
unended_more x p e = ap last_of (pieces-glue 10 x p ∙ ap (λ qs. front (pieces 10 x) ++ onto (unended x) qs) e) ∙ last-snoc (front (pieces 10 x)) (unended x ++ p)

two_snoc : (ps : List (List ℕ)) (p q : List ℕ) → ps ++ (p ∷ q ∷ []) ≡ (ps ++ p ∷ []) ++ q ∷ []
two_snoc ps p q = sym (append_assoc ps (p ∷ []) (q ∷ []))

-- bytes up to a line feed
pub lines_more : (x p q : List ℕ) → pieces 10 p ≡ q ∷ [] ∷ [] → lines (x ++ p) ≡ lines x ++ (unended x ++ q) ∷ []
lines_more x p q e = ap front (pieces-glue 10 x p ∙ ap (λ qs. front (pieces 10 x) ++ onto (unended x) qs) e ∙ two_snoc (front (pieces 10 x)) (unended x ++ q) []) ∙ front-snoc (front (pieces 10 x) ++ (unended x ++ q) ∷ []) []

pub unended_none : (x p q : List ℕ) → pieces 10 p ≡ q ∷ [] ∷ [] → unended (x ++ p) ≡ []
unended_none x p q e = ap last_of (pieces-glue 10 x p ∙ ap (λ qs. front (pieces 10 x) ++ onto (unended x) qs) e ∙ two_snoc (front (pieces 10 x)) (unended x ++ q) []) ∙ last-snoc (front (pieces 10 x) ++ (unended x ++ q) ∷ []) []

front_on : (ps qs : List (List ℕ)) (r : List ℕ) → front (ps ++ onto r qs) ≡ ps ++ front (onto r qs)
front_on [] qs r = refl
front_on (p ∷ []) [] r = refl
front_on (p ∷ []) (q ∷ qs) r = refl
front_on (p ∷ o ∷ ps) qs r = ap (λ xs. p ∷ xs) (front_on (o ∷ ps) qs r)

-- the lines of a text come first in a longer one
pub lines_on : (x y : List ℕ) → lines (x ++ y) ≡ lines x ++ front (onto (unended x) (pieces 10 y))
lines_on x y = ap front (pieces-glue 10 x y) ∙ front_on (lines x) (pieces 10 y) (unended x)

-- ---- one feed

-- the cutter goes on with what it held of the text
goes_on : (text piece : List ℕ) (old : Cutting) → WasFed text old → take held_max (rest old ++ piece) ≡ take held_max (unended text ++ piece)
goes_on text piece old fed = ap (λ xs. take held_max (xs ++ piece)) fed ∙ take_cut held_max (unended text) piece

pub cuts_line : (text piece : List ℕ) (i : ℕ) (old new : Cutting) → position (λ b. b == 10) piece ≡ Some i → new.whole ≡ true → new.line ≡ take held_max (rest old ++ take i piece) → WasFed text old → Cuts text (take (i + 1) piece) new
cuts_line text piece i old new e w l fed =
    let used = cut_upto 10 piece i e in
    subst (λ t. MatchBool t
    ((line : List ℕ) × (lines (text ++ take (i + 1) piece) ≡ lines text ++ line ∷ []) × (unended (text ++ take (i + 1) piece) ≡ []) × (new.line ≡ take held_max line))
    ((lines (text ++ take (i + 1) piece) ≡ lines text) × (new.line ≡ take held_max (unended (text ++ take (i + 1) piece))))) (sym w)
    (unended text ++ take i piece, lines_more text (take (i + 1) piece) (take i piece) used, unended_none text (take (i + 1) piece) (take i piece) used, l ∙ goes_on text (take i piece) old fed)

pub cuts_none : (text piece : List ℕ) (old new : Cutting) → ◌≡◌ {A = Option ℕ} (position (λ b. b == 10) piece) None → new.whole ≡ false → new.line ≡ take held_max (rest old ++ piece) → WasFed text old → Cuts text (take (length piece) piece) new
cuts_none text piece old new e w l fed =
    let none = cut_none 10 piece e in
    subst (λ used. Cuts text used new) (sym (take-length piece))
    (subst (λ t. MatchBool t
    ((line : List ℕ) × (lines (text ++ piece) ≡ lines text ++ line ∷ []) × (unended (text ++ piece) ≡ []) × (new.line ≡ take held_max line))
    ((lines (text ++ piece) ≡ lines text) × (new.line ≡ take held_max (unended (text ++ piece))))) (sym w)
    (lines_same text piece none, l ∙ goes_on text piece old fed ∙ ap (take held_max) (sym (unended_more text piece none))))

-- after a feed the cutter holds what stands after the last line feed
pub fed_more : (text more : List ℕ) (new : Cutting) → Cuts text more new → WasFed (text ++ more) new
fed_more text more new h =
    elim new.whole as (λ t. MatchBool t
    ((line : List ℕ) × (lines (text ++ more) ≡ lines text ++ line ∷ []) × (unended (text ++ more) ≡ []) × (new.line ≡ take held_max line))
    ((lines (text ++ more) ≡ lines text) × (new.line ≡ take held_max (unended (text ++ more)))) → cond t [] new.line ≡ take held_max (unended (text ++ more))) [
      | true ↦ λ g. ap (take held_max) (sym g.2)
      | false ↦ λ g. g.1
    ] h

-- ---- all feeds

-- one feed: the lines of the text so far grow by the line that it ended, if it ended one
held_next : (text more : List ℕ) (new : Cutting) → Cuts text more new → map (take held_max) (lines text) ++ cond new.whole (new.line ∷ []) [] ≡ map (take held_max) (lines (text ++ more))
held_next text more new h =
    elim new.whole as (λ t. MatchBool t
    ((line : List ℕ) × (lines (text ++ more) ≡ lines text ++ line ∷ []) × (unended (text ++ more) ≡ []) × (new.line ≡ take held_max line))
    ((lines (text ++ more) ≡ lines text) × (new.line ≡ take held_max (unended (text ++ more)))) → map (take held_max) (lines text) ++ cond t (new.line ∷ []) [] ≡ map (take held_max) (lines (text ++ more))) [
      | true ↦ λ g. ap (λ l. map (take held_max) (lines text) ++ l ∷ []) g.3 ∙ sym (map-append (take held_max) (lines text) (g.0 ∷ [])) ∙ ap (map (take held_max)) (sym g.1)
      | false ↦ λ g. append-nil (map (take held_max) (lines text)) ∙ ap (map (take held_max)) (sym g.0)
    ] h

held_all : (text : List ℕ) (feeds : List (List ℕ × Cutting)) → FollowOn text feeds → map (take held_max) (lines text) ++ lines_held feeds ≡ map (take held_max) (lines (text ++ text_fed feeds))
held_all text [] h = append-nil (map (take held_max) (lines text)) ∙ ap (λ t. map (take held_max) (lines t)) (sym (append-nil text))
held_all text (feed ∷ feeds) h =
    sym (append_assoc (map (take held_max) (lines text)) (cond feed.1.whole (feed.1.line ∷ []) []) (lines_held feeds))
    ∙ ap (λ ls. ls ++ lines_held feeds) (held_next text feed.0 feed.1 h.0)
    ∙ held_all (text ++ feed.0) feeds h.1
    ∙ ap (λ t. map (take held_max) (lines t)) (append_assoc text feed.0 (text_fed feeds))

pub any_cutting_lem : (feeds : List (List ℕ × Cutting)) → FollowOn [] feeds → lines_held feeds ≡ map (take held_max) (lines (text_fed feeds))
any_cutting_lem feeds h = held_all [] feeds h

-- what there is room for
pub fitting : (line bytes : List ℕ) (n left : ℕ) → left + length line ≡ n → line ++ take (min left (length bytes)) bytes ≡ take n (line ++ bytes)
fitting line bytes n left h =
    let same : length line + left ≡ n = omega arith in
    ap (λ xs. line ++ xs) (take_min left bytes) ∙ sym (take-append-add line bytes left) ∙ ap (λ k. take k (line ++ bytes)) same
