-- What a word is read as a path it spells, and the other way.
use Rattle.std.proofs.Common.{◌≡◌, ℕ, ◌≤◌, Bool, true, false, not, cond, ◌&&◌, ◌==◌, nat_le, List, [], ◌∷◌, length, refl, sym, ◌∙◌, ap, subst, arith, Some, None}
use Rattle.std.specs.List.{list_all, join_with_byte}
use Rattle.std.proofs.lemmas.List.Folds.{list_all-append}
use Rattle.std.proofs.lemmas.Bool.{and_parts, and_from, eqb-true, leb-true}
use Rattle.std.proofs.lemmas.Bool.Decides.{nat_tests}
use Rattle.script_text.specs.Pieces.{pieces}
use Rattle.script_text.proofs.WordLaws.{cond_some}
use Rattle.script_text.proofs.SpellingLaws.{weaker}
use Rattle.script_text.proofs.PiecesLaws.{lacks, join-pieces, pieces-join}
use Rattle.fs_trees.specs.Names.{Name, Path, is_name, is_name_byte, is_path, name_max, path_max, is_reserved}
use Rattle.shell_text.specs.Grammar.{IsPathWord}
use Rattle.shell_text.specs.Reading.{names_of, path_if, path_of}

-- ---- what is read

names_is : (bs : List ℕ) (p : Path) → names_of bs ≡ Some p → (is_path p ≡ true) × (bs ≡ join_with_byte 47 p)
names_is [] p e = let same : [] ≡ p = cc in subst (λ q. (is_path q ≡ true) × ([] ≡ join_with_byte 47 q)) same (refl, refl)
names_is (b ∷ bs) p e =
    let two = cond_some (is_path (pieces 47 (b ∷ bs))) (Some (pieces 47 (b ∷ bs))) p e in
    let same : pieces 47 (b ∷ bs) ≡ p = cc in
    subst (λ q. (is_path q ≡ true) × (b ∷ bs ≡ join_with_byte 47 q)) same (two.0, sym (join-pieces 47 (b ∷ bs)))

pub path_is : (w : List ℕ) (p : Path) → path_of w ≡ Some p → IsPathWord w p
path_is [] p e = absurd (cc)
path_is (b ∷ bs) p e =
    let two = cond_some (b == 47) (names_of bs) p e in
    let same : b ≡ 47 = eqb-true b 47 two.0 in
    let rest = names_is bs p two.1 in
    (rest.0, λ i. same i ∷ rest.1 i)

-- ---- what a name has

byte_no_slash : (x : ℕ) → is_name_byte x ≡ true → not (x == 47) ≡ true
byte_no_slash x h = grind (arith, nat_tests)

byte_no_space : (x : ℕ) → is_name_byte x ≡ true → not (x == 32) ≡ true
byte_no_space x h = grind (arith, nat_tests)

-- the four tests of a name
tests : (a b c d : Bool) → (a && b && c && d) ≡ true → (a ≡ true) × (c ≡ true)
tests true true true d h = (refl, refl)
tests true true false d h = absurd (cc)
tests true false c d h = absurd (cc)
tests false b c d h = absurd (cc)

pub bytes_are : (n : Name) → is_name n ≡ true → (nat_le 1 (length n) ≡ true) × (list_all is_name_byte n ≡ true)
bytes_are n h = tests (nat_le 1 (length n)) (nat_le (length n) name_max) (list_all is_name_byte n) (not (is_reserved n)) h

no_slash : (n : Name) → is_name n ≡ true → lacks 47 n ≡ true
no_slash n h = weaker is_name_byte (λ b. not (b == 47)) byte_no_slash n (bytes_are n h).1

no_space : (n : Name) → is_name n ≡ true → lacks 32 n ≡ true
no_space n h = weaker is_name_byte (λ b. not (b == 32)) byte_no_space n (bytes_are n h).1

-- ---- what is spelled

starts : (n : Name) (ns : Path) → 1 ≤ length n → names_of (join_with_byte 47 (n ∷ ns)) ≡ path_if (pieces 47 (join_with_byte 47 (n ∷ ns)))
starts [] ns h = absurd (omega (arith, h))
starts (c ∷ cs) [] h = refl
starts (c ∷ cs) (m ∷ ms) h = refl

names_back : (p : Path) → is_path p ≡ true → names_of (join_with_byte 47 p) ≡ Some p
names_back [] h = refl
names_back (n ∷ ns) h =
    let all = (and_parts (nat_le (length (n ∷ ns)) path_max) (list_all is_name (n ∷ ns)) h).1 in
    let first = bytes_are n (and_parts (is_name n) (list_all is_name ns) all).0 in
    starts n ns (leb-true 1 (length n) first.0)
    ∙ ap path_if (pieces-join 47 (n ∷ ns) (omega arith) (weaker is_name (lacks 47) no_slash (n ∷ ns) all))
    ∙ ap (λ t. cond t (Some (n ∷ ns)) None) h

pub path_back : (w : List ℕ) (p : Path) → IsPathWord w p → path_of w ≡ Some p
path_back w p h = ap path_of h.1 ∙ names_back p h.0

-- ---- no path has a space in it

join_lacks : (ps : Path) → list_all (lacks 32) ps ≡ true → lacks 32 (join_with_byte 47 ps) ≡ true
join_lacks [] h = refl
join_lacks (p ∷ []) h = (and_parts (lacks 32 p) true h).0
join_lacks (p ∷ q ∷ ps) h =
    let parts = and_parts (lacks 32 p) (list_all (lacks 32) (q ∷ ps)) h in
    list_all-append (λ b. not (b == 32)) p (47 ∷ join_with_byte 47 (q ∷ ps))
    ∙ and_from (lacks 32 p) (lacks 32 (47 ∷ join_with_byte 47 (q ∷ ps))) parts.0 (join_lacks (q ∷ ps) parts.1)

pub path_lacks : (w : List ℕ) (p : Path) → IsPathWord w p → lacks 32 w ≡ true
path_lacks w p h =
    let all = (and_parts (nat_le (length p) path_max) (list_all is_name p) h.0).1 in
    subst (λ v. lacks 32 v ≡ true) (sym h.1) (join_lacks p (weaker is_name (lacks 32) no_space p all))

-- ---- what is read of some text

pub some_text : (t : List ℕ) → (length t == 0) ≡ false → names_of t ≡ path_if (pieces 47 t)
some_text [] h = absurd (cc)
some_text (b ∷ bs) h = refl
