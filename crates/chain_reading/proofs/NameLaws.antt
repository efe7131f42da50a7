-- Names of which each stands once, in parts.
use Rattle.std.proofs.Common.{◌≡◌, Bool, true, false, not, ◌&&◌, ◌||◌, List, [], ◌∷◌, ◌++◌, length, refl, sym, ◌∙◌, ap, arith, bytes_eq, Result, Ok, Err}
use Rattle.chain_reading.proofs.Common.{IfOk, list_any, Name, are_distinct, Entry, entry_names, FsRefusal, any-append, is_among, are_apart_from, AreFirstDistinct}

five : (a b c d e : Bool) → (not (a || b) && ((d && not c) && e)) ≡ (((not a && d) && not (b || c)) && e)
five true b c d e = refl
five false true c true e = refl
five false true c false e = refl
five false false c d e = refl

pub distinct-append : (xs ys : List Name) → are_distinct (xs ++ ys) ≡ ((are_distinct xs && are_apart_from xs ys) && are_distinct ys)
distinct-append [] ys = refl
distinct-append (x ∷ xs) ys =
    ap (λ t. not t && are_distinct (xs ++ ys)) (any-append (bytes_eq x) xs ys)
    ∙ (ap (λ t. not (list_any (bytes_eq x) xs || is_among ys x) && t) (distinct-append xs ys)
    ∙ five (list_any (bytes_eq x) xs) (is_among ys x) (list_any (is_among ys) xs) (are_distinct xs) (are_distinct ys))

none_more : (p q : Bool) → not (p || q) ≡ (not p && not q)
none_more true q = refl
none_more false q = refl

four : (a b p q : Bool) → (not (a || b) && (p && q)) ≡ ((not a && p) && (not b && q))
four true b p q = refl
four false true true q = refl
four false true false q = refl
four false false p q = refl

-- apart from two lists
pub apart-append : (xs ys zs : List Name) → are_apart_from xs (ys ++ zs) ≡ (are_apart_from xs ys && are_apart_from xs zs)
apart-append [] ys zs = refl
apart-append (x ∷ xs) ys zs =
    none_more (is_among (ys ++ zs) x) (list_any (is_among (ys ++ zs)) xs)
    ∙ (ap (λ t. not t && are_apart_from xs (ys ++ zs)) (any-append (bytes_eq x) ys zs)
    ∙ (ap (λ t. not (is_among ys x || is_among zs x) && t) (apart-append xs ys zs)
    ∙ (four (is_among ys x) (is_among zs x) (are_apart_from xs ys) (are_apart_from xs zs)
    ∙ (ap (λ t. t && (not (is_among zs x) && are_apart_from xs zs)) (sym (none_more (is_among ys x) (list_any (is_among ys) xs)))
    ∙ ap (λ t. are_apart_from (x ∷ xs) ys && t) (sym (none_more (is_among zs x) (list_any (is_among zs) xs)))))))

pub apart_from_none : (xs : List Name) → are_apart_from xs [] ≡ true
apart_from_none [] = refl
apart_from_none (x ∷ xs) = apart_from_none xs

-- ---- one cluster's names, and those behind it

pub apart_passes : (xs es : List Name) → list_any (is_among es) xs ≡ false → (ns : List Name) → are_apart_from xs (es ++ ns) ≡ are_apart_from xs ns
apart_passes xs es h ns = apart-append xs es ns ∙ ap (λ t. not t && are_apart_from xs ns) h

pub apart_stops : (xs es : List Name) → list_any (is_among es) xs ≡ true → (ns : List Name) → are_apart_from xs (es ++ ns) ≡ false
apart_stops xs es h ns = apart-append xs es ns ∙ ap (λ t. not t && are_apart_from xs ns) h

both_tests : (p q r : Bool) → p ≡ true → r ≡ q → r ≡ (p && q)
both_tests true q r h e = e
both_tests false q r h e = absurd (cc)

pub first_distinct : (xs all ns : List Name) (result : Result Bool FsRefusal) → all ≡ xs ++ ns → are_distinct xs ≡ true → IfOk result (λ apart. apart ≡ are_apart_from xs ns) → IfOk result (AreFirstDistinct xs all)
first_distinct xs all ns (Ok r) parts h e = (ns, parts, both_tests (are_distinct xs) (are_apart_from xs ns) r h e)
first_distinct xs all ns (Err f) parts h e = tt

pub first_twice : (xs all ns : List Name) → all ≡ xs ++ ns → are_distinct xs ≡ false → AreFirstDistinct xs all false
first_twice xs all ns parts h = (ns, parts, sym (ap (λ t. t && are_apart_from xs ns) h))

pub first_alone : (xs all ns : List Name) → all ≡ xs ++ ns → ns ≡ [] → are_distinct xs ≡ true → AreFirstDistinct xs all true
first_alone xs all ns parts none h = (ns, parts, both_tests (are_distinct xs) (are_apart_from xs ns) true h (sym (ap (are_apart_from xs) none ∙ apart_from_none xs)))

-- none comes first
pub first_none : (es : List Entry) (all ns : List Name) → all ≡ entry_names es ++ ns → length es ≡ 0 → AreFirstDistinct (entry_names es) all true
first_none [] all ns parts none = (ns, parts, refl)
first_none (e ∷ es) all ns parts none = absurd (omega (arith, none))

-- ---- what the first ones decide

append_cancel : (xs ys zs : List Name) → xs ++ ys ≡ xs ++ zs → ys ≡ zs
append_cancel [] ys zs e = e
append_cancel (x ∷ xs) ys zs e = append_cancel xs ys zs (cc)

first_decides : (xs all : List Name) (result : Bool) → AreFirstDistinct xs all result → (ns : List Name) → all ≡ xs ++ ns → are_distinct (xs ++ ns) ≡ (result && are_distinct ns)
first_decides xs all result first ns parts =
    let same : first.0 ≡ ns = append_cancel xs first.0 ns (sym first.1 ∙ parts) in
    distinct-append xs ns ∙ ap (λ t. t && are_distinct ns) (sym (first.2 ∙ ap (λ ms. are_distinct xs && are_apart_from xs ms) same))

pub distinct_passes : (xs all : List Name) → AreFirstDistinct xs all true → (ns : List Name) → all ≡ xs ++ ns → are_distinct (xs ++ ns) ≡ are_distinct ns
distinct_passes xs all first ns parts = first_decides xs all true first ns parts

pub distinct_stops : (xs all : List Name) → AreFirstDistinct xs all false → (ns : List Name) → all ≡ xs ++ ns → are_distinct (xs ++ ns) ≡ false
distinct_stops xs all first ns parts = first_decides xs all false first ns parts
