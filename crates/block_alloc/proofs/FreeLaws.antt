-- There are as many free blocks as the count says.
use Rattle.std.proofs.Common.{◌≡◌, ℕ, zero, suc, ◌+◌, ◌<◌, Bool, false, not, cond, ◌&&◌, List, [], ◌∷◌, length, refl, sym, ◌∙◌, ap, arith}
use Rattle.block_alloc.proofs.Common.{filter, map, count_by, sum_by, range_with_len, lt-ltb, fill_by_all, sum_by-cons, length-filter, is_live, is_free, free_count, free_blocks}

sum_by-map : {X Y : Type 0} (g : Y → ℕ) (f : X → Y) (xs : List X) → sum_by g (map f xs) ≡ sum_by (λ x. g (f x)) xs
sum_by-map g f [] = refl
sum_by-map g f (x ∷ xs) = sum_by-cons g (f x) (map f xs) ∙ (ap (λ n. g (f x) + n) (sum_by-map g f xs) ∙ sym (sum_by-cons (λ y. g (f y)) x xs))

filter-agree : (p q : ℕ → Bool) (a len : ℕ) → ((b : ℕ) → b < a + len → p b ≡ q b) → filter p (range_with_len a len) ≡ filter q (range_with_len a len)
filter-agree p q a zero same = refl
filter-agree p q a (suc len) same =
    ap (λ t. cond t (a ∷ filter p (range_with_len (a + 1) len)) (filter p (range_with_len (a + 1) len))) (same a (omega arith))
    ∙ ap (λ bs. cond (q a) (a ∷ bs) bs) (filter-agree p q (a + 1) len (λ b h. same b (omega arith)))

pub length-free_blocks : (live : List Bool) → length (free_blocks live) ≡ free_count live
length-free_blocks live =
    ap length (filter-agree (is_free live) (λ b. not (is_live live b)) 0 (length live) (λ b h. ap (λ t. t && not (is_live live b)) (lt-ltb b (length live) (omega arith))))
    ∙ (length-filter (λ b. not (is_live live b)) (range_with_len 0 (length live))
    ∙ (sym (sum_by-map (λ t. cond (not t) 1 0) (is_live live) (range_with_len 0 (length live)))
    ∙ sym (ap (count_by not) (fill_by_all (is_live live) live (length live) false refl (λ k h. refl)))))
