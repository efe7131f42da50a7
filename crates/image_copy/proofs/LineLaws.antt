-- The text of a path.
use Rattle.std.proofs.Common.{◌≡◌, List, [], ◌∷◌, ◌++◌, ℕ, length, flat_map, refl, ap, append-nil, arith}
use Rattle.std.specs.List.{join_with_byte}
use Rattle.fs_trees.specs.Names.{Name, Path}
use Rattle.shell_text.specs.Grammar.{path_text}

slashed : (n : Name) (ns : Path) → n ++ flat_map (λ m. 47 ∷ m) ns ≡ join_with_byte 47 (n ∷ ns)
slashed n [] = append-nil n
slashed n (m ∷ ns) = ap (λ (t : List ℕ). n ++ (47 ∷ t)) (slashed m ns)

-- where there are names, each has a slash before it
pub path_is : (p : Path) → (length p ≡ 0 → ⊥) → flat_map (λ n. 47 ∷ n) p ≡ path_text p
path_is [] some = absurd (some refl)
path_is (n ∷ ns) some = ap (λ (t : List ℕ). 47 ∷ t) (slashed n ns)

-- where there are none, the slash is put first
pub root_is : (p : Path) (bs : List ℕ) → length p ≡ 0 → (bs ++ 47 ∷ []) ++ flat_map (λ n. 47 ∷ n) p ≡ bs ++ path_text p
root_is [] bs none = append-nil (bs ++ 47 ∷ [])
root_is (n ∷ ns) bs none = absurd (omega (arith, none))
