-- Names that are put among ascending ones.
use Rattle.std.proofs.Common.{◌≡◌, ℕ, zero, suc, ◌+◌, ◌-◌, ◌<◌, ◌≤◌, true, false, cond, ◌&&◌, List, [], ◌∷◌, ◌++◌, length, insert, refl, sym, ◌∙◌, ap, subst, arith, append_assoc, Some, take_all, length-append, slice_index_or, ◌==◌}
use Rattle.chain_reading.proofs.Common.{and_parts, drop, list_all, slice_get, take, Name, name_lt}
use Rattle.std.proofs.lemmas.Bool.Decides.{nat_tests}
use Rattle.std.proofs.lemmas.List.{take-append-le}
use Rattle.fs_trees.specs.Names.{is_name}
use Rattle.chain_reading.specs.Nexts.{least_names, with_name}
use Rattle.chain_reading.proofs.NamesLaws.{one_more}
use Rattle.fs_laws.proofs.AtLaws.{name_fits}

-- ---- a place in the list

-- what is put at a place, where the last one goes
cut_insert : (k p : ℕ) (xs : List Name) (x : Name) → p ≤ k → take (suc k) (insert xs p x) ≡ insert (take k xs) p x
cut_insert k zero xs x h = refl
cut_insert zero (suc p) xs x h = absurd (omega (arith, h))
cut_insert (suc k) (suc p) [] x h = refl
cut_insert (suc k) (suc p) (y ∷ xs) x h = ap (λ ys. y ∷ ys) (cut_insert k p xs x (omega (arith, h)))

pub put_full : (xs ys result : List Name) (p : ℕ) (x : Name) → p < 64 → ys ≡ take 63 xs → result ≡ insert ys p x → result ≡ take 64 (insert xs p x)
put_full xs ys result p x h is put = put ∙ (ap (λ zs. insert zs p x) is ∙ sym (cut_insert 63 p xs x (omega (arith, h))))

pub put_whole : (xs result : List Name) → length result ≤ 64 → result ≡ xs → result ≡ take 64 xs
put_whole xs result h is = sym (take_all 64 result h) ∙ ap (take 64) is

pub room_left : (n : ℕ) → n ≤ 64 → (n == 64) ≡ false → n + 1 ≤ 64
room_left n h other = grind (arith, nat_tests)

-- one at the end, where there is room for it, and where there is none
pub pushed : (xs result : List Name) (m : Name) → length xs + 1 ≤ 64 → result ≡ xs ++ m ∷ [] → result ≡ take 64 (xs ++ m ∷ [])
pushed xs result m h is = is ∙ sym (take_all 64 (xs ++ m ∷ []) (let sum = length-append xs (m ∷ []) in omega (arith, sum, h)))

pub not_pushed : (xs : List Name) (m : Name) → length xs ≡ 64 → xs ≡ take 64 (xs ++ m ∷ [])
not_pushed xs m full = sym (take-append-le 64 xs (m ∷ []) (omega (arith, full)) ∙ take_all 64 xs (omega (arith, full)))

-- the one at a position
pub stands_at : (xs : List Name) (p : ℕ) (n d : Name) → p < length xs → n ≡ slice_index_or xs p d → slice_get xs p ≡ Some n
stands_at [] p n d h is = absurd (omega (arith, h))
stands_at (x ∷ xs) zero n d h is = ap Some (sym is)
stands_at (x ∷ xs) (suc p) n d h is = stands_at xs p n d (omega (arith, h)) is

drop_one : (xs : List Name) (p : ℕ) (n : Name) → slice_get xs p ≡ Some n → drop p xs ≡ n ∷ drop (suc p) xs
drop_one [] p n e = absurd (cc)
drop_one (x ∷ xs) zero n e = let same : x ≡ n = cc in ap (λ k. k ∷ xs) same
drop_one (x ∷ xs) (suc p) n e = drop_one xs p n e

take_one : (xs : List Name) (p : ℕ) (n : Name) → slice_get xs p ≡ Some n → take (suc p) xs ≡ take p xs ++ n ∷ []
take_one [] p n e = absurd (cc)
take_one (x ∷ xs) zero n e = let same : x ≡ n = cc in ap (λ k. k ∷ []) same
take_one (x ∷ xs) (suc p) n e = ap (λ ys. x ∷ ys) (take_one xs p n e)

drop_all : (xs : List Name) (p : ℕ) → length xs ≤ p → ◌≡◌ {A = List Name} (drop p xs) []
drop_all [] zero h = refl
drop_all [] (suc p) h = refl
drop_all (x ∷ xs) zero h = absurd (omega (arith, h))
drop_all (x ∷ xs) (suc p) h = drop_all xs p (omega (arith, h))

take_whole : (xs : List Name) (p : ℕ) → length xs ≤ p → take p xs ≡ xs
take_whole xs p h = take_all p xs h

take_drop : (xs : List Name) (p : ℕ) → take p xs ++ drop p xs ≡ xs
take_drop [] zero = refl
take_drop [] (suc p) = refl
take_drop (x ∷ xs) zero = refl
take_drop (x ∷ xs) (suc p) = ap (λ ys. x ∷ ys) (take_drop xs p)

-- ---- among ascending names

module _ (m : Name) (xs : List Name) (p : ℕ) (so_far : with_name m xs ≡ take p xs ++ with_name m (drop p xs)) where
  -- those at the place and before it stand below the name
  pub goes_on : (n : Name) → slice_get xs p ≡ Some n → name_lt m n ≡ false → name_lt n m ≡ true → with_name m xs ≡ take (p + 1) xs ++ with_name m (drop (p + 1) xs)
  goes_on n e mn nm =
      let next : suc p ≡ p + 1 = omega arith in
      so_far
      ∙ (ap (λ ys. take p xs ++ with_name m ys) (drop_one xs p n e)
      ∙ (ap (λ t. take p xs ++ cond t (m ∷ n ∷ drop (suc p) xs) (cond (name_lt n m) (n ∷ with_name m (drop (suc p) xs)) (n ∷ drop (suc p) xs))) mn
      ∙ (ap (λ t. take p xs ++ cond t (n ∷ with_name m (drop (suc p) xs)) (n ∷ drop (suc p) xs)) nm
      ∙ (sym (append_assoc (take p xs) (n ∷ []) (with_name m (drop (suc p) xs)))
      ∙ (ap (λ ys. ys ++ with_name m (drop (suc p) xs)) (sym (take_one xs p n e))
      ∙ ap (λ k. take k xs ++ with_name m (drop k xs)) next)))))

  -- the one at the place stands above it
  pub comes_here : (n : Name) → slice_get xs p ≡ Some n → name_lt m n ≡ true → with_name m xs ≡ insert xs p m
  comes_here n e mn =
      so_far
      ∙ (ap (λ ys. take p xs ++ with_name m ys) (drop_one xs p n e)
      ∙ (ap (λ t. take p xs ++ cond t (m ∷ n ∷ drop (suc p) xs) (cond (name_lt n m) (n ∷ with_name m (drop (suc p) xs)) (n ∷ drop (suc p) xs))) mn
      ∙ ap (λ ys. take p xs ++ m ∷ ys) (sym (drop_one xs p n e))))

  -- the one at the place is that name
  pub stands_here : (n : Name) → slice_get xs p ≡ Some n → name_lt m n ≡ false → name_lt n m ≡ false → with_name m xs ≡ xs
  stands_here n e mn nm =
      so_far
      ∙ (ap (λ ys. take p xs ++ with_name m ys) (drop_one xs p n e)
      ∙ (ap (λ t. take p xs ++ cond t (m ∷ n ∷ drop (suc p) xs) (cond (name_lt n m) (n ∷ with_name m (drop (suc p) xs)) (n ∷ drop (suc p) xs))) mn
      ∙ (ap (λ t. take p xs ++ cond t (n ∷ with_name m (drop (suc p) xs)) (n ∷ drop (suc p) xs)) nm
      ∙ (ap (λ ys. take p xs ++ ys) (sym (drop_one xs p n e)) ∙ take_drop xs p))))

  -- all stand below it
  pub comes_last : length xs ≤ p → with_name m xs ≡ xs ++ m ∷ []
  comes_last h = so_far ∙ (ap (λ ys. take p xs ++ with_name m ys) (drop_all xs p h) ∙ ap (λ ys. ys ++ m ∷ []) (take_whole xs p h))

-- ---- the names of a cluster

-- each of these names fits
pub each_fits : (ns : List Name) (p : ℕ) (m : Name) → list_all is_name ns ≡ true → slice_get ns p ≡ Some m → length m ≤ 28
each_fits [] p m h e = absurd (cc)
each_fits (n ∷ ns) zero m h e = let same : n ≡ m = cc in subst (λ k. length k ≤ 28) same (name_fits n (and_parts (is_name n) (list_all is_name ns) h).0)
each_fits (n ∷ ns) (suc p) m h e = each_fits ns p m (and_parts (is_name n) (list_all is_name ns) h).1 e

module _ (after m : Name) (seen all into : List Name) (p : ℕ) (at : slice_get all p ≡ Some m) (is : into ≡ least_names 64 after (seen ++ take p all)) where
  one_further : (seen ++ take p all) ++ m ∷ [] ≡ seen ++ take (p + 1) all
  one_further =
      let next : suc p ≡ p + 1 = omega arith in
      append_assoc seen (take p all) (m ∷ []) ∙ (ap (λ ys. seen ++ ys) (sym (take_one all p m at)) ∙ ap (λ k. seen ++ take k all) next)

  pub put_more : (result : List Name) → name_lt after m ≡ true → result ≡ take 64 (with_name m into) → result ≡ least_names 64 after (seen ++ take (p + 1) all)
  put_more result am put =
      put
      ∙ (ap (λ ys. take 64 (with_name m ys)) is
      ∙ (sym (ap (λ t. cond t (take 64 (with_name m (least_names 64 after (seen ++ take p all)))) (least_names 64 after (seen ++ take p all))) am)
      ∙ (sym (one_more 64 after m (seen ++ take p all)) ∙ ap (least_names 64 after) one_further)))

  pub put_none : name_lt after m ≡ false → into ≡ least_names 64 after (seen ++ take (p + 1) all)
  put_none am =
      is
      ∙ (sym (ap (λ t. cond t (take 64 (with_name m (least_names 64 after (seen ++ take p all)))) (least_names 64 after (seen ++ take p all))) am)
      ∙ (sym (one_more 64 after m (seen ++ take p all)) ∙ ap (least_names 64 after) one_further))
