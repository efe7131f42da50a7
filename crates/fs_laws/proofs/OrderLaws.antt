-- Entries of a directory under different names, and under one.
use Rattle.std.proofs.Common.{◌≡◌, true, false, cond, ◌&&◌, ◌==◌, nat_lt, [], ◌∷◌, refl, sym, ◌∙◌, ap, inl, inr, ◌⊎◌}
use Rattle.fs_laws.proofs.Common.{and_parts, and_from, or_cases, or_left, or_right, eqb-true, eq-eqb, nat_tests, Name, name_lt, Entries, none, file, dir, Node, nothing, a_file, a_dir, entry, is_there, before, with_entry}
use Rattle.std.proofs.Common.{arith}
use Rattle.fs_laws.proofs.DirectoryLaws.{names_meet}
use Rattle.tsd_model.proofs.ValueLaws.{clash}

-- ---- names are in a line

pub lt_trans : (a b c : Name) → name_lt a b ≡ true → name_lt b c ≡ true → name_lt a c ≡ true
lt_trans a [] c p q = absurd (cc)
lt_trans a (y ∷ b) [] p q = absurd (cc)
lt_trans [] (y ∷ b) (z ∷ c) p q = refl
lt_trans (x ∷ a) (y ∷ b) (z ∷ c) p q = elim (or_cases (nat_lt x y) ((x == y) && name_lt a b) p) [
  | inl xy ↦ elim (or_cases (nat_lt y z) ((y == z) && name_lt b c) q) [
    | inl yz ↦ or_left (nat_lt x z) _ (grind (arith, nat_tests))
    | inr e ↦ let yz = and_parts (y == z) (name_lt b c) e in let same : y ≡ z = eqb-true y z yz.0 in or_left (nat_lt x z) _ (grind (arith, nat_tests))
  ]
  | inr d ↦ let xy = and_parts (x == y) (name_lt a b) d in let same : x ≡ y = eqb-true x y xy.0 in elim (or_cases (nat_lt y z) ((y == z) && name_lt b c) q) [
    | inl yz ↦ or_left (nat_lt x z) _ (grind (arith, nat_tests))
    | inr e ↦ let yz = and_parts (y == z) (name_lt b c) e in or_right (nat_lt x z) _ (and_from (x == z) (name_lt a c) (eq-eqb x z (same ∙ eqb-true y z yz.0)) (lt_trans a b c xy.1 yz.1))
  ]
]

pub lt_irreflexive : (n : Name) → name_lt n n ≡ false
lt_irreflexive [] = refl
lt_irreflexive (c ∷ n) = grind (arith, nat_tests, lt_irreflexive n)

pub below_only : (m n : Name) → name_lt m n ≡ true → name_lt n m ≡ false
below_only m n h = elim (name_lt n m) as (λ t. name_lt n m ≡ t → t ≡ false) [
  | true ↦ λ e. absurd (clash (name_lt m m) (lt_trans m n m h e) (lt_irreflexive m))
  | false ↦ λ e. refl
] refl

-- two names that aren't the same
pub in_a_line : (m n : Name) → (m ≡ n → ⊥) → (name_lt m n ≡ true) ⊎ (name_lt n m ≡ true)
in_a_line m n other = elim (name_lt m n) as (λ t. name_lt m n ≡ t → (t ≡ true) ⊎ (name_lt n m ≡ true)) [
  | true ↦ λ p. inl refl
  | false ↦ λ p. elim (name_lt n m) as (λ t. name_lt n m ≡ t → (false ≡ true) ⊎ (t ≡ true)) [
    | true ↦ λ q. inr refl
    | false ↦ λ q. absurd (other (names_meet m n p q))
  ] refl
] refl

module _ {D F : Type 0} where
  -- ---- behind an entry in front

  put_here : (n m : Name) (y x : Node D F) (es : Entries D F) → is_there x ≡ true → name_lt n m ≡ false → name_lt m n ≡ false → with_entry n y (before m x es) ≡ before n y es
  put_here n m y nothing es h p q = absurd (cc)
  put_here n m y (a_file f) es h p q = ap (λ t. cond t (before n y (file m f es)) (cond (name_lt m n) (file m f (with_entry n y es)) (before n y es))) p ∙ ap (λ t. cond t (file m f (with_entry n y es)) (before n y es)) q
  put_here n m y (a_dir b inside) es h p q = ap (λ t. cond t (before n y (dir m b inside es)) (cond (name_lt m n) (dir m b inside (with_entry n y es)) (before n y es))) p ∙ ap (λ t. cond t (dir m b inside (with_entry n y es)) (before n y es)) q

  put_later : (n m : Name) (y x : Node D F) (es : Entries D F) → is_there x ≡ true → name_lt m n ≡ true → with_entry n y (before m x es) ≡ before m x (with_entry n y es)
  put_later n m y nothing es h q = absurd (cc)
  put_later n m y (a_file f) es h q = ap (λ t. cond t (before n y (file m f es)) (cond (name_lt m n) (file m f (with_entry n y es)) (before n y es))) (below_only m n q) ∙ ap (λ t. cond t (file m f (with_entry n y es)) (before n y es)) q
  put_later n m y (a_dir b inside) es h q = ap (λ t. cond t (before n y (dir m b inside es)) (cond (name_lt m n) (dir m b inside (with_entry n y es)) (before n y es))) (below_only m n q) ∙ ap (λ t. cond t (dir m b inside (with_entry n y es)) (before n y es)) q

  put_before : (n m : Name) (y x : Node D F) (es : Entries D F) → is_there x ≡ true → name_lt n m ≡ true → with_entry n y (before m x es) ≡ before n y (before m x es)
  put_before n m y nothing es h p = absurd (cc)
  put_before n m y (a_file f) es h p = ap (λ t. cond t (before n y (file m f es)) (cond (name_lt m n) (file m f (with_entry n y es)) (before n y es))) p
  put_before n m y (a_dir b inside) es h p = ap (λ t. cond t (before n y (dir m b inside es)) (cond (name_lt m n) (dir m b inside (with_entry n y es)) (before n y es))) p

  entry_here : (n m : Name) (x : Node D F) (es : Entries D F) → is_there x ≡ true → name_lt n m ≡ false → name_lt m n ≡ false → entry n (before m x es) ≡ x
  entry_here n m nothing es h p q = absurd (cc)
  entry_here n m (a_file f) es h p q = ap (λ t. cond t nothing (cond (name_lt m n) (entry n es) (a_file f))) p ∙ ap (λ t. cond t (entry n es) (a_file f)) q
  entry_here n m (a_dir b inside) es h p q = ap (λ t. cond t nothing (cond (name_lt m n) (entry n es) (a_dir b inside))) p ∙ ap (λ t. cond t (entry n es) (a_dir b inside)) q

  entry_later : (n m : Name) (x : Node D F) (es : Entries D F) → is_there x ≡ true → name_lt m n ≡ true → entry n (before m x es) ≡ entry n es
  entry_later n m nothing es h q = absurd (cc)
  entry_later n m (a_file f) es h q = ap (λ t. cond t nothing (cond (name_lt m n) (entry n es) (a_file f))) (below_only m n q) ∙ ap (λ t. cond t (entry n es) (a_file f)) q
  entry_later n m (a_dir b inside) es h q = ap (λ t. cond t nothing (cond (name_lt m n) (entry n es) (a_dir b inside))) (below_only m n q) ∙ ap (λ t. cond t (entry n es) (a_dir b inside)) q

  entry_before : (n m : Name) (x : Node D F) (es : Entries D F) → is_there x ≡ true → name_lt n m ≡ true → entry n (before m x es) ≡ nothing
  entry_before n m nothing es h p = absurd (cc)
  entry_before n m (a_file f) es h p = ap (λ t. cond t nothing (cond (name_lt m n) (entry n es) (a_file f))) p
  entry_before n m (a_dir b inside) es h p = ap (λ t. cond t nothing (cond (name_lt m n) (entry n es) (a_dir b inside))) p

  -- ---- two names

  module _ (m n : Name) (x y : Node D F) (less : name_lt m n ≡ true) (mx : is_there x ≡ true) (ny : is_there y ≡ true) where
    -- by the entry in front
    commute_at : (k : Name) (z : Node D F) (rest : Entries D F) → is_there z ≡ true
        → with_entry m x (with_entry n y rest) ≡ with_entry n y (with_entry m x rest)
        → with_entry m x (with_entry n y (before k z rest)) ≡ with_entry n y (with_entry m x (before k z rest))
    commute_at k z rest there later = elim (name_lt n k) as (λ t. name_lt n k ≡ t → with_entry m x (with_entry n y (before k z rest)) ≡ with_entry n y (with_entry m x (before k z rest))) [
      | true ↦ λ nk.
          let mk = lt_trans m n k less nk in
          ap (with_entry m x) (put_before n k y z rest there nk)
          ∙ (put_before m n x y (before k z rest) ny less
          ∙ sym (ap (with_entry n y) (put_before m k x z rest there mk)
          ∙ (put_later n m y x (before k z rest) mx less
          ∙ ap (before m x) (put_before n k y z rest there nk))))
      | false ↦ λ nk. elim (name_lt k n) as (λ t. name_lt k n ≡ t → with_entry m x (with_entry n y (before k z rest)) ≡ with_entry n y (with_entry m x (before k z rest))) [
        | false ↦ λ kn.
            let same = names_meet n k nk kn in
            let mk : name_lt m k ≡ true = ap (name_lt m) (sym same) ∙ less in
            ap (with_entry m x) (put_here n k y z rest there nk kn)
            ∙ (put_before m n x y rest ny less
            ∙ sym (ap (with_entry n y) (put_before m k x z rest there mk)
            ∙ (put_later n m y x (before k z rest) mx less
            ∙ ap (before m x) (put_here n k y z rest there nk kn))))
        | true ↦ λ kn. elim (name_lt m k) as (λ t. name_lt m k ≡ t → with_entry m x (with_entry n y (before k z rest)) ≡ with_entry n y (with_entry m x (before k z rest))) [
          | true ↦ λ mk.
              ap (with_entry m x) (put_later n k y z rest there kn)
              ∙ (put_before m k x z (with_entry n y rest) there mk
              ∙ sym (ap (with_entry n y) (put_before m k x z rest there mk)
              ∙ (put_later n m y x (before k z rest) mx less
              ∙ ap (before m x) (put_later n k y z rest there kn))))
          | false ↦ λ mk. elim (name_lt k m) as (λ t. name_lt k m ≡ t → with_entry m x (with_entry n y (before k z rest)) ≡ with_entry n y (with_entry m x (before k z rest))) [
            | false ↦ λ km.
                ap (with_entry m x) (put_later n k y z rest there kn)
                ∙ (put_here m k x z (with_entry n y rest) there mk km
                ∙ sym (ap (with_entry n y) (put_here m k x z rest there mk km)
                ∙ put_later n m y x rest mx less))
            | true ↦ λ km.
                ap (with_entry m x) (put_later n k y z rest there kn)
                ∙ (put_later m k x z (with_entry n y rest) there km
                ∙ (ap (before k z) later
                ∙ sym (ap (with_entry n y) (put_later m k x z rest there km)
                ∙ put_later n k y z (with_entry m x rest) there kn)))
          ] refl
        ] refl
      ] refl
    ] refl

    commute_less : (es : Entries D F) → with_entry m x (with_entry n y es) ≡ with_entry n y (with_entry m x es)
    commute_less none = put_before m n x y none ny less ∙ sym (put_later n m y x none mx less)
    commute_less (file k f rest) = commute_at k (a_file f) rest refl (commute_less rest)
    commute_less (dir k d inside rest) = commute_at k (a_dir d inside) rest refl (commute_less rest)

  -- what is put under different names may be put in either order
  pub with_entry-commutes : (m n : Name) (x y : Node D F) (es : Entries D F) → (m ≡ n → ⊥) → is_there x ≡ true → is_there y ≡ true → with_entry m x (with_entry n y es) ≡ with_entry n y (with_entry m x es)
  with_entry-commutes m n x y es other mx ny = elim (in_a_line m n other) [
    | inl less ↦ commute_less m n x y less mx ny es
    | inr more ↦ sym (commute_less n m y x more ny mx es)
  ]

  -- ---- one name

  again_at : (n k : Name) (x y z : Node D F) (rest : Entries D F) → is_there y ≡ true → is_there z ≡ true
      → with_entry n x (with_entry n y rest) ≡ with_entry n x rest
      → with_entry n x (with_entry n y (before k z rest)) ≡ with_entry n x (before k z rest)
  again_at n k x y z rest ny there later = elim (name_lt n k) as (λ t. name_lt n k ≡ t → with_entry n x (with_entry n y (before k z rest)) ≡ with_entry n x (before k z rest)) [
    | true ↦ λ nk.
        ap (with_entry n x) (put_before n k y z rest there nk)
        ∙ (put_here n n x y (before k z rest) ny (lt_irreflexive n) (lt_irreflexive n) ∙ sym (put_before n k x z rest there nk))
    | false ↦ λ nk. elim (name_lt k n) as (λ t. name_lt k n ≡ t → with_entry n x (with_entry n y (before k z rest)) ≡ with_entry n x (before k z rest)) [
      | false ↦ λ kn.
          ap (with_entry n x) (put_here n k y z rest there nk kn)
          ∙ (put_here n n x y rest ny (lt_irreflexive n) (lt_irreflexive n) ∙ sym (put_here n k x z rest there nk kn))
      | true ↦ λ kn.
          ap (with_entry n x) (put_later n k y z rest there kn)
          ∙ (put_later n k x z (with_entry n y rest) there kn ∙ (ap (before k z) later ∙ sym (put_later n k x z rest there kn)))
    ] refl
  ] refl

  -- what is put under a name takes the place of what was put there before
  pub with_entry-again : (n : Name) (x y : Node D F) (es : Entries D F) → is_there y ≡ true → with_entry n x (with_entry n y es) ≡ with_entry n x es
  with_entry-again n x y none ny = put_here n n x y none ny (lt_irreflexive n) (lt_irreflexive n)
  with_entry-again n x y (file k f rest) ny = again_at n k x y (a_file f) rest ny refl (with_entry-again n x y rest ny)
  with_entry-again n x y (dir k d inside rest) ny = again_at n k x y (a_dir d inside) rest ny refl (with_entry-again n x y rest ny)

  absent_at : (n k : Name) (z : Node D F) (rest : Entries D F) → is_there z ≡ true
      → (entry n rest ≡ nothing → with_entry n nothing rest ≡ rest)
      → entry n (before k z rest) ≡ nothing → with_entry n nothing (before k z rest) ≡ before k z rest
  absent_at n k z rest there later gone = elim (name_lt n k) as (λ t. name_lt n k ≡ t → with_entry n nothing (before k z rest) ≡ before k z rest) [
    | true ↦ λ nk. put_before n k nothing z rest there nk
    | false ↦ λ nk. elim (name_lt k n) as (λ t. name_lt k n ≡ t → with_entry n nothing (before k z rest) ≡ before k z rest) [
      | false ↦ λ kn. absurd (clash (is_there (entry n (before k z rest))) (ap is_there (entry_here n k z rest there nk kn) ∙ there) (ap is_there gone))
      | true ↦ λ kn. put_later n k nothing z rest there kn ∙ ap (before k z) (later (sym (entry_later n k z rest there kn) ∙ gone))
    ] refl
  ] refl

  -- a name that isn't there may be taken away
  pub without_absent : (n : Name) (es : Entries D F) → entry n es ≡ nothing → with_entry n nothing es ≡ es
  without_absent n none gone = refl
  without_absent n (file k f rest) gone = absent_at n k (a_file f) rest refl (without_absent n rest) gone
  without_absent n (dir k d inside rest) gone = absent_at n k (a_dir d inside) rest refl (without_absent n rest) gone

  -- ---- looked up again

  same_at : (n k : Name) (y z : Node D F) (rest : Entries D F) → is_there y ≡ true → is_there z ≡ true → entry n (with_entry n y rest) ≡ y → entry n (with_entry n y (before k z rest)) ≡ y
  same_at n k y z rest ny there later = elim (name_lt n k) as (λ t. name_lt n k ≡ t → entry n (with_entry n y (before k z rest)) ≡ y) [
    | true ↦ λ nk. ap (entry n) (put_before n k y z rest there nk) ∙ entry_here n n y (before k z rest) ny (lt_irreflexive n) (lt_irreflexive n)
    | false ↦ λ nk. elim (name_lt k n) as (λ t. name_lt k n ≡ t → entry n (with_entry n y (before k z rest)) ≡ y) [
      | false ↦ λ kn. ap (entry n) (put_here n k y z rest there nk kn) ∙ entry_here n n y rest ny (lt_irreflexive n) (lt_irreflexive n)
      | true ↦ λ kn. ap (entry n) (put_later n k y z rest there kn) ∙ (entry_later n k z (with_entry n y rest) there kn ∙ later)
    ] refl
  ] refl

  pub entry-same : (n : Name) (y : Node D F) (es : Entries D F) → is_there y ≡ true → entry n (with_entry n y es) ≡ y
  entry-same n y none ny = entry_here n n y none ny (lt_irreflexive n) (lt_irreflexive n)
  entry-same n y (file k f rest) ny = same_at n k y (a_file f) rest ny refl (entry-same n y rest ny)
  entry-same n y (dir k d inside rest) ny = same_at n k y (a_dir d inside) rest ny refl (entry-same n y rest ny)

  other_at : (m n k : Name) (y z : Node D F) (rest : Entries D F) → (m ≡ n → ⊥) → is_there y ≡ true → is_there z ≡ true
      → entry m (with_entry n y rest) ≡ entry m rest → entry m (with_entry n y (before k z rest)) ≡ entry m (before k z rest)
  other_at m n k y z rest other ny there later = elim (name_lt n k) as (λ t. name_lt n k ≡ t → entry m (with_entry n y (before k z rest)) ≡ entry m (before k z rest)) [
    | true ↦ λ nk. ap (entry m) (put_before n k y z rest there nk) ∙ elim (in_a_line m n other) [
      | inl less ↦ entry_before m n y (before k z rest) ny less ∙ sym (entry_before m k z rest there (lt_trans m n k less nk))
      | inr more ↦ entry_later m n y (before k z rest) ny more
    ]
    | false ↦ λ nk. elim (name_lt k n) as (λ t. name_lt k n ≡ t → entry m (with_entry n y (before k z rest)) ≡ entry m (before k z rest)) [
      | false ↦ λ kn. ap (entry m) (put_here n k y z rest there nk kn) ∙ elim (in_a_line m n other) [
        | inl less ↦ entry_before m n y rest ny less ∙ sym (entry_before m k z rest there (ap (name_lt m) (sym (names_meet n k nk kn)) ∙ less))
        | inr more ↦ entry_later m n y rest ny more ∙ sym (entry_later m k z rest there (ap (λ j. name_lt j m) (sym (names_meet n k nk kn)) ∙ more))
      ]
      | true ↦ λ kn. ap (entry m) (put_later n k y z rest there kn) ∙ elim (name_lt m k) as (λ t. name_lt m k ≡ t → entry m (before k z (with_entry n y rest)) ≡ entry m (before k z rest)) [
        | true ↦ λ mk. entry_before m k z (with_entry n y rest) there mk ∙ sym (entry_before m k z rest there mk)
        | false ↦ λ mk. elim (name_lt k m) as (λ t. name_lt k m ≡ t → entry m (before k z (with_entry n y rest)) ≡ entry m (before k z rest)) [
          | false ↦ λ km. entry_here m k z (with_entry n y rest) there mk km ∙ sym (entry_here m k z rest there mk km)
          | true ↦ λ km. entry_later m k z (with_entry n y rest) there km ∙ (later ∙ sym (entry_later m k z rest there km))
        ] refl
      ] refl
    ] refl
  ] refl

  pub entry-other : (m n : Name) (y : Node D F) (es : Entries D F) → (m ≡ n → ⊥) → is_there y ≡ true → entry m (with_entry n y es) ≡ entry m es
  entry-other m n y none other ny = elim (in_a_line m n other) [ inl less ↦ entry_before m n y none ny less | inr more ↦ entry_later m n y none ny more ]
  entry-other m n y (file k f rest) other ny = other_at m n k y (a_file f) rest other ny refl (entry-other m n y rest other ny)
  entry-other m n y (dir k d inside rest) other ny = other_at m n k y (a_dir d inside) rest other ny refl (entry-other m n y rest other ny)
