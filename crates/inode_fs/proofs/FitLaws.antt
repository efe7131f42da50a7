-- What fits to what a look has come to, and what is then come to.
use Rattle.std.proofs.Common.{◌≡◌, ℕ, Bool, true, false, ◌||◌, ◌==◌, List, [], ◌∷◌, ◌++◌, refl, sym, ◌∙◌, ap, inl, inr}
use Rattle.inode_fs.proofs.Common.{or_cases, or_left, or_right, eq-eqb, eqb-true, has_number, are_apart, any-append, number_left, number_right, in_append, clash, is_false, neither, no_or, apart_first, apart_with, Come, is_come, with_inode}

-- ---- lists none of whose blocks stands twice

not_in_append : (xs ys : List ℕ) (c : ℕ) → has_number (xs ++ ys) c ≡ false → (has_number xs c ≡ false) × (has_number ys c ≡ false)
not_in_append xs ys c h = neither (has_number xs c) (has_number ys c) (sym (any-append (λ x. x == c) xs ys) ∙ h)

not_in_both : (xs ys : List ℕ) (c : ℕ) → has_number xs c ≡ false → has_number ys c ≡ false → has_number (xs ++ ys) c ≡ false
not_in_both xs ys c p q = any-append (λ x. x == c) xs ys ∙ no_or (has_number xs c) (has_number ys c) p q

apart_append : (xs ys : List ℕ) → are_apart xs ≡ true → are_apart ys ≡ true → ((c : ℕ) → has_number xs c ≡ true → has_number ys c ≡ false) → are_apart (xs ++ ys) ≡ true
apart_append [] ys p q h = q
apart_append (x ∷ xs) ys p q h =
    let parts = apart_first x xs p in
    apart_with x (xs ++ ys) (not_in_both xs ys x parts.0 (h x (or_left (x == x) _ (eq-eqb x x refl))))
    (apart_append xs ys parts.1 q (λ c m. h c (or_right (x == c) _ m)))

pub apart_left : (xs ys : List ℕ) → are_apart (xs ++ ys) ≡ true → are_apart xs ≡ true
apart_left [] ys h = refl
apart_left (x ∷ xs) ys h = let parts = apart_first x (xs ++ ys) h in apart_with x xs (not_in_append xs ys x parts.0).0 (apart_left xs ys parts.1)

pub apart_right : (xs ys : List ℕ) → are_apart (xs ++ ys) ≡ true → are_apart ys ≡ true
apart_right [] ys h = h
apart_right (x ∷ xs) ys h = apart_right xs ys (apart_first x (xs ++ ys) h).1

pub apart_across : (xs ys : List ℕ) → are_apart (xs ++ ys) ≡ true → (c : ℕ) → has_number ys c ≡ true → has_number xs c ≡ false
apart_across [] ys h c m = refl
apart_across (x ∷ xs) ys h c m =
    let parts = apart_first x (xs ++ ys) h in
    no_or (x == c) (has_number xs c)
    (is_false (x == c) (λ e. clash (has_number ys c) m (ap (has_number ys) (sym (eqb-true x c e)) ∙ (not_in_append xs ys x parts.0).1)))
    (apart_across xs ys parts.1 c m)

-- ---- what fits

-- these inodes are new and none twice, and these blocks of bytes are no inodes
pub record Fits (s : Come) (bs ds : List ℕ) : Type 0 where
  pub apart : are_apart bs ≡ true
  pub new : (c : ℕ) → has_number bs c ≡ true → is_come s c ≡ false
  pub other : (c : ℕ) → has_number ds c ≡ true → (has_number s.inodes c ≡ false) × (has_number bs c ≡ false)

-- what is come to more
pub record Adds (s t : Come) (bs ds : List ℕ) : Type 0 where
  pub inodes : (c : ℕ) → has_number t.inodes c ≡ (has_number bs c || has_number s.inodes c)
  pub bytes : (c : ℕ) → has_number t.bytes c ≡ (has_number ds c || has_number s.bytes c)

pub fits_none : (s : Come) → Fits s [] []
fits_none s = record { apart = refl; new = λ c m. absurd (cc); other = λ c m. absurd (cc) }

pub adds_none : (s : Come) → Adds s s [] []
adds_none s = record { inodes = λ c. refl; bytes = λ c. refl }

-- one inode
pub fits_one : (s : Come) (b : ℕ) → is_come s b ≡ false → Fits s (b ∷ []) []
fits_one s b h = record {
  apart = refl;
  new = λ c m. elim (or_cases (b == c) false m) [ inl e ↦ ap (is_come s) (sym (eqb-true b c e)) ∙ h | inr never ↦ absurd (cc) ];
  other = λ c m. absurd (cc);
}

pub adds_one : (s : Come) (b : ℕ) → Adds s (with_inode s b) (b ∷ []) []
adds_one s b = record { inodes = λ c. one (b == c) (has_number s.inodes c); bytes = λ c. refl }
  where
    one : (p q : Bool) → (p || q) ≡ ((p || false) || q)
    one true q = refl
    one false q = refl

three : (p q r : Bool) → (q || (p || r)) ≡ ((p || q) || r)
three true true r = refl
three true false r = refl
three false q r = refl

module _ (s t : Come) (bs ds cs es : List ℕ) where
  pub fits_both : Fits s bs ds → Adds s t bs ds → Fits t cs es → Fits s (bs ++ cs) (ds ++ es)
  fits_both first adds second =
      let not_later : (c : ℕ) → has_number bs c ≡ true → has_number cs c ≡ false =
      λ c m. is_false (has_number cs c) (λ k. clash (has_number t.inodes c) (adds.inodes c ∙ or_left (has_number bs c) _ m) (neither (has_number t.inodes c) (has_number t.bytes c) (second.new c k)).0) in
      record {
        apart = apart_append bs cs first.apart second.apart not_later;
        new = λ c m. elim (in_append bs cs c m) [
          | inl one ↦ first.new c one
          | inr two ↦
              let later = neither (has_number t.inodes c) (has_number t.bytes c) (second.new c two) in
              no_or (has_number s.inodes c) (has_number s.bytes c)
              (neither (has_number bs c) (has_number s.inodes c) (sym (adds.inodes c) ∙ later.0)).1
              (neither (has_number ds c) (has_number s.bytes c) (sym (adds.bytes c) ∙ later.1)).1
        ];
        other = λ c m. elim (in_append ds es c m) [
          | inl one ↦ (
            (first.other c one).0,
            not_in_both bs cs c (first.other c one).1 (is_false (has_number cs c) (λ k. clash (has_number t.bytes c) (adds.bytes c ∙ or_left (has_number ds c) _ one) (neither (has_number t.inodes c) (has_number t.bytes c) (second.new c k)).1)),
          )
          | inr two ↦
              let both = second.other c two in
              let before = neither (has_number bs c) (has_number s.inodes c) (sym (adds.inodes c) ∙ both.0) in
              (before.1, not_in_both bs cs c before.0 both.1)
        ];
      }

  pub adds_both : (u : Come) → Adds s t bs ds → Adds t u cs es → Adds s u (bs ++ cs) (ds ++ es)
  adds_both u first second = record {
    inodes = λ c. second.inodes c ∙ (ap (λ x. has_number cs c || x) (first.inodes c) ∙ (three (has_number bs c) (has_number cs c) (has_number s.inodes c) ∙ ap (λ x. x || has_number s.inodes c) (sym (any-append (λ x. x == c) bs cs))));
    bytes = λ c. second.bytes c ∙ (ap (λ x. has_number es c || x) (first.bytes c) ∙ (three (has_number ds c) (has_number es c) (has_number s.bytes c) ∙ ap (λ x. x || has_number s.bytes c) (sym (any-append (λ x. x == c) ds es))));
  }

  pub first_fits : Fits s (bs ++ cs) (ds ++ es) → Fits s bs ds
  first_fits both = record {
    apart = apart_left bs cs both.apart;
    new = λ c m. both.new c (number_left bs cs c m);
    other = λ c m. let o = both.other c (number_left ds es c m) in (o.0, (not_in_append bs cs c o.1).0);
  }

  pub second_fits : Fits s (bs ++ cs) (ds ++ es) → Adds s t bs ds → Fits t cs es
  second_fits both adds = record {
    apart = apart_right bs cs both.apart;
    new = λ c m.
        let seen = neither (has_number s.inodes c) (has_number s.bytes c) (both.new c (number_right bs cs c m)) in
        no_or (has_number t.inodes c) (has_number t.bytes c)
        (adds.inodes c ∙ no_or (has_number bs c) (has_number s.inodes c) (apart_across bs cs both.apart c m) seen.0)
        (adds.bytes c ∙ no_or (has_number ds c) (has_number s.bytes c)
        (is_false (has_number ds c) (λ k. clash (has_number (bs ++ cs) c) (number_right bs cs c m) (both.other c (number_left ds es c k)).1)) seen.1);
    other = λ c m.
        let o = both.other c (number_right ds es c m) in
        let parts = not_in_append bs cs c o.1 in
        (adds.inodes c ∙ no_or (has_number bs c) (has_number s.inodes c) parts.0 o.0, parts.1);
  }
