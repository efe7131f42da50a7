-- What a word is read as, it spells, and the other way.
use Rattle.std.proofs.Common.{◌≡◌, ◌≢◌, ℕ, ◌*◌, ◌/◌, ◌%◌, ◌^◌, ◌<◌, ◌≤◌, Bool, true, false, cond, ◌&&◌, ◌==◌, nat_lt, nat_le, List, [], ◌∷◌, length, drop, refl, sym, ◌∙◌, ap, subst, arith, inl, inr, Option, Some, None, Result, Ok, Err}
use Rattle.std.specs.Prelude.{codes, bytes_eq, option_map}
use Rattle.std.specs.Char.{is_ascii_digit}
use Rattle.std.specs.Str.Parse.{AllDigits, IsNumeral, ParsesUnsigned, digits_value, without_leading_plus}
use Rattle.std.specs.Result.{OkIff, result_ok}
use Rattle.std.proofs.lemmas.Str.{digit_value_digit}
use Rattle.std.proofs.lemmas.Str.Parse.{digit_from_value}
use Rattle.std.proofs.lemmas.Bool.{and_parts, and_from, ltb-true, lt-ltb, leb-true, le-leb}
use Rattle.std.proofs.lemmas.Slice.Eq.{bytes_eq-Decides}
use Rattle.std.specs.List.{list_all}
use Rattle.std.proofs.lemmas.Bool.Decides.{nat_tests}
use Rattle.hex.specs.Hex.{decode_sized}
use Rattle.hex.proofs.HexLemmas.{decode_sized-twice, decode_sized-ok, decode_of-ok}
use Rattle.tsd_model.specs.declared.caps.Cap.{Cap}
use Rattle.tsd_model.specs.declared.caps.Shown.{Shown}
use Rattle.tsd_model.specs.declared.caps.Shown.TheVariants.{Nothing, Key}
use Rattle.tsd_model.specs.declared.requests.Hint.{Hint}
use Rattle.tsd_model.specs.declared.requests.Hint.TheVariants.{Null, At}
use Rattle.script_text.specs.Reading.{is_number, num_of, new_of, shown_of, hint_of, data_of}
use Rattle.script_text.specs.Grammar.{IsNumber, IsCapText, IsShownText, IsHint, IsData}

pub cond_some : {A : Type 0} (t : Bool) (o : Option A) (x : A) → cond t o None ≡ Some x → (t ≡ true) × (o ≡ Some x)
cond_some true o x e = (refl, e)
cond_some false o x e = absurd (cc)

dash : List ℕ
dash = codes "-"

-- ---- numbers

pub digits_are : (w : List ℕ) → list_all is_ascii_digit w ≡ true → AllDigits 10 w
digits_are [] h = tt
digits_are (c ∷ cs) h =
    let parts = and_parts (is_ascii_digit c) (list_all is_ascii_digit cs) h in
    let range = and_parts (nat_le 48 c) (nat_le c 57) parts.0 in
    let low : 48 ≤ c = leb-true 48 c range.0 in
    let high : c ≤ 57 = leb-true c 57 range.1 in
    (omega (arith, digit_value_digit c (low, high)), digits_are cs parts.1)

pub are_digits : (w : List ℕ) → AllDigits 10 w → list_all is_ascii_digit w ≡ true
are_digits [] h = refl
are_digits (c ∷ cs) h =
    let range = digit_from_value c h.0 in
    and_from (is_ascii_digit c) (list_all is_ascii_digit cs) (and_from (nat_le 48 c) (nat_le c 57) (le-leb 48 c range.0) (le-leb c 57 range.1)) (are_digits cs h.1)

pub num_is : (w : List ℕ) (n : ℕ) → num_of w ≡ Some n → IsNumber w n
num_is w n e =
    let two = cond_some (is_number w) (Some (digits_value 10 w)) n e in
    let halves = and_parts (nat_le (length w) 10 && list_all is_ascii_digit w) (nat_le 1 (length w) && nat_lt (digits_value 10 w) (2 ^ 32)) two.0 in
    let form = and_parts (nat_le (length w) 10) (list_all is_ascii_digit w) halves.0 in
    let size = and_parts (nat_le 1 (length w)) (nat_lt (digits_value 10 w) (2 ^ 32)) halves.1 in
    let same : digits_value 10 w ≡ n = cc in
    let some : 1 ≤ length w = leb-true 1 (length w) size.0 in
    record { digits = (omega arith, digits_are w form.1); few = leb-true (length w) 10 form.0; value = same; fits = subst (λ k. k < 2 ^ 32) same (ltb-true (digits_value 10 w) (2 ^ 32) size.1) }

pub num_back : (w : List ℕ) (n : ℕ) → IsNumber w n → num_of w ≡ Some n
num_back w n h =
    let small : digits_value 10 w < 2 ^ 32 = subst (λ k. k < 2 ^ 32) (sym h.value) h.fits in
    let some : 1 ≤ length w = omega (arith, h.digits.0) in
    ap (λ t. cond t (Some (digits_value 10 w)) None)
    (and_from (nat_le (length w) 10 && list_all is_ascii_digit w) (nat_le 1 (length w) && nat_lt (digits_value 10 w) (2 ^ 32))
    (and_from (nat_le (length w) 10) (list_all is_ascii_digit w) (le-leb (length w) 10 h.few) (are_digits w h.digits.1))
    (and_from (nat_le 1 (length w)) (nat_lt (digits_value 10 w) (2 ^ 32)) (le-leb 1 (length w) some) (lt-ltb (digits_value 10 w) (2 ^ 32) small)))
    ∙ ap (λ k. Some k) h.value

-- std's reading of such a word is ours
digits_no_plus : (w : List ℕ) → list_all is_ascii_digit w ≡ true → without_leading_plus w ≡ w
digits_no_plus [] h = refl
digits_no_plus (c ∷ cs) h =
    let low : 48 ≤ c = leb-true 48 c (and_parts (nat_le 48 c) (nat_le c 57) (and_parts (is_ascii_digit c) (list_all is_ascii_digit cs) h).0).0 in
    let other : (c == 43) ≡ false = grind (arith, nat_tests) in
    ap (λ t. drop (cond t 1 0) (c ∷ cs)) other

pub parsed_is : {E : Type 0} (w : List ℕ) (r : Result ℕ E) → list_all is_ascii_digit w ≡ true → length w ≤ 10 → ParsesUnsigned 32 10 w r → result_ok r ≡ num_of w
parsed_is {E} w r digits few h = by r (subst (λ v. OkIff r (IsNumeral 10 v × (digits_value 10 v < 2 ^ 32)) (digits_value 10 v)) (digits_no_plus w digits) h)
  where
    by : (x : Result ℕ E) → OkIff x (IsNumeral 10 w × (digits_value 10 w < 2 ^ 32)) (digits_value 10 w) → result_ok x ≡ num_of w
    by (Ok n) g = sym (num_back w n (record { digits = g.0.0; few = few; value = sym g.1; fits = subst (λ k. k < 2 ^ 32) (sym g.1) g.0.1 }))
    by (Err e) g = elim (num_of w) as (λ o. num_of w ≡ o → None ≡ o) [
      | None ↦ λ f. refl
      | Some n ↦ λ f. let s = num_is w n f in absurd (g (s.digits, subst (λ k. k < 2 ^ 32) (sym s.value) s.fits))
    ] refl

-- ---- capabilities, hints and bytes

-- a word of other than one letter is no dash
no_dash : (w : List ℕ) → length w ≢ 1 → bytes_eq w (codes "-") ≡ false
no_dash [] e = refl
no_dash (x ∷ []) e = absurd (e refl)
no_dash (x ∷ y ∷ w) e = elim (x == 45) as (λ t. (t && false) ≡ false) [ true ↦ refl | false ↦ refl ]

ok_is : {E : Type 0} (r : Result (List ℕ) E) (x : List ℕ) → result_ok r ≡ Some x → r ≡ Ok x
ok_is (Ok y) x e = let same : y ≡ x = cc in ap (λ z. Ok z) same
ok_is (Err f) x e = absurd (cc)

-- what a map gave was something before
mapped_is : {A B : Type 0} (f : A → B) (o : Option A) (y : B) → option_map f o ≡ Some y → (x : A) × (o ≡ Some x) × (f x ≡ y)
mapped_is f None y e = absurd (cc)
mapped_is f (Some x) y e = (x, refl, cc)

pub new_is : (w : List ℕ) (cap : Cap) → new_of w ≡ Some cap → IsCapText w cap
new_is w cap e =
    let m = mapped_is (λ bytes. let c : Cap = record { bytes = bytes } in c) (result_ok (decode_sized w 16)) cap e in
    let r = ok_is (decode_sized w 16) m.0 m.1 in
    let long : length w ≡ 32 = decode_sized-ok w 16 m.0 r in
    subst (IsCapText w) m.2 (long, sym (decode_sized-twice w 16 long) ∙ r)

pub new_back : (w : List ℕ) (cap : Cap) → IsCapText w cap → new_of w ≡ Some cap
new_back w cap h = ap (λ r. option_map (λ bytes. let c : Cap = record { bytes = bytes } in c) (result_ok r)) (decode_sized-twice w 16 h.0 ∙ h.1)

pub shown_is : (w : List ℕ) (c : Shown) → shown_of w ≡ Some c → IsShownText w c
shown_is w c e =
    elim (bytes_eq w (codes "-")) as (λ t. bytes_eq w (codes "-") ≡ t → cond t (Some Nothing) (option_map (λ cap. Key cap) (new_of w)) ≡ Some c → IsShownText w c) [
      | true ↦ λ p q. let same : Nothing ≡ c = cc in subst (IsShownText w) same ((bytes_eq-Decides w (codes "-")).0 p)
      | false ↦ λ p q. let m = mapped_is (λ cap. Key cap) (new_of w) c q in subst (IsShownText w) m.2 (new_is w m.0 m.1)
    ] refl e

pub shown_back : (w : List ℕ) (c : Shown) → IsShownText w c → shown_of w ≡ Some c
shown_back w Nothing h = ap (λ t. cond t (Some Nothing) (option_map (λ cap. Key cap) (new_of w))) ((bytes_eq-Decides w (codes "-")).1 h)
shown_back w (Key cap) h =
    ap (λ t. cond t (Some Nothing) (option_map (λ k. Key k) (new_of w))) (no_dash w (λ e. absurd (omega (arith, h.0, e))))
    ∙ ap (option_map (λ k. Key k)) (new_back w cap h)

pub hint_is : (w : List ℕ) (h : Hint) → hint_of w ≡ Some h → IsHint w h
hint_is w h e =
    elim (bytes_eq w (codes "-")) as (λ t. bytes_eq w (codes "-") ≡ t → cond t (Some Null) (option_map (λ b. At b) (num_of w)) ≡ Some h → IsHint w h) [
      | true ↦ λ p q. let same : Null ≡ h = cc in subst (IsHint w) same ((bytes_eq-Decides w (codes "-")).0 p)
      | false ↦ λ p q. let m = mapped_is (λ b. At b) (num_of w) h q in subst (IsHint w) m.2 (num_is w m.0 m.1)
    ] refl e

-- a number is no dash
digit_no_dash : (w : List ℕ) → list_all is_ascii_digit w ≡ true → bytes_eq w (codes "-") ≡ false
digit_no_dash [] h = refl
digit_no_dash (x ∷ y ∷ w) h = elim (x == 45) as (λ t. (t && false) ≡ false) [ true ↦ refl | false ↦ refl ]
digit_no_dash (x ∷ []) h = let low : 48 ≤ x = leb-true 48 x (and_parts (nat_le 48 x) (nat_le x 57) (and_parts (is_ascii_digit x) true h).0).0 in grind (arith, nat_tests)

pub hint_back : (w : List ℕ) (h : Hint) → IsHint w h → hint_of w ≡ Some h
hint_back w Null h = ap (λ t. cond t (Some Null) (option_map (λ b. At b) (num_of w))) ((bytes_eq-Decides w (codes "-")).1 h)
hint_back w (At b) h =
    ap (λ t. cond t (Some Null) (option_map (λ n. At n) (num_of w))) (digit_no_dash w (are_digits w h.digits.1))
    ∙ ap (option_map (λ n. At n)) (num_back w b h)

half_of : (n : ℕ) → n % 2 ≡ 0 → n ≡ 2 * (n / 2)
half_of n e = omega arith

pub data_is : (w bytes : List ℕ) → data_of w ≡ Some bytes → IsData w bytes
data_is w bytes e =
    elim (bytes_eq w (codes "-")) as (λ t. bytes_eq w (codes "-") ≡ t → cond t (Some []) (cond (nat_le 2 (length w) && nat_le (length w) 8192) (result_ok (decode_sized w (length w / 2))) None) ≡ Some bytes → IsData w bytes) [
      | true ↦ λ p q. let same : [] ≡ bytes = cc in inl ((bytes_eq-Decides w (codes "-")).0 p, sym same)
      | false ↦ λ p q.
          let two = cond_some (nat_le 2 (length w) && nat_le (length w) 8192) (result_ok (decode_sized w (length w / 2))) bytes q in
          let parts = and_parts (nat_le 2 (length w)) (nat_le (length w) 8192) two.0 in
          let r = ok_is (decode_sized w (length w / 2)) bytes two.1 in
          let long = decode_sized-ok w (length w / 2) bytes r in
          inr (leb-true 2 (length w) parts.0, leb-true (length w) 8192 parts.1, sym (decode_sized-twice w (length w / 2) long) ∙ r)
    ] refl e

pub data_back : (w bytes : List ℕ) → IsData w bytes → data_of w ≡ Some bytes
data_back w bytes h = elim h [
  | inl none ↦ ap (λ t. cond t (Some []) (cond (nat_le 2 (length w) && nat_le (length w) 8192) (result_ok (decode_sized w (length w / 2))) None)) ((bytes_eq-Decides w (codes "-")).1 none.0) ∙ ap (λ x. Some x) (sym none.1)
  | inr digits ↦
      let even = (decode_of-ok w bytes digits.2).0 in
      ap (λ t. cond t (Some []) (cond (nat_le 2 (length w) && nat_le (length w) 8192) (result_ok (decode_sized w (length w / 2))) None)) (no_dash w (λ e. absurd (omega (arith, digits.0, e))))
      ∙ ap (λ t. cond t (result_ok (decode_sized w (length w / 2))) None) (and_from (nat_le 2 (length w)) (nat_le (length w) 8192) (le-leb 2 (length w) digits.0) (le-leb (length w) 8192 digits.1))
      ∙ ap result_ok (decode_sized-twice w (length w / 2) (half_of (length w) even) ∙ digits.2)
]
