-- What is read of one field is its spelling, and what is spelled is read.
use Rattle.std.proofs.Common.{◌≡◌, ℕ, suc, ◌+◌, ◌*◌, ◌^◌, ◌<◌, ◌≤◌, ◌/◌, ◌%◌, true, false, cond, ◌==◌, nat_le, List, [], ◌∷◌, ◌++◌, length, take, drop, get_or, refl, sym, ◌∙◌, ap, subst, arith, append-nil, Option, Some, None}
use Rattle.std.specs.Prelude.{option_map}
use Rattle.std.proofs.lemmas.Bool.{leb-true, le-leb, eqb-true}
use Rattle.std.proofs.lemmas.List.{get_or-drop, length-append, length-take, take_at, drop_at, take-append-drop}
use Rattle.byteorder.specs.Endian.{little_number, little_bytes}
use Rattle.byteorder.specs.Numbers.{little_from-take, little_number-reads_back}
use Rattle.tsd_model.specs.declared.caps.Cap.{Cap}
use Rattle.tsd_model.specs.declared.caps.Shown.{Shown}
use Rattle.tsd_model.specs.declared.caps.Shown.TheVariants.{Nothing, Key}
use Rattle.tsd_model.specs.declared.requests.Hint.{Hint}
use Rattle.tsd_model.specs.declared.requests.Hint.TheVariants.{Null, At}
use Rattle.tsd_model.specs.declared.requests.Level.{Level}
use Rattle.tsd_model.specs.declared.requests.Level.TheVariants as level
use Rattle.request_frames.specs.Fields.{Field, Number, Show, New, Near, Rank, Bytes, level_code, field_bytes, HasRoomFor, AllFit, bytes_of}
use Rattle.request_frames.specs.Reading.{num_of, cap_of, shown_of, hint_of, level_of, data_of, wrapped, flagged, ends, ◌>>=◌}

-- each is below 256
abbrev pub AreBytes : List ℕ → Type 0
AreBytes bs = (i : ℕ) → get_or bs i 0 < 256

pub bytes-drop : (k : ℕ) (bs : List ℕ) → AreBytes bs → AreBytes (drop k bs)
bytes-drop k bs all i = subst (λ x. x < 256) (sym (get_or-drop k bs i 0)) (all (k + i))

-- ---- numbers

-- four bytes are those of the number in them
same_four : (a b c d : ℕ) → a < 256 → b < 256 → c < 256 → d < 256 → (n : ℕ) → n ≡ a + 256 * (b + 256 * (c + 256 * d)) → (n < 4294967296) × (a ≡ n % 256) × (b ≡ n / 256 % 256) × (c ≡ n / 65536 % 256) × (d ≡ n / 16777216 % 256)
same_four a b c d ha hb hc hd n e = (omega arith, omega arith, omega arith, omega arith, omega arith)

pub number_is : (bs : List ℕ) → AreBytes bs → 4 ≤ length bs → (little_number 4 bs < 2 ^ 32) × (bs ≡ little_bytes 4 (little_number 4 bs) ++ drop 4 bs)
number_is [] all h = absurd (omega (arith, h))
number_is (a ∷ []) all h = absurd (omega (arith, h))
number_is (a ∷ b ∷ []) all h = absurd (omega (arith, h))
number_is (a ∷ b ∷ c ∷ []) all h = absurd (omega (arith, h))
number_is (a ∷ b ∷ c ∷ d ∷ rest) all h =
    let n : ℕ = little_number 4 (a ∷ b ∷ c ∷ d ∷ rest) in
    let e : n ≡ a + 256 * (b + 256 * (c + 256 * d)) = omega arith in
    let s = same_four a b c d (all 0) (all 1) (all 2) (all 3) n e in
    (s.0, λ i. s.1 i ∷ s.2 i ∷ s.3 i ∷ s.4 i ∷ rest)

-- four bytes have the number of those that begin with them
pub number_taken : (bs : List ℕ) → little_number 4 (take 4 bs) ≡ little_number 4 bs
number_taken bs = little_from-take 0 4 4 bs (omega arith)

-- ---- readers

-- what it reads is spelled by the bytes that it takes
abbrev pub Sound : {A : Type 0} → (A → Field) → (List ℕ → Option (A × List ℕ)) → Type 0
Sound {A} f r = (bs : List ℕ) (x : A) (rest : List ℕ) → AreBytes bs → r bs ≡ Some (x, rest) → HasRoomFor (f x) × (bs ≡ field_bytes (f x) ++ rest) × AreBytes rest

-- a value was read, and these bytes are left
abbrev pub leaves : {A : Type 0} → A → List ℕ → Option (A × List ℕ)
leaves x rest = Some (x, rest)

pub some_is : {A : Type 0} {x y : A} → Some x ≡ Some y → x ≡ y
some_is e = cc

pub num_sound : Sound (λ n. Number n) num_of
unfolding num_of
num_sound bs x rest all e =
    elim (nat_le 4 (length bs)) as (λ t. nat_le 4 (length bs) ≡ t → cond t (leaves (little_number 4 bs) (drop 4 bs)) None ≡ leaves x rest → (x < 2 ^ 32) × (bs ≡ little_bytes 4 x ++ rest) × AreBytes rest) [
      | true ↦ λ p q. let n = number_is bs all (leb-true 4 (length bs) p) in
          subst (λ (v : ℕ × List ℕ). (v.0 < 2 ^ 32) × (bs ≡ little_bytes 4 v.0 ++ v.1) × AreBytes v.1) (some_is q) (n.0, n.1, bytes-drop 4 bs all)
      | false ↦ λ p q. absurd (cc)
    ] refl e

pub cap_sound : Sound (λ cap. New cap) cap_of
cap_sound bs x rest all e =
    elim (nat_le 16 (length bs)) as (λ t. nat_le 16 (length bs) ≡ t → cond t (leaves (record { bytes = take 16 bs }) (drop 16 bs)) None ≡ leaves x rest → (length x.bytes ≡ 16) × (bs ≡ x.bytes ++ rest) × AreBytes rest) [
      | true ↦ λ p q. let long : length (take 16 bs) ≡ 16 = omega (arith, length-take 16 bs, leb-true 16 (length bs) p) in
          subst (λ (v : Cap × List ℕ). (length v.0.bytes ≡ 16) × (bs ≡ v.0.bytes ++ v.1) × AreBytes v.1) (some_is q) (long, sym (take-append-drop 16 bs), bytes-drop 16 bs all)
      | false ↦ λ p q. absurd (cc)
    ] refl e

pub same_value : {A : Type 0} {x y : A} {r s : List ℕ} → leaves x r ≡ leaves y s → x ≡ y
same_value {A} {x} {y} {r} {s} e = let p : ◌≡◌ {A = A × List ℕ} (x, r) (y, s) = some_is e in ap (λ (v : A × List ℕ). v.0) p

pub same_rest : {A : Type 0} {x y : A} {r s : List ℕ} → leaves x r ≡ leaves y s → r ≡ s
same_rest {A} {x} {y} {r} {s} e = let p : ◌≡◌ {A = A × List ℕ} (x, r) (y, s) = some_is e in ap (λ (v : A × List ℕ). v.1) p

-- a byte 0, or a byte 1 and something
flagged_is : {A B : Type 0} (none : A) (some : B → A) (read : List ℕ → Option (B × List ℕ)) (bs : List ℕ) (x : A) (rest : List ℕ) → (P : A → Type 0) → flagged none some read bs ≡ Some (x, rest)
    → (bs ≡ 0 ∷ rest → P none)
    → ((y : B) (more : List ℕ) → bs ≡ 1 ∷ more → read more ≡ Some (y, rest) → P (some y))
    → P x
flagged_is none some read [] x rest P e one two = absurd (cc)
flagged_is {A} {B} none some read (b ∷ bs) x rest P e one two =
    elim (b == 0) as (λ t. (b == 0) ≡ t → cond t (leaves none bs) (cond (b == 1) (option_map (wrapped some) (read bs)) None) ≡ leaves x rest → P x) [
      | true ↦ λ p q. subst P (same_value q) (one (λ i. eqb-true b 0 p i ∷ same_rest q i))
      | false ↦ λ p q. elim (b == 1) as (λ t. (b == 1) ≡ t → cond t (option_map (wrapped some) (read bs)) None ≡ leaves x rest → P x) [
        | true ↦ λ p1 q1. elim (read bs) as (λ o. read bs ≡ o → option_map (wrapped some) o ≡ leaves x rest → P x) [
          | None ↦ λ p2 q2. absurd (cc)
          | Some y ↦ λ p2 q2. subst P (same_value q2) (two y.0 bs (ap (λ c. c ∷ bs) (eqb-true b 1 p1)) (p2 ∙ ap (λ r. leaves y.0 r) (same_rest q2)))
        ] refl q1
        | false ↦ λ p1 q1. absurd (cc)
      ] refl q
    ] refl e

tail_bytes : (b : ℕ) (bs more : List ℕ) → bs ≡ b ∷ more → AreBytes bs → AreBytes more
tail_bytes b bs more e all i = subst (λ xs. get_or xs (suc i) 0 < 256) e (all (suc i))

pub shown_sound : Sound (λ shown. Show shown) shown_of
shown_sound bs x rest all e = flagged_is Nothing (λ cap. Key cap) cap_of bs x rest (λ s. HasRoomFor (Show s) × (bs ≡ field_bytes (Show s) ++ rest) × AreBytes rest) e
    (λ g. (tt, g, tail_bytes 0 bs rest g all))
    (λ y more g h. let c = cap_sound more y rest (tail_bytes 1 bs more g all) h in (c.0, g ∙ ap (λ xs. 1 ∷ xs) c.1, c.2))

pub hint_sound : Sound (λ hint. Near hint) hint_of
hint_sound bs x rest all e = flagged_is Null (λ b. At b) num_of bs x rest (λ h. HasRoomFor (Near h) × (bs ≡ field_bytes (Near h) ++ rest) × AreBytes rest) e
    (λ g. (tt, g, tail_bytes 0 bs rest g all))
    (λ y more g h. let c = num_sound more y rest (tail_bytes 1 bs more g all) h in (c.0, g ∙ ap (λ xs. 1 ∷ xs) c.1, c.2))

pub data_sound : Sound (λ bytes. Bytes bytes) data_of
data_sound bs x rest all e =
    elim (nat_le (length bs) 4096) as (λ t. nat_le (length bs) 4096 ≡ t → cond t (leaves bs []) None ≡ leaves x rest → (length x ≤ 4096) × (bs ≡ x ++ rest) × AreBytes rest) [
      | true ↦ λ p q. subst (λ (v : List ℕ × List ℕ). (length v.0 ≤ 4096) × (bs ≡ v.0 ++ v.1) × AreBytes v.1) (some_is q) (leb-true (length bs) 4096 p, sym (append-nil bs), λ i. omega arith)
      | false ↦ λ p q. absurd (cc)
    ] refl e

abbrev Ranked : ℕ → List ℕ → Level → List ℕ → Type 0
Ranked c cs l more = Unit {0} × (c ∷ cs ≡ level_code l ∷ more) × AreBytes more

ranked : (c : ℕ) (cs : List ℕ) (l m : Level) (more : List ℕ) → AreBytes cs → c ≡ level_code l → leaves l cs ≡ leaves m more → Ranked c cs m more
ranked c cs l m more these p q = (tt, (λ i. p i ∷ cs) ∙ (λ i. level_code (same_value q i) ∷ same_rest q i), subst AreBytes (same_rest q) these)

pub level_sound : Sound (λ l. Rank l) level_of
level_sound [] x rest all e = absurd (cc)
level_sound (b ∷ bs) x rest all e =
    elim (b == 0) as (λ t. (b == 0) ≡ t → cond t (leaves level.Bare bs) (cond (b == 1) (leaves level.Read bs) (cond (b == 2) (leaves level.Write bs) None)) ≡ leaves x rest → Ranked b bs x rest) [
      | true ↦ λ p q. ranked b bs level.Bare x rest (λ i. all (suc i)) (eqb-true b 0 p) q
      | false ↦ λ p q. elim (b == 1) as (λ t. (b == 1) ≡ t → cond t (leaves level.Read bs) (cond (b == 2) (leaves level.Write bs) None) ≡ leaves x rest → Ranked b bs x rest) [
        | true ↦ λ p1 q1. ranked b bs level.Read x rest (λ i. all (suc i)) (eqb-true b 1 p1) q1
        | false ↦ λ p1 q1. elim (b == 2) as (λ t. (b == 2) ≡ t → cond t (leaves level.Write bs) None ≡ leaves x rest → Ranked b bs x rest) [
          | true ↦ λ p2 q2. ranked b bs level.Write x rest (λ i. all (suc i)) (eqb-true b 2 p2) q2
          | false ↦ λ p2 q2. absurd (cc)
        ] refl q1
      ] refl q
    ] refl e

-- ---- one field after another

-- the bytes spell these fields, to their end
abbrev pub Spelled : List Field → List ℕ → Type 0
Spelled fs bs = AllFit fs × (bs ≡ bytes_of fs)

pub bind_is : {A B : Type 0} (o : Option A) (k : A → Option B) (y : B) → (o >>= k) ≡ Some y → (x : A) × (o ≡ Some x) × (k x ≡ Some y)
bind_is None k y e = absurd (cc)
bind_is (Some x) k y e = (x, refl, e)

-- a field was read
pub took : {A B : Type 0} (f : A → Field) (r : List ℕ → Option (A × List ℕ)) → Sound f r → (k : A × List ℕ → Option B) (bs : List ℕ) (y : B) → AreBytes bs → (r bs >>= k) ≡ Some y
    → (x : A) × (rest : List ℕ) × HasRoomFor (f x) × (bs ≡ field_bytes (f x) ++ rest) × AreBytes rest × (k (x, rest) ≡ Some y)
took f r sound k bs y all e =
    let o = bind_is (r bs) k y e in
    let s = sound bs o.0.0 o.0.1 all o.1 in
    (o.0.0, o.0.1, s.0, s.1, s.2, o.2)

pub no_more : {A : Type 0} (bs : List ℕ) (x y : A) → ends bs x ≡ Some y → (bs ≡ []) × (x ≡ y)
no_more [] x y e = (refl, cc)
no_more (b ∷ bs) x y e = absurd (cc)

pub next : (f : Field) (fs : List Field) (rest bs : List ℕ) → HasRoomFor f → bs ≡ field_bytes f ++ rest → Spelled fs rest → Spelled (f ∷ fs) bs
next f fs rest bs fit e h = ((fit, h.0), e ∙ ap (λ xs. field_bytes f ++ xs) h.1)

pub last : (bs : List ℕ) → bs ≡ [] → Spelled [] bs
last bs e = (tt, e)

-- ---- what is spelled is read

pub bind_some : {A B : Type 0} (o : Option A) (k : A → Option B) (x : A) (y : Option B) → o ≡ Some x → k x ≡ y → (o >>= k) ≡ y
bind_some o k x y e f = ap (λ v. v >>= k) e ∙ f

pub num_back : (n : ℕ) (rest : List ℕ) → n < 2 ^ 32 → num_of (little_bytes 4 n ++ rest) ≡ Some (n, rest)
unfolding num_of
num_back n rest h =
    let some : nat_le 4 (length (little_bytes 4 n ++ rest)) ≡ true = le-leb 4 (length (little_bytes 4 n ++ rest)) (omega arith) in
    ap (λ t. cond t (Some (little_number 4 (little_bytes 4 n ++ rest), rest)) None) some ∙ ap (λ m. Some (m, rest)) (little_number-reads_back 4 n rest h)

long_enough : (xs rest : List ℕ) → 16 ≤ length xs → 16 ≤ length (xs ++ rest)
long_enough xs rest h = omega (arith, length-append xs rest)

pub cap_back : (cap : Cap) (rest : List ℕ) → length cap.bytes ≡ 16 → cap_of (cap.bytes ++ rest) ≡ Some (cap, rest)
cap_back cap rest h =
    let some : nat_le 16 (length (cap.bytes ++ rest)) ≡ true = le-leb 16 (length (cap.bytes ++ rest)) (long_enough cap.bytes rest (omega (arith, h))) in
    ap (λ t. cond t (Some (record { bytes = take 16 (cap.bytes ++ rest) }, drop 16 (cap.bytes ++ rest))) None) some
    ∙ (λ i. Some (record { bytes = take_at cap.bytes rest 16 h i }, drop_at cap.bytes rest 16 h i))

pub shown_back : (shown : Shown) (rest : List ℕ) → HasRoomFor (Show shown) → shown_of (field_bytes (Show shown) ++ rest) ≡ Some (shown, rest)
shown_back Nothing rest h = refl
shown_back (Key cap) rest h = ap (option_map (wrapped (λ cap. Key cap))) (cap_back cap rest h)

pub hint_back : (hint : Hint) (rest : List ℕ) → HasRoomFor (Near hint) → hint_of (field_bytes (Near hint) ++ rest) ≡ Some (hint, rest)
hint_back Null rest h = refl
hint_back (At b) rest h = ap (option_map (wrapped (λ b. At b))) (num_back b rest h)

pub data_back : (bytes : List ℕ) → length bytes ≤ 4096 → data_of (bytes ++ []) ≡ Some (bytes, [])
data_back bytes h = ap data_of (append-nil bytes) ∙ ap (λ t. cond t (Some (bytes, [])) None) (le-leb (length bytes) 4096 h)

pub level_back : (l : Level) (rest : List ℕ) → level_of (field_bytes (Rank l) ++ rest) ≡ Some (l, rest)
level_back level.Bare rest = refl
level_back level.Read rest = refl
level_back level.Write rest = refl
