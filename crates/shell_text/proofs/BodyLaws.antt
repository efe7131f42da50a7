-- What is read of one field of a body is its spelling, and what is spelled is read.
use Rattle.std.proofs.Common.{◌≡◌, ℕ, zero, suc, ◌+◌, ◌-◌, ◌*◌, ◌^◌, ◌<◌, ◌≤◌, ◌/◌, ◌%◌, Bool, true, false, cond, nat_le, List, [], ◌∷◌, ◌++◌, length, take, drop, refl, sym, ◌∙◌, ap, subst, arith, append_assoc, Option, Some, None}
use Rattle.std.specs.Prelude.{option_map}
use Rattle.std.specs.List.{list_all}
use Rattle.std.specs.Int.{byte_at, bytes_low_first}
use Rattle.std.proofs.Math.Nat.{pow-succ', div-div-eq-div-mul}
use Rattle.std.proofs.lemmas.Bool.{and_parts, and_from, leb-true, le-leb}
use Rattle.std.proofs.lemmas.List.{length-append, length-take, take_at, drop_at, take-append-drop}
use Rattle.byteorder.specs.Endian.{little_from, little_number, little_bytes}
use Rattle.byteorder.specs.Numbers.{little_from-cons, little_from-lt, little_from-take, little_number-reads_back}
use Rattle.request_frames.specs.Reading.{◌>>=◌}
use Rattle.request_frames.proofs.FieldLaws.{AreBytes, bytes-drop, leaves, some_is, bind_is, bind_some}
use Rattle.script_text.proofs.WordLaws.{cond_some}
use Rattle.fs_trees.specs.Names.{Name, Path, is_name, is_path, path_max}
use Rattle.shell_text.specs.FileBodies.{BodyField, PathPart, NamePart, Start, name_bytes, names_bytes, path_bytes, field_bytes, is_after, HasRoomFor, AllFit, bytes_of}
use Rattle.shell_text.specs.FileReading.{start_of, word_of, kept, name_at, after_at, onto, names_at, path_at}

-- ---- numbers

-- a byte of a number but its lowest is one of what is left without that
shifted : (j x : ℕ) → byte_at (suc j) x ≡ byte_at j (x / 256)
shifted zero x = refl
shifted (suc j) x = ap (λ p. x / p % 256) (pow-succ' 256 (suc j)) ∙ ap (λ q. q % 256) (sym (div-div-eq-div-mul x 256 (256 ^ suc j)))

bytes_shifted : (j k x : ℕ) → bytes_low_first (suc j) k x ≡ bytes_low_first j k (x / 256)
bytes_shifted j zero x = refl
bytes_shifted j (suc k) x = λ i. shifted j x i ∷ bytes_shifted (suc j) k x i

-- bytes are those of the number in them
number_whole : (k : ℕ) (bs : List ℕ) → AreBytes bs → k ≤ length bs → bs ≡ bytes_low_first 0 k (little_from 0 k bs) ++ drop k bs
number_whole zero bs all h = refl
number_whole (suc k) [] all h = absurd (omega (arith, h))
number_whole (suc k) (b ∷ bs) all h =
    let n = little_from 0 k bs in
    let m = little_from 0 (suc k) (b ∷ bs) in
    let e : m ≡ b + 256 * n = ap (λ r. b + 256 * r) (little_from-cons 0 k b bs) in
    let byte : b < 256 = all 0 in
    let low : b ≡ m % 256 = omega (arith, byte, e) in
    let high : n ≡ m / 256 = omega (arith, byte, e) in
    let rest : bs ≡ bytes_low_first 1 k m ++ drop k bs = number_whole k bs (λ i. all (suc i)) (omega (arith, h)) ∙ ap (λ r. bytes_low_first 0 k r ++ drop k bs) high ∙ ap (λ r. r ++ drop k bs) (sym (bytes_shifted 0 k m)) in
    λ i. low i ∷ rest i

-- eight bytes have the number of those that begin with them
pub start_taken : (bs : List ℕ) → little_number 8 (take 8 bs) ≡ little_number 8 bs
start_taken bs = little_from-take 0 8 8 bs (omega arith)

-- ---- readers

-- what it reads is spelled by the bytes that it takes
abbrev pub Sound : {A : Type 0} → (A → BodyField) → (List ℕ → Option (A × List ℕ)) → Type 0
Sound {A} f r = (bs : List ℕ) (x : A) (rest : List ℕ) → AreBytes bs → r bs ≡ Some (x, rest) → HasRoomFor (f x) × (bs ≡ field_bytes (f x) ++ rest) × AreBytes rest

pub start_sound : Sound (λ n. Start n) start_of
unfolding start_of
start_sound bs x rest all e =
    let two = cond_some (nat_le 8 (length bs)) (leaves (little_number 8 bs) (drop 8 bs)) (x, rest) e in
    let few : little_number 8 bs < 2 ^ 64 = little_from-lt 0 8 bs all in
    subst (λ (v : ℕ × List ℕ). (v.0 < 2 ^ 64) × (bs ≡ little_bytes 8 v.0 ++ v.1) × AreBytes v.1) (some_is two.1) (few, number_whole 8 bs all (leb-true 8 (length bs) two.0), bytes-drop 8 bs all)

word_sound : (bs w rest : List ℕ) → AreBytes bs → word_of bs ≡ Some (w, rest) → (bs ≡ name_bytes w ++ rest) × AreBytes rest
word_sound [] w rest all e = absurd (cc)
word_sound (k ∷ bs) w rest all e =
    let two = cond_some (nat_le k (length bs)) (leaves (take k bs) (drop k bs)) (w, rest) e in
    let long : k ≡ length (take k bs) = omega (arith, length-take k bs, leb-true k (length bs) two.0) in
    subst (λ (v : List ℕ × List ℕ). (k ∷ bs ≡ name_bytes v.0 ++ v.1) × AreBytes v.1) (some_is two.1) ((λ i. long i ∷ sym (take-append-drop k bs) i), bytes-drop k bs (λ i. all (suc i)))

kept_is : (good : List ℕ → Bool) (w v : List ℕ × List ℕ) → kept good w ≡ Some v → (good w.0 ≡ true) × (w ≡ v)
kept_is good w v e = let two = cond_some (good w.0) (Some w) v e in (two.0, some_is two.1)

kept_sound : (good : List ℕ → Bool) (bs w rest : List ℕ) → AreBytes bs → (word_of bs >>= kept good) ≡ Some (w, rest) → (good w ≡ true) × (bs ≡ name_bytes w ++ rest) × AreBytes rest
kept_sound good bs w rest all e =
    let o = bind_is (word_of bs) (kept good) (w, rest) e in
    let k = kept_is good o.0 (w, rest) o.2 in
    let s = word_sound bs o.0.0 o.0.1 all o.1 in
    subst (λ (v : List ℕ × List ℕ). (good v.0 ≡ true) × (bs ≡ name_bytes v.0 ++ v.1) × AreBytes v.1) k.1 (k.0, s.0, s.1)

pub after_sound : Sound (λ n. NamePart n) after_at
unfolding after_at
after_sound bs x rest all e = kept_sound is_after bs x rest all e

map_is : {A B : Type 0} (f : A → B) (o : Option A) (y : B) → option_map f o ≡ Some y → (x : A) × (o ≡ Some x) × (f x ≡ y)
map_is f None y e = absurd (cc)
map_is f (Some x) y e = (x, refl, some_is e)

names_sound : (k : ℕ) (bs : List ℕ) (p : Path) (rest : List ℕ) → AreBytes bs → names_at k bs ≡ Some (p, rest) → (length p ≡ k) × (list_all is_name p ≡ true) × (bs ≡ names_bytes p ++ rest) × AreBytes rest
unfolding name_at
names_sound zero bs p rest all e = subst (λ (v : Path × List ℕ). (length v.0 ≡ 0) × (list_all is_name v.0 ≡ true) × (bs ≡ names_bytes v.0 ++ v.1) × AreBytes v.1) (some_is {x = ([], bs)} {y = (p, rest)} e) (refl, refl, refl, all)
names_sound (suc k) bs p rest all e =
    let o = bind_is (name_at bs) _ (p, rest) e in
    let n = kept_sound is_name bs o.0.0 o.0.1 all o.1 in
    let m = map_is (onto o.0.0) (names_at k o.0.1) (p, rest) o.2 in
    let s = names_sound k o.0.1 m.0.0 m.0.1 n.2 m.1 in
    subst (λ (v : Path × List ℕ). (length v.0 ≡ suc k) × (list_all is_name v.0 ≡ true) × (bs ≡ names_bytes v.0 ++ v.1) × AreBytes v.1) m.2 (
      ap (λ j. suc j) s.0,
      and_from (is_name o.0.0) (list_all is_name m.0.0) n.0 s.1,
      n.1 ∙ ap (λ r. name_bytes o.0.0 ++ r) s.2 ∙ sym (append_assoc (name_bytes o.0.0) (names_bytes m.0.0) m.0.1),
      s.3,
    )

pub path_sound : Sound (λ p. PathPart p) path_at
path_sound [] p rest all e = absurd (cc)
path_sound (k ∷ bs) p rest all e =
    let two = cond_some (nat_le k path_max) (names_at k bs) (p, rest) e in
    let s = names_sound k bs p rest (λ i. all (suc i)) two.1 in
    (and_from (nat_le (length p) path_max) (list_all is_name p) (subst (λ n. nat_le n path_max ≡ true) (sym s.0) two.0) s.1, (λ i. sym s.0 i ∷ s.2 i), s.3)

-- ---- one field after another

-- the bytes spell these fields, to their end
abbrev pub Spelled : List BodyField → List ℕ → Type 0
Spelled fs bs = AllFit fs × (bs ≡ bytes_of fs)

-- a field was read
pub took : {A B : Type 0} (f : A → BodyField) (r : List ℕ → Option (A × List ℕ)) → Sound f r → (k : A × List ℕ → Option B) (bs : List ℕ) (y : B) → AreBytes bs → (r bs >>= k) ≡ Some y
    → (x : A) × (rest : List ℕ) × HasRoomFor (f x) × (bs ≡ field_bytes (f x) ++ rest) × AreBytes rest × (k (x, rest) ≡ Some y)
took f r sound k bs y all e =
    let o = bind_is (r bs) k y e in
    let s = sound bs o.0.0 o.0.1 all o.1 in
    (o.0.0, o.0.1, s.0, s.1, s.2, o.2)

pub next : (f : BodyField) (fs : List BodyField) (rest bs : List ℕ) → HasRoomFor f → bs ≡ field_bytes f ++ rest → Spelled fs rest → Spelled (f ∷ fs) bs
next f fs rest bs fit e h = ((fit, h.0), e ∙ ap (λ xs. field_bytes f ++ xs) h.1)

pub last : (bs : List ℕ) → bs ≡ [] → Spelled [] bs
last bs e = (tt, e)

-- ---- what is spelled is read

pub start_back : (n : ℕ) (rest : List ℕ) → n < 2 ^ 64 → start_of (little_bytes 8 n ++ rest) ≡ Some (n, rest)
unfolding start_of
start_back n rest h =
    let some : nat_le 8 (length (little_bytes 8 n ++ rest)) ≡ true = le-leb 8 (length (little_bytes 8 n ++ rest)) (omega arith) in
    ap (λ t. cond t (Some (little_number 8 (little_bytes 8 n ++ rest), rest)) None) some ∙ ap (λ m. Some (m, rest)) (little_number-reads_back 8 n rest h)

word_back : (w rest : List ℕ) → word_of (name_bytes w ++ rest) ≡ Some (w, rest)
word_back w rest =
    let some : nat_le (length w) (length (w ++ rest)) ≡ true = le-leb (length w) (length (w ++ rest)) (omega (arith, length-append w rest)) in
    ap (λ t. cond t (Some (take (length w) (w ++ rest), drop (length w) (w ++ rest))) None) some
    ∙ (λ i. Some (take_at w rest (length w) refl i, drop_at w rest (length w) refl i))

kept_back : (good : List ℕ → Bool) (w rest : List ℕ) → good w ≡ true → (word_of (name_bytes w ++ rest) >>= kept good) ≡ Some (w, rest)
kept_back good w rest h = bind_some _ _ _ _ (word_back w rest) (ap (λ t. cond t (Some (w, rest)) None) h)

pub after_back : (n : Name) (rest : List ℕ) → is_after n ≡ true → after_at (name_bytes n ++ rest) ≡ Some (n, rest)
unfolding after_at
after_back n rest h = kept_back is_after n rest h

names_back : (p : Path) (rest : List ℕ) → list_all is_name p ≡ true → names_at (length p) (names_bytes p ++ rest) ≡ Some (p, rest)
unfolding name_at
names_back [] rest h = refl
names_back (n ∷ ns) rest h =
    let parts = and_parts (is_name n) (list_all is_name ns) h in
    ap (names_at (suc (length ns))) (append_assoc (name_bytes n) (names_bytes ns) rest)
    ∙ bind_some _ _ _ _ (kept_back is_name n (names_bytes ns ++ rest) parts.0) (ap (option_map (onto n)) (names_back ns rest parts.1))

pub path_back : (p : Path) (rest : List ℕ) → is_path p ≡ true → path_at (path_bytes p ++ rest) ≡ Some (p, rest)
path_back p rest h =
    let parts = and_parts (nat_le (length p) path_max) (list_all is_name p) h in
    ap (λ t. cond t (names_at (length p) (names_bytes p ++ rest)) None) parts.0 ∙ names_back p rest parts.1

-- ---- reading names one after another

-- these names stand before those that are read
abbrev pub before : Path → Path × List ℕ → Path × List ℕ
before p r = (p ++ r.0, r.1)

-- the next word, where names are to be read
module _ (w bs rest : List ℕ) (word : word_of bs ≡ Some (w, rest)) where
  name_in : (t : Bool) → is_name w ≡ t → name_at bs ≡ cond t (Some (w, rest)) None
  unfolding name_at
  name_in t is = ap (λ o. o >>= kept is_name) word ∙ ap (λ b. cond b (Some (w, rest)) None) is

  -- it is one, and goes to the end of those that stand before
  pub name_goes : (p : Path) (k : ℕ) → 0 < k → is_name w ≡ true → option_map (before p) (names_at k bs) ≡ option_map (before (p ++ w ∷ [])) (names_at (k - 1) rest)
  name_goes p zero some is = absurd (omega (arith, some))
  name_goes p (suc k) some is = ap (λ o. option_map (before p) (o >>= λ n. option_map (onto n.0) (names_at k n.1))) (name_in true is)
      ∙ by (names_at k rest) ∙ ap (λ j. option_map (before (p ++ w ∷ [])) (names_at j rest)) (let e : k ≡ suc k - 1 = omega arith in e)
    where
      by : (o : Option (Path × List ℕ)) → option_map (before p) (option_map (onto w) o) ≡ option_map (before (p ++ w ∷ [])) o
      by None = refl
      by (Some r) = ap (λ q. Some (q, r.1)) (sym (append_assoc p (w ∷ []) r.0))

  -- it is none
  pub names_end : (k : ℕ) → 0 < k → is_name w ≡ false → names_at k bs ≡ None
  names_end zero some none = absurd (omega (arith, some))
  names_end (suc k) some none = ap (λ o. o >>= λ n. option_map (onto n.0) (names_at k n.1)) (name_in false none)
