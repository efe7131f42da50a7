-- Levels as two bits a block, and the greatest of levels.
use Rattle.std.proofs.Common.{inl, inr, ◌≡◌, ◌≢◌, ℕ, ◌+◌, ◌<◌, ◌≤◌, ◌||◌, nat_le, IsTrue, Bool, true, false, List, [], ◌∷◌, length, take, replicate, refl, sym, ◌∙◌, ap, subst, arith}
use Rattle.std.specs.Prelude.{map, slice_index_or, slice_set}
use Rattle.std.proofs.lemmas.Bool.{cases_eq, cases_lt, le-leb}
use Rattle.std.proofs.lemmas.List.{take_more, map-append, get_or_past, get_or-set_same, get_or-set_other, length-set, length-replicate, get_or-replicate}
use Rattle.std.proofs.lemmas.List.FromFn.{length-map-range_with_len, get_or-map-range_with_len, fill_by_all}
use Rattle.tsd_model.specs.Next.{IsLeast}
use Rattle.tsd_model.specs.Sessions.{level_le, greater, greatest, raised_level}
use Rattle.tsd_model.proofs.LevelLaws.{greatest-snoc}
use Rattle.tsd_model.specs.declared.requests.Level.{Level}
use Rattle.tsd_model.specs.declared.requests.Level.TheVariants.{Bare, Read, Write}
use Rattle.grant_table.specs.Levels.{level_of_bits, levels_of_bits}

-- one more level
pub greatest_more : (levels : List Level) (i : ℕ) (d : Level) → i < length levels → greatest (take (i + 1) levels) ≡ greater (greatest (take i levels)) (slice_index_or levels i d)
greatest_more levels i d h = ap greatest (take_more levels i d h) ∙ greatest-snoc (take i levels) (slice_index_or levels i d)

pub greatest_map_more : {X : Type 0} (f : X → Level) (xs : List X) (i : ℕ) (d : X) → i < length xs → greatest (map f (take (i + 1) xs)) ≡ greater (greatest (map f (take i xs))) (f (slice_index_or xs i d))
greatest_map_more f xs i d h = ap (λ ys. greatest (map f ys)) (take_more xs i d h) ∙ (ap greatest (map-append f (take i xs) (slice_index_or xs i d ∷ [])) ∙ greatest-snoc (map f (take i xs)) (f (slice_index_or xs i d)))

pub length-levels_of_bits : (reads writes : List Bool) → length (levels_of_bits reads writes) ≡ length reads
length-levels_of_bits reads writes = length-map-range_with_len (λ b. level_of_bits (slice_index_or reads b false) (slice_index_or writes b false)) 0 (length reads)

pub get-levels_of_bits : (reads writes : List Bool) (b : ℕ) → length writes ≡ length reads → slice_index_or (levels_of_bits reads writes) b Bare ≡ level_of_bits (slice_index_or reads b false) (slice_index_or writes b false)
get-levels_of_bits reads writes b same = elim (cases_lt b (length reads)) [
  | inl h ↦ get_or-map-range_with_len (λ k. level_of_bits (slice_index_or reads k false) (slice_index_or writes k false)) 0 (length reads) b b Bare h (omega arith)
  | inr h ↦
      get_or_past (levels_of_bits reads writes) b Bare (let e = length-levels_of_bits reads writes in omega (arith, e))
      ∙ sym (ap (λ r. level_of_bits r (slice_index_or writes b false)) (get_or_past reads b false h) ∙ ap (level_of_bits false) (get_or_past writes b false (omega arith)))
]

-- both bits of one block changed to those of a level
bits_set : (reads writes reads2 writes2 : List Bool) (b : ℕ) (l : Level) →
    length writes ≡ length reads → length reads2 ≡ length reads →
    (b < length reads → level_of_bits (slice_index_or reads2 b false) (slice_index_or writes2 b false) ≡ l) →
    ((k : ℕ) → k ≢ b → level_of_bits (slice_index_or reads2 k false) (slice_index_or writes2 k false) ≡ level_of_bits (slice_index_or reads k false) (slice_index_or writes k false)) →
    levels_of_bits reads2 writes2 ≡ slice_set (levels_of_bits reads writes) b l
bits_set reads writes reads2 writes2 b l same same2 here others =
    sym (fill_by_all f (slice_set old b l) (length reads2) Bare (length-set old b l ∙ (long ∙ sym same2)) each)
  where
    f : ℕ → Level
    f k = level_of_bits (slice_index_or reads2 k false) (slice_index_or writes2 k false)

    old : List Level
    old = levels_of_bits reads writes

    long : length (levels_of_bits reads writes) ≡ length reads
    long = length-levels_of_bits reads writes

    each : (k : ℕ) → k < length reads2 → slice_index_or (slice_set (levels_of_bits reads writes) b l) k Bare ≡ level_of_bits (slice_index_or reads2 k false) (slice_index_or writes2 k false)
    each k h = elim (cases_eq k b) [
      | inl e ↦ subst (λ j. slice_index_or (slice_set (levels_of_bits reads writes) b l) j Bare ≡ level_of_bits (slice_index_or reads2 j false) (slice_index_or writes2 j false)) (sym e)
          (get_or-set_same (levels_of_bits reads writes) b l Bare (omega (arith, length-levels_of_bits reads writes)) ∙ sym (here (omega arith)))
      | inr ne ↦ get_or-set_other (levels_of_bits reads writes) b k l Bare ne ∙ (get-levels_of_bits reads writes k same ∙ sym (others k ne))
    ]

read_or : (r w : Bool) → level_of_bits true w ≡ greater (level_of_bits r w) Read
read_or true true = refl
read_or true false = refl
read_or false true = refl
read_or false false = refl

write_or : (r w : Bool) → level_of_bits r true ≡ greater (level_of_bits r w) Write
write_or true true = refl
write_or true false = refl
write_or false true = refl
write_or false false = refl

pub read_set : (reads writes : List Bool) (b : ℕ) → length writes ≡ length reads → levels_of_bits (slice_set reads b true) writes ≡ raised_level b Read (levels_of_bits reads writes)
read_set reads writes b same =
    bits_set reads writes (slice_set reads b true) writes b (greater (slice_index_or (levels_of_bits reads writes) b Bare) Read) same (length-set reads b true)
    (λ h. ap (λ r. level_of_bits r (slice_index_or writes b false)) (get_or-set_same reads b true false h)
    ∙ (read_or (slice_index_or reads b false) (slice_index_or writes b false) ∙ sym (ap (λ l. greater l Read) (get-levels_of_bits reads writes b same))))
    (λ k ne. ap (λ r. level_of_bits r (slice_index_or writes k false)) (get_or-set_other reads b k true false ne))

pub write_set : (reads writes : List Bool) (b : ℕ) → length writes ≡ length reads → levels_of_bits reads (slice_set writes b true) ≡ raised_level b Write (levels_of_bits reads writes)
write_set reads writes b same =
    bits_set reads writes reads (slice_set writes b true) b (greater (slice_index_or (levels_of_bits reads writes) b Bare) Write) same refl
    (λ h. ap (level_of_bits (slice_index_or reads b false)) (get_or-set_same writes b true false (omega arith))
    ∙ (write_or (slice_index_or reads b false) (slice_index_or writes b false) ∙ sym (ap (λ l. greater l Write) (get-levels_of_bits reads writes b same))))
    (λ k ne. ap (level_of_bits (slice_index_or reads k false)) (get_or-set_other writes b k true false ne))

pub both_unset : (reads writes : List Bool) (b : ℕ) → length writes ≡ length reads → levels_of_bits (slice_set reads b false) (slice_set writes b false) ≡ slice_set (levels_of_bits reads writes) b Bare
both_unset reads writes b same =
    bits_set reads writes (slice_set reads b false) (slice_set writes b false) b Bare same (length-set reads b false)
    (λ h. ap (λ r. level_of_bits r (slice_index_or (slice_set writes b false) b false)) (get_or-set_same reads b false false h)
    ∙ ap (level_of_bits false) (get_or-set_same writes b false false (omega arith)))
    (λ k ne. ap (λ r. level_of_bits r (slice_index_or (slice_set writes b false) k false)) (get_or-set_other reads b k false false ne)
    ∙ ap (level_of_bits (slice_index_or reads k false)) (get_or-set_other writes b k false false ne))

get-unset : (n k : ℕ) → ◌≡◌ {A = Bool} (slice_index_or (replicate n false) k false) false
get-unset n k = elim (cases_lt k n) [
  | inl h ↦ get_or-replicate n k false false h
  | inr h ↦ get_or_past (replicate n false) k false (let e = length-replicate n false in omega (arith, e))
]

-- no bit is set
pub all_unset : (n m : ℕ) → levels_of_bits (replicate n false) (replicate m false) ≡ replicate n Bare
all_unset n m =
    sym (fill_by_all (λ k. level_of_bits (slice_index_or (replicate n false) k false) (slice_index_or (replicate m false) k false)) (replicate n Bare) (length (replicate n false)) Bare
    (length-replicate n Bare ∙ sym (length-replicate n false))
    (λ k h. get_or-replicate n k Bare Bare (let e = length-replicate n false in omega (arith, e))
    ∙ sym (ap (λ r. level_of_bits r (slice_index_or (replicate m false) k false)) (get-unset n k) ∙ ap (level_of_bits false) (get-unset m k))))

-- up to the next bit that is set none is, and it isn't past the end
pub unset_before : (bits : List Bool) (start end next i : ℕ) → IsLeast (λ k. nat_le end k || slice_index_or bits k false) start next → start ≤ i → i < next → slice_index_or bits i false ≡ false
unset_before bits start end next i h from before = elim (slice_index_or bits i false) as (λ t. slice_index_or bits i false ≡ t → slice_index_or bits i false ≡ false) [
  | true ↦ λ set. absurd (let far : next ≤ i = h.least i (subst (λ t. IsTrue (nat_le end i || t)) (sym set) (or-true (nat_le end i))) from in omega arith)
  | false ↦ λ unset. unset
] refl
  where
    or-true : (t : Bool) → IsTrue (t || true)
    or-true true = refl
    or-true false = refl

pub least_most : (bits : List Bool) (start end next : ℕ) → start ≤ end → IsLeast (λ k. nat_le end k || slice_index_or bits k false) start next → next ≤ end
least_most bits start end next on h = h.least end (subst (λ t. IsTrue (t || slice_index_or bits end false)) (sym (le-leb end end (omega arith))) refl) on

-- at least write is write
pub from_write : (l : Level) → level_le Write l ≡ true → l ≡ Write
from_write Bare h = absurd (cc)
from_write Read h = absurd (cc)
from_write Write h = refl
