-- A directory's list with an entry changed, in its parts.
use Rattle.std.proofs.Common.{◌≡◌, ℕ, zero, suc, ◌+◌, ◌*◌, ◌-◌, ◌≤◌, true, false, cond, ◌&&◌, ◌||◌, ◌==◌, nat_lt, List, [], ◌∷◌, ◌++◌, length, refl, sym, ◌∙◌, ap, subst, arith, append_assoc, length-append, inl, inr, Result, Ok, Err}
use Rattle.std.proofs.lemmas.Bool.{or_cases, and_parts, eqb-true}
use Rattle.std.proofs.lemmas.Bool.Decides.{nat_tests}
use Rattle.std.proofs.lemmas.Grind.{flat_map-append}
use Rattle.std.specs.Prelude.{take, flat_map, replicate, IsOk, OnOk}
use Rattle.std.proofs.lemmas.List.{length-replicate}
use Rattle.byteorder.specs.Endian.{little_bytes}
use Rattle.fs_trees.specs.Names.{Name, name_lt}
use Rattle.fs_trees.specs.Fields.{Entry, entries, numbers, entry_bytes}
use Rattle.fs_trees.specs.Inode.{Inode, directory, regular, magic, entries_room, with_listed, without_listed, inode_bytes}
use Rattle.fs_fields.specs.Around.{listed_before, listed_behind}
use Rattle.inode_layout.specs.Said.{head_bytes, item_size, is_directory, entries_said, blocks_said}
use Rattle.inode_layout.specs.Block.{said}
use Rattle.inode_layout.specs.declared.kind.InodeKind.{InodeKind}
use Rattle.inode_layout.specs.declared.kind.InodeKind.TheVariants.{Directory, Regular}
use Rattle.inode_layout.proofs.HeadLaws.{length-blocks, list_fits}
use Rattle.tsd_model.proofs.ValueLaws.{and_false}

-- a name below another isn't above it
pub below_only : (m n : Name) → name_lt m n ≡ true → name_lt n m ≡ false
below_only m [] h = absurd (cc)
below_only [] (d ∷ n) h = refl
below_only (c ∷ m) (d ∷ n) h = elim (or_cases (nat_lt c d) ((c == d) && name_lt m n) h) [
  | inl less ↦
      let no : nat_lt d c ≡ false = grind (arith, nat_tests) in
      let other : (d == c) ≡ false = grind (arith, nat_tests) in
      ap (λ t. t || ((d == c) && name_lt n m)) no ∙ ap (λ t. t && name_lt n m) other
  | inr same ↦
      let parts = and_parts (c == d) (name_lt m n) same in
      let is : c ≡ d = eqb-true c d parts.0 in
      let no : nat_lt d c ≡ false = grind (arith, nat_tests) in
      ap (λ t. t || ((d == c) && name_lt n m)) no ∙ (ap (λ t. (d == c) && t) (below_only m n parts.1) ∙ and_false (d == c))
]

with_parts : (e : Entry) (es : List Entry) → with_listed e es ≡ listed_before e.name es ++ e ∷ listed_behind e.name es
with_parts e [] = refl
with_parts e (f ∷ fs) = elim (name_lt e.name f.name) as
    (λ t. name_lt e.name f.name ≡ t → cond t (e ∷ f ∷ fs) (cond (name_lt f.name e.name) (f ∷ with_listed e fs) (e ∷ fs))
    ≡ cond (name_lt f.name e.name) (f ∷ listed_before e.name fs) [] ++ e ∷ cond (name_lt f.name e.name) (listed_behind e.name fs) (cond t (f ∷ fs) fs)) [
      | true ↦ λ p. let no = below_only e.name f.name p in sym (ap (λ t. cond t (f ∷ listed_before e.name fs) [] ++ e ∷ cond t (listed_behind e.name fs) (f ∷ fs)) no)
      | false ↦ λ p. elim (name_lt f.name e.name) as (λ t. cond t (f ∷ with_listed e fs) (e ∷ fs) ≡ cond t (f ∷ listed_before e.name fs) [] ++ e ∷ cond t (listed_behind e.name fs) fs) [
        | true ↦ ap (λ xs. f ∷ xs) (with_parts e fs)
        | false ↦ refl
      ]
    ] refl

without_parts : (n : Name) (es : List Entry) → without_listed n es ≡ listed_before n es ++ listed_behind n es
without_parts n [] = refl
without_parts n (f ∷ fs) = elim (name_lt n f.name) as
    (λ t. name_lt n f.name ≡ t → cond t (f ∷ fs) (cond (name_lt f.name n) (f ∷ without_listed n fs) fs)
    ≡ cond (name_lt f.name n) (f ∷ listed_before n fs) [] ++ cond (name_lt f.name n) (listed_behind n fs) (cond t (f ∷ fs) fs)) [
      | true ↦ λ p. let no = below_only n f.name p in sym (ap (λ t. cond t (f ∷ listed_before n fs) [] ++ cond t (listed_behind n fs) (f ∷ fs)) no)
      | false ↦ λ p. elim (name_lt f.name n) as (λ t. cond t (f ∷ without_listed n fs) fs ≡ cond t (f ∷ listed_before n fs) [] ++ cond t (listed_behind n fs) fs) [
        | true ↦ ap (λ xs. f ∷ xs) (without_parts n fs)
        | false ↦ refl
      ]
    ] refl

-- ---- how many they are

pub with_count : (e : Entry) (es : List Entry) → length (with_listed e es) ≡ length (listed_before e.name es) + length (listed_behind e.name es) + 1
with_count e es =
    let parts = ap length (with_parts e es) in
    let all = length-append (listed_before e.name es) (e ∷ listed_behind e.name es) in
    omega (arith, parts, all)

pub without_count : (n : Name) (es : List Entry) → length (without_listed n es) ≡ length (listed_before n es) + length (listed_behind n es)
without_count n es = ap length (without_parts n es) ∙ length-append (listed_before n es) (listed_behind n es)

-- there are no more without one
pub without_fits : (n : Name) (es : List Entry) → length (without_listed n es) ≤ length es
without_fits n [] = omega arith
without_fits n (f ∷ fs) = elim (name_lt n f.name) as (λ t. length (cond t (f ∷ fs) (cond (name_lt f.name n) (f ∷ without_listed n fs) fs)) ≤ length (f ∷ fs)) [
  | true ↦ omega arith
  | false ↦ elim (name_lt f.name n) as (λ t. length (cond t (f ∷ without_listed n fs) fs) ≤ length (f ∷ fs)) [
    | true ↦ let e = without_fits n fs in omega (arith, e)
    | false ↦ omega arith
  ]
]

-- ---- what is written

-- the head and the list
head_first : (kind amount : ℕ) (rest : List ℕ) → head_bytes kind amount ++ rest ≡ magic ++ (little_bytes 4 kind ++ (little_bytes 4 amount ++ rest))
head_first kind amount rest =
    append_assoc magic (little_bytes 4 kind ++ little_bytes 4 amount) rest ∙ ap (λ x. magic ++ x) (append_assoc (little_bytes 4 kind) (little_bytes 4 amount) rest)

pub with_written : (e : Entry) (es : List Entry) (amount : ℕ) (front behind : List ℕ) → amount ≡ length (with_listed e es)
    → front ≡ flat_map entry_bytes (listed_before e.name es) → behind ≡ flat_map entry_bytes (listed_behind e.name es)
    → ((head_bytes 1 amount ++ front) ++ entry_bytes e) ++ behind ≡ inode_bytes (directory (with_listed e es))
with_written e es amount front behind counted is_front is_behind =
    let b = listed_before e.name es in
    let l = listed_behind e.name es in
    let list : flat_map entry_bytes (with_listed e es) ≡ flat_map entry_bytes b ++ (entry_bytes e ++ flat_map entry_bytes l) =
    ap (flat_map entry_bytes) (with_parts e es) ∙ flat_map-append entry_bytes b (e ∷ l) in
    append_assoc (head_bytes 1 amount ++ front) (entry_bytes e) behind
    ∙ (append_assoc (head_bytes 1 amount) front (entry_bytes e ++ behind)
    ∙ (ap (λ x. head_bytes 1 amount ++ (x ++ (entry_bytes e ++ behind))) is_front
    ∙ (ap (λ x. head_bytes 1 amount ++ (flat_map entry_bytes b ++ (entry_bytes e ++ x))) is_behind
    ∙ (ap (λ x. head_bytes 1 amount ++ x) (sym list)
    ∙ (ap (λ n. head_bytes 1 n ++ flat_map entry_bytes (with_listed e es)) counted
    ∙ head_first 1 (length (with_listed e es)) (flat_map entry_bytes (with_listed e es)))))))

pub without_written : (n : Name) (es : List Entry) (amount : ℕ) (front behind : List ℕ) → amount ≡ length (without_listed n es)
    → front ≡ flat_map entry_bytes (listed_before n es) → behind ≡ flat_map entry_bytes (listed_behind n es)
    → (head_bytes 1 amount ++ front) ++ behind ≡ inode_bytes (directory (without_listed n es))
without_written n es amount front behind counted is_front is_behind =
    let b = listed_before n es in
    let l = listed_behind n es in
    let list : flat_map entry_bytes (without_listed n es) ≡ flat_map entry_bytes b ++ flat_map entry_bytes l =
    ap (flat_map entry_bytes) (without_parts n es) ∙ flat_map-append entry_bytes b l in
    append_assoc (head_bytes 1 amount) front behind
    ∙ (ap (λ x. head_bytes 1 amount ++ (x ++ behind)) is_front
    ∙ (ap (λ x. head_bytes 1 amount ++ (flat_map entry_bytes b ++ x)) is_behind
    ∙ (ap (λ x. head_bytes 1 amount ++ x) (sym list)
    ∙ (ap (λ k. head_bytes 1 k ++ flat_map entry_bytes (without_listed n es)) counted
    ∙ head_first 1 (length (without_listed n es)) (flat_map entry_bytes (without_listed n es))))))

pub file_written : (size count : ℕ) (shared blocks : List ℕ) → shared ≡ flat_map (little_bytes 4) (numbers count shared)
    → (head_bytes 2 size ++ shared) ++ flat_map (little_bytes 4) blocks ≡ inode_bytes (regular size (numbers count shared ++ blocks))
file_written size count shared blocks is_shared =
    let ns = numbers count shared in
    append_assoc (head_bytes 2 size) shared (flat_map (little_bytes 4) blocks)
    ∙ (ap (λ x. head_bytes 2 size ++ (x ++ flat_map (little_bytes 4) blocks)) is_shared
    ∙ (ap (λ x. head_bytes 2 size ++ x) (sym (flat_map-append (little_bytes 4) ns blocks))
    ∙ head_first 2 size (flat_map (little_bytes 4) (ns ++ blocks))))

-- ---- a directory that was read

pub dir_size : (i : Inode) → is_directory i ≡ true → item_size i ≡ 32
dir_size (directory es) h = refl
dir_size (regular size blocks) h = absurd (cc)

-- its list, as it stands behind the head
pub list_is : (k : InodeKind) (a n m : ℕ) (body b : List ℕ) → is_directory (said k a n body) ≡ true → m ≡ length (blocks_said (said k a n body)) → b ≡ body → entries m b ≡ entries_said (said k a n body)
list_is Directory a n m body b h e f = ap (λ x. entries m x) f ∙ ap (λ c. entries c body) (e ∙ length-blocks Directory a n body)
list_is Regular a n m body b h e f = absurd (cc)

-- there is room for the parts of the new list
pub with_room : (e : Entry) (es list : List Entry) (len : ℕ) → list ≡ es → 16 ≤ len → length (with_listed e es) ≤ entries_room len → 16 + 32 * (length (listed_before e.name list) + length (listed_behind e.name list) + 1) ≤ len
with_room e es list len same h fits =
    let counted = with_count e list in
    let room = list_fits Directory (length (with_listed e list)) len h (subst (λ xs. length (with_listed e xs) ≤ entries_room len) (sym same) fits) in
    omega (arith, counted, room)

pub without_room : (n : Name) (list : List Entry) (count len : ℕ) → length list ≡ count → 16 + 32 * count ≤ len → 16 + 32 * (length (listed_before n list) + length (listed_behind n list)) ≤ len
without_room n list count len counted room =
    let left = without_count n list in
    let fewer = without_fits n list in
    omega (arith, left, fewer, counted, room)

-- an entry has 32 bytes
pub entry_length : (e : Entry) → length e.name ≤ 28 → length (entry_bytes e) ≡ 32
entry_length e h =
    let rest = length-append e.name (replicate (28 - length e.name) 0) in
    let pad : length (replicate {A = ℕ} (28 - length e.name) 0) ≡ 28 - length e.name = length-replicate (28 - length e.name) 0 in
    omega (arith, rest, pad, h)

-- what is added where there is room
pub is_added : {T E P : Type 0} (r : Result T E) → IsOk r → OnOk r P → P
is_added (Ok x) i h = h
is_added (Err e) i h = absurd (cc)

-- ---- step by step

pub with_done : (e : Entry) (es list : List Entry) (amount : ℕ) (h0 h1 h2 h3 front behind : List ℕ) → list ≡ es
    → h0 ≡ head_bytes 1 amount → h1 ≡ h0 ++ front → h2 ≡ h1 ++ entry_bytes e → h3 ≡ h2 ++ behind
    → amount ≡ length (with_listed e list) → front ≡ flat_map entry_bytes (listed_before e.name list) → behind ≡ flat_map entry_bytes (listed_behind e.name list)
    → h3 ≡ inode_bytes (directory (with_listed e es))
with_done e es list amount h0 h1 h2 h3 front behind same a b c d counted is_front is_behind =
    d ∙ (ap (λ x. x ++ behind) (c ∙ ap (λ x. x ++ entry_bytes e) (b ∙ ap (λ x. x ++ front) a))
    ∙ (with_written e list amount front behind counted is_front is_behind ∙ ap (λ xs. inode_bytes (directory (with_listed e xs))) same))

pub without_done : (n : Name) (es list : List Entry) (amount : ℕ) (h0 h1 h2 front behind : List ℕ) → list ≡ es
    → h0 ≡ head_bytes 1 amount → h1 ≡ h0 ++ front → h2 ≡ h1 ++ behind
    → amount ≡ length (without_listed n list) → front ≡ flat_map entry_bytes (listed_before n list) → behind ≡ flat_map entry_bytes (listed_behind n list)
    → h2 ≡ inode_bytes (directory (without_listed n es))
without_done n es list amount h0 h1 h2 front behind same a b c counted is_front is_behind =
    c ∙ (ap (λ x. x ++ behind) (b ∙ ap (λ x. x ++ front) a)
    ∙ (without_written n list amount front behind counted is_front is_behind ∙ ap (λ xs. inode_bytes (directory (without_listed n xs))) same))

pub file_done : (size count : ℕ) (h0 h1 h2 shared blocks : List ℕ) → h0 ≡ head_bytes 2 size → h1 ≡ h0 ++ shared → h2 ≡ h1 ++ flat_map (little_bytes 4) blocks
    → shared ≡ flat_map (little_bytes 4) (numbers count shared) → h2 ≡ inode_bytes (regular size (numbers count shared ++ blocks))
file_done size count h0 h1 h2 shared blocks a b c is_shared =
    c ∙ (ap (λ x. x ++ flat_map (little_bytes 4) blocks) (b ∙ ap (λ x. x ++ shared) a) ∙ file_written size count shared blocks is_shared)

pub all_taken : (xs : List ℕ) (n : ℕ) → length xs ≤ n → take n xs ≡ xs
all_taken [] zero h = refl
all_taken [] (suc n) h = refl
all_taken (x ∷ xs) zero h = absurd (omega arith)
all_taken (x ∷ xs) (suc n) h = ap (λ ys. x ∷ ys) (all_taken xs n (omega arith))
