-- The bytes of a file whose first blocks are another's.
use Rattle.std.proofs.Common.{◌≡◌, ℕ, ◌+◌, ◌-◌, ◌*◌, ◌≤◌, true, List, [], ◌∷◌, ◌++◌, length, refl, sym, ◌∙◌, ap, arith, length-append}
use Rattle.inode_changes.proofs.Common.{flat_map-append, length-take-le, length-drop, append_assoc, take-append-drop, take_all, take-append-add, drop-append-add, take, drop, flat_map, has_number, number_left, part, row_length}

-- the first of a list are in it
pub in_take : (n : ℕ) (bs : List ℕ) (b : ℕ) → has_number (take n bs) b ≡ true → has_number bs b ≡ true
in_take n bs b h = ap (λ xs. has_number xs b) (sym (take-append-drop n bs)) ∙ number_left (take n bs) (drop n bs) b h

pub append_none : (xs : List ℕ) → xs ++ [] ≡ xs
append_none [] = refl
append_none (x ∷ xs) = ap (λ ys. x ∷ ys) (append_none xs)

-- Blocks of one length, the first k of which are full of the first bytes of a file of this size; its other bytes stand behind those.
module _ (f : ℕ → List ℕ) (len : ℕ) (blocks : List ℕ) (full : (b : ℕ) → has_number blocks b ≡ true → length (f b) ≡ len) (k size : ℕ) (few : k ≤ length blocks) (within : len * k ≤ size) where
  shared_length : length (flat_map f (take k blocks)) ≡ len * k
  shared_length = row_length f len (take k blocks) (λ b h. full b (in_take k blocks b h)) ∙ ap (λ n. len * n) (length-take-le k blocks few)

  row : flat_map f blocks ≡ flat_map f (take k blocks) ++ flat_map f (drop k blocks)
  row = ap (flat_map f) (sym (take-append-drop k blocks)) ∙ flat_map-append f (take k blocks) (drop k blocks)

  behind_is : part (flat_map f blocks) (len * k) size ≡ take (size - len * k) (flat_map f (drop k blocks))
  behind_is =
      let none : len * k ≡ length (flat_map f (take k blocks)) + 0 = omega (arith, shared_length) in
      ap (λ n. take (size - len * k) (drop n (flat_map f blocks))) none
      ∙ (ap (λ xs. take (size - len * k) (drop (length (flat_map f (take k blocks)) + 0) xs)) row
      ∙ ap (take (size - len * k)) (drop-append-add (flat_map f (take k blocks)) (flat_map f (drop k blocks)) 0))

  old_bytes : take size (flat_map f blocks) ≡ flat_map f (take k blocks) ++ part (flat_map f blocks) (len * k) size
  old_bytes =
      let split : size ≡ length (flat_map f (take k blocks)) + (size - len * k) = omega (arith, shared_length, within) in
      ap (take size) row
      ∙ (ap (λ n. take n (flat_map f (take k blocks) ++ flat_map f (drop k blocks))) split
      ∙ (take-append-add (flat_map f (take k blocks)) (flat_map f (drop k blocks)) (size - len * k)
      ∙ ap (λ xs. flat_map f (take k blocks) ++ xs) (sym behind_is)))

  module _ (enough : size ≤ length (flat_map f blocks)) where
    pub behind_length : length (part (flat_map f blocks) (len * k) size) ≡ size - len * k
    behind_length = length-take-le (size - len * k) (drop (len * k) (flat_map f blocks)) (let is = length-drop (len * k) (flat_map f blocks) in omega (arith, is, enough))

    -- the full blocks, the bytes behind them, and more bytes
    pub grown : (x : List ℕ) → take (size + length x) (flat_map f (take k blocks) ++ (part (flat_map f blocks) (len * k) size ++ x)) ≡ take size (flat_map f blocks) ++ x
    grown x =
        let shared = flat_map f (take k blocks) in
        let front = part (flat_map f blocks) (len * k) size in
        let all = length-append shared (front ++ x) in
        let more = length-append front x in
        take_all (size + length x) (shared ++ (front ++ x)) (omega (arith, all, more, shared_length, behind_length, within))
        ∙ (sym (append_assoc shared front x) ∙ ap (λ xs. xs ++ x) (sym old_bytes))
