-- An inode that is right by itself.
use Rattle.std.proofs.Common.{◌≡◌, ◌≢◌, ℕ, zero, suc, ◌≤◌, Bool, true, false, not, cond, ◌==◌, List, [], ◌∷◌, length, refl, sym, ◌∙◌, ap, arith, ◌⊎◌, inl, inr, Option, Some, None, Ok, Err, nat_lt}
use Rattle.inode_fs.proofs.Common.{or_cases, eqb-true, filter, option_and_then, block_len, World, contents, has_number, holds, IsValid, only_if, Inode, inode_in, inode_at, inode_of, blocks_said, HoldsWrite, DiskView, state_of, Client, targets_of, named_targets, other_targets, is_false, clash, Seen, are_held, if_held, held_at, blocks_in, IsInodeSeen, FsRefusal, OnlyLooks, looks_as, looks_refused, then_looks}
use Rattle.std.proofs.lemmas.Bool.Decides.{nat_tests}
use Rattle.inode_walks.proofs.ReadLaws.{block_full, block_long}
use Rattle.fs_client.proofs.CountLaws.{in_targets, counted_held, held_counted}
use Rattle.inode_fs.proofs.ComeLaws.{is_held}

-- where no pair leads elsewhere
none_other : (P : ℕ → Bool) (xs : List ℕ) (d : ℕ) → length (filter (λ x. not (P x)) xs) ≡ 0 → has_number xs d ≡ true → P d ≡ true
none_other P [] d e m = absurd (cc)
none_other P (x ∷ xs) d e m = by_first (P x) refl e (elim (or_cases (x == d) (has_number xs d) m) [
  | inl here ↦ inl (eqb-true x d here)
  | inr later ↦ inr (λ k. none_other P xs d k later)
])
  where
    by_first : (t : Bool) → P x ≡ t → length (cond (not t) (x ∷ filter (λ y. not (P y)) xs) (filter (λ y. not (P y)) xs)) ≡ 0 → (x ≡ d) ⊎ (length (filter (λ y. not (P y)) xs) ≡ 0 → P d ≡ true) → P d ≡ true
    by_first true p k side = elim side [ inl same ↦ ap P (sym same) ∙ p | inr later ↦ later k ]
    by_first false p k side = absurd (omega (arith, k))

pub no_others : (w : World) (b : ℕ) (bs : List ℕ) → length (other_targets w b bs) ≡ 0 → (d : ℕ) → holds w.pairs b d ≡ true → has_number bs d ≡ true
no_others w b bs e d h = none_other (has_number bs) (targets_of w b) d e (in_targets b w.pairs d ∙ h)

-- the inode in a block is the one in its bytes
pub inode_is : (w : World) (b : ℕ) (bytes : List ℕ) (o : Option Inode) → IsValid w → contents w b ≡ Some bytes → (16 ≤ length bytes → inode_in (length bytes) bytes ≡ o) → inode_at w b ≡ o
inode_is w b bytes o valid e said =
    let full = block_full w b bytes valid e in
    let room = block_long w valid in
    ap (option_and_then (inode_in (block_len w.geometry))) e ∙ (ap (λ n. inode_in n bytes) (sym full) ∙ said (omega (arith, full, room)))

pub no_inode : (w : World) (b : ℕ) → ◌≡◌ {A = Option Inode} (inode_at w b) None → ◌≡◌ {A = Option Inode} (held_at w b) None
no_inode w b e = ap (option_and_then (if_held w b)) e

module _ (w : World) (b : ℕ) (i : Inode) (valid : IsValid w) (is : inode_at w b ≡ Some i) (n : ℕ) (counts : n ≡ length (named_targets w b (blocks_said i))) where
  pub wrong_count : n ≢ length (blocks_said i) → ◌≡◌ {A = Option Inode} (held_at w b) None
  wrong_count other =
      ap (option_and_then (if_held w b)) is
      ∙ ap (λ t. only_if t (λ _. Some i)) (is_false (are_held w b (blocks_said i)) (λ h. other (counts ∙ held_counted w b (blocks_said i) valid h)))

  pub right_count : n ≡ length (blocks_said i) → held_at w b ≡ Some i
  right_count same = is_held w b i is (counted_held w b (blocks_said i) valid (sym counts ∙ same))

none_if : (n : ℕ) → nat_lt 0 n ≡ false → n ≡ 0
none_if zero h = refl
none_if (suc n) h = let more : nat_lt 0 (suc n) ≡ true = grind (arith, nat_tests) in absurd (clash (nat_lt 0 (suc n)) more h)

pub no_pairs : (w : World) (b n : ℕ) → n ≡ length (other_targets w b []) → nat_lt 0 n ≡ false → (d : ℕ) → holds w.pairs b d ≡ false
no_pairs w b n counts none d = is_false (holds w.pairs b d) (λ h. clash false (no_others w b [] (sym counts ∙ none_if n none) d h) refl)

pub is_seen : (c : Client) (old new : DiskView) (b : ℕ) (seen : Seen) (n : ℕ) → inode_at old.world b ≡ Some (inode_of seen.found.inode) → held_at old.world b ≡ Some (inode_of seen.found.inode) → HoldsWrite (state_of new) c.session b
    → n ≡ length (other_targets old.world b (blocks_said (inode_of seen.found.inode))) → seen.has_others ≡ nat_lt 0 n → IsInodeSeen c old new b seen
is_seen c old new b seen n at is held counts others = record {
  is = is;
  held = held;
  others = λ none d h. ap (λ o. has_number (blocks_in o) d) at ∙ no_others old.world b (blocks_said (inode_of seen.found.inode)) (sym counts ∙ none_if n (sym others ∙ none)) d h;
}

-- ---- a block was looked at, and then its pairs were counted

module _ {X : Type 0} {told : Type 0} {old mid new : DiskView} {x : X} (first : OnlyLooks told old mid (Ok x)) where
  pub then_lost : {Y Z : Type 0} {e : FsRefusal} → OnlyLooks {X = Y} told mid new (Err e) → OnlyLooks {X = Z} told old new (Err e)
  then_lost {e = e} second = then_looks told old mid new x (Err e) first (looks_refused told mid new e second)

  pub then_as : {Y Z : Type 0} {y : Y} (z : Z) → OnlyLooks told mid new (Ok y) → OnlyLooks told old new (Ok z)
  then_as {y = y} z second = then_looks told old mid new x (Ok z) first (looks_as told mid new y z second)
