-- An inode that is read from its block.
use Rattle.std.proofs.Common.{◌≡◌, ℕ, ◌≤◌, Bool, true, false, ◌*◌, ◌⊎◌, List, length, refl, sym, ◌∙◌, ap, subst, arith, inl, inr, Option, Some, None, Result, Ok, Err}
use Rattle.inode_walks.proofs.Common.{is_some, IfSome, IfOk, IfErr, OnOk, OnErr, block_len, World, contents, only_if, inode_at, inode_of, block_len_of, said_in, is_in_order, in_order, FsRefusal, DiskView, OnlyLooks, looks_as, looks_but_refuses, Found}
use Rattle.std.specs.Option.{option_and_then}
use Rattle.tsd_model.specs.Valid.{IsValid}
use Rattle.fs_trees.specs.Inode as tree
use Rattle.inode_layout.proofs.SaidLaws.{in_two_steps}
use Rattle.fs_trees.specs.declared.refusal.FsRefusal.TheVariants as no

-- a block of a valid world has the length of all
pub block_full : (w : World) (b : ℕ) (bytes : List ℕ) → IsValid w → contents w b ≡ Some bytes → length bytes ≡ block_len w.geometry
block_full w b bytes valid e = subst (λ o. IfSome o (λ x. length x ≡ block_len w.geometry)) e (valid.raw.sized.full b)

inode_by_said : (w : World) (b : ℕ) (bytes : List ℕ) (o : Option tree.Inode) → contents w b ≡ Some bytes → length bytes ≡ block_len w.geometry → o ≡ said_in (length bytes) bytes → inode_at w b ≡ option_and_then in_order o
inode_by_said w b bytes o e full said =
    ap (option_and_then (tree.inode_in (block_len w.geometry))) e
    ∙ (ap (λ n. tree.inode_in n bytes) (sym full)
    ∙ (in_two_steps (length bytes) bytes ∙ ap (option_and_then in_order) (sym said)))

-- what is said is the inode, where the block is one's
pub said_is : (w : World) (b : ℕ) (bytes : List ℕ) (i : tree.Inode) → contents w b ≡ Some bytes → length bytes ≡ block_len w.geometry → Some i ≡ said_in (length bytes) bytes → is_some (inode_at w b) ≡ true → inode_at w b ≡ Some i
said_is w b bytes i e full said there =
    let is = inode_by_said w b bytes (Some i) e full said in
    is ∙ passed i (is_in_order i) (ap is_some (sym is) ∙ there)
  where
    passed : (i : tree.Inode) (t : Bool) → is_some (only_if t (λ _. Some i)) ≡ true → only_if t (λ _. Some i) ≡ Some i
    passed i true h = refl
    passed i false h = absurd (cc)

-- and something is said there
pub none_said : (w : World) (b : ℕ) (bytes : List ℕ) → contents w b ≡ Some bytes → length bytes ≡ block_len w.geometry → ◌≡◌ {A = Option tree.Inode} None (said_in (length bytes) bytes) → is_some (inode_at w b) ≡ true → ⊥
none_said w b bytes e full said there = let is = inode_by_said w b bytes None e full said in clash (is_some (inode_at w b)) there (ap is_some is)
  where
    clash : (t : Bool) → t ≡ true → t ≡ false → ⊥
    clash t p q = cc

-- ---- an inode read from the bytes of a block

-- a block has room for a head
pub block_long : (w : World) → IsValid w → 16 ≤ block_len w.geometry
block_long w valid = by_sectors w.geometry.sectors valid.raw.sized.lawful.sectors
  where
    by_sectors : (k : ℕ) → (k ≡ 1) ⊎ (k ≡ 2) ⊎ (k ≡ 4) ⊎ (k ≡ 8) → 16 ≤ 512 * k
    by_sectors k h = elim h [ inl one ↦ omega (arith, one) | inr more ↦ elim more [ inl two ↦ omega (arith, two) | inr most ↦ elim most [ inl four ↦ omega (arith, four) | inr eight ↦ omega (arith, eight) ] ] ]

module _ (w : World) (b : ℕ) (bytes : List ℕ) (valid : IsValid w) (e : contents w b ≡ Some bytes) (there : is_some (inode_at w b) ≡ true) where
  full : length bytes ≡ block_len w.geometry
  full = block_full w b bytes valid e

  long : 16 ≤ length bytes
  long = let room = block_long w valid in omega (arith, full, room)

  pub read_says : (result : Result Found FsRefusal) → (16 ≤ length bytes → IfOk result (λ f. Some (inode_of f.inode) ≡ said_in (length bytes) bytes)) → IfOk result (λ f. inode_at w b ≡ Some (inode_of f.inode))
  read_says (Ok f) said = said_is w b bytes (inode_of f.inode) e full (said long) there
  read_says (Err r) said = tt

  pub read_whole : (result : Result Found FsRefusal) → IfOk result (λ f. block_len_of f.inode ≡ length bytes) → IfOk result (λ f. block_len_of f.inode ≡ block_len w.geometry)
  read_whole (Ok f) kept = kept ∙ full
  read_whole (Err r) kept = tt

  pub read_only : (result : Result Found FsRefusal) → (16 ≤ length bytes → OnErr result (said_in (length bytes) bytes ≡ None)) → IfErr result (λ r. r ≡ no.Device)
  read_only (Ok f) none = tt
  read_only (Err r) none = absurd (none_said w b bytes e full (sym (none long)) there)

pub on_ok : {X : Type 0} (result : Result X FsRefusal) (P : Type 0) → P → OnOk result P
on_ok (Ok x) P h = h
on_ok (Err e) P h = tt

-- what only looked still did where its bytes are no inode
pub read_looks : {X : Type 0} (told : Type 0) (old new : DiskView) (x : X) (result : Result Found FsRefusal) → OnlyLooks told old new (Ok x) → IfErr result (λ r. r ≡ no.NotThisFs) → OnlyLooks told old new result
read_looks told old new x (Ok f) h other = looks_as told old new x f h
read_looks told old new x (Err r) h other = looks_but_refuses told old new x r (λ d. clash r other d) h
  where
    clash : (r : FsRefusal) → r ≡ no.NotThisFs → r ≡ no.Device → ⊥
    clash r p q = cc
