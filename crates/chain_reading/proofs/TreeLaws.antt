-- Whether there is a tree.
use Rattle.std.proofs.Common.{◌≡◌, ℕ, ◌≤◌, Bool, true, false, ◌&&◌, nat_le, List, [], length, refl, sym, ◌∙◌, ap, subst, arith, inl, inr, Option, Some, None, Result, Ok, Err}
use Rattle.chain_reading.proofs.Common.{le-leb, World, are_apart, holds, are_distinct, is_there, only_if, blocks_of, links, Chains, chain_blocks, chain_pairs, are_right, names_max, with_files, with_directory, as_tree, chain_tree, all_held, held_left, held_right, held_append, found, times-append, times_apart, HasNone, Agrees, BlockSet, is_false, agrees_none, file_blocks, file_pairs, file_names, IfOk, block_len, FsRefusal, DiskView, Client, MayWrite, Looked, IsFrom, AreEntries, placed_names, ArePagesAhead, directory_from, Comes}
use Rattle.chain_reading.proofs.ChainedLaws.{chain_from, listing_from}
use Rattle.chain_reading.proofs.ChangeLaws.{has_chains, right_is}
use Rattle.chain_reading.proofs.KnownLaws.{names_of_files}
use Rattle.chain_reading.proofs.LoopLaws.{none_of, some_of}
use Rattle.chain_reading.proofs.RightLaws.{DirectoryRight, directory_right}
use Rattle.chain_reading.proofs.WrongLaws.{directory_wrong}

-- where the look came to all, the names alone decide
module _ (w : World) (root : ℕ) (t : List ℕ) (right : DirectoryRight w w.geometry.blocks root 0 [] t) where
  abbrev all : Chains
  all = record { directory = right.chain; files = right.files }

  pairs_held : (x y : ℕ) → holds (chain_pairs all) x y ≡ true → holds w.pairs x y ≡ true
  pairs_held x y k = elim (held_append (links (blocks_of right.chain)) (file_pairs right.files) x y k) [ inl one ↦ right.linked x y one | inr two ↦ right.held x y two ]

  apart : are_apart (chain_blocks all) ≡ true
  apart = times_apart (chain_blocks all) (λ c.
      let sum = times-append c (blocks_of right.chain) (file_blocks right.files) in
      let come = right.count_of c in
      let once = right.once (λ d. omega arith) c in
      omega (arith, sum, come, once))

  by_names : are_right w all ≡ are_distinct (file_names right.files)
  by_names =
      ap (λ p. ((p && are_apart (chain_blocks all)) && are_distinct (file_names right.files)) && nat_le (length right.files) names_max) (all_held (chain_pairs all) w.pairs pairs_held)
      ∙ (ap (λ p. (p && are_distinct (file_names right.files)) && nat_le (length right.files) names_max) apart
      ∙ last (are_distinct (file_names right.files)) (nat_le (length right.files) names_max) (le-leb (length right.files) names_max (let k = right.few in omega (arith, k))))
    where
      last : (p q : Bool) → q ≡ true → (p && q) ≡ p
      last true q e = e
      last false q e = refl

  pub names_decide : is_there (chain_tree w root) ≡ are_distinct (file_names right.files)
  names_decide =
      ap (λ o. is_there (as_tree (with_directory w o))) (chain_from w root right.chain (record { links = right.from; short = right.short }))
      ∙ (ap (λ o. is_there (as_tree (with_files w right.chain o))) (listing_from w right.chain right.files (record { entries = right.entries; in_order = right.listed; files = right.are }))
      ∙ (by_test (are_right w all) ∙ by_names))
    where
      by_test : (p : Bool) → is_there (as_tree (only_if p (λ _. Some all))) ≡ p
      by_test true = refl
      by_test false = refl

-- where it came to nothing, there is none
pub no_tree : (w : World) (root : ℕ) → ◌≡◌ {A = Option (List ℕ)} (directory_from w w.geometry.blocks root 0 []) None → is_there (chain_tree w root) ≡ false
no_tree w root h = is_false (is_there (chain_tree w root)) (λ there.
    let f = found w root there in
    let has = has_chains w root f.chains f.under in
    let whole = right_is w f.chains has.right in
    directory_wrong w w.geometry.blocks root 0 [] f.chains.directory has.listing.entries f.chains.files
    (record {
      from = has.directory.links;
      short = has.directory.short;
      listed = has.listing.in_order;
      are = has.listing.files;
      linked = λ x y k. whole.held x y (held_left (links (blocks_of f.chains.directory)) (file_pairs f.chains.files) x y k);
      held = λ x y k. whole.held x y (held_right (links (blocks_of f.chains.directory)) (file_pairs f.chains.files) x y k);
      fresh = λ c. let once = whole.once c in let sum = times-append c (blocks_of f.chains.directory) (file_blocks f.chains.files) in omega (arith, once, sum);
      few = let k = whole.few in omega (arith, k);
    }) h)

-- ---- what the look tells

-- the directory's clusters are ahead of the names' comparison
pub pages_ahead : (c : Client) (old mid : DiskView) (t : List ℕ) (right : DirectoryRight old.world old.world.geometry.blocks c.root 0 [] t) → Looked old mid → MayWrite c mid c.root → ArePagesAhead c mid c.root right.chain right.entries
pages_ahead c old mid t right seen may = record {
  ahead = record {
    rest = subst (λ w. IsFrom w (Some c.root) right.chain) (sym seen.world) right.from;
    held = λ x y k. ap (λ w. holds w.pairs x y) seen.world ∙ right.linked x y k;
    may = may;
  };
  entries = subst (λ w. AreEntries (block_len w.geometry) right.chain right.entries) (sym seen.world) right.listed;
  short = subst (λ w. length right.chain ≤ w.geometry.blocks) (sym seen.world) right.short;
}

pub decided : (w : World) (root : ℕ) (t : List ℕ) (right : DirectoryRight w w.geometry.blocks root 0 [] t) (result : Result Bool FsRefusal)
    → IfOk result (λ distinct. distinct ≡ are_distinct (placed_names right.entries)) → IfOk result (λ there. there ≡ is_there (chain_tree w root))
decided w root t right (Ok d) h = h ∙ (ap are_distinct (sym (names_of_files w right.entries right.files right.are)) ∙ sym (names_decide w root t right))
decided w root t right (Err e) h = tt

-- where all was right, and where not
pub all_right : (w : World) (root : ℕ) (m next : BlockSet) (result : Bool) → HasNone m → result ≡ true → ((s : List ℕ) → Agrees m s → Comes next (directory_from w w.geometry.blocks root 0 s) result)
    → (t : List ℕ) × DirectoryRight w w.geometry.blocks root 0 [] t
all_right w root m next result none test comes =
    let all = some_of next _ (subst (Comes next (directory_from w w.geometry.blocks root 0 [])) test (comes [] (agrees_none m none))) in
    (all.0, directory_right w w.geometry.blocks root 0 [] all.0 all.1)

pub not_right : (w : World) (root : ℕ) (m next : BlockSet) (result : Bool) → HasNone m → result ≡ false → ((s : List ℕ) → Agrees m s → Comes next (directory_from w w.geometry.blocks root 0 s) result)
    → false ≡ is_there (chain_tree w root)
not_right w root m next result none test comes = sym (no_tree w root (none_of next _ (subst (Comes next (directory_from w w.geometry.blocks root 0 [])) test (comes [] (agrees_none m none)))))
