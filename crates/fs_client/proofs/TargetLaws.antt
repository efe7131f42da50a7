-- What a named pair leads to is named, in a tree of chains.
use Rattle.std.proofs.Common.{◌≡◌, ℕ, true, ◌==◌, List, [], ◌∷◌, sym, ◌∙◌, ap, inl, inr}
use Rattle.fs_client.proofs.Common.{and_parts, or_cases, or_left, or_right, flat_map, World, has_number, holds, is_pair, is_there, by_chains, named_at}
use Rattle.fs_trees.specs.ChainTree.{ChainFile, Chains, blocks_of, links, chain_blocks, chain_pairs, chain_tree}
use Rattle.fs_trees.specs.declared.ask.ShellKind.TheVariants as kind
use Rattle.fs_laws.proofs.ChainLaws.{found}
use Rattle.fs_laws.proofs.ListLaws.{held_append, number_left, number_right}

-- each link behind a block leads to one of those that follow it
pub linked_behind : (d : ℕ) (bs : List ℕ) (a b : ℕ) → holds (links (d ∷ bs)) a b ≡ true → has_number bs b ≡ true
linked_behind d [] a b h = absurd (cc)
linked_behind d (c ∷ bs) a b h = elim (or_cases (is_pair a b (d, c)) (holds (links (c ∷ bs)) a b) h) [
  | inl here ↦ or_left (c == b) _ (and_parts (d == a) (c == b) here).1
  | inr later ↦ or_right (c == b) _ (linked_behind c bs a b later)
]

linked_in : (bs : List ℕ) (a b : ℕ) → holds (links bs) a b ≡ true → has_number bs b ≡ true
linked_in [] a b h = absurd (cc)
linked_in (d ∷ bs) a b h = or_right (d == b) _ (linked_behind d bs a b h)

linked_files : (fs : List ChainFile) (a b : ℕ) → holds (flat_map (λ f. links (f.from ∷ blocks_of f.chain)) fs) a b ≡ true → has_number (flat_map (λ f. blocks_of f.chain) fs) b ≡ true
linked_files [] a b h = absurd (cc)
linked_files (f ∷ fs) a b h = elim (held_append (links (f.from ∷ blocks_of f.chain)) (flat_map (λ g. links (g.from ∷ blocks_of g.chain)) fs) a b h) [
  | inl here ↦ number_left (blocks_of f.chain) (flat_map (λ g. blocks_of g.chain) fs) b (linked_behind f.from (blocks_of f.chain) a b here)
  | inr later ↦ number_right (blocks_of f.chain) (flat_map (λ g. blocks_of g.chain) fs) b (linked_files fs a b later)
]

pub target_named : (c : Chains) (a b : ℕ) → holds (chain_pairs c) a b ≡ true → has_number (chain_blocks c) b ≡ true
target_named c a b h =
    let own = blocks_of c.directory in
    let rest = flat_map (λ f. blocks_of f.chain) c.files in
    elim (held_append (links own) (flat_map (λ f. links (f.from ∷ blocks_of f.chain)) c.files) a b h) [
      | inl link ↦ number_left own rest b (linked_in own a b link)
      | inr file ↦ number_right own rest b (linked_files c.files a b file)
    ]

pub chain_targets : (w : World) (root : ℕ) → is_there (chain_tree w root) ≡ true → (a b : ℕ) → holds (named_at kind.Chain w root).pairs a b ≡ true → has_number (named_at kind.Chain w root).blocks b ≡ true
chain_targets w root there a b h =
    let f = found w root there in
    let is = ap by_chains f.under in
    ap (λ n. has_number n.blocks b) is ∙ target_named f.chains a b (ap (λ n. holds n.pairs a b) (sym is) ∙ h)
