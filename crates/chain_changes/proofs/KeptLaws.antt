-- Chains whose blocks and pairs are kept.
use Rattle.std.proofs.Common.{◌≡◌, ℕ, ◌≤◌, sym, subst, length, Some}
use Rattle.chain_changes.proofs.Common.{block_len, World, Chains, blocks_of, chain_blocks, chain_pairs, chains_under, by_chains, named_at, Keeps, number_left, number_right, AreEntries, from_same, files_same, has_chains, chains_are, right_is, is_right}
use Rattle.fs_trees.specs.declared.ask.ShellKind.TheVariants as kind

pub chains_kept : (w next : World) (root : ℕ) (c : Chains) → chains_under w root ≡ Some c → Keeps w next (named_at kind.Chain w root) → chains_under next root ≡ Some c
chains_kept w next root c under keeps =
    let has = has_chains w root c under in
    let right = right_is w c has.right in
    let kept : Keeps w next (record { blocks = chain_blocks c; pairs = chain_pairs c }) = subst (λ o. Keeps w next (by_chains o)) under keeps in
    chains_are next root c (record {
      directory = record {
        links = from_same w next (Some root) c.directory (λ b m. kept.bytes b (number_left (blocks_of c.directory) _ b m)) has.directory.links;
        short = subst (λ g. length c.directory ≤ g.blocks) (sym kept.geometry) has.directory.short;
      };
      listing = record {
        entries = has.listing.entries;
        in_order = subst (λ g. AreEntries (block_len g) c.directory has.listing.entries) (sym kept.geometry) has.listing.in_order;
        files = files_same w next has.listing.entries c.files kept.geometry (λ b m. kept.bytes b (number_right (blocks_of c.directory) _ b m)) has.listing.files;
      };
      right = is_right next c (record { held = λ a b h. kept.pairs a b h; once = right.once; names = right.names; few = right.few });
    })
