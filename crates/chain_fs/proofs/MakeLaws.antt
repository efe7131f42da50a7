-- A root that is written as an empty directory.
use Rattle.std.proofs.Common.{◌≡◌, ℕ, true, zero, suc, ◌-◌, ◌<◌, ◌≤◌, List, [], ◌∷◌, length, refl, ◌∙◌, ap, arith, Some, None}
use Rattle.chain_fs.proofs.Common.{replicate, option_and_then, block_len, World, is_live, Cluster, cluster_in, directory_bytes, Link, cluster_at, chain_by_next, next_of, chain_at, files_in, with_directory, with_files, chains_under, as_tree, by_chains, written, IsEmptied, listing_from}
use Rattle.tsd_model.specs.Valid.{IsValid}
use Rattle.disk_laws.proofs.DoomLaws.{live_below}
use Rattle.fs_trees.specs.declared.ask.ShellKind.TheVariants as kind
use Rattle.fs_client.proofs.WriteLaws.{block_long, written_here}
use Rattle.chain_layout.proofs.BackLaws.{head_back, entries_back}

pub empty_fits : (w : World) → IsValid w → length (directory_bytes None []) ≤ block_len w.geometry
empty_fits w valid = let room = block_long w valid in omega (arith, room)

module _ (w : World) (root : ℕ) (valid : IsValid w) (primary : root < w.geometry.primaries) where
  abbrev zero_bytes : List ℕ
  zero_bytes = directory_bytes None []

  abbrev next : World
  next = written w root zero_bytes

  root_live : is_live w root ≡ true
  root_live = valid.raw.primaries root primary

  abbrev zeros : List ℕ
  zeros = replicate (block_len w.geometry - length zero_bytes) 0

  abbrev cluster : Cluster
  cluster = record { next = None; used = 0; body = zeros }

  abbrev directory : List Link
  directory = record { block = root; cluster = cluster } ∷ []

  says_next : cluster_at next root ≡ Some cluster
  says_next = ap (option_and_then cluster_in) (written_here w root zero_bytes root_live) ∙ head_back None 0 [] zeros (omega arith) (omega arith)

  chain_next : (n : ℕ) → 0 < n → chain_at next n root ≡ Some directory
  chain_next zero h = absurd (omega arith)
  chain_next (suc more) h = ap (λ o. chain_by_next (λ d. chain_at next more d) root o (next_of o)) says_next

  files_next : files_in next directory ≡ Some []
  files_next = listing_from next directory [] (record {
    entries = [];
    in_order = ([], [], entries_back (block_len w.geometry) None [] zeros cluster (omega arith) refl refl refl refl, refl, refl);
    files = tt;
  })

  chains_next : chains_under next root ≡ Some (record { directory = directory; files = [] })
  chains_next = ap (with_directory next) (chain_next w.geometry.blocks some) ∙ ap (with_files next directory) files_next
    where
      some : 0 < w.geometry.blocks
      some = let below = live_below w.blocks root root_live in let many = valid.raw.sized.each_block in omega (arith, below, many)

  pub emptied : IsEmptied kind.Chain (written w root (directory_bytes None [])) root
  emptied = record { tree = ap as_tree chains_next; named = ap by_chains chains_next }
