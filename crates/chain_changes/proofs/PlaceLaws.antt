-- What a path leads to, by the chains under the root.
use Rattle.std.proofs.Common.{◌≡◌, ℕ, List, [], ◌∷◌, sym, ◌∙◌, ap, subst, Some}
use Rattle.chain_changes.proofs.Common.{block_len, Name, Path, nothing, at, Link, chains_under, as_tree, chain_tree, lost_on_the_way, DiskView, IsDiskSound, Client, Looked, PlacedEntry, AreEntries, AreOthers, has_chains, tree_lacks, Page, Taken, Free, IsDirectoryAhead, MayAsk, tree_under, IsNameFound, no_way, IsKnown, is_known, tree_known, taken_name, free_name, names_of_files, entries_unique, IsLookupOf}
use Rattle.chain_reading.specs.declared.finding.Lookup.{Lookup}

module _ (told : Type 0) (c : Client) (old new : DiskView) (t : told) (may : MayAsk told c old) (sound : IsDiskSound old) (seen : Looked old new) (n : Name) (position : Lookup) (found : (ls : List Link) (ps : List PlacedEntry) → IsDirectoryAhead c old ls ps → IsNameFound c new n ls ps position) where
  known : IsKnown c old
  known = is_known told c old t may sound

  pub is_at : IsLookupOf c new n position
  is_at = record {
    chains = known.chains;
    under = ap (λ w. chains_under w c.root) seen.world ∙ known.under;
    found = λ ps are.
        let len = block_len old.world.geometry in
        let own : AreEntries len known.chains.directory ps = subst (λ w. AreEntries (block_len w.geometry) known.chains.directory ps) seen.world are in
        subst (λ qs. IsNameFound c new n known.chains.directory qs position) (entries_unique len known.chains.directory known.has.listing.entries ps known.has.listing.in_order own)
        (found known.chains.directory known.has.listing.entries known.ahead);
  }

  pub lost : (m : Name) (ns : Path) → lost_on_the_way (tree_under c old) (n ∷ m ∷ ns) ≡ Some (no_way position)
  lost m ns = by_place position (found known.chains.directory known.has.listing.entries known.ahead)
    where
      by_place : (p : Lookup) → IsNameFound c new n known.chains.directory known.has.listing.entries p → lost_on_the_way (tree_under c old) (n ∷ m ∷ ns) ≡ Some (no_way p)
      by_place (Taken page position first) taken =
          ap (λ x. lost_on_the_way x (n ∷ m ∷ ns)) (tree_known c old known) ∙ ap (λ x. lost_on_the_way x (m ∷ ns)) (taken_name c old new known seen n page position first taken)
      by_place (Free page count) free =
          ap (λ x. lost_on_the_way x (n ∷ m ∷ ns)) (tree_known c old known) ∙ ap (λ x. lost_on_the_way x (m ∷ ns)) (free_name c old new known seen n free.0)

-- nothing stands at the path of a free name
pub free_at : (c : Client) (first mid : DiskView) (path : Path) (n : Name) (page : Page) (count : ℕ) → mid.world ≡ first.world → path ≡ n ∷ [] → IsLookupOf c mid n (Free page count) → at (tree_under c first) path ≡ nothing
free_at c first mid path n page count same path_is found =
    let has = has_chains mid.world c.root found.chains found.under in
    let free = found.found has.listing.entries has.listing.in_order in
    let others = subst (AreOthers n) (sym (names_of_files mid.world has.listing.entries found.chains.files has.listing.files)) free.0 in
    ap (at (tree_under c first)) path_is ∙ (ap (λ w. at (chain_tree w c.root) (n ∷ [])) (sym same)
    ∙ (ap (λ o. at (as_tree o) (n ∷ [])) found.under ∙ tree_lacks n found.chains.files others))
