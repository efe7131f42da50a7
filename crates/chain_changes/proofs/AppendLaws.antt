-- An append of no bytes.
use Rattle.std.proofs.Common.{◌≡◌, ℕ, ◌+◌, ◌-◌, ◌<◌, true, List, [], ◌∷◌, ◌++◌, length, refl, sym, ◌∙◌, ap, subst, arith, append-nil, Option, Some, None}
use Rattle.chain_changes.proofs.Common.{free_count, IsValid, Path, are_distinct, a_file, a_dir, at, is_there, bytes_in, with_at, with_entry, chain_bytes, as_tree, tree_of_files, chain_tree, clusters_for, need_of, first_of, lost_on_the_way, FsRefusal, DiskView, Client, no_room_in, refused_on, room_there, file_names, has_chains, right_is, distinct_parts, tree_set, tree_under, mounted_by, IsFileOf, no_file_found}
use Rattle.fs_trees.specs.declared.ask.ShellAsk.TheVariants as ask
use Rattle.fs_trees.specs.declared.ask.ShellKind.TheVariants as kind
use Rattle.chain_changes.proofs.RemoveLaws.{names_between}
use Rattle.chain_changes.proofs.GrowthLaws.{append_refused}

first_none : (o : Option FsRefusal) (rest : List (Option FsRefusal)) → ◌≡◌ {A = Option FsRefusal} (first_of (o ∷ rest)) None → ◌≡◌ {A = Option FsRefusal} o None
first_none None rest h = refl
first_none (Some r) rest h = absurd (cc)

module _ (c : Client) (first mid : DiskView) (path : Path) (b : ℕ) (valid : IsValid first.world) (there : is_there (tree_under c first) ≡ true) (same : mid.world ≡ first.world) (found : IsFileOf c mid path b) where
  at_path : at (tree_under c first) path ≡ a_file (chain_bytes found.file.chain)
  at_path = ap (λ w. at (chain_tree w c.root) path) (sym same) ∙ found.there

  no_more : clusters_for first.world.geometry (length (bytes_in (at (tree_under c first) path)) + 0) - clusters_for first.world.geometry (length (bytes_in (at (tree_under c first) path))) ≡ 0
  no_more =
      let n = length (bytes_in (at (tree_under c first) path)) in
      let plain : n + 0 ≡ n = omega arith in
      ap (λ m. clusters_for first.world.geometry m - clusters_for first.world.geometry n) plain ∙ none (clusters_for first.world.geometry n)
    where
      none : (m : ℕ) → m - m ≡ 0
      none m = omega arith

  -- it needs nothing
  pub nothing_needed : ◌≡◌ {A = Option FsRefusal} (no_file_found (tree_under c first) path) None → ◌≡◌ {A = Option FsRefusal} (refused_on (mounted_by c) first (ask.Append path [])) None
  nothing_needed way =
      append_refused first.world.geometry (tree_under c first) (free_count first.world) (length first.world.pairs) (need_of kind.Chain first.world c.root (tree_under c first) (ask.Append path [])) path [] (chain_bytes found.file.chain) there
      (first_none (lost_on_the_way (tree_under c first) path) _ way) at_path
      ∙ (ap (λ n. no_room_in first.world n n) no_more ∙ room_there first.world 0 0 (omega arith) (let most = valid.raw.sized.room in omega (arith, most)))

  -- and changes nothing
  pub nothing_added : tree_under c mid ≡ with_at path (a_file (bytes_in (at (tree_under c first) path) ++ [])) (tree_under c first)
  nothing_added =
      let f = found.file in
      let right = right_is mid.world found.chains (has_chains mid.world c.root found.chains found.under).right in
      let parts = distinct_parts f.name (file_names found.front) (file_names found.back) (ap are_distinct (sym (names_between found.front f found.back) ∙ ap file_names (sym found.among)) ∙ right.names) in
      let set : tree_of_files found.chains.files ≡ with_entry f.name (a_file (chain_bytes f.chain)) (tree_of_files found.chains.files) =
      subst (λ fs. tree_of_files fs ≡ with_entry f.name (a_file (chain_bytes f.chain)) (tree_of_files fs)) (sym found.among) (tree_set found.front f f found.back refl parts.0) in
      let tree : tree_under c mid ≡ a_dir tt (tree_of_files found.chains.files) = ap as_tree found.under in
      let bytes : bytes_in (at (tree_under c first) path) ++ [] ≡ chain_bytes f.chain = append-nil (bytes_in (at (tree_under c first) path)) ∙ ap bytes_in at_path in
      tree ∙ (ap (a_dir tt) set ∙ (ap (with_at (f.name ∷ []) (a_file (chain_bytes f.chain))) (sym tree)
      ∙ (ap (λ p. with_at p (a_file (chain_bytes f.chain)) (tree_under c mid)) (sym found.named)
      ∙ (ap (λ w. with_at path (a_file (chain_bytes f.chain)) (chain_tree w c.root)) same
      ∙ ap (λ x. with_at path (a_file x) (tree_under c first)) (sym bytes)))))

-- where there are bytes, there is one at least
pub some_bytes : (x : List ℕ) → (x ≡ [] → ⊥) → 0 < length x
some_bytes [] h = absurd (h refl)
some_bytes (y ∷ x) h = omega arith
