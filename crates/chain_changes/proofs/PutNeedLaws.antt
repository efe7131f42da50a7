-- What a file that is put needs, and what refuses it.
use Rattle.std.proofs.Common.{◌≡◌, ℕ, suc, ◌+◌, Bool, true, false, not, cond, ◌&&◌, nat_le, List, [], ◌∷◌, length, refl, ◌∙◌, ap, Option, Some, None}
use Rattle.chain_changes.proofs.Common.{and_parts, not-true, if◌then◌else◌, Geometry, Name, Path, name_lt, are_distinct, Entries, none, file, dir, nothing, a_file, a_dir, Tree, entry, is_there, is_dir, names, before, with_entry, ChainFile, chain_bytes, names_max, tree_of_files, need, clusters_for, chain_need, RoomNeed, when, first_of, no_file, dir_full, too_big, no_room, refusal, FsRefusal, lookup_refusal, is_among, file_names, others_tested, tree_lacks}
use Rattle.fs_trees.specs.declared.ask.ShellAsk.TheVariants as ask
use Rattle.fs_trees.specs.declared.ask.ShellKind.TheVariants as kind
use Rattle.fs_trees.specs.declared.refusal.FsRefusal.TheVariants as no

-- ---- how many names the directory has

abbrev FileEntries : Type 0
FileEntries = Entries (Unit {0}) (List ℕ)

one_more : (n : Name) (x : List ℕ) (es : FileEntries) → entry n es ≡ nothing → length (names (with_entry n (a_file x) es)) ≡ suc (length (names es))
one_more n x none h = refl
one_more n x (file m f rest) h = by_order (name_lt n m) (name_lt m n) h (λ e. one_more n x rest e)
  where
    by_order : (t u : Bool) → cond t nothing (cond u (entry n rest) (a_file f)) ≡ nothing → (entry n rest ≡ nothing → length (names (with_entry n (a_file x) rest)) ≡ suc (length (names rest)))
        → length (names (cond t (before n (a_file x) (file m f rest)) (cond u (file m f (with_entry n (a_file x) rest)) (before n (a_file x) rest)))) ≡ suc (suc (length (names rest)))
    by_order true u e later = refl
    by_order false true e later = ap suc (later e)
    by_order false false e later = absurd (cc)
one_more n x (dir m d inside rest) h = by_order (name_lt n m) (name_lt m n) h (λ e. one_more n x rest e)
  where
    by_order : (t u : Bool) → cond t nothing (cond u (entry n rest) (a_dir d inside)) ≡ nothing → (entry n rest ≡ nothing → length (names (with_entry n (a_file x) rest)) ≡ suc (length (names rest)))
        → length (names (cond t (before n (a_file x) (dir m d inside rest)) (cond u (dir m d inside (with_entry n (a_file x) rest)) (before n (a_file x) rest)))) ≡ suc (suc (length (names rest)))
    by_order true u e later = refl
    by_order false true e later = ap suc (later e)
    by_order false false e later = absurd (cc)

pub names_counted : (fs : List ChainFile) → are_distinct (file_names fs) ≡ true → length (names (tree_of_files fs)) ≡ length fs
names_counted [] h = refl
names_counted (f ∷ fs) h =
    let parts = and_parts (not (is_among (file_names fs) f.name)) (are_distinct (file_names fs)) h in
    one_more f.name (chain_bytes f.chain) (tree_of_files fs) (tree_lacks f.name fs (others_tested f.name (file_names fs) (not-true (is_among (file_names fs) f.name) parts.0)))
    ∙ ap suc (names_counted fs parts.1)

-- ---- what refuses it

module _ (g : Geometry) (es : FileEntries) (free held : ℕ) (n : RoomNeed) (x : List ℕ) where
  abbrev t : Tree
  t = a_dir tt es

  pub put_lost : (p : Path) (e : FsRefusal) → lookup_refusal (a_dir tt es) p no.IsDir ≡ Some e → refusal kind.Chain g (a_dir tt es) free held n (ask.Put p x) ≡ Some e
  put_lost [] e h = h
  put_lost (m ∷ ms) e h = ap (λ o. first_of (o ∷ no_file t (m ∷ ms) ∷ dir_full kind.Chain g t (m ∷ ms) ∷ too_big kind.Chain g (length x) ∷ no_room g free held n)) h

  pub put_over : (m : Name) (y : List ℕ) → entry m es ≡ a_file y → refusal kind.Chain g (a_dir tt es) free held n (ask.Put (m ∷ []) x) ≡ first_of (no_room g free held n)
  put_over m y e = ap (λ z. first_of (when (is_dir z) no.IsDir ∷ when (not (is_there z) && nat_le names_max (length (names es))) no.DirFull ∷ None ∷ no_room g free held n)) e

  pub put_new : (m : Name) → entry m es ≡ nothing → refusal kind.Chain g (a_dir tt es) free held n (ask.Put (m ∷ []) x) ≡ first_of (when (nat_le names_max (length (names es))) no.DirFull ∷ no_room g free held n)
  put_new m e = ap (λ z. first_of (when (is_dir z) no.IsDir ∷ when (not (is_there z) && nat_le names_max (length (names es))) no.DirFull ∷ None ∷ no_room g free held n)) e
      ∙ drop_none (when (nat_le names_max (length (names es))) no.DirFull)
    where
      drop_none : (o : Option FsRefusal) → first_of (o ∷ None ∷ no_room g free held n) ≡ first_of (o ∷ no_room g free held n)
      drop_none None = refl
      drop_none (Some r) = refl

-- ---- what it needs

-- so many clusters, and one of the directory where none has room for a new name
module _ (g : Geometry) (es : FileEntries) (roomy : Bool) (x : List ℕ) (m : Name) where
  pub need_over : (y : List ℕ) → entry m es ≡ a_file y → chain_need g (a_dir tt es) roomy (ask.Put (m ∷ []) x) ≡ need (clusters_for g (length x) + 0) (clusters_for g (length x) + 0)
  need_over y e = ap (λ z. need (clusters_for g (length x) + (if not roomy && not (is_there z) then 1 else 0)) (clusters_for g (length x) + (if not roomy && not (is_there z) then 1 else 0))) e
      ∙ by_room (not roomy)
    where
      by_room : (t : Bool) → need (clusters_for g (length x) + (if t && false then 1 else 0)) (clusters_for g (length x) + (if t && false then 1 else 0)) ≡ need (clusters_for g (length x) + 0) (clusters_for g (length x) + 0)
      by_room true = refl
      by_room false = refl

  pub need_new : entry m es ≡ nothing → (extra : ℕ) → cond {A = ℕ} (not roomy && true) 1 0 ≡ extra → chain_need g (a_dir tt es) roomy (ask.Put (m ∷ []) x) ≡ need (clusters_for g (length x) + extra) (clusters_for g (length x) + extra)
  need_new e extra is = ap (λ z. need (clusters_for g (length x) + (if not roomy && not (is_there z) then 1 else 0)) (clusters_for g (length x) + (if not roomy && not (is_there z) then 1 else 0))) e
      ∙ ap (λ k. need (clusters_for g (length x) + k) (clusters_for g (length x) + k)) is
