-- Asks that only look see the tree.
use Rattle.std.proofs.Common.{◌≡◌, inl, inr, ℕ, ◌≤◌, true, false, Bool, cond, nat_le, List, [], ◌∷◌, ◌++◌, length, refl, sym, ◌∙◌, ap, subst, arith, Option, Some, None}
use Rattle.shell_server.proofs.Common.{IsTrue, nat_tests, Image, World, free_count, Name, Path, is_name, is_path, name_lt, are_ascending, is_below_first_name, Tree, nothing, a_file, a_dir, at, is_there, names_in, bytes, listed, refused, need_of, step_in, ShellAsk, ShellState, RestsIn, above, shell_step, tree_by, tree_in, tree_of, IsNameListing, and_parts, and_from, list_all, IsValid, Looked, file_of, dir_here, next_file, next_dir, entry_seen, part_seen, next_seen, look_of}
use Rattle.fs_trees.specs.Names.{path_max}
use Rattle.fs_trees.specs.Tree.{Entries, none, child, entry, is_dir, names}
use Rattle.fs_trees.specs.Tree.{file as file_entry, dir as dir_entry}
use Rattle.fs_trees.specs.declared.ask.ShellAsk.TheVariants as ask
use Rattle.fs_trees.specs.declared.refusal.FsRefusal.TheVariants as no
use Rattle.fs_laws.proofs.ListingLaws.{tree_lists, nothing_lists}
use Rattle.fs_laws.proofs.OrderLaws.{below_only, lt_irreflexive, lt_trans}
use Rattle.fs_laws.proofs.SizeLaws.{tree_depth}
use Rattle.shell_text.specs.FileBodies.{is_after}
use Rattle.shell_text.specs.declared.file_ask.FileAsk.TheVariants as file
use Rattle.shell_server.specs.Seen.{IsNextIn, SeesTree}
use Rattle.shell_server.proofs.LookingLaws.{next_told}
use Rattle.fs_laws.proofs.AtLaws.{nowhere, file_or_dir, at_last, cat_file, cat_dir, ls_dir}

-- ---- the name that is found

below_found : (m a n : Name) (ns : List Name) → is_below_first_name m ns ≡ true → are_ascending ns ≡ true → above a ns ≡ Some n → name_lt m n ≡ true
below_found m a n [] h up e = absurd (cc)
below_found m a n (k ∷ ks) h up e =
    let parts = and_parts (is_below_first_name k ks) (are_ascending ks) up in
    elim (name_lt a k) as (λ t. cond t (Some k) (above a ks) ≡ Some n → name_lt m n ≡ true) [
      | true ↦ λ g. let same : k ≡ n = cc in ap (name_lt m) (sym same) ∙ h
      | false ↦ λ g. lt_trans m k n h (below_found k a n ks parts.0 parts.1 g)
    ] e

found_named : (a n : Name) (ns : List Name) → list_all is_name ns ≡ true → above a ns ≡ Some n → is_name n ≡ true
found_named a n [] h e = absurd (cc)
found_named a n (k ∷ ks) h e =
    let parts = and_parts (is_name k) (list_all is_name ks) h in
    elim (name_lt a k) as (λ t. cond t (Some k) (above a ks) ≡ Some n → is_name n ≡ true) [
      | true ↦ λ g. let same : k ≡ n = cc in ap is_name (sym same) ∙ parts.0
      | false ↦ λ g. found_named a n ks parts.1 g
    ] e

-- an entry of its own name, or one behind
module _ (m n : Name) (x y : Tree) where
  itself : m ≡ n → is_there y ≡ true → is_there (cond (name_lt n m) nothing (cond (name_lt m n) x y)) ≡ true
  itself same there =
      let low : name_lt n m ≡ false = ap (name_lt n) same ∙ lt_irreflexive n in
      let high : name_lt m n ≡ false = ap (λ k. name_lt k n) same ∙ lt_irreflexive n in
      ap (λ t. is_there (cond t nothing (cond (name_lt m n) x y))) low ∙ ap (λ t. is_there (cond t x y)) high ∙ there

  later : name_lt m n ≡ true → is_there x ≡ true → is_there (cond (name_lt n m) nothing (cond (name_lt m n) x y)) ≡ true
  later less there = ap (λ t. is_there (cond t nothing (cond (name_lt m n) x y))) (below_only m n less) ∙ ap (λ t. is_there (cond t x y)) less ∙ there

found_there : (a n : Name) (es : Entries (Unit {0}) (List ℕ)) → are_ascending (names es) ≡ true → above a (names es) ≡ Some n → is_there (entry n es) ≡ true
found_there a n none up e = absurd (cc)
found_there a n (file_entry m f rest) up e =
    let parts = and_parts (is_below_first_name m (names rest)) (are_ascending (names rest)) up in
    elim (name_lt a m) as (λ t. cond t (Some m) (above a (names rest)) ≡ Some n → is_there (entry n (file_entry m f rest)) ≡ true) [
      | true ↦ λ g. let same : m ≡ n = cc in itself m n (entry n rest) (a_file f) same refl
      | false ↦ λ g. later m n (entry n rest) (a_file f) (below_found m a n (names rest) parts.0 parts.1 g) (found_there a n rest parts.1 g)
    ] e
found_there a n (dir_entry m d inside rest) up e =
    let parts = and_parts (is_below_first_name m (names rest)) (are_ascending (names rest)) up in
    elim (name_lt a m) as (λ t. cond t (Some m) (above a (names rest)) ≡ Some n → is_there (entry n (dir_entry m d inside rest)) ≡ true) [
      | true ↦ λ g. let same : m ≡ n = cc in itself m n (entry n rest) (a_dir d inside) same refl
      | false ↦ λ g. later m n (entry n rest) (a_dir d inside) (below_found m a n (names rest) parts.0 parts.1 g) (found_there a n rest parts.1 g)
    ] e

child_there : (a n : Name) (x : Tree) → are_ascending (names_in x) ≡ true → above a (names_in x) ≡ Some n → is_there (child n x) ≡ true
child_there a n nothing up e = absurd (cc)
child_there a n (a_file f) up e = absurd (cc)
child_there a n (a_dir d es) up e = found_there a n es up e

all_named : (p : Path) (n : Name) → list_all is_name p ≡ true → is_name n ≡ true → list_all is_name (p ++ n ∷ []) ≡ true
all_named [] n h good = and_from (is_name n) true good refl
all_named (m ∷ ms) n h good =
    let parts = and_parts (is_name m) (list_all is_name ms) h in
    and_from (is_name m) (list_all is_name (ms ++ n ∷ [])) parts.0 (all_named ms n parts.1 good)

-- ---- a state at rest

module _ (s : ShellState) where
  abbrev t : Tree
  t = tree_in s

  cat_heard : (p : Path) → IsTrue (is_path p) → (shell_step s (ask.Cat p)).answer ≡ (step_in s.files.kind s.world s.files.root t (ask.Cat p)).answer
  cat_heard p named = ap (λ b. (step_in s.files.kind s.world s.files.root t (cond b (ask.Cat p) ask.Bad)).answer) named

  ls_heard : (p : Path) → IsTrue (is_path p) → (shell_step s (ask.Ls p)).answer ≡ (step_in s.files.kind s.world s.files.root t (ask.Ls p)).answer
  ls_heard p named = ap (λ b. (step_in s.files.kind s.world s.files.root t (cond b (ask.Ls p) ask.Bad)).answer) named

  says_file : (p : Path) (x : List ℕ) → IsTrue (is_path p) → at t p ≡ a_file x → (shell_step s (ask.Cat p)).answer ≡ bytes x
  says_file p x named is = cat_heard p named ∙ cat_file s.files.kind s.world.geometry (free_count s.world) (length s.world.pairs) (need_of s.files.kind s.world s.files.root t (ask.Cat p)) t p x is

  says_dir : (p : Path) → IsTrue (is_path p) → is_dir (at t p) ≡ true → (shell_step s (ask.Cat p)).answer ≡ refused no.IsDir
  says_dir p named is = cat_heard p named ∙ cat_dir s.files.kind s.world.geometry (free_count s.world) (length s.world.pairs) (need_of s.files.kind s.world s.files.root t (ask.Cat p)) t p is

  says_names : (p : Path) → IsTrue (is_path p) → is_dir (at t p) ≡ true → (shell_step s (ask.Ls p)).answer ≡ listed (names_in (at t p))
  says_names p named is = ls_heard p named ∙ ls_dir s.files.kind s.world.geometry (free_count s.world) (length s.world.pairs) (need_of s.files.kind s.world s.files.root t (ask.Ls p)) t p is

  module _ (still : s.under_way ≡ None) (valid : IsValid s.world) (path : Path) (named : IsTrue (is_path path)) where
    listing : IsNameListing (names_in (at t path))
    listing = by s.files.mounted
      where
        by : (m : Bool) → IsNameListing (names_in (at (cond m (tree_of s) nothing) path))
        by true = subst (λ (o : Option ShellAsk). IsNameListing (names_in (at (tree_by s.files s.world o) path))) (sym still) (tree_lists s.files.kind s.world s.files.root path valid.raw.sized.lawful)
        by false = nothing_lists path

    not_deep : (p : Path) → is_there (at t p) ≡ true → length p ≤ path_max
    not_deep p = by s.files.mounted
      where
        by : (m : Bool) → is_there (at (cond m (tree_of s) nothing) p) ≡ true → length p ≤ path_max
        by true = subst (λ (o : Option ShellAsk). is_there (at (tree_by s.files s.world o) p) ≡ true → length p ≤ path_max) (sym still) (tree_depth s.files.kind s.world s.files.root p)
        by false = λ h. absurd (nowhere _ _ p h)

    module _ (after : Name) (good : IsTrue (is_after after)) (dir : is_dir (at t path) ≡ true) where
      abbrev seen : Looked
      seen = look_of s (file.Next path after)

      next_is : seen ≡ next_seen (λ b. (shell_step s b).answer) path (above after (names_in (at t path)))
      next_is = next_told s path after good (above after (names_in (at t path))) (names_in (at t path), says_names path named dir, refl)

      module _ (n : Name) (found : above after (names_in (at t path)) ≡ Some n) where
        abbrev inner : Path
        inner = path ++ n ∷ []

        there : is_there (at t inner) ≡ true
        there = ap is_there (at_last path n t) ∙ child_there after n (at t path) listing.1 found

        inner_named : IsTrue (is_path inner)
        inner_named =
            let few : nat_le (length inner) path_max ≡ true = let h = not_deep inner there in grind (arith, nat_tests) in
            and_from (nat_le (length inner) path_max) (list_all is_name inner) few
            (all_named path n (and_parts (nat_le (length path) path_max) (list_all is_name path) named).1 (found_named after n (names_in (at t path)) listing.0 found))

        stands : IsNextIn t path (Some n) (next_seen (λ b. (shell_step s b).answer) path (Some n))
        stands = elim (file_or_dir (at t inner) there) [
          | inl f ↦ inl (f.0, f.1, ap (entry_seen (next_file n) (next_dir n)) (says_file inner f.0 inner_named f.1))
          | inr d ↦ inr (d, ap (entry_seen (next_file n) (next_dir n)) (says_dir inner inner_named d))
        ]

      next_in : IsNextIn t path (above after (names_in (at t path))) seen
      next_in = subst (λ l. IsNextIn t path (above after (names_in (at t path))) l) (sym next_is) (by (above after (names_in (at t path))) refl)
        where
          by : (o : Option Name) → above after (names_in (at t path)) ≡ o → IsNextIn t path o (next_seen (λ b. (shell_step s b).answer) path o)
          by None e = refl
          by (Some n) e = stands n e

    pub sees_at : SeesTree s path
    sees_at = record {
      size = λ x is. ap (entry_seen file_of dir_here) (says_file path x named is);
      part = λ x start count is. ap (part_seen start count) (says_file path x named is);
      dir = λ is. ap (entry_seen file_of dir_here) (says_dir path named is);
      next = next_in;
    }

pub sees : (start : World) (s : ShellState) (x : Image) (path : Path) → RestsIn start s x → IsTrue (is_path path) → SeesTree s path
sees start s x path rests named = sees_at s rests.at_rest rests.kept.valid path named
