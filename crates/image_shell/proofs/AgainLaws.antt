-- A run over what a crash left of another.
use Rattle.std.proofs.Common.{◌≡◌, inl, inr, ℕ, List, [], ◌∷◌, refl, sym, ◌∙◌, ap, subst}
use Rattle.image_shell.proofs.Common.{Answers, FileAsk, FilesView, Image, IsFirstState, IsLeftOf, OthersStay, Run, ShellKind, ShellState, World, files_after, heard, is_there, resting, shell_service, tree_at, tree_of, tree_under, world_of}
use Rattle.fs_trees.specs.declared.ask.ShellAsk.{ShellAsk}
use Rattle.fs_trees.specs.declared.ask.ShellAsk.TheVariants as ask
use Rattle.fs_laws.proofs.OutsideLaws.{outside_twice}
use Rattle.shell_text.specs.declared.file_ask.FileAsk.TheVariants as file
use Rattle.image_shell.specs.Told.{IsFoundAgain, WhatACrashLeftIsMounted}

-- the same layout under the same root
abbrev IsSamePlace : FilesView → FilesView → Type 0
IsSamePlace f g = (g.kind ≡ f.kind) × (g.root ≡ f.root)

after_ask : (f : FilesView) (q : ShellAsk) → IsSamePlace f (files_after f q)
after_ask f ask.Make = (refl, refl)
after_ask f q = (refl, refl)

after_look : (s t : ShellState) → t ≡ s → IsSamePlace s.files t.files
after_look s t same = subst (λ (u : ShellState). IsSamePlace s.files u.files) (sym same) (refl, refl)

after_answer : (start : World) (s t : ShellState) (q : FileAsk) (line : List ℕ) → Answers start s q line t → IsSamePlace s.files t.files
after_answer start s t (file.Shell q) line given = subst (λ (h : FilesView). IsSamePlace s.files h) (sym given.files) (after_ask s.files (heard s.files.kind q))
after_answer start s t q line given = after_look s t given.same

after_run : (start : World) (s t : ShellState) (qs : List FileAsk) (xs : List (List ℕ)) → Run (shell_service start) s qs xs t → IsSamePlace s.files t.files
after_run start s t [] [] run = subst (λ (u : ShellState). IsSamePlace s.files u.files) run (refl, refl)
after_run start s t [] (a ∷ xs) run = absurd run
after_run start s t (q ∷ qs) [] run = absurd run
after_run start s t (q ∷ qs) (a ∷ xs) run =
    let one = after_answer start s run.0 q a run.1 in
    let more = after_run start run.0 t qs xs run.2 in
    (more.0 ∙ one.0, more.1 ∙ one.1)

module _ (f : FilesView) (start : World) (first second : ShellState) (x : Image) (is_first : IsFirstState f start first) (is_second : IsFirstState f (world_of x) second) where
  found : (s : ShellState) → IsSamePlace first.files s.files → IsLeftOf start s x → IsFoundAgain start s second
  found s same left =
      let kind : s.files.kind ≡ f.kind = same.0 ∙ ap (λ (h : FilesView). h.kind) is_first.files in
      let root : s.files.root ≡ f.root = same.1 ∙ ap (λ (h : FilesView). h.root) is_first.files in
      let here : tree_under f (world_of x) ≡ tree_of s =
      ap (λ (k : ShellKind). tree_at k (world_of x) f.root) (sym kind) ∙ ap (λ (n : ℕ). tree_at s.files.kind (world_of x) n) (sym root) ∙ ap (λ (w : World). tree_under s.files w) (sym left.stands.world) ∙ left.tree in
      let root_there : second.files.root ≡ s.files.root = ap (λ (h : FilesView). h.root) is_second.files ∙ sym root in
      record {
        tree = ap (λ (h : FilesView). tree_under h second.world) is_second.files ∙ is_second.tree ∙ here;
        mounted = ap (λ (h : FilesView). h.mounted) is_second.files ∙ ap is_there here;
        tidy = is_second.kept.tidy is_second.at_rest;
        geometry = is_second.kept.geometry ∙ ap (λ (w : World). w.geometry) (sym left.stands.world) ∙ left.geometry;
        others = outside_twice s.files.root start (world_of x) second.world (subst (λ (w : World). OthersStay s.files.root start w) left.stands.world left.others)
            (subst (λ (n : ℕ). OthersStay n (world_of x) second.world) root_there is_second.kept.others);
      }

  -- an empty tree was being made, and none is there yet
  found_none : (s : ShellState) (q : FileAsk) → IsSamePlace first.files s.files → (shell_service start).between s q x → IsFoundAgain start s second
  found_none s (file.Shell q) same making =
      let as_left = found (resting s.files making.world) same making.left in
      let none : tree_under s.files making.world ≡ tree_of s = making.none_yet ∙ sym making.none in
      record { tree = as_left.tree ∙ none; mounted = as_left.mounted ∙ ap is_there none; tidy = as_left.tidy; geometry = as_left.geometry; others = as_left.others }
  found_none s q same making = absurd making

pub found_again : WhatACrashLeftIsMounted
found_again f start first second before asked x sent is_first is_second = (
  λ b left. found f start first second x is_first is_second b.state (after_run start first b.state b.answered b.answers b.run) left,
  λ c left.
      let run = after_run start first c.state c.answered c.answers c.run in
      let one = after_answer start c.state c.next c.request c.answer c.given in
      elim left [
        | inl not_yet ↦ inl (elim not_yet [
          | inl now ↦ found f start first second x is_first is_second c.state run now
          | inr between ↦ found_none f start first second x is_first is_second c.state c.request run between
        ])
        | inr next ↦ inr (found f start first second x is_first is_second c.next (one.0 ∙ run.0, one.1 ∙ run.1) next)
      ],
)
