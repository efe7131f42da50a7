-- The tree after an answer, told by its line.
use Rattle.std.proofs.Common.{◌≡◌, ℕ, List, [], ◌∷◌, ◌++◌, length, refl, sym, ◌∙◌, ap, subst, arith}
use Rattle.shell_server.proofs.Common.{slice_index_or, World, free_count, Tree, done, refused, need_of, refusal, judged, change, ShellAsk, FileAsk, FsRefusal, FilesView, answer_text, ShellState, AnswersByLine, AnswersFile, heard, files_after, shell_service, shell_step, tree_in, Option, Some, None}
use Rattle.fs_trees.specs.declared.ask.ShellAsk.TheVariants as ask
use Rattle.shell_text.specs.declared.file_ask.FileAsk.TheVariants as file
use Rattle.fs_trees.specs.declared.refusal.FsRefusal.TheVariants as no
use Rattle.serving.specs.Runs.{Run}

refused_first : (r : FsRefusal) → slice_index_or (answer_text (refused r) ++ 10 ∷ []) 0 0 ≡ 110
refused_first no.Device = refl
refused_first r = refl

no_done : {A : Type 0} (r : FsRefusal) → answer_text (refused r) ++ 10 ∷ [] ≡ answer_text done ++ 10 ∷ [] → A
no_done r e =
    let no : slice_index_or (answer_text (refused r) ++ 10 ∷ []) 0 0 ≡ 110 = refused_first r in
    let ok : slice_index_or (answer_text done ++ 10 ∷ []) 0 0 ≡ 111 = refl in
    absurd (omega (arith, no, ok, ap (λ x. slice_index_or x 0 0) e))

-- where one refuses and the other changes
one_refused : (t : Tree) (free : ℕ) (a : ShellAsk) (r : FsRefusal) → answer_text (refused r) ++ 10 ∷ [] ≡ answer_text (change t free a).answer ++ 10 ∷ [] → t ≡ (change t free a).tree
one_refused t free ask.Bad r e = refl
one_refused t free (ask.Cat path) r e = refl
one_refused t free (ask.Ls path) r e = refl
one_refused t free ask.Df r e = refl
one_refused t free a r e = no_done r e

both_change : (t : Tree) (free other : ℕ) (a : ShellAsk) → (change t free a).tree ≡ (change t other a).tree
both_change t free other ask.Bad = refl
both_change t free other a = refl

same_tree : (t : Tree) (free other : ℕ) (a : ShellAsk) (o p : Option FsRefusal) → answer_text (judged t free a o).answer ++ 10 ∷ [] ≡ answer_text (judged t other a p).answer ++ 10 ∷ [] → (judged t free a o).tree ≡ (judged t other a p).tree
same_tree t free other a (Some r) (Some n) e = refl
same_tree t free other a (Some r) None e = one_refused t other a r e
same_tree t free other a None (Some n) e = sym (one_refused t free a n (sym e))
same_tree t free other a None None e = both_change t free other a

-- the same of equal trees and asks
same_tree_too : (t u : Tree) (a b : ShellAsk) (free other : ℕ) (o p : Option FsRefusal) → t ≡ u → a ≡ b → answer_text (judged t free a o).answer ++ 10 ∷ [] ≡ answer_text (judged u other b p).answer ++ 10 ∷ [] → (judged t free a o).tree ≡ (judged u other b p).tree
same_tree_too t u a b free other o p trees asks =
    let Same : Tree → ShellAsk → Type 0 = λ x c. answer_text (judged t free a o).answer ++ 10 ∷ [] ≡ answer_text (judged x other c p).answer ++ 10 ∷ [] → (judged t free a o).tree ≡ (judged x other c p).tree in
    subst (λ (x : Tree). Same x b) trees (subst (λ (c : ShellAsk). Same t c) asks (same_tree t free other a o p))

-- which refusal there is
abbrev refusal_in : ShellState → ShellAsk → Option FsRefusal
refusal_in x a = refusal x.files.kind x.world.geometry (tree_in x) (free_count x.world) (length x.world.pairs) (need_of x.files.kind x.world x.files.root (tree_in x) a) a

looks_same : (s u m n : ShellState) → s.files ≡ u.files → tree_in s ≡ tree_in u → m ≡ s → n ≡ u → (m.files ≡ n.files) × (tree_in m ≡ tree_in n)
looks_same s u m n files tree a b = (ap (λ (x : ShellState). x.files) a ∙ files ∙ sym (ap (λ (x : ShellState). x.files) b), ap tree_in a ∙ tree ∙ sym (ap tree_in b))

module _ (start : World) where
  one_ask : (s u m n : ShellState) (q : ShellAsk) (line : List ℕ) → s.files ≡ u.files → tree_in s ≡ tree_in u → AnswersByLine start s q line m → AnswersByLine start u q line n → (m.files ≡ n.files) × (tree_in m ≡ tree_in n)
  one_ask s u m n q line files tree a b =
      let same : (shell_step s q).tree ≡ (shell_step u q).tree = trees s u files tree (sym a.text ∙ b.text) in
      (a.files ∙ ap (λ (f : FilesView). files_after f (heard f.kind q)) files ∙ sym b.files, a.tree ∙ same ∙ sym b.tree)
    where
      trees : (x y : ShellState) → x.files ≡ y.files → tree_in x ≡ tree_in y → answer_text (shell_step x q).answer ++ 10 ∷ [] ≡ answer_text (shell_step y q).answer ++ 10 ∷ [] → (shell_step x q).tree ≡ (shell_step y q).tree
      trees x y f t e = same_tree_too (tree_in x) (tree_in y) (heard x.files.kind q) (heard y.files.kind q) (free_count x.world) (free_count y.world) (refusal_in x (heard x.files.kind q)) (refusal_in y (heard y.files.kind q)) t (ap (λ (v : FilesView). heard v.kind q) f) e

  -- what only looks leaves the state
  one_file_ask : (s u m n : ShellState) (q : FileAsk) (line : List ℕ) → s.files ≡ u.files → tree_in s ≡ tree_in u → AnswersFile start s q line m → AnswersFile start u q line n → (m.files ≡ n.files) × (tree_in m ≡ tree_in n)
  one_file_ask s u m n (file.Shell q) line files tree a b = one_ask s u m n q line files tree a b
  one_file_ask s u m n q line files tree a b = looks_same s u m n files tree a.same b.same

  pub answers_tell : (s t u w : ShellState) (qs : List FileAsk) (xs : List (List ℕ)) → s.files ≡ u.files → tree_in s ≡ tree_in u → Run (shell_service start) s qs xs t → Run (shell_service start) u qs xs w → (t.files ≡ w.files) × (tree_in t ≡ tree_in w)
  answers_tell s t u w [] [] files tree a b = (ap (λ (x : ShellState). x.files) (sym a) ∙ files ∙ ap (λ (x : ShellState). x.files) b, ap tree_in (sym a) ∙ tree ∙ ap tree_in b)
  answers_tell s t u w [] (x ∷ xs) files tree a b = absurd a
  answers_tell s t u w (q ∷ qs) [] files tree a b = absurd a
  answers_tell s t u w (q ∷ qs) (x ∷ xs) files tree a b =
      let next = one_file_ask s u a.0 b.0 q x files tree a.1 b.1 in
      answers_tell a.0 t b.0 w qs xs next.0 next.1 a.2 b.2
