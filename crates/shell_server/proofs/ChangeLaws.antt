-- An ask that changes the tree, carried out on the disk.
use Rattle.std.proofs.Common.{◌≡◌, ◌≢◌, inl, inr, ℕ, Bool, true, false, cond, [], ◌∷◌, ◌++◌, refl, sym, ◌∙◌, ap, subst}
use Rattle.shell_server.proofs.Common.{Result, Ok, Err, IsTrue, IfErr, World, Rose, DeviceView, LeavesOnly, IsFirm, weakened, Image, Stands, world_of, line_feeds, nothing, is_there, done, refused, AskOutcome, OthersStay, step_in, ShellAsk, FsRefusal, outside_twice, DiskView, IsValidNow, LeavesWorldsOnly, FilesView, IsEitherTree, LeavesTidyWorld, OnAnswer, unless_refused, answer_text, Core, FitsReads, KeepsBehind, IsImageOf, ShellState, AnswersByLine, IsKeptSince, heard, files_after, shell_step, tree_of, tree_under, AreReady, FitsShell, shell_state, IsLeftBeforeOrAfter, IsCarried, IsOneLine, change_line, resting, IsTakenForTree, RestsIn, shell_rests, Some, sessions_of, Fits, IsValid, IsChanged, is_change, is_heard}
use Rattle.fs_trees.specs.Layouts.{IsTidy}
use Rattle.fs_trees.specs.declared.ask.ShellAsk.TheVariants as ask
use Rattle.shell_text.specs.declared.file_ask.FileAsk.TheVariants as file
use Rattle.fs_trees.specs.declared.refusal.FsRefusal.TheVariants as no
use Rattle.shell_server.proofs.KeptLaws.{kept_asked, left_still, none_taken, not_nothing, nothing_or_there, refusal_answered, size_stays}
use Rattle.shell_server.proofs.StepLaws.{after_make, after_other, make_or_not, mounted_after, step_of_change, step_shown, tree_shown, tree_there}

module _ (start : World) (f : FilesView) (q : ShellAsk) (changes : IsTrue (is_change q)) (hears : IsTrue (is_heard f.kind q)) (v : DeviceView) where
  abbrev w0 : World
  w0 = world_of v.reads

  abbrev state : ShellState
  state = shell_state f v.reads

  abbrev step : AskOutcome
  step = step_shown f w0 q

  -- the ask is under way
  abbrev asked : ShellState
  asked = record { files = files_after f q; world = w0; under_way = Some q }

  abbrev at_start : DiskView → DiskView
  at_start old = record old { world = w0 }

  heard_same : heard f.kind q ≡ q
  heard_same = ap (λ b. cond b q ask.Bad) hears

  step_same : shell_step state q ≡ step
  step_same = ap (λ b. step_in f.kind w0 f.root (tree_shown f w0) b) heard_same

  -- ---- answers

  answers_done : RestsIn start state v.reads → (t : ShellState) → step.answer ≡ done → t.files ≡ files_after f q → tree_of t ≡ step.tree → IsKeptSince start t → IsTakenForTree f w0 t.world
      → AnswersByLine start state q (answer_text done ++ 10 ∷ []) t
  answers_done rests t ok files tree kept taken =
      let same : (shell_step state q).answer ≡ done = ap (λ (o : AskOutcome). o.answer) step_same ∙ ok in
      record {
        from = v.reads;
        at_rest = rests;
        text = ap (λ x. answer_text x ++ 10 ∷ []) (sym same);
        one_line = ap (λ x. line_feeds (answer_text x)) same;
        tree = ap (λ (h : FilesView). cond h.mounted (tree_of t) nothing) files ∙ ap (λ b. cond b (tree_of t) nothing) (mounted_after f w0 q changes ok) ∙ tree ∙ sym (ap (λ (o : AskOutcome). o.tree) step_same);
        same = λ other. absurd (other same);
        files = files ∙ sym (ap (files_after f) heard_same);
        kept = kept;
        taken = taken;
      }

  asked_tree : tree_of asked ≡ step.tree
  asked_tree = elim (make_or_not q) [
    | inl make ↦ ap (λ a. tree_of (record { files = files_after f a; world = w0; under_way = Some a })) make ∙ sym (ap (λ a. (step_shown f w0 a).tree) make)
    | inr other ↦ ap (λ h. tree_of (record { files = h; world = w0; under_way = Some q })) (after_other f q other) ∙ ap (λ (o : AskOutcome). o.tree) step_same
  ]

  -- what a crash leaves of the tree after it is of the ask under way
  answers_asked : RestsIn start state v.reads → step.answer ≡ done → AnswersByLine start state q (answer_text done ++ 10 ∷ []) asked
  answers_asked rests ok =
      answers_done rests asked ok refl asked_tree (kept_asked start state (files_after f q) q (ap (λ (h : FilesView). h.root) (after_make f q)) rests.kept) (none_taken f w0)

  answers_refused : RestsIn start state v.reads → (u : World) (r : FsRefusal) → step.answer ≡ refused r → u ≡ w0 → line_feeds (answer_text (refused r)) ≡ 0 → AnswersByLine start state q (answer_text (refused r) ++ 10 ∷ []) (resting f u)
  answers_refused rests u r refuses same line =
      subst (λ w. AnswersByLine start state q (answer_text (refused r) ++ 10 ∷ []) (resting f w)) (sym same)
      (refusal_answered start state q (refused r) (ap (λ (o : AskOutcome). o.answer) step_same ∙ refuses) line v.reads rests r refl)

  -- ---- what a crash within it leaves

  module _ (old : DiskView) (rests : RestsIn start state v.reads) (there : f.mounted ≡ true → IsTrue (is_there (tree_under f w0))) where
    -- a tree, before or after
    crash_in : (u : World) (x : Image) → Stands x u → (tree_under f u ≡ tree_under f w0 → tree_under f w0 ≡ nothing → IsLeftBeforeOrAfter start state (file.Shell q) x) → IsEitherTree f (at_start old) q u → IsLeftBeforeOrAfter start state (file.Shell q) x
    crash_in u x stands gone either = elim either.0 [
      | inl e ↦ before e
      | inr e ↦ elim (step_of_change f w0 q changes) [
        | inl ok ↦
            let tree : tree_under f u ≡ step.tree = e ∙ ap (λ x. unless_refused x step.tree (tree_under f w0)) ok in
            let none : tree_of asked ≡ nothing → ⊥ = λ none. not_nothing _ (tree_there f w0 q changes there ok) (sym asked_tree ∙ none) in
            inr (
              answer_text done ++ 10 ∷ [],
              asked,
              answers_asked rests ok,
              inl (record {
                world = u;
                stands = stands;
                valid = either.1.valid;
                geometry = size;
                tree = ap (λ (h : FilesView). tree_under h u) (after_make f q) ∙ tree ∙ sym asked_tree;
                others = subst (λ n. OthersStay n start u) (sym (ap (λ (h : FilesView). h.root) (after_make f q))) others;
                still = λ none_then. absurd (none none_then);
              }),
            )
        | inr r ↦ before (e ∙ ap (λ x. unless_refused x step.tree (tree_under f w0)) r.1)
      ]
    ]
      where
        others : OthersStay f.root start u
        others = outside_twice f.root start w0 u rests.kept.others either.1.others

        size : u.geometry ≡ start.geometry
        size = either.1.geometry ∙ rests.kept.geometry

        before : tree_under f u ≡ tree_under f w0 → IsLeftBeforeOrAfter start state (file.Shell q) x
        before e = elim (nothing_or_there (tree_under f w0)) [
          | inl none ↦ gone e none
          | inr some ↦ inl (record { world = u; stands = stands; valid = either.1.valid; geometry = size; tree = e; others = others; still = λ none. absurd (not_nothing _ some none) })
        ]

    -- an empty tree is made where none is
    crash_making : q ≡ ask.Make → (u : World) (x : Image) → Stands x u → IsEitherTree f (at_start old) q u → IsLeftBeforeOrAfter start state (file.Shell q) x
    crash_making make u x stands either = crash_in u x stands
        (λ e none. inr (
          answer_text done ++ 10 ∷ [],
          asked,
          answers_asked rests (ap (λ a. (step_shown f w0 a).answer) make),
          inr (record {
            make = heard_same ∙ make;
            none = none;
            world = u;
            none_yet = e ∙ none;
            left = record { world = u; stands = stands; valid = either.1.valid; geometry = either.1.geometry ∙ rests.kept.geometry; tree = refl; others = outside_twice f.root start w0 u rests.kept.others either.1.others; still = λ none. refl };
          }),
        )) either

  -- ---- the whole

  module _ {X : Type 0} (told : Type 0) (g : FilesView) (old new : DiskView) (c0 : Core) (w : DeviceView) (result : Result X FsRefusal) (changed : IsChanged told f g old new q result) (was : told → old.world ≡ w0)
      (keeps : told → FitsShell start f c0 v.reads) (left : told → (P : World → Type 0) → LeavesWorldsOnly old new P → LeavesOnly v w (IsImageOf P v.sent)) where
    abbrev w1 : World
    w1 = world_of w.reads

    rests_now : told → RestsIn start state v.reads
    rests_now t = shell_rests start f c0 v.reads (keeps t)

    -- ---- a crash

    from_start : told → (u : World) → IsEitherTree f old q u → IsEitherTree f (at_start old) q u
    from_start t u either = subst (λ (y : World). IsEitherTree f (record old { world = y }) q u) (was t) either

    pub moments : told → LeavesOnly v w (λ x f. IsLeftBeforeOrAfter start state (file.Shell q) x × (f ≡ v.sent))
    moments t = elim (make_or_not q) [
      | inl make ↦ either (λ u x stands is. crash_making old (rests_now t) (keeps t).there make u x stands is)
      | inr other ↦ by_mount other f.mounted refl
    ]
      where
        either : ((u : World) (x : Image) → Stands x u → IsEitherTree f (at_start old) q u → IsLeftBeforeOrAfter start state (file.Shell q) x) → LeavesOnly v w (λ x f. IsLeftBeforeOrAfter start state (file.Shell q) x × (f ≡ v.sent))
        either from = weakened v w (IsImageOf (IsEitherTree f old q) v.sent) (λ x f. IsLeftBeforeOrAfter start state (file.Shell q) x × (f ≡ v.sent)) (left t (IsEitherTree f old q) (changed.runs.crash t))
            (λ x sent is. (from is.0 x is.1 (from_start t is.0 is.2), is.3))

        by_mount : q ≢ ask.Make → (b : Bool) → f.mounted ≡ b → LeavesOnly v w (λ x f. IsLeftBeforeOrAfter start state (file.Shell q) x × (f ≡ v.sent))
        by_mount other true on = either (λ u x stands is. crash_in old (rests_now t) (keeps t).there u x stands (λ e none. absurd (not_nothing _ ((keeps t).there on) none)) is)
        by_mount other false off = weakened v w (IsImageOf (λ u. u ≡ old.world) v.sent) (λ x f. IsLeftBeforeOrAfter start state (file.Shell q) x × (f ≡ v.sent)) (left t (λ u. u ≡ old.world) (changed.unmounted t other off))
            (λ x sent is. (inl (left_still start f w0 (keeps t).kept x is.0 is.1 (is.2 ∙ was t)), is.3))

    module _ (c1 : Core) (now : told → new.world ≡ world_of w.reads) (aside : KeepsBehind told c0 c1 v w) where
      -- ---- afterwards

      module _ (t : told) (tidied : LeavesTidyWorld f old new) (good : IsValidNow new) (fits : FitsReads c1 w.reads) where
        others_now : OthersStay f.root w0 w1
        others_now = subst (λ u. OthersStay f.root w0 u) (now t) (subst (λ u. OthersStay f.root u new.world) (was t) tidied.others)

        taken_now : IsTakenForTree f w0 w1
        taken_now = subst (λ u. IsTakenForTree f w0 u) (now t) (subst (λ u. IsTakenForTree f u new.world) (was t) tidied.taken)

        tidy_still : f.mounted ≡ true → IsTidy f.kind w1 f.root
        tidy_still on = subst (λ u. IsTidy f.kind u f.root) (now t) (tidied.tidy (subst (λ u. IsTidy f.kind u f.root) (sym (was t)) ((keeps t).kept.tidy refl on)))

        kept_now : (b : Bool) → (b ≡ true → IsTidy f.kind w1 f.root) → IsKeptSince start (resting (record f { mounted = b }) w1)
        kept_now b tidy = record {
          valid = subst IsValid (now t) good.valid;
          geometry = size_stays c0 c1 v.reads w.reads (keeps t).core fits aside.size ∙ (keeps t).kept.geometry;
          others = outside_twice f.root start w0 w1 (keeps t).kept.others others_now;
          tidy = λ still on. tidy on;
        }

        -- done: the tree of the step is there
        module _ (answer : step.answer ≡ done) (tree : tree_under f w1 ≡ step.tree) (made : q ≡ ask.Make → IsTidy f.kind w1 f.root) where
          tidy_done : (files_after f q).mounted ≡ true → IsTidy f.kind w1 f.root
          tidy_done on = elim (make_or_not q) [ inl make ↦ made make | inr other ↦ tidy_still (sym (ap (λ (h : FilesView). h.mounted) (after_other f q other)) ∙ on) ]

          kept_done : IsKeptSince start (resting (files_after f q) w1)
          kept_done = subst (λ h. IsKeptSince start (resting h w1)) (sym (after_make f q)) (kept_now (files_after f q).mounted tidy_done)

          tree_done : tree_under (files_after f q) w1 ≡ step.tree
          tree_done = ap (λ (h : FilesView). tree_under h w1) (after_make f q) ∙ tree

          fits_done : Fits w1 (sessions_of c1) → FitsShell start (files_after f q) c1 w.reads
          fits_done sessions = record {
            core = fits;
            kept = kept_done;
            fits = sessions;
            there = λ on. subst (λ y. IsTrue (is_there y)) (sym tree_done) (tree_there f w0 q changes (keeps t).there answer);
          }

          line_done : AnswersByLine start state q (answer_text done ++ 10 ∷ []) (resting (files_after f q) w1)
          line_done = answers_done (rests_now t) (resting (files_after f q) w1) answer refl tree_done kept_done taken_now

        -- refused: the world is as it was
        module _ (same : w1 ≡ w0) where
          kept_refused : IsKeptSince start (resting f w1)
          kept_refused = kept_now f.mounted tidy_still

          fits_refused : Fits w1 (sessions_of c1) → FitsShell start f c1 w.reads
          fits_refused sessions = record {
            core = fits;
            kept = kept_refused;
            fits = sessions;
            there = λ on. subst (λ y. IsTrue (is_there (tree_under f y))) (sym same) ((keeps t).there on);
          }

      pub carried : OnAnswer result (AreReady g c1) → (told → OnAnswer result (IsFirm w × FitsReads c1 w.reads × Fits w1 (sessions_of c1))) → (told → w.sent ≡ v.sent) → w.put_faults ≡ v.put_faults → OnAnswer result (w.faults ≡ v.faults)
          → IfErr result (λ e. e ≡ no.Device → c1.volume.is_spent ≡ true) → IfErr result (λ e. e ≡ no.Device → Rose v.faults w.faults) → IsCarried told start q f g c0 c1 v w result
      carried ready at sent put_faults faultless spent cause = record {
        called = record { ready = ready; at = λ t. at_by t result changed (at t); sent = sent; any_moment = moments; behind = aside; put_faults = put_faults; faultless = faultless; spent = spent; cause = cause };
        answered = λ t. line_by t result changed (at t);
      }
        where
          answer_same : told → (step_shown f old.world q).answer ≡ step.answer
          answer_same t = ap (λ u. (step_shown f u q).answer) (was t)

          tree_same : told → tree_under f new.world ≡ (step_shown f old.world q).tree → tree_under f w1 ≡ step.tree
          tree_same t is = sym (ap (λ u. tree_under f u) (now t)) ∙ is ∙ ap (λ u. (step_shown f u q).tree) (was t)

          at_by : told → (r : Result X FsRefusal) → IsChanged told f g old new q r → OnAnswer r (IsFirm w × FitsReads c1 w.reads × Fits w1 (sessions_of c1)) → OnAnswer r (((n : ℕ) → w.loose n ≡ false) × FitsShell start g c1 w.reads)
          at_by t (Ok x) is now_at = (
            (
              now_at.0.0,
              subst (λ h. FitsShell start h c1 w.reads) (sym is.files)
                  (fits_done t (is.world t).0 (is.runs.valid t).0 now_at.0.1 (sym (answer_same t) ∙ (is.answer t).ok.0) (tree_same t (is.answer t).ok.1) (λ make. subst (λ u. IsTidy f.kind u f.root) (now t) (is.made t make)) now_at.0.2),
            ),
            tt,
          )
          at_by t (Err e) is now_at = (
            tt,
            λ other. (
              (now_at.1 other).0,
              subst (λ h. FitsShell start h c1 w.reads) (sym is.files) (fits_refused t ((is.world t).1 other) ((is.runs.valid t).1 other) (now_at.1 other).1 (sym (now t) ∙ ((is.answer t).err other).1 ∙ was t) (now_at.1 other).2),
            ),
          )

          line_by : told → (r : Result X FsRefusal) → IsChanged told f g old new q r → OnAnswer r (IsFirm w × FitsReads c1 w.reads × Fits w1 (sessions_of c1)) → OnAnswer r (IsOneLine r → AnswersByLine start state q (change_line r) (shell_state g w.reads))
          line_by t (Ok x) is now_at = (
            λ line. subst (λ h. AnswersByLine start state q (answer_text done ++ 10 ∷ []) (resting h w1)) (sym is.files)
                (line_done t (is.world t).0 (is.runs.valid t).0 now_at.0.1 (sym (answer_same t) ∙ (is.answer t).ok.0) (tree_same t (is.answer t).ok.1) (λ make. subst (λ u. IsTidy f.kind u f.root) (now t) (is.made t make))),
            tt,
          )
          line_by t (Err e) is now_at = (
            tt,
            λ other line.
                subst (λ h. AnswersByLine start state q (answer_text (refused e) ++ 10 ∷ []) (resting h w1)) (sym is.files)
                (answers_refused (rests_now t) w1 e (sym (answer_same t) ∙ ((is.answer t).err other).0) (sym (now t) ∙ ((is.answer t).err other).1 ∙ was t) line),
          )
