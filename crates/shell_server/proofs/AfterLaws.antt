-- What comes after the disk was read for an ask: the answer, or a refusal.
use Rattle.std.proofs.Common.{◌≡◌, ◌≢◌, inl, ℕ, ◌<◌, ◌≤◌, false, List, [], ◌∷◌, ◌++◌, length, arith, refl, sym, ◌∙◌, ap, subst}
use Rattle.shell_server.proofs.Common.{Result, Ok, Err, OnOk, IfErr, World, CountsFaultOf, View, LeavesOnly, joined, weakened, Answer, refused, ShellAsk, FsRefusal, FilesView, answer_text, Status, IsInAnswer, LeftBy, Core, behind_then, RestsIn, shell_rests, ShellState, AnswersByLine, AnswersFile, FileAsk, shell_service, shell_state, IsLeftBeforeOrAfter, IsCarried, IsLooked, IsOneLine, IsServed, AreReady, FitsShell, PutsAll, change_line}
use Rattle.fs_trees.specs.declared.refusal.FsRefusal.TheVariants as no
use Rattle.shell_text.specs.declared.file_ask.FileAsk.TheVariants as file
use Rattle.tsd_words.specs.declared.status.Status.TheVariants as status
use Rattle.shell_server.proofs.KeptLaws.{refusal_answered}
use Rattle.shell_server.specs.ShellLaws.{shell_counted}
use Rattle.serving.proofs.Still.{less_sent, not_empty, still_late}
use Rattle.serving.specs.Prompt.{EndsBySending}
use Rattle.shell_server.proofs.SendLaws.{called_wider, failed, line_served, on_answer, served}

module _ {X Y : Type 0} {told : Type 0} {start : World} {a : ShellAsk} {q : FileAsk} {f0 f1 f2 : FilesView} {c0 c1 c2 : Core} {v w z : View} {of_answer : X → Answer → Type 0} {x : X} {result : Result Y Status} where
  -- the answer was sent behind it
  pub served_after : IsLooked told start a f0 f1 c0 c1 v w of_answer (Ok x) → IsServed told start q f1 f2 c1 c2 w z result → IsServed told start q f0 f2 c0 c2 v z result
  served_after look served = record {
    ready = served.ready;
    at = served.at;
    spent = served.spent;
    answered = λ t. subst (λ (s : ShellState). OnOk result ((line : List ℕ) × AnswersFile start s q line (shell_state f2 z.reads) × (z.sent ≡ v.sent ++ line))) (look.state t).0
        (subst (λ (b : List ℕ). OnOk result ((line : List ℕ) × AnswersFile start (shell_state f1 w.reads) q line (shell_state f2 z.reads) × (z.sent ≡ b ++ line))) (look.sent t) (served.answered t));
    left = λ t. subst (λ (s : ShellState). IfErr result (λ why. LeftBy why (shell_service start) s q (shell_state f2 z.reads) v.sent z.sent)) (look.state t).0
        (subst (λ (b : List ℕ). IfErr result (λ why. LeftBy why (shell_service start) (shell_state f1 w.reads) q (shell_state f2 z.reads) b z.sent)) (look.sent t) (served.left t));
    any_moment = λ t.
        joined v w z (IsInAnswer (shell_service start) (shell_state f0 v.reads) q v.sent) (IsInAnswer (shell_service start) (shell_state f0 v.reads) q v.sent)
        (weakened v w _ (IsInAnswer (shell_service start) (shell_state f0 v.reads) q v.sent) (look.any_moment t) (λ y g left. inl (left.0, left.1)))
        (subst (λ (s : ShellState). LeavesOnly w z (IsInAnswer (shell_service start) s q v.sent)) (look.state t).0
        (subst (λ (b : List ℕ). LeavesOnly w z (IsInAnswer (shell_service start) (shell_state f1 w.reads) q b)) (look.sent t) (served.any_moment t)))
        (λ y g left. left);
    behind = behind_then told c0 c1 c2 v w z look.behind served.behind;
    stops = served.stops;
    still = λ t. sent_after result (weakened v w _ (λ x f. length f ≤ length w.sent) (look.any_moment t) (λ x f left. (let same = ap length (left.1 ∙ sym (look.sent t)) in omega (arith, same)))) (served.answered t) (served.still t);
    faults = subst (λ (n : ℕ). CountsFaultOf status.DeviceFault result n z.faults) look.faultless.0 served.faults;
    put_faults = subst (λ (n : ℕ). CountsFaultOf status.PutFault result n z.put_faults) look.put_faults served.put_faults;
  }
    where
      sent_after : (r : Result Y Status) → LeavesOnly v w (λ x f. length f ≤ length w.sent) → OnOk r ((line : List ℕ) × AnswersFile start (shell_state f1 w.reads) q line (shell_state f2 z.reads) × (z.sent ≡ w.sent ++ line)) → OnOk r (EndsBySending w z) → OnOk r (EndsBySending v z)
      sent_after (Ok y) few answered still = still_late v w z few (less_sent w z answered.0 answered.2 (not_empty (shell_service start) (shell_counted start) (shell_state f1 w.reads) q (shell_state f2 z.reads) answered.0 answered.1)) still
      sent_after (Err why) few answered still = tt

-- a line was sent that answers the state which the disk was read in
module _ {X : Type 0} {told : Type 0} {start : World} {a : ShellAsk} {f0 f1 : FilesView} {c0 c1 : Core} {v w : View} {of_answer : X → Answer → Type 0} {r : Result X FsRefusal} (look : IsLooked told start a f0 f1 c0 c1 v w of_answer r) (other : r ≢ Err no.Device) where
  at_there : told → ((n : ℕ) → w.loose n ≡ false) × FitsShell start f1 c1 w.reads
  at_there t = on_answer (((n : ℕ) → w.loose n ≡ false) × FitsShell start f1 c1 w.reads) r other (look.at t)

  same_there : told → shell_state f1 w.reads ≡ shell_state f0 v.reads
  same_there t = on_answer (shell_state f1 w.reads ≡ shell_state f0 v.reads) r other (look.state t)

  pub rests_there : told → RestsIn start (shell_state f0 v.reads) w.reads
  rests_there t = subst (λ (s : ShellState). RestsIn start s w.reads) (same_there t) (shell_rests start f1 c1 w.reads (at_there t).1)

  pub served_line_after : {Y : Type 0} (q : FileAsk) (z : View) (line : List ℕ) (result : Result Y Status) → (told → AnswersFile start (shell_state f0 v.reads) q line (shell_state f0 v.reads)) → IfErr result (λ why. why ≡ status.PutFault) → PutsAll told line w z result → IsServed told start q f0 f1 c0 c1 v z result
  served_line_after q z line result given stops puts =
      line_served told start q f0 f1 c0 c1 v w z line (on_answer (AreReady f1 c1) r other look.ready) at_there
      (λ t. subst (λ (s : ShellState). AnswersFile start (shell_state f0 v.reads) q line s) (sym (same_there t)) (given t)) look.sent
      (λ t. weakened v w _ (λ x g. IsLeftBeforeOrAfter start (shell_state f0 v.reads) q x × (g ≡ v.sent)) (look.any_moment t) (λ x g left. (inl left.0, left.1))) (on_answer (w.faults ≡ v.faults) r other look.faultless) look.put_faults look.behind result stops puts

-- It was refused: as an ask that changes nothing.
module _ {X : Type 0} (Z : Type 0) {told : Type 0} {start : World} {q : ShellAsk} {f0 f1 : FilesView} {c0 c1 : Core} {v w : View} {of_answer : X → Answer → Type 0} {e : FsRefusal} (look : IsLooked told start q f0 f1 c0 c1 v w of_answer (Err e)) where
  carried_look : IsCarried told start q f0 f1 c0 c1 v w (failed Z e)
  carried_look = record {
    called = called_wider (IsLeftBeforeOrAfter start (shell_state f0 v.reads) (file.Shell q)) (λ x left. inl left) look.called;
    answered = λ t. (
      tt,
      λ other line.
          let not_lost : failed X e ≢ Err no.Device = λ same. other (cc) in
          subst (λ (s : ShellState). AnswersByLine start (shell_state f0 v.reads) q (answer_text (refused e) ++ 10 ∷ []) s) (sym (same_there look not_lost t))
          (refusal_answered start (shell_state f0 v.reads) q (refused e) (look.refused t other) line w.reads (rests_there look not_lost t) e refl),
    );
  }

  -- and its line was sent
  pub served_refusal : {Y : Type 0} {z : View} {result : Result Y Status} → (failed Z e ≡ Err no.Device → (result ≡ Err status.DeviceFault) × (z ≡ w)) → (failed Z e ≢ Err no.Device → IsOneLine (failed Z e))
      → (failed Z e ≢ Err no.Device → IfErr result (λ why. why ≡ status.PutFault)) → (failed Z e ≢ Err no.Device → PutsAll told (change_line (failed Z e)) w z result) → IsServed told start (file.Shell q) f0 f1 c0 c1 v z result
  served_refusal {z = z} {result = result} device line stops puts = served told start q f0 f1 c0 c1 v w (failed Z e) carried_look z result device line stops puts
