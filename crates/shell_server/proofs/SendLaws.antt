-- The answer of an ask that changes the tree, sent after it was carried out.
use Rattle.std.proofs.Common.{◌≡◌, ◌≢◌, ◌⊎◌, inl, inr, ℕ, ◌<◌, ◌≤◌, true, false, List, [], ◌∷◌, ◌++◌, length, take, drop, refl, sym, ◌∙◌, ap, subst, arith, append-nil, take-append-drop, length-drop}
use Rattle.shell_server.proofs.Common.{Result, Ok, Err, IfErr, World, Rose, View, IsLeftInPut, IsSound, LeavesOnly, PutsAll, firm_image, joined, started, weakened, world_of, bad, step_in, ShellAsk, answer_text, FsRefusal, FilesView, OnAnswer, Status, IsAnswering, IsInAnswer, LeftBy, Core, KeepsBehind, behind_put, behind_stays, behind_then, ShellState, AnswersByLine, AnswersFile, FileAsk, IsLeftOf, heard, shell_service, tree_in, AreReady, FitsShell, shell_state, shell_rests, shell_stands, IsLeftBeforeOrAfter, IsCalled, IsCarried, IsOneLine, IsServed, change_line, Image, IsErr, IsErrAnd, is_change}
use Rattle.fs_trees.specs.declared.ask.ShellAsk.TheVariants as ask
use Rattle.shell_text.specs.declared.file_ask.FileAsk.TheVariants as file
use Rattle.fs_trees.specs.declared.refusal.FsRefusal.TheVariants as no
use Rattle.tsd_words.specs.declared.status.Status.TheVariants as status
use Rattle.shell_server.specs.ShellLaws.{shell_counted}
use Rattle.shell_server.proofs.KeptLaws.{look_answered}
use Rattle.serving.proofs.Still.{less_sent, not_empty, still_late, still_put}

-- what `?` answers is the error that it was given
pub error_is : {T E : Type 0} (r : Result T E) (why : E) → IsErr r × IsErrAnd r (λ e. e ≡ why) → r ≡ Err why
error_is (Ok x) why given = absurd given.1
error_is (Err e) why given = ap Err given.1

-- ---- what a crash leaves

module _ (start : World) (s : ShellState) (q : FileAsk) where
  unfoldable pub answering : (before now line : List ℕ) (t : ShellState) (front back : List ℕ) → AnswersFile start s q line t → line ≡ front ++ back → now ≡ before ++ front → IsAnswering (shell_service start) s q before now
  answering before now line t front back given whole sent = record { answer = line; next = t; given = given; front = front; back = back; whole = whole; sent = sent }

  module _ (v w : View) (leaves : LeavesOnly v w (λ x f. IsLeftBeforeOrAfter start s q x × (f ≡ v.sent))) where
    -- while the ask is carried out
    pub any_carried : LeavesOnly v w (IsInAnswer (shell_service start) s q v.sent)
    unfolding answering
    any_carried = weakened v w _ (IsInAnswer (shell_service start) s q v.sent) leaves
        (λ x f left. elim left.0 [
          | inl old ↦ inl (old, left.1)
          | inr new ↦ inr (
            answering v.sent f new.0 new.1 [] new.0 new.2 refl (left.1 ∙ sym (append-nil v.sent)),
            elim new.3 [ inl after ↦ inl after | inr between ↦ inr (inr between, (shell_counted start).some s q new.0 new.1 new.2) ],
          )
        ])

    -- then the line is sent, or a front of it
    pub any_sent : (z : View) (line : List ℕ) (t : ShellState) → w.sent ≡ v.sent → AnswersFile start s q line t → ((n : ℕ) → w.loose n ≡ false) → IsLeftOf start t w.reads → LeavesOnly w z (IsLeftInPut line w) → LeavesOnly v z (IsInAnswer (shell_service start) s q v.sent)
    unfolding answering
    any_sent z line t sent given firm stands puts = joined v w z (IsInAnswer (shell_service start) s q v.sent) (IsLeftInPut line w) any_carried puts
        (λ x f left.
        let same : x ≡ w.reads = (λ i n. left.0.agrees n (firm n) i) in
        inr (answering v.sent f line t left.1.front left.1.back given left.1.whole (left.1.sent ∙ ap (λ l. l ++ left.1.front) sent), inl (subst (λ y. IsLeftOf start t y) (sym same) stands)))

  -- a put that failed sent a proper front
  pub put_failed : (before now line : List ℕ) (t final : ShellState) → AnswersFile start s q line t → final ≡ t → (n : ℕ) → n < length line → now ≡ before ++ take n line → (a : IsAnswering (shell_service start) s q before now) × (0 < length a.back) × (final ≡ a.next)
  unfolding answering
  put_failed before now line t final given same n less sent =
      (answering before now line t (take n line) (drop n line) given (sym (take-append-drop n line)) sent, omega (arith, length-drop n line, less), same)

-- ---- a line

module _ (told : Type 0) (start : World) (q : FileAsk) (f0 f1 : FilesView) (c0 c1 : Core) (v w z : View) (line : List ℕ) (are_ready : AreReady f1 c1) (at : told → ((n : ℕ) → w.loose n ≡ false) × FitsShell start f1 c1 w.reads)
    (answers : told → AnswersFile start (shell_state f0 v.reads) q line (shell_state f1 w.reads)) (sent : told → w.sent ≡ v.sent) (any : told → LeavesOnly v w (λ x f. IsLeftBeforeOrAfter start (shell_state f0 v.reads) q x × (f ≡ v.sent)))
    (faults : w.faults ≡ v.faults) (put_faults : w.put_faults ≡ v.put_faults) (aside : KeepsBehind told c0 c1 v w) where
  at_there : told → z.reads ≡ w.reads → z.loose ≡ w.loose → ((n : ℕ) → z.loose n ≡ false) × FitsShell start f1 c1 z.reads
  at_there t reads loose = (λ n. ap (λ g. g n) loose ∙ (at t).0 n, subst (λ x. FitsShell start f1 c1 x) (sym reads) (at t).1)

  sent_any : {Y : Type 0} (result : Result Y Status) → PutsAll told line w z result → told → LeavesOnly v z (IsInAnswer (shell_service start) (shell_state f0 v.reads) q v.sent)
  sent_any result puts t = any_sent start (shell_state f0 v.reads) q v w (any t) z line (shell_state f1 w.reads) (sent t) (answers t) (at t).0 (shell_stands start f1 c1 w.reads (at t).1) (puts.any_moment t)

  sent_behind : {Y : Type 0} (result : Result Y Status) → PutsAll told line w z result → KeepsBehind told c0 c1 v z
  sent_behind result puts = behind_then told c0 c1 c1 v w z aside (behind_put told c1 line w z result (λ t. (at t).0) puts)

  -- it was sent, or a front of it
  pub line_served : {Y : Type 0} (result : Result Y Status) → IfErr result (λ why. why ≡ status.PutFault) → PutsAll told line w z result → IsServed told start q f0 f1 c0 c1 v z result
  line_served (Ok y) stops puts = record {
    ready = λ ne. are_ready;
    at = λ ne t. at_there t (puts.reads t) (puts.loose t);
    spent = λ e. absurd (cc);
    answered = λ t. (line, subst (λ x. AnswersFile start (shell_state f0 v.reads) q line (shell_state f1 x)) (sym (puts.reads t)) (answers t), puts.sent t ∙ ap (λ l. l ++ line) (sent t));
    left = λ t. tt;
    any_moment = sent_any (Ok y) puts;
    still = λ t. still_late v w z (weakened v w _ (λ x f. length f ≤ length w.sent) (any t) (λ x f left. (let same = ap length (left.1 ∙ sym (sent t)) in omega (arith, same))))
        (less_sent w z line (puts.sent t) (not_empty (shell_service start) (shell_counted start) (shell_state f0 v.reads) q (shell_state f1 w.reads) line (answers t)))
        (still_put w z line (at t).0 (puts.any_moment t) (puts.sent t) (puts.reads t));
    behind = sent_behind (Ok y) puts;
    stops = tt;
    faults = (λ e. absurd (cc), λ ne. puts.puts.faults ∙ faults);
    put_faults = (λ e. absurd (cc), λ ne. puts.faults ∙ put_faults);
  }
  line_served (Err why) stops puts = record {
    ready = λ ne. are_ready;
    at = λ ne t. at_there t (puts.reads t) (puts.loose t);
    spent = λ e. absurd (apart (cc));
    answered = λ t. tt;
    left = λ t.
        let part = puts.part t in
        subst (λ r. LeftBy r (shell_service start) (shell_state f0 v.reads) q (shell_state f1 z.reads) v.sent z.sent) (sym stops)
        (put_failed start (shell_state f0 v.reads) q v.sent z.sent line (shell_state f1 w.reads) (shell_state f1 z.reads) (answers t) (ap (λ x. shell_state f1 x) (puts.reads t)) part.0 part.1 (part.2 ∙ ap (λ l. l ++ take part.0 line) (sent t)));
    any_moment = sent_any (Err why) puts;
    still = λ t. tt;
    behind = sent_behind (Err why) puts;
    stops = inr stops;
    faults = (λ e. absurd (apart (cc)), λ ne. puts.puts.faults ∙ faults);
    put_faults = (λ e. subst (λ n. Rose n z.put_faults) put_faults puts.faults, λ ne. absurd (ne (ap Err stops)));
  }
    where
      apart : why ≡ status.DeviceFault → ⊥
      apart e = let both : status.PutFault ≡ status.DeviceFault = sym stops ∙ e in cc

-- what only looks
pub served_look : {Y : Type 0} (told : Type 0) (start : World) (q : FileAsk) (f : FilesView) (c : Core) (v z : View) (line : List ℕ) → AreReady f c → (told → IsSound v) → (told → ((n : ℕ) → v.loose n ≡ false) × FitsShell start f c v.reads) → (told → AnswersFile start (shell_state f v.reads) q line (shell_state f v.reads))
    → (result : Result Y Status) → IfErr result (λ why. why ≡ status.PutFault) → PutsAll told line v z result → IsServed told start q f f c c v z result
served_look told start q f c v z line ready sound at given =
    line_served told start q f f c c v v z line ready at given
    (λ t. refl) (λ t. started v _ (sound t) (λ x g left. (inl (subst (λ y. IsLeftOf start (shell_state f v.reads) y) (sym (firm_image v (at t).0 x g left)) (shell_stands start f c v.reads (at t).1)), left.1))) refl refl
    (behind_stays told c v sound (λ t. (at t).0))

-- what isn't heard is answered so, and nothing else is done
pub served_bad : {Y : Type 0} (told : Type 0) (start : World) (q : ShellAsk) (f : FilesView) (c : Core) (v z : View) → AreReady f c → (told → IsSound v) → (told → ((n : ℕ) → v.loose n ≡ false) × FitsShell start f c v.reads) → heard f.kind q ≡ ask.Bad
    → (result : Result Y Status) → IfErr result (λ why. why ≡ status.PutFault) → PutsAll told (answer_text bad ++ 10 ∷ []) v z result → IsServed told start (file.Shell q) f f c c v z result
served_bad told start q f c v z ready sound at is =
    let s = shell_state f v.reads in
    served_look told start (file.Shell q) f c v z (answer_text bad ++ 10 ∷ []) ready sound at
    (λ t. look_answered start s q bad (ap (λ b. (step_in f.kind (world_of v.reads) f.root (tree_in s) b).answer) is) refl v.reads (shell_rests start f c v.reads (at t).1) (ap is_change is))

-- ---- refusals

pub device_or_not : (e : FsRefusal) → (e ≡ no.Device) ⊎ (e ≢ no.Device)
device_or_not no.Device = inl refl
device_or_not e = inr (λ is. cc)

-- an answer other than Device
pub on_answer : {X : Type 0} (P : Type 0) (done : Result X FsRefusal) → done ≢ Err no.Device → OnAnswer done P → P
on_answer P (Ok x) other on = on.0
on_answer P (Err e) other on = on.1 (λ is. other (ap Err is))

-- of two answers, one
pub on_both : {X P Q R : Type 0} (r : Result X FsRefusal) → (P → Q → R) → OnAnswer r P → OnAnswer r Q → OnAnswer r R
on_both (Ok x) h p q = (h p.0 q.0, tt)
on_both (Err e) h p q = (tt, λ other. h (p.1 other) (q.1 other))

-- ---- the disk was called

-- a call that was refused may have been one of another type, and a crash leaves more images at most
pub called_wider : {X Z : Type 0} {told : Type 0} {start : World} {f1 : FilesView} {c0 c1 : Core} {v w : View} {e : FsRefusal} {P : Image → Type 0} (Q : Image → Type 0) → ((x : Image) → P x → Q x) → IsCalled {X = X} told start P f1 c0 c1 v w (Err e) → IsCalled {X = Z} told start Q f1 c0 c1 v w (Err e)
called_wider {v = v} {w = w} Q wider e = record {
  ready = e.ready;
  at = e.at;
  sent = e.sent;
  any_moment = λ t. weakened v w _ (λ x f. Q x × (f ≡ v.sent)) (e.any_moment t) (λ x f left. (wider x left.0, left.1));
  behind = e.behind;
  put_faults = e.put_faults;
  faultless = e.faultless;
  spent = e.spent;
  cause = e.cause;
}

-- the device failed, and it is answered so
module _ {X Y : Type 0} {told : Type 0} {start : World} (q : FileAsk) (f0 : FilesView) {f1 : FilesView} {c0 c1 : Core} {v w : View} {done : Result X FsRefusal} where
  pub called_lost : done ≡ Err no.Device → IsCalled told start (IsLeftBeforeOrAfter start (shell_state f0 v.reads) q) f1 c0 c1 v w done → IsServed {X = Y} told start q f0 f1 c0 c1 v w (Err status.DeviceFault)
  called_lost is e = record {
    ready = λ ne. absurd (ne refl);
    at = λ ne. absurd (ne refl);
    spent = λ _. by_device (λ e. e ≡ no.Device → c1.volume.is_spent ≡ true) done is e.spent refl;
    answered = λ t. tt;
    left = λ t. inl (e.sent t);
    any_moment = λ t. any_carried start (shell_state f0 v.reads) q v w (e.any_moment t);
    still = λ t. tt;
    behind = e.behind;
    stops = inl refl;
    faults = (λ _. by_device (λ e. e ≡ no.Device → Rose v.faults w.faults) done is e.cause refl, λ ne. absurd (ne refl));
    put_faults = (λ e. absurd (cc), λ ne. e.put_faults);
  }
    where
      by_device : (P : FsRefusal → Type 0) (r : Result X FsRefusal) → r ≡ Err no.Device → IfErr r P → P no.Device
      by_device P (Ok x) e h = absurd (cc)
      by_device P (Err e) same h = let is : e ≡ no.Device = cc in subst P is h

-- ---- the whole

-- a result that is this refusal
abbrev pub failed : (X : Type 0) → FsRefusal → Result X FsRefusal
failed X e = Err e

module _ {X : Type 0} (told : Type 0) (start : World) (q : ShellAsk) (f0 f1 : FilesView) (c0 c1 : Core) (v w : View) (done : Result X FsRefusal) (carried : IsCarried told start q f0 f1 c0 c1 v w done) where
  module _ (other : done ≢ Err no.Device) (line : IsOneLine done) (z : View) where
    -- its line was sent, or a front of it
    pub served_line : {Y : Type 0} (result : Result Y Status) → IfErr result (λ why. why ≡ status.PutFault) → PutsAll told (change_line done) w z result → IsServed told start (file.Shell q) f0 f1 c0 c1 v z result
    served_line result stops puts =
        line_served told start (file.Shell q) f0 f1 c0 c1 v w z (change_line done) (on_answer (AreReady f1 c1) done other carried.ready)
        (λ t. on_answer (((n : ℕ) → w.loose n ≡ false) × FitsShell start f1 c1 w.reads) done other (carried.at t))
        (λ t. on_answer (IsOneLine done → AnswersByLine start (shell_state f0 v.reads) q (change_line done) (shell_state f1 w.reads)) done other (carried.answered t) line)
        carried.sent carried.any_moment (on_answer (w.faults ≡ v.faults) done other carried.faultless) carried.put_faults carried.behind result stops puts

  pub served : {Y : Type 0} (z : View) (result : Result Y Status) → (done ≡ Err no.Device → (result ≡ Err status.DeviceFault) × (z ≡ w)) → (done ≢ Err no.Device → IsOneLine done) → (done ≢ Err no.Device → IfErr result (λ why. why ≡ status.PutFault)) → (done ≢ Err no.Device → PutsAll told (change_line done) w z result)
      → IsServed told start (file.Shell q) f0 f1 c0 c1 v z result
  served {Y = Y} z result device line stops puts = elim (is_device done) [
    | inl is ↦ rw ((device is).0, (device is).1) (called_lost (file.Shell q) f0 is carried.called)
    | inr other ↦ served_line other (line other) z result (stops other) (puts other)
  ]
    where
      is_device : (r : Result X FsRefusal) → (r ≡ Err no.Device) ⊎ (r ≢ Err no.Device)
      is_device (Ok x) = inr (λ e. cc)
      is_device (Err e) = elim (device_or_not e) [ inl is ↦ inl (ap Err is) | inr ne ↦ inr (λ same. ne (cc)) ]
