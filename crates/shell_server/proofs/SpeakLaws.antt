-- An answer that is sent piece by piece.
use Rattle.std.proofs.Common.{◌≡◌, ◌≢◌, inl, inr, ℕ, ◌+◌, ◌≤◌, false, List, [], ◌∷◌, ◌++◌, length, take, drop, refl, sym, ◌∙◌, ap, subst, arith, append-nil, append_assoc, take-append-drop, length-drop, length-append}
use Rattle.shell_server.proofs.Common.{Result, Ok, Err, IfErr, World, Rose, View, IsLeftInPut, IsPart, IsSound, LeavesOnly, PutsAll, firm_image, joined, started, weakened, Answer, ShellAsk, FsRefusal, FilesView, Status, IsInAnswer, LeftBy, Core, behind_put, behind_stays, behind_then, ShellState, AnswersByLine, IsInParts, IsLeftOf, shell_service, AreReady, FitsShell, shell_state, shell_stands, IsLooked, IsServed, IsSpeaking}
use Rattle.fs_trees.specs.declared.refusal.FsRefusal.TheVariants as no
use Rattle.shell_text.specs.declared.file_ask.FileAsk.TheVariants as file
use Rattle.tsd_words.specs.declared.status.Status.TheVariants as status
use Rattle.serving.proofs.Still.{less_sent, still_late, still_put}
use Rattle.serving.specs.Prompt.{EndsBySending}
use Rattle.shell_server.proofs.SendLaws.{answering, line_served}

pub speaks_none : (told : Type 0) (start : World) (f0 : FilesView) (c0 : Core) (v : View) → AreReady f0 c0 → (told → ((n : ℕ) → v.loose n ≡ false) × FitsShell start f0 c0 v.reads) → (told → IsSound v) → IsSpeaking told start f0 f0 c0 c0 v v []
speaks_none told start f0 c0 v ready at sound = record {
  ready = ready;
  at = at;
  state = λ t. refl;
  sent = λ t. sym (append-nil v.sent);
  any_moment = λ t. started v (λ x f. IsLeftOf start (shell_state f0 v.reads) x × IsPart v.sent [] f) (sound t)
      (λ x f left. (subst (λ y. IsLeftOf start (shell_state f0 v.reads) y) (sym (firm_image v (at t).0 x f left)) (shell_stands start f0 c0 v.reads (at t).1), record { front = []; back = []; sent = left.1 ∙ sym (append-nil v.sent); whole = refl }));
  behind = behind_stays told c0 v sound (λ t. (at t).0);
  faults = refl;
  put_faults = refl;
}

module _ {told : Type 0} {start : World} {f0 f1 : FilesView} {c0 c1 : Core} {v w : View} {p : List ℕ} (so_far : IsSpeaking told start f0 f1 c0 c1 v w p) where
  -- the device stands for the state
  stands_now : told → IsLeftOf start (shell_state f0 v.reads) w.reads
  stands_now t = subst (λ (s : ShellState). IsLeftOf start s w.reads) (so_far.state t) (shell_stands start f1 c1 w.reads (so_far.at t).1)

  -- the disk was read
  pub speaks_look : {X : Type 0} {q : ShellAsk} {f2 : FilesView} {c2 : Core} {y : View} {of_answer : X → Answer → Type 0} {x : X} → IsLooked told start q f1 f2 c1 c2 w y of_answer (Ok x) → IsSpeaking told start f0 f2 c0 c2 v y p
  speaks_look {f2 = f2} {c2 = c2} {y = y} look = record {
    ready = look.ready.0;
    at = λ t. (look.at t).0;
    state = λ t. (look.state t).0 ∙ so_far.state t;
    sent = λ t. look.sent t ∙ so_far.sent t;
    any_moment = λ t. joined v w y (λ x f. IsLeftOf start (shell_state f0 v.reads) x × IsPart v.sent p f) (λ x f. IsLeftOf start (shell_state f1 w.reads) x × (f ≡ w.sent)) (so_far.any_moment t) (look.any_moment t)
        (λ x f left. (subst (λ (s : ShellState). IsLeftOf start s x) (so_far.state t) left.0, record { front = p; back = []; sent = left.1 ∙ so_far.sent t; whole = sym (append-nil p) }));
    behind = behind_then told c0 c1 c2 v w y so_far.behind look.behind;
    faults = look.faultless.0 ∙ so_far.faults;
    put_faults = look.put_faults ∙ so_far.put_faults;
  }

  -- a piece more was sent
  pub speaks_put : {Y : Type 0} {z : View} {piece : List ℕ} {y : Y} → PutsAll {E = Status} told piece w z (Ok y) → IsSpeaking told start f0 f1 c0 c1 v z (p ++ piece)
  speaks_put {z = z} {piece = piece} {y = y} puts = record {
    ready = so_far.ready;
    at = λ t. (λ n. ap (λ g. g n) (puts.loose t) ∙ (so_far.at t).0 n, subst (λ x. FitsShell start f1 c1 x) (sym (puts.reads t)) (so_far.at t).1);
    state = λ t. ap (λ x. shell_state f1 x) (puts.reads t) ∙ so_far.state t;
    sent = λ t. puts.sent t ∙ ap (λ l. l ++ piece) (so_far.sent t) ∙ append_assoc v.sent p piece;
    any_moment = λ t. joined v w z (λ x f. IsLeftOf start (shell_state f0 v.reads) x × IsPart v.sent (p ++ piece) f) (IsLeftInPut piece w)
        (weakened v w _ (λ x f. IsLeftOf start (shell_state f0 v.reads) x × IsPart v.sent (p ++ piece) f) (so_far.any_moment t)
        (λ x f left. (left.0, record { front = left.1.front; back = left.1.back ++ piece; sent = left.1.sent; whole = ap (λ l. l ++ piece) left.1.whole ∙ append_assoc left.1.front left.1.back piece }))) (puts.any_moment t)
        (λ x f left.
        let same : x ≡ w.reads = (λ i n. left.0.agrees n ((so_far.at t).0 n) i) in (
          subst (λ y. IsLeftOf start (shell_state f0 v.reads) y) (sym same) (stands_now t),
          record {
            front = p ++ left.1.front;
            back = left.1.back;
            sent = left.1.sent ∙ ap (λ l. l ++ left.1.front) (so_far.sent t) ∙ append_assoc v.sent p left.1.front;
            whole = ap (λ l. p ++ l) left.1.whole ∙ sym (append_assoc p left.1.front left.1.back);
          },
        ));
    behind = behind_then told c0 c1 c1 v w z so_far.behind (behind_put told c1 piece w z (Ok y) (λ t. (so_far.at t).0) puts);
    faults = puts.puts.faults ∙ so_far.faults;
    put_faults = puts.faults ∙ so_far.put_faults;
  }

  -- what a crash leaves of a line that begins so
  any_speaking : (q : ShellAsk) (line more : List ℕ) → line ≡ p ++ more → AnswersByLine start (shell_state f0 v.reads) q line (shell_state f0 v.reads) → told → LeavesOnly v w (IsInAnswer (shell_service start) (shell_state f0 v.reads) (file.Shell q) v.sent)
  unfolding answering
  any_speaking q line more parts given t = weakened v w _ (IsInAnswer (shell_service start) (shell_state f0 v.reads) (file.Shell q) v.sent) (so_far.any_moment t)
      (λ x f left. inr (answering start (shell_state f0 v.reads) (file.Shell q) v.sent f line (shell_state f0 v.reads) left.1.front (left.1.back ++ more) given (parts ∙ ap (λ l. l ++ more) left.1.whole ∙ append_assoc left.1.front left.1.back more) left.1.sent, inl left.0))

  -- the whole line was sent
  speaks_all_at : {Y : Type 0} (z : View) (line : List ℕ) → IsSpeaking told start f0 f1 c0 c1 v z line → (told → EndsBySending v z) → (q : ShellAsk) (y : Y) → (told → AnswersByLine start (shell_state f0 v.reads) q line (shell_state f0 v.reads)) → IsServed {X = Y} told start (file.Shell q) f0 f1 c0 c1 v z (Ok y)
  unfolding answering
  speaks_all_at z line spoken still q y given = record {
    ready = λ ne. spoken.ready;
    at = λ ne. spoken.at;
    spent = λ e. absurd (cc);
    answered = λ t. (line, subst (λ (s : ShellState). AnswersByLine start (shell_state f0 v.reads) q line s) (sym (spoken.state t)) (given t), spoken.sent t);
    left = λ t. tt;
    any_moment = λ t. spoken_any z line spoken q (given t) t;
    still = still;
    behind = spoken.behind;
    stops = tt;
    faults = (λ e. absurd (cc), λ ne. spoken.faults);
    put_faults = (λ e. absurd (cc), λ ne. spoken.put_faults);
  }
    where
      spoken_any : (z : View) (line : List ℕ) → IsSpeaking told start f0 f1 c0 c1 v z line → (q : ShellAsk) → AnswersByLine start (shell_state f0 v.reads) q line (shell_state f0 v.reads) → told → LeavesOnly v z (IsInAnswer (shell_service start) (shell_state f0 v.reads) (file.Shell q) v.sent)
      spoken_any z line spoken q given t = weakened v z _ (IsInAnswer (shell_service start) (shell_state f0 v.reads) (file.Shell q) v.sent) (spoken.any_moment t) (λ x f left. inr (answering start (shell_state f0 v.reads) (file.Shell q) v.sent f line (shell_state f0 v.reads) left.1.front left.1.back given left.1.whole left.1.sent, inl left.0))

  -- the device failed before the next piece
  pub speaks_lost : {X Y : Type 0} {q : ShellAsk} {f2 : FilesView} {c2 : Core} {y : View} {of_answer : X → Answer → Type 0} → IsLooked told start q f1 f2 c1 c2 w y of_answer (Err no.Device)
      → (told → (line : List ℕ) × (more : List ℕ) × (line ≡ p ++ more) × AnswersByLine start (shell_state f0 v.reads) q line (shell_state f0 v.reads) × IsInParts q line) → IsServed {X = Y} told start (file.Shell q) f0 f2 c0 c2 v y (Err status.DeviceFault)
  unfolding answering
  speaks_lost {q = q} {f2 = f2} {c2 = c2} {y = y} look speech = record {
    ready = λ ne. absurd (ne refl);
    at = λ ne. absurd (ne refl);
    spent = λ e. look.spent refl;
    answered = λ t. tt;
    left = λ t. let l = speech t in inr (answering start (shell_state f0 v.reads) (file.Shell q) v.sent y.sent l.0 (shell_state f0 v.reads) p l.1 l.3 l.2 (look.sent t ∙ so_far.sent t), inr l.4);
    still = λ t. tt;
    any_moment = λ t. let l = speech t in joined v w y (IsInAnswer (shell_service start) (shell_state f0 v.reads) (file.Shell q) v.sent) (λ x f. IsLeftOf start (shell_state f1 w.reads) x × (f ≡ w.sent)) (any_speaking q l.0 l.1 l.2 l.3 t) (look.any_moment t)
        (λ x f left. inr (answering start (shell_state f0 v.reads) (file.Shell q) v.sent f l.0 (shell_state f0 v.reads) p l.1 l.3 l.2 (left.1 ∙ so_far.sent t), inl (subst (λ (s : ShellState). IsLeftOf start s x) (so_far.state t) left.0)));
    behind = behind_then told c0 c1 c2 v w y so_far.behind look.behind;
    stops = inl refl;
    faults = (λ e. subst (λ (n : ℕ). Rose n y.faults) so_far.faults (look.cause refl), λ ne. absurd (ne refl));
    put_faults = (λ e. absurd (cc), λ ne. look.put_faults ∙ so_far.put_faults);
  }

  -- a put failed within the next piece
  pub speaks_cut : {Y : Type 0} (q : ShellAsk) {z : View} {piece : List ℕ} {why : Status} → why ≡ status.PutFault → PutsAll {T = Y} told piece w z (Err why) → (told → (line : List ℕ) × (more : List ℕ) × (line ≡ p ++ (piece ++ more)) × AnswersByLine start (shell_state f0 v.reads) q line (shell_state f0 v.reads))
      → IsServed {X = Y} told start (file.Shell q) f0 f1 c0 c1 v z (Err why)
  unfolding answering
  speaks_cut q {z = z} {piece = piece} {why = why} is puts speech = record {
    ready = λ ne. so_far.ready;
    at = λ ne t. (λ n. ap (λ g. g n) (puts.loose t) ∙ (so_far.at t).0 n, subst (λ x. FitsShell start f1 c1 x) (sym (puts.reads t)) (so_far.at t).1);
    spent = λ e. absurd (apart (cc));
    answered = λ t. tt;
    left = λ t.
        let l = speech t in
        let part = puts.part t in
        let whole : l.0 ≡ (p ++ take part.0 piece) ++ (drop part.0 piece ++ l.1) =
        l.2 ∙ ap (λ k. p ++ (k ++ l.1)) (sym (take-append-drop part.0 piece)) ∙ ap (λ k. p ++ k) (append_assoc (take part.0 piece) (drop part.0 piece) l.1) ∙ sym (append_assoc p (take part.0 piece) (drop part.0 piece ++ l.1)) in
        subst (λ r. LeftBy r (shell_service start) (shell_state f0 v.reads) (file.Shell q) (shell_state f1 z.reads) v.sent z.sent) (sym is) (
          answering start (shell_state f0 v.reads) (file.Shell q) v.sent z.sent l.0 (shell_state f0 v.reads) (p ++ take part.0 piece) (drop part.0 piece ++ l.1) l.3 whole (part.2 ∙ ap (λ k. k ++ take part.0 piece) (so_far.sent t) ∙ append_assoc v.sent p (take part.0 piece)),
          omega (arith, length-drop part.0 piece, length-append (drop part.0 piece) l.1, part.1),
          ap (λ x. shell_state f1 x) (puts.reads t) ∙ so_far.state t,
        );
    still = λ t. tt;
    any_moment = λ t. let l = speech t in joined v w z (IsInAnswer (shell_service start) (shell_state f0 v.reads) (file.Shell q) v.sent) (IsLeftInPut piece w) (any_speaking q l.0 (piece ++ l.1) l.2 l.3 t) (puts.any_moment t)
        (λ x f left.
        let same : x ≡ w.reads = (λ i n. left.0.agrees n ((so_far.at t).0 n) i) in
        let whole : l.0 ≡ (p ++ left.1.front) ++ (left.1.back ++ l.1) =
        l.2 ∙ ap (λ k. p ++ (k ++ l.1)) left.1.whole ∙ ap (λ k. p ++ k) (append_assoc left.1.front left.1.back l.1) ∙ sym (append_assoc p left.1.front (left.1.back ++ l.1)) in
        inr (answering start (shell_state f0 v.reads) (file.Shell q) v.sent f l.0 (shell_state f0 v.reads) (p ++ left.1.front) (left.1.back ++ l.1) l.3 whole (left.1.sent ∙ ap (λ k. k ++ left.1.front) (so_far.sent t) ∙ append_assoc v.sent p left.1.front), inl (subst (λ y. IsLeftOf start (shell_state f0 v.reads) y) (sym same) (stands_now t))));
    behind = behind_then told c0 c1 c1 v w z so_far.behind (behind_put told c1 piece w z (Err why) (λ t. (so_far.at t).0) puts);
    stops = inr is;
    faults = (λ e. absurd (apart (cc)), λ ne. puts.puts.faults ∙ so_far.faults);
    put_faults = (λ e. subst (λ (n : ℕ). Rose n z.put_faults) so_far.put_faults puts.faults, λ ne. absurd (ne (ap Err is)));
  }
    where
      apart : why ≡ status.DeviceFault → ⊥
      apart e = let both : status.PutFault ≡ status.DeviceFault = sym is ∙ e in cc

  -- It was refused before the next piece. That can't be where the device tells.
  pub speaks_never : {X Y : Type 0} {q : ShellAsk} {f2 : FilesView} {c2 : Core} {y z : View} {of_answer : X → Answer → Type 0} {e : FsRefusal} {line : List ℕ} {result : Result Y Status} → IsLooked told start q f1 f2 c1 c2 w y of_answer (Err e) → e ≢ no.Device → (told → ⊥)
      → IfErr result (λ why. why ≡ status.PutFault) → PutsAll told line y z result → IsServed told start (file.Shell q) f0 f2 c0 c2 v z result
  speaks_never {q = q} {f2 = f2} {c2 = c2} {y = y} {z = z} {line = line} {result = result} look other never stops puts =
      line_served told start (file.Shell q) f0 f2 c0 c2 v y z line (look.ready.1 other) (λ t. absurd (never t)) (λ t. absurd (never t)) (λ t. absurd (never t)) (λ t. absurd (never t))
      (look.faultless.1 other ∙ so_far.faults) (look.put_faults ∙ so_far.put_faults) (behind_then told c0 c1 c2 v w y so_far.behind look.behind) result stops puts

  -- the end of the line
  pub speaks_end : {Y : Type 0} (q : ShellAsk) {z : View} (result : Result Y Status) → IfErr result (λ why. why ≡ status.PutFault) → PutsAll told (10 ∷ []) w z result → (told → AnswersByLine start (shell_state f0 v.reads) q (p ++ 10 ∷ []) (shell_state f0 v.reads)) → IsServed told start (file.Shell q) f0 f1 c0 c1 v z result
  speaks_end q {z = z} (Ok y) stops puts given = speaks_all_at z (p ++ 10 ∷ []) (speaks_put puts)
      (λ t. still_late v w z (weakened v w _ (λ x f. length f ≤ length w.sent) (so_far.any_moment t) (λ x f left. part_sent f left.1 (so_far.sent t))) (less_sent w z (10 ∷ []) (puts.sent t) (omega arith)) (still_put w z (10 ∷ []) (so_far.at t).0 (puts.any_moment t) (puts.sent t) (puts.reads t)))
      q y given
    where
      part_sent : (f : List ℕ) → IsPart v.sent p f → w.sent ≡ v.sent ++ p → length f ≤ length w.sent
      part_sent f part sent =
          let now : length f ≡ length v.sent + length part.front = ap length part.sent ∙ length-append v.sent part.front in
          let all : length p ≡ length part.front + length part.back = ap length part.whole ∙ length-append part.front part.back in
          let end : length w.sent ≡ length v.sent + length p = ap length sent ∙ length-append v.sent p in
          omega (arith, now, all, end)
  speaks_end q (Err why) stops puts given = speaks_cut q stops puts (λ t. (p ++ 10 ∷ [], [], ap (λ l. p ++ l) (sym (append-nil (10 ∷ []))), given t))
