-- Names that were read ahead.
use Rattle.std.proofs.Common.{◌≡◌, ℕ, false, List, [], ◌∷◌, refl, sym, subst, Option, Some, None, Ok, slice_get, remove, IfSome, OnSome}
use Rattle.shell_server.proofs.Common.{World, DeviceView, IsSound, firm_image, started, Answer, ShellAsk, FilesView, TellsNext, Name, Core, behind_stays, IsLeftOf, shell_stands, AreReady, FitsShell, shell_state, shell_step, IsLooked, AreBehind, TellsNames}

-- the first of those that were read ahead is the next, and the others come behind it
pub taken_first : (after : Name) (ns rest : List Name) (n : Name) (answer : Answer) → Some n ≡ slice_get ns 0 → rest ≡ remove ns 0 → AreBehind after ns answer → TellsNext after (Some n) answer × AreBehind n rest answer
taken_first after [] rest n answer is left behind = absurd (cc)
taken_first after (m ∷ ns) rest n answer is left behind =
    let same : n ≡ m = cc in (
      subst (λ k. TellsNext after (Some k) answer) (sym same) behind.0,
      subst (λ k. AreBehind k rest answer) (sym same) (subst (λ ms. AreBehind m ms answer) (sym left) behind.1),
    )

-- the first of those that were read now
pub read_first : (after : Name) (ns rest : List Name) (o : Option Name) (answer : Answer) → o ≡ slice_get ns 0 → OnSome o (rest ≡ remove ns 0) → TellsNames after ns answer → TellsNext after o answer × IfSome o (λ n. AreBehind n rest answer)
read_first after [] rest None answer is left tells = (tells, tt)
read_first after [] rest (Some n) answer is left tells = absurd (cc)
read_first after (m ∷ ns) rest None answer is left tells = absurd (cc)
read_first after (m ∷ ns) rest (Some n) answer is left tells = taken_first after (m ∷ ns) rest n answer is left tells

module _ (told : Type 0) (start : World) (q : ShellAsk) where
  -- nothing was read
  pub looked_ahead : {X : Type 0} (f : FilesView) (c : Core) (v : DeviceView) (of_answer : X → Answer → Type 0) (x : X) → AreReady f c → (told → ((n : ℕ) → v.loose n ≡ false) × FitsShell start f c v.reads) → (told → IsSound v) → (told → of_answer x (shell_step (shell_state f v.reads) q).answer)
      → IsLooked told start q f f c c v v of_answer (Ok x)
  looked_ahead f c v of_answer x ready at sound tells = record {
    called = record {
      ready = (ready, tt);
      at = λ t. (at t, tt);
      sent = λ t. refl;
      any_moment = λ t. started v (λ y g. IsLeftOf start (shell_state f v.reads) y × (g ≡ v.sent)) (sound t)
          (λ y g left. (subst (λ z. IsLeftOf start (shell_state f v.reads) z) (sym (firm_image v (at t).0 y g left)) (shell_stands start f c v.reads (at t).1), left.1));
      behind = behind_stays told c v sound (λ t. (at t).0);
      put_faults = refl;
      faultless = (refl, tt);
      spent = tt;
      cause = tt;
    };
    state = λ t. (refl, tt);
    read = tells;
    refused = λ t. tt;
  }

  -- what was read tells this
  pub looked_for : {X Y : Type 0} {f0 f1 : FilesView} {c0 c1 : Core} {v w : DeviceView} {of_answer : X → Answer → Type 0} (tells : Y → Answer → Type 0) (x : X) (y : Y) → IsLooked told start q f0 f1 c0 c1 v w of_answer (Ok x) → (told → tells y (shell_step (shell_state f0 v.reads) q).answer) → IsLooked told start q f0 f1 c0 c1 v w tells (Ok y)
  looked_for tells x y look is = record {
    called = record { ready = look.ready; at = look.at; sent = look.sent; any_moment = look.any_moment; behind = look.behind; put_faults = look.put_faults; faultless = look.faultless; spent = tt; cause = tt };
    state = look.state;
    read = is;
    refused = λ t. tt;
  }
