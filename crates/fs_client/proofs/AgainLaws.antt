-- A call that begins where others only looked before.
use Rattle.std.proofs.Common.{◌≡◌, cond, sym, ◌∙◌, ap, subst, inl, inr, Result, Ok, Err}
use Rattle.fs_client.proofs.Common.{World, is_free, IsValid, nothing, Answer, tree_at, IsTidy, step_in, need_of, OthersStay, AskOutcome, ShellAsk, FsRefusal, DiskView, FilesView, Answers, IsEitherTree, KeepsRoom, LeavesTidyWorld, need_on, step_on, unless_refused, OnlyLooks, Changes, Runs, both_leave, leaves_more, on_answer}
use Rattle.fs_client.proofs.RunLaws.{on_ok, runs_look, runs_more, then_runs, changes_so, as_before}

module _ (f : FilesView) (first rd : DiskView) (a : ShellAsk) (same : rd.world ≡ first.world) where
  -- the step there, by the world
  abbrev step_of : World → AskOutcome
  step_of w = step_in f.kind w f.root (cond f.mounted (tree_at f.kind w f.root) nothing) a

  same_step : step_on f rd a ≡ step_on f first a
  same_step = ap (λ w. step_in f.kind w f.root (cond f.mounted (tree_at f.kind w f.root) nothing) a) same

  pub answers_again : {X : Type 0} (fin : DiskView) (result : Result X FsRefusal) (tells : X → Answer → Type 0) → Answers f rd fin a result tells → Answers f first fin a result tells
  answers_again fin (Ok y) tells h = record { ok = (subst (λ o. tells y o.answer) same_step h.ok.0, h.ok.1 ∙ ap (λ o. o.tree) same_step); err = tt }
  answers_again fin (Err r) tells h = record { ok = tt; err = λ ne. let k = h.err ne in (ap (λ o. o.answer) (sym same_step) ∙ k.0, k.1 ∙ same) }

  leaves_again : (fin : DiskView) → LeavesTidyWorld f rd fin → LeavesTidyWorld f first fin
  leaves_again fin h = record {
    unspent = h.unspent;
    tidy = λ tidy. h.tidy (subst (λ w. IsTidy f.kind w f.root) (sym same) tidy);
    others = subst (λ w. OthersStay f.root w fin.world) same h.others;
    taken = λ b free. h.taken b (ap (λ w. is_free w b) same ∙ free);
  }

  room_again : (fin : DiskView) → KeepsRoom (need_on f rd a) rd.world fin.world → KeepsRoom (need_on f first a) first.world fin.world
  room_again fin = subst (λ w. KeepsRoom (need_of f.kind w f.root (cond f.mounted (tree_at f.kind w f.root) nothing) a) w fin.world) same

  either_again : (w : World) → IsEitherTree f rd a w → IsEitherTree f first a w
  either_again w h = (
    elim h.0 [
      | inl before ↦ inl (before ∙ ap (λ v. tree_at f.kind v f.root) same)
      | inr after ↦ inr (after ∙ ap (λ v. unless_refused (step_of v).answer (step_of v).tree (tree_at f.kind v f.root)) same)
    ],
    record { valid = h.1.valid; geometry = h.1.geometry ∙ ap (λ v. v.geometry) same; others = subst (λ v. OthersStay f.root v w) same h.1.others },
  )

pub changes_again : {X Y : Type 0} (told : Type 0) (f : FilesView) (first rd fin : DiskView) (a : ShellAsk) (x : X) (result : Result Y FsRefusal) → (told → IsValid first.world) → OnlyLooks told first rd (Ok x) → Changes told f rd fin a result → Changes told f first fin a result
changes_again {X} {Y} told f first rd fin a x result valid looks h =
    changes_so told f first fin a result (λ t. on_ok (KeepsRoom (need_on f rd a) rd.world fin.world) (KeepsRoom (need_on f first a) first.world fin.world) result (room_again f first rd a (looks.looked t).0.world fin) (h.room t))
    (λ t. on_answer (LeavesTidyWorld f rd fin) (LeavesTidyWorld f first fin) result (leaves_again f first rd a (looks.looked t).0.world fin) (h.world t))
    (λ t off. both_leave first rd fin (λ w. w ≡ first.world) (looks.crash t) (leaves_more rd fin (λ w. w ≡ rd.world) (λ w. w ≡ first.world) (λ w e. e ∙ (looks.looked t).0.world) (h.unmounted t off)))
    (then_runs told first rd fin (IsEitherTree f first a) x result
    (runs_look told first rd (IsEitherTree f first a) (Ok x) (λ t w is. as_before f first a w (valid t) is) looks)
    (runs_more told rd fin (IsEitherTree f rd a) (IsEitherTree f first a) result (λ t w either. either_again f first rd a (looks.looked t).0.world w either) ran))
  where
    ran : Runs told rd fin (IsEitherTree f rd a) result
    ran = record { valid = h.valid; led = h.led; crash = h.crash; stays = h.stays; counts = h.counts; unspent = h.unspent; faultless = h.faultless; cause = h.cause; spent = h.spent }
