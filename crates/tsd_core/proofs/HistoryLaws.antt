-- Runs of answers.
use Rattle.std.proofs.Common.{◌≡◌, Bool, List, [], ◌∷◌, ◌++◌, length, length-append, refl, sym, ◌∙◌, ap, subst, arith}
use Rattle.tsd_core.proofs.Common.{World, State, answer, after, at_rest, IsValid, PlaceKind, Request, Reply, reached_stays, last_pointer, IsAnswer}
use Rattle.disk_laws.proofs.AttainedLaws.{attained_by_history}
use Rattle.disk_laws.proofs.GrantLaws.{levels_are_grants}
use Rattle.disk_laws.proofs.RunLaws.{answer_valid}
use Rattle.tsd_core.specs.Histories.{WasRun, AccessIsByGrants, LeavesByTheLaws}

after_more : (kind : PlaceKind) (s : State) (wants : List Bool) (qs : List Request) (want : Bool) (q : Request) → length wants ≡ length qs
    → after kind s (wants ++ want ∷ []) (qs ++ q ∷ []) ≡ (answer kind (after kind s wants qs) q want).state
after_more kind s [] [] want q same = refl
after_more kind s [] (p ∷ qs) want q same = absurd (omega (arith, same))
after_more kind s (x ∷ wants) [] want q same = absurd (omega (arith, same))
after_more kind s (x ∷ wants) (p ∷ qs) want q same = after_more kind (answer kind s p x).state wants qs want q (omega (arith, same))

pub run_more : (kind : PlaceKind) (w : World) (qs : List Request) (s : State) (q : Request) (r : Reply) (t : State) → WasRun kind w qs s → IsAnswer kind s q r t → WasRun kind w (qs ++ q ∷ []) t
run_more kind w qs s q r t run got = record {
  wants = run.wants ++ got.want ∷ [];
  each = omega (arith, run.each, length-append run.wants (got.want ∷ []), length-append qs (q ∷ []));
  state = got.state ∙ (ap (λ x. (answer kind x q got.want).state) run.state ∙ sym (after_more kind (at_rest w) run.wants qs got.want q run.each));
}

pub run_grants : (kind : PlaceKind) (w : World) (qs : List Request) (s : State) → IsValid w → WasRun kind w qs s → AccessIsByGrants kind w qs s
run_grants kind w qs s valid run =
    let there : AccessIsByGrants kind w qs (after kind (at_rest w) run.wants qs) = record {
      wants = run.wants;
      held = λ n o a l. levels_are_grants kind w run.wants qs n o a l valid;
      attains = λ n b shown l. attained_by_history kind w run.wants qs n b shown l valid;
    } in
    subst (AccessIsByGrants kind w qs) (sym run.state) there

pub answer_laws : (kind : PlaceKind) (s : State) (q : Request) (r : Reply) (t : State) → IsValid s.world → IsAnswer kind s q r t → LeavesByTheLaws s q t
answer_laws kind s q r t valid got =
    let there : LeavesByTheLaws s q (answer kind s q got.want).state = record {
      valid = answer_valid kind s q got.want valid;
      reached = reached_stays kind s q got.want valid;
      last_pointer = λ e. last_pointer kind s q got.want valid e;
    } in
    subst (LeavesByTheLaws s q) (sym got.state) there
