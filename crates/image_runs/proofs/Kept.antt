-- The placement of a run is the one that it began with.
use Rattle.std.proofs.Common.{◌≡◌, ℕ, List, [], ◌∷◌, sym, ◌∙◌, ap, subst}
use Rattle.image_runs.proofs.Common.{State, PlaceKind, Request, Status, Spelling, Placed, Ran, ByStatus, Moments, Taking, Run, Served, IsCutOff, Voice, spoken, disk_rules, disk_work}
use Rattle.tsd_words.specs.declared.status.Status.TheVariants as status

-- no request changes in which order free blocks are taken
pub kind_stays : (v : Voice) (s : Placed) (qs : List Request) (xs : List (List ℕ)) (t : Placed) → Run (spoken disk_rules v) s qs xs t → t.kind ≡ s.kind
kind_stays v s [] [] t run = ap (λ (p : Placed). p.kind) (sym run)
kind_stays v s [] (a ∷ xs) t run = absurd run
kind_stays v s (q ∷ qs) [] t run = absurd run
kind_stays v s (q ∷ qs) (a ∷ xs) t run = kind_stays v run.0 qs xs t run.2 ∙ run.1.2.2

-- so the state in the end is one of it
abbrev placed : PlaceKind → State → Placed
placed kind s = record { kind = kind; state = s }

served_here : (v : Voice) (s : Placed) (before : List ℕ) (qs : List Request) (kind : PlaceKind) (state : State) (now : List ℕ)
    → Served (spoken disk_rules v) s before qs (placed kind state) now → Served (spoken disk_rules v) s before qs (placed s.kind state) now
served_here v s before qs kind state now served =
    subst (λ (k : PlaceKind). Served (spoken disk_rules v) s before qs (placed k state) now) (kind_stays v s qs served.answers (placed kind state) served.run) served

-- also where an answer was cut off
cut_here : (v : Voice) (s : Placed) (before : List ℕ) (qs : List Request) (kind : PlaceKind) (state : State) (now : List ℕ) (c : IsCutOff (spoken disk_rules v) s before qs now)
    → placed kind state ≡ c.next → (d : IsCutOff (spoken disk_rules v) s before qs now) × (placed s.kind state ≡ d.next)
cut_here v s before qs kind state now c same =
    let e : kind ≡ s.kind = ap (λ (p : Placed). p.kind) same ∙ c.given.2.2 ∙ kind_stays v s c.answered c.answers c.state c.run in
    (c, subst (λ (k : PlaceKind). placed k state ≡ c.next) e same)

sent_here : (r : Status) (v : Voice) (s : Placed) (before : List ℕ) (qs : List Request) (kind : PlaceKind) (state : State) (now : List ℕ)
    → ByStatus r (spoken disk_rules v) s before qs (placed kind state) now → ByStatus r (spoken disk_rules v) s before qs (placed s.kind state) now
sent_here status.DeviceFault v s before qs kind state now sent = sent
sent_here status.PutFault v s before qs kind state now sent = cut_here v s before qs kind state now sent.0 sent.1
sent_here r v s before qs kind state now sent = served_here v s before qs kind state now sent

-- a run in the end of which the placement is any, as one of its own
pub ran_here : (r : Status) (v : Voice) (p : Spelling Request) (s : Placed) (kind : PlaceKind) (state : State) (limit : ℕ) (source : Taking) (due : ℕ) (port : Moments)
    → Ran r (spoken disk_rules v) disk_work p s (placed kind state) limit source due port
    → Ran r (spoken disk_rules v) disk_work p s (placed s.kind state) limit source due port
ran_here r v p s kind state limit source due port ran = record {
  bytes = ran.bytes;
  came_in = ran.came_in;
  asked = ran.asked;
  these = ran.these;
  ends = λ told. record {
    sent = sent_here r v s port.old.sent ran.asked kind state port.new.sent (ran.ends told).sent;
    any_moment = (ran.ends told).any_moment;
    most = (ran.ends told).most;
    debt = (ran.ends told).debt;
    seen = (ran.ends told).seen;
    all_seen = (ran.ends told).all_seen;
  };
}
