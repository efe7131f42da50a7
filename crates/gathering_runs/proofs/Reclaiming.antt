-- What is left to be done: groups that lower it, and what requests leave.
use Rattle.std.proofs.Common.{◌≡◌, ◌⊎◌, ◌≤◌, ◌<◌, ℕ, zero, suc, ◌+◌, ◌-◌, List, [], ◌∷◌, ◌++◌, refl, sym, ◌∙◌, ap, subst, arith, append-nil}
use Rattle.image_device.specs.Image.{Image}
use Rattle.image_device.specs.View.{View}
use Rattle.intent_journal.specs.Home.{home}
use Rattle.intent_journal.specs.Records.{JournalRecord}
use Rattle.intent_journal.proofs.Uses.{at_valid}
use Rattle.gathering.specs.Gathered.{cleared}
use Rattle.gathering.specs.Left.{IsHomeOf}
use Rattle.gathering.proofs.Closed.{cleared_home}
use Rattle.serving.specs.Debts.{Debt, more_debt, debt_after, debt_of}
use Rattle.serving.specs.Prompt.{Mark}
use Rattle.serving.specs.Runs.{Run, Served}
use Rattle.serving.specs.Service.{Service}
use Rattle.serving.specs.Work.{WorkCount}
use Rattle.serving.proofs.Costs.{front_all, next_all}
use Rattle.serving.proofs.Debts.{debt_next}
use Rattle.serving.proofs.Runs.{run_next, sent_next}
use Rattle.gathering_runs.specs.ByTurns.{IsReclaiming, Reclaims, LeavesBut, left_by}
use Rattle.gathering_runs.specs.Turns.{StandsBetween}

-- ---- groups one behind the other
module _ {Q S : Type 0} (w : WorkCount Q S) (port : Mark → Type 0) where
  pub reclaims_more : (n : ℕ) (old mid new : Mark) → Reclaims w port n old mid → IsReclaiming w port mid new → Reclaims w port (suc n) old new
  reclaims_more zero old mid new a b = (new, subst (λ (z : Mark). IsReclaiming w port z new) a b, refl)
  reclaims_more (suc n) old mid new a b = (a.0, a.1, reclaims_more n a.0 mid new a.2 b)

  pub reclaims_joined : (m n : ℕ) (old mid new : Mark) → Reclaims w port m old mid → Reclaims w port n mid new → (c : ℕ) × Reclaims w port c old new
  reclaims_joined zero n old mid new a b = (n, subst (λ (z : Mark). Reclaims w port n z new) a b)
  reclaims_joined (suc m) n old mid new a b = let r = reclaims_joined m n a.0 mid new a.2 b in (suc r.0, (a.0, a.1, r.1))

  pub reclaims_sent : (n : ℕ) (old new : Mark) → Reclaims w port n old new → new.sent ≡ old.sent
  reclaims_sent zero old new a = ap (λ (z : Mark). z.sent) a
  reclaims_sent (suc n) old new a = reclaims_sent n a.0 new a.2 ∙ a.1.nothing_sent

  -- so there are no more of them than what was left
  pub reclaims_less : (n : ℕ) (old new : Mark) → Reclaims w port n old new → n + w.debt new.reads ≤ w.debt old.reads
  reclaims_less zero old new a = let e = ap (λ (z : Mark). w.debt z.reads) a in omega (arith, e)
  reclaims_less (suc n) old new a = let rest = reclaims_less n a.0 new a.2 in let one = a.1.lowered in omega (arith, rest, one)

  pub reclaims_port : (n : ℕ) (old new : Mark) → Reclaims w port n old new → port old → port new
  reclaims_port zero old new a here = subst port (sym a) here
  reclaims_port (suc n) old new a here = reclaims_port n a.0 new a.2 a.1.of_port

pub reclaims_over : {Q S : Type 0} (w : WorkCount Q S) (A B : Mark → Type 0) → ((m : Mark) → A m → B m) → (n : ℕ) (old new : Mark) → Reclaims w A n old new → Reclaims w B n old new
reclaims_over w A B over zero old new a = a
reclaims_over w A B over (suc n) old new a = (
  a.0,
  record { of_port = over a.0 a.1.of_port; nothing_sent = a.1.nothing_sent; writes = a.1.writes; lowered = a.1.lowered },
  reclaims_over w A B over n a.0 new a.2,
)

-- ---- what requests leave
module _ {Q : Type 0} (k : Service Q) (w : WorkCount Q k.States) where
  after_mono : (s t : k.States) (qs : List Q) (xs : List (List ℕ)) (run : Run k s qs xs t) (d e : Debt) → d.left ≤ e.left → (debt_after k w.made s qs xs t run d).left ≤ (debt_after k w.made s qs xs t run e).left
  after_mono s t [] xs run d e le = le
  after_mono s t (q ∷ qs) [] run d e le = le
  after_mono s t (q ∷ qs) (a ∷ xs) run d e le = after_mono run.0 t qs xs run.2 (more_debt (w.made s q) d) (more_debt (w.made s q) e) (omega (arith, le))

  pub left_mono : (s t : k.States) (before now : List ℕ) (qs : List Q) (served : Served k s before qs t now) (a b : ℕ) → a ≤ b → left_by k w s t before now qs served a ≤ left_by k w s t before now qs served b
  left_mono s t before now qs served a b le = after_mono s t qs served.answers served.run (debt_of a) (debt_of b) le

  pub leaves_none : (s : k.States) (before : List ℕ) (owed lacking : ℕ) → LeavesBut k w s before [] s before owed owed lacking
  leaves_none s before owed lacking = record { served = record { answers = []; run = refl; sent = sym (append-nil before) }; few = λ all. omega arith }

  pub leaves_more : (s m t : k.States) (before mid now : List ℕ) (qs : List Q) (q : Q) (a : List ℕ) (owed some left lacking : ℕ) → LeavesBut k w s before qs m mid owed some 0 → k.gives m q a t → now ≡ mid ++ a → (w.bounded q → left ≤ some + w.made m q - 4 + lacking)
      → LeavesBut k w s before (qs ++ q ∷ []) t now owed left lacking
  leaves_more s m t before mid now qs q a owed some left lacking was given sent few = record {
    served = record { answers = was.served.answers ++ a ∷ []; run = run_next k s m t qs was.served.answers q a was.served.run given; sent = sent_next before mid now was.served.answers a was.served.sent sent };
    few = λ all.
        let e = ap (λ (x : Debt). x.left) (debt_next k w.made s m t qs was.served.answers q a was.served.run given (debt_of owed)) in
        let one = was.few (front_all w.bounded qs (q ∷ []) all) in
        let two = few (next_all w.bounded qs q all) in
        omega (arith, e, one, two);
  }

  pub leaves_one : (s t : k.States) (before now : List ℕ) (q : Q) (a : List ℕ) (owed left : ℕ) → k.gives s q a t → now ≡ before ++ a → (w.bounded q → left ≤ owed + w.made s q - 4) → LeavesBut k w s before (q ∷ []) t now owed left 0
  leaves_one s t before now q a owed left given sent few = leaves_more s s t before before now [] q a owed owed left 0 (leaves_none s before owed 0) given sent (λ bounded. let h = few bounded in omega (arith, h))

  -- by other names of the states and of what was sent
  pub leaves_flushed : (s m t u : k.States) (before before2 mid now : List ℕ) (qs : List Q) (owed left lacking : ℕ) → LeavesBut k w s before qs t mid owed left lacking → s ≡ m → t ≡ u → before ≡ before2 → mid ≡ now → LeavesBut k w m before2 qs u now owed left lacking
  leaves_flushed s m t u before before2 mid now qs owed left lacking was first last start end =
      subst (λ (l : List ℕ). LeavesBut k w m before2 qs u l owed left lacking) end
      (subst (λ (l : List ℕ). LeavesBut k w m l qs u mid owed left lacking) start
      (subst (λ (z : k.States). LeavesBut k w m before qs z mid owed left lacking) last
      (subst (λ (z : k.States). LeavesBut k w z before qs t mid owed left lacking) first was)))

  -- by other counts
  pub leaves_as : (s t : k.States) (before now : List ℕ) (qs : List Q) (owed left owed2 left2 lacking : ℕ) → owed ≡ owed2 → left ≡ left2 → LeavesBut k w s before qs t now owed left lacking → LeavesBut k w s before qs t now owed2 left2 lacking
  leaves_as s t before now qs owed left owed2 left2 lacking first last was =
      subst (λ (n : ℕ). LeavesBut k w s before qs t now n left2 lacking) first (subst (λ (n : ℕ). LeavesBut k w s before qs t now owed n lacking) last was)

  -- of one request
  pub one_left : (s t : k.States) (before now : List ℕ) (q : Q) (served : Served k s before (q ∷ []) t now) (owed : ℕ) → left_by k w s t before now (q ∷ []) served owed ≡ owed + w.made s q - 4
  one_left s t before now q served owed = go served.answers served.run
    where
      go : (xs : List (List ℕ)) (run : Run k s (q ∷ []) xs t) → (debt_after k w.made s (q ∷ []) xs t run (debt_of owed)).left ≡ owed + w.made s q - 4
      go [] run = absurd run
      go (a ∷ xs) run = one_more xs run.0 run.2
        where
          one_more : (ys : List (List ℕ)) (m : k.States) (rest : Run k m [] ys t) → (debt_after k w.made m [] ys t rest (more_debt (w.made s q) (debt_of owed))).left ≡ owed + w.made s q - 4
          one_more ys m rest = refl

-- ---- what is left to be done between two groups
module _ (holds : Image → Type 0) (debt : Image → ℕ) (owed : ℕ) (owes : (x : Image) → holds x → debt x ≡ owed) (alike : (x y : Image) → holds x → IsHomeOf (home x) y → debt y ≡ debt x) where
  pub owed_between : (ring : List JournalRecord) (v : View) → StandsBetween holds ring v → debt v.reads ≡ owed
  owed_between ring v b = alike (cleared v.reads) v.reads b.held (record { valid = at_valid b.ring_at; stands = λ n out. sym (cleared_home v.reads n out) }) ∙ owes (cleared v.reads) b.held
