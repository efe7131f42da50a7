use Rattle.std.proofs.Common.{◌≡◌, ◌≤◌, ◌+◌, ◌-◌, ◌++◌, false, ℕ, List}
use Rattle.serving.specs.Goes.{remaining, Handed, Reads}
use Rattle.serving.specs.Ran.{Came, IsAtEnd}
use Rattle.serving.proofs.intake.Intake.next.Given as goal

abbrev pub invariant-loop-self : goal.invariant-loop-self
invariant-loop-self g l =
    let before = l.initial.source in
    record {
      over : l.self.over ≡ false;
      limit : l.self.limit ≡ l.initial.self.limit;
      ends : g.S.Source.ends l.source ≡ g.S.Source.ends before;
      faults : g.S.Source.faults l.source ≡ g.S.Source.faults before;
      left : remaining l.self ≤ remaining l.initial.self;
      reads : (bytes : List ℕ) (qs : List g.row.R-Request.Denot)
          → Handed g.R.Protocol.spelling (λ x. g.R.Protocol.was_fed x l.initial.protocol) (IsAtEnd g.S.Source.told (g.S.Source.ended before) (g.S.Source.left_bytes before)) l.initial.self bytes qs
          → (more : List ℕ) × Came g.S.Source.told (g.S.Source.taken before) (g.S.Source.taken l.source) (g.S.Source.left_bytes before) (g.S.Source.left_bytes l.source) more
          × Reads g.R.Protocol.spelling (λ x. g.R.Protocol.was_fed x l.protocol) l.self (bytes ++ more) qs;
    }

abbrev pub decreases-loop-self : goal.decreases-loop-self
decreases-loop-self g l = l.self.limit + 1 - l.self.taken
