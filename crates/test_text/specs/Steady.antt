-- A disk with one state, which answers every request by Done and leaves nothing to be done.
use Rattle.std.proofs.Common.{◌≡◌, sym, subst}
use Rattle.tsd_model.specs.ReplyForm.{HasForm}
use Rattle.tsd_model.specs.declared.requests.Request.{Request}
use Rattle.tsd_model.specs.declared.replies.Reply.{Reply}
use Rattle.tsd_model.specs.declared.replies.Reply.TheVariants as reply
use Rattle.serving.specs.Handling.{DiskRules}
use Rattle.serving.specs.Work.{WorkCount}

abbrev pub steady_rules : DiskRules
steady_rules = record { States = Unit {0}; gives = λ s q r t. r ≡ reply.Done; stands = λ s x. Unit {0} }

abbrev pub steady_work : WorkCount Request (Unit {0})
steady_work = record {
  bounded = λ q. Unit {0};
  cost = λ s q. 0;
  made = λ s q. 0;
  debt = λ x. 0;
  before_answer = λ s owed q. 0;
  behind_answer = 0;
}

pub done_form : (r : Reply) → r ≡ reply.Done → HasForm r
done_form r e = subst HasForm (sym e) (record { body = tt; numbers = tt })
