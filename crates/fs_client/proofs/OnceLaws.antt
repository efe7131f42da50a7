-- One request, by what came of it.
use Rattle.std.proofs.Common.{◌≡◌, true, false, refl, Ok, Err}
use Rattle.fs_client.proofs.Common.{Rose, Request, Reply, Rule, DiskView, Counts, IsAskCarriedOut, IsEitherSide, LeavesWorldsOnly, Stays, refusal_of, refusal_in, has_wanted_form, AsksOnce}
use Rattle.tsd_model.specs.declared.replies.Reply.TheVariants as reply
use Rattle.tsd_model.specs.declared.replies.Rule.TheVariants as rule
use Rattle.fs_trees.specs.declared.refusal.FsRefusal.TheVariants as no
use Rattle.fs_client.proofs.RefusedLaws.{is_of_files, other_form}

-- no rule is a fault
never_a_fault : (r : Rule) → refusal_of r ≡ no.Device → ⊥
never_a_fault (rule.Full free wanted) e = cc
never_a_fault (rule.PointersFull held most) e = cc
never_a_fault r e = cc

no_reply_is_a_fault : (r : Reply) → refusal_in r ≡ no.Device → ⊥
no_reply_is_a_fault (reply.Refused r) e = never_a_fault r e
no_reply_is_a_fault r e = cc

module _ {X : Type 0} (told : Type 0) (old new : DiskView) (q : Request) (crash : told → LeavesWorldsOnly old new (IsEitherSide old q)) (counts : Counts old new) where
  pub carried_out : (x : X) → Stays old new → new.spent ≡ false → new.faults ≡ old.faults → AsksOnce told old new q (Ok x)
  carried_out x stays unspent faultless = record {
    refused = λ t. tt;
    crash = crash;
    stays = (stays, tt);
    counts = counts;
    unspent = (unspent, tt);
    faultless = (faultless, tt);
    cause = tt;
    spent = tt;
  }

  pub replied_otherwise : (r : Reply) → is_of_files q ≡ true → (told → IsAskCarriedOut old new q r) → has_wanted_form q r ≡ false → Stays old new → new.spent ≡ false → new.faults ≡ old.faults → AsksOnce {X = X} told old new q (Err (refusal_in r))
  replied_otherwise r own step other stays unspent faultless = record {
    refused = λ t ne. other_form old new q r own (step t) other;
    crash = crash;
    stays = (tt, λ ne. stays);
    counts = counts;
    unspent = (tt, λ ne. unspent);
    faultless = (tt, λ ne. faultless);
    cause = λ e. absurd (no_reply_is_a_fault r e);
    spent = λ e. absurd (no_reply_is_a_fault r e);
  }

  pub failed : Rose old.faults new.faults → new.spent ≡ true → AsksOnce {X = X} told old new q (Err no.Device)
  failed rose spent = record {
    refused = λ t ne. absurd (ne refl);
    crash = crash;
    stays = (tt, λ ne. absurd (ne refl));
    counts = counts;
    unspent = (tt, λ ne. absurd (ne refl));
    faultless = (tt, λ ne. absurd (ne refl));
    cause = λ e. rose;
    spent = λ e. spent;
  }
