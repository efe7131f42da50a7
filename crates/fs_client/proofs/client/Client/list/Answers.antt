use Rattle.std.proofs.Common.{ℕ, List, refl, sym, ap, subst, Err}
use Rattle.fs_client.proofs.Common.{IfOk, IsAskCarriedOut, list_by, targets_replied, AsksOnce}
use Rattle.tsd_model.specs.declared.requests.Request.TheVariants as ask
use Rattle.tsd_model.specs.declared.replies.Reply.TheVariants as reply
use Rattle.fs_trees.specs.declared.refusal.FsRefusal.TheVariants as no
use Rattle.fs_client.proofs.OnceLaws.{failed}
use Rattle.fs_client.proofs.FormLaws.{targets_form, targets_step, answered}
use Rattle.fs_client.proofs.client.Client.list.Goals as goal

pub ask-requires : goal.ask-requires
ask-requires g c = c.requires.unspent

pub returns-in-Ok : goal.returns-in-Ok
returns-in-Ok g c =
    let told = g.K.Blocks.told in
    let old = g.K.Blocks.view c.args.disk.now in
    let new = g.K.Blocks.view c.ask.new.self in
    let s = c.args.self.now.session in
    let a = c.args.source in
    let r = c.in-Ok.reply in
    let same = ap (λ x. ask.List s a x c.args.start) c.shown.ensures in
    record {
      step = λ t. subst (λ given. IfOk given (λ x. IsAskCarriedOut old new (list_by c.args.self.now a c.args.start) (reply.Targets x))) (sym c.targets_replied.ensures)
          (targets_step (IsAskCarriedOut old new (list_by c.args.self.now a c.args.start)) r (subst (λ q. IsAskCarriedOut old new q r) same (c.in-Ok.ensures.step t)));
      once = subst (λ q. AsksOnce {X = List ℕ} told old new q c.targets_replied.result) same
          (answered {X = List ℕ} told old new (ask.List s a c.shown.result c.args.start) r (targets_replied r) c.targets_replied.result c.targets_replied.ensures (targets_form s a c.shown.result c.args.start r) refl
          c.in-Ok.ensures.step c.in-Ok.ensures.crash (c.in-Ok.ensures.stays refl) c.in-Ok.ensures.counts c.in-Ok.ensures.faults c.in-Ok.ensures.unspent);
    }

pub returns-in-Err-clause-once : goal.returns-in-Err-clause-once
returns-in-Err-clause-once g c =
    let told = g.K.Blocks.told in
    let old = g.K.Blocks.view c.args.disk.now in
    let new = g.K.Blocks.view c.ask.new.self in
    let s = c.args.self.now.session in
    let a = c.args.source in
    subst (λ q. AsksOnce {X = List ℕ} told old new q (Err no.Device)) (ap (λ x. ask.List s a x c.args.start) c.shown.ensures)
    (failed {X = List ℕ} told old new (ask.List s a c.shown.result c.args.start) c.in-Err.ensures.crash c.in-Err.ensures.counts c.in-Err.ensures.faults c.in-Err.ensures.spent)
