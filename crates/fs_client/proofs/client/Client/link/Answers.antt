use Rattle.std.proofs.Common.{refl, sym, ap, subst, Err}
use Rattle.fs_client.proofs.Common.{IfOk, IsAskCarriedOut, link_by, done_replied, AsksOnce}
use Rattle.tsd_model.specs.declared.requests.Request.TheVariants as ask
use Rattle.tsd_model.specs.declared.replies.Reply.TheVariants as reply
use Rattle.fs_trees.specs.declared.refusal.FsRefusal.TheVariants as no
use Rattle.fs_client.proofs.OnceLaws.{failed}
use Rattle.fs_client.proofs.FormLaws.{linked_form, done_step, answered}
use Rattle.fs_client.proofs.client.Client.link.Goals as goal

pub ask-requires : goal.ask-requires
ask-requires g c = c.requires.unspent

pub returns-in-Ok : goal.returns-in-Ok
returns-in-Ok g c =
    let told = g.K.Blocks.told in
    let old = g.K.Blocks.view c.args.disk.now in
    let new = g.K.Blocks.view c.ask.new.self in
    let s = c.args.self.now.session in
    let a = c.args.source in
    let r = c.in-Ok.reply in
    let same = ap (λ x. ask.Create s a x c.args.target) c.shown.ensures in
    record {
      step = λ t. subst (λ given. IfOk given (λ x. IsAskCarriedOut old new (link_by c.args.self.now a c.args.target) (reply.Done))) (sym c.done_replied.ensures)
          (done_step (IsAskCarriedOut old new (link_by c.args.self.now a c.args.target)) r (subst (λ q. IsAskCarriedOut old new q r) same (c.in-Ok.ensures.step t)));
      once = subst (λ q. AsksOnce {X = Unit {0}} told old new q c.done_replied.result) same
          (answered {X = Unit {0}} told old new (ask.Create s a c.shown.result c.args.target) r (done_replied r) c.done_replied.result c.done_replied.ensures (linked_form s a c.shown.result c.args.target r) refl
          c.in-Ok.ensures.step c.in-Ok.ensures.crash (c.in-Ok.ensures.stays refl) c.in-Ok.ensures.counts c.in-Ok.ensures.faults c.in-Ok.ensures.unspent);
    }

pub returns-in-Err-clause-once : goal.returns-in-Err-clause-once
returns-in-Err-clause-once g c =
    let told = g.K.Blocks.told in
    let old = g.K.Blocks.view c.args.disk.now in
    let new = g.K.Blocks.view c.ask.new.self in
    let s = c.args.self.now.session in
    let a = c.args.source in
    subst (λ q. AsksOnce {X = Unit {0}} told old new q (Err no.Device)) (ap (λ x. ask.Create s a x c.args.target) c.shown.ensures)
    (failed {X = Unit {0}} told old new (ask.Create s a c.shown.result c.args.target) c.in-Err.ensures.crash c.in-Err.ensures.counts c.in-Err.ensures.faults c.in-Err.ensures.spent)
