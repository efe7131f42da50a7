use Rattle.std.proofs.Common.{ℕ, List, refl, sym, ap, subst, Err}
use Rattle.fs_client.proofs.Common.{IfOk, At, IsAskCarriedOut, alloc_by, blocks_replied, AsksOnce}
use Rattle.tsd_model.specs.declared.requests.Request.TheVariants as ask
use Rattle.tsd_model.specs.declared.replies.Reply.TheVariants as reply
use Rattle.fs_trees.specs.declared.refusal.FsRefusal.TheVariants as no
use Rattle.fs_client.proofs.OnceLaws.{failed}
use Rattle.fs_client.proofs.FormLaws.{blocks_form, blocks_step, answered}
use Rattle.fs_client.proofs.client.Client.alloc.Goals as goal

pub ask-requires : goal.ask-requires
ask-requires g c = c.requires.unspent

pub returns-in-Ok : goal.returns-in-Ok
returns-in-Ok g c =
    let told = g.K.Blocks.told in
    let old = g.K.Blocks.view c.args.disk.now in
    let new = g.K.Blocks.view c.ask.new.self in
    let s = c.args.self.now.session in
    let a = c.args.source in
    let r = c.in-Ok.reply in
    let same = ap (λ x. ask.Alloc s a x (At a) c.args.count) c.shown.ensures in
    record {
      step = λ t. subst (λ given. IfOk given (λ x. IsAskCarriedOut old new (alloc_by c.args.self.now a c.args.count) (reply.Blocks x))) (sym c.blocks_replied.ensures)
          (blocks_step (IsAskCarriedOut old new (alloc_by c.args.self.now a c.args.count)) r (subst (λ q. IsAskCarriedOut old new q r) same (c.in-Ok.ensures.step t)));
      once = subst (λ q. AsksOnce {X = List ℕ} told old new q c.blocks_replied.result) same
          (answered {X = List ℕ} told old new (ask.Alloc s a c.shown.result (At a) c.args.count) r (blocks_replied r) c.blocks_replied.result c.blocks_replied.ensures (blocks_form s a c.shown.result (At a) c.args.count r) refl
          c.in-Ok.ensures.step c.in-Ok.ensures.crash (c.in-Ok.ensures.stays refl) c.in-Ok.ensures.counts c.in-Ok.ensures.faults c.in-Ok.ensures.unspent);
    }

pub returns-in-Err-clause-once : goal.returns-in-Err-clause-once
returns-in-Err-clause-once g c =
    let told = g.K.Blocks.told in
    let old = g.K.Blocks.view c.args.disk.now in
    let new = g.K.Blocks.view c.ask.new.self in
    let s = c.args.self.now.session in
    let a = c.args.source in
    subst (λ q. AsksOnce {X = List ℕ} told old new q (Err no.Device)) (ap (λ x. ask.Alloc s a x (At a) c.args.count) c.shown.ensures)
    (failed {X = List ℕ} told old new (ask.Alloc s a c.shown.result (At a) c.args.count) c.in-Err.ensures.crash c.in-Err.ensures.counts c.in-Err.ensures.faults c.in-Err.ensures.spent)
