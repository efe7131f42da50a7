use Rattle.std.proofs.Common.{◌&&◌, ◌==◌, refl}
use Rattle.fs_client.proofs.Common.{eq-eqb, and_from, or_left, attains_write, state_of, shown_at, link_by, pointed}
use Rattle.tsd_model.specs.declared.replies.Reply.TheVariants as reply
use Rattle.fs_client.proofs.StepLaws.{granted_by_form, went, step_ok, step_err}
use Rattle.fs_client.proofs.RefusalLaws.{link_has_room, link_has_none}
use Rattle.fs_client.proofs.steps.add_pointer.Goals as goal

pub link-requires : goal.link-requires
link-requires g c = record { unspent = c.requires.unspent }

pub returns-in-Ok : goal.returns-in-Ok
returns-in-Ok g c =
    let told = g.K.Blocks.told in
    let old = g.K.Blocks.view c.args.disk.now in
    let new = g.K.Blocks.view c.link.new.disk in
    let me = c.args.client.now in
    let a = c.args.source in
    let b = c.args.target in
    let q = link_by me a b in
    let after = pointed old.world a b in
    record {
      steps = step_ok me old new q a after refl refl told c.requires.valid refl tt
          (λ t. went me old new q a after refl refl (c.requires.valid t) refl refl (eq-eqb me.session me.session refl)
          (or_left ((a == a) && attains_write (state_of old) me.session a (shown_at me a)) _ (and_from (a == a) _ (eq-eqb a a refl) (c.requires.may t).attains)) reply.Done (c.in-Ok.ensures.step t) refl)
          c.in-Ok.ensures.once;
      room = λ t. link_has_room me old (c.requires.valid t) a b (c.requires.may t) (c.requires.live t) (c.requires.apart t) (c.requires.way t) (c.requires.new t) (granted_by_form old new q reply.Done (c.in-Ok.ensures.step t) refl);
      full = λ t. tt;
    }

pub returns-in-Err : goal.returns-in-Err
returns-in-Err g c =
    let told = g.K.Blocks.told in
    let old = g.K.Blocks.view c.args.disk.now in
    let new = g.K.Blocks.view c.link.new.disk in
    let me = c.args.client.now in
    let a = c.args.source in
    let b = c.args.target in
    let q = link_by me a b in
    record {
      steps = step_err me old new q a (pointed old.world a b) refl refl told c.requires.valid refl c.in-Err.refusal c.in-Err.ensures.once;
      room = λ t. tt;
      full = λ t ne. link_has_none me old (c.requires.valid t) a b (c.requires.may t) (c.requires.live t) (c.requires.apart t) (c.requires.way t) (c.requires.new t) c.in-Err.refusal (c.in-Err.ensures.once.refused t ne).0;
    }
