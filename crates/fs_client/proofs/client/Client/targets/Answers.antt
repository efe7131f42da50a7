use Rattle.std.proofs.Common.{◌≡◌, refl, Option, None}
use Rattle.fs_client.proofs.Common.{eq-eqb, verdict, Rule, state_of, Looked, attains_write, shown_at, list_by}
use Rattle.tsd_model.specs.declared.replies.Reply.TheVariants as reply
use Rattle.fs_client.proofs.LookLaws.{list_granted, list_looks, targets_listed, looked, gained, through_here, looks_ok, looks_err, is_a_fault, may_again}
use Rattle.fs_client.proofs.client.Client.targets.Goals as goal

pub list-requires : goal.list-requires
list-requires g c = record { unspent = c.requires.unspent }

pub returns-in-Ok : goal.returns-in-Ok
returns-in-Ok g c =
    let told = g.K.Blocks.told in
    let old = g.K.Blocks.view c.args.disk.now in
    let new = g.K.Blocks.view c.list.new.disk in
    let me = c.args.self.now in
    let b = c.args.source in
    let q = list_by me b c.args.start in
    let r = reply.Targets c.in-Ok.targets in
    let same = list_looks old.kind (state_of old) me b c.args.start in
    let seen : told → Looked old new = λ t. looked me old new q b r (c.requires.valid t) (c.requires.may t) (c.in-Ok.ensures.step t) same refl in
    record {
      targets = λ t. targets_listed me old new b c.args.start c.in-Ok.targets (c.requires.valid t) (c.requires.may t) (c.in-Ok.ensures.step t);
      held = λ t. gained me old new q b r (c.requires.valid t) (c.requires.may t) (c.in-Ok.ensures.step t) same refl
          (list_granted me old b c.args.start (c.requires.valid t) (c.requires.may t)) (eq-eqb me.session me.session refl) (through_here b (attains_write (state_of old) me.session b (shown_at me b)) (c.requires.may t).attains);
      still = λ t. may_again me old new b (seen t) c.in-Ok.ensures.once.stays.0 (c.requires.valid t) (c.requires.may t);
      only = λ t. tt;
      looks = looks_ok told old new q c.in-Ok.targets same seen c.in-Ok.ensures.once;
    }

pub returns-in-Err : goal.returns-in-Err
returns-in-Err g c =
    let told = g.K.Blocks.told in
    let old = g.K.Blocks.view c.args.disk.now in
    let new = g.K.Blocks.view c.list.new.disk in
    let me = c.args.self.now in
    let b = c.args.source in
    let q = list_by me b c.args.start in
    let granted : told → ◌≡◌ {A = Option Rule} (verdict old.world old.sessions (q)) None = λ t. list_granted me old b c.args.start (c.requires.valid t) (c.requires.may t) in
    record {
      targets = λ t. tt;
      held = λ t. tt;
      still = λ t. tt;
      only = λ t. is_a_fault told old new q c.in-Err.refusal granted t c.in-Err.ensures.once;
      looks = looks_err told old new q c.in-Err.refusal (list_looks old.kind (state_of old) me b c.args.start) granted c.in-Err.ensures.once;
    }
