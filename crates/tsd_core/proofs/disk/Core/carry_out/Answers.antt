use Rattle.std.proofs.Common.{inl, inr, refl, sym, subst, arith}
use Rattle.std.specs.Prelude.{Result}
use Rattle.tsd_core.proofs.Common.{free_count, targets_from, Reply, Failed, Request, told_world, IsCarriedOut, left_in}
use Rattle.tsd_model.specs.declared.replies.Reply.TheVariants as reply
use Rattle.tsd_model.specs.declared.requests.Request.TheVariants as ask
use Rattle.tsd_core.proofs.FormLaws.{free_fits, targets_fit}
use Rattle.tsd_core.proofs.Quiet.{quiet}
use Rattle.tsd_core.proofs.disk.Core.carry_out.Goals as goal

pub returns-in-GetFree-clause-carried_out : goal.returns-in-GetFree-clause-carried_out
returns-in-GetFree-clause-carried_out g c =
    let v = g.D.Device.view c.args.dev.now in
    subst (λ (q : Request). IsCarriedOut g.D.Device.told c.args.placement.now.kind q c.args.self.now c.args.self.now v v (left_in c.free.result c.free.new.into)) (sym c.in-GetFree.is)
    (subst (λ (r : Result Reply Failed). IsCarriedOut g.D.Device.told c.args.placement.now.kind ask.GetFree c.args.self.now c.args.self.now v v r) (sym c.free.ensures)
    (quiet g.D.Device.told c.args.placement.now.kind ask.GetFree c.args.self.now c.args.self.now v (reply.Free (free_count (told_world c.args.self.now))) (λ w. refl) (record { none = refl; owes = omega arith }) (g.met.D.Device.sound c.args.dev.now) c.requires.at c.requires.ready
    refl (inl (record { table = refl; reply = λ e. refl; read = λ e. absurd (cc) }))
    refl
    (record { body = tt; numbers = free_fits (told_world c.args.self.now) c.requires.known.sized })))

pub returns-in-Begin-clause-carried_out : goal.returns-in-Begin-clause-carried_out
returns-in-Begin-clause-carried_out g c =
    let v = g.D.Device.view c.args.dev.now in
    subst (λ (q : Request). IsCarriedOut g.D.Device.told c.args.placement.now.kind q c.args.self.now c.begin.new.self v v (left_in c.begin.result c.begin.new.into)) (sym c.in-Begin.is)
    (elim c.begin.ensures.answer [
      | inl done ↦ subst (λ (r : Result Reply Failed). IsCarriedOut g.D.Device.told c.args.placement.now.kind (ask.Begin c.in-Begin.session) c.args.self.now c.begin.new.self v v r) (sym done.0)
          (quiet g.D.Device.told c.args.placement.now.kind (ask.Begin c.in-Begin.session) c.args.self.now c.begin.new.self v reply.Done (λ w. refl) (record { none = refl; owes = omega arith }) (g.met.D.Device.sound c.args.dev.now) c.requires.at c.requires.ready
          c.begin.ensures.volume (inl (record { table = done.1; reply = λ e. refl; read = λ e. absurd (cc) })) refl (record { body = tt; numbers = tt }))
      | inr none ↦ subst (λ (r : Result Reply Failed). IsCarriedOut g.D.Device.told c.args.placement.now.kind (ask.Begin c.in-Begin.session) c.args.self.now c.begin.new.self v v r) (sym none.0)
          (quiet g.D.Device.told c.args.placement.now.kind (ask.Begin c.in-Begin.session) c.args.self.now c.begin.new.self v reply.NoMemory (λ w. refl) (record { none = refl; owes = omega arith }) (g.met.D.Device.sound c.args.dev.now) c.requires.at c.requires.ready
          c.begin.ensures.volume (inr (record { begin = refl; reply = refl; table = none.1 })) refl (record { body = tt; numbers = tt }))
    ])

pub returns-in-End-clause-carried_out : goal.returns-in-End-clause-carried_out
returns-in-End-clause-carried_out g c =
    let v = g.D.Device.view c.args.dev.now in
    subst (λ (q : Request). IsCarriedOut g.D.Device.told c.args.placement.now.kind q c.args.self.now c.end.new.self v v (left_in c.end.result c.end.new.into)) (sym c.in-End.is)
    (subst (λ (r : Result Reply Failed). IsCarriedOut g.D.Device.told c.args.placement.now.kind (ask.End c.in-End.session) c.args.self.now c.end.new.self v v r) (sym c.end.ensures.answer.0)
    (quiet g.D.Device.told c.args.placement.now.kind (ask.End c.in-End.session) c.args.self.now c.end.new.self v reply.Done (λ w. refl) (record { none = refl; owes = omega arith }) (g.met.D.Device.sound c.args.dev.now) c.requires.at c.requires.ready
    c.end.ensures.volume (inl (record { table = c.end.ensures.answer.1; reply = λ e. refl; read = λ e. absurd (cc) }))
    refl
    (record { body = tt; numbers = tt })))

pub returns-in-List-clause-carried_out : goal.returns-in-List-clause-carried_out
returns-in-List-clause-carried_out g c =
    let v = g.D.Device.view c.args.dev.now in
    subst (λ (q : Request). IsCarriedOut g.D.Device.told c.args.placement.now.kind q c.args.self.now c.args.self.now v v (left_in c.list.result c.list.new.into)) (sym c.in-List.is)
    (subst (λ (r : Result Reply Failed). IsCarriedOut g.D.Device.told c.args.placement.now.kind (ask.List c.in-List.session c.in-List.source c.in-List.shown c.in-List.start) c.args.self.now c.args.self.now v v r) (sym c.list.ensures)
    (quiet g.D.Device.told c.args.placement.now.kind (ask.List c.in-List.session c.in-List.source c.in-List.shown c.in-List.start) c.args.self.now c.args.self.now v (reply.Targets (targets_from (told_world c.args.self.now).pairs c.in-List.source c.in-List.start)) (λ w. refl) (record { none = refl; owes = omega arith }) (g.met.D.Device.sound c.args.dev.now) c.requires.at c.requires.ready
    refl (inl (record { table = refl; reply = λ e. refl; read = λ e. absurd (cc) }))
    refl
    (targets_fit (told_world c.args.self.now) c.in-List.source c.in-List.start c.requires.known.sized (λ a b held. (c.requires.known.ends a b held).1))))

pub returns-in-Read-clause-carried_out : goal.returns-in-Read-clause-carried_out
returns-in-Read-clause-carried_out g c =
    subst (λ (q : Request). IsCarriedOut g.D.Device.told c.args.placement.now.kind q c.args.self.now c.read.new.self (g.D.Device.view c.args.dev.now) (g.D.Device.view c.read.new.dev) (left_in c.read.result c.read.new.into)) (sym c.in-Read.is)
    (c.read.ensures c.args.placement.now.kind c.in-Read.session c.in-Read.shown)

pub returns-in-Write-clause-carried_out : goal.returns-in-Write-clause-carried_out
returns-in-Write-clause-carried_out g c =
    subst (λ (q : Request). IsCarriedOut g.D.Device.told c.args.placement.now.kind q c.args.self.now c.write.new.self (g.D.Device.view c.args.dev.now) (g.D.Device.view c.write.new.dev) (left_in c.write.result c.write.new.into)) (sym c.in-Write.is)
    (c.write.ensures c.args.placement.now.kind c.in-Write.session c.in-Write.shown)

pub returns-in-SetCap-clause-carried_out : goal.returns-in-SetCap-clause-carried_out
returns-in-SetCap-clause-carried_out g c =
    subst (λ (q : Request). IsCarriedOut g.D.Device.told c.args.placement.now.kind q c.args.self.now c.set_caps.new.self (g.D.Device.view c.args.dev.now) (g.D.Device.view c.set_caps.new.dev) (left_in c.set_caps.result c.set_caps.new.into)) (sym c.in-SetCap.is)
    (c.set_caps.ensures c.args.placement.now.kind c.in-SetCap.session c.in-SetCap.shown)

pub returns-in-Create-clause-carried_out : goal.returns-in-Create-clause-carried_out
returns-in-Create-clause-carried_out g c =
    subst (λ (q : Request). IsCarriedOut g.D.Device.told c.args.placement.now.kind q c.args.self.now c.create.new.self (g.D.Device.view c.args.dev.now) (g.D.Device.view c.create.new.dev) (left_in c.create.result c.create.new.into)) (sym c.in-Create.is)
    (c.create.ensures c.args.placement.now.kind c.in-Create.session c.in-Create.shown)

pub returns-in-Delete-clause-carried_out : goal.returns-in-Delete-clause-carried_out
returns-in-Delete-clause-carried_out g c =
    subst (λ (q : Request). IsCarriedOut g.D.Device.told c.args.placement.now.kind q c.args.self.now c.delete.new.self (g.D.Device.view c.args.dev.now) (g.D.Device.view c.delete.new.dev) (left_in c.delete.result c.delete.new.into)) (sym c.in-Delete.is)
    (c.delete.ensures c.args.placement.now.kind c.in-Delete.session c.in-Delete.shown)

pub returns-in-Sweep-clause-carried_out : goal.returns-in-Sweep-clause-carried_out
returns-in-Sweep-clause-carried_out g c =
    subst (λ (q : Request). IsCarriedOut g.D.Device.told c.args.placement.now.kind q c.args.self.now c.sweep.new.self (g.D.Device.view c.args.dev.now) (g.D.Device.view c.sweep.new.dev) (left_in c.sweep.result c.sweep.new.into)) (sym c.in-Sweep.is)
    (c.sweep.ensures c.args.placement.now.kind c.in-Sweep.session c.in-Sweep.shown)
