use Rattle.std.proofs.Common.{◌≡◌, true, sym, subst}
use Rattle.image_runs.proofs.Common.{Ran, moments, taking, spoken, Core, IsCoreAt, IsCoreReady, state_on, due, disk_rules, disk_work, placed_on}
use Rattle.image_runs.proofs.Kept.{ran_here}
use Rattle.image_runs.proofs.run.serve_core_in.Goals as goal

pub returns-clause-ran : goal.returns-clause-ran
returns-clause-ran g c =
    let old = g.P.Device.view c.args.port.now in
    let new = g.P.Device.view c.serve_in.new.port in
    let start = placed_on c.args.placement.now.kind c.args.core.now old.reads in
    let kind = c.args.placement.now.kind in
    let took = taking g.S.Source.told g.S.Source.taken g.S.Source.left_bytes g.S.Source.ended c.args.source.now c.serve_in.new.source in
    let port = moments g.P.Device.told g.P.Device.view c.args.port.now c.serve_in.new.port in
    let here = ran_here c.serve_in.result g.R.Replies.voice g.R.Protocol.spelling start c.serve_in.new.server.placement.now.kind (state_on c.serve_in.new.server.core.now new.reads) c.args.limit took (due c.args.core.now.volume) port c.serve_in.ensures.ran in
    subst
    (λ (d : Core). Ran c.serve_in.result (spoken disk_rules g.R.Replies.voice) disk_work g.R.Protocol.spelling start (placed_on kind d new.reads) c.args.limit took (due c.args.core.now.volume) port)
    (sym (c.core-1.given.1 (sym c.serve_in.ensures.lender))) here

pub returns-clause-ready : goal.returns-clause-ready
returns-clause-ready g c other = subst (λ (d : Core). IsCoreReady d) (sym (c.core-1.given.1 (sym c.serve_in.ensures.lender))) (c.serve_in.ensures.ready other)

pub returns-clause-spent : goal.returns-clause-spent
returns-clause-spent g c failed = subst (λ (d : Core). d.volume.is_spent ≡ true) (sym (c.core-1.given.1 (sym c.serve_in.ensures.lender))) (c.serve_in.ensures.spent failed)

pub returns-clause-at : goal.returns-clause-at
returns-clause-at g c other told = subst (λ (d : Core). IsCoreAt d (g.P.Device.view c.serve_in.new.port)) (sym (c.core-1.given.1 (sym c.serve_in.ensures.lender))) (c.serve_in.ensures.at other told)

pub returns-clause-behind : goal.returns-clause-behind
returns-clause-behind g c told = c.serve_in.ensures.aside_kept told
