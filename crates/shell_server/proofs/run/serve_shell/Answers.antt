use Rattle.std.proofs.Common.{◌≡◌, true, sym, subst}
use Rattle.shell_server.proofs.Common.{Core, FitsReads, IsCoreReady}
use Rattle.shell_server.proofs.run.serve_shell.Goals as goal

pub returns-clause-ready : goal.returns-clause-ready
returns-clause-ready g c other = subst (λ (d : Core). IsCoreReady d) (sym (c.core-1.given.1 (sym c.serve.ensures.lender))) (c.serve.ensures.ready other).disk.core

pub returns-clause-at : goal.returns-clause-at
returns-clause-at g c other told =
    let at = c.serve.ensures.at other told in
    (at.0, subst (λ (d : Core). FitsReads d (g.P.Device.view c.serve.new.port).reads) (sym (c.core-1.given.1 (sym c.serve.ensures.lender))) at.1.core)

pub returns-clause-spent : goal.returns-clause-spent
returns-clause-spent g c failed = subst (λ (d : Core). d.volume.is_spent ≡ true) (sym (c.core-1.given.1 (sym c.serve.ensures.lender))) (c.serve.ensures.spent failed)

pub returns-clause-still : goal.returns-clause-still
returns-clause-still g c told cut = c.serve.ensures.still told tt cut
