use Rattle.std.proofs.Common.{subst, Err}
use Rattle.std.proofs.lemmas.Result.{err_from_is_err_and}
use Rattle.image_shell.proofs.Common.{world_of}
use Rattle.image_shell.proofs.BeginLaws.{all_closed}
use Rattle.image_copy.specs.Steps.{IsSharing}
use Rattle.image_copy.proofs.OpenedLaws.{both_open, copies_begun, not_begun, shared_on, unshared}
use Rattle.image_copy.proofs.opened.copy_unless_shared.Goals as goal

pub begin_session-requires-clause-all : goal.begin_session-requires-clause-all
begin_session-requires-clause-all g c = all_closed c.args.core.now c.requires.none

pub copy_committed-requires-clause-open : goal.copy_committed-requires-clause-open
copy_committed-requires-clause-open g c = both_open c.args.core.now c.begin_session.new.core c.begin_session-2.new.core c.requires.none c.in_ok-begin_session.ensures.begun c.in_ok-begin_session-2.ensures.begun

pub copy_committed-requires-clause-apart : goal.copy_committed-requires-clause-apart
copy_committed-requires-clause-apart g c = λ t. rw ((c.in_ok-begin_session-2.ensures.at t).world, (c.in_ok-begin_session.ensures.at t).world) (unshared (world_of (g.D.Device.view c.args.dev.now).reads) (g.A.Files.view c.args.from.now).root (g.B.Files.view c.args.into.now).root c.args.shared c.in_default.not-Some (c.requires.shared t))

pub returns-in-Some : goal.returns-in-Some
returns-in-Some g c =
    let v = g.D.Device.view c.args.dev.now in
    let f = g.A.Files.view c.args.from.now in
    let to = g.B.Files.view c.args.into.now in
    shared_on g.D.Device.told f to c.args.core.now v c.in-Some.block (λ t. g.met.D.Device.sound c.args.dev.now t) c.requires.start
    (λ t. subst (λ o. IsSharing (world_of v.reads) f.root to.root o) c.in-Some.is (c.requires.shared t))

pub returns-in_err-begin_session : goal.returns-in_err-begin_session
returns-in_err-begin_session g c =
    let view = g.D.Device.view in
    let p = err_from_is_err_and c.from_residual.result c.from_residual.ensures.1 in
    rw (p.1, p.2) (not_begun g.D.Device.told (g.A.Files.view c.args.from.now) (g.B.Files.view c.args.into.now) 1 c.args.core.now c.begin_session.new.core (view c.args.dev.now) (view c.begin_session.new.dev) c.in_err-begin_session.field-0.0 c.in_err-begin_session.ensures (λ t. (c.requires.start.at t).core))

pub returns-in_err-begin_session-2 : goal.returns-in_err-begin_session-2
returns-in_err-begin_session-2 g c =
    let told = g.D.Device.told in
    let view = g.D.Device.view in
    let f = g.A.Files.view c.args.from.now in
    let to = g.B.Files.view c.args.into.now in
    let first = c.begin_session.new in
    let last = c.begin_session-2.new in
    let why = c.in_err-begin_session-2.field-0.0 in
    let p = err_from_is_err_and c.from_residual-in_err-begin_session-2.result c.from_residual-in_err-begin_session-2.ensures.1 in
    rw (p.1, p.2) (copies_begun told f to 1 c.args.core.now first.core (view c.args.dev.now) (view first.dev) c.in_ok-begin_session.field-0 c.in_ok-begin_session.ensures last.core (view last.dev) (Err why)
    (not_begun told f to 2 first.core last.core (view first.dev) (view last.dev) why c.in_err-begin_session-2.ensures (λ t. (c.in_ok-begin_session.ensures.at t).core)) (λ t. (c.requires.start.at t).core))

pub returns : goal.returns
returns g c =
    let told = g.D.Device.told in
    let view = g.D.Device.view in
    let f = g.A.Files.view c.args.from.now in
    let to = g.B.Files.view c.args.into.now in
    let first = c.begin_session.new in
    let last = c.copy_committed.new in
    copies_begun told f to 1 c.args.core.now first.core (view c.args.dev.now) (view first.dev) c.in_ok-begin_session.field-0 c.in_ok-begin_session.ensures last.core (view last.dev) c.copy_committed.result
    (copies_begun told f to 2 first.core c.begin_session-2.new.core (view first.dev) (view c.begin_session-2.new.dev) c.in_ok-begin_session-2.field-0 c.in_ok-begin_session-2.ensures last.core (view last.dev) c.copy_committed.result c.copy_committed.ensures (λ t. (c.in_ok-begin_session.ensures.at t).core))
    (λ t. (c.requires.start.at t).core)
