use Rattle.std.proofs.Common.{ap}
use Rattle.image_shell.proofs.Common.{State, behind_of_core}
use Rattle.image_copy.proofs.OpenedLaws.{closed_on, not_closed}
use Rattle.image_copy.proofs.opened.copy_and_close.Goals as goal

pub returns-in-Ok-close-clause-copies : goal.returns-in-Ok-close-clause-copies
returns-in-Ok-close-clause-copies g c =
    let view = g.D.Device.view in
    let e = c.in-Ok-close.ensures in
    closed_on g.D.Device.told (g.A.Files.view c.args.from.now) (g.B.Files.view c.args.into.now) c.copy_unless_shared.new.core c.close.new.self (view c.args.dev.now) (view c.copy_unless_shared.new.dev) (view c.close.new.dev)
    c.in-Ok.end c.in-Ok.ensures e.any_moment e.sent e.works
    (λ t. g.met.D.Device.sound c.copy_unless_shared.new.dev t) (behind_of_core g.D.Device.told c.copy_unless_shared.new.core c.close.new.self (view c.copy_unless_shared.new.dev) (view c.close.new.dev) (λ t. g.met.D.Device.sound c.close.new.dev t) e.size e.behind) e.ready e.at (λ t. ap (λ (s : State). s.world) (e.state t)) e.faults

pub returns-in-Err-close-clause-copies : goal.returns-in-Err-close-clause-copies
returns-in-Err-close-clause-copies g c =
    let view = g.D.Device.view in
    let e = c.in-Err-close.ensures in
    not_closed g.D.Device.told (g.A.Files.view c.args.from.now) (g.B.Files.view c.args.into.now) c.copy_unless_shared.new.core c.close.new.self (view c.args.dev.now) (view c.copy_unless_shared.new.dev) (view c.close.new.dev)
    c.in-Ok.end c.in-Ok.ensures e.any_moment e.sent e.works
    (λ t. g.met.D.Device.sound c.copy_unless_shared.new.dev t) (behind_of_core g.D.Device.told c.copy_unless_shared.new.core c.close.new.self (view c.copy_unless_shared.new.dev) (view c.close.new.dev) (λ t. g.met.D.Device.sound c.close.new.dev t) e.size e.behind) e.faults
