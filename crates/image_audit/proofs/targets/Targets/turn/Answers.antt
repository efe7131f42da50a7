use Rattle.std.proofs.Common.{refl, arith}
use Rattle.image_audit.proofs.Common.{told_by}
use Rattle.image_audit.proofs.PageLaws.{new_page, old_page}
use Rattle.image_audit.proofs.targets.Targets.turn.Goals as goal

pub returns-then-self-len-clause-rest : goal.returns-then-self-len-clause-rest
returns-then-self-len-clause-rest c = new_page (told_by c.args.volume.now).pairs _ refl c.targets_from-self.ensures

pub returns-else-self-len-clause-rest : goal.returns-else-self-len-clause-rest
returns-else-self-len-clause-rest c =
    let position = c.requires.page.position in
    let other = c.if-self-len.false in
    let len = c.len.ensures.value in
    old_page (told_by c.args.volume.now).pairs c.args.self.now (omega (arith, position, other, len)) c.requires.page
