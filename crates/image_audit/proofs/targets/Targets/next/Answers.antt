use Rattle.std.proofs.Common.{ap, refl, arith}
use Rattle.image_audit.proofs.Common.{Geometry, live_below, told_by}
use Rattle.image_audit.proofs.PageLaws.{told_rising, ended_at, next_at, page_at}
use Rattle.image_audit.proofs.targets.Targets.next.Goals as goal

pub returns-then-self-len-clause-next : goal.returns-then-self-len-clause-next
returns-then-self-len-clause-next c =
    ended_at (told_by c.args.volume.now).pairs (told_rising c.args.volume.now.tables) c.turn.new.self c.args.self.now.source c.args.self.now.from c.len.result c.turn.new.self.page
    c.turn.ensures.source c.turn.ensures.from c.len.ensures.value refl c.turn.ensures.rest c.if-self-len.true

pub returns-clause-next : goal.returns-clause-next
returns-clause-next c =
    next_at (told_by c.args.volume.now).pairs (told_rising c.args.volume.now.tables) c.turn.new.self c.args.self.now.source c.args.self.now.from c.len.result c.as_slice.result.now
    c.turn.ensures.source c.turn.ensures.from c.len.ensures.value c.as_slice.ensures.value c.turn.ensures.rest c.if-self-len.false

pub returns-clause-page : goal.returns-clause-page
returns-clause-page c =
    page_at (told_by c.args.volume.now).pairs (told_rising c.args.volume.now.tables) c.turn.new.self c.args.self.now.source c.args.self.now.from c.len.result c.as_slice.result.now
    c.turn.ensures.source c.turn.ensures.from c.len.ensures.value c.as_slice.ensures.value c.turn.ensures.rest c.if-self-len.false

pub returns-clause-target : goal.returns-clause-target
returns-clause-target c =
    let next = next_at (told_by c.args.volume.now).pairs (told_rising c.args.volume.now.tables) c.turn.new.self c.args.self.now.source c.args.self.now.from c.len.result c.as_slice.result.now
    c.turn.ensures.source c.turn.ensures.from c.len.ensures.value c.as_slice.ensures.value c.turn.ensures.rest c.if-self-len.false in
    let size = c.geometry-size.ensures in
    let below = live_below (told_by c.args.volume.now).blocks _ (size.ends _ _ next.there).1 in
    let long = size.sized.each_block in
    let same = ap (λ (g : Geometry). g.blocks) size.told in
    omega (arith, below, long, same)

pub overflow_add-self-2 : goal.overflow_add-self-2
overflow_add-self-2 c =
    let next = next_at (told_by c.args.volume.now).pairs (told_rising c.args.volume.now.tables) c.turn.new.self c.args.self.now.source c.args.self.now.from c.len.result c.as_slice.result.now
    c.turn.ensures.source c.turn.ensures.from c.len.ensures.value c.as_slice.ensures.value c.turn.ensures.rest c.if-self-len.false in
    let size = c.geometry-size.ensures in
    let below = live_below (told_by c.args.volume.now).blocks _ (size.ends _ _ next.there).1 in
    let long = size.sized.each_block in
    let most = size.sized.lawful.blocks.1 in
    omega (arith, below, long, most)
