use Rattle.std.proofs.Common.{◌∙◌}
use Rattle.std.proofs.lemmas.Result.{err_from_is_err_and}
use Rattle.tsd_model.specs.Verdict.{session_rules, block_rules, level_rules, pair_rules, room_rules}
use Rattle.tsd_model.proofs.VerdictLaws.{refused_by_first, refused_by_second, refused_by_third, refused_by_fourth, left_to_fifth}
use Rattle.grant_table.proofs.grants.Grants.verdict.Goals as goal

pub returns-in_err-check_session-clause-err : goal.returns-in_err-check_session-clause-err
returns-in_err-check_session-clause-err g c =
    let w = g.F.DiskFacts.world c.args.facts.now in let v = c.args.self.now.sessions in let q = c.args.request.now in
    let p = err_from_is_err_and c.from_residual.result c.from_residual.ensures.1 in
    rw (p.1, p.2) (refused_by_first (session_rules v q) (block_rules w q) (level_rules w v q) (pair_rules w q) (room_rules w q) _ c.in_err-check_session.ensures.err)

pub returns-in_err-check_blocks-clause-err : goal.returns-in_err-check_blocks-clause-err
returns-in_err-check_blocks-clause-err g c =
    let w = g.F.DiskFacts.world c.args.facts.now in let v = c.args.self.now.sessions in let q = c.args.request.now in
    let p = err_from_is_err_and c.from_residual-in_err-check_blocks.result c.from_residual-in_err-check_blocks.ensures.1 in
    rw (p.1, p.2) (refused_by_second (session_rules v q) (block_rules w q) (level_rules w v q) (pair_rules w q) (room_rules w q) _ c.in_ok-check_session.ensures.ok c.in_err-check_blocks.ensures.err)

pub returns-in_err-granted-clause-err : goal.returns-in_err-granted-clause-err
returns-in_err-granted-clause-err g c =
    let w = g.F.DiskFacts.world c.args.facts.now in let v = c.args.self.now.sessions in let q = c.args.request.now in
    let p = err_from_is_err_and c.from_residual-in_err-granted.result c.from_residual-in_err-granted.ensures.1 in
    rw (p.1, p.2) (refused_by_third (session_rules v q) (block_rules w q) (level_rules w v q) (pair_rules w q) (room_rules w q) _ c.in_ok-check_session.ensures.ok c.in_ok-check_blocks.ensures.ok c.in_err-granted.ensures.err)

pub returns-in_err-check_pair-clause-err : goal.returns-in_err-check_pair-clause-err
returns-in_err-check_pair-clause-err g c =
    let w = g.F.DiskFacts.world c.args.facts.now in let v = c.args.self.now.sessions in let q = c.args.request.now in
    let p = err_from_is_err_and c.from_residual-in_err-check_pair.result c.from_residual-in_err-check_pair.ensures.1 in
    rw (p.1, p.2) (refused_by_fourth (session_rules v q) (block_rules w q) (level_rules w v q) (pair_rules w q) (room_rules w q) _ c.in_ok-check_session.ensures.ok c.in_ok-check_blocks.ensures.ok c.in_ok-granted.ensures.ok c.in_err-check_pair.ensures.err)

pub returns-in_err-check_room-clause-err : goal.returns-in_err-check_room-clause-err
returns-in_err-check_room-clause-err g c =
    let w = g.F.DiskFacts.world c.args.facts.now in let v = c.args.self.now.sessions in let q = c.args.request.now in
    let p = err_from_is_err_and c.from_residual-in_err-check_room.result c.from_residual-in_err-check_room.ensures.1 in
    rw (p.1, p.2) (left_to_fifth (session_rules v q) (block_rules w q) (level_rules w v q) (pair_rules w q) (room_rules w q) c.in_ok-check_session.ensures.ok c.in_ok-check_blocks.ensures.ok c.in_ok-granted.ensures.ok c.in_ok-check_pair.ensures.ok ∙ c.in_err-check_room.ensures.err)
