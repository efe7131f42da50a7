use Rattle.std.proofs.Common.{◌∙◌}
use Rattle.std.proofs.lemmas.Result.{err_from_is_err_and, MatchResult-weaker}
use Rattle.tsd_model.specs.Verdict.{session_rules, block_rules, level_rules, pair_rules, room_rules}
use Rattle.tsd_model.proofs.VerdictLaws.{refused_by_first, refused_by_second, refused_by_third, left_to_fifth}
use Rattle.plain_disk.proofs.verdict.verdict.Goals as goal

pub returns-in_err-check_session-clause-err : goal.returns-in_err-check_session-clause-err
returns-in_err-check_session-clause-err c =
    let w = c.args.world.now in let v = c.args.sessions.now in let q = c.args.request.now in
    let p = err_from_is_err_and c.from_residual.result c.from_residual.ensures.1 in
    rw (p.1, p.2) (refused_by_first (session_rules v q) (block_rules w q) (level_rules w v q) (pair_rules w q) (room_rules w q) _ c.in_err-check_session.ensures.err)

pub returns-in_err-check_blocks-clause-err : goal.returns-in_err-check_blocks-clause-err
returns-in_err-check_blocks-clause-err c =
    let w = c.args.world.now in let v = c.args.sessions.now in let q = c.args.request.now in
    let p = err_from_is_err_and c.from_residual-in_err-check_blocks.result c.from_residual-in_err-check_blocks.ensures.1 in
    rw (p.1, p.2) (refused_by_second (session_rules v q) (block_rules w q) (level_rules w v q) (pair_rules w q) (room_rules w q) _ c.in_ok-check_session.ensures.ok c.in_err-check_blocks.ensures.err)

pub returns-in_err-check_levels-clause-err : goal.returns-in_err-check_levels-clause-err
returns-in_err-check_levels-clause-err c =
    let w = c.args.world.now in let v = c.args.sessions.now in let q = c.args.request.now in
    let p = err_from_is_err_and c.from_residual-in_err-check_levels.result c.from_residual-in_err-check_levels.ensures.1 in
    rw (p.1, p.2) (refused_by_third (session_rules v q) (block_rules w q) (level_rules w v q) (pair_rules w q) (room_rules w q) _ c.in_ok-check_session.ensures.ok c.in_ok-check_blocks.ensures.ok c.in_err-check_levels.ensures.err)

pub returns-clause-err : goal.returns-clause-err
returns-clause-err c =
    let w = c.args.world.now in let v = c.args.sessions.now in let q = c.args.request.now in
    let rest = left_to_fifth (session_rules v q) (block_rules w q) (level_rules w v q) (pair_rules w q) (room_rules w q) c.in_ok-check_session.ensures.ok c.in_ok-check_blocks.ensures.ok c.in_ok-check_levels.ensures.ok c.in_ok-check_pair.ensures.ok in
    MatchResult-weaker c.check_room.result c.check_room.ensures.err (λ _ _. tt) (λ r h. rest ∙ h)
