use Rattle.std.proofs.Common.{refl, ap, arith}
use Rattle.shell_server.proofs.Common.{Result, Ok, Err, OnOk, behind}
use Rattle.serving.specs.Prompt.{mark}
use Rattle.shell_server.proofs.server.ShellServerServer.answer.Goals as goal

on_ok : {T E : Type 0} (r : Result T E) (X : Type 0) → X → OnOk r X
on_ok (Ok x) X h = h
on_ok (Err e) X h = tt

-- no ask has a bound
pub returns-clause-prompt : goal.returns-clause-prompt
returns-clause-prompt g c told =
    let new = mark (g.P.Device.view c.answer_file.new.port) in
    on_ok c.answer_file.result _ (record { replied = new; of_port = (c.answer_file.new.port, refl); between = ((c.answer_file.ensures.served.any_moment told).later, omega arith); sent = refl; before = λ bounded. absurd bounded; behind = omega arith })

pub returns-clause-aside : goal.returns-clause-aside
returns-clause-aside g c = ap behind c.answer_file.ensures.served.behind.size

pub returns-clause-aside_kept : goal.returns-clause-aside_kept
returns-clause-aside_kept g c = c.answer_file.ensures.served.behind.any_moment

pub returns-clause-still : goal.returns-clause-still
returns-clause-still g c told all = c.answer_file.ensures.served.still told
