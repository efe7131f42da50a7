use Rattle.std.proofs.Common.{◌≡◌, ◌+◌, length, arith}
use Rattle.std.proofs.lemmas.Grind.{common_steps}
use Rattle.script_text.specs.Grammar.{held_max}
use Rattle.script_text.proofs.CutLaws.{fitting}
use Rattle.script_text.proofs.cutter.push_all.Goals as goal

pub returns : goal.returns
returns c =
    let room : c.remaining_capacity.result + length c.args.line.now.items ≡ held_max = omega (arith, c.remaining_capacity.ensures) in
    let all = fitting c.args.line.now.items c.args.bytes.now held_max c.remaining_capacity.result room in
    grind (arith, common_steps, all)
