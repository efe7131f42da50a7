use Rattle.std.specs.Prelude.{◌==◌}
use Rattle.script_text.proofs.ByteLaws.{first_position}
use Rattle.script_text.proofs.words.first_position.Goals as goal

pub returns : goal.returns
returns c = first_position (λ b. b == c.args.at) c.args.bytes.now c.memchr.result c.memchr.ensures
