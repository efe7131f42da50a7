use Rattle.std.proofs.Common.{◌∷◌}
use Rattle.gathered_tasks.proofs.asked.Log+Before+P.with.Given as goal

abbrev pub ghost-of : goal.ghost-of
ghost-of g a = λ did. record { dev = did.1.now; core = did.2.now; room = did.3.now; request = did.4.now } ∷ did.0.now.items
