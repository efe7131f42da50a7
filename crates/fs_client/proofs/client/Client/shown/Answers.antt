use Rattle.std.proofs.Common.{cond, sym, ap}
use Rattle.fs_client.proofs.Common.{eq-eqb, ne_eqb, Nothing, Key}
use Rattle.fs_client.proofs.client.Client.shown.Goals as goal

pub returns-then-block-self : goal.returns-then-block-self
returns-then-block-self c = sym (ap (λ t. cond t (Key c.args.self.now.cap) Nothing) (eq-eqb c.args.block c.args.self.now.root c.if-block-self.true))

pub returns-else-block-self : goal.returns-else-block-self
returns-else-block-self c = sym (ap (λ t. cond t (Key c.args.self.now.cap) Nothing) (ne_eqb c.args.block c.args.self.now.root c.if-block-self.false))
