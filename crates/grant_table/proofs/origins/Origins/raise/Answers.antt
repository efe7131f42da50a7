use Rattle.std.proofs.Common.{sym, ◌∙◌, ap, arith, length, ◌≡◌}
use Rattle.std.proofs.lemmas.List.{set_past}
use Rattle.grant_table.proofs.origins.Origins.raise.Goals as goal

pub returns-else-position-lt-ORIGINS-clause-value : goal.returns-else-position-lt-ORIGINS-clause-value
returns-else-position-lt-ORIGINS-clause-value c =
    let long : length c.args.self.now ≡ 16 = ap length (sym c.self.view_is) ∙ c.self.invariant in
    sym (set_past c.args.self.now c.args.primary _ (omega arith))
