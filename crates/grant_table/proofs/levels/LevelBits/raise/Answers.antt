use Rattle.std.proofs.Common.{sym, ◌∙◌, ap}
use Rattle.tsd_model.specs.Sessions.{raised_level}
use Rattle.tsd_model.specs.declared.requests.Level.TheVariants as level
use Rattle.grant_table.specs.Levels.{levels_of_bits}
use Rattle.grant_table.proofs.LevelLaws.{read_set, write_set}
use Rattle.grant_table.proofs.levels.LevelBits.raise.Goals as goal

pub returns-in-Read : goal.returns-in-Read
returns-in-Read c =
    let reads = c.self.inside.reads in let writes = c.self.inside.writes in let b = c.args.block in
    ap (λ rs. levels_of_bits rs writes) c.set.ensures ∙ (read_set reads writes b c.self.invariant ∙ (ap (raised_level b level.Read) c.self.view_is ∙ ap (λ to. raised_level b to c.args.self.now) (sym c.in-Read.is)))

pub returns-in-Write : goal.returns-in-Write
returns-in-Write c =
    let reads = c.self.inside.reads in let writes = c.self.inside.writes in let b = c.args.block in
    ap (levels_of_bits reads) c.set-in-Write.ensures ∙ (write_set reads writes b c.self.invariant ∙ (ap (raised_level b level.Write) c.self.view_is ∙ ap (λ to. raised_level b to c.args.self.now) (sym c.in-Write.is)))
