use Rattle.std.proofs.Common.{◌*◌, ◌∙◌}
use Rattle.fs_fields.proofs.PadLaws.{entry_at}
use Rattle.chain_layout.proofs.directory.name_at.Goals as goal

pub returns-clause-value : goal.returns-clause-value
returns-clause-value c = c.trimmed.ensures.value ∙ entry_at c.args.list.now (32 * c.args.position) c.requires
