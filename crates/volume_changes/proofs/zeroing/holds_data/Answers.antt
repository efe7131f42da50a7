use Rattle.std.proofs.Common.{◌∙◌, ap, sym, arith}
use Rattle.image_layout.specs.Offsets.{data_sector}
use Rattle.intent_journal.specs.Batch.{has_home}
use Rattle.intent_journal.specs.Records.{patches_of}
use Rattle.volume_laws.proofs.ZeroLaws.{at_number, number_at}
use Rattle.volume_changes.proofs.zeroing.holds_data.Goals as goal

pub holds_block-is_held-requires : goal.holds_block-is_held-requires
holds_block-is_held-requires c = record { inside = c.requires.inside _ (at_number c.args.blocks.now c.loop-index.index c.loop-index-test.true) }

pub returns-clause-missed : goal.returns-clause-missed
returns-clause-missed c = λ none b part in_ inside.
    let at = number_at c.args.blocks.now b in_ in
    let less = at.1 in
    ap (λ k. has_home (patches_of c.args.ring.now) (data_sector c.args.layout.now.geometry k part)) (sym at.2) ∙ c.loop-index.invariant.missed none at.0 part (omega (arith, less, c.loop-index-test.false)) inside
