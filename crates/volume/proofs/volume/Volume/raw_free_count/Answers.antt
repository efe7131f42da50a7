use Rattle.std.proofs.Common.{ap, ◌∙◌}
use Rattle.volume.proofs.Common.{free_count, world_with, zeros_of, Volume, tables_in}
use Rattle.volume.proofs.FinishLaws.{raw_free}
use Rattle.volume.proofs.volume.Volume.raw_free_count.Goals as goal

pub returns : goal.returns
returns c =
    let i = c.self.inside in
    let t = tables_in i.header i.pointers i.counts i.live i.caps i.is_sweeping in
    c.count_free.ensures ∙ (raw_free t (zeros_of t) c.self.invariant.sound.each_block ∙ ap (λ (w : Volume). free_count (world_with w.tables (zeros_of w.tables))) c.self.view_is)
