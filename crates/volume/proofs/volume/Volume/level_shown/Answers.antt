use Rattle.std.proofs.Common.{◌∙◌, sym, ap}
use Rattle.volume.proofs.Common.{blank_of, Volume, tables_in, told_by, told_size}
use Rattle.tsd_model.specs.Attained.{shown_level}
use Rattle.volume.proofs.volume.Volume.level_shown.Goals as goal

pub returns : goal.returns
returns c =
    let i = c.self.inside in
    let v = c.self.invariant in
    let size = told_size (tables_in i.header i.pointers i.counts i.live i.caps i.is_sweeping) in
    c.level_shown.ensures.rule (blank_of (tables_in i.header i.pointers i.counts i.live i.caps i.is_sweeping)) (size.1 ∙ sym v.kept_version) size.2
    ∙ ap (λ (w : Volume). shown_level (told_by w) c.args.block c.args.shown.now) c.self.view_is
