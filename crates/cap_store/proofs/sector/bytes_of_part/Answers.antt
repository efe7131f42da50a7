use Rattle.std.proofs.Common.{◌-◌, ◌≤◌, ◌++◌, List, length, replicate, sym, ◌∙◌, ap, subst}
use Rattle.std.specs.List.{flat_map}
use Rattle.tsd_model.specs.declared.records.Record.{Record}
use Rattle.cap_store.specs.Stored.{record_bytes, records_in}
use Rattle.cap_store.proofs.Sectors.{part_are, part_bytes, part_fits, part_is, part_short}
use Rattle.cap_store.proofs.sector.bytes_of_part.Goals as goal

pub bytes_of-requires : goal.bytes_of-requires
bytes_of-requires c =
    let all = c.args.records.now in
    let is = part_is c.args.version all c.args.part c.per_sector-each.result c.min-end.result c.per_sector-each.ensures c.min-end.ensures in
    subst (λ (rs : List Record). length (flat_map record_bytes rs) ≤ 512) (sym is)
    (part_fits c.args.version c.requires.version (records_in c.args.version all c.args.part) (part_are c.args.version all c.args.part c.requires.each) (part_short c.args.version all c.args.part))

pub returns : goal.returns
returns c =
    let all = c.args.records.now in
    let is = part_is c.args.version all c.args.part c.per_sector-each.result c.min-end.result c.per_sector-each.ensures c.min-end.ensures in
    c.bytes_of.ensures
    ∙ ap (λ (rs : List Record). flat_map record_bytes rs ++ replicate (512 - length (flat_map record_bytes rs)) 0) is
    ∙ part_bytes c.args.version all c.args.part c.requires.each
