use Rattle.std.proofs.Common.{◌≡◌, ◌-◌, ◌/◌, length, ◌∙◌, ap, subst, arith}
use Rattle.image_layout.specs.declared.offset.Offset.{Offset}
use Rattle.ref_counts.specs.Table.{Table}
use Rattle.ref_counts.specs.Stored.{sector_of, counts_sector_bytes, part_of}
use Rattle.ref_counts.proofs.Sectors.{AllFit, more, stored_all}
use Rattle.ref_counts.proofs.table.RefCounts.patch.Goals as goal

module _ (c : goal.After-bytes_of_part) where
  counts_are : c.deref.result.now ≡ c.args.self.now.counts
  counts_are = c.deref.ensures.value ∙ ap (λ (t : Table). t.counts) c.self.view_is

  each : length c.args.self.now.counts ≡ c.args.self.now.geometry.blocks
  each = subst (λ (t : Table). length t.counts ≡ t.geometry.blocks) c.self.view_is c.self.invariant.each

  fits : AllFit c.args.self.now.counts
  fits = subst AllFit counts_are c.bytes_of_part.ensures.fits

  position : c.count_offset-position.result.sector ≡ sector_of c.args.self.now.geometry c.args.block
  position = ap (λ (p : Offset). p.sector) c.count_offset-position.ensures.value

  bytes_are : c.bytes_of_part.result ≡ counts_sector_bytes c.args.self.now.counts (part_of c.args.block)
  bytes_are =
      let part : c.count_offset-position.result.sector - 134 ≡ c.args.block / 128 = omega (arith, position) in
      c.bytes_of_part.ensures.bytes ∙ ap (λ l. counts_sector_bytes l (c.count_offset-position.result.sector - 134)) counts_are ∙ ap (counts_sector_bytes c.args.self.now.counts) part

pub returns-clause-bytes : goal.returns-clause-bytes
returns-clause-bytes c = bytes_are c

pub returns-clause-stored : goal.returns-clause-stored
returns-clause-stored c x =
    stored_all c.args.self.now.counts c.args.self.now.geometry x c.args.block c.count_offset-position.result.sector c.bytes_of_part.result (each c) (fits c) (position c) (bytes_are c)

pub returns-clause-more : goal.returns-clause-more
returns-clause-more c some x =
    more c.args.self.now.counts c.args.self.now.geometry x c.args.block c.count_offset-position.result.sector c.bytes_of_part.result (each c) (fits c) (position c) (bytes_are c) some
