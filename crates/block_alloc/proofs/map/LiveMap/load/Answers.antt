use Rattle.std.proofs.Common.{◌≡◌, ◌+◌, ◌/◌, ◌%◌, ◌∙◌, sym, ap}
use Rattle.block_alloc.proofs.Common.{slice_index, bitmap_start, is_live, bits_of}
use Rattle.block_alloc.proofs.BitLaws.{length-bits_of}
use Rattle.block_alloc.proofs.StoredLaws.{read_is_stored}
use Rattle.block_alloc.proofs.map.LiveMap.load.Given.{Over}
use Rattle.block_alloc.proofs.map.LiveMap.load.Goals as goal

copied : (g : Over) (c : goal.After-result-1 g) → c.in_ok-unhidden.unhidden.items ≡ c.cut_to.new.bytes.items
copied g c = c.in_ok-unhidden.ensures ∙ c.deref.ensures.value

pub returns-clause-table : goal.returns-clause-table
returns-clause-table g c = record {
  lawful = c.requires;
  each_block = length-bits_of c.cut_to.new.bytes.items c.args.geometry.now.blocks;
  each_unhidden = length-bits_of c.in_ok-unhidden.unhidden.items c.args.geometry.now.blocks;
  are_live = λ b live. ap (λ bytes. is_live (bits_of bytes c.args.geometry.now.blocks) b) (sym (copied g c)) ∙ live;
}

pub returns-clause-none_hidden : goal.returns-clause-none_hidden
returns-clause-none_hidden g c = ap (λ bytes. bits_of bytes c.args.geometry.now.blocks) (copied g c)

pub returns-clause-stored : goal.returns-clause-stored
returns-clause-stored g c = λ told.
    let reads = (g.D.Device.view c.args.dev.now).reads in
    let start : c.bitmap_start.result ≡ bitmap_start c.args.geometry.now = c.bitmap_start.ensures ∙ ap bitmap_start c.of-layout.ensures in
    read_is_stored c.cut_to.new.bytes.items c.in_ok-bytes.bytes.items c.args.geometry.now reads c.div_ceil-sectors.result c.div_ceil-sectors.ensures
    (λ i h. c.in_ok-bytes.ensures.read told i h ∙ ap (λ s. slice_index (reads (s + i / 512)) (i % 512)) start)
    c.cut_to.ensures.same
