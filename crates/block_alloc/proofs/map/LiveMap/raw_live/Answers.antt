use Rattle.std.proofs.Common.{sym, ◌∙◌, ap, ◌<◌}
use Rattle.block_alloc.proofs.Common.{is_live, bit_in}
use Rattle.block_alloc.proofs.BitLaws.{get-bits_of}
use Rattle.block_alloc.proofs.map.LiveMap.raw_live.Goals as goal

pub returns : goal.returns
returns c =
    let bytes = c.self.inside.bytes.items in let blocks = c.self.inside.geometry.blocks in
    let within : c.args.block < blocks = rw (ap (λ m. m.geometry.blocks) c.self.view_is) c.requires in
    c.bit_in.ensures ∙ (ap (λ bs. bit_in bs c.args.block) c.deref.ensures.value
    ∙ (sym (get-bits_of bytes blocks c.args.block within) ∙ ap (λ m. is_live m.live c.args.block) c.self.view_is))
