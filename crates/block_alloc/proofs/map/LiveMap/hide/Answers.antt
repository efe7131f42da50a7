use Rattle.std.proofs.Common.{◌<◌, ℕ, false, Bool, List, sym, subst, ◌∙◌, ap, arith}
use Rattle.block_alloc.proofs.Common.{slice_set, slice_index_or, bits_of, IsMostIn, AreMost, LiveMap, is_live}
use Rattle.block_alloc.proofs.RowLaws.{most-apart}
use Rattle.block_alloc.proofs.BitLaws.{bits-changed, length-bits_of, live-inside, kept-seen}
use Rattle.block_alloc.proofs.map.LiveMap.hide.Goals as goal

pub put_counted-self-inside-requires-clause-inside : goal.put_counted-self-inside-requires-clause-inside
put_counted-self-inside-requires-clause-inside c =
    let inside = c.self.inside in let bits = bits_of inside.unhidden.items inside.geometry.blocks in
    let size = length-bits_of inside.unhidden.items inside.geometry.blocks in
    let within = live-inside bits c.args.block (ap (λ m. is_live m.unhidden c.args.block) c.self.view_is ∙ c.requires) in
    omega (arith, size, within)

pub renew_round-requires-clause-block : goal.renew_round-requires-clause-block
renew_round-requires-clause-block c =
    let inside = c.self.inside in let bits = bits_of inside.unhidden.items inside.geometry.blocks in
    let size = length-bits_of inside.unhidden.items inside.geometry.blocks in
    let within = live-inside bits c.args.block (ap (λ m. is_live m.unhidden c.args.block) c.self.view_is ∙ c.requires) in
    omega (arith, size, within)

-- the rows of groups apart from the block are as before
pub renew_round-requires-clause-others : goal.renew_round-requires-clause-others
renew_round-requires-clause-others c = λ group apart.
    let inside = c.self.inside in let seen = c.put_counted-self-inside in let most = slice_index_or inside.most.items group 32 in
    subst (λ (bytes : List ℕ). IsMostIn (bits_of bytes inside.geometry.blocks) group most) (sym c.deref.ensures.value)
    (most-apart inside.unhidden.items seen.new.bytes.items inside.geometry.blocks c.args.block group most false seen.ensures.put apart (c.self.invariant.1.rows group))

pub invariant_of-self : goal.invariant_of-self
invariant_of-self c =
    let inside = c.self.inside in let seen = c.put_counted-self-inside in let blocks = inside.geometry.blocks in
    let kept = c.self.invariant.1 in
    let size = length-bits_of inside.unhidden.items blocks in
    let live = live-inside (bits_of inside.unhidden.items blocks) c.args.block (ap (λ m. is_live m.unhidden c.args.block) c.self.view_is ∙ c.requires) in
    let within : c.args.block < blocks = omega (arith, size, live) in (
      c.self.invariant.0,
      kept-seen blocks inside.bytes.items inside.unhidden.items seen.new.bytes.items c.args.block inside.free seen.result inside.most.items c.renew_round.new.most.items
          kept within seen.ensures.put seen.ensures.counted
          (subst (λ (bytes : List ℕ). AreMost (bits_of bytes blocks) c.renew_round.new.most.items) c.deref.ensures.value c.renew_round.ensures),
    )

pub returns : goal.returns
returns c =
    let inside = c.self.inside in let seen = c.put_counted-self-inside in let b = c.args.block in let blocks = inside.geometry.blocks in
    let size = length-bits_of inside.unhidden.items blocks in
    let live = live-inside (bits_of inside.unhidden.items blocks) b (ap (λ m. is_live m.unhidden b) c.self.view_is ∙ c.requires) in
    let within : b < blocks = omega (arith, size, live) in
    let rest = bits-changed inside.unhidden.items seen.new.bytes.items blocks b false within seen.ensures.put.same seen.ensures.put.others in
    let made : List Bool → LiveMap = λ unhidden. record { geometry = inside.geometry; live = bits_of inside.bytes.items blocks; unhidden = unhidden } in
    let now : LiveMap → LiveMap = λ m. record m { unhidden = slice_set m.unhidden b false } in
    ap made rest ∙ ap now c.self.view_is
