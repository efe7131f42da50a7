use Rattle.std.proofs.Common.{◌<◌, ℕ, Bool, List, sym, subst, ◌∙◌, ap}
use Rattle.block_alloc.proofs.Common.{slice_set, slice_index_or, bits_of, IsBitPut, IsMostIn, AreMost, LiveMap}
use Rattle.block_alloc.proofs.RowLaws.{most-apart, most-live}
use Rattle.block_alloc.proofs.BitLaws.{bits-changed, kept-put}
use Rattle.block_alloc.proofs.map.LiveMap.set.Goals as goal

pub invariant_of-self : goal.invariant_of-self
invariant_of-self c =
    let inside = c.self.inside in let seen = c.put_counted-self-inside in
    let within : c.args.block < inside.geometry.blocks = rw (ap (λ m. m.geometry.blocks) c.self.view_is) c.requires.inside in (
      c.self.invariant.0,
      kept-put inside.geometry.blocks inside.bytes.items inside.unhidden.items c.put_bit.new.bytes.items seen.new.bytes.items c.args.block inside.free seen.result
          inside.most.items c.renew_set.new.most.items c.args.bit c.args.unhidden
          c.self.invariant.1 within c.requires.live c.put_bit.ensures seen.ensures.put seen.ensures.counted
          (subst (λ (bytes : List ℕ). AreMost (bits_of bytes inside.geometry.blocks) c.renew_set.new.most.items) c.deref.ensures.value c.renew_set.ensures),
    )

-- the rows of groups apart from the block are as before
pub renew_set-requires-clause-others : goal.renew_set-requires-clause-others
renew_set-requires-clause-others c = λ group apart.
    let inside = c.self.inside in let seen = c.put_counted-self-inside in let most = slice_index_or inside.most.items group 32 in
    subst (λ (bytes : List ℕ). IsMostIn (bits_of bytes inside.geometry.blocks) group most) (sym c.deref.ensures.value)
    (most-apart inside.unhidden.items seen.new.bytes.items inside.geometry.blocks c.args.block group most c.args.unhidden seen.ensures.put apart (c.self.invariant.1.rows group))

-- a block that became live takes no row's bound away
pub renew_set-requires-clause-live : goal.renew_set-requires-clause-live
renew_set-requires-clause-live c = λ live group.
    let inside = c.self.inside in let seen = c.put_counted-self-inside in let most = slice_index_or inside.most.items group 32 in
    subst (λ (bytes : List ℕ). IsMostIn (bits_of bytes inside.geometry.blocks) group most) (sym c.deref.ensures.value)
    (most-live inside.unhidden.items seen.new.bytes.items inside.geometry.blocks c.args.block group most
    (subst (λ (bit : Bool). IsBitPut inside.unhidden.items seen.new.bytes.items c.args.block bit) live seen.ensures.put) (c.self.invariant.1.rows group))

pub returns : goal.returns
returns c =
    let inside = c.self.inside in let seen = c.put_counted-self-inside in let b = c.args.block in let blocks = inside.geometry.blocks in
    let within : b < blocks = rw (ap (λ m. m.geometry.blocks) c.self.view_is) c.requires.inside in
    let raw = bits-changed inside.bytes.items c.put_bit.new.bytes.items blocks b c.args.bit within c.put_bit.ensures.same c.put_bit.ensures.others in
    let rest = bits-changed inside.unhidden.items seen.new.bytes.items blocks b c.args.unhidden within seen.ensures.put.same seen.ensures.put.others in
    let made : List Bool → List Bool → LiveMap = λ live unhidden. record { geometry = inside.geometry; live = live; unhidden = unhidden } in
    let now : LiveMap → LiveMap = λ m. record m { live = slice_set m.live b c.args.bit; unhidden = slice_set m.unhidden b c.args.unhidden } in
    (λ i. made (raw i) (rest i)) ∙ ap now c.self.view_is
