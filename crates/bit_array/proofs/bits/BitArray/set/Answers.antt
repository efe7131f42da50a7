use Rattle.std.proofs.Common.{sym, ◌∙◌, ap, arith, false, ◌≡◌, ◌/◌}
use Rattle.bit_array.specs.Bits.{bits_of}
use Rattle.std.specs.Prelude.{slice_set, slice_index_or}
use Rattle.std.specs.Int.{bit_at}
use Rattle.std.proofs.lemmas.List.{set_past, get_or_default, get_or_past}
use Rattle.bit_array.proofs.BitLaws.{bits-changed, length-bits_of, same-bits, set-again, unset-bits_of}
use Rattle.bit_array.proofs.bits.BitArray.set.Goals as goal

pub returns-else-not-bit : goal.returns-else-not-bit
returns-else-not-bit c =
    let old = c.self.inside.words.items in let words = c.touch.new.words.items in let len = c.self.inside.len in let i = c.args.i in
    let read : c.index.result.now ≡ slice_index_or words (i / 64) 0 = c.index.ensures ∙ get_or_default words (i / 64) c.index.result.now 0 (omega arith) in
    bits-changed words len i c.with_bit.result c.args.bit c.touch.ensures.touched c.if-i-self.true c.with_bit.ensures.same (λ k h ne. c.with_bit.ensures.others k h ne ∙ ap (λ w. bit_at w k) read)
    ∙ ap (λ bits. slice_set bits i c.args.bit) (same-bits old words len c.touch.ensures.same ∙ c.self.view_is)

-- a bit whose word isn't in memory is false already
pub returns-then-len-position : goal.returns-then-len-position
returns-then-len-position c =
    let words = c.self.inside.words.items in let len = c.self.inside.len in let i = c.args.i in
    let behind : slice_index_or words (i / 64) 0 ≡ 0 = get_or_past words (i / 64) 0 (omega (arith, c.if-len-position.true)) in
    let was : slice_index_or c.args.self.now i false ≡ false = ap (λ bits. slice_index_or bits i false) (sym c.self.view_is) ∙ unset-bits_of words len i behind in
    set-again c.args.self.now i c.args.bit (was ∙ sym (c.if-not-bit.true))

pub returns-else-i-self : goal.returns-else-i-self
returns-else-i-self c =
    let words = c.self.inside.words.items in let len = c.self.inside.len in
    sym (ap (λ bits. slice_set bits c.args.i c.args.bit) (sym c.self.view_is) ∙ (set_past (bits_of words len) c.args.i c.args.bit (let e = length-bits_of words len in omega (arith, e, c.if-i-self.false)) ∙ c.self.view_is))
