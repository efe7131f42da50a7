use Rattle.std.proofs.Common.{sym, ◌∙◌, ap, false, ◌==◌, ◌%◌, ◌/◌, ◌≡◌, arith}
use Rattle.std.specs.Prelude.{slice_index_or}
use Rattle.std.specs.Int.{bit_at}
use Rattle.std.proofs.lemmas.Bool.{le-ltb}
use Rattle.bit_array.proofs.BitLaws.{get-bits_of, past-bits_of}
use Rattle.bit_array.proofs.bits.BitArray.get.Goals as goal

pub returns-then-i-self : goal.returns-then-i-self
returns-then-i-self c =
    let words = c.self.inside.words.items in let len = c.self.inside.len in let i = c.args.i in
    let read : c.word_at-word.result ≡ slice_index_or words (i / 64) 0 = c.word_at-word.ensures ∙ ap (λ ws. slice_index_or ws (i / 64) 0) c.deref.ensures.value in
    c.is_set.ensures ∙ (ap (λ w. bit_at w (i % 64) == 1) read ∙ sym (ap (λ bits. slice_index_or bits i false) (sym c.self.view_is) ∙ get-bits_of words len i c.if-i-self.true))

pub returns-else-i-self : goal.returns-else-i-self
returns-else-i-self c =
    le-ltb c.args.i c.self.inside.len c.if-i-self.false
    ∙ sym (ap (λ bits. slice_index_or bits c.args.i false) (sym c.self.view_is) ∙ past-bits_of c.self.inside.words.items c.self.inside.len c.args.i c.if-i-self.false)
