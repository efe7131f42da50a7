use Rattle.std.proofs.Common.{inl, inr, length, sym, ◌∙◌, ap, subst, false, ◌/◌, ◌<◌, ◌≡◌, arith}
use Rattle.std.specs.Prelude.{slice_index_or}
use Rattle.std.proofs.lemmas.Bool.{cases_lt}
use Rattle.std.proofs.lemmas.List.{get_or_past}
use Rattle.bit_array.proofs.BitLaws.{past-bits_of, unset-bits_of}
use Rattle.bit_array.proofs.bits.BitArray.past_false.Goals as goal

pub returns-then-self-at-clause-unset : goal.returns-then-self-at-clause-unset
returns-then-self-at-clause-unset c = λ i from within.
    ap (λ bits. slice_index_or bits i false) (sym c.self.view_is) ∙ past-bits_of c.self.inside.words.items c.self.inside.len i (let past = c.if-self-at.true in omega arith)

pub returns-then-words-first-clause-unset : goal.returns-then-words-first-clause-unset
returns-then-words-first-clause-unset c = λ i from within.
    let words = c.self.inside.words.items in let len = c.self.inside.len in
    let behind : slice_index_or words (i / 64) 0 ≡ 0 = get_or_past words (i / 64) 0 (omega (arith, from, c.if-words-first.true, ap length c.as_slice-words.ensures.value)) in
    ap (λ bits. slice_index_or bits i false) (sym c.self.view_is) ∙ unset-bits_of words len i behind

pub returns-clause-unset : goal.returns-clause-unset
returns-clause-unset c = λ i from within.
    let words = c.self.inside.words.items in let len = c.self.inside.len in
    elim (cases_lt c.args.at i) [
      | inl far ↦
          let same : slice_index_or c.as_slice-words.result.now (i / 64) 0 ≡ slice_index_or words (i / 64) 0 = ap (λ ws. slice_index_or ws (i / 64) 0) c.as_slice-words.ensures.value in
          let below : i / 64 < c.next_word-word.result = search (arith, c.max.ensures, within, far) in
          ap (λ bits. slice_index_or bits i false) (sym c.self.view_is)
          ∙ unset-bits_of words len i (sym same ∙ c.next_word-word.ensures.zero (i / 64) (omega (arith, from)) below)
      | inr here ↦ subst (λ j. slice_index_or c.args.self.now j false ≡ false) (let e : c.args.at ≡ i = omega arith in e) c.requires.unset
    ]
