use Rattle.std.proofs.Common.{◌≡◌, ◌+◌, [], ◌∷◌, length, refl, ap, ◌∙◌, arith}
use Rattle.std.specs.Prelude.{slice_index_or}
use Rattle.bit_array.proofs.BitLaws.{zero-behind}
use Rattle.bit_array.proofs.bits.touch.Goals as goal

pub loop-words-init : goal.loop-words-init
loop-words-init c = record { room = refl; same = λ k. refl }

pub push_reserved-requires : goal.push_reserved-requires
push_reserved-requires c = let room = c.loop-words.invariant.room in let inside = c.requires in omega arith

pub loop-words-smaller : goal.loop-words-smaller
loop-words-smaller c = let longer = c.push_reserved.ensures.len in omega arith

pub loop-words-preserved : goal.loop-words-preserved
loop-words-preserved c = record {
  room = c.push_reserved.ensures.capacity ∙ c.loop-words.invariant.room;
  same = λ k. ap (λ words. slice_index_or words k 0) c.push_reserved.ensures.items ∙ (zero-behind c.loop-words.words.items k ∙ c.loop-words.invariant.same k);
}
