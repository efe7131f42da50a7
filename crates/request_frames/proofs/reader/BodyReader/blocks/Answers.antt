use Rattle.std.proofs.Common.{◌≡◌, ◌≢◌, ◌++◌, ◌∷◌, [], ◌≤◌, length, sym, ◌∙◌, ap, arith, rules, List, ℕ}
use Rattle.std.specs.Prelude.{option_map}
use Rattle.std.proofs.lemmas.Grind.{common_steps}
use Rattle.tsd_model.specs.Step.{targets_max}
use Rattle.request_frames.specs.Reading.{numbers_of}
use Rattle.request_frames.proofs.BlocksLaws.{number_more, number_none, onto_last, all_read, none_read, many_read}
use Rattle.request_frames.proofs.reader.BodyReader.blocks.Goals as goal

pub returns-in_err-block : goal.returns-in_err-block
returns-in_err-block c =
    let some : c.loop-self.self ≢ [] = search rules in
    c.from_residual.ensures ∙ sym (none_read c.args.self c.loop-self.blocks (c.loop-self.invariant.0 ∙ ap (option_map (λ ns. c.loop-self.blocks ++ ns)) (number_none c.loop-self.self c.in_err-block.ensures some)))

pub loop-self-smaller : goal.loop-self-smaller
loop-self-smaller c = (number_more c.loop-self.self c.in_ok-block.block c.number.new.self c.in_ok-block.ensures).1

pub loop-self-preserved : goal.loop-self-preserved
loop-self-preserved c =
    let pushed : c.push.new.self ≡ c.loop-self.blocks ++ c.in_ok-block.block ∷ [] = search rules in
    let room : length c.push.new.self ≤ targets_max = grind (arith, common_steps) in (
      c.loop-self.invariant.0
          ∙ ap (option_map (λ ns. c.loop-self.blocks ++ ns)) (number_more c.loop-self.self c.in_ok-block.block c.number.new.self c.in_ok-block.ensures).0
          ∙ onto_last c.loop-self.blocks c.in_ok-block.block (numbers_of c.number.new.self)
          ∙ ap (λ (bs : List ℕ). option_map (λ ns. bs ++ ns) (numbers_of c.number.new.self)) (sym pushed),
      room,
    )

pub returns-then-is_err : goal.returns-then-is_err
returns-then-is_err c =
    let many : targets_max ≤ length c.loop-self.blocks = grind (arith, common_steps) in
    sym (many_read c.args.self c.loop-self.blocks c.in_ok-block.block (numbers_of c.number.new.self)
    (c.loop-self.invariant.0 ∙ ap (option_map (λ ns. c.loop-self.blocks ++ ns)) (number_more c.loop-self.self c.in_ok-block.block c.number.new.self c.in_ok-block.ensures).0) many)

pub returns : goal.returns
returns c =
    let none : c.loop-self.self ≡ [] = search rules in
    sym (all_read c.args.self c.loop-self.blocks (c.loop-self.invariant.0 ∙ ap (λ bs. option_map (λ ns. c.loop-self.blocks ++ ns) (numbers_of bs)) none) c.loop-self.invariant.1)
