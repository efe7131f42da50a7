use Rattle.std.proofs.Common.{◌≡◌, ◌-◌, Bool, true, false, [], ◌∷◌, length, refl, sym, ap, ◌∙◌, arith, length-append}
use Rattle.std.specs.Prelude.{option_map}
use Rattle.fs_trees.specs.Names.{is_name}
use Rattle.shell_text.specs.FileReading.{names_at}
use Rattle.shell_text.proofs.BodyLaws.{before, name_goes, names_end}
use Rattle.shell_text.proofs.body.read_names.Goals as goal

pub loop-more-preserved : goal.loop-more-preserved
loop-more-preserved c =
    let w = c.in_ok-word.word.now in
    let path = c.loop-more.path in
    let more = c.loop-more.more in
    let pushed = c.in-Ok.ensures in
    record {
      left = c.loop-more.invariant.left
          ∙ (name_goes w c.loop-more.reader c.read_word.new.reader c.in_ok-word.ensures path more c.loop-more-test.true (pushed.variant.0 refl).1
          ∙ ap (λ p. option_map (before p) (names_at (more - 1) c.read_word.new.reader)) (sym pushed.ok));
      counted = omega (arith, ap length pushed.ok, length-append path (w ∷ []), c.loop-more.invariant.counted, c.loop-more-test.true);
    }

pub returns-in-Err : goal.returns-in-Err
returns-in-Err c =
    let w = c.in_ok-word.word.now in
    let more = c.loop-more.more in
    let no_name : (t : Bool) → is_name w ≡ t → is_name w ≡ false = λ t. elim t as (λ k. is_name w ≡ k → is_name w ≡ false) [
      | true ↦ λ is. (let ok = c.in-Err.ensures.variant.1 (omega (arith, c.loop-more.invariant.counted, c.loop-more-test.true, c.requires), is) in absurd (cc))
      | false ↦ λ is. is
    ] in
    c.loop-more.invariant.left
    ∙ ap (option_map (before c.loop-more.path)) (names_end w c.loop-more.reader c.read_word.new.reader c.in_ok-word.ensures more c.loop-more-test.true (no_name (is_name w) refl))
