use Rattle.std.proofs.Common.{◌≡◌, ◌∙◌, true, subst, arith}
use Rattle.std.specs.List.{list_all}
use Rattle.std.specs.Char.{is_ascii_digit}
use Rattle.std.specs.Str.Parse.{ParsesUnsigned}
use Rattle.std.proofs.lemmas.Str.{IsUtf8-from_ascii}
use Rattle.std.proofs.lemmas.Fmt.{IsAscii-from_digits}
use Rattle.script_text.proofs.WordLaws.{digits_are, parsed_is}
use Rattle.script_text.proofs.fields.parse_number.Goals as goal

pub returns-in-Ok : goal.returns-in-Ok
returns-in-Ok c =
    let digits : list_all is_ascii_digit c.args.word.now ≡ true = cc in
    c.ok.ensures.value ∙ parsed_is c.args.word.now c.parse.result digits (omega arith) (subst (λ w. ParsesUnsigned 32 10 w c.parse.result) c.in-Ok.ensures.cases.0 c.parse.ensures.value.0)

pub returns-in-Err : goal.returns-in-Err
returns-in-Err c =
    let digits : list_all is_ascii_digit c.args.word.now ≡ true = cc in
    absurd (c.in-Err.ensures.cases.0 (IsUtf8-from_ascii c.args.word.now (IsAscii-from_digits c.args.word.now (digits_are c.args.word.now digits))))
