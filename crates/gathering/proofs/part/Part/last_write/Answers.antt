use Rattle.std.proofs.Common.{◌≡◌, ◌∙◌, true, false, ℕ, List, Option, sym, ap}
use Rattle.std.specs.Prelude.{unwrap_or}
use Rattle.std.proofs.lemmas.Option.{IfSome_then}
use Rattle.intent_journal.specs.Home.{is_journal}
use Rattle.gathering.specs.Gathered.{cleared}
use Rattle.gathering.specs.Parts.{went_on}
use Rattle.gathering.proofs.Found.{if_none_then}
use Rattle.gathering.proofs.part.Part.last_write.Goals as goal

pub returns-then-is_of_journal-clause-none : goal.returns-then-is_of_journal-clause-none
returns-then-is_of_journal-clause-none g c =
    let inside : is_journal c.args.sector ≡ true = sym c.is_of_journal.ensures ∙ c.if-is_of_journal.true in
    let m = c.args.self.now in
    if_none_then c.get.result c.get.ensures.none (λ none.
    m.newest (went_on g.K.Going.start g.K.Going.batch) c.args.sector inside ∙ ap (λ (o : Option (List ℕ)). unwrap_or o ((went_on g.K.Going.start g.K.Going.batch).reads c.args.sector)) none
    ∙ m.closed c.args.sector inside)

pub returns-then-is_of_journal-clause-some : goal.returns-then-is_of_journal-clause-some
returns-then-is_of_journal-clause-some g c =
    let inside : is_journal c.args.sector ≡ true = sym c.is_of_journal.ensures ∙ c.if-is_of_journal.true in
    let m = c.args.self.now in
    IfSome_then c.get.result c.get.ensures.some (λ b is.
    m.newest (went_on g.K.Going.start g.K.Going.batch) c.args.sector inside ∙ ap (λ (o : Option (List ℕ)). unwrap_or o ((went_on g.K.Going.start g.K.Going.batch).reads c.args.sector)) is)

pub returns-clause-none : goal.returns-clause-none
returns-clause-none g c =
    let outside : is_journal c.args.sector ≡ false = sym c.is_of_journal.ensures ∙ c.if-is_of_journal.false in
    let m = c.args.self.now in
    if_none_then c.get-2.result c.get-2.ensures.none (λ stays. m.net c.args.sector outside ∙ stays (cleared g.K.Going.start.reads))

pub returns-clause-some : goal.returns-clause-some
returns-clause-some g c =
    let outside : is_journal c.args.sector ≡ false = sym c.is_of_journal.ensures ∙ c.if-is_of_journal.false in
    let m = c.args.self.now in
    IfSome_then c.get-2.result c.get-2.ensures.some (λ b is. m.net c.args.sector outside ∙ is (cleared g.K.Going.start.reads))
