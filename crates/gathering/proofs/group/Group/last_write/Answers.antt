use Rattle.std.proofs.Common.{◌≡◌, ◌∙◌, true, false, ℕ, List, Option, sym, ap, subst}
use Rattle.std.specs.Prelude.{unwrap_or}
use Rattle.std.proofs.lemmas.Option.{IfSome_then}
use Rattle.image_layout.specs.declared.offset.Patch.{Patch}
use Rattle.intent_journal.specs.Batch.{IsBatch}
use Rattle.intent_journal.specs.Home.{overlaid, is_journal}
use Rattle.gathering.proofs.Found.{if_none_then}
use Rattle.gathering.proofs.group.Group.last_write.Goals as goal

pub returns-then-is_of_journal-clause-none : goal.returns-then-is_of_journal-clause-none
returns-then-is_of_journal-clause-none c =
    let inside : is_journal c.args.sector ≡ true = sym c.is_of_journal.ensures ∙ c.if-is_of_journal.true in
    if_none_then c.get.result c.get.ensures.none (λ none s.
    c.args.self.now.newest s c.args.sector inside ∙ ap (λ (o : Option (List ℕ)). unwrap_or o (s.reads c.args.sector)) none)

pub returns-then-is_of_journal-clause-some : goal.returns-then-is_of_journal-clause-some
returns-then-is_of_journal-clause-some c =
    let inside : is_journal c.args.sector ≡ true = sym c.is_of_journal.ensures ∙ c.if-is_of_journal.true in
    IfSome_then c.get.result c.get.ensures.some (λ b is s.
    c.args.self.now.newest s c.args.sector inside ∙ ap (λ (o : Option (List ℕ)). unwrap_or o (s.reads c.args.sector)) is)

pub get-requires-2 : goal.get-requires-2
get-requires-2 c = let batch = subst (λ (b : List Patch). IsBatch b) (sym c.args.self.now.same) c.len-length.ensures.batch in batch.distinct

pub returns-clause-none : goal.returns-clause-none
returns-clause-none c =
    let outside : is_journal c.args.sector ≡ false = sym c.is_of_journal.ensures ∙ c.if-is_of_journal.false in
    if_none_then c.get-2.result c.get-2.ensures.none (λ stays s.
    c.args.self.now.net s c.args.sector outside ∙ ap (λ (b : List Patch). overlaid b s.reads c.args.sector) (sym c.args.self.now.same) ∙ stays s.reads)

pub returns-clause-some : goal.returns-clause-some
returns-clause-some c =
    let outside : is_journal c.args.sector ≡ false = sym c.is_of_journal.ensures ∙ c.if-is_of_journal.false in
    IfSome_then c.get-2.result c.get-2.ensures.some (λ b is s.
    c.args.self.now.net s c.args.sector outside ∙ ap (λ (b : List Patch). overlaid b s.reads c.args.sector) (sym c.args.self.now.same) ∙ is s.reads)
