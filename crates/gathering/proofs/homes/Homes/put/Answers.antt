use Rattle.std.proofs.Common.{◌≡◌, ◌∙◌, ⊎_elim, List, Some, None, sym, ap, position}
use Rattle.image_layout.specs.declared.offset.Patch.{Patch}
use Rattle.intent_journal.proofs.Puts.{has_its_home, put_held, put_new}
use Rattle.gathering.proofs.homes.Homes.put.Goals as goal

pub push-requires : goal.push-requires
push-requires c =
    let p : Patch = record { sector = c.args.sector; bytes = c.args.bytes.now } in
    let ps : List Patch = c.args.self.now.patches.items in
    let at : position (has_its_home p) ps ≡ None = ap (position (has_its_home p)) (sym c.as_slice.ensures.value) ∙ sym c.index_of.ensures ∙ c.in-None.is in
    let absent = (put_new p ps at).1 in
    ⊎_elim (λ held. absurd (cc)) (λ less. less) c.requires

pub returns-in-Some : goal.returns-in-Some
returns-in-Some c =
    let p : Patch = record { sector = c.args.sector; bytes = c.args.bytes.now } in
    let ps : List Patch = c.args.self.now.patches.items in
    let at : position (has_its_home p) ps ≡ Some c.in-Some.index = ap (position (has_its_home p)) (sym c.as_slice.ensures.value) ∙ sym c.index_of.ensures ∙ c.in-Some.is in
    c.replace.ensures ∙ sym (put_held p ps c.in-Some.index at).0

pub returns-in-None : goal.returns-in-None
returns-in-None c =
    let p : Patch = record { sector = c.args.sector; bytes = c.args.bytes.now } in
    let ps : List Patch = c.args.self.now.patches.items in
    let at : position (has_its_home p) ps ≡ None = ap (position (has_its_home p)) (sym c.as_slice.ensures.value) ∙ sym c.index_of.ensures ∙ c.in-None.is in
    c.push.ensures ∙ sym (put_new p ps at).0
