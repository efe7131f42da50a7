use Rattle.std.proofs.Common.{◌≡◌, ◌∙◌, refl, sym, subst, ap, List, ℕ, true, false, rules, length}
use Rattle.image_device.specs.Image.{IsSector}
use Rattle.image_device.specs.declared.event.Event.TheVariants.{Write}
use Rattle.image_device.proofs.Pushes.{touches, written, loose}
use Rattle.image_layout.specs.declared.offset.Patch.{Patch}
use Rattle.intent_journal.specs.Batch.{with_patch}
use Rattle.intent_journal.specs.Home.{is_journal}
use Rattle.intent_journal.specs.Homes.{is_lawful_home}
use Rattle.gathering.specs.Parts.{went_on, IsNetOver}
use Rattle.gathering.proofs.BelowLaws.{touches_in_part}
use Rattle.gathering.proofs.Events.{journal_apart, journal_written}
use Rattle.gathering.proofs.PartLaws.{apart_homes, few_more, net_of_home, net_of_journal, never_full, stray_kept, stray_now, whole_write, with_one, with_room}
use Rattle.gathering.proofs.part.PartDevice.write.Goals as goal

-- of the journal
pub invariant_of-self-clause-newest : goal.invariant_of-self-clause-newest
invariant_of-self-clause-newest g c =
    let m = c.args.self.now in
    let also = c.with_write-self.ensures in
    let inside : is_journal c.args.sector ≡ true = sym c.is_of_journal.ensures ∙ c.if-is_of_journal.true in
    journal_written m.past.events _ c.args.sector also.0 also.2 m.journal.last.items _ c.args.from.now also.1 m.journal.size inside c.put.ensures m.newest

pub invariant_of-self-clause-net : goal.invariant_of-self-clause-net
invariant_of-self-clause-net g c =
    let m = c.args.self.now in
    let also = c.with_write-self.ensures in
    let inside : is_journal c.args.sector ≡ true = sym c.is_of_journal.ensures ∙ c.if-is_of_journal.true in
    net_of_journal g.K.Going.start g.K.Going.batch m.past.events _ c.args.sector also.0 also.2 m.homes.patches.items inside m.net

pub invariant_of-self-clause-stray : goal.invariant_of-self-clause-stray
invariant_of-self-clause-stray g c had =
    let m = c.args.self.now in
    let also = c.with_write-self.ensures in
    stray_kept m.past.events _ (Write c.args.sector also.0) also.2 (m.stray had)

pub invariant_of-self-clause-whole : goal.invariant_of-self-clause-whole
invariant_of-self-clause-whole g c =
    let m = c.args.self.now in
    let also = c.with_write-self.ensures in
    let sector : IsSector c.args.from.now = record { size = c.told-from; each = c.fits-from } in
    whole_write m.past.events _ c.args.sector also.0 also.2 m.whole (subst (λ (b : List ℕ). IsSector b) (sym also.1) sector)

pub returns-then-is_of_journal-clause-loose : goal.returns-then-is_of_journal-clause-loose
returns-then-is_of_journal-clause-loose g c told =
    let m = c.args.self.now in
    let also = c.with_write-self.ensures in
    let base = went_on g.K.Going.start g.K.Going.batch in
    loose base m.past.events 0 0 0 0 0 0 c.args.sector also.0 base refl _ also.2

pub returns-then-is_of_journal-clause-touches : goal.returns-then-is_of_journal-clause-touches
returns-then-is_of_journal-clause-touches g c told =
    let m = c.args.self.now in
    let also = c.with_write-self.ensures in
    let base = went_on g.K.Going.start g.K.Going.batch in
    touches_in_part g.K.Going.start g.K.Going.batch (g.P.Device.view m.dev.now) m.past.events _ _ _ _ _ c.args.sector
    (touches base m.past.events _ _ _ _ _ _ c.args.sector also.0 base refl _ also.2)

-- of a sector that no batch may hold
pub invariant_of-self-then-not-is_lawful_home-clause-newest : goal.invariant_of-self-then-not-is_lawful_home-clause-newest
invariant_of-self-then-not-is_lawful_home-clause-newest g c =
    let m = c.args.self.now in
    let also = c.with_write-self-then-not-is_lawful_home.ensures in
    let outside : is_journal c.args.sector ≡ false = sym c.is_of_journal.ensures ∙ c.if-is_of_journal.false in
    journal_apart m.past.events _ c.args.sector also.0 also.2 m.journal.last.items outside m.newest

pub invariant_of-self-then-not-is_lawful_home-clause-net : goal.invariant_of-self-then-not-is_lawful_home-clause-net
invariant_of-self-then-not-is_lawful_home-clause-net g c =
    let m = c.args.self.now in
    let also = c.with_write-self-then-not-is_lawful_home.ensures in
    subst (λ (l : List Patch). IsNetOver g.K.Going.start g.K.Going.batch c.with_write-self-then-not-is_lawful_home.result.events l) (sym c.put-then-not-is_lawful_home.ensures)
    (net_of_home g.K.Going.start g.K.Going.batch m.past.events _ c.args.sector also.0 also.2 m.homes.patches.items c.args.from.now m.apart also.1 m.net)

pub invariant_of-self-then-not-is_lawful_home-clause-apart : goal.invariant_of-self-then-not-is_lawful_home-clause-apart
invariant_of-self-then-not-is_lawful_home-clause-apart g c =
    let m = c.args.self.now in
    apart_homes c.args.sector c.args.from.now m.homes.patches.items _ c.put-then-not-is_lawful_home.ensures m.apart

pub invariant_of-self-then-not-is_lawful_home-clause-whole : goal.invariant_of-self-then-not-is_lawful_home-clause-whole
invariant_of-self-then-not-is_lawful_home-clause-whole g c =
    let m = c.args.self.now in
    let also = c.with_write-self-then-not-is_lawful_home.ensures in
    let sector : IsSector c.args.from.now = record { size = c.told-from; each = c.fits-from } in
    whole_write m.past.events _ c.args.sector also.0 also.2 m.whole (subst (λ (b : List ℕ). IsSector b) (sym also.1) sector)

pub returns-then-not-is_lawful_home-clause-written : goal.returns-then-not-is_lawful_home-clause-written
returns-then-not-is_lawful_home-clause-written g c told =
    let m = c.args.self.now in
    let also = c.with_write-self-then-not-is_lawful_home.ensures in
    let base = went_on g.K.Going.start g.K.Going.batch in
    written base m.past.events 0 0 0 0 0 0 c.args.sector also.0 base refl _ also.2 ∙ also.1

pub returns-then-not-is_lawful_home-clause-loose : goal.returns-then-not-is_lawful_home-clause-loose
returns-then-not-is_lawful_home-clause-loose g c told =
    let m = c.args.self.now in
    let also = c.with_write-self-then-not-is_lawful_home.ensures in
    let base = went_on g.K.Going.start g.K.Going.batch in
    loose base m.past.events 0 0 0 0 0 0 c.args.sector also.0 base refl _ also.2

pub returns-then-not-is_lawful_home-clause-touches : goal.returns-then-not-is_lawful_home-clause-touches
returns-then-not-is_lawful_home-clause-touches g c told =
    let m = c.args.self.now in
    let also = c.with_write-self-then-not-is_lawful_home.ensures in
    let base = went_on g.K.Going.start g.K.Going.batch in
    touches_in_part g.K.Going.start g.K.Going.batch (g.P.Device.view m.dev.now) m.past.events _ _ _ _ _ c.args.sector
    (touches base m.past.events _ _ _ _ _ _ c.args.sector also.0 base refl _ also.2)

-- of another one
pub invariant_of-self-2-clause-newest : goal.invariant_of-self-2-clause-newest
invariant_of-self-2-clause-newest g c =
    let m = c.args.self.now in
    let also = c.with_write-self-2.ensures in
    let outside : is_journal c.args.sector ≡ false = sym c.is_of_journal.ensures ∙ c.if-is_of_journal.false in
    journal_apart m.past.events _ c.args.sector also.0 also.2 m.journal.last.items outside m.newest

pub invariant_of-self-2-clause-net : goal.invariant_of-self-2-clause-net
invariant_of-self-2-clause-net g c =
    let m = c.args.self.now in
    let also = c.with_write-self-2.ensures in
    subst (λ (l : List Patch). IsNetOver g.K.Going.start g.K.Going.batch c.with_write-self-2.result.events l) (sym c.put-2.ensures)
    (net_of_home g.K.Going.start g.K.Going.batch m.past.events _ c.args.sector also.0 also.2 m.homes.patches.items c.args.from.now m.apart also.1 m.net)

pub invariant_of-self-2-clause-apart : goal.invariant_of-self-2-clause-apart
invariant_of-self-2-clause-apart g c =
    let m = c.args.self.now in
    apart_homes c.args.sector c.args.from.now m.homes.patches.items _ c.put-2.ensures m.apart

pub invariant_of-self-2-clause-whole : goal.invariant_of-self-2-clause-whole
invariant_of-self-2-clause-whole g c =
    let m = c.args.self.now in
    let also = c.with_write-self-2.ensures in
    let sector : IsSector c.args.from.now = record { size = c.told-from; each = c.fits-from } in
    whole_write m.past.events _ c.args.sector also.0 also.2 m.whole (subst (λ (b : List ℕ). IsSector b) (sym also.1) sector)

pub returns-clause-written : goal.returns-clause-written
returns-clause-written g c told =
    let m = c.args.self.now in
    let also = c.with_write-self-2.ensures in
    let base = went_on g.K.Going.start g.K.Going.batch in
    written base m.past.events 0 0 0 0 0 0 c.args.sector also.0 base refl _ also.2 ∙ also.1

pub returns-clause-loose : goal.returns-clause-loose
returns-clause-loose g c told =
    let m = c.args.self.now in
    let also = c.with_write-self-2.ensures in
    let base = went_on g.K.Going.start g.K.Going.batch in
    loose base m.past.events 0 0 0 0 0 0 c.args.sector also.0 base refl _ also.2

pub returns-clause-touches : goal.returns-clause-touches
returns-clause-touches g c told =
    let m = c.args.self.now in
    let also = c.with_write-self-2.ensures in
    let base = went_on g.K.Going.start g.K.Going.batch in
    touches_in_part g.K.Going.start g.K.Going.batch (g.P.Device.view m.dev.now) m.past.events _ _ _ _ _ c.args.sector
    (touches base m.past.events _ _ _ _ _ _ c.args.sector also.0 base refl _ also.2)

pub invariant_of-self-then-not-is_lawful_home-clause-stray : goal.invariant_of-self-then-not-is_lawful_home-clause-stray
invariant_of-self-then-not-is_lawful_home-clause-stray g c had =
    let m = c.args.self.now in
    let also = c.with_write-self-then-not-is_lawful_home.ensures in
    let outside : is_journal c.args.sector ≡ false = sym c.is_of_journal.ensures ∙ c.if-is_of_journal.false in
    let unlawful : is_lawful_home c.args.sector ≡ false = search rules in
    stray_now m.past.events _ c.args.sector also.0 also.2 outside unlawful

pub invariant_of-self-2-clause-stray : goal.invariant_of-self-2-clause-stray
invariant_of-self-2-clause-stray g c had =
    let m = c.args.self.now in
    let also = c.with_write-self-2.ensures in
    stray_kept m.past.events _ (Write c.args.sector also.0) also.2 (m.stray had)

pub invariant_of-self-2-clause-same : goal.invariant_of-self-2-clause-same
invariant_of-self-2-clause-same g c un =
    let m = c.args.self.now in
    let p : Patch = record { sector = c.args.sector; bytes = c.args.from.now } in
    let room : c.has_room_for.result ≡ true = search rules in
    c.put-2.ensures ∙ ap (with_patch p) (m.same un)
    ∙ sym (never_full c.put-kept.result c.args.sector m.homes.patches.items m.batch _ (c.has_room_for.ensures.has room) (m.same un) c.put-kept.ensures.ok c.put-kept.ensures.full)

pub invariant_of-self-then-not-is_lawful_home-clause-few : goal.invariant_of-self-then-not-is_lawful_home-clause-few
invariant_of-self-then-not-is_lawful_home-clause-few g c =
    let m = c.args.self.now in
    let room : c.has_room_for.result ≡ true = search rules in
    let grown = with_one c.args.sector c.args.from.now m.homes.patches.items _ c.put-then-not-is_lawful_home.ensures in
    let most = with_room c.args.sector c.args.from.now m.homes.patches.items _ c.put-then-not-is_lawful_home.ensures (c.has_room_for.ensures.has room) m.most in
    few_more _ _ (length g.K.Going.batch) m.writes _ m.few grown most c.saturating_add-self.ensures

pub invariant_of-self-then-not-is_lawful_home-clause-most : goal.invariant_of-self-then-not-is_lawful_home-clause-most
invariant_of-self-then-not-is_lawful_home-clause-most g c =
    let m = c.args.self.now in
    let room : c.has_room_for.result ≡ true = search rules in
    with_room c.args.sector c.args.from.now m.homes.patches.items _ c.put-then-not-is_lawful_home.ensures (c.has_room_for.ensures.has room) m.most

pub invariant_of-self-2-clause-few : goal.invariant_of-self-2-clause-few
invariant_of-self-2-clause-few g c =
    let m = c.args.self.now in
    let room : c.has_room_for.result ≡ true = search rules in
    let grown = with_one c.args.sector c.args.from.now m.homes.patches.items _ c.put-2.ensures in
    let most = with_room c.args.sector c.args.from.now m.homes.patches.items _ c.put-2.ensures (c.has_room_for.ensures.has room) m.most in
    few_more _ _ (length g.K.Going.batch) m.writes _ m.few grown most c.saturating_add-self.ensures

pub invariant_of-self-2-clause-most : goal.invariant_of-self-2-clause-most
invariant_of-self-2-clause-most g c =
    let m = c.args.self.now in
    let room : c.has_room_for.result ≡ true = search rules in
    with_room c.args.sector c.args.from.now m.homes.patches.items _ c.put-2.ensures (c.has_room_for.ensures.has room) m.most
