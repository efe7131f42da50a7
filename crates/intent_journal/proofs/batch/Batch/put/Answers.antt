use Rattle.std.proofs.Common.{◌≡◌, inl, ◌<◌, List, length, sym, ◌∙◌, ap, arith, length-set, position, Some, None}
use Rattle.intent_journal.proofs.Common.{IsSector, Patch, bodies}
use Rattle.intent_journal.proofs.Bools.{equal_numbers, still_room}
use Rattle.intent_journal.proofs.Puts.{has_its_home, put_held, put_new, batch_held, batch_new}
use Rattle.intent_journal.proofs.batch.Batch.put.Goals as goal

pub returns-in-Some-clause-batch : goal.returns-in-Some-clause-batch
returns-in-Some-clause-batch c =
    let p : Patch = record { sector = c.args.sector; bytes = c.args.bytes.now } in
    let ps : List Patch = c.self.inside.patches in
    let whole : IsSector c.args.bytes.now = record { size = c.told-bytes; each = c.fits-bytes } in
    let at : position (has_its_home p) ps ≡ Some c.in-Some.index = ap (position (has_its_home p)) (sym c.as_slice.ensures.value) ∙ sym c.index_of.ensures ∙ c.in-Some.is in
    let held = put_held p ps c.in-Some.index at in
    rw (c.replace.ensures, ← held.0) (batch_held p ps c.self.invariant whole held.1 (omega (arith, c.self.invariant.most, ap length held.0, length-set ps c.in-Some.index p)))

pub invariant_of-self : goal.invariant_of-self
invariant_of-self c = returns-in-Some-clause-batch c

pub returns-in-Some-clause-ok : goal.returns-in-Some-clause-ok
returns-in-Some-clause-ok c =
    let p : Patch = record { sector = c.args.sector; bytes = c.args.bytes.now } in
    let ps : List Patch = c.self.inside.patches in
    let at : position (has_its_home p) ps ≡ Some c.in-Some.index = ap (position (has_its_home p)) (sym c.as_slice.ensures.value) ∙ sym c.index_of.ensures ∙ c.in-Some.is in
    rw (← c.self.view_is) (c.replace.ensures ∙ sym (put_held p ps c.in-Some.index at).0)

pub returns-in-Some-clause-room : goal.returns-in-Some-clause-room
returns-in-Some-clause-room c =
    let p : Patch = record { sector = c.args.sector; bytes = c.args.bytes.now } in
    let ps : List Patch = c.self.inside.patches in
    let at : position (has_its_home p) ps ≡ Some c.in-Some.index = ap (position (has_its_home p)) (sym c.as_slice.ensures.value) ∙ sym c.index_of.ensures ∙ c.in-Some.is in
    rw (← c.self.view_is) (inl (put_held p ps c.in-Some.index at).1)

pub returns-then-is_full-clause-full : goal.returns-then-is_full-clause-full
returns-then-is_full-clause-full c =
    let p : Patch = record { sector = c.args.sector; bytes = c.args.bytes.now } in
    let ps : List Patch = c.self.inside.patches in
    let at : position (has_its_home p) ps ≡ None = ap (position (has_its_home p)) (sym c.as_slice.ensures.value) ∙ sym c.index_of.ensures ∙ c.in-None.is in
    rw (← c.self.view_is) ((put_new p ps at).1, equal_numbers (length ps) bodies (sym c.is_full.ensures ∙ c.if-is_full.true))

pub returns-else-is_full-clause-batch : goal.returns-else-is_full-clause-batch
returns-else-is_full-clause-batch c =
    let p : Patch = record { sector = c.args.sector; bytes = c.args.bytes.now } in
    let ps : List Patch = c.self.inside.patches in
    let whole : IsSector c.args.bytes.now = record { size = c.told-bytes; each = c.fits-bytes } in
    let at : position (has_its_home p) ps ≡ None = ap (position (has_its_home p)) (sym c.as_slice.ensures.value) ∙ sym c.index_of.ensures ∙ c.in-None.is in
    let new = put_new p ps at in
    let room : length ps < bodies = still_room (length ps) bodies c.self.invariant.most (sym c.is_full.ensures ∙ c.if-is_full.false) in
    rw (c.push.ensures, ← new.0) (batch_new p ps c.self.invariant c.requires whole room new.1 new.0)

pub invariant_of-self-in-None : goal.invariant_of-self-in-None
invariant_of-self-in-None c = returns-else-is_full-clause-batch c

pub returns-else-is_full-clause-ok : goal.returns-else-is_full-clause-ok
returns-else-is_full-clause-ok c =
    let p : Patch = record { sector = c.args.sector; bytes = c.args.bytes.now } in
    let ps : List Patch = c.self.inside.patches in
    let at : position (has_its_home p) ps ≡ None = ap (position (has_its_home p)) (sym c.as_slice.ensures.value) ∙ sym c.index_of.ensures ∙ c.in-None.is in
    rw (← c.self.view_is) (c.push.ensures ∙ sym (put_new p ps at).0)
