use Rattle.std.proofs.Common.{◌≡◌, ℕ, List, ◌+◌, ◌*◌, ◌≤◌, sym, ◌∙◌, ap, subst, arith}
use Rattle.std.specs.Prelude.{length}
use Rattle.tsd_core.proofs.Common.{IsLawful, chosen, chosen_run, run_at, with_new_blocks, AreLike, with_sessions, told_by, world_on, owed, LeavesOwed, batch_cost, zeroed_cost, due, world_after, Core, IsCoreAt, cost_of, DoesRequest, IsKnown, IsCarriedOut, left_in, AreNumbers, chosen_like, chosen_run_like, chosen_are_free, chosen_run_is_free, dropped_each, HasBatches, HasNewBlocks}
use Rattle.tsd_model.specs.declared.replies.Reply.TheVariants as reply
use Rattle.tsd_model.specs.declared.requests.Request.TheVariants as ask
use Rattle.tsd_core.proofs.FormLaws.{free_numbers}
use Rattle.tsd_core.proofs.AtLaws.{at_volume, like_at}
use Rattle.tsd_core.proofs.Likes.{like_as, sectors_of_blocks, zeroed_more, due_more}
use Rattle.tsd_core.proofs.Choosing.{few_chosen, few_in_run}
use Rattle.tsd_core.proofs.Operations.{then_ok, if_ok, at_most, most_due, paid_more, carried_out, same_change, other_names}
use Rattle.intent_journal.specs.Records.{JournalRecord}
use Rattle.tsd_core.proofs.disk.Core.grow.Goals as goal

pub returns-clause-alloc : goal.returns-clause-alloc
returns-clause-alloc g c = λ kind session shown h count picked.
    let old : Core = record { volume = c.self.inside.volume; grants = c.self.inside.grants } in
    let new : Core = record { volume = c.allocate-outcome.new.self; grants = c.drop_at.new.grants } in
    let v = g.D.Device.view c.args.dev.now in
    let w = g.D.Device.view c.allocate-outcome.new.dev in
    let q = ask.Alloc session c.args.source shown h count in
    let t = told_by old.volume in
    let e = c.allocate-outcome.ensures in
    let known : IsKnown old.volume = subst (λ (x : Core). IsKnown x.volume) (sym c.self.view_is) c.requires.known in
    let like : g.D.Device.told → AreLike t (world_on v) = λ told. like_at old.volume v (at_volume old v (subst (λ (x : Core). IsCoreAt x v) (sym c.self.view_is) (c.requires.at told))) in
    let bs = c.args.new_blocks in
    let pick : bs ≡ chosen kind t h count = subst (λ (x : Core). bs ≡ chosen kind (told_by x.volume) h count) (sym c.self.view_is) picked in
    let there : g.D.Device.told → bs ≡ chosen kind (world_on v) h count = λ told. pick ∙ chosen_like t (world_on v) (like told) kind h count in
    let lawful : IsLawful old.volume.tables.geometry = subst IsLawful known.geometry known.sized.lawful in
    let fit = sectors_of_blocks old.volume.tables.geometry (length bs) lawful c.requires.new.few in
    let size = old.volume.tables.geometry.sectors * length bs in
    let bounds : size + batch_cost (3 * length bs) ≤ 460 = omega (arith, fit, c.requires.new.few) in
    let few : length bs ≤ count = subst (λ (ns : List ℕ). length ns ≤ count) (sym pick) (few_chosen kind t h count) in
    let n : ℕ = due old.volume + (size + batch_cost (3 * length bs)) in
    let does : DoesRequest g.D.Device.told kind q old.volume new.volume v w c.allocate-outcome.result = record {
      like = then_ok c.allocate-outcome.result (λ (same : told_by new.volume ≡ with_new_blocks t c.args.source bs). like_as (told_by new.volume) (world_after kind t q) (same ∙ ap (with_new_blocks t c.args.source) pick)) e.told;
      ready = e.ready;
      once = λ b. absurd (cc);
      owes = e.settled;
      grown = λ b. then_ok c.allocate-outcome.result (λ ring. subst (λ (ns : List ℕ). (mid : List JournalRecord) × HasBatches (owed old.volume.tables) 33 old.volume.ring mid × HasNewBlocks old.volume.tables.geometry ns mid new.volume.ring) pick ring) e.ring;
      rests = λ told b. absurd (cc);
      version = e.version;
      operation = other_names bs _ pick (same_change g.D.Device.told _ _ old.volume new.volume v w c.allocate-outcome.result (λ told. ap (with_new_blocks (world_on v) c.args.source) (there told)) e.operation);
      any_owed = λ told b. subst (λ m. LeavesOwed v w m) (omega arith) (e.cost.any_owed told);
      paid = λ b. then_ok c.allocate-outcome.result (paid_more (size + batch_cost (3 * length bs)) (cost_of t q) old.volume new.volume v w (omega (arith, bounds))) e.cost.paid;
      most = λ b. most_due n (cost_of t q) old.volume v w e.cost.uses (omega (arith, bounds));
      limit = λ b. at_most n (600 + 12 * owed old.volume.tables) v w e.cost.uses (omega (arith, bounds, known.ring));
      new_paid = λ b. then_ok c.allocate-outcome.result (paid_more (size + batch_cost (3 * length bs)) (zeroed_cost old.volume.tables.geometry count) old.volume new.volume v w (zeroed_more old.volume.tables.geometry (length bs) count few)) e.cost.paid;
      new_most = λ b. most_due n (zeroed_cost old.volume.tables.geometry count) old.volume v w e.cost.uses (due_more (due old.volume) (size + batch_cost (3 * length bs)) (zeroed_cost old.volume.tables.geometry count) (zeroed_more old.volume.tables.geometry (length bs) count few));
      sweep_paid = λ b. absurd (cc);
      swept = λ b. absurd (cc);
    } in
    subst (λ (x : Core). IsCarriedOut g.D.Device.told kind q x new v w (left_in c.blocks-2.result c.blocks-2.new.into)) c.self.view_is
    (subst (IsCarriedOut g.D.Device.told kind q old new v w) (sym c.blocks-2.ensures)
    (carried_out g.D.Device.told kind q old new v w c.allocate-outcome.result (λ x. reply.Blocks bs) does (c.drop_at.ensures ∙ ap (λ cs. with_sessions old.grants (dropped_each cs old.grants.sessions)) (c.as_slice.ensures.value ∙ pick))
    (if_ok c.allocate-outcome.result (λ x e. ap reply.Blocks pick)) (λ x e. absurd (cc)) (λ told. if_ok c.allocate-outcome.result (λ x e. absurd (cc))) (if_ok c.allocate-outcome.result (λ x. record { body = (c.requires.new.some, c.requires.new.few); numbers = subst AreNumbers (sym pick) (free_numbers t (chosen kind t h count) known.sized (chosen_are_free kind t h count)) }))))

pub returns-clause-contig : goal.returns-clause-contig
returns-clause-contig g c = λ kind session shown h count picked.
    let old : Core = record { volume = c.self.inside.volume; grants = c.self.inside.grants } in
    let new : Core = record { volume = c.allocate-outcome.new.self; grants = c.drop_at.new.grants } in
    let v = g.D.Device.view c.args.dev.now in
    let w = g.D.Device.view c.allocate-outcome.new.dev in
    let q = ask.Contig session c.args.source shown h count in
    let t = told_by old.volume in
    let e = c.allocate-outcome.ensures in
    let known : IsKnown old.volume = subst (λ (x : Core). IsKnown x.volume) (sym c.self.view_is) c.requires.known in
    let like : g.D.Device.told → AreLike t (world_on v) = λ told. like_at old.volume v (at_volume old v (subst (λ (x : Core). IsCoreAt x v) (sym c.self.view_is) (c.requires.at told))) in
    let bs = c.args.new_blocks in
    let pick : bs ≡ run_at (chosen_run kind t h count) count = subst (λ (x : Core). bs ≡ run_at (chosen_run kind (told_by x.volume) h count) count) (sym c.self.view_is) picked in
    let there : g.D.Device.told → bs ≡ run_at (chosen_run kind (world_on v) h count) count = λ told. pick ∙ ap (λ o. run_at o count) (chosen_run_like t (world_on v) (like told) kind h count) in
    let lawful : IsLawful old.volume.tables.geometry = subst IsLawful known.geometry known.sized.lawful in
    let fit = sectors_of_blocks old.volume.tables.geometry (length bs) lawful c.requires.new.few in
    let size = old.volume.tables.geometry.sectors * length bs in
    let bounds : size + batch_cost (3 * length bs) ≤ 460 = omega (arith, fit, c.requires.new.few) in
    let few : length bs ≤ count = subst (λ (ns : List ℕ). length ns ≤ count) (sym pick) (few_in_run (chosen_run kind t h count) count) in
    let n : ℕ = due old.volume + (size + batch_cost (3 * length bs)) in
    let does : DoesRequest g.D.Device.told kind q old.volume new.volume v w c.allocate-outcome.result = record {
      like = then_ok c.allocate-outcome.result (λ (same : told_by new.volume ≡ with_new_blocks t c.args.source bs). like_as (told_by new.volume) (world_after kind t q) (same ∙ ap (with_new_blocks t c.args.source) pick)) e.told;
      ready = e.ready;
      once = λ b. absurd (cc);
      owes = e.settled;
      grown = λ b. then_ok c.allocate-outcome.result (λ ring. subst (λ (ns : List ℕ). (mid : List JournalRecord) × HasBatches (owed old.volume.tables) 33 old.volume.ring mid × HasNewBlocks old.volume.tables.geometry ns mid new.volume.ring) pick ring) e.ring;
      rests = λ told b. absurd (cc);
      version = e.version;
      operation = other_names bs _ pick (same_change g.D.Device.told _ _ old.volume new.volume v w c.allocate-outcome.result (λ told. ap (with_new_blocks (world_on v) c.args.source) (there told)) e.operation);
      any_owed = λ told b. subst (λ m. LeavesOwed v w m) (omega arith) (e.cost.any_owed told);
      paid = λ b. then_ok c.allocate-outcome.result (paid_more (size + batch_cost (3 * length bs)) (cost_of t q) old.volume new.volume v w (omega (arith, bounds))) e.cost.paid;
      most = λ b. most_due n (cost_of t q) old.volume v w e.cost.uses (omega (arith, bounds));
      limit = λ b. at_most n (600 + 12 * owed old.volume.tables) v w e.cost.uses (omega (arith, bounds, known.ring));
      new_paid = λ b. then_ok c.allocate-outcome.result (paid_more (size + batch_cost (3 * length bs)) (zeroed_cost old.volume.tables.geometry count) old.volume new.volume v w (zeroed_more old.volume.tables.geometry (length bs) count few)) e.cost.paid;
      new_most = λ b. most_due n (zeroed_cost old.volume.tables.geometry count) old.volume v w e.cost.uses (due_more (due old.volume) (size + batch_cost (3 * length bs)) (zeroed_cost old.volume.tables.geometry count) (zeroed_more old.volume.tables.geometry (length bs) count few));
      sweep_paid = λ b. absurd (cc);
      swept = λ b. absurd (cc);
    } in
    subst (λ (x : Core). IsCarriedOut g.D.Device.told kind q x new v w (left_in c.blocks-2.result c.blocks-2.new.into)) c.self.view_is
    (subst (IsCarriedOut g.D.Device.told kind q old new v w) (sym c.blocks-2.ensures)
    (carried_out g.D.Device.told kind q old new v w c.allocate-outcome.result (λ x. reply.Blocks bs) does (c.drop_at.ensures ∙ ap (λ cs. with_sessions old.grants (dropped_each cs old.grants.sessions)) (c.as_slice.ensures.value ∙ pick))
    (if_ok c.allocate-outcome.result (λ x e. ap reply.Blocks pick)) (λ x e. absurd (cc)) (λ told. if_ok c.allocate-outcome.result (λ x e. absurd (cc))) (if_ok c.allocate-outcome.result (λ x. record { body = (c.requires.new.some, c.requires.new.few); numbers = subst AreNumbers (sym pick) (free_numbers t (run_at (chosen_run kind t h count) count) known.sized (chosen_run_is_free kind t h count)) }))))
