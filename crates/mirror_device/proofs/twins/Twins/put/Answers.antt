use Rattle.std.proofs.Common.{rules, [], ◌∷◌, ◌++◌, sym, ◌∙◌, ap}
use Rattle.mirror_device.specs.declared.entry.LogEntry.TheVariants.{Put}
use Rattle.mirror_device.specs.History.{appended}
use Rattle.mirror_device.specs.Pair.{pair_view}
use Rattle.mirror_device.specs.Twins.{log_entries}
use Rattle.mirror_device.proofs.Pushes.{goes_agreeing, kept_entries}
use Rattle.mirror_device.proofs.twins.Twins.put.Goals as goal

pub invariant_of-self-2 : goal.invariant_of-self-2
invariant_of-self-2 c =
    let m = c.args.self.now in
    let entry = Put c.in_ok-kept.kept in
    record {
      agrees = goes_agreeing (log_entries m) _ (pair_view m.pair) (pair_view c.put.new.self) entry
          (kept_entries m.log.items c.keep.new.log.items m.lapse entry c.in_ok-make_room.ensures.whole (c.keep.ensures ∙ ap (λ l. l ++ entry ∷ []) c.make_room.ensures.items)) m.agrees
          (c.in_ok-put.ensures.done ∙ ap (λ b. appended b (pair_view m.pair)) (sym (search rules)));
    }

pub returns-clause-kept : goal.returns-clause-kept
returns-clause-kept c =
    let m = c.args.self.now in
    let entry = Put c.in_ok-kept.kept in
    (c.in_ok-kept.kept, (search rules), kept_entries m.log.items c.keep.new.log.items m.lapse entry c.in_ok-make_room.ensures.whole (c.keep.ensures ∙ ap (λ l. l ++ entry ∷ []) c.make_room.ensures.items))
