use Rattle.std.proofs.Common.{[], ◌∷◌, ◌++◌, sym, ◌∙◌, ap}
use Rattle.image_device.proofs.Outcomes.{unless_err}
use Rattle.mirror_device.specs.declared.entry.LogEntry.TheVariants.{Write}
use Rattle.mirror_device.specs.MemSide.{written}
use Rattle.mirror_device.specs.History.{on}
use Rattle.mirror_device.specs.Pair.{pair_view}
use Rattle.mirror_device.specs.Twins.{log_entries}
use Rattle.mirror_device.proofs.Pushes.{goes_agreeing, kept_entries}
use Rattle.mirror_device.proofs.twins.Twins.write.Goals as goal

pub invariant_of-self-2 : goal.invariant_of-self-2
invariant_of-self-2 c =
    let m = c.args.self.now in
    let entry = Write c.args.side c.args.sector c.in_ok-bytes.bytes in
    record {
      agrees = goes_agreeing (log_entries m) _ (pair_view m.pair) (pair_view c.write.new.self) entry
          (kept_entries m.log.items c.keep.new.log.items m.lapse entry c.in_ok-make_room.ensures.whole (c.keep.ensures ∙ ap (λ l. l ++ entry ∷ []) c.make_room.ensures.items)) m.agrees
          (unless_err c.write.result c.is_err.result c.if-is_err.false c.is_err.ensures.value c.write.ensures.done ∙ ap (λ b. on c.args.side (written c.args.sector b) (pair_view m.pair)) (sym c.in_ok-bytes.ensures.ok));
    }
