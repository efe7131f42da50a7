use Rattle.std.proofs.Common.{◌≡◌, ◌++◌, [], ◌∷◌, ◌∙◌, ap, rules}
use Rattle.image_device.specs.declared.event.Event.TheVariants.{Sync}
use Rattle.image_device.specs.declared.mem.MemStation.{MemStation}
use Rattle.image_device.specs.Cells.{begun}
use Rattle.image_device.specs.MemStation.{found_in}
use Rattle.image_device.proofs.Cells.{synced_agrees, more_whole}
use Rattle.image_device.proofs.Pushes.{settles_not, settles}
use Rattle.image_device.proofs.mem.MemStationDevice.sync.Goals as goal

pub returns-then-is_failing-clause-settles : goal.returns-then-is_failing-clause-settles
returns-then-is_failing-clause-settles c =
    let counted = c.is_failing.ensures.counted in
    settles_not (begun (found_in c.args.self.now)) c.args.self.now.log.items _ _ _ _ _ _ _ (ap (λ (m : MemStation). begun (found_in m)) counted) _ (ap (λ (m : MemStation). m.log.items) counted)

pub returns-then-is_err-clause-settles : goal.returns-then-is_err-clause-settles
returns-then-is_err-clause-settles c =
    let counted = c.is_failing.ensures.counted in
    let same : c.push.new.self.items ≡ c.is_failing.new.self.log.items = search rules in
    settles_not (begun (found_in c.args.self.now)) c.args.self.now.log.items _ _ _ _ _ _ _ (ap (λ (m : MemStation). begun (found_in m)) counted) _ (same ∙ ap (λ (m : MemStation). m.log.items) counted)

pub invariant_of-self-2-clause-whole : goal.invariant_of-self-2-clause-whole
invariant_of-self-2-clause-whole c =
    let m = c.is_failing.new.self in
    let is : c.push.new.self.items ≡ m.log.items ++ Sync ∷ [] = search rules in
    more_whole (found_in m) m.log.items _ Sync is m.whole

pub invariant_of-self-2-clause-agrees : goal.invariant_of-self-2-clause-agrees
invariant_of-self-2-clause-agrees c =
    let m = c.is_failing.new.self in
    let is : c.push.new.self.items ≡ m.log.items ++ Sync ∷ [] = search rules in
    synced_agrees (found_in m) m.log.items _ m.synced m.sent.items is m.whole m.agrees _ (search rules)

pub returns-clause-settles : goal.returns-clause-settles
returns-clause-settles c =
    let counted = c.is_failing.ensures.counted in
    let is : c.push.new.self.items ≡ c.is_failing.new.self.log.items ++ Sync ∷ [] = search rules in
    settles (begun (found_in c.args.self.now)) c.args.self.now.log.items _ _ _ _ _ _ _ (ap (λ (m : MemStation). begun (found_in m)) counted) _ (is ∙ ap (λ (m : MemStation). m.log.items ++ Sync ∷ []) counted)
