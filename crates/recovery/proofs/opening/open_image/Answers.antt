use Rattle.std.proofs.Common.{refl, ◌∙◌, ap, sym, subst, arith, rules}
use Rattle.recovery.proofs.Common.{uses_and, Image, says_open, HasHead}
use Rattle.recovery.proofs.OpenRuns.{synced, read_still, opened_start, opened_sync, opened_head, opened_replay, replayed, loaded, opened_load, stood, opened_finish, opened_err, opened_device, is_device, quiet_uses, quiet_finish, quiet_paid, unwritten, owed_start, owed_sync, owed_head, owed_replay, owed_load, owed_finish, right_head}
use Rattle.recovery.proofs.OpenCosts.{costs_none, costs_start, uses_replay, costs_replay, uses_load, costs_finish, costs_paid}
use Rattle.recovery.proofs.SparedLaws.{spared_start, spared_sync, spared_head, spared_replay, spared_load, data_start_of, data_sync, data_head, data_replay, data_load, data_finish}
use Rattle.volume_laws.proofs.StepOps.{either_same}
use Rattle.recovery.proofs.opening.open_image.Goals as goal

pub returns-in_err-ring-clause-any_moment : goal.returns-in_err-ring-clause-any_moment
returns-in_err-ring-clause-any_moment g c told firm = opened_start _ (g.met.D.Device.sound c.args.dev.now told) firm

pub returns-in_err-sync-clause-any_moment : goal.returns-in_err-sync-clause-any_moment
returns-in_err-sync-clause-any_moment g c told firm = opened_sync _ _ (g.met.D.Device.sound c.args.dev.now told) firm (c.sync.ensures.settles told)

pub returns-in_err-header-clause-any_moment : goal.returns-in_err-header-clause-any_moment
returns-in_err-header-clause-any_moment g c told firm =
    opened_head _ _ _ (opened_sync _ _ (g.met.D.Device.sound c.args.dev.now told) firm (c.sync.ensures.settles told)) (synced _ _ (c.in_ok-sync.ensures.firm told) (c.sync.ensures.settles told)) (c.read_head.ensures.rests told)

pub returns-in_err-replay-clause-any_moment : goal.returns-in_err-replay-clause-any_moment
returns-in_err-replay-clause-any_moment g c told firm =
    let still = read_still _ _ _ (synced _ _ (c.in_ok-sync.ensures.firm told) (c.sync.ensures.settles told)) (c.read_head.ensures.rests told) in
    opened_replay _ _ _ (opened_head _ _ _ (opened_sync _ _ (g.met.D.Device.sound c.args.dev.now told) firm (c.sync.ensures.settles told)) (synced _ _ (c.in_ok-sync.ensures.firm told) (c.sync.ensures.settles told)) (c.read_head.ensures.rests told)) still (c.replay.ensures.any_moment told)

pub returns-in_err-replay-clause-unwritten : goal.returns-in_err-replay-clause-unwritten
returns-in_err-replay-clause-unwritten g c told quiet =
    let still = read_still _ _ _ (synced _ _ (c.in_ok-sync.ensures.firm told) (c.sync.ensures.settles told)) (c.read_head.ensures.rests told) in
    quiet_uses _ _ _ _ still quiet c.sync.ensures.uses c.read_head.ensures.uses (c.replay.ensures.needed told)

pub load-requires-clause-formatted : goal.load-requires-clause-formatted
load-requires-clause-formatted g c told =
    let still = read_still _ _ _ (synced _ _ (c.in_ok-sync.ensures.firm told) (c.sync.ensures.settles told)) (c.read_head.ensures.rests told) in
    let done = replayed _ _ _ still (c.in_ok-replay.ensures.at told) (c.in_ok-replay.ensures.done told) (c.in_ok-replay.ensures.valid told) (c.in_ok-replay.ensures.firm told) (c.replay.ensures.sent told) in
    done.agree.gate ∙ (ap (λ (r : Image). says_open (r 1)) (sym (c.sync.ensures.settles told).reads) ∙ (c.in_ok-header.ensures.head told).formatted)

pub returns-in_err-volume-clause-read : goal.returns-in_err-volume-clause-read
returns-in_err-volume-clause-read g c told =
    let still = read_still _ _ _ (synced _ _ (c.in_ok-sync.ensures.firm told) (c.sync.ensures.settles told)) (c.read_head.ensures.rests told) in
    let done = replayed _ _ _ still (c.in_ok-replay.ensures.at told) (c.in_ok-replay.ensures.done told) (c.in_ok-replay.ensures.valid told) (c.in_ok-replay.ensures.firm told) (c.replay.ensures.sent told) in
    opened_err _ _ _ c.from_residual-in_err-volume.result c.from_residual-in_err-volume.ensures.1 done (c.in_err-volume.ensures.read told)

pub returns-in_err-volume-clause-any_moment : goal.returns-in_err-volume-clause-any_moment
returns-in_err-volume-clause-any_moment g c told firm =
    let still = read_still _ _ _ (synced _ _ (c.in_ok-sync.ensures.firm told) (c.sync.ensures.settles told)) (c.read_head.ensures.rests told) in
    let done = replayed _ _ _ still (c.in_ok-replay.ensures.at told) (c.in_ok-replay.ensures.done told) (c.in_ok-replay.ensures.valid told) (c.in_ok-replay.ensures.firm told) (c.replay.ensures.sent told) in
    let far = opened_replay _ _ _ (opened_head _ _ _ (opened_sync _ _ (g.met.D.Device.sound c.args.dev.now told) firm (c.sync.ensures.settles told)) (synced _ _ (c.in_ok-sync.ensures.firm told) (c.sync.ensures.settles told)) (c.read_head.ensures.rests told)) still (c.replay.ensures.any_moment told) in
    opened_load _ _ _ far done (c.load.ensures.rests told)

pub returns-in_err-volume-clause-unwritten : goal.returns-in_err-volume-clause-unwritten
returns-in_err-volume-clause-unwritten g c told quiet =
    let still = read_still _ _ _ (synced _ _ (c.in_ok-sync.ensures.firm told) (c.sync.ensures.settles told)) (c.read_head.ensures.rests told) in
    uses_and 0 0 0 _ _ _ (omega arith) (quiet_uses _ _ _ _ still quiet c.sync.ensures.uses c.read_head.ensures.uses (c.replay.ensures.needed told)) c.load.ensures.uses

pub returns-in_err-finish-clause-any_moment : goal.returns-in_err-finish-clause-any_moment
returns-in_err-finish-clause-any_moment g c told firm =
    let still = read_still _ _ _ (synced _ _ (c.in_ok-sync.ensures.firm told) (c.sync.ensures.settles told)) (c.read_head.ensures.rests told) in
    let done = replayed _ _ _ still (c.in_ok-replay.ensures.at told) (c.in_ok-replay.ensures.done told) (c.in_ok-replay.ensures.valid told) (c.in_ok-replay.ensures.firm told) (c.replay.ensures.sent told) in
    let far = opened_replay _ _ _ (opened_head _ _ _ (opened_sync _ _ (g.met.D.Device.sound c.args.dev.now told) firm (c.sync.ensures.settles told)) (synced _ _ (c.in_ok-sync.ensures.firm told) (c.sync.ensures.settles told)) (c.read_head.ensures.rests told)) still (c.replay.ensures.any_moment told) in
    let now = loaded _ _ _ done (c.load.ensures.rests told) in
    opened_finish _ _ _ (opened_load _ _ _ far done (c.load.ensures.rests told)) now (c.in_ok-volume.ensures.at told).good (either_same _ _ (c.finish.ensures.operation.any_moment told))

pub returns-in_err-finish-clause-unwritten : goal.returns-in_err-finish-clause-unwritten
returns-in_err-finish-clause-unwritten g c told quiet =
    let still = read_still _ _ _ (synced _ _ (c.in_ok-sync.ensures.firm told) (c.sync.ensures.settles told)) (c.read_head.ensures.rests told) in
    let done = replayed _ _ _ still (c.in_ok-replay.ensures.at told) (c.in_ok-replay.ensures.done told) (c.in_ok-replay.ensures.valid told) (c.in_ok-replay.ensures.firm told) (c.replay.ensures.sent told) in
    let now = loaded _ _ _ done (c.load.ensures.rests told) in
    quiet_finish _ _ _ _ quiet now (c.in_ok-volume.ensures.at told) c.in_ok-volume.ensures.ring (uses_and 0 0 0 _ _ _ (omega arith) (quiet_uses _ _ _ _ still quiet c.sync.ensures.uses c.read_head.ensures.uses (c.replay.ensures.needed told)) c.load.ensures.uses) (λ no_sweep. (c.finish.ensures.cost no_sweep).uses)

pub returns-clause-read : goal.returns-clause-read
returns-clause-read g c told =
    let still = read_still _ _ _ (synced _ _ (c.in_ok-sync.ensures.firm told) (c.sync.ensures.settles told)) (c.read_head.ensures.rests told) in
    let done = replayed _ _ _ still (c.in_ok-replay.ensures.at told) (c.in_ok-replay.ensures.done told) (c.in_ok-replay.ensures.valid told) (c.in_ok-replay.ensures.firm told) (c.replay.ensures.sent told) in
    let now = loaded _ _ _ done (c.load.ensures.rests told) in
    (stood _ _ now (c.in_ok-volume.ensures.at told).good).good

pub returns-clause-done : goal.returns-clause-done
returns-clause-done g c told =
    let still = read_still _ _ _ (synced _ _ (c.in_ok-sync.ensures.firm told) (c.sync.ensures.settles told)) (c.read_head.ensures.rests told) in
    let done = replayed _ _ _ still (c.in_ok-replay.ensures.at told) (c.in_ok-replay.ensures.done told) (c.in_ok-replay.ensures.valid told) (c.in_ok-replay.ensures.firm told) (c.replay.ensures.sent told) in
    let now = loaded _ _ _ done (c.load.ensures.rests told) in
    c.in_ok-finish.ensures.operation.done told ∙ (stood _ _ now (c.in_ok-volume.ensures.at told).good).world

pub returns-clause-any_moment : goal.returns-clause-any_moment
returns-clause-any_moment g c told firm =
    let still = read_still _ _ _ (synced _ _ (c.in_ok-sync.ensures.firm told) (c.sync.ensures.settles told)) (c.read_head.ensures.rests told) in
    let done = replayed _ _ _ still (c.in_ok-replay.ensures.at told) (c.in_ok-replay.ensures.done told) (c.in_ok-replay.ensures.valid told) (c.in_ok-replay.ensures.firm told) (c.replay.ensures.sent told) in
    let far = opened_replay _ _ _ (opened_head _ _ _ (opened_sync _ _ (g.met.D.Device.sound c.args.dev.now told) firm (c.sync.ensures.settles told)) (synced _ _ (c.in_ok-sync.ensures.firm told) (c.sync.ensures.settles told)) (c.read_head.ensures.rests told)) still (c.replay.ensures.any_moment told) in
    let now = loaded _ _ _ done (c.load.ensures.rests told) in
    opened_finish _ _ _ (opened_load _ _ _ far done (c.load.ensures.rests told)) now (c.in_ok-volume.ensures.at told).good (either_same _ _ (c.finish.ensures.operation.any_moment told))

pub returns-clause-unwritten : goal.returns-clause-unwritten
returns-clause-unwritten g c told quiet =
    let still = read_still _ _ _ (synced _ _ (c.in_ok-sync.ensures.firm told) (c.sync.ensures.settles told)) (c.read_head.ensures.rests told) in
    let done = replayed _ _ _ still (c.in_ok-replay.ensures.at told) (c.in_ok-replay.ensures.done told) (c.in_ok-replay.ensures.valid told) (c.in_ok-replay.ensures.firm told) (c.replay.ensures.sent told) in
    let now = loaded _ _ _ done (c.load.ensures.rests told) in
    quiet_finish _ _ _ _ quiet now (c.in_ok-volume.ensures.at told) c.in_ok-volume.ensures.ring (uses_and 0 0 0 _ _ _ (omega arith) (quiet_uses _ _ _ _ still quiet c.sync.ensures.uses c.read_head.ensures.uses (c.replay.ensures.needed told)) c.load.ensures.uses) (λ no_sweep. (c.finish.ensures.cost no_sweep).uses)

pub returns-in_err-finish-clause-read : goal.returns-in_err-finish-clause-read
returns-in_err-finish-clause-read g c told = opened_device (g.D.Device.view c.args.dev.now) c.from_residual-in_err-finish.result c.from_residual-in_err-finish.ensures.1

pub returns-in_err-ring-clause-any_owed : goal.returns-in_err-ring-clause-any_owed
returns-in_err-ring-clause-any_owed g c told firm flag =
    owed_start _ (g.met.D.Device.sound c.args.dev.now told) firm

pub returns-in_err-sync-clause-any_owed : goal.returns-in_err-sync-clause-any_owed
returns-in_err-sync-clause-any_owed g c told firm flag =
    owed_sync _ _ (g.met.D.Device.sound c.args.dev.now told) firm (c.sync.ensures.settles told)

pub returns-in_err-header-clause-any_owed : goal.returns-in_err-header-clause-any_owed
returns-in_err-header-clause-any_owed g c told firm flag =
    owed_head _ _ _ (owed_sync _ _ (g.met.D.Device.sound c.args.dev.now told) firm (c.sync.ensures.settles told)) (synced _ _ (c.in_ok-sync.ensures.firm told) (c.sync.ensures.settles told)) (c.read_head.ensures.rests told)

pub returns-in_err-replay-clause-any_owed : goal.returns-in_err-replay-clause-any_owed
returns-in_err-replay-clause-any_owed g c told firm flag =
    let still = read_still _ _ _ (synced _ _ (c.in_ok-sync.ensures.firm told) (c.sync.ensures.settles told)) (c.read_head.ensures.rests told) in
    let at_head = subst (λ (r : Image). HasHead r c.in_ok-header.header) (sym (c.read_head.ensures.rests told).reads) (c.in_ok-header.ensures.head told) in
    let far = owed_replay _ _ _ c.in_ok-header.header (owed_head _ _ _ (owed_sync _ _ (g.met.D.Device.sound c.args.dev.now told) firm (c.sync.ensures.settles told)) (synced _ _ (c.in_ok-sync.ensures.firm told) (c.sync.ensures.settles told)) (c.read_head.ensures.rests told)) still at_head (c.replay.ensures.any_moment told) in
    far

pub returns-in_err-volume-clause-any_owed : goal.returns-in_err-volume-clause-any_owed
returns-in_err-volume-clause-any_owed g c told firm flag =
    let still = read_still _ _ _ (synced _ _ (c.in_ok-sync.ensures.firm told) (c.sync.ensures.settles told)) (c.read_head.ensures.rests told) in
    let done = replayed _ _ _ still (c.in_ok-replay.ensures.at told) (c.in_ok-replay.ensures.done told) (c.in_ok-replay.ensures.valid told) (c.in_ok-replay.ensures.firm told) (c.replay.ensures.sent told) in
    let at_head = subst (λ (r : Image). HasHead r c.in_ok-header.header) (sym (c.read_head.ensures.rests told).reads) (c.in_ok-header.ensures.head told) in
    let far = owed_replay _ _ _ c.in_ok-header.header (owed_head _ _ _ (owed_sync _ _ (g.met.D.Device.sound c.args.dev.now told) firm (c.sync.ensures.settles told)) (synced _ _ (c.in_ok-sync.ensures.firm told) (c.sync.ensures.settles told)) (c.read_head.ensures.rests told)) still at_head (c.replay.ensures.any_moment told) in
    owed_load _ _ _ (right_head _ _ c.in_ok-header.header still at_head) far done (c.load.ensures.rests told)

pub returns-in_err-finish-clause-any_owed : goal.returns-in_err-finish-clause-any_owed
returns-in_err-finish-clause-any_owed g c told firm flag =
    let still = read_still _ _ _ (synced _ _ (c.in_ok-sync.ensures.firm told) (c.sync.ensures.settles told)) (c.read_head.ensures.rests told) in
    let done = replayed _ _ _ still (c.in_ok-replay.ensures.at told) (c.in_ok-replay.ensures.done told) (c.in_ok-replay.ensures.valid told) (c.in_ok-replay.ensures.firm told) (c.replay.ensures.sent told) in
    let at_head = subst (λ (r : Image). HasHead r c.in_ok-header.header) (sym (c.read_head.ensures.rests told).reads) (c.in_ok-header.ensures.head told) in
    let far = owed_replay _ _ _ c.in_ok-header.header (owed_head _ _ _ (owed_sync _ _ (g.met.D.Device.sound c.args.dev.now told) firm (c.sync.ensures.settles told)) (synced _ _ (c.in_ok-sync.ensures.firm told) (c.sync.ensures.settles told)) (c.read_head.ensures.rests told)) still at_head (c.replay.ensures.any_moment told) in
    let now = loaded _ _ _ done (c.load.ensures.rests told) in
    owed_finish _ _ _ _ flag (owed_load _ _ _ (right_head _ _ c.in_ok-header.header still at_head) far done (c.load.ensures.rests told)) now (c.in_ok-volume.ensures.at told) (λ no_sweep. (c.finish.ensures.cost no_sweep).any_owed told)

pub returns-clause-any_owed : goal.returns-clause-any_owed
returns-clause-any_owed g c told firm flag =
    let still = read_still _ _ _ (synced _ _ (c.in_ok-sync.ensures.firm told) (c.sync.ensures.settles told)) (c.read_head.ensures.rests told) in
    let done = replayed _ _ _ still (c.in_ok-replay.ensures.at told) (c.in_ok-replay.ensures.done told) (c.in_ok-replay.ensures.valid told) (c.in_ok-replay.ensures.firm told) (c.replay.ensures.sent told) in
    let at_head = subst (λ (r : Image). HasHead r c.in_ok-header.header) (sym (c.read_head.ensures.rests told).reads) (c.in_ok-header.ensures.head told) in
    let far = owed_replay _ _ _ c.in_ok-header.header (owed_head _ _ _ (owed_sync _ _ (g.met.D.Device.sound c.args.dev.now told) firm (c.sync.ensures.settles told)) (synced _ _ (c.in_ok-sync.ensures.firm told) (c.sync.ensures.settles told)) (c.read_head.ensures.rests told)) still at_head (c.replay.ensures.any_moment told) in
    let now = loaded _ _ _ done (c.load.ensures.rests told) in
    owed_finish _ _ _ _ flag (owed_load _ _ _ (right_head _ _ c.in_ok-header.header still at_head) far done (c.load.ensures.rests told)) now (c.in_ok-volume.ensures.at told) (λ no_sweep. (c.finish.ensures.cost no_sweep).any_owed told)

pub returns-clause-paid : goal.returns-clause-paid
returns-clause-paid g c told quiet =
    let still = read_still _ _ _ (synced _ _ (c.in_ok-sync.ensures.firm told) (c.sync.ensures.settles told)) (c.read_head.ensures.rests told) in
    let done = replayed _ _ _ still (c.in_ok-replay.ensures.at told) (c.in_ok-replay.ensures.done told) (c.in_ok-replay.ensures.valid told) (c.in_ok-replay.ensures.firm told) (c.replay.ensures.sent told) in
    let now = loaded _ _ _ done (c.load.ensures.rests told) in
    quiet_paid (g.D.Device.view c.args.dev.now) (g.D.Device.view c.load.new.dev) (g.D.Device.view c.finish.new.dev) c.in_ok-volume.volume c.finish.new.self quiet now (c.in_ok-volume.ensures.at told) c.in_ok-volume.ensures.ring (uses_and 0 0 0 _ _ _ (omega arith) (quiet_uses _ _ _ _ still quiet c.sync.ensures.uses c.read_head.ensures.uses (c.replay.ensures.needed told)) c.load.ensures.uses) (λ no_sweep. (c.in_ok-finish.ensures.cost no_sweep).paid)

pub returns-in_err-finish-clause-faults : goal.returns-in_err-finish-clause-faults
returns-in_err-finish-clause-faults g c = (λ device. search rules, λ other. absurd (other (is_device c.from_residual-in_err-finish.result c.from_residual-in_err-finish.ensures.1)))

pub returns-in_err-ring-clause-untouched : goal.returns-in_err-ring-clause-untouched
returns-in_err-ring-clause-untouched g c told none = record { writes = refl; reads = refl }

pub returns-in_err-sync-clause-untouched : goal.returns-in_err-sync-clause-untouched
returns-in_err-sync-clause-untouched g c told none =
    record { writes = unwritten _ _ c.sync.ensures.uses; reads = (c.sync.ensures.settles told).reads }

pub returns-in_err-header-clause-untouched : goal.returns-in_err-header-clause-untouched
returns-in_err-header-clause-untouched g c told none = record {
  writes = unwritten _ _ (uses_and 0 0 0 _ _ _ (omega arith) c.sync.ensures.uses c.read_head.ensures.uses);
  reads = (c.read_head.ensures.rests told).reads ∙ (c.sync.ensures.settles told).reads;
}

pub returns-in_err-replay-clause-untouched : goal.returns-in_err-replay-clause-untouched
returns-in_err-replay-clause-untouched g c told none =
    absurd (none c.in_ok-header.header (subst (λ (r : Image). HasHead r c.in_ok-header.header) (c.sync.ensures.settles told).reads (c.in_ok-header.ensures.head told)))

pub returns-in_err-volume-clause-untouched : goal.returns-in_err-volume-clause-untouched
returns-in_err-volume-clause-untouched g c told none =
    absurd (none c.in_ok-header.header (subst (λ (r : Image). HasHead r c.in_ok-header.header) (c.sync.ensures.settles told).reads (c.in_ok-header.ensures.head told)))

pub returns-in_err-finish-clause-untouched : goal.returns-in_err-finish-clause-untouched
returns-in_err-finish-clause-untouched g c told none =
    absurd (none c.in_ok-header.header (subst (λ (r : Image). HasHead r c.in_ok-header.header) (c.sync.ensures.settles told).reads (c.in_ok-header.ensures.head told)))

pub returns-clause-untouched : goal.returns-clause-untouched
returns-clause-untouched g c told none =
    absurd (none c.in_ok-header.header (subst (λ (r : Image). HasHead r c.in_ok-header.header) (c.sync.ensures.settles told).reads (c.in_ok-header.ensures.head told)))

pub returns-in_err-ring-clause-spared : goal.returns-in_err-ring-clause-spared
returns-in_err-ring-clause-spared g c told bad = spared_start _ (g.met.D.Device.sound c.args.dev.now told)

pub returns-in_err-sync-clause-spared : goal.returns-in_err-sync-clause-spared
returns-in_err-sync-clause-spared g c told bad = spared_sync _ _ (g.met.D.Device.sound c.args.dev.now told) (c.sync.ensures.settles told) c.sync.ensures.uses

pub returns-in_err-header-clause-spared : goal.returns-in_err-header-clause-spared
returns-in_err-header-clause-spared g c told bad =
    spared_head _ _ _ (g.met.D.Device.sound c.args.dev.now told) (c.in_ok-sync.ensures.firm told) (c.sync.ensures.settles told) (c.read_head.ensures.rests told) (uses_and 0 0 0 _ _ _ (omega arith) c.sync.ensures.uses c.read_head.ensures.uses)

pub returns-in_err-replay-clause-spared : goal.returns-in_err-replay-clause-spared
returns-in_err-replay-clause-spared g c told bad =
    spared_replay _ _ _ _ (g.met.D.Device.sound c.args.dev.now told) (g.met.D.Device.sound c.replay.new.dev told) (c.in_ok-sync.ensures.firm told) (c.sync.ensures.settles told) (c.read_head.ensures.rests told)
    (c.replay.ensures.any_moment told) (uses_and 0 0 0 _ _ _ (omega arith) c.sync.ensures.uses c.read_head.ensures.uses) (c.replay.ensures.needed told)

pub returns-in_err-volume-clause-spared : goal.returns-in_err-volume-clause-spared
returns-in_err-volume-clause-spared g c told bad =
    spared_load _ _ _ _ _ (g.met.D.Device.sound c.args.dev.now told) (c.in_ok-sync.ensures.firm told) (c.sync.ensures.settles told) (c.read_head.ensures.rests told) (c.replay.ensures.any_moment told)
    (c.in_ok-replay.ensures.at told) (c.in_ok-replay.ensures.done told) (c.in_ok-replay.ensures.valid told) (c.in_ok-replay.ensures.firm told) (c.load.ensures.rests told)
    (uses_and 0 0 0 _ _ _ (omega arith) c.sync.ensures.uses c.read_head.ensures.uses) (c.replay.ensures.needed told) c.load.ensures.uses

pub returns-in_err-finish-clause-spared : goal.returns-in_err-finish-clause-spared
returns-in_err-finish-clause-spared g c told bad =
    let still = read_still _ _ _ (synced _ _ (c.in_ok-sync.ensures.firm told) (c.sync.ensures.settles told)) (c.read_head.ensures.rests told) in
    let done = replayed _ _ _ still (c.in_ok-replay.ensures.at told) (c.in_ok-replay.ensures.done told) (c.in_ok-replay.ensures.valid told) (c.in_ok-replay.ensures.firm told) (c.replay.ensures.sent told) in
    let now = loaded _ _ _ done (c.load.ensures.rests told) in
    absurd (bad (stood _ _ now (c.in_ok-volume.ensures.at told).good).good)

pub returns-clause-spared : goal.returns-clause-spared
returns-clause-spared g c told bad =
    let still = read_still _ _ _ (synced _ _ (c.in_ok-sync.ensures.firm told) (c.sync.ensures.settles told)) (c.read_head.ensures.rests told) in
    let done = replayed _ _ _ still (c.in_ok-replay.ensures.at told) (c.in_ok-replay.ensures.done told) (c.in_ok-replay.ensures.valid told) (c.in_ok-replay.ensures.firm told) (c.replay.ensures.sent told) in
    let now = loaded _ _ _ done (c.load.ensures.rests told) in
    absurd (bad (stood _ _ now (c.in_ok-volume.ensures.at told).good).good)

pub returns-in_err-ring-clause-data_kept : goal.returns-in_err-ring-clause-data_kept
returns-in_err-ring-clause-data_kept g c told firm = data_start_of _ (g.met.D.Device.sound c.args.dev.now told) firm

pub returns-in_err-sync-clause-data_kept : goal.returns-in_err-sync-clause-data_kept
returns-in_err-sync-clause-data_kept g c told firm = data_sync _ _ (g.met.D.Device.sound c.args.dev.now told) firm (c.sync.ensures.settles told)

pub returns-in_err-header-clause-data_kept : goal.returns-in_err-header-clause-data_kept
returns-in_err-header-clause-data_kept g c told firm =
    data_head _ _ _ (g.met.D.Device.sound c.args.dev.now told) firm (c.in_ok-sync.ensures.firm told) (c.sync.ensures.settles told) (c.read_head.ensures.rests told)

pub returns-in_err-replay-clause-data_kept : goal.returns-in_err-replay-clause-data_kept
returns-in_err-replay-clause-data_kept g c told firm =
    data_replay _ _ _ _ (g.met.D.Device.sound c.args.dev.now told) firm (c.in_ok-sync.ensures.firm told) (c.sync.ensures.settles told) (c.read_head.ensures.rests told) (c.replay.ensures.any_moment told)

pub returns-in_err-volume-clause-data_kept : goal.returns-in_err-volume-clause-data_kept
returns-in_err-volume-clause-data_kept g c told firm =
    data_load _ _ firm
    (spared_load _ _ _ _ _ (g.met.D.Device.sound c.args.dev.now told) (c.in_ok-sync.ensures.firm told) (c.sync.ensures.settles told) (c.read_head.ensures.rests told) (c.replay.ensures.any_moment told)
    (c.in_ok-replay.ensures.at told) (c.in_ok-replay.ensures.done told) (c.in_ok-replay.ensures.valid told) (c.in_ok-replay.ensures.firm told) (c.load.ensures.rests told)
    (uses_and 0 0 0 _ _ _ (omega arith) c.sync.ensures.uses c.read_head.ensures.uses) (c.replay.ensures.needed told) c.load.ensures.uses)

pub returns-in_err-finish-clause-data_kept : goal.returns-in_err-finish-clause-data_kept
returns-in_err-finish-clause-data_kept g c told firm =
    data_finish c.finish.result _ _ _ c.in_ok-volume.volume firm
    (spared_load _ _ _ _ _ (g.met.D.Device.sound c.args.dev.now told) (c.in_ok-sync.ensures.firm told) (c.sync.ensures.settles told) (c.read_head.ensures.rests told) (c.replay.ensures.any_moment told)
    (c.in_ok-replay.ensures.at told) (c.in_ok-replay.ensures.done told) (c.in_ok-replay.ensures.valid told) (c.in_ok-replay.ensures.firm told) (c.load.ensures.rests told)
    (uses_and 0 0 0 _ _ _ (omega arith) c.sync.ensures.uses c.read_head.ensures.uses) (c.replay.ensures.needed told) c.load.ensures.uses)
    (c.in_ok-volume.ensures.at told) (c.finish.ensures.operation.data_kept told)

pub returns-clause-data_kept : goal.returns-clause-data_kept
returns-clause-data_kept g c told firm =
    data_finish c.finish.result _ _ _ c.in_ok-volume.volume firm
    (spared_load _ _ _ _ _ (g.met.D.Device.sound c.args.dev.now told) (c.in_ok-sync.ensures.firm told) (c.sync.ensures.settles told) (c.read_head.ensures.rests told) (c.replay.ensures.any_moment told)
    (c.in_ok-replay.ensures.at told) (c.in_ok-replay.ensures.done told) (c.in_ok-replay.ensures.valid told) (c.in_ok-replay.ensures.firm told) (c.load.ensures.rests told)
    (uses_and 0 0 0 _ _ _ (omega arith) c.sync.ensures.uses c.read_head.ensures.uses) (c.replay.ensures.needed told) c.load.ensures.uses)
    (c.in_ok-volume.ensures.at told) (c.finish.ensures.operation.data_kept told)

pub returns-in_err-ring-clause-uses : goal.returns-in_err-ring-clause-uses
returns-in_err-ring-clause-uses g c told = costs_none (g.D.Device.view c.args.dev.now)

pub returns-in_err-sync-clause-uses : goal.returns-in_err-sync-clause-uses
returns-in_err-sync-clause-uses g c told = costs_start _ _ c.sync.ensures.uses

pub returns-in_err-header-clause-uses : goal.returns-in_err-header-clause-uses
returns-in_err-header-clause-uses g c told = costs_start _ _ (uses_and 0 0 0 _ _ _ (omega arith) c.sync.ensures.uses c.read_head.ensures.uses)

pub returns-in_err-replay-clause-uses : goal.returns-in_err-replay-clause-uses
returns-in_err-replay-clause-uses g c told =
    let still = read_still _ _ _ (synced _ _ (c.in_ok-sync.ensures.firm told) (c.sync.ensures.settles told)) (c.read_head.ensures.rests told) in
    let start = uses_and 0 0 0 _ _ _ (omega arith) c.sync.ensures.uses c.read_head.ensures.uses in
    costs_replay _ _ (uses_replay _ _ _ still start (c.replay.ensures.needed told))

pub returns-in_err-volume-clause-uses : goal.returns-in_err-volume-clause-uses
returns-in_err-volume-clause-uses g c told =
    let still = read_still _ _ _ (synced _ _ (c.in_ok-sync.ensures.firm told) (c.sync.ensures.settles told)) (c.read_head.ensures.rests told) in
    let start = uses_and 0 0 0 _ _ _ (omega arith) c.sync.ensures.uses c.read_head.ensures.uses in
    let load = uses_load _ _ _ (uses_replay _ _ _ still start (c.replay.ensures.needed told)) c.load.ensures.uses in
    costs_replay _ _ load

pub returns-in_err-finish-clause-uses : goal.returns-in_err-finish-clause-uses
returns-in_err-finish-clause-uses g c told =
    let still = read_still _ _ _ (synced _ _ (c.in_ok-sync.ensures.firm told) (c.sync.ensures.settles told)) (c.read_head.ensures.rests told) in
    let start = uses_and 0 0 0 _ _ _ (omega arith) c.sync.ensures.uses c.read_head.ensures.uses in
    let done = replayed _ _ _ still (c.in_ok-replay.ensures.at told) (c.in_ok-replay.ensures.done told) (c.in_ok-replay.ensures.valid told) (c.in_ok-replay.ensures.firm told) (c.replay.ensures.sent told) in
    let now = loaded _ _ _ done (c.load.ensures.rests told) in
    let load = uses_load _ _ _ (uses_replay _ _ _ still start (c.replay.ensures.needed told)) c.load.ensures.uses in
    costs_finish _ _ _ c.in_ok-volume.volume now (c.in_ok-volume.ensures.at told) c.in_ok-volume.ensures.ring load c.finish.ensures.uses

pub returns-clause-uses : goal.returns-clause-uses
returns-clause-uses g c told =
    let still = read_still _ _ _ (synced _ _ (c.in_ok-sync.ensures.firm told) (c.sync.ensures.settles told)) (c.read_head.ensures.rests told) in
    let start = uses_and 0 0 0 _ _ _ (omega arith) c.sync.ensures.uses c.read_head.ensures.uses in
    let done = replayed _ _ _ still (c.in_ok-replay.ensures.at told) (c.in_ok-replay.ensures.done told) (c.in_ok-replay.ensures.valid told) (c.in_ok-replay.ensures.firm told) (c.replay.ensures.sent told) in
    let now = loaded _ _ _ done (c.load.ensures.rests told) in
    let load = uses_load _ _ _ (uses_replay _ _ _ still start (c.replay.ensures.needed told)) c.load.ensures.uses in
    costs_finish _ _ _ c.in_ok-volume.volume now (c.in_ok-volume.ensures.at told) c.in_ok-volume.ensures.ring load c.finish.ensures.uses

pub returns-clause-cost : goal.returns-clause-cost
returns-clause-cost g c told =
    let still = read_still _ _ _ (synced _ _ (c.in_ok-sync.ensures.firm told) (c.sync.ensures.settles told)) (c.read_head.ensures.rests told) in
    let start = uses_and 0 0 0 _ _ _ (omega arith) c.sync.ensures.uses c.read_head.ensures.uses in
    let done = replayed _ _ _ still (c.in_ok-replay.ensures.at told) (c.in_ok-replay.ensures.done told) (c.in_ok-replay.ensures.valid told) (c.in_ok-replay.ensures.firm told) (c.replay.ensures.sent told) in
    let now = loaded _ _ _ done (c.load.ensures.rests told) in
    let load = uses_load _ _ _ (uses_replay _ _ _ still start (c.replay.ensures.needed told)) c.load.ensures.uses in
    costs_paid (g.D.Device.view c.args.dev.now) (g.D.Device.view c.load.new.dev) (g.D.Device.view c.finish.new.dev) c.in_ok-volume.volume c.finish.new.self now (c.in_ok-volume.ensures.at told) c.in_ok-volume.ensures.ring load c.in_ok-finish.ensures.paid
