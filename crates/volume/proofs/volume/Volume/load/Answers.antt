use Rattle.std.proofs.Common.{rules, Err, List, false, ap, sym, ◌∙◌, subst}
use Rattle.std.proofs.lemmas.Result.{err_from_is_err_and}
use Rattle.image_device.proofs.Resting.{rests_joined}
use Rattle.volume.proofs.Common.{JournalRecord, sweep_flag, Image, says_open, IsVolumeAt, tables_with}
use Rattle.volume.proofs.Loaded.{loaded_good, loaded_at, loading_failed, parts_fit}
use Rattle.volume.proofs.volume.Volume.load.Goals as goal

pub returns-in_err-tables-clause-read : goal.returns-in_err-tables-clause-read
returns-in_err-tables-clause-read g c told =
    let view = g.D.Device.view in
    let is = err_from_is_err_and c.from_residual.result c.from_residual.ensures.1 in
    rw (is.1, is.2)
    (loading_failed c.args.header.now (view c.args.dev.now).reads c.in_err-tables.field-0.0 (c.requires.formatted told) (c.requires.closed told) (c.requires.header told) (c.in_err-tables.ensures.read told))

pub returns-in_err-is_sweeping-clause-rests : goal.returns-in_err-is_sweeping-clause-rests
returns-in_err-is_sweeping-clause-rests g c told =
    let view = g.D.Device.view in
    rests_joined (view c.args.dev.now) (view c.load_tables.new.dev) (view c.read_flag.new.dev) (c.in_ok-tables.ensures.rests told) (c.in_err-is_sweeping.ensures.rests told)

pub returns-in_err-batch-clause-rests : goal.returns-in_err-batch-clause-rests
returns-in_err-batch-clause-rests g c told =
    let view = g.D.Device.view in
    rests_joined (view c.args.dev.now) (view c.load_tables.new.dev) (view c.read_flag.new.dev) (c.in_ok-tables.ensures.rests told) (c.in_ok-is_sweeping.ensures.rests told)

pub returns-in_err-guesses-clause-rests : goal.returns-in_err-guesses-clause-rests
returns-in_err-guesses-clause-rests g c told =
    let view = g.D.Device.view in
    rests_joined (view c.args.dev.now) (view c.load_tables.new.dev) (view c.read_flag.new.dev) (c.in_ok-tables.ensures.rests told) (c.in_ok-is_sweeping.ensures.rests told)

pub returns-in_err-marks-clause-rests : goal.returns-in_err-marks-clause-rests
returns-in_err-marks-clause-rests g c told =
    let view = g.D.Device.view in
    rests_joined (view c.args.dev.now) (view c.load_tables.new.dev) (view c.read_flag.new.dev) (c.in_ok-tables.ensures.rests told) (c.in_ok-is_sweeping.ensures.rests told)

pub returns-in_err-ahead-clause-rests : goal.returns-in_err-ahead-clause-rests
returns-in_err-ahead-clause-rests g c told =
    let view = g.D.Device.view in
    rests_joined (view c.args.dev.now) (view c.load_tables.new.dev) (view c.read_flag.new.dev) (c.in_ok-tables.ensures.rests told) (c.in_ok-is_sweeping.ensures.rests told)

pub returns-clause-rests : goal.returns-clause-rests
returns-clause-rests g c told =
    let view = g.D.Device.view in
    rests_joined (view c.args.dev.now) (view c.load_tables.new.dev) (view c.read_flag.new.dev) (c.in_ok-tables.ensures.rests told) (c.in_ok-is_sweeping.ensures.rests told)

pub invariant_of-result : goal.invariant_of-result
invariant_of-result g c =
    parts_fit c.args.header.now c.in_ok-tables.tables c.in_ok-is_sweeping.is_sweeping c.in_ok-marks.marks c.in_ok-ahead.ahead c.in_ok-tables.ensures.fit c.in_ok-marks.ensures c.in_ok-ahead.ensures

pub returns-clause-read : goal.returns-clause-read
returns-clause-read g c told =
    let view = g.D.Device.view in
    let x = (view c.args.dev.now).reads in
    let flag = ap (λ (y : Image). says_open (y sweep_flag)) (sym (c.in_ok-tables.ensures.rests told).reads) ∙ sym (c.in_ok-is_sweeping.ensures.value told) in
    loaded_good c.args.header.now c.in_ok-tables.tables c.in_ok-is_sweeping.is_sweeping x c.in_ok-tables.ensures.fit (c.in_ok-tables.ensures.read told).1 (c.requires.formatted told) (c.requires.closed told) (c.requires.header told) flag

pub returns-clause-at : goal.returns-clause-at
returns-clause-at g c told =
    let view = g.D.Device.view in
    let h = c.args.header.now in
    let t = c.in_ok-tables.tables in
    let s = c.in_ok-is_sweeping.is_sweeping in
    let one = c.in_ok-tables.ensures.rests told in
    let two = c.in_ok-is_sweeping.ensures.rests told in
    let flag = ap (λ (y : Image). says_open (y sweep_flag)) (sym one.reads) ∙ sym (c.in_ok-is_sweeping.ensures.value told) in
    subst (λ (rs : List JournalRecord). IsVolumeAt (record { tables = tables_with h t s; ring = rs; is_ready = false; is_spent = false }) (view c.read_flag.new.dev)) (sym c.requires.empty)
    (loaded_at h t s false false (view c.args.dev.now) (view c.read_flag.new.dev) c.in_ok-tables.ensures.fit (c.in_ok-tables.ensures.read told).1 (c.requires.firm told) (c.requires.formatted told) (c.requires.closed told) (c.requires.header told) flag
    (two.reads ∙ one.reads) (two.loose ∙ one.loose))

pub returns-in_err-ahead-clause-read : goal.returns-in_err-ahead-clause-read
returns-in_err-ahead-clause-read g c told = let is = err_from_is_err_and c.from_residual-in_err-ahead.result c.from_residual-in_err-ahead.ensures.1 in rw (is.1, is.2) tt

pub returns-in_err-guesses-clause-read : goal.returns-in_err-guesses-clause-read
returns-in_err-guesses-clause-read g c told = let is = err_from_is_err_and c.from_residual-in_err-guesses.result c.from_residual-in_err-guesses.ensures.1 in rw (is.1, is.2) tt

pub returns-in_err-marks-clause-read : goal.returns-in_err-marks-clause-read
returns-in_err-marks-clause-read g c told = let is = err_from_is_err_and c.from_residual-in_err-marks.result c.from_residual-in_err-marks.ensures.1 in rw (is.1, is.2) tt

pub returns-in_err-batch-clause-read : goal.returns-in_err-batch-clause-read
returns-in_err-batch-clause-read g c told = let is = err_from_is_err_and c.from_residual-in_err-batch.result c.from_residual-in_err-batch.ensures.1 in rw (is.1, is.2) tt

pub returns-in_err-is_sweeping-clause-read : goal.returns-in_err-is_sweeping-clause-read
returns-in_err-is_sweeping-clause-read g c told = let is = err_from_is_err_and c.from_residual-in_err-is_sweeping.result c.from_residual-in_err-is_sweeping.ensures.1 in rw (is.1, is.2) tt

pub returns-in_err-is_sweeping-clause-faults : goal.returns-in_err-is_sweeping-clause-faults
returns-in_err-is_sweeping-clause-faults g c =
    let is = err_from_is_err_and c.from_residual-in_err-is_sweeping.result c.from_residual-in_err-is_sweeping.ensures.1 in
    (λ device. search rules, λ other. absurd (other (is.1 ∙ ap (λ y. Err y) is.2)))
