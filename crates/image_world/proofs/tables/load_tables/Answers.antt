use Rattle.std.proofs.Common.{sym, ap, ◌∙◌, subst, Err}
use Rattle.image_world.proofs.Common.{Rose, Geometry, AreRight}
use Rattle.block_alloc.specs.declared.fault.LoadFault.TheVariants as live_fault
use Rattle.pointer_table.specs.declared.fault.TableFault.TheVariants as slot_fault
use Rattle.ref_counts.specs.declared.fault.LoadFault.TheVariants as count_fault
use Rattle.std.proofs.lemmas.Result.{err_from_is_err_and}
use Rattle.image_device.proofs.Resting.{rests_joined}
use Rattle.image_world.proofs.LoadLaws.{are_read, are_stored, do_fit, failed}
use Rattle.image_world.proofs.CapsLaws.{same_after_caps, rose_after_caps, same_after_counts, rose_after_counts, loaded_is_no_fault}
use Rattle.image_world.proofs.TestLaws.{right_on}
use Rattle.image_world.proofs.tables.load_tables.Goals as goal

pub returns-in_err-test_tables-clause-read : goal.returns-in_err-test_tables-clause-read
returns-in_err-test_tables-clause-read g c told =
    let view = g.D.Device.view in
    let h = c.args.header.now in
    let x = (view c.args.dev.now).reads in
    let p = c.in_ok-pointers.pointers in
    let m = c.in_ok-live.live in
    let n = c.in_ok-counts.counts in
    let table = c.in_ok-pointers.ensures.table in
    let one = (c.in_ok-pointers.ensures.rests told).reads in
    let two = (c.in_ok-live.ensures.rests told).reads ∙ one in
    let read = are_read h.geometry p m n x (view c.load.new.dev).reads (view c.load-2.new.dev).reads table.0 c.in_ok-counts.ensures.geometry (c.in_ok-pointers.ensures.read told) one two (c.in_ok-live.ensures.stored told) (c.in_ok-counts.ensures.stored told) in
    let is = err_from_is_err_and c.from_residual-in_err-test_tables.result c.from_residual-in_err-test_tables.ensures.1 in
    rw (is.1, is.2) (failed h p m n x c.in_err-test_tables.field-0.0 table.0 read c.in_err-test_tables.ensures)

pub returns-in_err-test_tables-clause-rests : goal.returns-in_err-test_tables-clause-rests
returns-in_err-test_tables-clause-rests g c told =
    let view = g.D.Device.view in
    let first = view c.args.dev.now in
    rests_joined first (view c.load-2.new.dev) (view c.load-3.new.dev) (rests_joined first (view c.load.new.dev) (view c.load-2.new.dev) (c.in_ok-pointers.ensures.rests told) (c.in_ok-live.ensures.rests told))
    (c.in_ok-counts.ensures.rests told)

pub returns-in_err-caps-clause-rests : goal.returns-in_err-caps-clause-rests
returns-in_err-caps-clause-rests g c told =
    let view = g.D.Device.view in
    let first = view c.args.dev.now in
    rests_joined first (view c.load-3.new.dev) (view c.load-4.new.dev) (rests_joined first (view c.load-2.new.dev) (view c.load-3.new.dev)
    (rests_joined first (view c.load.new.dev) (view c.load-2.new.dev) (c.in_ok-pointers.ensures.rests told) (c.in_ok-live.ensures.rests told)) (c.in_ok-counts.ensures.rests told)) (c.in_err-caps.ensures.rests told)

pub returns-clause-fit : goal.returns-clause-fit
returns-clause-fit g c =
    let h = c.args.header.now in
    let p = c.in_ok-pointers.ensures.table in
    let m = c.in_ok-live.ensures in
    let n = c.in_ok-counts.ensures in
    let s = c.in_ok-caps.ensures in
    do_fit h (record { pointers = c.in_ok-pointers.pointers; counts = c.in_ok-counts.counts; live = c.in_ok-live.live; caps = c.in_ok-caps.caps }) c.requires.version p.0 m.geometry n.geometry s.geometry s.version m.none_hidden p.1 m.table n.table s.table
    c.in_ok-test_tables.ensures

pub returns-clause-read : goal.returns-clause-read
returns-clause-read g c told =
    let view = g.D.Device.view in
    let h = c.args.header.now in
    let x = (view c.args.dev.now).reads in
    let p = c.in_ok-pointers.pointers in
    let m = c.in_ok-live.live in
    let n = c.in_ok-counts.counts in
    let table = c.in_ok-pointers.ensures.table in
    let one = (c.in_ok-pointers.ensures.rests told).reads in
    let two = (c.in_ok-live.ensures.rests told).reads ∙ one in
    let three = (c.in_ok-counts.ensures.rests told).reads ∙ two in
    let read = are_read h.geometry p m n x (view c.load.new.dev).reads (view c.load-2.new.dev).reads table.0 c.in_ok-counts.ensures.geometry (c.in_ok-pointers.ensures.read told) one two (c.in_ok-live.ensures.stored told) (c.in_ok-counts.ensures.stored told) in (
      subst (λ (k : Geometry). AreRight x k) table.0 (right_on p m n x table.1 (c.in_ok-live.ensures.geometry ∙ sym table.0) read c.in_ok-test_tables.ensures),
      are_stored h (record { pointers = p; counts = n; live = m; caps = c.in_ok-caps.caps }) x (view c.load-3.new.dev).reads table.0 read c.in_ok-caps.ensures.version three (c.in_ok-caps.ensures.stored told),
    )

pub returns-clause-rests : goal.returns-clause-rests
returns-clause-rests g c told =
    let view = g.D.Device.view in
    let first = view c.args.dev.now in
    rests_joined first (view c.load-3.new.dev) (view c.load-4.new.dev) (rests_joined first (view c.load-2.new.dev) (view c.load-3.new.dev)
    (rests_joined first (view c.load.new.dev) (view c.load-2.new.dev) (c.in_ok-pointers.ensures.rests told) (c.in_ok-live.ensures.rests told)) (c.in_ok-counts.ensures.rests told)) (c.in_ok-caps.ensures.rests told)

pub returns-in_err-caps-clause-faults : goal.returns-in_err-caps-clause-faults
returns-in_err-caps-clause-faults g c =
    let view = g.D.Device.view in
    let is = err_from_is_err_and c.from_residual-in_err-caps.result c.from_residual-in_err-caps.ensures.1 in
    let same = is.1 ∙ ap (λ y. Err y) is.2 in
    let before = c.in_ok-counts.ensures.faults.1 (loaded_is_no_fault c.in_ok-counts.counts count_fault.Device)
    ∙ c.in_ok-live.ensures.faults.1 (loaded_is_no_fault c.in_ok-live.live live_fault.Device)
    ∙ c.in_ok-pointers.ensures.faults.1 (loaded_is_no_fault c.in_ok-pointers.pointers slot_fault.Device) in (
      λ device. subst (λ n. Rose n (view c.load-4.new.dev).faults) before
          (rose_after_caps (view c.load-3.new.dev).faults (view c.load-4.new.dev).faults c.from_residual-in_err-caps.result c.in_err-caps.field-0.0 same c.in_err-caps.ensures.faults.0 device),
      λ other. same_after_caps c.from_residual-in_err-caps.result c.in_err-caps.field-0.0 same c.in_err-caps.ensures.faults.1 other ∙ before,
    )

pub returns-in_err-counts-clause-faults : goal.returns-in_err-counts-clause-faults
returns-in_err-counts-clause-faults g c =
    let view = g.D.Device.view in
    let is = err_from_is_err_and c.from_residual-in_err-counts.result c.from_residual-in_err-counts.ensures.1 in
    let same = is.1 ∙ ap (λ y. Err y) is.2 in
    let before = c.in_ok-live.ensures.faults.1 (loaded_is_no_fault c.in_ok-live.live live_fault.Device)
    ∙ c.in_ok-pointers.ensures.faults.1 (loaded_is_no_fault c.in_ok-pointers.pointers slot_fault.Device) in (
      λ device. subst (λ n. Rose n (view c.load-3.new.dev).faults) before
          (rose_after_counts (view c.load-2.new.dev).faults (view c.load-3.new.dev).faults c.from_residual-in_err-counts.result c.in_err-counts.field-0.0 same c.in_err-counts.ensures.faults.0 device),
      λ other. same_after_counts c.from_residual-in_err-counts.result c.in_err-counts.field-0.0 same c.in_err-counts.ensures.faults.1 other ∙ before,
    )
