use Rattle.std.proofs.Common.{◌≡◌, ℕ, ◌+◌, ◌*◌, ◌<◌, min, refl, sym, subst, ap, ◌∙◌, arith}
use Rattle.pointer_table.proofs.Common.{OnOk, div_ceil, slots_start, data_start, AreReadTo, AreWithinTo}
use Rattle.std.specs.Prelude.{Result, Ok, Err}
use Rattle.image_device.specs.Counts.{CountsFault}
use Rattle.image_device.proofs.Outcomes.{unless_err}
use Rattle.image_device.proofs.Resting.{rests_joined, uses_read}
use Rattle.pointer_table.proofs.LoadLaws.{part_inside}
use Rattle.pointer_table.proofs.load.read_slots.Goals as goal

-- an Ok leaves the count
stays_on_ok : {T E : Type 0} (r : Result T E) (before now : ℕ) → CountsFault r before now → OnOk r (now ≡ before)
stays_on_ok (Ok x) before now h = h
stays_on_ok (Err e) before now h = tt

pub loop-part-preserved : goal.loop-part-preserved
loop-part-preserved g c =
    let view = g.D.Device.view in
    let v0 = view c.args.dev.now in
    let v = view c.loop-part.dev in
    let v' = view c.read.new.self in
    let size = c.args.geometry.now in
    let part = c.loop-part.part in
    let so_far = c.loop-part.invariant in
    let ends : c.data_start.result ≡ data_start size = c.data_start.ensures ∙ ap data_start c.of-layout.ensures in
    let starts : c.slots_start-start.result ≡ slots_start size = c.slots_start-start.ensures ∙ ap slots_start c.of-layout.ensures in
    let area : data_start size ≡ slots_start size + div_ceil (8 * size.slots) 512 = refl in
    let before : part < div_ceil (8 * size.slots) 512 = omega arith in
    let inside : 64 * part < size.slots = part_inside size.slots part before in
    let first : min size.slots (64 * part) ≡ 64 * part = omega arith in
    let end : min size.slots (64 * part + 64) ≡ min size.slots (64 * (part + 1)) = omega arith in
    record {
      all = c.in_default.ensures.all;
      read = λ told.
          let still = (so_far.rests told).reads in
          let bytes = unless_err c.read.result c.is_err.result c.if-is_err.false c.is_err.ensures.value (c.read.ensures.bytes told) in
          let sector : v0.reads (slots_start size + part) ≡ c.read.new.into =
          ap (λ (s : ℕ). v0.reads (s + part)) (sym starts) ∙ (sym (ap (λ r. r (c.slots_start-start.result + part)) still) ∙ sym bytes) in
          subst (λ (n : ℕ). AreReadTo v0.reads size n c.take_sector.new.slots) end
          (c.in_default.ensures.read v0.reads sector (subst (λ (n : ℕ). AreReadTo v0.reads size n c.loop-part.slots) first (so_far.read told)));
      within =
          subst (λ (n : ℕ). AreWithinTo size n c.take_sector.new.slots) end
          (c.in_default.ensures.within (subst (λ (n : ℕ). AreWithinTo size n c.loop-part.slots) first so_far.within));
      rests = λ told. rests_joined v0 v v' (so_far.rests told) (c.read.ensures.rests told);
      uses = uses_read 0 v0 v v' so_far.uses c.read.ensures.uses;
      faultless = unless_err c.read.result c.is_err.result c.if-is_err.false c.is_err.ensures.value (stays_on_ok c.read.result v.faults v'.faults c.read.ensures.faults) ∙ so_far.faultless;
    }
