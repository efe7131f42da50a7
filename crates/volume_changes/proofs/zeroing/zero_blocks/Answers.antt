use Rattle.std.proofs.Common.{◌≡◌, ◌+◌, ◌-◌, ◌*◌, false, inl, inr, ◌∙◌, ap, sym, arith}
use Rattle.std.specs.Prelude.{slice_index}
use Rattle.std.proofs.lemmas.Bool.{cases_eq, cases_Bool, cases_lt}
use Rattle.image_device.proofs.Confined.{confined_joined, confined_wider}
use Rattle.image_layout.specs.Offsets.{data_sector}
use Rattle.volume_laws.specs.Zeroed.{is_part, is_data}
use Rattle.volume_laws.proofs.ZeroLaws.{at_number, number_at, data_wider, uses_more}
use Rattle.image_layout.proofs.ThingLaws.{parts_apart}
use Rattle.volume_laws.proofs.ZeroedLaws.{part_inside}
use Rattle.volume_changes.proofs.zeroing.zero_blocks.Goals as goal

pub zero_block-requires : goal.zero_block-requires
zero_block-requires g c = record { inside = c.requires.inside _ (at_number c.args.blocks.now c.loop-index.index c.loop-index-test.true) }

pub returns-in_err-zero_block-clause-confined : goal.returns-in_err-zero_block-clause-confined
returns-in_err-zero_block-clause-confined g c told =
    let view = g.D.Device.view in
    let k = c.args.layout.now.geometry in
    let bs = c.args.blocks.now in
    let i = c.loop-index.index in
    confined_joined (is_data k bs) (view c.args.dev.now) (view c.loop-index.dev) (view c.zero_block.new.dev) (c.loop-index.invariant.confined told)
    (confined_wider (is_part k (slice_index bs i)) (is_data k bs) (view c.loop-index.dev) (view c.zero_block.new.dev) (λ n out. data_wider k bs i n c.loop-index-test.true out) (c.zero_block.ensures.confined told))

pub loop-index-preserved : goal.loop-index-preserved
loop-index-preserved g c =
    let view = g.D.Device.view in
    let k = c.args.layout.now.geometry in
    let bs = c.args.blocks.now in
    let i = c.loop-index.index in
    let new = view c.zero_block.new.dev in
    record {
      zeroed = λ told j part h inside. elim (cases_eq (slice_index bs j) (slice_index bs i)) [
        | inl same ↦ ap (λ b. new.reads (data_sector k b part)) same ∙ c.in_ok-zero_block.ensures.zeroed told part inside
        | inr other ↦ elim (cases_lt j i) [
          | inl less ↦
              let out : is_part k (slice_index bs i) (data_sector k (slice_index bs j) part) ≡ false = elim (cases_Bool (is_part k (slice_index bs i) (data_sector k (slice_index bs j) part))) [
                | inl e ↦
                    let at = part_inside (data_sector k (slice_index bs i) 0) k.sectors (data_sector k (slice_index bs j) part) e in
                    absurd (parts_apart k (slice_index bs j) (slice_index bs i) part (data_sector k (slice_index bs j) part - data_sector k (slice_index bs i) 0) inside (omega (arith, at.0, at.1)) other (omega (arith, at.0, at.1)))
                | inr e ↦ e
              ] in
              (c.zero_block.ensures.confined told).reads (data_sector k (slice_index bs j) part) out ∙ c.loop-index.invariant.zeroed told j part less inside
          | inr more ↦ absurd (other (ap (slice_index bs) (omega arith)))
        ]
      ];
      confined = λ told. confined_joined (is_data k bs) (view c.args.dev.now) (view c.loop-index.dev) new (c.loop-index.invariant.confined told)
          (confined_wider (is_part k (slice_index bs i)) (is_data k bs) (view c.loop-index.dev) new (λ n out. data_wider k bs i n c.loop-index-test.true out) (c.zero_block.ensures.confined told));
      uses = uses_more (k.sectors * i) k.sectors (k.sectors * (i + 1)) (view c.args.dev.now) (view c.loop-index.dev) new (omega arith) c.loop-index.invariant.uses c.zero_block.ensures.uses;
      faultless = c.in_ok-zero_block.ensures.faults ∙ c.loop-index.invariant.faultless;
    }

pub returns-clause-zeroed : goal.returns-clause-zeroed
returns-clause-zeroed g c told = λ b part in_ inside.
    let at = number_at c.args.blocks.now b in_ in
    let less = at.1 in
    ap (λ k. (g.D.Device.view c.loop-index.dev).reads (data_sector c.args.layout.now.geometry k part)) (sym at.2) ∙ c.loop-index.invariant.zeroed told at.0 part (omega (arith, less, c.loop-index-test.false)) inside
