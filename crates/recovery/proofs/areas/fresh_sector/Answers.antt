use Rattle.std.proofs.Common.{ℕ, ◌-◌, ◌<◌, ◌≤◌, ◌∙◌, ap, sym, arith}
use Rattle.recovery.proofs.Common.{Geometry, bitmap_start, slots_start, bitmap_sector_bytes, fresh_live}
use Rattle.recovery.proofs.AreaLaws.{bits_at, zeros_at}
use Rattle.recovery.proofs.areas.fresh_sector.Goals as goal
use Rattle.recovery.proofs.areas.fresh_sector.Goals.{else-sector-ge-CAPS_START-via-then-sector-ge-CAPS_START+else-sector-lt-COUNTS_START, else-sector-ge-CAPS_START-via-else-sector-ge-CAPS_START}
use Rattle.recovery.proofs.areas.fresh_sector.Goals.{else-bitmap-sector-via-then-bitmap-sector+else-sector-slots_start, else-bitmap-sector-via-else-bitmap-sector}

pub returns-then-sector-slots_start-clause-value : goal.returns-then-sector-slots_start-clause-value
returns-then-sector-slots_start-clause-value c =
    let k = c.args.layout.now.geometry in
    c.fresh_sector-then-sector-slots_start.ensures
    ∙ (ap (λ (n : ℕ). bitmap_sector_bytes (fresh_live k) (c.args.sector - n)) c.bitmap_start-bitmap.ensures
    ∙ sym (bits_at k c.args.caps.now c.args.sector (omega arith) (omega arith)))

pub returns-else-bitmap-sector-clause-value : goal.returns-else-bitmap-sector-clause-value
returns-else-bitmap-sector-clause-value c = sym (zeros_at k c.args.caps.now n no_caps no_bits)
  where
    k : Geometry
    k = c.args.layout.now.geometry

    n : ℕ
    n = c.args.sector

    no_caps : 132 ≤ n → n < 134 → ⊥
    no_caps a b = elim c.else-sector-ge-CAPS_START.branch [
      | else-sector-ge-CAPS_START-via-then-sector-ge-CAPS_START+else-sector-lt-COUNTS_START w ↦ omega arith
      | else-sector-ge-CAPS_START-via-else-sector-ge-CAPS_START w ↦ omega arith
    ]

    no_bits : bitmap_start k ≤ n → n < slots_start k → ⊥
    no_bits a b = elim c.else-bitmap-sector.branch [
      | else-bitmap-sector-via-then-bitmap-sector+else-sector-slots_start w ↦ omega arith
      | else-bitmap-sector-via-else-bitmap-sector w ↦ omega arith
    ]
