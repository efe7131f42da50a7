use Rattle.std.specs.Map.{lookup}
use Rattle.std.proofs.Common.{nat_eq, length, ap, subst, sym, arith}
use Rattle.image_device.specs.Cells.{cell_or_blank, IsWholeCell}
use Rattle.image_device.proofs.Cells.{fresh_agrees}
use Rattle.image_device.proofs.Sectors.{zeros_whole}
use Rattle.image_device.proofs.mem.MemStation.new.Goals as goal

pub invariant_of-result-clause-whole : goal.invariant_of-result-clause-whole
invariant_of-result-clause-whole c n =
    subst (λ o. IsWholeCell (length c.new-2.result.items) (cell_or_blank o)) (sym (ap (lookup (nat_eq n)) c.new.ensures.empty)) (record { last = zeros_whole; firm = zeros_whole; within = omega arith })

pub invariant_of-result-clause-agrees : goal.invariant_of-result-clause-agrees
invariant_of-result-clause-agrees c = fresh_agrees _ _ _ c.new-2.ensures.items c.new-3.ensures.items (λ n. ap (lookup (nat_eq n)) c.new.ensures.empty)
