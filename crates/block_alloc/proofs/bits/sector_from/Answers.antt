use Rattle.std.proofs.Common.{◌≡◌, ◌-◌, take, drop, min, length, ap, ◌∙◌}
use Rattle.block_alloc.proofs.Common.{take_rest, length-drop}
use Rattle.block_alloc.proofs.ByteLaws.{copied}
use Rattle.block_alloc.proofs.bits.sector_from.Goals as goal

pub returns-clause-bytes : goal.returns-clause-bytes
returns-clause-bytes c = λ i h.
    let bytes = c.args.bytes.now in let first = c.args.first in let len = c.min-len.result in
    let rest = take_rest bytes first in
    let most : len ≡ min (length bytes - first) 512 = c.min-len.ensures ∙ (ap (λ xs. min (length xs) 512) rest ∙ ap (λ n. min n 512) (length-drop first bytes)) in
    let is : c.copy_from_slice.new.self ≡ take len (drop first bytes) = c.copy_from_slice.ensures.after ∙ ap (take len) rest in
    copied bytes c.copy_from_slice.new.self first len i c.requires most is h
