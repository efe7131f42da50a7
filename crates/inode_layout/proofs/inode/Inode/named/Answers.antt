use Rattle.std.proofs.Common.{◌*◌, length, ◌∙◌, ap, arith}
use Rattle.std.specs.Prelude.{drop}
use Rattle.byteorder.specs.Endian.{little_number}
use Rattle.inode_layout.specs.Block.{body_of}
use Rattle.inode_layout.proofs.HeadLaws.{length-blocks, block_at, item_within}
use Rattle.inode_layout.proofs.inode.Inode.named.Goals as goal

pub overflow_mul-item_bytes : goal.overflow_mul-item_bytes
overflow_mul-item_bytes c =
    let i = c.args.self.now in
    let count = length-blocks i.kind i.amount i.count (body_of i) in
    let within = item_within i.kind i.count c.args.position (length i.bytes) (omega (arith, c.requires, count)) i.fits in
    let same = ap (λ k. k * c.args.position) c.item_bytes.ensures in
    omega (arith, within, same, c.body.ensures.fits)

pub number_at-requires : goal.number_at-requires
number_at-requires c =
    let i = c.args.self.now in
    let count = length-blocks i.kind i.amount i.count (body_of i) in
    let within = item_within i.kind i.count c.args.position (length i.bytes) (omega (arith, c.requires, count)) i.fits in
    let same = ap (λ k. k * c.args.position) c.item_bytes.ensures in
    omega (arith, within, same, c.body.ensures.whole)

pub returns : goal.returns
returns c =
    let i = c.args.self.now in
    let count = length-blocks i.kind i.amount i.count (body_of i) in
    c.number_at.ensures
    ∙ (ap (λ b. little_number 4 (drop (c.item_bytes.result * c.args.position) b)) c.body.ensures.value
    ∙ (ap (λ k. little_number 4 (drop (k * c.args.position) (body_of i))) c.item_bytes.ensures
    ∙ block_at i.kind i.amount i.count c.args.position (body_of i) (omega (arith, c.requires, count))))
