use Rattle.std.proofs.Common.{◌≡◌, ◌-◌, length, take, insert, sym, ◌∙◌, ap, arith}
use Rattle.chain_reading.proofs.Common.{eqb-true}
use Rattle.chain_reading.proofs.PutLaws.{put_full, put_whole, room_left}
use Rattle.chain_reading.proofs.listing.put_at.Goals.{then-is_full, else-is_full}
use Rattle.chain_reading.proofs.listing.put_at.Goals as goal

pub returns : goal.returns
returns c =
    let xs = c.args.into.now.items in
    elim c.if-is_full.branch [
      | then-is_full w ↦
          let full : length xs ≡ 64 = eqb-true (length xs) 64 (sym c.is_full.ensures.value ∙ w.if-is_full.true) in
          put_full xs c.if-is_full.into.items c.insert.new.self.items c.args.position c.args.name (omega (arith, c.requires, full))
          (ap (λ v. v.items) w.into-is ∙ (w.pop.ensures.rest ∙ ap (λ n. take (n - 1) xs) full)) c.insert.ensures.items
      | else-is_full w ↦
          let same = ap (λ v. length v.items) w.into-is in
          let few = room_left (length xs) c.is_full.ensures.fits (sym c.is_full.ensures.value ∙ w.if-is_full.false) in
          put_whole (insert xs c.args.position c.args.name) c.insert.new.self.items (omega (arith, c.insert.ensures.len, same, few))
          (c.insert.ensures.items ∙ ap (λ v. insert v.items c.args.position c.args.name) w.into-is)
    ]
