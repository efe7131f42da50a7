use Rattle.std.specs.Map.{lookup}
use Rattle.std.proofs.Common.{nat_eq, ◌∙◌, ap, rules}
use Rattle.std.proofs.lemmas.Map.Made.{lookup-map_values, map_same_pairs}
use Rattle.image_device.specs.Cells.{settled_cell}
use Rattle.image_device.proofs.keep.settle_all.Goals as goal

pub returns : goal.returns
returns c n =
    let settle = settled_cell c.args.pick c.args.synced in
    ap (lookup (nat_eq n)) (map_same_pairs _ settle _ (λ k v b w f' t. search rules) _ _ c.retain.ensures.filtered) ∙ lookup-map_values settle (nat_eq n) c.args.cells.now.entries
