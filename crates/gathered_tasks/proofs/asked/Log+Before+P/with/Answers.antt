-- The references that are looked at live as long as the call.
use Rattle.std.proofs.Common.{[], ◌++◌}
use base.Fml.{Lft}
use contract.BorrowLft.{◌⊑◌, ⊑_meet as meet, ⊑_static as none}
use Rattle.gathered_tasks.proofs.asked.Log+Before+P.with.Goals as goal

-- what there was lives as long as the device
held : (κ lives : Lft) → κ ⊑ lives → κ ⊑ ((lives ++ []) ++ (lives ++ []))
held κ lives of = meet κ (lives ++ []) (lives ++ []) (meet κ lives [] of (none κ)) (meet κ lives [] of (none κ))

pub of-requires : goal.of-requires
of-requires g c κs within =
    let κ : Lft = κs.1.1.0 in
    let w = within.0 in
    let of : κ ⊑ g.row.P.lives = within.1.1.0 in
    let one = held κ g.row.P.lives of in
    let log = meet κ _ _ w.0 (meet κ _ _ (meet κ _ _ one (none κ)) (meet κ _ _ (meet κ _ _ (meet κ _ _ one (none κ)) (none κ)) (none κ))) in
    let rest = meet κ _ _ (meet κ _ _ w.1.0 of) (meet κ _ _ (meet κ _ _ w.1.1.0 (none κ)) (meet κ _ _ (meet κ _ _ w.1.1.1.0 (none κ)) (meet κ _ _ (meet κ _ _ w.1.1.1.1.0 (none κ)) (none κ)))) in
    let all = meet κ _ _ log rest in
    (held κs.1.0 g.row.P.lives within.1.0, meet κ _ _ all all)
