use Rattle.std.proofs.Common.{◌∙◌, ◌<◌, ap, sym, arith, length, take, cond, ◌++◌, ◌∷◌, [], ℕ, List, Bool}
use Rattle.tsd_model.proofs.TakeLaws.{pushed_with_room, not_pushed, nothing_pushed}
use Rattle.tsd_model.proofs.lists.BlockList.push_wanted.Goals as goal
use Rattle.tsd_model.proofs.lists.BlockList.push_wanted.Goals.{else-wanted-via-then-wanted+else-len-lt-BLOCKS_MAX, else-wanted-via-else-wanted}

pub returns-then-len-lt-BLOCKS_MAX : goal.returns-then-len-lt-BLOCKS_MAX
returns-then-len-lt-BLOCKS_MAX c =
    let xs : List ℕ = c.args.self.now in
    let item : ℕ = c.args.item in
    let with : Bool → List ℕ = λ t. take 64 (xs ++ cond t (item ∷ []) []) in
    let room : length xs < 64 = omega (arith, c.if-len-lt-BLOCKS_MAX.true, c.len-len.ensures.value) in
    c.push.ensures.items ∙ (ap (λ ys. ys ++ item ∷ []) c.self.view_is ∙ (pushed_with_room xs item room ∙ ap with (sym c.if-wanted.true)))

pub returns-else-wanted : goal.returns-else-wanted
returns-else-wanted c =
    let xs : List ℕ = c.args.self.now in
    let item : ℕ = c.args.item in
    let with : Bool → List ℕ = λ t. take 64 (xs ++ cond t (item ∷ []) []) in
    elim c.else-wanted.branch [
      | else-wanted-via-then-wanted+else-len-lt-BLOCKS_MAX w ↦ not_pushed xs (cond c.args.wanted (item ∷ []) []) (omega (arith, w.if-len-lt-BLOCKS_MAX.false, c.len-len.ensures.value, c.len-len.ensures.fits))
      | else-wanted-via-else-wanted w ↦ nothing_pushed xs (omega (arith, c.len-len.ensures.value, c.len-len.ensures.fits)) ∙ ap with (sym w.if-wanted.false)
    ]
