-- Names that come next, of names in no order.
use Rattle.std.specs.Prelude.{ℕ, zero, suc, cond, List, [], ◌∷◌, Option, Some, None}
use Rattle.fs_trees.specs.Names.{Name, name_lt}
use Rattle.chain_layout.specs.Listed.{least_above}

-- a name and those that follow on it; none where there is none
abbrev pub and_on : (Name → List Name) → Option Name → List Name
and_on follow None = []
and_on follow (Some n) = n ∷ follow n

-- so many of the names that stand above one, from the least on
abbrev pub least_names : ℕ → Name → List Name → List Name
least_names zero after ns = []
least_names (suc more) after ns = and_on (λ n. least_names more n ns) (least_above after ns)

-- ascending names and one more, which stands among them once
abbrev pub with_name : Name → List Name → List Name
with_name m [] = m ∷ []
with_name m (n ∷ ns) = cond (name_lt m n) (m ∷ n ∷ ns) (cond (name_lt n m) (n ∷ with_name m ns) (n ∷ ns))
