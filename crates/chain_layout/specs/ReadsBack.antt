-- What is written as a cluster is read as that cluster.
use Rattle.std.specs.Prelude.{◌≡◌, ℕ, ◌^◌, ◌<◌, ◌≤◌, true, nat_lt, List, ◌++◌, length, take, Option, Some, IsTrue}
use Rattle.std.specs.List.{list_all}
use Rattle.std.specs.Option.{option_and_then}
use Rattle.fs_trees.specs.Fields.{Entry, all_named}
use Rattle.fs_trees.specs.Cluster.{Cluster, cluster_in, link_field, entries_of, entries_room, cluster_bytes}
use Rattle.fs_trees.specs.Cluster.{directory_bytes, part_bytes}
use Rattle.chain_layout.specs.Listed.{entry_blocks}

-- numbers of four bytes
abbrev pub HaveFourBytes : List ℕ → Type 0
HaveFourBytes ns = IsTrue (list_all (λ n. nat_lt n (2 ^ 32)) ns)

abbrev pub is_linked : Option ℕ → Type 0
is_linked next = link_field next < 2 ^ 32

-- the head that was written, and all that stands behind it
abbrev pub HeadReadsBack : Type 0
HeadReadsBack =
    (next : Option ℕ) (used : ℕ) (body rest : List ℕ) → is_linked next → used < 2 ^ 32
    → cluster_in (cluster_bytes next used body ++ rest)
    ≡ Some (record { next = next; used = used; body = body ++ rest })

-- the entries of a cluster of the directory, where they are named and there is room for them, whatever stands behind
abbrev pub EntriesReadBack : Type 0
EntriesReadBack =
    (len : ℕ) (next : Option ℕ) (es : List Entry) (rest : List ℕ)
    → is_linked next → length es < 2 ^ 32 → length es ≤ entries_room len → all_named es ≡ true
    → HaveFourBytes (entry_blocks es)
    → option_and_then (entries_of len) (cluster_in (directory_bytes next es ++ rest)) ≡ Some es

-- the bytes of a file's cluster, whatever stands behind
abbrev pub PartReadsBack : Type 0
PartReadsBack =
    (next : Option ℕ) (x rest : List ℕ) → is_linked next → length x < 2 ^ 32
    → (c : Cluster) → cluster_in (part_bytes next x ++ rest) ≡ Some c → take c.used c.body ≡ x
