-- What a look at chains comes to, block by block, as the call goes.
use Rattle.std.specs.Prelude.{◌≡◌, ℕ, zero, suc, ◌+◌, ◌==◌, Bool, true, false, cond, ◌&&◌, ◌||◌, nat_lt, nat_le, List}
use Rattle.std.specs.Prelude.{[], ◌∷◌, ◌++◌, length, Option, Some, None, is_none}
use Rattle.std.specs.Option.{option_and_then}
use Rattle.tsd_model.specs.Geometry.{block_len}
use Rattle.tsd_model.specs.World.{World, has_number}
use Rattle.fs_trees.specs.Fields.{only_if, Entry}
use Rattle.fs_trees.specs.Cluster.{Cluster, entries_of, bytes_room}
use Rattle.fs_trees.specs.ChainTree.{cluster_at, names_max}
use Rattle.fs_laws.specs.Ways.{HoldsWrite}
use Rattle.fs_port.specs.View.{DiskView, state_of}
use Rattle.fs_client.specs.declared.client.Client.{Client}
use Rattle.fs_client.specs.Held.{are_held}
use Rattle.fs_client.specs.Marked.{Agrees}
use Rattle.fs_client.specs.declared.block_set.BlockSet.{BlockSet}
use Rattle.chain_layout.specs.Block.{cluster_of}
use Rattle.chain_layout.specs.Held.{dir_cluster, entries_in, part_cluster}
use Rattle.chain_layout.specs.Listed.{next_blocks, entry_blocks}
use Rattle.chain_reading.specs.declared.walking.Page.{Page}
use Rattle.chain_reading.specs.declared.walking.Part.{Part}

-- ---- one cluster of a file

-- it is full where another one follows, and not empty but where it is the first
abbrev pub is_part_filled : ℕ → Bool → Cluster → Bool
is_part_filled room first c = (first || nat_lt 0 c.used) && (is_none c.next || (c.used == room))

-- it has as many bytes as it has to, and points to the next one
abbrev pub is_part_right : World → Bool → ℕ → Cluster → Bool
is_part_right w first b c =
    (nat_le c.used (bytes_room (block_len w.geometry)) && is_part_filled (bytes_room (block_len w.geometry)) first c)
    && are_held w b (next_blocks c.next)

abbrev pub if_part : World → Bool → ℕ → Cluster → Option Cluster
if_part w first b c = only_if (is_part_right w first b c) (λ _. Some c)

-- the cluster of a file in a block, where it is right by itself
abbrev pub part_seen : World → Bool → ℕ → Option Cluster
part_seen w first b = option_and_then (if_part w first b) (cluster_at w b)

-- ---- one cluster of the directory

-- what it says, with its entries
pub record ListedCluster : Type 0 where
  pub cluster : Cluster
  pub entries : List Entry

abbrev pub blocks_listed : ListedCluster → List ℕ
blocks_listed p = next_blocks p.cluster.next ++ entry_blocks p.entries

-- where it points to all that it names, and names none twice
abbrev pub if_page : World → ℕ → ListedCluster → Option ListedCluster
if_page w b p = only_if (are_held w b (blocks_listed p)) (λ _. Some p)

abbrev pub page_of : World → ℕ → Cluster → Option ListedCluster
page_of w b c =
    option_and_then (λ es. if_page w b (record { cluster = c; entries = es })) (entries_of (block_len w.geometry) c)

-- the cluster of the directory in a block, where it is right by itself
abbrev pub page_seen : World → ℕ → Option ListedCluster
page_seen w b = option_and_then (page_of w b) (cluster_at w b)

-- ---- chains: the blocks that were come to before, and then those with the chain's, where all is right

abbrev pub go_on : (ℕ → List ℕ → Option (List ℕ)) → List ℕ → Option ℕ → Option (List ℕ)
go_on follow s None = Some s
go_on follow s (Some d) = follow d s

abbrev pub file_by : (ℕ → List ℕ → Option (List ℕ)) → List ℕ → Option Cluster → Option (List ℕ)
file_by follow s None = None
file_by follow s (Some c) = go_on follow s c.next

-- a file's clusters from a block on, at most so many, from its first one on or behind it
abbrev pub file_from : World → ℕ → Bool → ℕ → List ℕ → Option (List ℕ)
file_from w zero first b s = None
file_from w (suc more) first b s =
    cond (has_number s b) None (file_by (λ d t. file_from w more false d t) (b ∷ s) (part_seen w first b))

-- files that begin at these blocks
abbrev pub files_from : World → List ℕ → List ℕ → Option (List ℕ)
files_from w [] s = Some s
files_from w (b ∷ bs) s = option_and_then (λ t. files_from w bs t) (file_from w w.geometry.blocks true b s)

abbrev pub page_on : (ℕ → ℕ → List ℕ → Option (List ℕ)) → Option ℕ → ℕ → Option (List ℕ) → Option (List ℕ)
page_on follow next count None = None
page_on follow None count (Some s) = only_if (nat_le count names_max) (λ _. Some s)
page_on follow (Some d) count (Some s) = follow d count s

abbrev pub directory_by : World → (ℕ → ℕ → List ℕ → Option (List ℕ)) → ℕ → List ℕ → Option ListedCluster
    → Option (List ℕ)
directory_by w follow count s None = None
directory_by w follow count s (Some p) =
    page_on follow p.cluster.next (count + length p.entries) (files_from w (entry_blocks p.entries) s)

-- the directory's clusters from a block on, at most so many, behind so many entries, each with the files of its entries
abbrev pub directory_from : World → ℕ → ℕ → ℕ → List ℕ → Option (List ℕ)
directory_from w zero b count s = None
directory_from w (suc more) b count s =
    cond (has_number s b) None (directory_by w (λ d k t. directory_from w more d k t) count (b ∷ s) (page_seen w b))

-- ---- told

-- the result tells whether all is right, and then the set has what was come to
abbrev pub Comes : BlockSet → Option (List ℕ) → Bool → Type 0
Comes m None result = result ≡ false
Comes m (Some s) result = (result ≡ true) × Agrees m s

-- a cluster of a file was read that is right by itself, or none is there
abbrev pub IsPartSeenAt : Client → DiskView → DiskView → Bool → ℕ → Option Part → Type 0
IsPartSeenAt c old new first b None = part_seen old.world first b ≡ None
IsPartSeenAt c old new first b (Some part) =
    (part_seen old.world first b ≡ Some (cluster_of (part_cluster part.cluster)))
    × HoldsWrite (state_of new) c.session b

abbrev pub listed_in : Page → ListedCluster
listed_in page = record { cluster = cluster_of (dir_cluster page.cluster); entries = entries_in page.cluster }

-- the same of the directory
abbrev pub IsPageSeenAt : Client → DiskView → DiskView → ℕ → Option Page → Type 0
IsPageSeenAt c old new b None = page_seen old.world b ≡ None
IsPageSeenAt c old new b (Some page) = (page_seen old.world b ≡ Some (listed_in page))
    × HoldsWrite (state_of new) c.session b
