-- A tree of chains whose clusters let go of what they don't name, one after the other.
use Rattle.std.specs.Prelude.{◌≡◌, ℕ, ◌⊎◌, List, [], ◌∷◌, Some, unwrap_or, IsTrue}
use Rattle.tsd_model.specs.Geometry.{block_len}
use Rattle.tsd_model.specs.World.{World, has_number, are_apart}
use Rattle.tsd_model.specs.Pairs.{holds}
use Rattle.fs_trees.specs.ChainTree.{Link, ChainFile, Chains, blocks_of, chain_blocks, chains_under}
use Rattle.fs_trees.specs.Layouts.{Named, by_chains}
use Rattle.fs_laws.specs.Stays.{IsUnder}
use Rattle.fs_laws.specs.Ways.{HoldsWrite}
use Rattle.fs_port.specs.View.{DiskView, state_of}
use Rattle.fs_port.specs.Calls.{IsValidNow}
use Rattle.fs_port.specs.Files.{IsClientReady}
use Rattle.fs_client.specs.declared.client.Client.{Client}
use Rattle.fs_client.specs.May.{MayWrite}
use Rattle.fs_client.specs.Trimming.{IsWay}
use Rattle.chain_reading.specs.Chained.{PlacedEntry, IsChain, AreEntries, AreFiles}
use Rattle.chain_reading.specs.Asking.{mounted_by}
use Rattle.chain_reading.specs.Standing.{IsPage}
use Rattle.chain_reading.specs.declared.walking.Page.{Page}

-- what chains name
abbrev pub named_of : Chains → Named
named_of k = by_chains (Some k)

-- it is one of these
abbrev pub IsIn : {X : Type 0} → X → List X → Type 0
IsIn x [] = ⊥
IsIn x (y ∷ ys) = (y ≡ x) ⊎ IsIn x ys

-- a chain begins with this block
abbrev pub BeginsAt : ℕ → List Link → Type 0
BeginsAt b ls = (bs : List ℕ) × (blocks_of ls ≡ b ∷ bs)

-- These are the chains under the client's root.
pub record AreChainsUnder (c : Client) (k : Chains) (v : DiskView) : Type 0 where
  pub under : IsUnder v.world c.root (named_of k)
  pub directory : IsChain v.world c.root k.directory
  -- the directory's entries, and their files
  pub entries : List PlacedEntry
  pub in_order : AreEntries (block_len v.world.geometry) k.directory entries
  pub files : AreFiles v.world entries k.files
  pub apart : IsTrue (are_apart (chain_blocks k))

-- out of none of these blocks a pair leads that isn't named
abbrev pub AreClean : Named → World → List ℕ → Type 0
AreClean n w bs = (a : ℕ) → IsTrue (has_number bs a) → (b : ℕ) → IsTrue (holds w.pairs a b) → IsTrue (holds n.pairs a b)

-- before the whole tree is tidied
pub record MayTidy (told : Type 0) (c : Client) (k : Chains) (v : DiskView) : Type 0 where
  pub ready : IsClientReady (mounted_by c) v
  pub valid : told → IsValidNow v
  pub stands : told → AreChainsUnder c k v

-- a file that begins at this block, of an entry in a cluster that the session may write
pub record IsFileHere (c : Client) (k : Chains) (v : DiskView) (b : ℕ) (f : ChainFile) : Type 0 where
  pub one : IsIn f k.files
  pub begins : BeginsAt b f.chain
  pub held : HoldsWrite (state_of v) c.session f.from

pub record MayTidyFile (told : Type 0) (c : Client) (k : Chains) (v : DiskView) (b : ℕ) : Type 0 where
  pub tree : MayTidy told c k v
  pub file : told → (f : ChainFile) × IsFileHere c k v b f

-- a cluster of the directory that was read
pub record IsPageHere (c : Client) (k : Chains) (v : DiskView) (page : Page) : Type 0 where
  pub read : IsPage v.world page.block page
  pub one : IsTrue (has_number (blocks_of k.directory) page.block)
  pub way : IsWay c (named_of k) v page.block
  pub may : MayWrite c v page.block
  pub held : HoldsWrite (state_of v) c.session page.block

pub record MayTidyPage (told : Type 0) (c : Client) (k : Chains) (v : DiskView) (page : Page) : Type 0 where
  pub tree : MayTidy told c k v
  pub here : told → IsPageHere c k v page

-- the files of entries in this cluster of the directory are clean
abbrev pub FilesAreClean : Chains → World → ℕ → Type 0
FilesAreClean k w a = (f : ChainFile) → IsIn f k.files → f.from ≡ a → AreClean (named_of k) w (blocks_of f.chain)

-- ---- mounting

-- the chains under a root; none where no tree is there
abbrev pub chains_of : World → ℕ → Chains
chains_of w root = unwrap_or (chains_under w root) (record { directory = []; files = [] })
