-- What a call that may change a tree asks for, of either layout, and what refuses it.
use Rattle.std.specs.Prelude.{◌≡◌, ◌≤◌, ℕ, true, List, [], ◌∷◌, length, Option, Some}
use Rattle.tsd_model.specs.Geometry.{block_len}
use Rattle.tsd_model.specs.World.{World, free_count}
use Rattle.fs_trees.specs.Names.{Path}
use Rattle.fs_trees.specs.Tree.{Tree}
use Rattle.fs_trees.specs.Layouts.{tree_at, named_at}
use Rattle.fs_trees.specs.Needs.{need_of}
use Rattle.fs_trees.specs.Refusals.{lost_on_the_way, refusal}
use Rattle.fs_trees.specs.Step.{empty_tree}
use Rattle.fs_trees.specs.declared.ask.ShellAsk.{ShellAsk}
use Rattle.fs_trees.specs.declared.ask.ShellKind.{ShellKind}
use Rattle.fs_trees.specs.declared.refusal.FsRefusal.{FsRefusal}
use Rattle.fs_port.specs.View.{DiskView}
use Rattle.fs_port.specs.Calls.{IsValidNow}
use Rattle.fs_port.specs.Files.{FilesView, IsClientReady, tree_on}
use Rattle.fs_client.specs.declared.client.Client.{Client}
use Rattle.tsd_model.specs.Step.{written}
use Rattle.fs_client.specs.Trimming.{root_alone}

-- the file system of a client, of this layout, where a tree is mounted
abbrev pub files_by : ShellKind → Client → FilesView
files_by kind c = record { kind = kind; root = c.root; cap = c.cap; session = c.session; mounted = true }

-- ---- making

-- the tree is empty, and nothing but the root is named
pub record IsEmptied (kind : ShellKind) (w : World) (root : ℕ) : Type 0 where
  pub tree : tree_at kind w root ≡ empty_tree
  pub named : named_at kind w root ≡ root_alone root

-- before the root is written so that its tree is empty
pub record MayMake (told : Type 0) (kind : ShellKind) (c : Client) (v : DiskView) (bytes : List ℕ) : Type 0 where
  pub ready : IsClientReady (files_by kind c) v
  pub valid : told → IsValidNow v
  pub fits : told → length bytes ≤ block_len v.world.geometry
  pub empty : told → IsEmptied kind (written v.world c.root bytes) c.root

-- ---- asking

-- the refusal that applies first to an ask there
abbrev pub refused_on : FilesView → DiskView → ShellAsk → Option FsRefusal
refused_on f v a =
    refusal f.kind v.world.geometry (tree_on f v) (free_count v.world) (length v.world.pairs)
    (need_of f.kind v.world f.root (tree_on f v) a) a

-- why a path leads to no entry: `/` is none
abbrev pub lookup_refusal : Tree → Path → FsRefusal → Option FsRefusal
lookup_refusal t [] at_root = Some at_root
lookup_refusal t (n ∷ ns) at_root = lost_on_the_way t (n ∷ ns)
