-- Where reading a file goes on.
use Rattle.std.specs.Prelude.{◌≡◌, ℕ, ◌≤◌, true, List, length, drop, Option, Some, None, IsTrue}
use Rattle.tsd_model.specs.Geometry.{block_len}
use Rattle.tsd_model.specs.World.{is_live}
use Rattle.tsd_model.specs.Pairs.{holds}
use Rattle.tsd_model.specs.Sessions.{sessions_max, is_open}
use Rattle.tsd_model.specs.Step.{State}
use Rattle.fs_trees.specs.Names.{Path}
use Rattle.fs_trees.specs.Tree.{a_file, at}
use Rattle.fs_trees.specs.Cluster.{bytes_room}
use Rattle.fs_trees.specs.ChainTree.{Link, blocks_of, chain_bytes, chain_tree, is_filled, links}
use Rattle.fs_laws.specs.Ways.{attains_write}
use Rattle.fs_walks.specs.declared.place.Place.{Place}
use Rattle.fs_client.specs.Client.{shown_at}
use Rattle.fs_client.specs.declared.client.Client.{Client}
use Rattle.chain_reading.specs.Chained.{IsFrom}
use Rattle.chain_reading.specs.Finding.{no_file_found}

-- Of a file these clusters are left, from this block on, while the disk stays in this state: each is pointed to by the
-- one before, and the session may write the first.
pub record IsRestAt (c : Client) (st : State) (b : ℕ) (ls : List Link) : Type 0 where
  pub rest : IsFrom st.world (Some b) ls
  pub held : (x y : ℕ) → holds (links (blocks_of ls)) x y ≡ true → holds st.world.pairs x y ≡ true
  pub filled : is_filled (bytes_room (block_len st.world.geometry)) ls ≡ true
  pub short : length ls ≤ st.world.geometry.blocks
  pub number : c.session ≤ sessions_max
  pub begun : IsTrue (is_open st.sessions c.session)
  pub live : IsTrue (is_live st.world b)
  pub attains : IsTrue (attains_write st c.session b (shown_at c b))

-- the place leads to what these bytes of a file are from an offset on
pub record IsPlaceIn (c : Client) (st : State) (x : List ℕ) (start : ℕ) (p : Place) : Type 0 where
  pub left : List Link
  pub ahead : IsRestAt c st p.block left
  pub bytes : drop start x ≡ drop p.read (chain_bytes left)

-- the same of the file at a path, which can be read
pub record Leads (c : Client) (st : State) (path : Path) (start : ℕ) (p : Place) : Type 0 where
  pub file : List ℕ
  pub there : at (chain_tree st.world c.root) path ≡ a_file file
  pub found : no_file_found (chain_tree st.world c.root) path ≡ None
  pub place : IsPlaceIn c st file start p
