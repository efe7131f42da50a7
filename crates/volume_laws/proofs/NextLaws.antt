-- What reclamation needs to know of the tables in memory.
use Rattle.std.proofs.Common.{◌≡◌, ℕ, Bool, ◌<◌, sym, ◌∙◌, subst}
use Rattle.volume_laws.proofs.Common.{World, IsRawGraph, Geometry, graph, pairs, Pointers, Counts, LiveMap, Store, Header, Kept, graph_in, AreParts, tables_in}
use Rattle.reclaim.specs.Tables.{graph_of, AreTables, HaveCounts}
use Rattle.volume_laws.proofs.TableWorlds.{graph_raw}

module _ (h : Header) (p : Pointers) (k : Counts) (l : LiveMap) (s : Store) (is : Bool) (marks : ℕ) (a : Kept) (ready : Bool) (parts : AreParts h p k l s is marks a ready) where
  pub same_graph : graph_in (tables_in h p k l s is) ≡ graph_of p l
  same_graph i = graph (sym parts.pointers i) l.live (pairs p)

  pub are_tables : AreTables p l
  are_tables = record {
    geometry = parts.live ∙ sym parts.pointers;
    raw = subst (λ (w : World). IsRawGraph w) same_graph (graph_raw (tables_in h p k l s is) parts.sound);
  }

  pub have_counts : HaveCounts p l k
  have_counts = record {
    geometry = parts.counts ∙ sym parts.pointers;
    each = λ b below. parts.sound.counted b (subst (λ (g : Geometry). b < g.blocks) parts.pointers below);
  }
