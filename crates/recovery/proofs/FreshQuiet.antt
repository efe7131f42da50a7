-- Formatting leaves nothing to be done.
use Rattle.std.proofs.Common.{◌≡◌, ℕ, ◌≤◌, false, List, length, sym, ◌∙◌, ap, subst, arith}
use Rattle.recovery.proofs.Common.{both_ways, nat_tests, CapPair, Geometry, IsLawful, fresh_live, Image, fresh_tables, IsWrittenFresh, Tables, tables_of, pairs_of, fresh_sound, home, opened_none, home_of_empty, graph_in, owed, IsQuiet}
use Rattle.tsd_model.specs.World.{is_live}
use Rattle.block_alloc.specs.LiveMap.{is_live as is_marked_in}
use Rattle.block_alloc.proofs.FreshLaws.{fresh_at}
use Rattle.graph_laws.specs.Settling.{EachIsLedTo}
use Rattle.graph_laws.proofs.SettleLaws.{led_has_none}
use Rattle.graph_laws.proofs.ToldLaws.{live-graph}
use Rattle.image_world.specs.Sound.{HasTables, AreSound}
use Rattle.image_world.proofs.SoundLaws.{has_one}
use Rattle.volume_laws.proofs.TableWorlds.{none_owed}

pub fresh_quiet : (g : Geometry) (caps : List CapPair) (x : Image) → IsLawful g → length caps ≡ g.primaries → IsWrittenFresh g caps x → IsQuiet x
fresh_quiet g caps x lawful each fresh = record {
  closed = fresh.closed;
  still = ap (λ (u : Tables). u.is_sweeping) here;
  settled = ap owed here ∙ (none_owed t).1 (led_has_none (graph_in t) led);
}
  where
    t : Tables
    t = fresh_tables g caps

    sound : AreSound t
    sound = fresh_sound g caps lawful each

    at : home x ≡ x
    at = home_of_empty x (opened_none x (fresh.closed 0 (omega arith))).0

    here : tables_of (home x) ≡ t
    here = has_one t (home x) sound (subst (HasTables t) (sym at) fresh.tables)

    free : (b : ℕ) → g.primaries ≤ b → is_marked_in (fresh_live g) b ≡ false
    free b apart = fresh_at g b ∙ grind (arith, nat_tests)

    -- each live block is primary
    led : EachIsLedTo (graph_in t)
    led b apart live = absurd (both_ways (is_live (graph_in t) b) (live-graph g (fresh_live g) (pairs_of t) sound.each_block b ∙ free b apart) live)
