use Rattle.std.proofs.Common.{◌≡◌, length, sym, ◌∙◌, ap}
use Rattle.volume.proofs.Common.{World, doomed, Tables, graph_of, graph_in, Volume, same_graph, are_tables, have_counts, none_owed}
use Rattle.volume.proofs.volume.Volume.next.Goals as goal

pub find_step-requires-clause-tables : goal.find_step-requires-clause-tables
find_step-requires-clause-tables c = let i = c.self.inside in are_tables i.header i.pointers i.counts i.live i.caps i.is_sweeping (length i.marks) i.ahead i.is_ready c.self.invariant

pub find_step-requires-clause-counts : goal.find_step-requires-clause-counts
find_step-requires-clause-counts c = let i = c.self.inside in have_counts i.header i.pointers i.counts i.live i.caps i.is_sweeping (length i.marks) i.ahead i.is_ready c.self.invariant

pub returns-clause-none : goal.returns-clause-none
returns-clause-none c =
    let i = c.self.inside in
    let v = c.self.invariant in
    let is = ap (λ (w : Volume). w.tables) c.self.view_is in
    let same : doomed (graph_in c.args.self.now.tables) ≡ doomed (graph_of i.pointers i.live) = ap (λ (t : Tables). doomed (graph_in t)) (sym is) ∙ ap (λ (w : World). doomed w) (same_graph i.header i.pointers i.counts i.live i.caps i.is_sweeping (length i.marks) i.ahead i.is_ready v) in
    let owes = none_owed c.args.self.now.tables in
    (λ none. owes.1 (same ∙ c.find_step.ensures.none.0 none), λ none. c.find_step.ensures.none.1 (sym same ∙ owes.0 none))
