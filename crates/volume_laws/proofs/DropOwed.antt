-- What is owed once a pair is deleted.
use Rattle.std.proofs.Common.{◌≡◌, ℕ, ◌+◌, ◌*◌, ◌≤◌, true, List, length, ◌∙◌, ap, arith, Result, Ok, Err}
use Rattle.volume_laws.proofs.Common.{OnOk, holds, without_pair, World, free_count, doomed, settle, without_pointer, Uses, View, Patch, JournalRecord, committed, commit_writes, checkpoint_writes, pairs_in, free_count_by_graph, settle_by_graph, length-settle, free_count-settle, doomed_size, Tables, pairs_of, blank_of, graph_in, owed, made, Volume, batch_cost, lost_cost, IsPaid}
use Rattle.std.specs.Prelude.{Option}
use Rattle.graph_laws.proofs.DropLaws.{delete_dooms}
use Rattle.volume_laws.proofs.Costs.{commit_pays}
use Rattle.volume_laws.proofs.Dropped.{less_slots, HoldsPair}
use Rattle.volume_laws.proofs.TableWorlds.{graph_laid_out, told_graph, less_graph, size_by_graph, told_held}

module _ (t : Tables) (slots : List (Option (ℕ × ℕ))) (a b : ℕ) (o : HoldsPair t a b) (pairs : pairs_in slots ≡ without_pair a b (pairs_of t)) where
  abbrev raw : World
  raw = graph_in t

  abbrev then_less : World
  then_less = without_pointer (settle raw) a b

  held : holds (settle raw).pairs a b ≡ true
  held = told_held t a b o.still o.held

  pub owed_dropped : owed (less_slots t slots b) + 1 ≡ owed t + made (blank_of t) a b
  owed_dropped =
      let now : owed (less_slots t slots b) ≡ doomed_size (without_pointer raw a b) = (λ i. doomed_size (record raw { pairs = pairs i })) in
      let besides = delete_dooms raw a b (graph_laid_out t) held in
      let told = size_by_graph (without_pointer (blank_of t) a b) then_less (less_graph (blank_of t) (settle raw) a b (told_graph t o.still)) in
      omega (arith, now, besides.blocks, besides.pairs, told)

  -- as many blocks became doomed as are free then
  pub drop_counted : (length (doomed (graph_in (less_slots t slots b))) + free_count (blank_of t) ≡ length (doomed raw) + free_count (settle (without_pointer (blank_of t) a b)))
      × (length (doomed raw) ≤ length (doomed (graph_in (less_slots t slots b))))
  drop_counted =
      let now : length (doomed (graph_in (less_slots t slots b))) ≡ length (doomed (without_pointer raw a b)) = (λ i. length (doomed (record raw { pairs = pairs i }))) in
      let besides = delete_dooms raw a b (graph_laid_out t) held in
      let free = free_count_by_graph (blank_of t) (settle raw) (told_graph t o.still) in
      let less = less_graph (blank_of t) (settle raw) a b (told_graph t o.still) in
      let left = free_count_by_graph (settle (without_pointer (blank_of t) a b)) (settle then_less) (settle_by_graph (without_pointer (blank_of t) a b) then_less less) in
      let count = free_count-settle then_less (length-settle raw ∙ (graph_laid_out t).each_block) in
      let same : free_count then_less ≡ free_count (settle raw) = λ i. free_count then_less in
      (omega (arith, now, besides.blocks, free, left, count, same), omega (arith, now, besides.blocks))

-- ---- costs
pub drop_paid : {T E : Type 0} (r : Result T E) (vol now : Volume) (rs : List JournalRecord) (old new : View) (batch : List Patch) (more : ℕ) → length batch ≤ 2 → owed now.tables + 1 ≡ owed vol.tables + more
    → rs ≡ vol.ring → Uses (commit_writes rs batch) old new → OnOk r (now.ring ≡ committed rs batch) → OnOk r (IsPaid (batch_cost 2 + lost_cost * more) vol old now new)
drop_paid (Ok u) vol now rs old new batch more few owes is uses records =
    let e : checkpoint_writes now.ring ≡ checkpoint_writes (committed rs batch) = ap checkpoint_writes records in
    let same : checkpoint_writes rs ≡ checkpoint_writes vol.ring = ap checkpoint_writes is in
    omega (arith, e, same, commit_pays rs batch, uses.most, owes, few)
drop_paid (Err f) vol now rs old new batch more few owes is uses records = tt
