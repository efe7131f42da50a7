-- Steps of a sweep, and its flag, as operations.
use Rattle.std.proofs.Common.{◌≡◌, ℕ, ◌+◌, ◌<◌, ◌≤◌, Bool, true, false, cond, inl, inr, List, [], ◌∷◌, length, refl, sym, ◌∙◌, ap, subst, arith, Result}
use Rattle.volume.proofs.Common.{OnOk, OnErr, is_none, cases_lt, both_ways, count_by-le-length, doomed, settle, reach, swept, World, free_count, has_number, sweep_flag, gate_bytes, Patch, with_patch, OutStep, MaySweep, AreSweptBy, HasGraphOf, graph_of_same, settle_none, world_with, left_of, AreSound, Tables, graph_in, owed, IsAllowed, IsStepPut, IsStepped, Turns, Volume, put_ok, any_bytes, IsOp, still_left, world_stepped, graph_stepped, world_graph, laid_out, graph_laid_out, graph_raw, same_doomed, none_owed, sweep_left}
use Rattle.graph_laws.specs.Steps.{stepped}
use Rattle.graph_laws.proofs.SweepLaws.{reach_follows, swept_has_none}
use Rattle.image_world.proofs.TurnLaws.{flag_turns}

-- ---- a step
-- an unreached block isn't primary
pub sweep_allowed : (t : Tables) (s : OutStep) → AreSound t → MaySweep (graph_in t) s → IsAllowed t s
sweep_allowed t s sound may = record {
  live = may.live;
  apart = elim (cases_lt s.block t.geometry.primaries) [
    | inl less ↦ absurd (both_ways (has_number (reach (graph_in t)) s.block) may.unreached ((reach_follows (graph_in t) (graph_raw t sound)).first s.block less))
    | inr from ↦ from
  ];
  step = may.step;
  few = may.few;
}

pub sweeping_left : (t : Tables) (w : World) → t.is_sweeping ≡ true → left_of t w ≡ swept w
unfolding left_of
sweeping_left t w sweeping = rw sweeping refl

sweep_step_left : (t now : Tables) (s : OutStep) (c : ℕ → List ℕ) → t.is_sweeping ≡ true → AreSweptBy (graph_in t) s → IsStepped t now s.block s.targets s.freed → left_of now (world_with now c) ≡ left_of t (world_with t c)
sweep_step_left t now s c sweeping kept is =
    sweeping_left now (world_with now c) (ap (λ (u : Tables). u.is_sweeping) is.same ∙ sweeping)
    ∙ (ap (λ (w : World). swept w) (world_stepped t now s.block s.targets s.freed c is)
    ∙ ((kept (world_with t c) (graph_of_same (world_with t c) (graph_in t) (world_graph t c))).same.swept
    ∙ sym (sweeping_left t (world_with t c) sweeping)))

pub graph_itself : (w : World) → HasGraphOf w w
graph_itself w = record { geometry = refl; each_block = refl; live = λ b. refl; pairs = refl }

free_most : (t : Tables) → free_count (graph_in t) ≤ t.geometry.blocks
free_most t = omega (arith, count_by-le-length is_none (graph_in t).blocks, (graph_laid_out t).each_block)

-- a step takes a pair, or frees its block
pub some_taken : (w : World) (s : OutStep) → MaySweep w s → 1 ≤ cond s.freed 1 0 + length s.targets
some_taken w s may = elim may.some [
  | inl f ↦ let one : ◌≡◌ {A = ℕ} (cond s.freed 1 0) 1 = ap (λ b. cond b 1 0) f in omega (arith, one)
  | inr one ↦ omega (arith, one)
]

-- so much less is left then
pub sweep_takes : (t now : Tables) (s : OutStep) → AreSweptBy (graph_in t) s → IsStepped t now s.block s.targets s.freed → sweep_left t ≡ sweep_left now + (cond s.freed 1 0 + length s.targets)
sweep_takes t now s kept is =
    let k = kept (graph_in t) (graph_itself (graph_in t)) in
    let w = stepped (graph_in t) s.block s.targets s.freed in
    let pairs : length (graph_in now).pairs ≡ length w.pairs = ap (λ (v : World). length v.pairs) (graph_stepped t now s.block s.targets s.freed is) in
    let free : free_count (graph_in now) ≡ free_count w = ap (λ (v : World). free_count v) (graph_stepped t now s.block s.targets s.freed is) in
    let blocks : now.geometry.blocks ≡ t.geometry.blocks = ap (λ (u : Tables). u.geometry.blocks) is.same in
    omega (arith, pairs, free, blocks, k.pairs, k.free, free_most now)

pub sweep_lowers : (t now : Tables) (s : OutStep) → MaySweep (graph_in t) s → AreSweptBy (graph_in t) s → IsStepped t now s.block s.targets s.freed → sweep_left now < sweep_left t
sweep_lowers t now s may kept is = let takes = sweep_takes t now s kept is in let some = some_taken (graph_in t) s may in omega (arith, takes, some)

pub sweep_op : (vol : Volume) (now : Tables) (s : OutStep) (batch : List Patch) → vol.tables.is_sweeping ≡ true → MaySweep (graph_in vol.tables) s → AreSweptBy (graph_in vol.tables) s → IsStepPut vol.tables s now batch
    → IsOp any_bytes vol now batch 33 (owed now) (λ w. w)
sweep_op vol now s batch sweeping may kept put = record {
  turns = put.turns;
  zeros = tt;
  world = λ c fits. sweep_step_left vol.tables now s c sweeping kept put.stepped;
  few = let few = put.few in let most = may.few in let one = one_most s.freed in omega (arith, few, most, one);
  owes = omega arith;
}
  where
    one_most : (f : Bool) → cond f 1 0 ≤ 1
    one_most true = omega arith
    one_most false = omega arith

-- ---- the flag
abbrev pub flag_patch : Bool → Patch
flag_patch open_now = record { sector = sweep_flag; bytes = gate_bytes open_now }

-- where the batch is the flag alone
pub flag_alone : {T E : Type 0} (r : Result T E) (A : Type 0) (ps new : List Patch) (p : Patch) → ps ≡ [] → OnOk r (new ≡ with_patch p ps) → OnErr r (A × (length ps ≡ 113)) → new ≡ p ∷ []
flag_alone r A ps new p none ok full =
    put_ok r A (new ≡ with_patch p ps) (length ps) ok full (omega (arith, ap (λ (qs : List Patch). length qs) none)) ∙ ap (with_patch p) none

flag_turn : (t : Tables) (open_now : Bool) (batch : List Patch) → AreSound t → batch ≡ flag_patch open_now ∷ [] → Turns t (record t { is_sweeping = open_now }) batch
flag_turn t open_now batch sound one =
    let turn = flag_turns t open_now sound in
    subst (λ (ps : List Patch). Turns t (record t { is_sweeping = open_now }) ps) (sym one) (record { sound = turn.sound; size = turn.size; has = turn.has; contents = turn.contents; gate = turn.gate })

same_with : (t : Tables) (open_now : Bool) (c : ℕ → List ℕ) → world_with (record t { is_sweeping = open_now }) c ≡ world_with t c
unfolding world_with
same_with t open_now c = refl

pub open_op : (vol : Volume) (batch : List Patch) → AreSound vol.tables → vol.tables.is_sweeping ≡ false → owed vol.tables ≡ 0 → batch ≡ flag_patch true ∷ []
    → IsOp any_bytes vol (record vol.tables { is_sweeping = true }) batch 1 0 (λ w. swept w)
open_op vol batch sound still none one =
    let t = vol.tables in
    let now : Tables = record t { is_sweeping = true } in
    record {
      turns = flag_turn t true batch sound one;
      zeros = tt;
      world = λ c fits.
          sweeping_left now (world_with now c) refl
          ∙ (ap (λ (w : World). swept w) (same_with t true c)
          ∙ ap (λ (w : World). swept w) (sym (still_left t (world_with t c) still ∙ settle_none (world_with t c) (laid_out t c) (same_doomed t c ∙ (none_owed t).0 none))));
      few = omega (arith, ap (λ (ps : List Patch). length ps) one);
      owes = omega arith;
    }

-- nothing is doomed where each live block is reached
pub whole_has_none : (t : Tables) → AreSound t → ((r : World) → HasGraphOf (graph_in t) r → swept r ≡ r) → doomed (graph_in t) ≡ []
whole_has_none t sound whole = ap (λ (w : World). doomed w) (sym (whole (graph_in t) (graph_itself (graph_in t)))) ∙ swept_has_none (graph_in t) (graph_raw t sound)

pub close_op : (vol : Volume) (batch : List Patch) → AreSound vol.tables → vol.tables.is_sweeping ≡ true → ((r : World) → HasGraphOf (graph_in vol.tables) r → swept r ≡ r) → batch ≡ flag_patch false ∷ []
    → IsOp any_bytes vol (record vol.tables { is_sweeping = false }) batch 1 0 (λ w. w)
close_op vol batch sound sweeping whole one =
    let t = vol.tables in
    let now : Tables = record t { is_sweeping = false } in
    record {
      turns = flag_turn t false batch sound one;
      zeros = tt;
      world = λ c fits.
          still_left now (world_with now c) refl
          ∙ (ap (λ (w : World). settle w) (same_with t false c)
          ∙ (settle_none (world_with t c) (laid_out t c) (same_doomed t c ∙ whole_has_none t sound whole)
          ∙ sym (sweeping_left t (world_with t c) sweeping ∙ whole (world_with t c) (graph_of_same (world_with t c) (graph_in t) (world_graph t c)))));
      few = omega (arith, ap (λ (ps : List Patch). length ps) one);
      owes = omega arith;
    }
