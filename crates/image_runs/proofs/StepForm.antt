-- The reply of a step has a form that lines and frames can send.
use Rattle.std.proofs.Common.{◌≡◌, ℕ, ◌≤◌, true, false, not, nat_lt, List, [], ◌∷◌, length, refl, sym, ◌∙◌, ap, subst, arith, Option, Some, None}
use Rattle.image_runs.proofs.Common.{ltb-false, or_parts, length-take, unwrap_or, is_some, IfSome, block_len, World, contents, is_live, free_count, has_number, Sessions, IsSized, is_empty, verdict, HasForm, State, change, judged, raised_by, step, run_at, without_pointer, PlaceKind, Request}
use Rattle.tsd_model.specs.Reach.{reach, swept}
use Rattle.tsd_model.specs.Doomed.{doomed, settle}
use Rattle.tsd_model.specs.Rank.{rank_of}
use Rattle.tsd_model.specs.Placing.{hint_block, sorted_by_rank, free_blocks, chosen, chosen_run, runs, first_block}
use Rattle.tsd_model.specs.declared.replies.Reply.TheVariants as reply
use Rattle.tsd_model.specs.declared.requests.Hint.{Hint}
use Rattle.tsd_model.specs.declared.requests.Request.TheVariants as ask
use Rattle.disk_laws.proofs.ChangeLaws.{chosen_are_free, chosen_run_is_free}
use Rattle.disk_laws.proofs.GraphLaws.{length-range}
use Rattle.disk_laws.proofs.RuleLaws.{Passes, granted_passes}
use Rattle.disk_laws.proofs.ValidLaws.{one_is_live}
use Rattle.block_alloc.proofs.FreeLaws.{length-free_blocks}
use Rattle.block_alloc.proofs.OrderLaws.{length-sorted_by_rank}
use Rattle.block_alloc.proofs.WorldLaws.{free_blocks_same, free_count_same}
use Rattle.tsd_core.specs.Seen.{reply_to}
use Rattle.tsd_core.proofs.FormLaws.{HasLiveTargets, free_fits, gone_fits, free_numbers, targets_fit, refusal_fits}
use Rattle.tsd_core.proofs.StepSeen.{length-restricted}
use Rattle.tsd_core.proofs.Choosing.{live_map, map_of}
use Rattle.tsd_core.proofs.Likes.{block_size_of}

-- where enough blocks are free, as many are chosen
pub length-chosen_enough : (kind : PlaceKind) (w : World) (h : Hint) (count : ℕ) → count ≤ free_count w → length (chosen kind w h count) ≡ count
length-chosen_enough kind w h count enough =
    let order = sorted_by_rank (rank_of kind (hint_block h)) (free_blocks w) in
    let all : length order ≡ free_count w = length-sorted_by_rank (rank_of kind (hint_block h)) (free_blocks w)
    ∙ (ap length (sym (free_blocks_same (live_map w) w (map_of w))) ∙ (length-free_blocks (live_map w) ∙ free_count_same (live_map w) w (map_of w))) in
    omega (arith, length-take count order, all, enough)

-- the first of some
first_found : (xs : List ℕ) → 1 ≤ length xs → (b : ℕ) × (first_block xs ≡ Some b)
first_found [] some = absurd (omega arith)
first_found (x ∷ xs) some = (x, refl)

some_runs : (xs : List ℕ) → is_empty xs ≡ false → 1 ≤ length xs
some_runs [] e = absurd (cc)
some_runs (x ∷ xs) e = omega arith

read_form : (w : World) (b : ℕ) → IsSized w → is_live w b ≡ true → HasForm (reply.Bytes (unwrap_or (contents w b) []))
read_form w b sized live = go (contents w b) live (sized.full b)
  where
    go : (o : Option (List ℕ)) → is_some o ≡ true → IfSome o (λ bytes. length bytes ≡ block_len w.geometry) → HasForm (reply.Bytes (unwrap_or o []))
    go None e full = absurd (cc)
    go (Some bytes) e full = record { body = block_size_of w.geometry (length bytes) sized.lawful full; numbers = tt }

granted_form : (kind : PlaceKind) (w : World) (v : Sessions) (q : Request) → IsSized w → HasLiveTargets w → Passes w v q → HasForm (reply_to kind w q)
granted_form kind w v (ask.Read s b shown) sized live pass = read_form w b sized (one_is_live w b sized.each_block pass.there pass.live)
granted_form kind w v (ask.Alloc s a shown h count) sized live pass =
    let counts = or_parts (nat_lt count 1) (nat_lt 32 count) pass.count in
    let size = length-chosen_enough kind w h count (ltb-false (free_count w) count pass.enough) in
    record {
      body = (omega (arith, size, ltb-false count 1 counts.0), omega (arith, size, ltb-false 32 count counts.1));
      numbers = free_numbers w (chosen kind w h count) sized (chosen_are_free kind w h count);
    }
granted_form kind w v (ask.Contig s a shown h count) sized live pass =
    let counts = or_parts (nat_lt count 1) (nat_lt 32 count) pass.count in
    let rank = rank_of kind (hint_block h) in
    let found = first_found (sorted_by_rank rank (runs w count)) (omega (arith, some_runs (runs w count) pass.run, length-sorted_by_rank rank (runs w count))) in
    let size : length (run_at (chosen_run kind w h count) count) ≡ count = ap (λ o. length (run_at o count)) found.1 ∙ length-range found.0 count in
    record {
      body = (omega (arith, size, ltb-false count 1 counts.0), omega (arith, size, ltb-false 32 count counts.1));
      numbers = free_numbers w (run_at (chosen_run kind w h count) count) sized (chosen_run_is_free kind w h count);
    }
granted_form kind w v ask.GetFree sized live pass = record { body = tt; numbers = free_fits w sized }
granted_form kind w v (ask.Delete s a shown b) sized live pass =
    let cut = without_pointer w a b in
    record { body = tt; numbers = gone_fits w (settle cut) (length-restricted cut (λ c. not (has_number (doomed cut) c))) sized }
granted_form kind w v (ask.Sweep s shown) sized live pass = record { body = tt; numbers = gone_fits w (swept w) (length-restricted w (has_number (reach w))) sized }
granted_form kind w v (ask.List s a shown start) sized live pass = targets_fit w a start sized live
granted_form kind w v q sized live pass = record { body = tt; numbers = tt }

same_reply : (kind : PlaceKind) (w : World) (u : Sessions) (q : Request) → reply_to kind w q ≡ (change kind w u q).reply
same_reply kind w u ask.Bad = refl
same_reply kind w u q = refl

pub step_form : (kind : PlaceKind) (s : State) (q : Request) → IsSized s.world → HasLiveTargets s.world → HasForm (step kind s q).reply
step_form kind s q sized live = elim (verdict s.world s.sessions q) as (λ x. verdict s.world s.sessions q ≡ x → HasForm (judged kind s q x).reply) [
  | Some r ↦ λ e. refusal_fits s.world s.sessions q r sized e
  | None ↦ λ e. subst HasForm (same_reply kind s.world (raised_by s.world s.sessions q) q) (granted_form kind s.world s.sessions q sized live (granted_passes s.world s.sessions q e))
] refl
