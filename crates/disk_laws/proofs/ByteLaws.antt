-- Worlds that differ in the bytes of their live blocks alone give the same answers.
use Rattle.std.proofs.Common.{◌≡◌, ℕ, suc, ◌+◌, true, false, cond, not, ◌&&◌, ◌==◌, nat_lt, nat_le, List, [], ◌∷◌, ◌++◌, length, refl, sym, ◌∙◌, ap, subst, arith, inl, inr, Option, Some, None}
use Rattle.disk_laws.proofs.Common.{map, filter, is_some, is_none, slice_index_or, slice_get, unwrap_or, count_by, range_with_len, list_all, list_any, option_map_or, cases_eq, get_or-set_same, get_or-set_other, length-set, block_len, holds, World, contents, is_live, is_free, free_count, kept_of, rank_of, hint_block, sorted_by_rank, free_blocks, chosen, runs, first_block, chosen_run, Sessions, greatest, levels_from, level_le, record_level, shown_level, led_level, attained_from, attained, session_of, named_blocks, needs, wanted_blocks, wanted_pairs, check, first_rule, has_bad_count, has_bad_size, sets_caps_elsewhere, points_to_primary, adds_held_pair, deletes_missing_pair, is_empty, finds_no_run, session_rules, verdict, with_contents, Shown, Need, Hint, PlaceKind, Request, AreLike}
use Rattle.std.specs.Prelude.{take}
use Rattle.std.proofs.lemmas.List.Sums.{sum_by-cons}
use Rattle.tsd_model.specs.declared.caps.Shown.TheVariants.{Nothing, Key}
use Rattle.tsd_model.specs.declared.replies.Rule.TheVariants as rule
use Rattle.tsd_model.specs.declared.requests.Level.TheVariants as level
use Rattle.tsd_model.specs.declared.requests.Request.TheVariants as ask
use Rattle.disk_laws.proofs.DoomLaws.{live_below}

-- other bytes in a live block
pub contents_like : (w : World) (b : ℕ) (bytes : List ℕ) → is_live w b ≡ true → AreLike (with_contents w b bytes) w
contents_like w b bytes live = record {
  geometry = refl;
  version = refl;
  count = length-set w.blocks b (Some bytes);
  live = λ c. elim (cases_eq c b) [
    | inl same ↦ subst (λ k. is_live (with_contents w b bytes) k ≡ is_live w k) (sym same) (ap is_some (get_or-set_same w.blocks b (Some bytes) None (live_below w.blocks b live)) ∙ sym live)
    | inr other ↦ ap is_some (get_or-set_other w.blocks b c (Some bytes) None other)
  ];
  pairs = refl;
  records = refl;
}

-- ---- free blocks

none_is : (o : Option (List ℕ)) → is_none o ≡ not (is_some o)
none_is None = refl
none_is (Some bytes) = refl

pub is_free_like : (v w : World) → AreLike v w → (b : ℕ) → is_free v b ≡ is_free w b
is_free_like v w like b =
    (λ i. nat_lt b (length v.blocks) && none_is (contents v b) i)
    ∙ ((λ i. nat_lt b (like.count i) && not (like.live b i)) ∙ (λ i. nat_lt b (length w.blocks) && sym (none_is (contents w b)) i))

as_many : (xs ys : List (Option (List ℕ))) → length xs ≡ length ys → ((b : ℕ) → is_some (slice_index_or xs b None) ≡ is_some (slice_index_or ys b None)) → count_by is_none xs ≡ count_by is_none ys
as_many [] [] long same = refl
as_many [] (y ∷ ys) long same = absurd (omega (arith, long))
as_many (x ∷ xs) [] long same = absurd (omega (arith, long))
as_many (x ∷ xs) (y ∷ ys) long same =
    let first : is_none x ≡ is_none y = none_is x ∙ (ap not (same 0) ∙ sym (none_is y)) in
    let rest = as_many xs ys (omega (arith, long)) (λ b. same (suc b)) in
    let here : ◌≡◌ {A = ℕ} (cond (is_none x) 1 0) (cond (is_none y) 1 0) = ap (λ t. cond t 1 0) first in
    omega (arith, sum_by-cons (λ (o : Option (List ℕ)). cond (is_none o) 1 0) x xs, sum_by-cons (λ (o : Option (List ℕ)). cond (is_none o) 1 0) y ys, here, rest)

pub free_count_like : (v w : World) → AreLike v w → free_count v ≡ free_count w
free_count_like v w like = as_many v.blocks w.blocks like.count like.live

pub runs_like : (v w : World) → AreLike v w → (count : ℕ) → runs v count ≡ runs w count
runs_like v w like count = λ i. filter (λ b. list_all (λ k. is_free_like v w like k i) (range_with_len b count)) (range_with_len 0 (like.count i))

free_blocks_like : (v w : World) → AreLike v w → free_blocks v ≡ free_blocks w
free_blocks_like v w like = λ i. filter (λ b. is_free_like v w like b i) (range_with_len 0 (like.count i))

pub chosen_like : (v w : World) → AreLike v w → (kind : PlaceKind) (h : Hint) (count : ℕ) → chosen kind v h count ≡ chosen kind w h count
chosen_like v w like kind h count = ap (λ bs. take count (sorted_by_rank (rank_of kind (hint_block h)) bs)) (free_blocks_like v w like)

pub chosen_run_like : (v w : World) → AreLike v w → (kind : PlaceKind) (h : Hint) (count : ℕ) → chosen_run kind v h count ≡ chosen_run kind w h count
chosen_run_like v w like kind h count = ap (λ bs. first_block (sorted_by_rank (rank_of kind (hint_block h)) bs)) (runs_like v w like count)

-- ---- levels

pub shown_level_like : (v w : World) → AreLike v w → (b : ℕ) (shown : Shown) → shown_level v b shown ≡ shown_level w b shown
shown_level_like v w like b Nothing = refl
shown_level_like v w like b (Key c) = λ i. record_level (slice_get (like.records i) b) (kept_of (like.version i) c)

pub attained_from_like : (v w : World) → AreLike v w → (s : Sessions) (n b : ℕ) (shown : Shown) (o : ℕ) → attained_from v s n b shown o ≡ attained_from w s n b shown o
attained_from_like v w like s n b shown o =
    λ i. cond (nat_lt b (like.geometry i).primaries) (cond (o == b) (shown_level_like v w like b shown i) level.Bare) (led_level (levels_from s n o) b (like.pairs i))

pub attained_like : (v w : World) → AreLike v w → (s : Sessions) (n b : ℕ) (shown : Shown) → attained v s n b shown ≡ attained w s n b shown
attained_like v w like s n b shown = λ i. greatest (map (λ o. attained_from_like v w like s n b shown o i) (range_with_len 0 (like.geometry i).primaries))

-- ---- rule by rule

size_like : (v w : World) → AreLike v w → (q : Request) → has_bad_size v q ≡ has_bad_size w q
size_like v w like (ask.Write s b shown bytes) = λ i. nat_lt (block_len (like.geometry i)) (length bytes)
size_like v w like q = refl

caps_like : (v w : World) → AreLike v w → (q : Request) → sets_caps_elsewhere v q ≡ sets_caps_elsewhere w q
caps_like v w like (ask.SetCap s b shown caps) = λ i. not (nat_lt b (like.geometry i).primaries)
caps_like v w like q = refl

primary_like : (v w : World) → AreLike v w → (q : Request) → points_to_primary v q ≡ points_to_primary w q
primary_like v w like (ask.Create s a shown b) = λ i. nat_lt b (like.geometry i).primaries
primary_like v w like q = refl

adds_like : (v w : World) → AreLike v w → (q : Request) → adds_held_pair v q ≡ adds_held_pair w q
adds_like v w like (ask.Create s a shown b) = λ i. holds (like.pairs i) a b
adds_like v w like q = refl

deletes_like : (v w : World) → AreLike v w → (q : Request) → deletes_missing_pair v q ≡ deletes_missing_pair w q
deletes_like v w like (ask.Delete s a shown b) = λ i. not (holds (like.pairs i) a b)
deletes_like v w like q = refl

run_like : (v w : World) → AreLike v w → (q : Request) → finds_no_run v q ≡ finds_no_run w q
run_like v w like (ask.Contig s a shown h count) = λ i. is_empty (runs_like v w like count i)
run_like v w like q = refl

-- all of them
pub verdict_like : (v w : World) → AreLike v w → (s : Sessions) (q : Request) → verdict v s q ≡ verdict w s q
verdict_like v w like s q = λ i. first_rule ((session_rules s q ++ (
    (check (has_bad_count q) rule.BadCount
    ∷ check (size_like v w like q i) rule.BadSize
    ∷ check (list_any (λ b. nat_le (like.geometry i).blocks b) (named_blocks q)) rule.NoSuchBlock
    ∷ check (list_any (λ b. is_free_like v w like b i) (named_blocks q)) rule.FreeBlock
    ∷ check (caps_like v w like q i) rule.NotPrimary
    ∷ check (primary_like v w like q i) rule.IsPrimary
    ∷ [])
    ++ (map (λ (n : Need). check (not (level_le n.level (attained_like v w like s (unwrap_or (session_of q) 0) n.block n.shown i))) (rule.Denied (attained_like v w like s (unwrap_or (session_of q) 0) n.block n.shown i) n.level)) (needs q)
    ++ (check (adds_like v w like q i) rule.PointerExists ∷ check (deletes_like v w like q i) rule.NoPointer ∷ []))))
    ++ (check (option_map_or (nat_lt (free_count_like v w like i)) (wanted_blocks q) false) (rule.Full (free_count_like v w like i) (unwrap_or (wanted_blocks q) 0))
    ∷ check (run_like v w like q i) (rule.NoRun (free_count_like v w like i) (unwrap_or (wanted_blocks q) 0))
    ∷ check (option_map_or (λ more. nat_lt (like.geometry i).slots (length (like.pairs i) + more)) (wanted_pairs q) false) (rule.PointersFull (length (like.pairs i)) (like.geometry i).slots)
    ∷ []))
