-- What is named under a root stays.
use Rattle.std.proofs.Common.{◌≡◌, ℕ, ◌<◌, Bool, true, false, not, ◌&&◌, ◌==◌, List, [], ◌∷◌, refl, sym, ◌∙◌, ap, subst, inl, inr, arith}
use Rattle.fs_laws.proofs.Common.{eq-eqb, eqb-true, and_parts, and_from, or_cases, lt-ltb, not-true, or_left, or_right, nat_tests, list_any, World, contents, is_live, is_primary, has_number, holds, is_pair, reach, restricted, doomed, settle, Sessions, IsValid, IsRaw, State, change, raised_by, without_pointer, run_at, chosen, chosen_run, answer, PlaceKind, Request, writes_to, holds-filter, live-restricted, holds-restricted, target_stays, is_doomed, primary_reached, target_reached, raw-without_pointer, only_adds, live-change, holds-change, contents-change, contents-kept, after_answer, Named, is_led_to, are_led_to, hang_from, IsUnder, Keeps, spares}
use Rattle.tsd_model.specs.declared.requests.Request.TheVariants as ask
use Rattle.tsd_model.proofs.ValueLaws.{clash}
use Rattle.disk_laws.proofs.FitLaws.{geometry-new_blocks}

-- ---- what holds of the root, and of a pair's target where it holds of its source, holds of each block

found_source : (from : List ℕ) (b : ℕ) (es : List (ℕ × ℕ)) → list_any (λ e. (e.1 == b) && has_number from e.0) es ≡ true → (a : ℕ) × (holds es a b ≡ true) × (has_number from a ≡ true)
found_source from b [] h = absurd (cc)
found_source from b (e ∷ es) h = elim (or_cases ((e.1 == b) && has_number from e.0) (list_any (λ f. (f.1 == b) && has_number from f.0) es) h) [
  | inl here ↦ let parts = and_parts (e.1 == b) (has_number from e.0) here in (e.0, or_left (is_pair e.0 b e) _ (and_from (e.0 == e.0) (e.1 == b) (eq-eqb e.0 e.0 refl) parts.0), parts.1)
  | inr later ↦ let rest = found_source from b es later in (rest.0, or_right (is_pair rest.0 b e) _ rest.1, rest.2)
]

each_led : (P : ℕ → Type 0) (es : List (ℕ × ℕ)) → ((a b : ℕ) → holds es a b ≡ true → P a → P b) → (bs before : List ℕ) → ((c : ℕ) → has_number before c ≡ true → P c) → are_led_to es before bs ≡ true → (b : ℕ) → has_number bs b ≡ true → P b
each_led P es on [] before held h b m = absurd (cc)
each_led P es on (c ∷ bs) before held h b m =
    let parts = and_parts (is_led_to es before c) (are_led_to es (c ∷ before) bs) h in
    let found = found_source before c es parts.0 in
    let here : P c = on found.0 c found.1 (held found.0 found.2) in
    let more : (d : ℕ) → has_number (c ∷ before) d ≡ true → P d = λ d g. elim (or_cases (c == d) (has_number before d) g) [ inl same ↦ subst P (eqb-true c d same) here | inr old ↦ held d old ] in
    elim (or_cases (c == b) (has_number bs b) m) [
      | inl same ↦ subst P (eqb-true c b same) here
      | inr later ↦ each_led P es on bs (c ∷ before) more parts.1 b later
    ]

pub each_named : (P : ℕ → Type 0) (root : ℕ) (es : List (ℕ × ℕ)) (bs : List ℕ) → hang_from root es bs ≡ true → P root → ((a b : ℕ) → holds es a b ≡ true → P a → P b) → (b : ℕ) → has_number bs b ≡ true → P b
each_named P root es [] h first on b m = absurd (cc)
each_named P root es (c ∷ bs) h first on b m =
    let parts = and_parts (c == root) (are_led_to es (c ∷ []) bs) h in
    let here : P c = subst P (sym (eqb-true c root parts.0)) first in
    elim (or_cases (c == b) (has_number bs b) m) [
      | inl same ↦ subst P (eqb-true c b same) here
      | inr later ↦ each_led P es on bs (c ∷ []) (λ d g. elim (or_cases (c == d) false g) [ inl same ↦ subst P (eqb-true c d same) here | inr never ↦ absurd (cc) ]) parts.1 b later
    ]

-- ---- each kind of request

primary_stays : (w : World) → IsRaw w → (b : ℕ) → b < w.geometry.primaries → not (has_number (doomed w) b) ≡ true
primary_stays w raw b h = ap not (is_doomed w raw.sized.each_block b ∙ not_hanging (is_live w b) (is_primary w b) _ (lt-ltb b w.geometry.primaries h))
  where
    not_hanging : (x y z : Bool) → y ≡ true → ((x && not y) && z) ≡ false
    not_hanging x y z e = grind (arith, nat_tests)

module _ (w : World) (root : ℕ) (n : Named) (valid : IsValid w) (under : IsUnder w root n) where
  named_live : (b : ℕ) → has_number n.blocks b ≡ true → is_live w b ≡ true
  named_live = each_named (λ b. is_live w b ≡ true) root n.pairs n.blocks under.order (valid.raw.primaries root under.primary)
      (λ a b h _. valid.raw.targets a b (under.held a b h))

  -- a world on blocks among which all of these are
  kept_restricted : (v : World) (keep : ℕ → Bool) → v.geometry ≡ w.geometry → v.blocks ≡ w.blocks → ((a b : ℕ) → holds n.pairs a b ≡ true → holds v.pairs a b ≡ true) → ((b : ℕ) → has_number n.blocks b ≡ true → keep b ≡ true) → Keeps w (restricted v keep) n
  kept_restricted v keep same_size same held passes =
      let live : (b : ℕ) → has_number n.blocks b ≡ true → is_live (restricted v keep) b ≡ true =
      λ b h. live-restricted v keep b ∙ and_from (keep b) (is_live v b) (passes b h) (ap (λ cs. is_live (record v { blocks = cs }) b) same ∙ named_live b h) in
      record {
        geometry = same_size;
        live = live;
        bytes = λ b h. contents-kept v keep b (live b h) ∙ ap (λ cs. contents (record v { blocks = cs }) b) same;
        pairs = λ a b h. holds-restricted v keep a b ∙ and_from (holds v.pairs a b) (keep a) (held a b h) (passes a (under.from a b h));
      }

  -- a listed pair other than that which is deleted
  still_held : (x y : ℕ) → holds n.pairs x y ≡ false → (a b : ℕ) → holds n.pairs a b ≡ true → holds (without_pointer w x y).pairs a b ≡ true
  still_held x y spared a b h =
      holds-filter (λ e. not (is_pair x y e)) w.pairs a b ∙ and_from (holds w.pairs a b) (not (is_pair x y (a, b))) (under.held a b h)
      (elim (is_pair x y (a, b)) as (λ t. is_pair x y (a, b) ≡ t → not t ≡ true) [
        | true ↦ λ e. let same = and_parts (a == x) (b == y) e in
            absurd (clash (holds n.pairs a b) h (ap (λ c. holds n.pairs c b) (eqb-true a x same.0) ∙ ap (λ d. holds n.pairs x d) (eqb-true b y same.1) ∙ spared))
        | false ↦ λ e. refl
      ] refl)

  kept_by_delete : (x y : ℕ) → holds n.pairs x y ≡ false → Keeps w (settle (without_pointer w x y)) n
  kept_by_delete x y spared =
      let next = without_pointer w x y in
      let keep : ℕ → Bool = λ b. not (has_number (doomed next) b) in
      kept_restricted next keep refl refl (still_held x y spared)
      (each_named (λ b. keep b ≡ true) root n.pairs n.blocks under.order (primary_stays next (raw-without_pointer w x y valid.raw) root under.primary)
      (λ a b h k. target_stays next valid.raw.sized.each_block a b (still_held x y spared a b h) k))

  kept_by_sweep : Keeps w (restricted w (has_number (reach w))) n
  kept_by_sweep = kept_restricted w (has_number (reach w)) refl refl under.held
      (each_named (λ b. has_number (reach w) b ≡ true) root n.pairs n.blocks under.order (primary_reached w valid.raw root under.primary)
      (λ a b h k. target_reached w valid.raw a b (under.held a b h) k))

  not_written : (q : Request) → spares n q ≡ true → (b : ℕ) → has_number n.blocks b ≡ true → writes_to q b ≡ false
  not_written (ask.Write s x shown bytes) spared b h = elim (x == b) as (λ t. (x == b) ≡ t → t ≡ false) [
    | true ↦ λ e. absurd (clash (not (has_number n.blocks x)) spared (ap not (ap (has_number n.blocks) (eqb-true x b e) ∙ h)))
    | false ↦ λ e. refl
  ] refl
  not_written q spared b h = refl

  kept_by_adding : (kind : PlaceKind) (u : Sessions) (q : Request) → only_adds q ≡ true → (change kind w u q).state.world.geometry ≡ w.geometry → spares n q ≡ true → Keeps w (change kind w u q).state.world n
  kept_by_adding kind u q adds size spared = record {
    geometry = size;
    live = λ b h. live-change kind w u q b adds (named_live b h);
    bytes = λ b h. contents-change kind w u q b (named_live b h) (live-change kind w u q b adds (named_live b h)) (not_written q spared b h);
    pairs = λ a b h. holds-change kind w u q a b adds (under.held a b h);
  }

  kept_by_change : (kind : PlaceKind) (u : Sessions) (q : Request) → spares n q ≡ true → Keeps w (change kind w u q).state.world n
  kept_by_change kind u (ask.Delete s x shown y) spared = kept_by_delete x y (not-true (holds n.pairs x y) spared)
  kept_by_change kind u (ask.Sweep s shown) spared = kept_by_sweep
  kept_by_change kind u (ask.Alloc s x shown hint count) spared = kept_by_adding kind u (ask.Alloc s x shown hint count) refl (geometry-new_blocks x (chosen kind w hint count) w) spared
  kept_by_change kind u (ask.Contig s x shown hint count) spared = kept_by_adding kind u (ask.Contig s x shown hint count) refl (geometry-new_blocks x (run_at (chosen_run kind w hint count) count) w) spared
  kept_by_change kind u q spared = kept_by_adding kind u q refl refl spared

  kept_as_it_is : Keeps w w n
  kept_as_it_is = record { geometry = refl; live = named_live; bytes = λ b h. refl; pairs = under.held }

pub named_stays : (kind : PlaceKind) (s : State) (q : Request) (want : Bool) (root : ℕ) (n : Named) → IsValid s.world → IsUnder s.world root n → spares n q ≡ true → Keeps s.world (answer kind s q want).state.world n
named_stays kind s q want root n valid under spared =
    after_answer (λ t. Keeps s.world t.world n) kind s q want (kept_as_it_is s.world root n valid under)
    (λ _. kept_by_change s.world root n valid under kind (raised_by s.world s.sessions q) q spared)
