-- Changes of a raw world, and the same changes of what it settles to.
use Rattle.std.proofs.Common.{◌≡◌, ℕ, ◌<◌, Bool, true, false, not, cond, ◌&&◌, ◌||◌, ◌==◌, List, [], ◌∷◌, length, refl, sym, ◌∙◌, ap, subst, ◌⊎◌, inl, inr, Option, Some, None}
use Rattle.graph_laws.proofs.Common.{eqb-true, and_parts, and_cases, and_from, not-true, or_cases, both_ways, cases_Bool, cases_eq, or_left, or_right, length-set, ext_get_or, map, filter, slice_set, is_pair, holds, with_pair, World, contents, is_live, has_number, upgraded, upgraded_record, reach, restricted, swept, doomed, settle, with_contents, with_pointer, without_pointer, with_caps, Record, contents-restricted, holds-filter, holds-with_pair, is_rising-filter, is_rising-with_pair, same_tests, live_below, live-restricted, contents-other, contents-same, old_pair, either_pair, stays, IsLaidOut, with_pairs_that, doomed_is_live}
use Rattle.graph_laws.proofs.SameLaws.{same_world, length-restricted}
use Rattle.graph_laws.proofs.SameGraphLaws.{doomed_by_graph, reach_by_graph, graph-with_contents, graph-of_records}
use Rattle.graph_laws.proofs.DoomedLaws.{doomed_least_of, doomed_is_no_primary, doomed_from, doomed_in}
use Rattle.graph_laws.proofs.SettleLaws.{passed, contents-settle, live-settle, holds-settle, length-settle, settle_same, stays_doomed}

-- ---- fewer pairs

module _ (r : World) (out : IsLaidOut r) (keep : (ℕ × ℕ) → Bool) where
  abbrev less : World
  less = with_pairs_that r keep

  -- the settled world with fewer pairs
  abbrev then_less : World
  then_less = with_pairs_that (settle r) keep

  then_long : length (settle r).blocks ≡ r.geometry.blocks
  then_long = length-settle r ∙ out.each_block

  holds-then : (a b : ℕ) → holds then_less.pairs a b ≡ ((holds r.pairs a b && stays r a) && keep (a, b))
  holds-then a b = holds-filter keep (settle r).pairs a b ∙ ap (λ t. t && keep (a, b)) (holds-settle r a b)

  live-then : (b : ℕ) → is_live then_less b ≡ true → (stays r b ≡ true) × (is_live r b ≡ true)
  live-then b h = and_parts (stays r b) (is_live r b) (sym (live-settle r b) ∙ h)

  -- what is doomed then was doomed before, or is by the fewer pairs once settled
  doomed_or : (b : ℕ) → has_number (doomed less) b ≡ true → (has_number (doomed r) b ≡ true) ⊎ (has_number (doomed then_less) b ≡ true)
  doomed_or = doomed_least_of less out.each_block (λ b. (has_number (doomed r) b ≡ true) ⊎ (has_number (doomed then_less) b ≡ true)) (λ b is all.
      elim (cases_Bool (has_number (doomed r) b)) [
        | inl old ↦ inl old
        | inr new ↦ inr (doomed_from then_less then_long b
            (live-settle r b ∙ and_from (stays r b) (is_live r b) (ap not new) (doomed_is_live less out.each_block b is))
            (doomed_is_no_primary less out.each_block b is)
            (λ a held. let parts = and_parts (holds r.pairs a b && stays r a) (keep (a, b)) (sym (holds-then a b) ∙ held) in
            let from = and_parts (holds r.pairs a b) (stays r a) parts.0 in
            elim (all a (holds-filter keep r.pairs a b ∙ and_from (holds r.pairs a b) (keep (a, b)) from.0 parts.1)) [
              | inl gone ↦ absurd (both_ways (stays r a) (ap not gone) from.1)
              | inr later ↦ later
            ]))
      ])

  doomed_by_then : (b : ℕ) → has_number (doomed then_less) b ≡ true → has_number (doomed less) b ≡ true
  doomed_by_then = doomed_in then_less less then_long out.each_block
      (λ b is. ((live-then b (doomed_is_live then_less then_long b is)).1, doomed_is_no_primary then_less then_long b is))
      (λ a b is held. elim (cases_Bool (has_number (doomed r) a)) [
        | inl gone ↦ inr (stays_doomed r out keep a gone)
        | inr left ↦ let parts = and_parts (holds r.pairs a b) (keep (a, b)) (sym (holds-filter keep r.pairs a b) ∙ held) in
            inl (holds-then a b ∙ and_from (holds r.pairs a b && stays r a) (keep (a, b)) (and_from (holds r.pairs a b) (stays r a) parts.0 (ap not left)) parts.1)
      ])

  -- the doomed blocks of less pairs, in two parts
  pub doomed-less : (b : ℕ) → has_number (doomed less) b ≡ (has_number (doomed r) b || has_number (doomed then_less) b)
  doomed-less b = same_tests (has_number (doomed less) b) (has_number (doomed r) b || has_number (doomed then_less) b)
      (λ is. elim (doomed_or b is) [ inl old ↦ or_left (has_number (doomed r) b) (has_number (doomed then_less) b) old | inr new ↦ or_right (has_number (doomed r) b) (has_number (doomed then_less) b) new ])
      (λ h. elim (or_cases (has_number (doomed r) b) (has_number (doomed then_less) b) h) [ inl old ↦ stays_doomed r out keep b old | inr new ↦ doomed_by_then b new ])

  -- it settles to one, whether it was settled before or not
  pub settle-less : settle (with_pairs_that r keep) ≡ settle (with_pairs_that (settle r) keep)
  settle-less = settle_same less then_less refl refl refl (sym (length-settle r))
      (is_rising-filter keep r.pairs out.rising)
      (is_rising-filter keep (settle r).pairs (is_rising-filter (λ e. stays r e.0) r.pairs out.rising))
      (λ b. ap (λ t. cond (not t) (contents r b) None) (doomed-less b) ∙ (twice (has_number (doomed r) b) (has_number (doomed then_less) b) (contents r b) ∙ ap (λ o. passed (stays then_less b) o) (sym (contents-settle r b))))
      (λ a b. ap (λ t. t && stays less a) (holds-filter keep r.pairs a b) ∙ (ap (λ t. (holds r.pairs a b && keep (a, b)) && not t) (doomed-less a)
      ∙ (both (holds r.pairs a b) (keep (a, b)) (has_number (doomed r) a) (has_number (doomed then_less) a) ∙ ap (λ t. t && stays then_less a) (sym (holds-then a b)))))
    where
      twice : (d e : Bool) (o : Option (List ℕ)) → cond (not (d || e)) o None ≡ cond (not e) (cond (not d) o None) None
      twice true true o = refl
      twice true false o = refl
      twice false e o = refl

      both : (h k d e : Bool) → ((h && k) && not (d || e)) ≡ (((h && not d) && k) && not e)
      both false k d e = refl
      both true true true e = refl
      both true true false e = refl
      both true false true e = refl
      both true false false e = refl

-- with no pair taken: what is settled settles to itself
pub settle_once : (r : World) → IsLaidOut r → settle (settle r) ≡ settle r
settle_once r out = sym (ap settle (sym (all r)) ∙ (settle-less r out (λ e. true) ∙ ap settle (all (settle r))))
  where
    filter_all : (es : List (ℕ × ℕ)) → filter (λ e. true) es ≡ es
    filter_all [] = refl
    filter_all (e ∷ es) = ap (λ fs. e ∷ fs) (filter_all es)

    all : (w : World) → with_pairs_that w (λ e. true) ≡ w
    all w = λ i. record w { pairs = filter_all w.pairs i }

-- a pointer is deleted
pub settle-without_pointer : (r : World) (a b : ℕ) → IsLaidOut r → settle (without_pointer r a b) ≡ settle (without_pointer (settle r) a b)
settle-without_pointer r a b out = settle-less r out (λ e. not (is_pair a b e))

-- ---- one pair more

module _ (r : World) (out : IsLaidOut r) (a t : ℕ) (to : has_number (doomed r) t ≡ false) where
  -- a pair to a block that isn't doomed changes nothing of what is doomed
  pub doomed-with_pointer : (b : ℕ) → has_number (doomed (with_pointer r a t)) b ≡ has_number (doomed r) b
  doomed-with_pointer b = same_tests (has_number (doomed (with_pointer r a t)) b) (has_number (doomed r) b)
      (doomed_in (with_pointer r a t) r out.each_block out.each_block
      (λ c is. (doomed_is_live (with_pointer r a t) out.each_block c is, doomed_is_no_primary (with_pointer r a t) out.each_block c is))
      (λ x c is held. inl (old_pair r a t x c held)) b)
      (doomed_in r (with_pointer r a t) out.each_block out.each_block
      (λ c is. (doomed_is_live r out.each_block c is, doomed_is_no_primary r out.each_block c is))
      (λ x c is held. elim (either_pair r a t x c held) [
        | inl new ↦ absurd (both_ways (has_number (doomed r) t) to (subst (λ k. has_number (doomed r) k ≡ true) (sym new.1) is))
        | inr old ↦ inl old
      ]) b)

  -- a pointer is added, from a block that isn't doomed
  pub settle-with_pointer : has_number (doomed r) a ≡ false → settle (with_pointer r a t) ≡ with_pointer (settle r) a t
  settle-with_pointer from = same_world (settle (with_pointer r a t)) (with_pointer (settle r) a t) refl refl refl
      (length-settle (with_pointer r a t) ∙ sym (length-settle r))
      (is_rising-filter (λ e. stays (with_pointer r a t) e.0) (with_pair (a, t) r.pairs) (is_rising-with_pair (a, t) r.pairs out.rising))
      (is_rising-with_pair (a, t) (settle r).pairs (is_rising-filter (λ e. stays r e.0) r.pairs out.rising))
      (λ b. contents-settle (with_pointer r a t) b ∙ (ap (λ d. cond (not d) (contents r b) None) (doomed-with_pointer b) ∙ sym (contents-settle r b)))
      (λ x y. holds-settle (with_pointer r a t) x y
      ∙ (ap (λ h. h && stays (with_pointer r a t) x) (holds-with_pair (a, t) r.pairs x y)
      ∙ (ap (λ d. (is_pair x y (a, t) || holds r.pairs x y) && not d) (doomed-with_pointer x)
      ∙ (new_or_old (is_pair x y (a, t)) (holds r.pairs x y) (has_number (doomed r) x) (λ here. subst (λ k. has_number (doomed r) k ≡ false) (eqb-true a x (and_parts (a == x) (t == y) here).0) from)
      ∙ (ap (λ h. is_pair x y (a, t) || h) (sym (holds-settle r x y))
      ∙ sym (holds-with_pair (a, t) (settle r).pairs x y))))))
    where
      new_or_old : (n h d : Bool) → (n ≡ true → d ≡ false) → ((n || h) && not d) ≡ (n || (h && not d))
      new_or_old true h d f = ap not (f refl)
      new_or_old false h d f = refl

-- ---- bytes

-- a world on some blocks, where one of them gets bytes
pub restricted-with_contents : (r : World) (keep : ℕ → Bool) (b : ℕ) (bytes : List ℕ) → is_live r b ≡ true → keep b ≡ true
    → restricted (with_contents r b bytes) keep ≡ with_contents (restricted r keep) b bytes
restricted-with_contents r keep b bytes live kept = λ i. record (restricted r keep) { blocks = blocks i }
  where
    now : World
    now = with_contents r b bytes

    within : b < length (restricted r keep).blocks
    within = subst (λ n. b < n) (sym (length-restricted r keep)) (live_below r.blocks b live)

    inside : (c : ℕ) → contents (restricted now keep) c ≡ contents (with_contents (restricted r keep) b bytes) c
    inside c = elim (cases_eq c b) [
      | inl same ↦ subst (λ k. contents (restricted now keep) k ≡ contents (with_contents (restricted r keep) b bytes) k) (sym same)
          (contents-restricted now keep b ∙ (ap (λ t. passed t (contents now b)) kept ∙ (contents-same r b bytes (live_below r.blocks b live) ∙ sym (contents-same (restricted r keep) b bytes within))))
      | inr other ↦ contents-restricted now keep c ∙ (ap (passed (keep c)) (contents-other r b c bytes other) ∙ (sym (contents-restricted r keep c) ∙ sym (contents-other (restricted r keep) b c bytes other)))
    ]

    blocks : (restricted now keep).blocks ≡ (with_contents (restricted r keep) b bytes).blocks
    blocks = ext_get_or None (restricted now keep).blocks (with_contents (restricted r keep) b bytes).blocks
        (length-restricted now keep ∙ (length-set r.blocks b (Some bytes) ∙ (sym (length-restricted r keep) ∙ sym (length-set (restricted r keep).blocks b (Some bytes))))) (λ c _. inside c)

-- a block of a world on some blocks is live, and passes
restricted_live : (r : World) (keep : ℕ → Bool) (b : ℕ) → is_live (restricted r keep) b ≡ true → (keep b ≡ true) × (is_live r b ≡ true)
restricted_live r keep b h = and_parts (keep b) (is_live r b) (sym (live-restricted r keep b) ∙ h)

pub settle-with_contents : (r : World) (b : ℕ) (bytes : List ℕ) → is_live (settle r) b ≡ true → settle (with_contents r b bytes) ≡ with_contents (settle r) b bytes
settle-with_contents r b bytes h = let parts = restricted_live r (stays r) b h in
    ap (λ gone. restricted (with_contents r b bytes) (λ c. not (has_number gone c))) (doomed_by_graph (with_contents r b bytes) r (graph-with_contents r b bytes parts.1))
    ∙ restricted-with_contents r (stays r) b bytes parts.1 parts.0

pub swept-with_contents : (r : World) (b : ℕ) (bytes : List ℕ) → is_live (swept r) b ≡ true → swept (with_contents r b bytes) ≡ with_contents (swept r) b bytes
swept-with_contents r b bytes h = let parts = restricted_live r (has_number (reach r)) b h in
    ap (λ kept. restricted (with_contents r b bytes) (has_number kept)) (reach_by_graph (with_contents r b bytes) r (graph-with_contents r b bytes parts.1))
    ∙ restricted-with_contents r (has_number (reach r)) b bytes parts.1 parts.0

-- ---- records

pub settle-of_records : (w : World) (version : ℕ) (records : List Record) → settle (record w { version = version; records = records }) ≡ record (settle w) { version = version; records = records }
settle-of_records w version records = ap (λ gone. restricted (record w { version = version; records = records }) (λ b. not (has_number gone b)))
    (doomed_by_graph (record w { version = version; records = records }) w (graph-of_records w version records))

pub swept-of_records : (w : World) (version : ℕ) (records : List Record) → swept (record w { version = version; records = records }) ≡ record (swept w) { version = version; records = records }
swept-of_records w version records = ap (λ kept. restricted (record w { version = version; records = records }) (has_number kept))
    (reach_by_graph (record w { version = version; records = records }) w (graph-of_records w version records))

pub settle-with_caps : (w : World) (b : ℕ) (r : Record) → settle (with_caps w b r) ≡ with_caps (settle w) b r
settle-with_caps w b r = settle-of_records w w.version (slice_set w.records b r)

pub settle-upgraded : (w : World) → settle (upgraded w) ≡ upgraded (settle w)
settle-upgraded w = settle-of_records w 2 (map upgraded_record w.records)

-- ---- blocks of the settled world

pub settled_live : (r : World) (b : ℕ) → is_live (settle r) b ≡ true → (has_number (doomed r) b ≡ false) × (is_live r b ≡ true)
settled_live r b h = let parts = and_parts (stays r b) (is_live r b) (sym (live-settle r b) ∙ h) in (not-true (has_number (doomed r) b) parts.0, parts.1)

pub create_settles : (r : World) (a b : ℕ) → IsLaidOut r → is_live (settle r) a ≡ true → is_live (settle r) b ≡ true → settle (with_pointer r a b) ≡ with_pointer (settle r) a b
create_settles r a b out from to = settle-with_pointer r out a b (settled_live r b to).0 (settled_live r a from).0

-- a pair that the settled world doesn't hold isn't held at all, where its source stays
pub absent_raw : (r : World) (a b : ℕ) → stays r a ≡ true → holds (settle r).pairs a b ≡ false → holds r.pairs a b ≡ false
absent_raw r a b from absent = elim (and_cases (holds r.pairs a b) (stays r a) (sym (holds-settle r a b) ∙ absent)) [
  | inl none ↦ none
  | inr gone ↦ absurd (both_ways (stays r a) gone from)
]
