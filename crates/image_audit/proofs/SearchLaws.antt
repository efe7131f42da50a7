-- A search level by level finds depths and parents.
use Rattle.std.proofs.Common.{◌≡◌, ℕ, zero, suc, ◌<◌, ◌≤◌, Bool, true, false, not, ◌&&◌, ◌||◌, ◌==◌, List, [], ◌∷◌, length, refl, sym, ◌∙◌, ap, subst, arith, inl, inr, ◌⊎◌, Option, Some, None}
use Rattle.image_audit.proofs.Common.{and_parts, and_from, or_cases, eq-eqb, ne_eqb, eqb-true, or_left, or_right, cases_lt, cases_eq, cases_Bool, both_ways, unwrap_or, min, is_some, IfSome, slice_index_or, holds, World, has_number, Entry, entry_at, is_listed, IsPath, IsDepth, IsParent, IsEntryOf, reach_from, same_tests, AreReached, IsWholeWorld, lesser, noted, HasDepth, HasDepthTo, IsFirstSeen, IsSearching, IsSearched, root_entry, HasRoots, NoneSeen}
use Rattle.std.specs.Prelude.{cond}
use Rattle.image_audit.proofs.PathLaws.{path_of_round, reached_by_path}

pub same_entry : (e f : Entry) → Some e ≡ Some f → e ≡ f
same_entry e f h = ap (λ o. unwrap_or o e) h

-- ---- one pair more

module _ (w : World) (roots : List ℕ) (d : ℕ) (level : List ℕ) (old new : List (Option Entry)) (before after : List ℕ) (seen then_ : ℕ → ℕ → Type 0) (a b : ℕ)
    (other : (c : ℕ) → (c ≡ b → ⊥) → entry_at new c ≡ entry_at old c)
    (pushed : (c : ℕ) → has_number after c ≡ (has_number before c || ((c == b) && not (is_listed old b))))
    (held : holds w.pairs a b ≡ true) (from : has_number level a ≡ true)
    (still : (x y : ℕ) → seen x y → then_ x y) (here : then_ a b) (only : (x y : ℕ) → then_ x y → seen x y ⊎ ((x ≡ a) × (y ≡ b)))
    (s : IsSearching w roots d level before seen old) where
  -- the block's new entry, of which this is known
  pub record IsNew (f : Entry) : Type 0 where
    is : entry_at new b ≡ Some f
    path : IsPath w roots f.depth b
    bound : f.depth ≤ suc d
    above : f.depth ≤ d → IsParent w roots b f.depth f.parent
    below : f.depth ≡ suc d → IsFirstSeen then_ b f.parent
    kept : (e : Entry) → entry_at old b ≡ Some e → f.depth ≡ e.depth
    added : is_listed old b ≡ false → f.depth ≡ suc d

  listed_has : (o : Option Entry) → is_some o ≡ true → (e : Entry) × (o ≡ Some e)
  listed_has None h = absurd (cc)
  listed_has (Some e) h = (e, refl)

  module _ (f : Entry) (n : IsNew f) where
    this : (e : Entry) → entry_at new b ≡ Some e → f ≡ e
    this e h = same_entry f e (sym n.is ∙ h)

    -- a block's depth stays
    depth_stays : (c k : ℕ) → HasDepth old c k → HasDepth new c k
    depth_stays c k h = elim (cases_eq c b) [
      | inl same ↦ subst (λ x. HasDepth new x k) (sym same) (f, n.is, n.kept h.0 (subst (λ x. entry_at old x ≡ Some h.0) same h.1) ∙ h.2)
      | inr apart ↦ (h.0, other c apart ∙ h.1, h.2)
    ]

    -- and only the new one's is new
    depth_was : (c k : ℕ) → HasDepth new c k → HasDepth old c k ⊎ ((c ≡ b) × (is_listed old b ≡ false) × (k ≡ suc d))
    depth_was c k h = elim (cases_eq c b) [
      | inr apart ↦ inl (h.0, sym (other c apart) ∙ h.1, h.2)
      | inl same ↦ elim (cases_Bool (is_listed old b)) [
        | inr none ↦ inr (same, none, sym h.2 ∙ (ap (λ (x : Entry). x.depth) (sym (this h.0 (subst (λ x. entry_at new x ≡ Some h.0) same h.1))) ∙ n.added none))
        | inl was ↦ let e = listed_has (entry_at old b) was in
            inl (e.0, ap (entry_at old) same ∙ e.1, sym (n.kept e.0 e.1) ∙ (ap (λ (x : Entry). x.depth) (this h.0 (subst (λ x. entry_at new x ≡ Some h.0) same h.1)) ∙ h.2))
      ]
    ]

    -- what holds of every entry that was, and of the new one
    each : (P : ℕ → Entry → Type 0) → ((c : ℕ) (e : Entry) → (c ≡ b → ⊥) → entry_at old c ≡ Some e → P c e) → P b f → (c : ℕ) (e : Entry) → entry_at new c ≡ Some e → P c e
    each P rest one c e h = elim (cases_eq c b) [
      | inr apart ↦ rest c e apart (sym (other c apart) ∙ h)
      | inl same ↦ subst (λ x. P x e) (sym same) (subst (P b) (this e (subst (λ x. entry_at new x ≡ Some e) same h)) one)
    ]

    pub goes_on : IsSearching w roots d level after then_ new
    goes_on = record {
      sound = each (λ c e. IsPath w roots e.depth c) (λ c e _ h. s.sound c e h) n.path;
      complete = λ k c le p.
          let was = s.complete k c le p in
          let now = depth_stays c was.0.depth (was.0, was.1, refl) in
          (now.0, now.1, omega (arith, now.2, was.2));
      bound = each (λ c e. e.depth ≤ suc d) (λ c e _ h. s.bound c e h) n.bound;
      above = each (λ c e. e.depth ≤ d → IsParent w roots c e.depth e.parent) (λ c e _ h. s.above c e h) n.above;
      below = each (λ c e. e.depth ≡ suc d → IsFirstSeen then_ c e.parent) (λ c e apart h k.
          let first = s.below c e h k in
          (first.0, first.1, still first.0 c first.2, λ x g. elim (only x c g) [ inl was ↦ first.3 x was | inr now ↦ absurd (apart now.1) ])) n.below;
      held = λ x y g. elim (only x y g) [
        | inl was ↦ s.held x y was
        | inr now ↦ subst (λ z. holds w.pairs z y ≡ true) (sym now.0) (subst (λ z. holds w.pairs a z ≡ true) (sym now.1) held)
      ];
      from = λ x y g. elim (only x y g) [ inl was ↦ s.from x y was | inr now ↦ subst (λ z. has_number level z ≡ true) (sym now.0) from ];
      led = λ x y g. elim (cases_eq y b) [
        | inl same ↦ ap (λ z. is_listed new z) same ∙ ap is_some n.is
        | inr apart ↦ elim (only x y g) [ inl was ↦ ap is_some (other y apart) ∙ s.led x y was | inr now ↦ absurd (apart now.1) ]
      ];
      level_has = λ c h. depth_stays c d (s.level_has c h);
      level_all = λ c h. elim (depth_was c d h) [ inl was ↦ s.level_all c was | inr now ↦ absurd (let k = now.2 in omega (arith, k)) ];
      next_has = λ c h. elim (or_cases (has_number before c) ((c == b) && not (is_listed old b)) (sym (pushed c) ∙ h)) [
        | inl was ↦ depth_stays c (suc d) (s.next_has c was)
        | inr now ↦ let parts = and_parts (c == b) (not (is_listed old b)) now in
            subst (λ x. HasDepth new x (suc d)) (sym (eqb-true c b parts.0)) (f, n.is, n.added (negated (is_listed old b) parts.1))
      ];
      next_all = λ c h. pushed c ∙ elim (depth_was c (suc d) h) [
        | inl was ↦ or_left (has_number before c) _ (s.next_all c was)
        | inr now ↦ or_right (has_number before c) _ (and_from (c == b) (not (is_listed old b)) (eq-eqb c b now.0) (ap not now.1))
      ];
    }
      where
        negated : (t : Bool) → not t ≡ true → t ≡ false
        negated true h = absurd (both_ways false refl h)
        negated false h = refl

  -- ---- the entry that is noted

  path : IsPath w roots (suc d) b
  path = let l = s.level_has a from in (a, subst (λ k. IsPath w roots k a) l.2 (s.sound a l.0 l.1), held)

  module _ (is : entry_at new b ≡ Some (noted (entry_at old b) (suc d) a)) where
    fresh : entry_at old b ≡ None → IsNew (record { depth = suc d; parent = Some a })
    fresh none = record {
      is = is ∙ ap (λ o. Some (noted o (suc d) a)) none;
      path = path;
      bound = omega arith;
      above = λ le. absurd (omega (arith, le));
      below = λ _. (
        a,
        refl,
        here,
        λ c g. elim (only c b g) [
          | inl was ↦ absurd (both_ways (is_listed old b) (ap is_some none) (s.led c b was))
          | inr now ↦ omega (arith, now.0)
        ],
      );
      kept = λ e h. absurd (both_ways (is_listed old b) (ap is_some none) (ap is_some h));
      added = λ _. refl;
    }

    -- a block that is listed higher up stays as it is
    higher : (e : Entry) → entry_at old b ≡ Some e → e.depth ≤ d → IsNew e
    higher e h le = record {
      is = is ∙ (ap (λ o. Some (noted o (suc d) a)) h ∙ ap (λ t. Some (cond t (record { depth = suc d; parent = Some (lesser e.parent a) }) e)) (ne_eqb e.depth (suc d) (λ k. omega (arith, k, le))));
      path = s.sound b e h;
      bound = s.bound b e h;
      above = s.above b e h;
      below = λ k. absurd (omega (arith, k, le));
      kept = λ f g. ap (λ (x : Entry). x.depth) (same_entry e f (sym h ∙ g));
      added = λ none. absurd (both_ways (is_listed old b) none (ap is_some h));
    }

    -- one that is listed at this depth takes the lesser parent
    equal : (e : Entry) → entry_at old b ≡ Some e → e.depth ≡ suc d → IsNew (record { depth = suc d; parent = Some (lesser e.parent a) })
    equal e h k = let first = s.below b e h k in record {
      is = is ∙ (ap (λ o. Some (noted o (suc d) a)) h ∙ ap (λ t. Some (cond t (record { depth = suc d; parent = Some (lesser e.parent a) }) e)) (eq-eqb e.depth (suc d) k));
      path = path;
      bound = omega arith;
      above = λ le. absurd (omega (arith, le));
      below = λ _. (min first.0 a, ap (λ o. Some (lesser o a)) first.1, one_of first.0 first.2, λ c g. lesser_than first.0 c g (first.3 c));
      kept = λ f g. sym k ∙ ap (λ (x : Entry). x.depth) (same_entry e f (sym h ∙ g));
      added = λ none. absurd (both_ways (is_listed old b) none (ap is_some h));
    }
      where
        one_of : (p : ℕ) → seen p b → then_ (min p a) b
        one_of p was = elim (cases_lt p a) [
          | inl lt ↦ let is_p : p ≡ min p a = omega arith in subst (λ x. then_ x b) is_p (still p b was)
          | inr le ↦ let is_a : a ≡ min p a = omega arith in subst (λ x. then_ x b) is_a here
        ]

        lesser_than : (p c : ℕ) → then_ c b → (seen c b → p ≤ c) → min p a ≤ c
        lesser_than p c g least = elim (only c b g) [
          | inl was ↦ let le = least was in omega (arith, le)
          | inr now ↦ let same = now.0 in omega (arith, same)
        ]

    pub noted_goes_on : IsSearching w roots d level after then_ new
    noted_goes_on = elim (entry_at old b) as (λ o. entry_at old b ≡ o → IsSearching w roots d level after then_ new) [
      | None ↦ λ h. goes_on _ (fresh h)
      | Some e ↦ λ h. elim (cases_lt d e.depth) [
        | inr le ↦ goes_on e (higher e h le)
        | inl lt ↦ let top = s.bound b e h in let k : e.depth ≡ suc d = omega arith in goes_on _ (equal e h k)
      ]
    ] refl

-- ---- a level to its end

module _ (w : World) (roots : List ℕ) (d : ℕ) (level next : List ℕ) (seen : ℕ → ℕ → Type 0) (entries : List (Option Entry)) (s : IsSearching w roots d level next seen entries) where
  -- a listed block's depth is right
  pub exact : (b : ℕ) (e : Entry) → entry_at entries b ≡ Some e → IsDepth w roots b e.depth
  exact b e h = record {
    path = s.sound b e h;
    shortest = λ n p. elim (cases_lt d n) [
      | inl lt ↦ let top = s.bound b e h in omega arith
      | inr le ↦ let short = s.complete n b le p in
          let same = ap (λ (x : Entry). x.depth) (same_entry e short.0 (sym h ∙ short.1)) in
          let most = short.2 in omega (arith, same, most)
    ];
  }

  module _ (all : (a b : ℕ) → holds w.pairs a b ≡ true → has_number level a ≡ true → seen a b) where
    listed_entry : (b : ℕ) → is_listed entries b ≡ true → (e : Entry) × (entry_at entries b ≡ Some e)
    listed_entry b h = elim (entry_at entries b) as (λ o. is_some o ≡ true → (e : Entry) × (o ≡ Some e)) [ None ↦ λ k. absurd (cc) | Some e ↦ λ k. (e, refl) ] h

    completed : (n b : ℕ) → n ≤ suc d → IsPath w roots n b → HasDepthTo entries b n
    completed n b le p = elim (cases_lt d n) [
      | inr short ↦ s.complete n b short p
      | inl long ↦ let last : n ≡ suc d = omega arith in
          subst (HasDepthTo entries b) (sym last) (one_more (subst (λ k. IsPath w roots k b) last p))
    ]
      where
        one_more : IsPath w roots (suc d) b → HasDepthTo entries b (suc d)
        one_more q =
            let before = s.complete d q.0 (omega arith) q.1 in
            elim (cases_lt before.0.depth d) [
              | inl lt ↦
                  let short = s.complete (suc before.0.depth) b (omega arith) (q.0, s.sound q.0 before.0 before.1, q.2) in
                  (short.0, short.1, let most = short.2 in omega (arith, most, lt))
              | inr ge ↦
                  let most = before.2 in
                  let at : before.0.depth ≡ d = omega (arith, most, ge) in
                  let found = listed_entry b (s.led q.0 b (all q.0 b q.2 (s.level_all q.0 (before.0, before.1, at)))) in
                  (found.0, found.1, s.bound b found.0 found.1)
            ]

    parent_found : (b : ℕ) (o : Option ℕ) → IsFirstSeen seen b o → IsParent w roots b (suc d) o
    parent_found b o first = subst (IsParent w roots b (suc d)) (sym first.1) (record {
      leads = record {
        points = s.held first.0 b first.2;
        above = let at = s.level_has first.0 (s.from first.0 b first.2) in subst (IsDepth w roots first.0) at.2 (exact first.0 at.0 at.1);
      };
      least = λ c leads.
          let to = s.complete d c (omega arith) leads.above.path in
          let low = leads.above.shortest to.0.depth (s.sound c to.0 to.1) in
          let most = to.2 in
          let at : to.0.depth ≡ d = omega (arith, low, most) in
          first.3 c (all c b leads.points (s.level_all c (to.0, to.1, at)));
    })

    pub level_done : IsSearching w roots (suc d) next [] NoneSeen entries
    level_done = record {
      sound = s.sound;
      complete = completed;
      bound = λ b e h. let top = s.bound b e h in omega (arith, top);
      above = λ b e h le. elim (cases_lt d e.depth) [
        | inr short ↦ s.above b e h short
        | inl long ↦ let at : e.depth ≡ suc d = omega arith in
            subst (λ k. IsParent w roots b k e.parent) (sym at) (parent_found b e.parent (s.below b e h at))
      ];
      below = λ b e h at. absurd (let top = s.bound b e h in omega (arith, top, at));
      held = λ a b none. absurd none;
      from = λ a b none. absurd none;
      led = λ a b none. absurd none;
      level_has = s.next_has;
      level_all = s.next_all;
      next_has = λ b h. absurd (both_ways false refl h);
      next_all = λ b h. absurd (let top = s.bound b h.0 h.1 in let at = h.2 in omega (arith, top, at));
    }

-- ---- the first level and the last

module _ (w : World) (roots : List ℕ) (entries : List (Option Entry)) (are : HasRoots roots entries) where
  root_is : (b : ℕ) (e : Entry) → entry_at entries b ≡ Some e → (has_number roots b ≡ true) × (root_entry ≡ e)
  root_is b e h = elim (has_number roots b) as (λ t. cond t (Some root_entry) None ≡ Some e → (t ≡ true) × (root_entry ≡ e)) [
    | true ↦ λ k. (refl, same_entry root_entry e k)
    | false ↦ λ k. absurd (cc)
  ] (sym (are b) ∙ h)

  is_root : (b : ℕ) → has_number roots b ≡ true → entry_at entries b ≡ Some root_entry
  is_root b h = are b ∙ ap (λ t. cond t (Some root_entry) None) h

  at_root : (P : Entry → Type 0) → P root_entry → (b : ℕ) (e : Entry) → entry_at entries b ≡ Some e → P e
  at_root P one b e h = subst P (root_is b e h).1 one

  pub begun : IsSearching w roots 0 roots [] NoneSeen entries
  begun = record {
    sound = λ b e h. subst (λ (x : Entry). IsPath w roots x.depth b) (root_is b e h).1 (root_is b e h).0;
    complete = λ n b le p. let none : n ≡ 0 = omega arith in (root_entry, is_root b (subst (λ k. IsPath w roots k b) none p), omega arith);
    bound = at_root (λ e. e.depth ≤ 1) (omega arith);
    above = λ b e h le. at_root (λ e. IsParent w roots b e.depth e.parent) tt b e h;
    below = λ b e h k. absurd (let one = at_root (λ e. e.depth ≡ 0) refl b e h in omega (arith, one, k));
    held = λ a b none. absurd none;
    from = λ a b none. absurd none;
    led = λ a b none. absurd none;
    level_has = λ b h. (root_entry, is_root b h, refl);
    level_all = λ b h. (root_is b h.0 h.1).0;
    next_has = λ b h. absurd (both_ways false refl h);
    next_all = λ b h. absurd (let one = at_root (λ e. e.depth ≡ 0) refl b h.0 h.1 in let k = h.2 in omega (arith, one, k));
  }

-- at the end each block is listed that is reached
module _ (w : World) (roots : List ℕ) (d : ℕ) (level : List ℕ) (entries : List (Option Entry)) (s : IsSearching w roots d level [] NoneSeen entries) where
  -- where no block has this depth, a path of any length leads to a listed block
  all_listed : ((b : ℕ) → has_number level b ≡ false) → (n b : ℕ) → IsPath w roots n b → (e : Entry) × (entry_at entries b ≡ Some e)
  all_listed none zero b p = let found = s.complete zero b (omega arith) p in (found.0, found.1)
  all_listed none (suc n) b p =
      let before = all_listed none n p.0 p.1 in
      let e = before.0 in
      elim (cases_lt e.depth d) [
        | inl lt ↦ let found = s.complete (suc e.depth) b (omega arith) (p.0, s.sound p.0 e before.1, p.2) in (found.0, found.1)
        | inr ge ↦ elim (cases_lt d e.depth) [
          | inl gt ↦ let top = s.bound p.0 e before.1 in let at : e.depth ≡ suc d = omega arith in
              absurd (both_ways false refl (s.next_all p.0 (e, before.1, at)))
          | inr le ↦ let at : e.depth ≡ d = omega arith in absurd (both_ways (has_number level p.0) (none p.0) (s.level_all p.0 (e, before.1, at)))
        ]
      ]

  module _ (whole : IsWholeWorld w) (inside : (b : ℕ) → has_number roots b ≡ true → b < w.geometry.blocks)
      (ended : (d ≡ w.geometry.blocks) ⊎ ((b : ℕ) → has_number level b ≡ false)) where
    found : (b : ℕ) → has_number (reach_from w roots) b ≡ true → is_listed entries b ≡ true
    found b h =
        let p = path_of_round w roots whole inside w.geometry.blocks b h in
        elim ended [
          | inl all ↦ let e = s.complete p.0 b (let short = p.1 in omega (arith, short, all)) p.2 in ap is_some e.1
          | inr none ↦ let e = all_listed none p.0 b p.2 in ap is_some e.1
        ]

    sound : (b : ℕ) → is_listed entries b ≡ true → has_number (reach_from w roots) b ≡ true
    sound b h = elim (entry_at entries b) as (λ o. entry_at entries b ≡ o → is_some o ≡ true → has_number (reach_from w roots) b ≡ true) [
      | None ↦ λ _ k. absurd (both_ways false refl k)
      | Some e ↦ λ is k. reached_by_path w roots whole inside e.depth b (s.sound b e is)
    ] refl h

    pub are_reached : AreReached w roots entries
    are_reached = record {
      listed = λ b. same_tests (is_listed entries b) (has_number (reach_from w roots) b) (sound b) (found b);
      each = λ b. elim (entry_at entries b) as (λ o. entry_at entries b ≡ o → IfSome o (IsEntryOf w roots b)) [
        | None ↦ λ _. tt
        | Some e ↦ λ is. record {
          depth = exact w roots d level [] NoneSeen entries s b e is;
          parent = s.above b e is (low b e is);
        }
      ] refl;
    }
      where
        low : (b : ℕ) (e : Entry) → entry_at entries b ≡ Some e → e.depth ≤ d
        low b e is = elim (cases_lt d e.depth) [
          | inr le ↦ le
          | inl gt ↦ let top = s.bound b e is in let at : e.depth ≡ suc d = omega arith in absurd (both_ways false refl (s.next_all b (e, is, at)))
        ]

-- ---- a whole search

-- each item is below a bound
pub each_below : (n : ℕ) (xs : List ℕ) → ((k e : ℕ) → k < length xs → slice_index_or xs k e < n) → (b : ℕ) → has_number xs b ≡ true → b < n
each_below n [] all b h = absurd (both_ways false refl h)
each_below n (x ∷ xs) all b h = elim (or_cases (x == b) (has_number xs b) h) [
  | inl here ↦ let same = eqb-true x b here in let first = all 0 0 (omega arith) in omega (arith, same, first)
  | inr later ↦ each_below n xs (λ k e inside. all (suc k) e (omega arith)) b later
]

pub search_done : (w : World) (roots : List ℕ) (entries : List (Option Entry)) → IsWholeWorld w → ((k e : ℕ) → k < length roots → slice_index_or roots k e < w.geometry.blocks) → IsSearched w roots entries → AreReached w roots entries
search_done w roots entries whole inside s = are_reached w roots s.depth s.level entries s.searched whole (each_below w.geometry.blocks roots inside) s.ended
