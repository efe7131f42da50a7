-- What a certificate shows that has all three things to show; and that a search's entries show them.
use Rattle.std.proofs.Common.{◌≡◌, ℕ, zero, suc, ◌+◌, ◌<◌, true, false, ◌&&◌, nat_lt, nat_le, List, refl, sym, ◌∙◌, subst, arith, inl, inr, Option, Some, None}
use Rattle.image_audit.proofs.Common.{both_ways, cases_Bool, ltb-true, nat_tests, is_some, IfSome, MatchBool, reach, World, has_number, is_primary, primary_blocks, same_tests, has_number-range, Entry, entry_at, is_listed, IsPath, IsDepth, IsParent, IsEntryOf, AreReached, IsPrimaryEntry, HasParent, IsGoodEntry, IsBad, ListsPrimaries, HasGoodEntries, IsClosed, IsWholeWorld}
use Rattle.image_audit.proofs.PathLaws.{reached_by_path, reached_at_path}

module _ (w : World) (whole : IsWholeWorld w) (few : w.geometry.primaries < w.geometry.blocks) where
  primary_is : (b : ℕ) → has_number (primary_blocks w) b ≡ true → is_primary w b ≡ true
  primary_is b h = at (sym (has_number-range 0 w.geometry.primaries b) ∙ h)
    where
      at : (nat_le 0 b && nat_lt b (0 + w.geometry.primaries)) ≡ true → nat_lt b w.geometry.primaries ≡ true
      at g = grind (arith, nat_tests)

  is_root : (b : ℕ) → is_primary w b ≡ true → has_number (primary_blocks w) b ≡ true
  is_root b h = has_number-range 0 w.geometry.primaries b ∙ at h
    where
      at : nat_lt b w.geometry.primaries ≡ true → (nat_le 0 b && nat_lt b (0 + w.geometry.primaries)) ≡ true
      at g = grind (arith, nat_tests)

  inside : (b : ℕ) → has_number (primary_blocks w) b ≡ true → b < w.geometry.blocks
  inside b h = let below = ltb-true b w.geometry.primaries (primary_is b h) in omega (arith, below, few)

  path_reached : (n b : ℕ) → IsPath w (primary_blocks w) n b → has_number (reach w) b ≡ true
  path_reached = reached_by_path w (primary_blocks w) whole inside

  module _ (entries : List (Option Entry)) where
    listed_entry : (b : ℕ) → is_listed entries b ≡ true → (e : Entry) × (entry_at entries b ≡ Some e)
    listed_entry b h = elim (entry_at entries b) as (λ o. is_some o ≡ true → (e : Entry) × (o ≡ Some e)) [ None ↦ λ k. absurd (cc) | Some e ↦ λ k. (e, refl) ] h

    at_entry : (P : Entry → Type 0) (b : ℕ) (e : Entry) → entry_at entries b ≡ Some e → IfSome (entry_at entries b) P → P e
    at_entry P b e is all = subst (λ o. IfSome o P) is all

    -- ---- what has all three to show

    module _ (primaries : ListsPrimaries w entries) (good : HasGoodEntries w entries) (closed : IsClosed w entries) where
      -- over a block's parent, to which a path leads
      over_parent : (k : ℕ) → ((a : ℕ) (f : Entry) → entry_at entries a ≡ Some f → suc f.depth ≡ k → (n : ℕ) × IsPath w (primary_blocks w) n a)
          → (b : ℕ) (e : Entry) → e.depth ≡ k → (o : Option ℕ) → HasParent w entries b e.depth o → (n : ℕ) × IsPath w (primary_blocks w) n b
      over_parent k above b e at None h = absurd h
      over_parent k above b e at (Some a) h =
          let f = listed_entry a h.listed in
          let up : e.depth ≡ f.0.depth + 1 = at_entry (λ x. e.depth ≡ x.depth + 1) a f.0 f.1 h.depth in
          let before = above a f.0 f.1 (omega (arith, at, up)) in
          (suc before.0, (a, before.1, h.points))

      root_or_over : (k : ℕ) → ((a : ℕ) (f : Entry) → entry_at entries a ≡ Some f → suc f.depth ≡ k → (n : ℕ) × IsPath w (primary_blocks w) n a)
          → (b : ℕ) (e : Entry) → entry_at entries b ≡ Some e → e.depth ≡ k → (n : ℕ) × IsPath w (primary_blocks w) n b
      root_or_over k above b e is at = elim (cases_Bool (is_primary w b)) [
        | inl root ↦ (zero, is_root b root)
        | inr apart ↦ over_parent k above b e at e.parent (subst (λ t. MatchBool t (IsPrimaryEntry e) (HasParent w entries b e.depth e.parent)) apart (at_entry (IsGoodEntry w entries b) b e is (good b)))
      ]

      path_of : (d b : ℕ) (e : Entry) → entry_at entries b ≡ Some e → e.depth ≡ d → (n : ℕ) × IsPath w (primary_blocks w) n b
      path_of zero b e is at = root_or_over zero (λ a f _ k. absurd (omega (arith, k))) b e is at
      path_of (suc d) b e is at = root_or_over (suc d) (λ a f one k. path_of d a f one (omega (arith, k))) b e is at

      listed_at : (n b : ℕ) → IsPath w (primary_blocks w) n b → is_listed entries b ≡ true
      listed_at zero b p = primaries b (primary_is b p)
      listed_at (suc n) b p = elim (cases_Bool (is_listed entries b)) [
        | inl is ↦ is
        | inr out ↦ absurd (closed p.0 b (record { points = p.2; from = listed_at n p.0 p.1; out = out }))
      ]

      pub shown_reached : (b : ℕ) → is_listed entries b ≡ has_number (reach w) b
      shown_reached b = same_tests (is_listed entries b) (has_number (reach w) b)
          (λ h. let e = listed_entry b h in let p = path_of e.0.depth b e.0 e.1 refl in path_reached p.0 b p.1)
          (λ h. let p = reached_at_path w (primary_blocks w) whole inside b h in listed_at p.0 b p.1)

    -- ---- what a search finds

    module _ (found : AreReached w (primary_blocks w) entries) where
      path_listed : (n b : ℕ) → IsPath w (primary_blocks w) n b → is_listed entries b ≡ true
      path_listed n b p = found.listed b ∙ path_reached n b p

      pub found_primaries : ListsPrimaries w entries
      found_primaries b h = path_listed zero b (is_root b h)

      pub found_closed : IsClosed w entries
      found_closed a b out =
          let p = reached_at_path w (primary_blocks w) whole inside a (sym (found.listed a) ∙ out.from) in
          both_ways (is_listed entries b) out.out (path_listed (suc p.0) b (a, p.1, out.points))

      entry_is : (b : ℕ) (e : Entry) → entry_at entries b ≡ Some e → IsEntryOf w (primary_blocks w) b e
      entry_is b e is = at_entry (IsEntryOf w (primary_blocks w) b) b e is (found.each b)

      found_good : (b : ℕ) (e : Entry) → entry_at entries b ≡ Some e → IsGoodEntry w entries b e
      found_good b e is = elim (cases_Bool (is_primary w b)) [
        | inl root ↦
            let top = (entry_is b e is).depth.shortest zero (is_root b root) in
            let none : e.depth ≡ 0 = omega (arith, top) in
            subst (λ t. MatchBool t (IsPrimaryEntry e) (HasParent w entries b e.depth e.parent)) (sym root)
            (record { depth = none; parent = no_parent e.parent (subst (λ k. IsParent w (primary_blocks w) b k e.parent) none (entry_is b e is).parent) })
        | inr apart ↦ subst (λ t. MatchBool t (IsPrimaryEntry e) (HasParent w entries b e.depth e.parent)) (sym apart) (below e.depth e.parent refl apart (entry_is b e is).depth (entry_is b e is).parent)
      ]
        where
          no_parent : (o : Option ℕ) → IsParent w (primary_blocks w) b 0 o → o ≡ None
          no_parent None h = refl
          no_parent (Some a) h = absurd h

          below : (k : ℕ) (o : Option ℕ) → e.depth ≡ k → is_primary w b ≡ false → IsDepth w (primary_blocks w) b k → IsParent w (primary_blocks w) b k o → HasParent w entries b k o
          below zero o at apart depth parent = absurd (both_ways (is_primary w b) apart (primary_is b depth.path))
          below (suc k) None at apart depth parent = absurd parent
          below (suc k) (Some a) at apart depth parent =
              let listed = path_listed k a parent.leads.above.path in
              let f = listed_entry a listed in
              let is_f = (entry_is a f.0 f.1).depth in
              let low = is_f.shortest k parent.leads.above.path in
              let high = parent.leads.above.shortest f.0.depth is_f.path in record {
                listed = listed;
                points = parent.leads.points;
                depth = subst (λ o. IfSome o (λ x. suc k ≡ x.depth + 1)) (sym f.1) (omega (arith, low, high));
              }

      pub found_good_entries : HasGoodEntries w entries
      found_good_entries b = elim (entry_at entries b) as (λ o. entry_at entries b ≡ o → IfSome o (IsGoodEntry w entries b)) [
        | None ↦ λ _. tt
        | Some e ↦ λ is. found_good b e is
      ] refl

      pub found_no_bad : (b : ℕ) → IsBad w entries b → ⊥
      found_no_bad b bad = bad.2 (found_good b bad.0 bad.1)
