-- What stands outside a root stays.
use Rattle.std.proofs.Common.{◌≡◌, ℕ, zero, suc, ◌<◌, Bool, true, false, not, ◌&&◌, ◌||◌, ◌==◌, List, [], ◌∷◌, length, refl, sym, ◌∙◌, ap, subst, inl, inr, ◌⊎◌, nat_lt, arith}
use Rattle.fs_laws.proofs.Common.{and_parts, and_from, eq-eqb, eqb-true, not-true, ltb-false, nat_tests, is_none, is_some, World, contents, is_live, is_free, is_primary, has_number, all_blocks, holds, is_pair, is_led_only_from, hangs_on, doomed_rounds, doomed, settle, chosen, chosen_run, Sessions, IsValid, State, change, raised_by, without_pointer, with_pointer, with_contents, with_new_blocks, zeros, run_at, answer, PlaceKind, Request, writes_to, holds-with_pair, holds-filter, all_of_held, has_number-filter, live-restricted, holds-restricted, AllOf, AllFree, chosen_are_free, chosen_run_is_free, either_pair, only_adds, live-change, contents-change, contents-kept, after_answer, is_under, OthersStay}
use Rattle.tsd_model.specs.declared.requests.Request.TheVariants as ask
use Rattle.fs_laws.specs.Outside.{is_local, is_inside}
use Rattle.fs_laws.proofs.UnderLaws.{each_under, root_under, target_under}
use Rattle.tsd_model.proofs.ValueLaws.{and_true, clash}

-- two blocks of which one is inside and the other isn't
unlike : (p : ℕ → Bool) (a b : ℕ) → p a ≡ true → p b ≡ false → (a == b) ≡ false
unlike p a b h k = elim (a == b) as (λ t. (a == b) ≡ t → t ≡ false) [
  | true ↦ λ e. absurd (clash (p b) (ap p (sym (eqb-true a b e)) ∙ h) k)
  | false ↦ λ e. refl
] refl

module _ (w : World) (valid : IsValid w) (root : ℕ) (primary : root < w.geometry.primaries) where
  inside : ℕ → Bool
  inside b = is_under w root b

  -- where each pair afterwards was held before, or leads to what was inside or free, the root reaches no other block
  still_apart : (next : World) → ((a b : ℕ) → holds next.pairs a b ≡ true → (holds w.pairs a b ≡ true) ⊎ ((is_under w root b ≡ true) ⊎ (is_live w b ≡ false))) → (b : ℕ) → is_live w b ≡ true → is_under w root b ≡ false → is_under next root b ≡ false
  still_apart next pairs b live away = elim (is_under next root b) as (λ t. is_under next root b ≡ t → t ≡ false) [
    | false ↦ λ e. refl
    | true ↦ λ e. elim (each_under next root (λ c. (is_under w root c ≡ true) ⊎ (is_live w c ≡ false)) (inl (root_under w valid.raw root primary)) (λ a c h k. on a c k (pairs a c h)) b e) [
      | inl here ↦ absurd (clash (is_under w root b) here away)
      | inr free ↦ absurd (clash (is_live w b) live free)
    ]
  ] refl
    where
      on : (a c : ℕ) → (is_under w root a ≡ true) ⊎ (is_live w a ≡ false) → (holds w.pairs a c ≡ true) ⊎ ((is_under w root c ≡ true) ⊎ (is_live w c ≡ false)) → (is_under w root c ≡ true) ⊎ (is_live w c ≡ false)
      on a c k (inr new) = new
      on a c (inl here) (inl old) = inl (target_under w valid.raw root primary a c old here)
      on a c (inr free) (inl old) = absurd (clash (is_live w a) (valid.raw.sources a c old) free)

  stay_put : OthersStay root w w
  stay_put = record { records = refl; bytes = λ b live away. refl; pairs = λ a b live away. refl; apart = λ b live away. away }

  -- ---- new blocks

  new_pairs : (a : ℕ) (bs : List ℕ) (v : World) (x y : ℕ) → (a == x) ≡ false → holds (with_new_blocks v a bs).pairs x y ≡ holds v.pairs x y
  new_pairs a [] v x y off = refl
  new_pairs a (b ∷ bs) v x y off =
      new_pairs a bs (with_pointer (with_contents v b (zeros v)) a b) x y off
      ∙ (holds-with_pair (a, b) v.pairs x y ∙ ap (λ t. (t && (b == y)) || holds v.pairs x y) off)

  -- a pair afterwards was held before, or leads to one of the new blocks
  new_or_old : (a : ℕ) (bs : List ℕ) (v : World) (P : ℕ → Type 0) → AllOf P bs → (x y : ℕ) → holds (with_new_blocks v a bs).pairs x y ≡ true → (holds v.pairs x y ≡ true) ⊎ P y
  new_or_old a [] v P all x y h = inl h
  new_or_old a (b ∷ bs) v P all x y h = elim (new_or_old a bs (with_pointer (with_contents v b (zeros v)) a b) P all.1 x y h) [
    | inl old ↦ elim (either_pair (with_contents v b (zeros v)) a b x y old) [
      | inl new ↦ inr (subst P new.1 all.0)
      | inr older ↦ inl older
    ]
    | inr new ↦ inr new
  ]

  not_live : (b : ℕ) → is_free w b ≡ true → is_live w b ≡ false
  not_live b h = not-true (is_live w b) (and_parts (nat_lt b (length w.blocks)) (is_none (contents w b)) h).1

  new_apart : (a : ℕ) (bs : List ℕ) → AllFree w bs → (x y : ℕ) → holds (with_new_blocks w a bs).pairs x y ≡ true → (holds w.pairs x y ≡ true) ⊎ ((is_under w root y ≡ true) ⊎ (is_live w y ≡ false))
  new_apart a bs free x y h = elim (new_or_old a bs w (λ b. is_free w b ≡ true) free x y h) [ inl old ↦ inl old | inr new ↦ inr (inr (not_live y new)) ]

  records-new_blocks : (a : ℕ) (bs : List ℕ) (v : World) → (with_new_blocks v a bs).records ≡ v.records
  records-new_blocks a [] v = refl
  records-new_blocks a (b ∷ bs) v = records-new_blocks a bs (with_pointer (with_contents v b (zeros v)) a b)

  -- ---- a deletion

  -- what hangs on the deleted pair alone is inside
  doomed_inside : (x y : ℕ) → is_under w root y ≡ true → (r b : ℕ) → has_number (doomed_rounds (without_pointer w x y) r) b ≡ true → is_under w root b ≡ true
  doomed_inside x y to zero b h = absurd (cc)
  doomed_inside x y to (suc r) b h =
      let next = without_pointer w x y in
      let gone = doomed_rounds next r in
      let hangs = (and_parts (has_number (all_blocks next) b) (hangs_on next gone b) (sym (has_number-filter (hangs_on next gone) (all_blocks next) b) ∙ h)).1 in
      let parts = and_parts (is_live next b && not (is_primary next b)) (is_led_only_from next gone b) hangs in
      let own = and_parts (is_live next b) (not (is_primary next b)) parts.0 in
      let found = valid.led_to b (ltb-false b w.geometry.primaries (not-true (is_primary w b) own.1)) own.0 in
      elim (is_pair x y (found.0, b)) as (λ t. is_pair x y (found.0, b) ≡ t → is_under w root b ≡ true) [
        | true ↦ λ e. subst (λ c. is_under w root c ≡ true) (sym (eqb-true b y (and_parts (found.0 == x) (b == y) e).1)) to
        | false ↦ λ e.
            let held : holds next.pairs found.0 b ≡ true = holds-filter (λ f. not (is_pair x y f)) w.pairs found.0 b ∙ and_from (holds w.pairs found.0 b) _ found.1 (ap not e) in
            let from = all_of_held (λ f. not (f.1 == b) || has_number gone f.0) next.pairs found.0 b parts.1 held in
            target_under w valid.raw root primary found.0 b found.1 (doomed_inside x y to r found.0 (drop_not (b == b) (has_number gone found.0) (eq-eqb b b refl) from))
      ] refl
    where
      drop_not : (s t : Bool) → s ≡ true → (not s || t) ≡ true → t ≡ true
      drop_not true t e h = h
      drop_not false t e h = absurd (cc)

  delete_outside : (x y : ℕ) → is_under w root x ≡ true → is_under w root y ≡ true → OthersStay root w (settle (without_pointer w x y))
  delete_outside x y from to =
      let next = without_pointer w x y in
      let keep : ℕ → Bool = λ b. not (has_number (doomed next) b) in
      let stays : (b : ℕ) → is_under w root b ≡ false → keep b ≡ true = λ b away. elim (has_number (doomed next) b) as (λ t. has_number (doomed next) b ≡ t → not t ≡ true) [
        | true ↦ λ e. absurd (clash (is_under w root b) (doomed_inside x y to w.geometry.blocks b e) away)
        | false ↦ λ e. refl
      ] refl in
      record {
        records = refl;
        bytes = λ b live away. contents-kept next keep b (live-restricted next keep b ∙ and_from (keep b) (is_live w b) (stays b away) live);
        pairs = λ a b live away. holds-restricted next keep a b ∙ (ap (λ t. holds next.pairs a b && t) (stays a away) ∙ (and_true (holds next.pairs a b)
            ∙ (holds-filter (λ f. not (is_pair x y f)) w.pairs a b ∙ other_pair (holds w.pairs a b) (a == x) (b == y) (sym_off a x (unlike (is_under w root) x a from away)))));
        apart = still_apart (settle next) (λ a b h. inl (was_held x y a b (and_parts (holds next.pairs a b) (keep a) (sym (holds-restricted next keep a b) ∙ h)).0));
      }
    where
      other_pair : (t s u : Bool) → s ≡ false → (t && not (s && u)) ≡ t
      other_pair t true u e = absurd (cc)
      other_pair true false u e = refl
      other_pair false false u e = refl

      sym_off : (a x : ℕ) → (x == a) ≡ false → (a == x) ≡ false
      sym_off a x e = grind (arith, nat_tests)

      was_held : (x y a b : ℕ) → holds (without_pointer w x y).pairs a b ≡ true → holds w.pairs a b ≡ true
      was_held x y a b h = (and_parts (holds w.pairs a b) _ (sym (holds-filter (λ f. not (is_pair x y f)) w.pairs a b) ∙ h)).0

  -- ---- each request

  not_written : (q : Request) → is_inside w root q ≡ true → (b : ℕ) → is_under w root b ≡ false → writes_to q b ≡ false
  not_written (ask.Write s x shown bytes) h b away = unlike (is_under w root) x b (and_parts (is_under w root x) true h).0 away
  not_written q h b away = refl

  -- a request that takes nothing away, by what its pairs afterwards are
  adds_outside : (kind : PlaceKind) (u : Sessions) (q : Request) → only_adds q ≡ true → is_inside w root q ≡ true → (change kind w u q).state.world.records ≡ w.records
      → ((a b : ℕ) → is_under w root a ≡ false → holds (change kind w u q).state.world.pairs a b ≡ holds w.pairs a b)
      → ((a b : ℕ) → holds (change kind w u q).state.world.pairs a b ≡ true → (holds w.pairs a b ≡ true) ⊎ ((is_under w root b ≡ true) ⊎ (is_live w b ≡ false)))
      → OthersStay root w (change kind w u q).state.world
  adds_outside kind u q adds h records pairs only = record {
    records = records;
    bytes = λ b live away. contents-change kind w u q b live (live-change kind w u q b adds live) (not_written q h b away);
    pairs = λ a b live away. pairs a b away;
    apart = still_apart (change kind w u q).state.world only;
  }

  taken_outside : (kind : PlaceKind) (u : Sessions) (q : Request) (a : ℕ) (bs : List ℕ) → only_adds q ≡ true → is_inside w root q ≡ true → is_under w root a ≡ true → AllFree w bs → (change kind w u q).state.world ≡ with_new_blocks w a bs → OthersStay root w (change kind w u q).state.world
  taken_outside kind u q a bs adds h from free is = adds_outside kind u q adds h (ap (λ v. v.records) is ∙ records-new_blocks a bs w)
      (λ x y away. ap (λ v. holds v.pairs x y) is ∙ new_pairs a bs w x y (unlike (is_under w root) a x from away))
      (λ x y k. new_apart a bs free x y (ap (λ v. holds v.pairs x y) (sym is) ∙ k))

  same_outside : (kind : PlaceKind) (u : Sessions) (q : Request) → only_adds q ≡ true → is_inside w root q ≡ true → (change kind w u q).state.world.pairs ≡ w.pairs → (change kind w u q).state.world.records ≡ w.records → OthersStay root w (change kind w u q).state.world
  same_outside kind u q adds h pairs records = adds_outside kind u q adds h records
      (λ x y away. ap (λ es. holds es x y) pairs) (λ x y k. inl (ap (λ es. holds es x y) (sym pairs) ∙ k))

  change_outside : (kind : PlaceKind) (u : Sessions) (q : Request) → is_local q ≡ true → is_inside w root q ≡ true → OthersStay root w (change kind w u q).state.world
  change_outside kind u (ask.Alloc s a shown hint count) l h = taken_outside kind u (ask.Alloc s a shown hint count) a (chosen kind w hint count) refl h (and_parts (is_under w root a) true h).0 (chosen_are_free kind w hint count) refl
  change_outside kind u (ask.Contig s a shown hint count) l h = taken_outside kind u (ask.Contig s a shown hint count) a (run_at (chosen_run kind w hint count) count) refl h (and_parts (is_under w root a) true h).0 (chosen_run_is_free kind w hint count) refl
  change_outside kind u (ask.Create s a shown b) l h =
      let parts = and_parts (is_under w root a) (is_under w root b && true) h in
      let to : is_under w root b ≡ true = (and_parts (is_under w root b) true parts.1).0 in
      adds_outside kind u (ask.Create s a shown b) refl h refl
      (λ x y away. holds-with_pair (a, b) w.pairs x y ∙ ap (λ t. (t && (b == y)) || holds w.pairs x y) (unlike (is_under w root) a x parts.0 away))
      (λ x y k. elim (either_pair w a b x y k) [ inl new ↦ inr (inl (subst (λ c. is_under w root c ≡ true) new.1 to)) | inr old ↦ inl old ])
  change_outside kind u (ask.Delete s a shown b) l h =
      let parts = and_parts (is_under w root a) (is_under w root b && true) h in
      delete_outside a b parts.0 (and_parts (is_under w root b) true parts.1).0
  change_outside kind u (ask.Sweep s shown) l h = absurd (cc)
  change_outside kind u (ask.SetCap s b shown caps) l h = absurd (cc)
  change_outside kind u q l h = same_outside kind u q refl h refl refl

pub outside_stays : (kind : PlaceKind) (s : State) (q : Request) (want : Bool) (root : ℕ) → IsValid s.world → root < s.world.geometry.primaries → is_local q ≡ true → is_inside s.world root q ≡ true → OthersStay root s.world (answer kind s q want).state.world
outside_stays kind s q want root valid primary l h =
    after_answer (λ t. OthersStay root s.world t.world) kind s q want (stay_put s.world valid root primary)
    (λ _. change_outside s.world valid root primary kind (raised_by s.world s.sessions q) q l h)

pub outside_twice : (root : ℕ) (w mid next : World) → OthersStay root w mid → OthersStay root mid next → OthersStay root w next
outside_twice root w mid next first second = record {
  records = second.records ∙ first.records;
  bytes = λ b live away. second.bytes b (there b live away) (first.apart b live away) ∙ first.bytes b live away;
  pairs = λ a b live away. second.pairs a b (there a live away) (first.apart a live away) ∙ first.pairs a b live away;
  apart = λ b live away. second.apart b (there b live away) (first.apart b live away);
}
  where
    there : (b : ℕ) → is_live w b ≡ true → is_under w root b ≡ false → is_live mid b ≡ true
    there b live away = ap is_some (first.bytes b live away) ∙ live
