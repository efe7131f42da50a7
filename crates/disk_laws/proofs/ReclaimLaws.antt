-- Which blocks are reclaimed, and which stay.
use Rattle.std.proofs.Common.{◌≡◌, ℕ, Bool, true, false, not, ◌&&◌, ◌||◌, ◌==◌, ◌↔◌, [], length, refl, sym, ◌∙◌, ap, subst, Option, Some, None, inl, inr}
use Rattle.disk_laws.proofs.Common.{and_parts, eq-eqb, ltb-false, not-true, cases_lt, is_none, holds, World, contents, is_live, is_primary, has_number, reach, is_led_only_from, doomed, settle, Sessions, verdict, is_granted, IsValid, State, change, raised_by, without_pointer, answer, Shown, PlaceKind, Request, Rule, KeepsWhatIsReached, writes_to, is_sweep, LosesItsPointers, ReclaimsTheLost, ReclaimOrder, all_of_held}
use Rattle.tsd_model.specs.declared.requests.Request.TheVariants as ask
use Rattle.disk_laws.proofs.DoomLaws.{live-restricted, holds-restricted, is_doomed}
use Rattle.disk_laws.proofs.ReachLaws.{reached_is_led_to}
use Rattle.disk_laws.proofs.ChangeLaws.{held_before}
use Rattle.disk_laws.proofs.StayLaws.{only_adds, live-change, holds-change, contents-change}
use Rattle.disk_laws.proofs.OrderLaws.{by_round, has-by_round, rounds_apart, rounds_in_order}
use Rattle.disk_laws.proofs.AnswerLaws.{after_answer, granted_answer}
use Rattle.disk_laws.proofs.RunLaws.{granted_is_valid, answer_valid}
use Rattle.tsd_model.proofs.ValueLaws.{clash}

-- ---- what is reached

pub reached_is_live : (w : World) (b : ℕ) → IsValid w → has_number (reach w) b ≡ true → is_live w b ≡ true
reached_is_live w b valid h = elim (cases_lt b w.geometry.primaries) [
  | inl below ↦ valid.raw.primaries b below
  | inr above ↦ let found = reached_is_led_to w valid.raw b above h in valid.raw.targets found.0 b found.1
]

pub reached_stays : (kind : PlaceKind) (s : State) (q : Request) (want : Bool) → IsValid s.world → KeepsWhatIsReached s.world (answer kind s q want).state.world
reached_stays kind s q want valid b live h = reached_is_live (answer kind s q want).state.world b (answer_valid kind s q want valid) h

pub bytes_stay : (kind : PlaceKind) (s : State) (q : Request) (want : Bool) (b : ℕ) → is_live s.world b ≡ true → is_live (answer kind s q want).state.world b ≡ true → writes_to q b ≡ false → contents (answer kind s q want).state.world b ≡ contents s.world b
bytes_stay kind s q want b live after n =
    after_answer (λ t. is_live t.world b ≡ true → contents t.world b ≡ contents s.world b) kind s q want (λ _. refl)
    (λ _ g. contents-change kind s.world (raised_by s.world s.sessions q) q b live g n) after

-- ---- the last pointer

-- where a world stays, a live block keeps a pointer
stays_loses : (w : World) (b : ℕ) → IsValid w → is_live w b ≡ true → (is_live w b ≡ false) ↔ LosesItsPointers w w b
stays_loses w b valid live = (λ e. absurd (clash (is_live w b) live e), λ h. let found = valid.led_to b h.0 live in absurd (clash (holds w.pairs found.0 b) found.1 (h.1 found.0 found.1)))

adds_loses : (kind : PlaceKind) (w : World) (u : Sessions) (q : Request) (b : ℕ) → only_adds q ≡ true → IsValid w → is_live w b ≡ true → (is_live (change kind w u q).state.world b ≡ false) ↔ LosesItsPointers w (change kind w u q).state.world b
adds_loses kind w u q b adds valid live = (
  λ e. absurd (clash (is_live (change kind w u q).state.world b) (live-change kind w u q b adds live) e),
  λ h. let found = valid.led_to b h.0 live in absurd (clash (holds (change kind w u q).state.world.pairs found.0 b) (holds-change kind w u q found.0 b adds found.1) (h.1 found.0 found.1)),
)

-- a live block that is free once settled is doomed
gone_is_doomed : (d l t : Bool) → t ≡ (not d && l) → l ≡ true → t ≡ false → d ≡ true
gone_is_doomed true l t e p q = refl
gone_is_doomed false l t e p q = absurd (clash t (e ∙ p) q)

only_if : (b : ℕ) (t : Bool) → (not (b == b) || t) ≡ true → t ≡ true
only_if b t g = let same = eq-eqb b b refl in subst (λ x. (not x || t) ≡ true) same g

delete_loses : (w : World) (x y b : ℕ) → IsValid w → IsValid (settle (without_pointer w x y)) → is_live w b ≡ true → (is_live (settle (without_pointer w x y)) b ≡ false) ↔ LosesItsPointers w (settle (without_pointer w x y)) b
delete_loses w x y b valid next live = (forth, back)
  where
    forth : is_live (settle (without_pointer w x y)) b ≡ false → LosesItsPointers w (settle (without_pointer w x y)) b
    forth e =
        let is_gone = gone_is_doomed (has_number (doomed (without_pointer w x y)) b) (is_live w b) (is_live (settle (without_pointer w x y)) b) (live-restricted (without_pointer w x y) (λ c. not (has_number (doomed (without_pointer w x y)) c)) b) live e in
        let hangs = sym (is_doomed (without_pointer w x y) valid.raw.sized.each_block b) ∙ is_gone in
        let parts = and_parts (is_live (without_pointer w x y) b && not (is_primary (without_pointer w x y) b)) (is_led_only_from (without_pointer w x y) (doomed (without_pointer w x y)) b) hangs in
        let other = (and_parts (is_live w b) (not (is_primary w b)) parts.0).1 in (
          ltb-false b w.geometry.primaries (not-true (is_primary w b) other),
          λ a held. holds-restricted (without_pointer w x y) (λ c. not (has_number (doomed (without_pointer w x y)) c)) a b ∙ elim (holds (without_pointer w x y).pairs a b) as (λ t. holds (without_pointer w x y).pairs a b ≡ t → (t && not (has_number (doomed (without_pointer w x y)) a)) ≡ false) [
            | false ↦ λ _. refl
            | true ↦ λ g. ap not (only_if b (has_number (doomed (without_pointer w x y)) a) (all_of_held (λ f. not (f.1 == b) || has_number (doomed (without_pointer w x y)) f.0) (without_pointer w x y).pairs a b parts.1 g))
          ] refl,
        )

    back : LosesItsPointers w (settle (without_pointer w x y)) b → is_live (settle (without_pointer w x y)) b ≡ false
    back h = elim (is_live (settle (without_pointer w x y)) b) as (λ t. is_live (settle (without_pointer w x y)) b ≡ t → t ≡ false) [
      | false ↦ λ _. refl
      | true ↦ λ g.
          let found = next.led_to b h.0 g in
          let parts = and_parts (holds (without_pointer w x y).pairs found.0 b) (not (has_number (doomed (without_pointer w x y)) found.0)) (sym (holds-restricted (without_pointer w x y) (λ c. not (has_number (doomed (without_pointer w x y)) c)) found.0 b) ∙ found.1) in
          absurd (clash (holds (settle (without_pointer w x y)).pairs found.0 b) found.1 (h.1 found.0 (held_before w x y found.0 b parts.0)))
    ] refl

change_loses : (kind : PlaceKind) (w : World) (u : Sessions) (q : Request) (b : ℕ) → is_sweep q ≡ false → IsValid w → IsValid (change kind w u q).state.world → is_live w b ≡ true → (is_live (change kind w u q).state.world b ≡ false) ↔ LosesItsPointers w (change kind w u q).state.world b
change_loses kind w u (ask.Delete s x shown y) b n valid next live = delete_loses w x y b valid next live
change_loses kind w u (ask.Sweep s shown) b n valid next live = absurd (cc)
change_loses kind w u q b n valid next live = adds_loses kind w u q b refl valid live

pub last_pointer : (kind : PlaceKind) (s : State) (q : Request) (want : Bool) → IsValid s.world → is_sweep q ≡ false → ReclaimsTheLost s.world (answer kind s q want).state.world
last_pointer kind s q want valid n b live =
    after_answer (λ t. (is_live t.world b ≡ false) ↔ LosesItsPointers s.world t.world b) kind s q want (stays_loses s.world b valid live)
    (λ e. change_loses kind s.world (raised_by s.world s.sessions q) q b n valid (granted_is_valid kind s q valid e) live)

-- ---- the order

none_gone : (l : Bool) → false ≡ (l && not l)
none_gone true = refl
none_gone false = refl

stay_live : (l k : Bool) → (l ≡ true → k ≡ true) → false ≡ (l && not k)
stay_live true k h = sym (ap not (h refl))
stay_live false k h = refl

doomed_goes : (d l k : Bool) → (d ≡ true → l ≡ true) → k ≡ (not d && l) → d ≡ (l && not k)
doomed_goes true true k h e = sym (ap not e)
doomed_goes true false k h e = absurd (clash false (h refl) refl)
doomed_goes false true k h e = sym (ap not e)
doomed_goes false false k h e = refl

pub doomed_is_live : (w : World) → length w.blocks ≡ w.geometry.blocks → (b : ℕ) → has_number (doomed w) b ≡ true → is_live w b ≡ true
doomed_is_live w long b h = (and_parts (is_live w b) (not (is_primary w b)) (and_parts (is_live w b && not (is_primary w b)) (is_led_only_from w (doomed w) b) (sym (is_doomed w long b) ∙ h)).0).0

delete_order : (w : World) (s x y : ℕ) (shown : Shown) → IsValid w → ReclaimOrder w (settle (without_pointer w x y)) (ask.Delete s x shown y)
delete_order w s x y shown valid = record {
  order = by_round (without_pointer w x y) w.geometry.blocks;
  once = rounds_apart (without_pointer w x y) w.geometry.blocks;
  members = λ b. has-by_round (without_pointer w x y) w.geometry.blocks b
      ∙ doomed_goes (has_number (doomed (without_pointer w x y)) b) (is_live w b) (is_live (settle (without_pointer w x y)) b)
      (doomed_is_live (without_pointer w x y) valid.raw.sized.each_block b)
      (live-restricted (without_pointer w x y) (λ c. not (has_number (doomed (without_pointer w x y)) c)) b);
  rising = rounds_in_order (without_pointer w x y) w.geometry.blocks;
}

change_order : (kind : PlaceKind) (w : World) (u : Sessions) (q : Request) → is_sweep q ≡ false → IsValid w → ReclaimOrder w (change kind w u q).state.world q
change_order kind w u (ask.Delete s x shown y) n valid = delete_order w s x y shown valid
change_order kind w u (ask.Sweep s shown) n valid = absurd (cc)
change_order kind w u q n valid = record { order = []; once = refl; members = λ b. stay_live (is_live w b) (is_live (change kind w u q).state.world b) (live-change kind w u q b refl); rising = tt }

pub reclaim_order : (kind : PlaceKind) (s : State) (q : Request) (want : Bool) → IsValid s.world → is_sweep q ≡ false → ReclaimOrder s.world (answer kind s q want).state.world q
reclaim_order kind s q want valid n = after_answer (λ t. ReclaimOrder s.world t.world q) kind s q want
    (record { order = []; once = refl; members = λ b. none_gone (is_live s.world b); rising = tt })
    (λ e. change_order kind s.world (raised_by s.world s.sessions q) q n valid)

-- ---- a sweep

both : (r l : Bool) → (r ≡ true → l ≡ true) → (r && l) ≡ r
both true l h = h refl
both false l h = refl

none_is : (o : Option Rule) → is_none o ≡ true → ◌≡◌ {A = Option Rule} o None
none_is None h = refl
none_is (Some r) h = absurd (cc)

pub sweeps_the_rest : (kind : PlaceKind) (s : State) (n : ℕ) (shown : Shown) (want : Bool) (b : ℕ) → IsValid s.world → is_granted s.world s.sessions (ask.Sweep n shown) ≡ true → is_live (answer kind s (ask.Sweep n shown) want).state.world b ≡ has_number (reach s.world) b
sweeps_the_rest kind s n shown want b valid granted =
    elim (granted_answer kind s (ask.Sweep n shown) want (none_is (verdict s.world s.sessions (ask.Sweep n shown)) granted)) [
      | inl done ↦ ap (λ o. is_live o.state.world b) done ∙ (live-restricted s.world (has_number (reach s.world)) b ∙ both (has_number (reach s.world) b) (is_live s.world b) (reached_is_live s.world b valid))
      | inr lacking ↦ let never = lacking.1.1 in absurd (cc)
    ]
