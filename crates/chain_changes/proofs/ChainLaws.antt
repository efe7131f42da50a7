-- The calls that make the blocks of a chain.
use Rattle.std.proofs.Common.{◌≡◌, ◌≢◌, ℕ, ◌+◌, ◌-◌, ◌^◌, ◌<◌, ◌≤◌, true, false, ◌==◌, List, [], ◌∷◌, ◌++◌, length, length-append, refl, sym, ◌∙◌, ap, subst, arith, inl, inr, ◌⊎◌, Option, Some, None, Result, Ok, Err}
use Rattle.chain_changes.proofs.Common.{and_from, or_cases, or_left, or_right, eq-eqb, eqb-true, false_from_ne_true, slice_index_or, World, is_live, is_free, free_count, has_number, holds, is_pair, chosen, zeros, with_new_blocks, IsValid, length-with_new_pair, free_may, live-new_blocks, holds-new_blocks, FsRefusal, attains_write, DiskView, state_of, IsValidNow, Client, shown_at, unlink_by, alloc_by, MayWrite, OnlyLooks, may_again, Leads, Steps, taken, dropped, no_room_in, Runs, runs_look, runs_step, runs_more, then_runs, runs_as, clash_free_live, others_same, chosen_free, chosen_enough, lives_new, holds_new, version_new, records_new, room_there, there_is_room, may_after, Stage, Making, IsAside, AreLinkable, NewChain, IsInMaking, AsideOf}
use Rattle.tsd_model.specs.Sessions.{is_open}
use Rattle.tsd_model.specs.declared.requests.Hint.TheVariants.{At}
use Rattle.tsd_model.specs.declared.requests.Request.{Request}
use Rattle.fs_trees.specs.declared.refusal.FsRefusal.TheVariants as no
use Rattle.fs_laws.proofs.WayLaws.{ways_lead_on}
use Rattle.fs_client.specs.Leftovers.{refusal_before}
use Rattle.fs_client.proofs.NeedLaws.{free_count_new, pairs_want, wanted_pairs}
use Rattle.chain_changes.proofs.LinkLaws.{last_of, last_more, in_more, along_last}
use Rattle.chain_changes.proofs.MakingLaws.{making_begins, aside_now, making_grows}
use Rattle.chain_changes.proofs.BackLaws.{is_back}

-- ---- one block

-- what holds of a request holds of it where another value is given on
pub as_block : {X Y : Type 0} (told : Type 0) (c : Client) (old new : DiskView) (q : Request) (a : ℕ) (after : World) (x : X) (y : Y) → Steps told c old new q a after (Ok x) → Steps told c old new q a after (Ok y)
as_block told c old new q a after x y h = record { went = h.went; same = λ t. tt; crash = h.crash; stays = h.stays; counts = h.counts; unspent = h.unspent; faultless = h.faultless; cause = tt; spent = tt }

pub as_refused : {X Y : Type 0} (told : Type 0) (c : Client) (old new : DiskView) (q : Request) (a : ℕ) (after : World) (e : FsRefusal) → Steps {X = X} told c old new q a after (Err e) → Steps {X = Y} told c old new q a after (Err e)
as_refused told c old new q a after e h = record { went = λ t. tt; same = h.same; crash = h.crash; stays = h.stays; counts = h.counts; unspent = h.unspent; faultless = h.faultless; cause = h.cause; spent = h.spent }

pub no_block : {X Y : Type 0} (told : Type 0) (c : Client) (old new : DiskView) (q : Request) (a : ℕ) (after : World) (x : X) (e : FsRefusal) → e ≢ no.Device → (told → ⊥) → Steps told c old new q a after (Ok x) → Steps {X = Y} told c old new q a after (Err e)
no_block told c old new q a after x e ne never h = record {
  went = λ t. tt;
  same = λ t. absurd (never t);
  crash = h.crash;
  stays = (tt, λ _. h.stays.0);
  counts = h.counts;
  unspent = (tt, λ _. h.unspent.0);
  faultless = (tt, λ _. h.faultless.0);
  cause = λ d. absurd (ne d);
  spent = λ d. absurd (ne d);
}

-- where there is room for one, one is chosen, and it can be named
pub one_chosen : (v : DiskView) (a : ℕ) → IsValid v.world → ◌≡◌ {A = Option FsRefusal} (no_room_in v.world 1 1) None → (b : ℕ) × (chosen v.kind v.world (At a) 1 ≡ b ∷ []) × (b + 1 < 2 ^ 32)
one_chosen v a valid room =
    let free = (there_is_room v.world 1 1 room).0 in
    of_one (chosen v.kind v.world (At a) 1) (chosen_enough v.kind v.world (At a) 1 free) (λ b m. (free_may v.world valid.raw b (chosen_free v.kind v.world (At a) 1 b m)).0)
  where
    of_one : (bs : List ℕ) → length bs ≡ 1 → ((b : ℕ) → has_number bs b ≡ true → b < length v.world.blocks) → (b : ℕ) × (bs ≡ b ∷ []) × (b + 1 < 2 ^ 32)
    of_one [] e within = absurd (omega arith)
    of_one (b ∷ []) e within = (b, refl, let low = within b (or_left (b == b) false (eq-eqb b b refl)) in let many = valid.raw.sized.each_block in let most = valid.raw.sized.lawful.blocks.1 in omega (arith, low, many, most))
    of_one (b ∷ k ∷ bs) e within = absurd (omega arith)

-- a refusal by a rule leaves what can go on
pub runs_despite : {X : Type 0} (told : Type 0) (old new : DiskView) (P : World → Type 0) (e : FsRefusal) → e ≢ no.Device → Runs {X = X} told old new P (Err e) → Runs {X = Unit {0}} told old new P (Ok tt)
runs_despite told old new P e ne h = record {
  valid = λ t. ((h.valid t).1 ne, tt);
  led = λ t. ((h.led t).1 ne, tt);
  crash = h.crash;
  stays = (h.stays.1 ne, tt);
  counts = h.counts;
  unspent = (h.unspent.1 ne, tt);
  faultless = (h.faultless.1 ne, tt);
  cause = tt;
  spent = tt;
}

may_same : (c : Client) (now new : DiskView) (b : ℕ) → state_of new ≡ state_of now → MayWrite c now b → MayWrite c new b
may_same c now new b e may = record {
  number = may.number;
  begun = ap (λ st. is_open st.sessions c.session) e ∙ may.begun;
  live = ap (λ st. is_live st.world b) e ∙ may.live;
  attains = ap (λ st. attains_write st c.session b (shown_at c b)) e ∙ may.attains;
}

-- told as of before, it is no fault either
pub no_fault_before : (e : FsRefusal) (made : ℕ) → e ≢ no.Device → refusal_before e made ≢ no.Device
no_fault_before (no.PointersFull held most) made ne g = cc
no_fault_before e made ne g = ne g

-- ---- a chain is given up

pub aside_first : (root : ℕ) (first : World) (source : ℕ) → Stage root first source → IsAside root first first
aside_first root first source at = record { tree = refl; valid = at.valid; geometry = refl; others = others_same root first }

pub aside_none : (root source : ℕ) (blocks : List ℕ) (w v : World) → v ≡ w → AsideOf root source blocks w v
aside_none root source blocks w v e first at m = subst (IsAside root first) (sym e) (aside_now root first source at blocks w m)

pub aside_back : (c : Client) (source i : ℕ) (blocks : List ℕ) → 1 ≤ length blocks → i ≡ slice_index_or blocks 0 0
    → (w v : World) → (v ≡ w) ⊎ ((v ≡ dropped w source i) × Leads w (unlink_by c source i) (dropped w source i)) → AsideOf c.root source blocks w v
aside_back c source i blocks some is w v h first at m = elim h [
  | inl before ↦ subst (IsAside c.root first) (sym before) (aside_now c.root first source at blocks w m)
  | inr e ↦ subst (IsAside c.root first) (sym (e.0 ∙ is_back c.root first at.valid source i blocks w some is m)) (aside_first c.root first source at)
]

-- ---- a chain grows

-- so many blocks were made, of which this is the last
pub record Chaining (told : Type 0) (c : Client) (first now : DiskView) (source count made above : ℕ) (blocks : List ℕ) : Type 0 where
  pub runs : Runs {X = Unit {0}} told first now (IsAside c.root first.world) (Ok tt)
  pub linkable : AreLinkable blocks
  pub many : length blocks ≡ made
  pub last : above ≡ last_of source blocks
  pub chain : told → NewChain c first now source made blocks
  pub free : told → free_count now.world + made ≡ free_count first.world
  pub pairs : told → length now.world.pairs ≡ length first.world.pairs + made
  pub enough : told → count ≤ free_count first.world

pub chaining_begins : (told : Type 0) (c : Client) (first now : DiskView) (source count : ℕ) → OnlyLooks {X = Unit {0}} told first now (Ok tt) → (told → IsValidNow first) → (told → Stage c.root first.world source) → (told → count ≤ free_count first.world)
    → Chaining told c first now source count 0 source []
chaining_begins told c first now source count looks valid at enough = record {
  runs = runs_look told first now (IsAside c.root first.world) (Ok tt) (λ t w e. subst (IsAside c.root first.world) (sym e) (aside_first c.root first.world source (at t))) looks;
  linkable = λ b h. absurd (cc);
  many = refl;
  last = refl;
  chain = λ t. record {
    making = subst (Making c.root first.world source []) (sym (looks.looked t).0.world) (making_begins c.root first.world source (at t));
    many = refl;
    may = λ b may. may_again c first now b (looks.looked t).0 looks.stays.0 (valid t) may;
    own = λ b h. absurd (cc);
  };
  free = λ t. let same = ap free_count (looks.looked t).0.world in omega (arith, same);
  pairs = λ t. let same = ap (λ w. length w.pairs) (looks.looked t).0.world in omega (arith, same);
  enough = enough;
}

module _ (told : Type 0) (c : Client) (first now new : DiskView) (source count made above : ℕ) (blocks : List ℕ) (h : Chaining told c first now source count made above blocks) (at : told → Stage c.root first.world source) where
  valid_now : told → IsValidNow now
  valid_now t = (h.runs.valid t).0

  pub in_making : told → IsInMaking c.root source blocks now.world
  in_making t = (first.world, at t, (h.chain t).making)

  pub above_may : told → MayWrite c first source → MayWrite c now above
  above_may t may = subst (MayWrite c now) (sym h.last) (along_last (MayWrite c now) source blocks ((h.chain t).may source may) (h.chain t).own)

  -- a request for one more
  module _ (few : made < count) where
    some_free : told → 1 ≤ free_count now.world
    some_free t = let all = h.free t in let enough = h.enough t in omega (arith, all, enough, few)

    one_is : told → (b : ℕ) × (chosen now.kind now.world (At above) 1 ≡ b ∷ [])
    one_is t = of_one (chosen now.kind now.world (At above) 1) (chosen_enough now.kind now.world (At above) 1 (some_free t))
      where
        of_one : (bs : List ℕ) → length bs ≡ 1 → (b : ℕ) × (bs ≡ b ∷ [])
        of_one [] e = absurd (omega arith)
        of_one (b ∷ []) e = (b, refl)
        of_one (b ∷ k ∷ bs) e = absurd (omega arith)

    -- the world with the chosen block
    grown : told → (b : ℕ) → chosen now.kind now.world (At above) 1 ≡ b ∷ [] → Leads now.world (alloc_by c above 1) (taken now above 1)
        → Making c.root first.world source (blocks ++ b ∷ []) (taken now above 1)
    grown t b only leads =
        let is : taken now above 1 ≡ with_new_blocks now.world above (b ∷ []) = ap (with_new_blocks now.world above) only in
        let leads_b : Leads now.world (alloc_by c above 1) (with_new_blocks now.world above (b ∷ [])) = subst (Leads now.world (alloc_by c above 1)) is leads in
        let leads_last : Leads now.world (alloc_by c (last_of source blocks) 1) (with_new_blocks now.world (last_of source blocks) (b ∷ [])) =
        subst (λ a. Leads now.world (alloc_by c a 1) (with_new_blocks now.world a (b ∷ []))) h.last leads_b in
        subst (Making c.root first.world source (blocks ++ b ∷ [])) (sym (is ∙ ap (λ a. with_new_blocks now.world a (b ∷ [])) h.last))
        (making_grows c.root first.world source (at t) blocks now.world (h.chain t).making c b (vacant b only) leads_last)
      where
        vacant : (b : ℕ) → chosen now.kind now.world (At above) 1 ≡ b ∷ [] → is_free now.world b ≡ true
        vacant b only = chosen_free now.kind now.world (At above) 1 b (ap (λ bs. has_number bs b) only ∙ or_left (b == b) false (eq-eqb b b refl))

    stop_at_take : told → (v : World) → (v ≡ now.world) ⊎ ((v ≡ taken now above 1) × Leads now.world (alloc_by c above 1) (taken now above 1)) → IsAside c.root first.world v
    stop_at_take t v (inl before) = subst (IsAside c.root first.world) (sym before) (aside_now c.root first.world source (at t) blocks now.world (h.chain t).making)
    stop_at_take t v (inr e) =
        let one = one_is t in
        subst (IsAside c.root first.world) (sym e.0) (aside_now c.root first.world source (at t) (blocks ++ one.0 ∷ []) (taken now above 1) (grown t one.0 one.1 e.1))

    -- whatever comes of it
    pub runs_on : {X : Type 0} (result : Result X FsRefusal) → Steps told c now new (alloc_by c above 1) above (taken now above 1) result → Runs told first new (IsAside c.root first.world) result
    runs_on result steps = then_runs told first now new (IsAside c.root first.world) tt result h.runs
        (runs_step told c now new (alloc_by c above 1) above (taken now above 1) (IsAside c.root first.world) result valid_now stop_at_take steps)

    -- it is refused: what the whole chain wanted, as of the world before it
    pub refused_before : told → (e : FsRefusal) → no_room_in now.world 1 1 ≡ Some e → no_room_in first.world count count ≡ Some (refusal_before e made)
    refused_before t e is =
        let all = h.free t in
        let enough = h.enough t in
        let size : now.world.geometry ≡ first.world.geometry = (h.chain t).making.geometry in
        let want = wanted_pairs now.world 1 1 e (some_free t) is in
        let low = want.0 in
        let pairs = h.pairs t in
        let slots : now.world.geometry.slots ≡ first.world.geometry.slots = ap (λ g. g.slots) size in
        let held : length first.world.pairs ≡ length now.world.pairs - made = omega (arith, pairs) in
        pairs_want first.world count count enough (omega (arith, low, pairs, slots, few))
        ∙ (ap (λ k. Some (no.PointersFull k first.world.geometry.slots)) held
        ∙ (ap (λ k. Some (no.PointersFull (length now.world.pairs - made) k)) (sym slots) ∙ ap (λ r. Some (refusal_before r made)) want.1))

    -- it is refused by a rule: nothing has changed, and the chain is still in the making
    module _ {X : Type 0} (e : FsRefusal) (ne : e ≢ no.Device) (steps : Steps {X = X} told c now new (alloc_by c above 1) above (taken now above 1) (Err e)) where
      pub runs_refused_so : Runs {X = Unit {0}} told first new (IsAside c.root first.world) (Ok tt)
      runs_refused_so = runs_despite told first new (IsAside c.root first.world) e ne (runs_on (Err e) steps)

      pub making_still : told → Making c.root first.world source blocks new.world
      making_still t = subst (λ st. Making c.root first.world source blocks st.world) (sym (steps.same t ne)) (h.chain t).making

      pub source_may : told → MayWrite c first source → MayWrite c new source
      source_may t may = may_same c now new source (steps.same t ne) ((h.chain t).may source may)

    -- it is made
    module _ (b : ℕ) (steps : Steps {X = ℕ} told c now new (alloc_by c above 1) above (taken now above 1) (Ok b)) (only : told → chosen now.kind now.world (At above) 1 ≡ b ∷ []) (small : b + 1 < 2 ^ 32) (may : told → MayWrite c first source) where
      new_is : told → new.world ≡ with_new_blocks now.world above (b ∷ [])
      new_is t = (steps.went t).world ∙ ap (with_new_blocks now.world above) (only t)

      vacant_now : told → is_free now.world b ≡ true
      vacant_now t = chosen_free now.kind now.world (At above) 1 b (ap (λ bs. has_number bs b) (only t) ∙ or_left (b == b) false (eq-eqb b b refl))

      may_on : told → (k : ℕ) → MayWrite c now k → MayWrite c new k
      may_on t = may_after c now new (alloc_by c above 1) above (taken now above 1) (steps.went t) (valid_now t) (version_new above (chosen now.kind now.world (At above) 1) now.world) (records_new above (chosen now.kind now.world (At above) 1) now.world)
          (holds-new_blocks above (chosen now.kind now.world (At above) 1) now.world) (λ k l. live-new_blocks above (chosen now.kind now.world (At above) 1) now.world k l) steps.stays.0

      own_new : told → MayWrite c new b
      own_new t =
          let w = now.world in
          let above_now = above_may t (may t) in
          let inside : (k : ℕ) → has_number (b ∷ []) k ≡ true → k < length w.blocks = λ k m. within k m (free_may w (valid_now t).valid.raw b (vacant_now t)).0 in
          record {
            number = above_now.number;
            begun = steps.stays.0.sessions c.session ∙ above_now.begun;
            live = ap (λ v. is_live v b) (new_is t) ∙ lives_new above (b ∷ []) w inside b (or_left (b == b) false (eq-eqb b b refl));
            attains = ways_lead_on (state_of new) c.session above b (shown_at c b)
                (subst (λ g. g.primaries ≤ b) (sym (ap (λ v. v.geometry) (steps.went t).world ∙ (steps.went t).leads.geometry)) (free_may w (valid_now t).valid.raw b (vacant_now t)).1)
                (ap (λ v. holds v.pairs above b) (new_is t) ∙ (holds_new above (b ∷ []) w above b ∙ or_right (holds w.pairs above b) _ (or_left (is_pair above b (above, b)) false (and_from (above == above) (b == b) (eq-eqb above above refl) (eq-eqb b b refl)))))
                ((steps.went t).held (live-new_blocks above (chosen now.kind now.world (At above) 1) now.world above above_now.live));
          }
        where
          within : (k : ℕ) → has_number (b ∷ []) k ≡ true → b < length now.world.blocks → k < length now.world.blocks
          within k m l = elim (or_cases (b == k) false m) [ inl same ↦ subst (λ x. x < length now.world.blocks) (eqb-true b k same) l | inr never ↦ absurd (cc) ]

      not_held : told → holds now.world.pairs above b ≡ false
      not_held t = false_from_ne_true (holds now.world.pairs above b) (λ k. clash_free_live now.world b (vacant_now t) ((valid_now t).valid.raw.targets above b k))

      pub chaining_on : Chaining told c first new source count (made + 1) b (blocks ++ b ∷ [])
      chaining_on = record {
        runs = runs_as told first new (IsAside c.root first.world) b tt (runs_on (Ok b) steps);
        linkable = λ k m. elim (in_more blocks b k m) [ inl was ↦ h.linkable k was | inr same ↦ subst (λ x. x + 1 < 2 ^ 32) same small ];
        many = length-append blocks (b ∷ []) ∙ ap (λ n. n + 1) h.many;
        last = last_more source blocks b;
        chain = λ t. record {
          making = subst (Making c.root first.world source (blocks ++ b ∷ [])) (sym (steps.went t).world) (grown t b (only t) (steps.went t).leads);
          many = length-append blocks (b ∷ []) ∙ ap (λ n. n + 1) h.many;
          may = λ k m. may_on t k ((h.chain t).may k m);
          own = λ k m. elim (in_more blocks b k m) [ inl was ↦ may_on t k ((h.chain t).own k was) | inr same ↦ subst (MayWrite c new) same (own_new t) ];
        };
        free = λ t.
            let one = free_count_new now.world b (zeros now.world) (vacant_now t) in
            let is = ap free_count (new_is t) in
            let all = h.free t in
            omega (arith, one, is, all);
        pairs = λ t.
            let one = length-with_new_pair (above, b) now.world.pairs (not_held t) in
            let is = ap (λ v. length v.pairs) (new_is t) in
            let all = h.pairs t in
            omega (arith, one, is, all);
        enough = h.enough;
      }

  -- all of them
  pub room_for_all : told → made ≡ count → ◌≡◌ {A = Option FsRefusal} (no_room_in first.world count count) None
  room_for_all t all =
      let most = (valid_now t).valid.raw.sized.room in
      let pairs = h.pairs t in
      let slots : now.world.geometry.slots ≡ first.world.geometry.slots = ap (λ g. g.slots) (h.chain t).making.geometry in
      room_there first.world count count (h.enough t) (omega (arith, most, pairs, slots, all))

-- A rule refuses a further block. What was made so far is in the making still, and as many as are wanted have no room.
pub record Stopped (told : Type 0) (c : Client) (first new : DiskView) (source count made : ℕ) (blocks : List ℕ) (e : FsRefusal) : Type 0 where
  pub ne : e ≢ no.Device
  pub so_far : Runs {X = Unit {0}} told first new (IsAside c.root first.world) (Ok tt)
  pub stage : told → Stage c.root first.world source
  pub making : told → Making c.root first.world source blocks new.world
  pub may : told → MayWrite c new source
  pub full : told → no_room_in first.world count count ≡ Some (refusal_before e made)

pub stopped_so : {X : Type 0} {told : Type 0} {c : Client} {first now new : DiskView} {source count made above : ℕ} {blocks same : List ℕ} {e : FsRefusal} → Chaining told c first now source count made above blocks → (told → Stage c.root first.world source)
    → (told → MayWrite c first source) → made < count → e ≢ no.Device → Steps {X = X} told c now new (alloc_by c above 1) above (taken now above 1) (Err e) → (told → no_room_in now.world 1 1 ≡ Some e) → same ≡ blocks → Stopped told c first new source count made same e
stopped_so {told = told} {c = c} {first = first} {now = now} {new = new} {source = source} {count = count} {made = made} {above = above} {blocks = blocks} {e = e} h at may few ne steps full own = record {
  ne = ne;
  so_far = runs_refused_so told c first now new source count made above blocks h at few e ne steps;
  stage = at;
  making = λ t. subst (λ bs. Making c.root first.world source bs new.world) (sym own) (making_still told c first now new source count made above blocks h at few e ne steps t);
  may = λ t. source_may told c first now new source count made above blocks h at few e ne steps t (may t);
  full = λ t. refused_before told c first now new source count made above blocks h at few t e (full t);
}

-- then they are let go of
pub given_up : {told : Type 0} {c : Client} {first new : DiskView} {source count made : ℕ} {blocks : List ℕ} {e : FsRefusal} → Stopped told c first new source count made blocks e
    → (fin : DiskView) (result : Result (Unit {0}) FsRefusal) → Runs told new fin (AsideOf c.root source blocks new.world) result → Runs told first fin (IsAside c.root first.world) result
given_up {told = told} {c = c} {first = first} {new = new} {source = source} {blocks = blocks} s fin result runs =
    then_runs told first new fin (IsAside c.root first.world) tt result s.so_far
    (runs_more told new fin (AsideOf c.root source blocks new.world) (IsAside c.root first.world) result (λ t w aside. aside first.world (s.stage t) (s.making t)) runs)
