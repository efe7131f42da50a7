-- A new inode points to the blocks that it shares, one after the other.
use Rattle.std.proofs.Common.{◌≡◌, ℕ, zero, suc, ◌+◌, ◌-◌, ◌<◌, ◌≤◌, Bool, true, false, not, ◌&&◌, ◌||◌, ◌==◌, List, [], ◌∷◌, ◌++◌, length, refl, sym, ◌∙◌, ap, subst, arith, inl, inr, ◌⊎◌, Option, Some, None, Result, Ok, Err}
use Rattle.inode_changes.proofs.Common.{and_parts, or_left, or_right, eq-eqb, eqb-true, take, slice_index, World, is_live, has_number, are_apart, holds, is_pair, Nothing, holds-with_pair, length-with_new_pair, is_under, FsRefusal, attains_write, any-append, each_under, DiskView, IsDiskSound, state_of, IsValidNow, Client, shown_at, link_by, refusal_before, MayWrite, no_look, Leads, Steps, pointed, no_room_in, Runs, runs_look, runs_step, then_runs, room_there, there_is_room, pairs_want, wanted_pairs, may_after, Making, RootReaches, Stage, IsAside, AsideOf, Shared, Stopped}
use Rattle.tsd_model.specs.Sessions.{is_open}
use Rattle.tsd_model.specs.declared.requests.Level.TheVariants as level
use Rattle.disk_laws.proofs.AttainedLaws.{attained_where}
use Rattle.fs_trees.specs.declared.refusal.FsRefusal.TheVariants as no
use Rattle.inode_changes.proofs.MakingLaws.{making_shared}
use Rattle.inode_changes.proofs.FillLaws.{aside_now}

-- ---- lists

take_none : (xs : List ℕ) → take 0 xs ≡ []
take_none [] = refl
take_none (x ∷ xs) = refl

take_next : (xs : List ℕ) (i : ℕ) → i < length xs → take (i + 1) xs ≡ take i xs ++ slice_index xs i ∷ []
take_next [] i h = absurd (omega arith)
take_next (x ∷ xs) zero h = ap (λ ys. x ∷ ys) (take_none xs)
take_next (x ∷ xs) (suc i) h = let same : suc i + 1 ≡ suc (i + 1) = omega arith in ap (λ k. take k (x ∷ xs)) same ∙ ap (λ ys. x ∷ ys) (take_next xs i (omega arith))

take_whole : (xs : List ℕ) (i : ℕ) → length xs ≤ i → take i xs ≡ xs
take_whole [] zero h = refl
take_whole [] (suc i) h = refl
take_whole (x ∷ xs) zero h = absurd (omega arith)
take_whole (x ∷ xs) (suc i) h = ap (λ ys. x ∷ ys) (take_whole xs i (omega arith))

pub is_among : (xs : List ℕ) (i : ℕ) → i < length xs → has_number xs (slice_index xs i) ≡ true
is_among [] i h = absurd (omega arith)
is_among (x ∷ xs) zero h = or_left (x == x) _ (eq-eqb x x refl)
is_among (x ∷ xs) (suc i) h = or_right (x == slice_index xs i) _ (is_among xs i (omega arith))

-- none stands before itself
not_before : (xs : List ℕ) (i : ℕ) → are_apart xs ≡ true → i < length xs → has_number (take i xs) (slice_index xs i) ≡ false
not_before [] i apart h = absurd (omega arith)
not_before (x ∷ xs) zero apart h = refl
not_before (x ∷ xs) (suc i) apart h =
    let parts = and_parts (not (has_number xs x)) (are_apart xs) apart in
    both (x == slice_index xs i) (has_number (take i xs) (slice_index xs i)) (other (x == slice_index xs i) refl) (not_before xs i parts.1 (omega arith))
  where
    both : (s t : Bool) → s ≡ false → t ≡ false → (s || t) ≡ false
    both s t p q = cc

    clash : (t : Bool) → t ≡ true → not t ≡ true → ⊥
    clash true p q = cc
    clash false p q = cc

    other : (t : Bool) → (x == slice_index xs i) ≡ t → t ≡ false
    other false e = refl
    other true e = absurd (clash (has_number xs x) (ap (has_number xs) (eqb-true x (slice_index xs i) e) ∙ is_among xs i (omega arith)) (and_parts (not (has_number xs x)) (are_apart xs) apart).0)

-- ---- the way to a block that isn't primary

pub way_there : (c : Client) (v : DiskView) (b : ℕ) → v.world.geometry.primaries ≤ b → MayWrite c v b → attains_write (state_of v) c.session b Nothing ≡ true
way_there c v b above may = elim ((attained_where v.world v.sessions c.session b (shown_at c b) level.Write refl).0 may.attains) [
  | inl shown ↦ absurd (never shown.0)
  | inr held ↦ (attained_where v.world v.sessions c.session b Nothing level.Write refl).1 (inr held)
]
  where
    never : b < v.world.geometry.primaries → ⊥
    never below = omega (arith, below, above)

pub may_same : (c : Client) (old new : DiskView) → state_of new ≡ state_of old → (b : ℕ) → MayWrite c old b → MayWrite c new b
may_same c old new same b may = record {
  number = may.number;
  begun = ap (λ s. is_open s.sessions c.session) same ∙ may.begun;
  live = ap (λ s. is_live s.world b) same ∙ may.live;
  attains = ap (λ s. attains_write s c.session b (shown_at c b)) same ∙ may.attains;
}

-- ---- the refusal as of the time before

pub fault_before : (e : FsRefusal) (n : ℕ) → refusal_before e n ≡ no.Device → e ≡ no.Device
fault_before (no.PointersFull held most) n h = absurd (cc)
fault_before e n h = h

pub before_fault : (e : FsRefusal) (n : ℕ) → e ≡ no.Device → refusal_before e n ≡ no.Device
before_fault e n h = ap (λ r. refusal_before r n) h

pub runs_before : {X : Type 0} (told : Type 0) (old new : DiskView) (P : World → Type 0) (e : FsRefusal) (n : ℕ) → Runs {X = X} told old new P (Err e) → Runs {X = X} told old new P (Err (refusal_before e n))
runs_before told old new P e n h = record {
  valid = λ t. (tt, λ ne. (h.valid t).1 (λ k. ne (before_fault e n k)));
  led = λ t. (tt, λ ne. (h.led t).1 (λ k. ne (before_fault e n k)));
  crash = h.crash;
  stays = (tt, λ ne. h.stays.1 (λ k. ne (before_fault e n k)));
  counts = h.counts;
  unspent = (tt, λ ne. h.unspent.1 (λ k. ne (before_fault e n k)));
  faultless = (tt, λ ne. h.faultless.1 (λ k. ne (before_fault e n k)));
  cause = λ k. h.cause (fault_before e n k);
  spent = λ k. h.spent (fault_before e n k);
}

-- ---- so far

-- the inode points to the first of the blocks
pub record Sharing (told : Type 0) (c : Client) (first now : DiskView) (i : ℕ) (all : List ℕ) (lookup : ℕ) : Type 0 where
  pub runs : Runs {X = Unit {0}} told first now (AsideOf c.root i all first.world) (Ok tt)
  pub geometry : told → now.world.geometry ≡ first.world.geometry
  pub same : told → now.world.blocks ≡ first.world.blocks
  pub pairs : told → length now.world.pairs ≡ length first.world.pairs + lookup
  pub held : told → (b : ℕ) → holds now.world.pairs i b ≡ has_number (take lookup all) b
  pub making : told → (w : World) (d : ℕ) → Stage c.root w d → Making c.root w d i [] [] first.world → RootReaches c.root w all → Making c.root w d i (take lookup all) [] now.world
  pub may : told → (b : ℕ) → MayWrite c first b → MayWrite c now b
  pub room : told → length first.world.pairs + lookup ≤ first.world.geometry.slots

aside_of_same : (root i : ℕ) (all : List ℕ) (w v : World) → v ≡ w → AsideOf root i all w v
aside_of_same root i all w v e first d at m reached = subst (IsAside root first) (sym e) (aside_now root first d i [] [] w at m)

pub sharing_begins : (told : Type 0) (c : Client) (first : DiskView) (i : ℕ) (all : List ℕ) → first.spent ≡ false → (told → IsDiskSound first) → (told → IsValidNow first) → (told → (b : ℕ) → holds first.world.pairs i b ≡ false) → Sharing told c first first i all 0
sharing_begins told c first i all unspent sound now bare = record {
  runs = runs_look told first first (AsideOf c.root i all first.world) (Ok tt) (λ t w e. aside_of_same c.root i all first.world w e) (no_look told first unspent sound now);
  geometry = λ t. refl;
  same = λ t. refl;
  pairs = λ t. omega arith;
  held = λ t b. bare t b ∙ sym (ap (λ xs. has_number xs b) (take_none all));
  making = λ t w d at m reached. subst (λ xs. Making c.root w d i xs [] first.world) (sym (take_none all)) m;
  may = λ t b h. h;
  room = λ t. let most = (now t).valid.raw.sized.room in omega (arith, most);
}

module _ (told : Type 0) (c : Client) (first now new : DiskView) (i : ℕ) (all : List ℕ) (lookup : ℕ) (s : Sharing told c first now i all lookup) (inside : lookup < length all) where
  abbrev b : ℕ
  b = slice_index all lookup

  pub valid_now : told → IsValidNow now
  valid_now t = (s.runs.valid t).0

  pub not_yet : told → are_apart all ≡ true → holds now.world.pairs i (slice_index all lookup) ≡ false
  not_yet t apart = s.held t (slice_index all lookup) ∙ not_before all lookup apart inside

  made_more : told → Leads now.world (link_by c i (slice_index all lookup)) (pointed now.world i (slice_index all lookup)) → (w : World) (d : ℕ) → Stage c.root w d → Making c.root w d i [] [] first.world → RootReaches c.root w all
      → Making c.root w d i (take (lookup + 1) all) [] (pointed now.world i (slice_index all lookup))
  made_more t leads w d at m reached =
      let under : is_under w c.root (slice_index all lookup) ≡ true = reached (slice_index all lookup) (is_among all lookup inside) in
      let was : is_live w (slice_index all lookup) ≡ true = each_under w c.root (λ k. is_live w k ≡ true) (at.valid.raw.primaries c.root at.primary) (λ x y pair k. at.valid.raw.targets x y pair) (slice_index all lookup) under in
      subst (λ xs. Making c.root w d i xs [] (pointed now.world i (slice_index all lookup))) (sym (take_next all lookup inside))
      (making_shared c.root w at.valid at.primary at.there d at.dir c i (take lookup all) now.world (s.making t w d at m reached) (slice_index all lookup) was under leads)

  stop_at_link : told → (v : World) → (v ≡ now.world) ⊎ ((v ≡ pointed now.world i (slice_index all lookup)) × Leads now.world (link_by c i (slice_index all lookup)) (pointed now.world i (slice_index all lookup))) → AsideOf c.root i all first.world v
  stop_at_link t v h w d at m reached = elim h [
    | inl before ↦ subst (IsAside c.root w) (sym before) (aside_now c.root w d i (take lookup all) [] now.world at (s.making t w d at m reached))
    | inr e ↦ subst (IsAside c.root w) (sym e.0) (aside_now c.root w d i (take (lookup + 1) all) [] (pointed now.world i (slice_index all lookup)) at (made_more t e.1 w d at m reached))
  ]

  -- the next pointer, whatever comes of it
  pub shares_on : {X : Type 0} (result : Result X FsRefusal) → Steps told c now new (link_by c i (slice_index all lookup)) i (pointed now.world i (slice_index all lookup)) result → Runs told first new (AsideOf c.root i all first.world) result
  shares_on result steps = then_runs told first now new (AsideOf c.root i all first.world) tt result s.runs
      (runs_step told c now new (link_by c i (slice_index all lookup)) i (pointed now.world i (slice_index all lookup)) (AsideOf c.root i all first.world) result valid_now stop_at_link steps)

  module _ (steps : Steps {X = Unit {0}} told c now new (link_by c i (slice_index all lookup)) i (pointed now.world i (slice_index all lookup)) (Ok tt)) (apart : told → are_apart all ≡ true)
      (room : told → ◌≡◌ {A = Option FsRefusal} (no_room_in now.world 0 1) None) where
    pub shared_next : Sharing told c first new i all (lookup + 1)
    shared_next = record {
      runs = shares_on (Ok tt) steps;
      geometry = λ t. ap (λ w. w.geometry) (steps.went t).world ∙ s.geometry t;
      same = λ t. ap (λ w. w.blocks) (steps.went t).world ∙ s.same t;
      pairs = λ t.
          let more = length-with_new_pair (i, slice_index all lookup) now.world.pairs (not_yet t (apart t)) in
          let is = ap (λ w. length w.pairs) (steps.went t).world in
          let so_far = s.pairs t in
          omega (arith, more, is, so_far);
      held = λ t k. ap (λ w. holds w.pairs i k) (steps.went t).world ∙ (holds-with_pair (i, slice_index all lookup) now.world.pairs i k
          ∙ (ap (λ x. is_pair i k (i, slice_index all lookup) || x) (s.held t k)
          ∙ (turned (has_number (take lookup all) k) (i == i) (slice_index all lookup == k) (eq-eqb i i refl)
          ∙ (sym (any-append (λ x. x == k) (take lookup all) (slice_index all lookup ∷ [])) ∙ ap (λ xs. has_number xs k) (sym (take_next all lookup inside))))));
      making = λ t w d at m reached. subst (Making c.root w d i (take (lookup + 1) all) []) (sym (steps.went t).world) (made_more t (steps.went t).leads w d at m reached);
      may = λ t k h. may_after c now new (link_by c i (slice_index all lookup)) i (pointed now.world i (slice_index all lookup)) (steps.went t) (valid_now t) refl refl
          (λ x y p. holds-with_pair (i, slice_index all lookup) now.world.pairs x y ∙ or_right (is_pair x y (i, slice_index all lookup)) _ p)
          (λ x l. l) steps.stays.0 k (s.may t k h);
      room = λ t.
          let free = (there_is_room now.world 0 1 (room t)).1 in
          let so_far = s.pairs t in
          let slots : now.world.geometry.slots ≡ first.world.geometry.slots = ap (λ g. g.slots) (s.geometry t) in
          omega (arith, free, so_far, slots);
    }
      where
        turned : (x y z : Bool) → y ≡ true → ((y && z) || x) ≡ (x || (z || false))
        turned true true true e = refl
        turned true true false e = refl
        turned false true true e = refl
        turned false true false e = refl
        turned x false z e = absurd (cc)

  -- there is no room for the next
  module _ (e : FsRefusal) (full : told → no_room_in now.world 0 1 ≡ Some e) (same : told → state_of new ≡ state_of now) where
    pub full_before : told → (n : ℕ) → lookup < n → no_room_in first.world 0 n ≡ Some (refusal_before e lookup)
    full_before t n more =
        let want = wanted_pairs now.world 0 1 e (omega arith) (full t) in
        let low = want.0 in
        let so_far = s.pairs t in
        let slots : now.world.geometry.slots ≡ first.world.geometry.slots = ap (λ g. g.slots) (s.geometry t) in
        let held : length first.world.pairs ≡ length now.world.pairs - lookup = omega (arith, so_far) in
        pairs_want first.world 0 n (omega arith) (omega (arith, low, so_far, slots, more))
        ∙ (ap (λ k. Some (no.PointersFull k first.world.geometry.slots)) held
        ∙ (ap (λ k. Some (no.PointersFull (length now.world.pairs - lookup) k)) (sym slots) ∙ ap (λ r. Some (refusal_before r lookup)) want.1))

    pub stopped_here : told → Stopped c first new i all
    stopped_here t =
        let world : new.world ≡ now.world = ap (λ x. x.world) (same t) in
        record {
          geometry = ap (λ w. w.geometry) world ∙ s.geometry t;
          making = λ w d at m reached. (take lookup all, subst (Making c.root w d i (take lookup all) []) (sym world) (s.making t w d at m reached));
          may = λ k h. may_same c now new (same t) k (s.may t k h);
        }

pub all_shared : (told : Type 0) (c : Client) (first now : DiskView) (i : ℕ) (all : List ℕ) (lookup : ℕ) → Sharing told c first now i all lookup → lookup ≡ length all → told → Shared c first now i all
all_shared told c first now i all lookup s ends t = record {
  geometry = s.geometry t;
  same = s.same t;
  pairs = s.pairs t ∙ ap (λ k. length first.world.pairs + k) ends;
  making = λ w d at m reached. subst (λ xs. Making c.root w d i xs [] now.world) (take_whole all lookup (omega (arith, ends))) (s.making t w d at m reached);
  may = s.may t;
}

pub room_for_shared : (told : Type 0) (c : Client) (first now : DiskView) (i : ℕ) (all : List ℕ) (lookup n : ℕ) → Sharing told c first now i all lookup → n ≤ lookup → told → ◌≡◌ {A = Option FsRefusal} (no_room_in first.world 0 n) None
room_for_shared told c first now i all lookup n s ends t = let room = s.room t in room_there first.world 0 n (omega arith) (omega (arith, room, ends))

-- all are shared, and then something else was refused
pub stopped_after : (c : Client) (first now new : DiskView) (i : ℕ) (all : List ℕ) → Shared c first now i all → state_of new ≡ state_of now → Stopped c first new i all
stopped_after c first now new i all shared same =
    let world : new.world ≡ now.world = ap (λ x. x.world) same in
    record {
      geometry = ap (λ w. w.geometry) world ∙ shared.geometry;
      making = λ w d at m reached. (all, subst (Making c.root w d i all []) (sym world) (shared.making w d at m reached));
      may = λ k h. may_same c now new same k (shared.may k h);
    }
