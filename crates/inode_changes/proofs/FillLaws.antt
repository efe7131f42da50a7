-- The functions that make a file, a request at a time.
use Rattle.std.proofs.Common.{◌≡◌, ℕ, zero, suc, ◌+◌, ◌-◌, ◌*◌, arith, ◌<◌, ◌≤◌, true, false, not, ◌||◌, ◌==◌, List, [], ◌∷◌, length, refl, sym, ◌∙◌, ap, subst, inl, inr, ◌⊎◌, Some, Result, Ok}
use Rattle.inode_changes.proofs.Common.{and_parts, or_left, or_right, eq-eqb, not-true, take, drop, slice_index_or, length-drop, block_len, World, contents, is_live, has_number, are_apart, holds, chosen, filled, written, At, contents-other, live-with_contents, free_may, live-new_blocks, holds-new_blocks, FsRefusal, DiskView, IsDiskSound, state_of, IsValidNow, Stays, Client, shown_at, write_by, alloc_by, MayWrite, no_look, Leads, Went, Steps, taken, Runs, runs_look, runs_step, then_runs, chosen_apart, chosen_free, lives_new, holds_new, version_new, records_new, may_after, written_here, Making, Stage, IsAside, HoldBytes, AsideWith, MadeWith, WroteIn, Wrote, AsideTaking, Took}
use Rattle.fs_laws.proofs.WayLaws.{ways_lead_on}
use Rattle.inode_changes.proofs.MakingLaws.{fan_has, tree_same, making_written, making_taken}
use Rattle.tsd_model.proofs.ValueLaws.{clash, neither}

-- ---- a file in the making stays aside

pub aside_now : (root : ℕ) (first : World) (d i : ℕ) (shared fresh : List ℕ) (w : World) → Stage root first d → Making root first d i shared fresh w → IsAside root first w
aside_now root first d i shared fresh w at m = record {
  tree = tree_same root first at.valid at.primary at.there d at.dir i shared fresh w m;
  valid = m.valid;
  geometry = m.geometry;
  others = m.others;
}

-- ---- the blocks are written

module _ (c : Client) (b : ℕ) (rest bytes : List ℕ) where
  pub made_by_write : (w : World) (x : List ℕ) → Leads w (write_by c b x) (written w b x) → MadeWith c.root (b ∷ rest) w (written w b x)
  made_by_write w x leads first d i shared fresh at m new = making_written c.root first at.valid at.primary at.there d at.dir i shared fresh w m c b x (new b (or_left (b == b) _ (eq-eqb b b refl))) leads

  module _ (old mid : DiskView) (len : ℕ) (is_len : len ≡ block_len old.world.geometry) (now : IsValidNow old) (lives : is_live old.world b ≡ true) (went : Went c old mid (write_by c b (take len bytes)) b (written old.world b (take len bytes))) (stays : Stays old mid) where
    made_mid : MadeWith c.root (b ∷ rest) old.world mid.world
    made_mid = subst (MadeWith c.root (b ∷ rest) old.world) (sym went.world) (made_by_write old.world (take len bytes) went.leads)

    pub may_mid : (k : ℕ) → MayWrite c old k → MayWrite c mid k
    may_mid = may_after c old mid (write_by c b (take len bytes)) b (written old.world b (take len bytes)) went now refl refl (λ x y h. h) (λ k h. live-with_contents old.world b k (filled (block_len old.world.geometry) (take len bytes)) h) stays

    pub len_mid : len ≡ block_len mid.world.geometry
    len_mid = is_len ∙ ap (λ w. block_len w.geometry) (sym went.world)

    pub wrote_more : (new : World) → has_number rest b ≡ false → WroteIn c.root mid.world new rest (drop len bytes) → WroteIn c.root old.world new (b ∷ rest) bytes
    wrote_more new apart later = record {
      geometry = later.geometry ∙ ap (λ w. w.geometry) went.world;
      holds = (
        later.others b apart ∙ (ap (λ w. contents w b) went.world ∙ (written_here old.world b (take len bytes) lives
            ∙ ap (λ n. Some (filled (block_len old.world.geometry) (take n bytes))) is_len)),
        subst (λ n. HoldBytes n new rest (drop n bytes)) is_len (subst (λ n. HoldBytes n new rest (drop len bytes)) (sym len_mid) later.holds),
      );
      others = λ k h. let off = neither (b == k) (has_number rest k) h in
          later.others k off.1 ∙ (ap (λ w. contents w k) went.world ∙ contents-other old.world b k (filled (block_len old.world.geometry) (take len bytes)) (λ e. clash (b == k) (eq-eqb b k (sym e)) off.0));
      making = λ first d i shared fresh at m new_ones. later.making first d i shared fresh at (made_mid first d i shared fresh at m new_ones) (λ k j. new_ones k (or_right (b == k) _ j));
    }

-- ---- one of these blocks is written

module _ (c : Client) (blocks : List ℕ) (b : ℕ) (among : has_number blocks b ≡ true) where
  pub made_by_one : (w : World) (x : List ℕ) → Leads w (write_by c b x) (written w b x) → MadeWith c.root blocks w (written w b x)
  made_by_one w x leads first d i shared fresh at m new = making_written c.root first at.valid at.primary at.there d at.dir i shared fresh w m c b x (new b among) leads

  pub stop_at_one : (w : World) (x : List ℕ) (v : World) → (v ≡ w) ⊎ ((v ≡ written w b x) × Leads w (write_by c b x) (written w b x)) → AsideWith c.root blocks w v
  stop_at_one w x v h first d i shared fresh at m new = elim h [
    | inl before ↦ subst (IsAside c.root first) (sym before) (aside_now c.root first d i shared fresh w at m)
    | inr e ↦ subst (IsAside c.root first) (sym e.0) (aside_now c.root first d i shared fresh (written w b x) at (made_by_one w x e.1 first d i shared fresh at m new))
  ]

pub aside_later : (root : ℕ) (blocks : List ℕ) (w mid v : World) → MadeWith root blocks w mid → AsideWith root blocks mid v → AsideWith root blocks w v
aside_later root blocks w mid v made h first d i shared fresh at m new = h first d i shared fresh at (made first d i shared fresh at m new) new

-- no bytes are left
pub wrote_none : (root : ℕ) (w : World) (bytes : List ℕ) → bytes ≡ [] → WroteIn root w w [] bytes
wrote_none root w bytes e = record {
  geometry = refl;
  holds = e;
  others = λ b h. refl;
  making = λ first d i shared fresh at m new. m;
}

pub aside_same : (root : ℕ) (blocks : List ℕ) (w v : World) → v ≡ w → AsideWith root blocks w v
aside_same root blocks w v e first d i shared fresh at m new = subst (IsAside root first) (sym e) (aside_now root first d i shared fresh w at m)

-- ---- blocks are taken

pub aside_taking_same : (root i : ℕ) (w v : World) → v ≡ w → AsideTaking root i w v
aside_taking_same root i w v e first d shared at m = subst (IsAside root first) (sym e) (aside_now root first d i shared [] w at m)

pub took_none : (c : Client) (v : DiskView) (i : ℕ) → Took c v v i 0 []
took_none c v i = record {
  geometry = refl;
  apart = refl;
  making = λ first d shared at m. m;
  may = λ b may. may;
  parts = λ b h. absurd (cc);
}

module _ (c : Client) (old : DiskView) (i count : ℕ) (now : IsValidNow old) where
  abbrev those : List ℕ
  those = chosen old.kind old.world (At i) count

  pub made_by_take : Leads old.world (alloc_by c i count) (taken old i count) → (first : World) (d : ℕ) (shared : List ℕ) → Stage c.root first d → Making c.root first d i shared [] old.world → Making c.root first d i shared (chosen old.kind old.world (At i) count) (taken old i count)
  made_by_take leads first d shared at m = making_taken c.root first at.valid at.primary at.there d at.dir c i shared old.world m count (chosen old.kind old.world (At i) count)
      (chosen_free old.kind old.world (At i) count) (chosen_apart old.kind old.world (At i) count) leads

  pub stop_at_take : (v : World) → (v ≡ old.world) ⊎ ((v ≡ taken old i count) × Leads old.world (alloc_by c i count) (taken old i count)) → AsideTaking c.root i old.world v
  stop_at_take v h first d shared at m = elim h [
    | inl before ↦ subst (IsAside c.root first) (sym before) (aside_now c.root first d i shared [] old.world at m)
    | inr e ↦ subst (IsAside c.root first) (sym e.0) (aside_now c.root first d i shared (chosen old.kind old.world (At i) count) (taken old i count) at (made_by_take e.1 first d shared at m))
  ]

  pub took_some : (new : DiskView) → MayWrite c old i → Went c old new (alloc_by c i count) i (taken old i count) → Stays old new → Took c old new i count (chosen old.kind old.world (At i) count)
  took_some new may went stays =
      let inside : (b : ℕ) → has_number those b ≡ true → b < length old.world.blocks = λ b h. (free_may old.world now.valid.raw b (chosen_free old.kind old.world (At i) count b h)).0 in
      record {
        geometry = ap (λ w. w.geometry) went.world ∙ went.leads.geometry;
        apart = chosen_apart old.kind old.world (At i) count;
        making = λ first d shared at m. subst (Making c.root first d i shared those) (sym went.world) (made_by_take went.leads first d shared at m);
        may = may_after c old new (alloc_by c i count) i (taken old i count) went now (version_new i those old.world) (records_new i those old.world) (holds-new_blocks i those old.world) (λ b h. live-new_blocks i those old.world b h) stays;
        parts = λ b h. record {
          number = may.number;
          begun = stays.sessions c.session ∙ may.begun;
          live = ap (λ w. is_live w b) went.world ∙ lives_new i those old.world inside b h;
          attains = ways_lead_on (state_of new) c.session i b (shown_at c b)
              (subst (λ g. g.primaries ≤ b) (sym (ap (λ w. w.geometry) went.world ∙ went.leads.geometry)) (free_may old.world now.valid.raw b (chosen_free old.kind old.world (At i) count b h)).1)
              (ap (λ w. holds w.pairs i b) went.world ∙ (holds_new i those old.world i b ∙ or_right (holds old.world.pairs i b) _ (fan_has i those b h)))
              (went.held (live-new_blocks i those old.world i may.live));
        };
      }

-- ---- the loop over the blocks

drop_first : (xs : List ℕ) (i : ℕ) (x : ℕ) → i < length xs → x ≡ slice_index_or xs i 0 → drop i xs ≡ x ∷ drop (i + 1) xs
drop_first [] i x h e = absurd (omega arith)
drop_first (y ∷ xs) zero x h e = ap (λ z. z ∷ xs) (sym e)
drop_first (y ∷ xs) (suc i) x h e =
    let next : suc (i + 1) ≡ suc i + 1 = omega arith in
    drop_first xs i x (omega arith) e ∙ ap (λ k. x ∷ drop k (y ∷ xs)) next

drop_all : (xs : List ℕ) (i : ℕ) → length xs ≤ i → drop i xs ≡ []
drop_all [] zero h = refl
drop_all [] (suc i) h = refl
drop_all (x ∷ xs) zero h = absurd (omega arith)
drop_all (x ∷ xs) (suc i) h = drop_all xs i (omega arith)

in_drop : (xs : List ℕ) (i b : ℕ) → has_number (drop i xs) b ≡ true → has_number xs b ≡ true
in_drop [] zero b h = absurd (cc)
in_drop [] (suc i) b h = absurd (cc)
in_drop (x ∷ xs) zero b h = h
in_drop (x ∷ xs) (suc i) b h = or_right (x == b) _ (in_drop xs i b h)

apart_drop : (xs : List ℕ) (i : ℕ) → are_apart xs ≡ true → are_apart (drop i xs) ≡ true
apart_drop [] zero h = refl
apart_drop [] (suc i) h = refl
apart_drop (x ∷ xs) zero h = h
apart_drop (x ∷ xs) (suc i) h = apart_drop xs i (and_parts (not (has_number xs x)) (are_apart xs) h).1

no_bytes : (xs : List ℕ) → length xs ≤ 0 → xs ≡ []
no_bytes [] h = refl
no_bytes (x ∷ xs) h = absurd (omega arith)

-- what was written so far, and what is left of the bytes
pub record Writing (told : Type 0) (c : Client) (first now : DiskView) (blocks bytes : List ℕ) (len lookup : ℕ) (rest : List ℕ) : Type 0 where
  pub runs : Runs {X = Unit {0}} told first now (AsideWith c.root blocks first.world) (Ok tt)
  pub geometry : told → now.world.geometry ≡ first.world.geometry
  pub made : told → MadeWith c.root blocks first.world now.world
  pub may : told → (b : ℕ) → MayWrite c first b → MayWrite c now b
  pub left : told → length rest ≤ len * (length blocks - lookup)
  pub last : told → (new : World) → WroteIn c.root now.world new (drop lookup blocks) rest → WroteIn c.root first.world new blocks bytes

pub writing_begins : (told : Type 0) (c : Client) (first : DiskView) (blocks bytes : List ℕ) (len : ℕ) → first.spent ≡ false → (told → IsDiskSound first) → (told → IsValidNow first) → (told → length bytes ≤ len * length blocks) → Writing told c first first blocks bytes len 0 bytes
writing_begins told c first blocks bytes len unspent sound now enough = record {
  runs = runs_look told first first (AsideWith c.root blocks first.world) (Ok tt) (λ t w e. aside_same c.root blocks first.world w e) (no_look told first unspent sound now);
  geometry = λ t. refl;
  made = λ t f d i shared fresh at m new. m;
  may = λ t b h. h;
  left = λ t. subst (λ k. length bytes ≤ len * k) (whole (length blocks)) (enough t);
  last = λ t new h. h;
}
  where
    whole : (n : ℕ) → n ≡ n - 0
    whole n = omega arith

module _ (told : Type 0) (c : Client) (first now new : DiskView) (blocks bytes : List ℕ) (len lookup b : ℕ) (rest : List ℕ) (w : Writing told c first now blocks bytes len lookup rest)
    (inside : lookup < length blocks) (is : b ≡ slice_index_or blocks lookup 0) (is_len : told → len ≡ block_len first.world.geometry) (apart : told → are_apart blocks ≡ true) where
  parted : drop lookup blocks ≡ b ∷ drop (lookup + 1) blocks
  parted = drop_first blocks lookup b inside is

  pub among : has_number blocks b ≡ true
  among = in_drop blocks lookup b (ap (λ xs. has_number xs b) parted ∙ or_left (b == b) _ (eq-eqb b b refl))

  pub len_now : told → len ≡ block_len now.world.geometry
  len_now t = is_len t ∙ ap block_len (sym (w.geometry t))

  pub valid_now : told → IsValidNow now
  valid_now t = (w.runs.valid t).0

  pub may_now : told → ((k : ℕ) → has_number blocks k ≡ true → MayWrite c first k) → MayWrite c now b
  may_now t may = w.may t b (may b among)

  -- a request at the block, whatever comes of it
  pub goes_on : {X : Type 0} (result : Result X FsRefusal) → Steps told c now new (write_by c b (take len rest)) b (written now.world b (take len rest)) result → Runs told first new (AsideWith c.root blocks first.world) result
  goes_on result steps = then_runs told first now new (AsideWith c.root blocks first.world) tt result w.runs
      (runs_step told c now new (write_by c b (take len rest)) b (written now.world b (take len rest)) (AsideWith c.root blocks first.world) result valid_now
      (λ t v h. aside_later c.root blocks first.world now.world v (w.made t) (stop_at_one c blocks b among now.world (take len rest) v h)) steps)

  module _ (steps : Steps {X = Unit {0}} told c now new (write_by c b (take len rest)) b (written now.world b (take len rest)) (Ok tt)) (may : told → MayWrite c now b) where
    pub writes_on : Writing told c first new blocks bytes len (lookup + 1) (drop len rest)
    writes_on = record {
      runs = goes_on (Ok tt) steps;
      geometry = λ t. ap (λ v. v.geometry) (steps.went t).world ∙ w.geometry t;
      made = λ t. made_on t (steps.went t).world;
      may = λ t k m. may_mid c b (drop (lookup + 1) blocks) rest now new len (len_now t) (valid_now t) (may t).live (steps.went t) steps.stays.0 k (w.may t k m);
      left = λ t. shorter (length rest) (length (drop len rest)) (length blocks) (w.left t) (length-drop len rest);
      last = λ t fin h. w.last t fin (subst (λ xs. WroteIn c.root now.world fin xs rest) (sym parted)
          (wrote_more c b (drop (lookup + 1) blocks) rest now new len (len_now t) (valid_now t) (may t).live (steps.went t) steps.stays.0 fin
          (not-true (has_number (drop (lookup + 1) blocks) b) (and_parts (not (has_number (drop (lookup + 1) blocks) b)) (are_apart (drop (lookup + 1) blocks)) (ap are_apart (sym parted) ∙ apart_drop blocks lookup (apart t))).0) h));
    }
      where
        made_on : told → new.world ≡ written now.world b (take len rest) → MadeWith c.root blocks first.world new.world
        made_on t e f d i shared fresh at m new_ones = subst (Making c.root f d i shared fresh) (sym e)
            (made_by_one c blocks b among now.world (take len rest) (steps.went t).leads f d i shared fresh at (w.made t f d i shared fresh at m new_ones) new_ones)

        shorter : (r s n : ℕ) → r ≤ len * (n - lookup) → s ≡ r - len → s ≤ len * (n - (lookup + 1))
        shorter r s n h e = fewer (n - lookup) (n - (lookup + 1)) (omega arith) h
          where
            fewer : (k j : ℕ) → j ≡ k - 1 → r ≤ len * k → s ≤ len * j
            fewer zero j q h = omega (arith, e, h)
            fewer (suc k) j q h = let same : j ≡ k = omega (arith, q) in subst (λ x. s ≤ len * x) (sym same) (omega (arith, e, h))

pub writing_ends : (told : Type 0) (c : Client) (first now : DiskView) (blocks bytes : List ℕ) (len lookup : ℕ) (rest : List ℕ) → Writing told c first now blocks bytes len lookup rest → length blocks ≤ lookup → told → Wrote c first now blocks bytes
writing_ends told c first now blocks bytes len lookup rest w ends t =
    let none : length blocks - lookup ≡ 0 = omega (arith, ends) in
    let short : length rest ≤ len * 0 = subst (λ k. length rest ≤ len * k) none (w.left t) in
    let zeros : len * 0 ≡ 0 = omega arith in
    record { here = w.last t now.world (subst (λ xs. WroteIn c.root now.world now.world xs rest) (sym (drop_all blocks lookup ends)) (wrote_none c.root now.world rest (no_bytes rest (omega (arith, short, zeros))))); may = w.may t }
