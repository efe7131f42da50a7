-- Pairs that aren't named are deleted, one after the other.
use Rattle.std.proofs.Common.{◌≡◌, ℕ, ◌<◌, true, false, not, ◌⊎◌, List, refl, sym, ◌∙◌, ap, subst, arith, inl, inr, Result, Ok, Err}
use Rattle.fs_client.proofs.Common.{and_from, IfErr, is_some, slice_get, World, contents, is_live, has_number, holds, kept_of, level_le, record_level, shown_level, IsValid, Shown, Nothing, Key, attained_where, Named, is_under, OthersStay, FsRefusal, is_inside, IsUnder, Keeps, spares, each_named, outside_twice, root_under, target_under, ways_lead_on, DiskView, state_of, IsDiskSound, IsValidNow, Stays, Client, shown_at, unlink_by, MayWrite, Looked, OnlyLooks, dropped, Leads, Went, Steps, IsWay, MayTrim, MayDelete, Trimmed, IsTrim, Trims}
use Rattle.tsd_model.specs.declared.requests.Level.TheVariants as level
use Rattle.fs_trees.specs.declared.refusal.FsRefusal.TheVariants as no
use Rattle.fs_client.proofs.LookLaws.{no_look}
use Rattle.fs_client.proofs.RunLaws.{on_ok, ok_of, others_same, runs_look, runs_step, then_runs, runs_as, runs_refused, runs_more}
use Rattle.fs_client.proofs.DropLaws.{fewer_pairs, same_bytes}

-- ---- nothing is deleted

pub named_live : (w : World) (root : ℕ) (n : Named) → IsValid w → IsUnder w root n → (b : ℕ) → has_number n.blocks b ≡ true → is_live w b ≡ true
named_live w root n valid under b m = each_named (λ c. is_live w c ≡ true) root n.pairs n.blocks under.order (valid.raw.primaries root under.primary) (λ a c h k. valid.raw.targets a c (under.held a c h)) b m

pub keeps_all : (w : World) (root : ℕ) (n : Named) → IsValid w → IsUnder w root n → Keeps w w n
keeps_all w root n valid under = record { geometry = refl; live = named_live w root n valid under; bytes = λ b m. refl; pairs = under.held }

pub is_trim : (c : Client) (n : Named) (v : DiskView) (w : World) → IsValid v.world → IsUnder v.world c.root n → w ≡ v.world → IsTrim c n v w
is_trim c n v w valid under same = subst (IsTrim c n v) (sym same) (record { valid = valid; keeps = keeps_all v.world c.root n valid under; others = others_same c.root v.world; fewer = λ a b h. h; bytes = λ b h. refl })

pub trimmed_by_looks : (c : Client) (n : Named) (old new : DiskView) → IsValidNow old → IsUnder old.world c.root n → Looked old new → Trimmed c n old new
trimmed_by_looks c n old new valid under seen =
    let as_trim = is_trim c n old new.world valid.valid under seen.world in
    record {
      valid = seen.valid;
      version = ap (λ w. w.version) seen.world;
      keeps = as_trim.keeps;
      others = as_trim.others;
      fewer = as_trim.fewer;
      bytes = as_trim.bytes;
      ways = λ s b held live. seen.ways s b held;
    }

pub trims_by_looks : {X : Type 0} (told : Type 0) (c : Client) (n : Named) (old new : DiskView) (result : Result X FsRefusal) → (told → IsValidNow old) → (told → IsUnder old.world c.root n) → (told → IfErr result (λ e. e ≡ no.Device)) → OnlyLooks told old new result → Trims told c n old new result
trims_by_looks told c n old new result valid under only looks = record {
  trimmed = λ t. ok_of (Looked old new) (Trimmed c n old new) result (trimmed_by_looks c n old new (valid t) (under t)) (looks.looked t);
  only = only;
  runs = runs_look told old new (IsTrim c n old) result (λ t w e. is_trim c n old w (valid t).valid (under t) e) looks;
}

pub trims_as : {X Y : Type 0} (told : Type 0) (c : Client) (n : Named) (old new : DiskView) (x : X) (y : Y) → Trims told c n old new (Ok x) → Trims told c n old new (Ok y)
trims_as told c n old new x y h = record { trimmed = h.trimmed; only = h.only; runs = runs_as told old new (IsTrim c n old) x y h.runs }

pub trims_refused : {X Y : Type 0} (told : Type 0) (c : Client) (n : Named) (old new : DiskView) (e : FsRefusal) → Trims {X = X} told c n old new (Err e) → Trims {X = Y} told c n old new (Err e)
trims_refused told c n old new e h = record { trimmed = h.trimmed; only = h.only; runs = runs_refused told old new (IsTrim c n old) e h.runs }

-- ---- one after the other

pub keeps_both : (w mid next : World) (n : Named) → Keeps w mid n → Keeps mid next n → Keeps w next n
keeps_both w mid next n first second = record {
  geometry = second.geometry ∙ first.geometry;
  live = second.live;
  bytes = λ b m. second.bytes b m ∙ first.bytes b m;
  pairs = second.pairs;
}

pub under_still : (w mid : World) (root : ℕ) (n : Named) → IsUnder w root n → Keeps w mid n → IsUnder mid root n
under_still w mid root n under keeps = record {
  primary = subst (λ g. root < g.primaries) (sym keeps.geometry) under.primary;
  order = under.order;
  held = keeps.pairs;
  from = under.from;
}

-- what is live was
pub freed : (c : Client) (n : Named) (old new : DiskView) → Trimmed c n old new → (b : ℕ) → is_live new.world b ≡ true → is_live old.world b ≡ true
freed c n old new h b live = ap is_some (sym (h.bytes b live)) ∙ live

pub trimmed_both : (c : Client) (n : Named) (old mid new : DiskView) → Trimmed c n old mid → Trimmed c n mid new → Trimmed c n old new
trimmed_both c n old mid new first second = record {
  valid = second.valid;
  version = second.version ∙ first.version;
  keeps = keeps_both old.world mid.world new.world n first.keeps second.keeps;
  others = outside_twice c.root old.world mid.world new.world first.others second.others;
  fewer = λ a b h. first.fewer a b (second.fewer a b h);
  bytes = λ b h. second.bytes b h ∙ first.bytes b (freed c n mid new second b h);
  ways = λ s b held live. second.ways s b (first.ways s b held (freed c n mid new second b live)) live;
}

later_trim : (c : Client) (n : Named) (old mid : DiskView) (w : World) → Trimmed c n old mid → IsTrim c n mid w → IsTrim c n old w
later_trim c n old mid w first h = record {
  valid = h.valid;
  keeps = keeps_both old.world mid.world w n first.keeps h.keeps;
  others = outside_twice c.root old.world mid.world w first.others h.others;
  fewer = λ a b held. first.fewer a b (h.fewer a b held);
  bytes = λ b live. h.bytes b live ∙ first.bytes b (ap is_some (sym (h.bytes b live)) ∙ live);
}

pub then_trims : {X Y : Type 0} (told : Type 0) (c : Client) (n : Named) (old mid new : DiskView) (x : X) (result : Result Y FsRefusal) → Trims told c n old mid (Ok x) → Trims told c n mid new result → Trims told c n old new result
then_trims told c n old mid new x result first second = record {
  trimmed = λ t. on_ok (Trimmed c n mid new) (Trimmed c n old new) result (trimmed_both c n old mid new (first.trimmed t)) (second.trimmed t);
  only = second.only;
  runs = then_runs told old mid new (IsTrim c n old) x result first.runs
      (runs_more told mid new (IsTrim c n mid) (IsTrim c n old) result (λ t w h. later_trim c n old mid w (first.trimmed t) h) second.runs);
}

-- ---- a deletion under the root of a pair that isn't named

module _ (c : Client) (n : Named) (old : DiskView) (a b : ℕ) (valid : IsValidNow old) (under : IsUnder old.world c.root n) (named : has_number n.blocks a ≡ true) (held : holds old.world.pairs a b ≡ true) (spared : holds n.pairs a b ≡ false) where
  named_under : (d : ℕ) → has_number n.blocks d ≡ true → is_under old.world c.root d ≡ true
  named_under d m = each_named (λ x. is_under old.world c.root x ≡ true) c.root n.pairs n.blocks under.order (root_under old.world valid.valid.raw c.root under.primary)
      (λ x y h k. target_under old.world valid.valid.raw c.root under.primary x y (under.held x y h) k) d m

  inside : is_inside old.world c.root (unlink_by c a b) ≡ true
  inside =
      let first = named_under a named in
      let second = target_under old.world valid.valid.raw c.root under.primary a b held first in
      and_from (is_under old.world c.root a) _ first (and_from (is_under old.world c.root b) true second refl)

  spares_it : spares n (unlink_by c a b) ≡ true
  spares_it = ap not spared

  led : Leads old.world (unlink_by c a b) (dropped old.world a b) → IsTrim c n old (dropped old.world a b)
  led leads = record {
    valid = leads.valid;
    keeps = leads.keeps c.root n under spares_it;
    others = leads.others c.root under.primary inside;
    fewer = fewer_pairs old.world a b;
    bytes = same_bytes old.world a b;
  }

  pub trimmed_by_step : (new : DiskView) → Went c old new (unlink_by c a b) a (dropped old.world a b) → Trimmed c n old new
  trimmed_by_step new went = record {
    valid = went.valid;
    version = ap (λ w. w.version) went.world;
    keeps = subst (λ w. Keeps old.world w n) (sym went.world) (went.leads.keeps c.root n under spares_it);
    others = subst (OthersStay c.root old.world) (sym went.world) (went.leads.others c.root under.primary inside);
    fewer = λ x y h. fewer_pairs old.world a b x y (ap (λ w. holds w.pairs x y) (sym went.world) ∙ h);
    bytes = λ d h. ap (λ w. contents w d) went.world ∙ same_bytes old.world a b d (ap (λ w. is_live w d) (sym went.world) ∙ h);
    ways = λ s d way live. went.ways s d way (ap (λ w. is_live w d) (sym went.world) ∙ live);
  }

  pub crash_by_step : (w : World) → (w ≡ old.world) ⊎ ((w ≡ dropped old.world a b) × Leads old.world (unlink_by c a b) (dropped old.world a b)) → IsTrim c n old w
  crash_by_step w h = elim h [
    | inl before ↦ is_trim c n old w valid.valid under before
    | inr after ↦ subst (IsTrim c n old) (sym after.0) (led after.1)
  ]

pub trims_by_step : {X : Type 0} (told : Type 0) (c : Client) (n : Named) (old new : DiskView) (a b : ℕ) (result : Result X FsRefusal)
    → (told → IsValidNow old) → (told → IsUnder old.world c.root n) → (told → has_number n.blocks a ≡ true) → (told → holds old.world.pairs a b ≡ true) → (told → holds n.pairs a b ≡ false)
    → (told → IfErr result (λ e. e ≡ no.Device)) → Steps told c old new (unlink_by c a b) a (dropped old.world a b) result → Trims told c n old new result
trims_by_step told c n old new a b result valid under named held spared only steps = record {
  trimmed = λ t. on_ok (Went c old new (unlink_by c a b) a (dropped old.world a b)) (Trimmed c n old new) result (trimmed_by_step c n old a b (valid t) (under t) (named t) (held t) (spared t) new) (steps.went t);
  only = only;
  runs = runs_step told c old new (unlink_by c a b) a (dropped old.world a b) (IsTrim c n old) result valid (λ t. crash_by_step c n old a b (valid t) (under t) (named t) (held t) (spared t)) steps;
}

-- ---- and the next may be asked

module _ (c : Client) (n : Named) (old new : DiskView) (trimmed : Trimmed c n old new) (stays : Stays old new) where
  pub way_still : (a : ℕ) → IsUnder old.world c.root n → IsWay c n old a → IsWay c n new a
  way_still a under (inl e) = inl e
  way_still a under (inr h) = inr (h.0, h.1, trimmed.ways c.session h.0 h.2 (trimmed.keeps.live h.0 (under.from h.0 a h.1)))

  root_still : c.root < old.world.geometry.primaries → MayWrite c old c.root → MayWrite c new c.root
  root_still under may = record {
    number = may.number;
    begun = stays.sessions c.session ∙ may.begun;
    live = trimmed.valid.valid.raw.primaries c.root (subst (λ g. c.root < g.primaries) (sym trimmed.keeps.geometry) under);
    attains = (attained_where new.world new.sessions c.session c.root (shown_at c c.root) level.Write refl).1
        (elim ((attained_where old.world old.sessions c.session c.root (shown_at c c.root) level.Write refl).0 may.attains) [
          | inl shown ↦ inl (subst (λ g. c.root < g.primaries) (sym trimmed.keeps.geometry) shown.0, ap (level_le level.Write) (shown_same (shown_at c c.root)) ∙ shown.1)
          | inr held ↦ let low = held.0 in absurd (omega (arith, under, low))
        ]);
  }
    where
      shown_same : (x : Shown) → shown_level new.world c.root x ≡ shown_level old.world c.root x
      shown_same Nothing = refl
      shown_same (Key k) = ap (λ rs. record_level (slice_get rs c.root) (kept_of new.world.version k)) trimmed.others.records ∙ ap (λ m. record_level (slice_get old.world.records c.root) (kept_of m k)) trimmed.version

  pub may_by_way : (a : ℕ) → IsUnder old.world c.root n → IsWay c n new a → MayWrite c old a → MayWrite c new a
  may_by_way a under (inl e) may = subst (MayWrite c new) (sym e) (root_still under.primary (subst (MayWrite c old) e may))
  may_by_way a under (inr h) may =
      let pair = trimmed.keeps.pairs h.0 a h.1 in
      record {
        number = may.number;
        begun = stays.sessions c.session ∙ may.begun;
        live = trimmed.valid.valid.raw.targets h.0 a pair;
        attains = ways_lead_on (state_of new) c.session h.0 a (shown_at c a) (trimmed.valid.valid.raw.apart h.0 a pair) pair h.2;
      }

  pub trim_still : (a : ℕ) (names : List ℕ) → MayTrim c n old a names → MayTrim c n new a names
  trim_still a names h =
      let way = way_still a h.under h.way in
      record {
        under = under_still old.world new.world c.root n h.under trimmed.keeps;
        named = h.named;
        all = h.all;
        way = way;
        may = may_by_way a h.under way h.may;
      }

pub delete_still : {X : Type 0} (told : Type 0) (c : Client) (n : Named) (old new : DiskView) (a : ℕ) (names : List ℕ) (x : X) → MayDelete told c n old a names → Trims told c n old new (Ok x) → MayDelete told c n new a names
delete_still told c n old new a names x may trims = record {
  unspent = trims.runs.unspent.0;
  valid = λ t. (trims.trimmed t).valid;
  trim = λ t. trim_still c n old new (trims.trimmed t) trims.runs.stays.0 a names (may.trim t);
}

pub none_deleted : (told : Type 0) (c : Client) (n : Named) (v : DiskView) (a : ℕ) (names : List ℕ) → (told → IsDiskSound v) → MayDelete told c n v a names → Trims {X = Unit {0}} told c n v v (Ok tt)
none_deleted told c n v a names sound may = trims_by_looks told c n v v (Ok tt) may.valid (λ t. (may.trim t).under) (λ t. tt) (no_look told v may.unspent sound may.valid)
