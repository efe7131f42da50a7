-- The search for the first directory of a tree.
use Rattle.std.proofs.Common.{◌≡◌, ◌≢◌, ◌+◌, ◌-◌, ◌<◌, ℕ, suc, Bool, true, false, cond, [], ◌∷◌, ◌++◌, length, refl, sym, ◌∙◌, ap, subst, inl, arith, Result, Ok, Err, Option, Some, None}
use Rattle.fs_copy.proofs.Common.{IfOk, names_max, entry_steps, Name, Path, is_name, nothing, a_file, a_dir, Tree, child, entry, at, is_dir, is_there, names, names_in, before, FsRefusal, IsNameListing, DiskView, IsDiskSound, IsValidNow, FilesView, Answers, TellsNext, above, Looks, on_answer, tree_under, IsSource, first_made, first_dir, inside, entries_behind}
use Rattle.fs_trees.specs.declared.ask.ShellAsk.TheVariants as ask
use Rattle.fs_trees.specs.declared.refusal.FsRefusal.TheVariants as no
use Rattle.fs_copy.proofs.CopyLaws.{source_dir, steps_are}
use Rattle.fs_copy.proofs.GoingLaws.{ready_still, then_runs, runs_more}
use Rattle.fs_copy.proofs.NameLaws.{none_behind, stands_next, behind_empty, names_inside, found_named}
use Rattle.fs_copy.proofs.ReadLaws.{never_refused, next_refused, next_tells, other_fault}
use Rattle.fs_copy.proofs.TodoLaws.{file_none}
use Rattle.fs_copy.proofs.TurnLaws.{last_same, listing_of}

-- ---- looks, one after the other

pub then_looks : {X Y told : Type 0} {old mid new : DiskView} {x : X} {result : Result Y FsRefusal} → Looks told old mid (Ok x) → Looks told mid new result → Looks told old new result
then_looks {told = told} {old = old} {mid = mid} {new = new} {x = x} {result = result} first second = record {
  world = λ t. on_answer (new.world ≡ mid.world) (new.world ≡ old.world) result (λ e. e ∙ (first.world t).0) (second.world t);
  runs = then_runs told old mid new (λ w. w ≡ old.world) x result first.runs
      (runs_more told mid new (λ w. w ≡ mid.world) (λ w. w ≡ old.world) result (λ t w e. e ∙ (first.world t).0) second.runs);
}

pub looks_as : {X Y told : Type 0} {old new : DiskView} {x : X} {y : Y} → Looks told old new (Ok x) → Looks told old new (Ok y)
looks_as h = record {
  world = h.world;
  runs = record { valid = h.runs.valid; led = h.runs.led; crash = h.runs.crash; stays = h.runs.stays; counts = h.runs.counts; unspent = h.runs.unspent; faultless = h.runs.faultless; cause = tt; spent = tt };
}

pub looks_err : {X Y told : Type 0} {old new : DiskView} {e : FsRefusal} → Looks {X = X} told old new (Err e) → Looks {X = Y} told old new (Err e)
looks_err h = record {
  world = h.world;
  runs = record { valid = h.runs.valid; led = h.runs.led; crash = h.runs.crash; stays = h.runs.stays; counts = h.runs.counts; unspent = h.runs.unspent; faultless = h.runs.faultless; cause = h.runs.cause; spent = h.runs.spent };
}

-- an answer that is none where the disk tells its world
pub looks_lost : {X Y told : Type 0} {old new : DiskView} {x : X} {e : FsRefusal} → (told → ⊥) → e ≢ no.Device → Looks told old new (Ok x) → Looks {X = Y} told old new (Err e)
looks_lost never ne h = record {
  world = λ t. absurd (never t);
  runs = record {
    valid = λ t. absurd (never t);
    led = λ t. absurd (never t);
    crash = λ t. absurd (never t);
    stays = (tt, λ _. h.runs.stays.0);
    counts = h.runs.counts;
    unspent = (tt, λ _. h.runs.unspent.0);
    faultless = (tt, λ _. h.runs.faultless.0);
    cause = λ d. absurd (ne d);
    spent = λ d. absurd (ne d);
  };
}

-- a directory is no refusal of a look at what there is
pub looks_dir : {X Y told : Type 0} {old new : DiskView} {y : Y} {e : FsRefusal} → e ≢ no.Device → Looks {X = X} told old new (Err e) → Looks told old new (Ok y)
looks_dir ne h = record {
  world = λ t. ((h.world t).1 ne, tt);
  runs = record {
    valid = λ t. ((h.runs.valid t).1 ne, tt);
    led = λ t. ((h.runs.led t).1 ne, tt);
    crash = h.runs.crash;
    stays = (h.runs.stays.1 ne, tt);
    counts = h.runs.counts;
    unspent = (h.runs.unspent.1 ne, tt);
    faultless = (h.runs.faultless.1 ne, tt);
    cause = tt;
    spent = tt;
  };
}

-- nothing was asked yet
pub none_looks : {told : Type 0} {v : DiskView} → v.spent ≡ false → (told → IsDiskSound v) → (told → IsValidNow v) → Looks {X = Unit {0}} told v v (Ok tt)
none_looks {v = v} unspent sound valid = record {
  world = λ t. (refl, tt);
  runs = record {
    valid = λ t. (valid t, tt);
    led = λ t. (([], refl), tt);
    crash = λ t. record {
      later = omega arith;
      sent = refl;
      each = λ x f h. let here = (sound t).only_now x f h in (v.world, here.0, refl, here.1);
      before = λ s x f le h. inl h;
      keeps = λ s x f le h. h;
    };
    stays = (record { records = refl; sessions = λ s. refl }, tt);
    counts = record { geometry = refl; version = refl; kind = refl; clock = omega arith; faults = omega arith; put_faults = refl; lenders = refl };
    unspent = (unspent, tt);
    faultless = (refl, tt);
    cause = tt;
    spent = tt;
  };
}

-- the source afterwards
module _ {X : Type 0} (told : Type 0) (f : FilesView) (old new : DiskView) (x : X) (source : IsSource told f old) (looks : Looks told old new (Ok x)) where
  pub same_tree : told → tree_under f new ≡ tree_under f old
  same_tree t = ap (λ w. tree_under f (record old { world = w })) (looks.world t).0

  pub still_source : IsSource told f new
  still_source = record {
    ready = ready_still f old new looks.runs.stays.0 looks.runs.counts looks.runs.unspent.0 source.ready;
    mounted = source.mounted;
    valid = λ t. (looks.runs.valid t).0;
    there = λ t. ap is_there (same_tree t) ∙ source.there t;
  }

-- ---- the names of `/`

-- the search stands behind this name: no directory stands before it, and so many names may come
pub record Searched (told : Type 0) (t : Tree) (old now : DiskView) (a : Name) (left : ℕ) : Type 0 where
  pub looks : Looks {X = Unit {0}} told old now (Ok tt)
  pub first : told → first_dir t ≡ first_made (entry_steps [] (entries_behind a (inside t)))
  pub few : told → length (names (entries_behind a (inside t))) < left

module _ (t : Tree) (dir : is_dir t ≡ true) (listing : IsNameListing (names_in t)) where
  listed_inside : IsNameListing (names (inside t))
  listed_inside = subst (λ ns. IsNameListing ns) (names_inside t) listing

  at_first : (inside_all : entries_behind [] (inside t) ≡ inside t) → (first_dir t ≡ first_made (entry_steps [] (entries_behind [] (inside t)))) × (length (names (entries_behind [] (inside t))) < names_max + 1)
  at_first all = (
    ap first_made (steps_are t dir) ∙ ap (λ es. first_made (entry_steps [] es)) (sym all),
    subst (λ es. length (names es) < names_max + 1) (sym all) (omega (arith, listed_inside.2)),
  )

  pub search_first : (first_dir t ≡ first_made (entry_steps [] (entries_behind [] (inside t)))) × (length (names (entries_behind [] (inside t))) < names_max + 1)
  search_first = at_first (behind_empty (inside t) listed_inside.0)

  module _ (a : Name) where
    -- none is left
    pub search_none : above a (names_in t) ≡ None → first_made (entry_steps [] (entries_behind a (inside t))) ≡ None
    search_none e = ap (λ es. first_made (entry_steps [] es)) (none_behind a (inside t) (ap (above a) (sym (names_inside t)) ∙ e))

    module _ (n : Name) (next : above a (names_in t) ≡ Some n) where
      at_n : at t (n ∷ []) ≡ entry n (inside t)
      at_n = by t dir
        where
          by : (x : Tree) → is_dir x ≡ true → child n x ≡ entry n (inside x)
          by nothing h = absurd (cc)
          by (a_file y) h = absurd (cc)
          by (a_dir d es) h = refl

      stands : (entries_behind a (inside t) ≡ before n (entry n (inside t)) (entries_behind n (inside t))) × (is_there (entry n (inside t)) ≡ true)
      stands = stands_next a n (inside t) listed_inside.1 (ap (above a) (sym (names_inside t)) ∙ next)

      pub search_there : is_there (at t (n ∷ [])) ≡ true
      search_there = ap is_there at_n ∙ stands.1

      pub search_named : is_name n ≡ true
      search_named = found_named a n (names_in t) listing.0 next

      -- it is a directory
      pub search_dir : is_dir (at t (n ∷ [])) ≡ true → first_made (entry_steps [] (entries_behind a (inside t))) ≡ Some (n ∷ [])
      search_dir h = ap (λ es. first_made (entry_steps [] es)) stands.0 ∙ by (entry n (inside t)) (ap is_dir (sym at_n) ∙ h)
        where
          by : (y : Tree) → is_dir y ≡ true → first_made (entry_steps [] (before n y (entries_behind n (inside t)))) ≡ Some (n ∷ [])
          by nothing k = absurd (cc)
          by (a_file x) k = absurd (cc)
          by (a_dir d es) k = refl

      -- it is a file
      pub search_file : is_dir (at t (n ∷ [])) ≡ false → (first_made (entry_steps [] (entries_behind a (inside t))) ≡ first_made (entry_steps [] (entries_behind n (inside t)))) × (length (names (entries_behind a (inside t))) ≡ suc (length (names (entries_behind n (inside t)))))
      search_file h = let same = by (entry n (inside t)) stands.1 (ap is_dir (sym at_n) ∙ h) in (
        ap (λ es. first_made (entry_steps [] es)) stands.0 ∙ same.0,
        ap (λ es. length (names es)) stands.0 ∙ same.1,
      )
        where
          by : (y : Tree) → is_there y ≡ true → is_dir y ≡ false → (first_made (entry_steps [] (before n y (entries_behind n (inside t)))) ≡ first_made (entry_steps [] (entries_behind n (inside t)))) × (length (names (before n y (entries_behind n (inside t)))) ≡ suc (length (names (entries_behind n (inside t)))))
          by nothing k j = absurd (cc)
          by (a_file x) k j = (file_none (n ∷ []) x (entry_steps [] (entries_behind n (inside t))), refl)
          by (a_dir d es) k j = absurd (cc)

-- ---- one turn of the search

-- ---- the stages of the search

module _ {told : Type 0} {f h : FilesView} {old now : DiskView} (source : IsSource told f old) (looks : Looks {X = Unit {0}} told old now (Ok tt)) (same : h ≡ f) where
  pub source_now : IsSource told h now
  source_now = subst (λ k. IsSource told k now) (sym same) (still_source told f old now tt source looks)

  pub tree_now : told → tree_under h now ≡ tree_under f old
  tree_now t = ap (λ k. tree_under k now) same ∙ same_tree told f old now tt source looks t

-- At each turn no directory stands before this name, and the source is seen as it was.
pub record AtSearch (told : Type 0) (f h : FilesView) (old now : DiskView) (a : Name) (left : ℕ) : Type 0 where
  pub source : IsSource told f old
  pub searched : Searched told (tree_under f old) old now a left
  pub from_same : h ≡ f

-- After the next name is told the source is as it was, and `/` has it.
pub record AfterNext (told : Type 0) (f h : FilesView) (old now mid : DiskView) (a : Name) (left : ℕ) (next : Option Name) : Type 0 where
  pub source : IsSource told f old
  pub searched : Searched told (tree_under f old) old now a left
  pub from_same : h ≡ f
  pub looks : Looks {X = Unit {0}} told old mid (Ok tt)
  pub is : told → next ≡ above a (names_in (tree_under f old))

pub first_search : {told : Type 0} {f : FilesView} {old : DiskView} {a : Name} {left : ℕ} → IsSource told f old → (told → old.spent ≡ false → IsDiskSound old) → a ≡ [] → left ≡ names_max + 1 → AtSearch told f f old old a left
first_search {told} {f} {old} {a} {left} source sound empty many = record {
  source = source;
  searched = record {
    looks = none_looks source.ready.unspent (λ t. sound t source.ready.unspent) source.valid;
    first = λ t. subst (λ m. first_dir u ≡ first_made (entry_steps [] (entries_behind m (inside u)))) (sym empty) (begun t).0;
    few = λ t. omega (arith, (begun t).1, many, ap (λ m. length (names (entries_behind m (inside u)))) empty);
  };
  from_same = refl;
}
  where
    u : Tree
    u = tree_under f old

    begun : told → (first_dir (tree_under f old) ≡ first_made (entry_steps [] (entries_behind [] (inside (tree_under f old))))) × (length (names (entries_behind [] (inside (tree_under f old)))) < names_max + 1)
    begun t = search_first (tree_under f old) (source_dir told f old source t) (listing_of f old [] (source.valid t).valid)

module _ {told : Type 0} {f h : FilesView} {old now : DiskView} {a : Name} {left : ℕ} (here : AtSearch told f h old now a left) where
  pub search_source : IsSource told h now
  search_source = source_now here.source here.searched.looks here.from_same

  pub search_lost : {X Y : Type 0} {new : DiskView} {e : FsRefusal} → Looks {X = X} told now new (Err e) → Looks {X = Y} told old new (Err e)
  search_lost looks = then_looks here.searched.looks (looks_err looks)

  -- there are always names left
  pub search_never : left ≡ 0 → told → ⊥
  search_never none t = absurd (omega (arith, here.searched.few t, none))

  pub search_end : {X : Type 0} → left ≡ 0 → Looks {X = X} told old now (Err no.NotThisFs)
  search_end none = looks_lost (search_never none) other_fault here.searched.looks

  module _ {root : Path} (at_root : root ≡ []) where
    root_is : told → at (tree_under h now) root ≡ tree_under f old
    root_is t = ap (λ (p : Path). at (tree_under h now) p) at_root ∙ tree_now here.source here.searched.looks here.from_same t

    root_dir : told → is_dir (at (tree_under h now) root) ≡ true
    root_dir t = ap is_dir (root_is t) ∙ source_dir told f old here.source t

    pub root_lost : {new : DiskView} {e : FsRefusal} → (told → Answers {X = Option Name} h now new (ask.Ls root) (Err e) (TellsNext a)) → told → e ≢ no.Device → ⊥
    root_lost {new} {e} answers t = never_refused h now new (ask.Ls root) (Err e) (TellsNext a) (next_refused h now search_source.mounted root (root_dir t)) (answers t)

    pub after_next : {new : DiskView} {h2 : FilesView} {next : Option Name} → (told → Answers h now new (ask.Ls root) (Ok next) (TellsNext a)) → Looks told now new (Ok next) → h2 ≡ h → AfterNext told f h2 old now new a left next
    after_next {next = next} answers looks same = record {
      source = here.source;
      searched = here.searched;
      from_same = same ∙ here.from_same;
      looks = then_looks here.searched.looks (looks_as looks);
      is = λ t. next_tells h now search_source.mounted root (root_dir t) a next (answers t).ok.0 ∙ ap (λ x. above a (names_in x)) (root_is t);
    }

module _ {told : Type 0} {f h : FilesView} {old now mid : DiskView} {a : Name} {left : ℕ} {next : Option Name} (after : AfterNext told f h old now mid a left next) where
  abbrev u : Tree
  u = tree_under f old

  u_dir : told → is_dir u ≡ true
  u_dir = source_dir told f old after.source

  u_lists : told → IsNameListing (names_in u)
  u_lists t = listing_of f old [] (after.source.valid t).valid

  pub next_source : IsSource told h mid
  next_source = source_now after.source after.looks after.from_same

  pub next_looks : {X : Type 0} {x : X} → Looks told old mid (Ok x)
  next_looks = looks_as after.looks

  pub next_lost : {X : Type 0} → (told → ⊥) → Looks {X = X} told old mid (Err no.NotThisFs)
  next_lost never = looks_lost never other_fault after.looks

  pub kind_lost : {X Y : Type 0} {new : DiskView} {e : FsRefusal} → Looks {X = X} told mid new (Err e) → Looks {X = Y} told old new (Err e)
  kind_lost looks = then_looks after.looks (looks_err looks)

  -- no name is left
  pub next_none : next ≡ None → told → None ≡ first_dir u
  next_none none t = sym (after.searched.first t ∙ search_none u (u_dir t) (u_lists t) a (sym (after.is t) ∙ none))

  module _ {n : Name} (some : next ≡ Some n) where
    name_is : told → above a (names_in u) ≡ Some n
    name_is t = sym (after.is t) ∙ some

    -- it is one
    pub next_named : told → is_name n ≡ true
    next_named t = search_named u (u_dir t) (u_lists t) a n (name_is t)

    module _ {path : Path} (path_is : n ∷ [] ≡ path) where
      at_path : told → at (tree_under h mid) path ≡ at u (n ∷ [])
      at_path t = ap (λ (p : Path). at (tree_under h mid) p) (sym path_is) ∙ ap (λ x. at x (n ∷ [])) (tree_now after.source after.looks after.from_same t)

      pub next_there : told → is_there (at (tree_under h mid) path) ≡ true
      next_there t = ap is_there (at_path t) ∙ search_there u (u_dir t) (u_lists t) a n (name_is t)

      -- what stands there is told
      module _ {new : DiskView} {dir : Bool} (looks : Looks told mid new (Ok dir)) (told_dir : told → dir ≡ is_dir (at (tree_under h mid) path)) where
        dir_is : told → dir ≡ is_dir (at u (n ∷ []))
        dir_is t = told_dir t ∙ ap is_dir (at_path t)

        pub kind_looks : {X : Type 0} {x : X} → Looks told old new (Ok x)
        kind_looks = then_looks after.looks (looks_as looks)

        pub next_dir : dir ≡ true → told → Some path ≡ first_dir u
        next_dir stands t = sym (after.searched.first t ∙ (search_dir u (u_dir t) (u_lists t) a n (name_is t) (sym (dir_is t) ∙ stands) ∙ ap (λ p. Some p) path_is))

        -- it is a file: the search goes on behind it
        pub next_file : {h2 : FilesView} (front : Path) {b : Name} → dir ≡ false → 0 < left → path ≡ front ++ b ∷ [] → h2 ≡ h → AtSearch told f h2 old new b (left - 1)
        next_file {h2} front {b} no_dir some_left popped same =
            let last : n ≡ b = (last_same [] front n b (path_is ∙ popped)).1 in
            let file : told → _ = λ t. search_file u (u_dir t) (u_lists t) a n (name_is t) (sym (dir_is t) ∙ no_dir) in
            record {
              source = after.source;
              searched = record {
                looks = kind_looks;
                first = λ t. after.searched.first t ∙ ((file t).0 ∙ ap (λ m. first_made (entry_steps [] (entries_behind m (inside u)))) last);
                few = λ t. let one = (file t).1 in omega (arith, after.searched.few t, one, ap (λ m. length (names (entries_behind m (inside u)))) (sym last), some_left);
              };
              from_same = same ∙ after.from_same;
            }

-- the target has no directories
pub when_none : {X : Type 0} (r : Result X FsRefusal) (b : Bool) (o d : X) → b ≡ false → IfOk r (λ x. x ≡ d) → IfOk r (λ x. x ≡ cond b o d)
when_none (Ok x) b o d e h = h ∙ sym (ap (λ t. cond t o d) e)
when_none (Err f) b o d e h = tt
