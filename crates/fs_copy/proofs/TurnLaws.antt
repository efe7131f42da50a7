-- One turn of the walk.
use Rattle.std.proofs.Common.{◌≡◌, ◌≢◌, ◌+◌, ◌<◌, ◌≤◌, ℕ, Bool, true, false, cond, List, [], ◌∷◌, ◌++◌, length, refl, sym, ◌∙◌, ap, subst, inl, inr, arith, length-append, Result, Ok, Err, Option, Some, None}
use Rattle.fs_copy.proofs.Common.{IfOk, IfSome, IsValid, Name, Path, path_max, is_name, nothing, a_file, a_dir, Tree, child, at, is_dir, is_there, names_in, ShellAsk, ShellKind, FsRefusal, IsNameListing, tree_lists, tree_depth, DiskView, IsDiskSound, FilesView, above, has_dirs, Looks, capped, AreSet, MakesSteps, own_steps, file_size, tree_under, CanMake, AreAhead, outer, todo, files_made, bytes_made, turns, turns_left, IsNextName, CountsOn, IsCountedOn, WalksOn, Copied}
use Rattle.fs_trees.specs.declared.ask.ShellAsk.TheVariants as ask
use Rattle.fs_trees.specs.declared.refusal.FsRefusal.TheVariants as no
use Rattle.fs_copy.proofs.NameLaws.{found_named}
use Rattle.fs_copy.proofs.TodoLaws.{outer_last, todo_none, next_path, next_after, there_now, todo_enter, turns-append, file_turns, file_files, file_bytes, made_later}
use Rattle.fs_copy.proofs.GoingLaws.{AfterLook, after_look, err_same, goes_as, look_lost, lost_goes, none_goes, ok_as, then_goes}
use Rattle.fs_copy.proofs.ReadLaws.{other_fault}
use Rattle.fs_laws.proofs.AtLaws.{at_last, dir_there}

-- ---- paths and their last names

pub last_same : (p q : Path) (m n : Name) → p ++ m ∷ [] ≡ q ++ n ∷ [] → (p ≡ q) × (m ≡ n)
last_same [] [] m n e = (refl, cc)
last_same [] (y ∷ []) m n e = absurd (cc)
last_same [] (y ∷ z ∷ ys) m n e = absurd (cc)
last_same (x ∷ []) [] m n e = absurd (cc)
last_same (x ∷ z ∷ xs) [] m n e = absurd (cc)
last_same (x ∷ xs) (y ∷ ys) m n e =
    let first : x ≡ y = cc in
    let rest : xs ++ m ∷ [] ≡ ys ++ n ∷ [] = cc in
    let later = last_same xs ys m n rest in
    (ap (λ z. z ∷ xs) first ∙ ap (λ zs. y ∷ zs) later.0, later.1)

never_empty : (p : Path) (n : Name) → p ++ n ∷ [] ≡ [] → ⊥
never_empty [] n e = absurd (cc)
never_empty (x ∷ xs) n e = absurd (cc)

-- a directory stands around what is there
around_dir : (t : Tree) (q : Path) (n : Name) → is_there (at t (q ++ n ∷ [])) ≡ true → is_dir (at t q) ≡ true
around_dir t q n h = by (at t q) (ap is_there (sym (at_last q n t)) ∙ h)
  where
    by : (x : Tree) → is_there (child n x) ≡ true → is_dir x ≡ true
    by nothing k = absurd (cc)
    by (a_file y) k = absurd (cc)
    by (a_dir d es) k = refl

-- ---- counts

capped_more : (m n : ℕ) → capped (capped m + n) ≡ capped (m + n)
capped_more m n = omega arith

none_counted : (c : Copied) (qs : List ShellAsk) → files_made qs ≡ 0 → bytes_made qs ≡ 0 → CountsOn c c qs
none_counted c qs no_files no_bytes = record {
  files = λ n e. e ∙ ap capped (omega (arith, no_files));
  bytes = λ n e. e ∙ ap capped (omega (arith, no_bytes));
}

pub entry_counted : (c d : Copied) (path : Path) (y : Tree) → is_there y ≡ true → IsCountedOn c d (file_size y) → CountsOn c d (own_steps path y)
entry_counted c d path nothing h is = absurd (cc)
entry_counted c d path (a_dir e es) h is = subst (λ k. CountsOn c k (ask.MakeDir path ∷ [])) (sym is) (none_counted c (ask.MakeDir path ∷ []) refl refl)
entry_counted c d path (a_file x) h is = record {
  files = λ n e. is.0 ∙ (ap (λ k. capped (k + 1)) e ∙ (capped_more n 1 ∙ ap (λ k. capped (n + k)) (sym (file_files path x))));
  bytes = λ n e. is.1 ∙ (ap (λ k. capped (k + length x)) e ∙ (capped_more n (length x) ∙ ap (λ k. capped (n + k)) (sym (file_bytes path x))));
}

-- ---- leaving a directory

-- what it tells
pub record Leaves (p q : Path) (b : Name) (more : Bool) : Type 0 where
  pub on : more ≡ true → p ≡ q ++ b ∷ []
  pub over : more ≡ false → p ≡ []
  pub there : more ≡ false → q ≡ []

-- ---- the next name of a directory

-- a path of a tree fits
pub depth_of : (f : FilesView) (v : DiskView) (p : Path) → is_there (at (tree_under f v) p) ≡ true → length p ≤ path_max
depth_of f v p h = tree_depth f.kind v.world f.root p h

pub listing_of : (f : FilesView) (v : DiskView) (p : Path) → IsValid v.world → IsNameListing (names_in (at (tree_under f v) p))
listing_of f v p valid = tree_lists f.kind v.world f.root p valid.raw.sized.lawful

-- After it is told both file systems may go on, and the directory has it.
pub record AfterName (told : Type 0) (f h g : FilesView) (old mid : DiskView) (p : Path) (a : Name) (next : Option Name) : Type 0 where
  pub look : AfterLook told f h g old mid
  pub dir : told → is_dir (at (tree_under f old) p) ≡ true
  pub tells : told → next ≡ above a (names_in (at (tree_under f old) p))

module _ {told : Type 0} {f g : FilesView} {old mid : DiskView} {p : Path} {a : Name} (set : AreSet told f g old) (dir : told → is_dir (at (tree_under f old) p) ≡ true) where
  pub after_name : {h : FilesView} {next : Option Name} → (told → old.spent ≡ false → IsDiskSound old) → h ≡ f → (told → next ≡ above a (names_in (at (tree_under f old) p))) → Looks told old mid (Ok next) → AfterName told f h g old mid p a next
  after_name sound same tells looks = record { look = after_look set sound same looks; dir = dir; tells = tells }

  -- none is told
  pub name_lost : {c : Copied} {e : FsRefusal} → (told → e ≢ no.Device → ⊥) → Looks {X = Option Name} told old mid (Err e) → WalksOn told g (tree_under f old) old mid p p a a c c (Err e)
  name_lost {c} {e} only looks =
      let lost = look_lost set only looks in
      record { made = []; rest = todo (tree_under f old) p a; parts = λ t. refl; goes = err_same lost; count = λ t. tt; on = λ t. tt; over = λ t. tt }

module _ {told : Type 0} {f h g : FilesView} {old mid : DiskView} {p : Path} {a : Name} {next : Option Name} (name : AfterName told f h g old mid p a next) where
  -- there is one
  pub next_here : {n : Name} → next ≡ Some n → told → IsNextName (tree_under h mid) p a n
  next_here some t = record {
    dir = ap (λ y. is_dir (at y p)) (name.look.tree t) ∙ name.dir t;
    listing = listing_of h mid p (name.look.set.valid t).valid;
    next = ap (λ y. above a (names_in (at y p))) (name.look.tree t) ∙ (sym (name.tells t) ∙ some);
  }

  -- and these are read ahead
  pub ahead_here : {n : Name} (ns : List Name) → next ≡ Some n → (told → IfSome next (λ m. AreAhead (tree_under f old) p m ns)) → told → AreAhead (tree_under h mid) p n ns
  ahead_here {n} ns some ahead t = subst (λ y. AreAhead y p n ns) (sym (name.look.tree t)) (subst (λ (o : Option Name). IfSome o (λ m. AreAhead (tree_under f old) p m ns)) some (ahead t))

  pub ahead_again : (q : Path) (b : Name) (ns : List Name) (result : Result Bool FsRefusal) → (told → IfOk result (λ more. more ≡ true → AreAhead (tree_under h mid) q b ns)) → told → IfOk result (λ more. more ≡ true → AreAhead (tree_under f old) q b ns)
  ahead_again q b ns result ahead t = subst (λ y. IfOk result (λ more. more ≡ true → AreAhead y q b ns)) (name.look.tree t) (ahead t)

  pub hold_here : (told → CanMake g.kind (todo (tree_under f old) p a)) → told → CanMake g.kind (todo (tree_under h mid) p a)
  hold_here hold t = subst (λ y. CanMake g.kind (todo y p a)) (sym (name.look.tree t)) (hold t)

  pub turn_again : {new : DiskView} {q : Path} {b : Name} {c d : Copied} {result : Result Bool FsRefusal} → WalksOn told g (tree_under h mid) mid new p q a b c d result → WalksOn told g (tree_under f old) old new p q a b c d result
  turn_again {new} {q} {b} {c} {d} {result} turn = record {
    made = turn.made;
    rest = turn.rest;
    parts = λ t. turn.parts t ∙ ap (λ s. todo s p a) (name.look.tree t);
    goes = then_goes name.look.goes turn.goes;
    count = turn.count;
    on = λ t. subst (λ s. IfOk result (λ more. more ≡ true → (is_dir (at s q) ≡ true) × (turn.rest ≡ todo s q b) × (turns_left s q b < turns_left s p a))) (name.look.tree t) (turn.on t);
    over = turn.over;
  }

  -- there is no other
  pub turn_left : {q : Path} {b : Name} {c : Copied} {more : Bool} → Leaves p q b more → next ≡ None → WalksOn told g (tree_under f old) old mid p q a b c c (Ok more)
  turn_left {q} {b} {c} {more} left none =
      let u = tree_under f old in
      let last : told → above a (names_in (at u p)) ≡ None = λ t. sym (name.tells t) ∙ none in
      record {
        made = [];
        rest = outer [] u p;
        parts = λ h. sym (todo_none u p a (last h));
        goes = ok_as name.look.goes;
        count = λ h. none_counted c [] refl refl;
        on = λ h is.
            let from = left.on is in
            let rest_is : outer [] u p ≡ todo u q b = ap (outer [] u) from ∙ outer_last [] u q b in
            let same : todo u p a ≡ todo u q b = todo_none u p a (last h) ∙ rest_is in
            let longer : length p ≡ length q + 1 = ap length from ∙ length-append q (b ∷ []) in
            let less : turns_left u q b < turns_left u p a = omega (arith, ap turns same, longer) in
            (around_dir u q b (ap (λ z. is_there (at u z)) (sym from) ∙ dir_there (at u p) (name.dir h)), rest_is, less);
        over = λ h is. ap (outer [] u) (left.over is);
      }

-- ---- the names that were read ahead

-- none are
pub none_ahead : (t : Tree) (q : Path) (b : Name) {ns : List Name} → ns ≡ [] → AreAhead t q b ns
none_ahead t q b e = subst (λ (ms : List Name). AreAhead t q b ms) (sym e) tt

-- they come behind the file that is left behind
pub ahead_passed : (t : Tree) (p : Path) (n : Name) (ns : List Name) {q r : Path} {b : Name} {more : Bool} → q ≡ p ++ n ∷ [] → Leaves q r b more → AreAhead t p n ns → more ≡ true → AreAhead t r b ns
ahead_passed t p n ns {q} {r} {b} is left ahead going =
    let same = last_same p r n b (sym is ∙ left.on going) in
    subst (λ (z : Path). AreAhead t z b ns) same.0 (subst (λ (m : Name). AreAhead t p m ns) same.1 ahead)

-- ---- which directories may be made

pub can_later : (kind : ShellKind) (xs ys : List ShellAsk) → CanMake kind (xs ++ ys) → CanMake kind ys
can_later kind xs ys (inl dirs) = inl dirs
can_later kind xs ys (inr never) = inr (made_later xs ys never)

pub can_make : (kind : ShellKind) (path : Path) (y : Tree) (ys : List ShellAsk) → CanMake kind (own_steps path y ++ ys) → is_dir y ≡ true → has_dirs kind ≡ true
can_make kind path y ys (inl dirs) h = dirs
can_make kind path nothing ys (inr never) h = absurd (cc)
can_make kind path (a_file x) ys (inr never) h = absurd (cc)
can_make kind path (a_dir d es) ys (inr never) h = absurd (cc)

-- ---- an entry

-- the steps that are left, behind an entry
abbrev pub behind_entry : Tree → Path → Name → List ShellAsk
behind_entry t p n = todo t (next_path p n (at t (p ++ n ∷ []))) (next_after n (at t (p ++ n ∷ [])))

own_turns : (path : Path) (y : Tree) → is_there y ≡ true → turns (own_steps path y) ≡ cond (is_dir y) 2 1
own_turns path nothing h = absurd (cc)
own_turns path (a_file x) h = file_turns path x
own_turns path (a_dir d es) h = refl

-- An entry comes next, behind a name of a directory.
pub record AtEntry (told : Type 0) (f g : FilesView) (old : DiskView) (p : Path) (a n : Name) : Type 0 where
  pub set : AreSet told f g old
  pub sound : told → IsDiskSound old
  pub next : told → IsNextName (tree_under f old) p a n

pub at_entry : {told : Type 0} {f g : FilesView} {old : DiskView} {p : Path} {a n : Name} → AreSet told f g old → (told → old.spent ≡ false → IsDiskSound old) → (told → IsNextName (tree_under f old) p a n) → AtEntry told f g old p a n
at_entry set sound next = record { set = set; sound = λ t. sound t set.from_ready.unspent; next = next }

module _ {told : Type 0} {f g : FilesView} {old : DiskView} {p : Path} {a n : Name} (here : AtEntry told f g old p a n) where
  abbrev u : Tree
  u = tree_under f old

  abbrev y : Tree
  y = at u (p ++ n ∷ [])

  parts_of : told → todo u p a ≡ own_steps (p ++ n ∷ []) y ++ behind_entry u p n
  parts_of t = todo_enter u p a n (here.next t) y refl (listing_of f old (p ++ n ∷ []) (here.set.valid t).valid)

  there_of : told → is_there y ≡ true
  there_of t = there_now u p a n (here.next t)

  counts_of : told → turns (todo u p a) ≡ cond (is_dir y) 2 1 + turns (behind_entry u p n)
  counts_of t = ap turns (parts_of t) ∙ (turns-append (own_steps (p ++ n ∷ []) y) (behind_entry u p n) ∙ ap (λ k. k + turns (behind_entry u p n)) (own_turns (p ++ n ∷ []) y (there_of t)))

  -- its path is one
  pub entry_fits : told → (length p < path_max) × (is_name n ≡ true)
  entry_fits t = let deep = depth_of f old (p ++ n ∷ []) (there_of t) in
      (omega (arith, deep, length-append p (n ∷ [])), found_named a n (names_in (at u p)) (here.next t).listing.0 (here.next t).next)

  entry_lost : {new : DiskView} (q : Path) (b : Name) (c d : Copied) (e : FsRefusal) → MakesSteps {X = Bool} told g old new (own_steps (p ++ n ∷ []) y) (Err e) → WalksOn told g u old new p q a b c d (Err e)
  entry_lost q b c d e goes = record { made = own_steps (p ++ n ∷ []) y; rest = behind_entry u p n; parts = λ t. sym (parts_of t); goes = goes; count = λ t. tt; on = λ t. tt; over = λ t. tt }

  -- it is refused only where the disk tells nothing
  pub entry_never : {q : Path} {b : Name} {c : Copied} → (told → ⊥) → WalksOn told g u old old p q a b c c (Err no.NotThisFs)
  entry_never {q} {b} {c} never =
      let begun = none_goes here.set.into_ready.unspent here.sound here.set.valid in
      entry_lost q b c c no.NotThisFs (lost_goes never other_fault begun)

  module _ {q : Path} (is : q ≡ p ++ n ∷ []) where
    pub entry_there : told → is_there (at u q) ≡ true
    entry_there t = ap (λ (z : Path). is_there (at u z)) is ∙ there_of t

    pub entry_hold : (told → CanMake g.kind (todo u p a)) → told → is_dir (at u q) ≡ true → has_dirs g.kind ≡ true
    entry_hold hold t dir = can_make g.kind (p ++ n ∷ []) y (behind_entry u p n) (subst (λ s. CanMake g.kind s) (parts_of t) (hold t)) (ap (λ (z : Path). is_dir (at u z)) (sym is) ∙ dir)

    own_goes : {X : Type 0} {new : DiskView} (r : Result X FsRefusal) → MakesSteps told g old new (own_steps q (at u q)) r → MakesSteps told g old new (own_steps (p ++ n ∷ []) y) r
    own_goes {new = new} r goes = goes_as (λ t. ap (λ (z : Path). own_steps z (at u z)) is) goes

    -- it is not copied
    pub entry_refused : {new : DiskView} {b : Name} {c : Copied} {e : FsRefusal} → MakesSteps {X = Option ℕ} told g old new (own_steps q (at u q)) (Err e) → WalksOn told g u old new p q a b c c (Err e)
    entry_refused {new} {b} {c} {e} goes = entry_lost q b c c e (err_same (own_goes (Err e) goes))

    -- it is copied and counted
    module _ {new : DiskView} {size : Option ℕ} (size_is : told → size ≡ file_size (at u q)) (goes : MakesSteps told g old new (own_steps q (at u q)) (Ok size)) where
      size_so : told → size ≡ file_size y
      size_so t = size_is t ∙ ap (λ (z : Path). file_size (at u z)) is

      count_so : {c d : Copied} → IsCountedOn c d size → told → CountsOn c d (own_steps (p ++ n ∷ []) y)
      count_so {c} {d} counted t = entry_counted c d (p ++ n ∷ []) y (there_of t) (subst (λ (o : Option ℕ). IsCountedOn c d o) (size_so t) counted)

      goes_so : (more : Bool) → MakesSteps told g old new (own_steps (p ++ n ∷ []) y) (Ok more)
      goes_so more = ok_as (own_goes (Ok size) goes)

      -- a directory is entered
      pub dir_entered : {b : Name} {c d : Copied} → IsCountedOn c d size → b ≡ [] → size ≡ None → WalksOn told g u old new p q a b c d (Ok true)
      dir_entered {b} {c} {d} counted empty none = subst (λ (z : Path). WalksOn told g u old new p z a b c d (Ok true)) (sym is) (record {
        made = own_steps (p ++ n ∷ []) y;
        rest = behind_entry u p n;
        parts = λ t. sym (parts_of t);
        goes = goes_so true;
        count = count_so counted;
        on = λ t _.
            let stands = is_dir_of y (there_of t) (sym (size_so t) ∙ none) in
            let rest_is : behind_entry u p n ≡ todo u (p ++ n ∷ []) b = place y stands ∙ ap (todo u (p ++ n ∷ [])) (sym empty) in
            let counts = counts_of t ∙ (ap (λ k. cond k 2 1 + turns (behind_entry u p n)) stands) in
            let less : turns_left u (p ++ n ∷ []) b < turns_left u p a = omega (arith, counts, ap turns rest_is, length-append p (n ∷ [])) in
            (stands, rest_is, less);
        over = λ t never. absurd (cc);
      })
        where
          is_dir_of : (x : Tree) → is_there x ≡ true → file_size x ≡ None → is_dir x ≡ true
          is_dir_of nothing k e = absurd (cc)
          is_dir_of (a_file z) k e = absurd (cc)
          is_dir_of (a_dir f es) k e = refl

          place : (x : Tree) → is_dir x ≡ true → todo u (next_path p n x) (next_after n x) ≡ todo u (p ++ n ∷ []) []
          place nothing k = absurd (cc)
          place (a_file z) k = absurd (cc)
          place (a_dir f es) k = refl

      -- a file is left behind
      pub file_passed : {r : Path} {b : Name} {c d : Copied} {more : Bool} {bytes : ℕ} → IsCountedOn c d size → Leaves q r b more → size ≡ Some bytes → WalksOn told g u old new p r a b c d (Ok more)
      file_passed {r} {b} {c} {d} {more} {bytes} counted left some = record {
        made = own_steps (p ++ n ∷ []) y;
        rest = behind_entry u p n;
        parts = λ t. sym (parts_of t);
        goes = goes_so more;
        count = count_so counted;
        on = λ t going.
            let same = last_same p r n b (sym is ∙ left.on going) in
            let is_size = sym (size_so t) ∙ some in
            let rest_is : behind_entry u p n ≡ todo u r b = place y is_size ∙ (ap (λ z. todo u z n) same.0 ∙ ap (todo u r) same.1) in
            let counts = counts_of t ∙ (ap (λ k. cond k 2 1 + turns (behind_entry u p n)) (is_file_of y is_size)) in
            let less : turns_left u r b < turns_left u p a = omega (arith, counts, ap turns rest_is, ap length same.0) in
            (ap (λ z. is_dir (at u z)) (sym same.0) ∙ (here.next t).dir, rest_is, less);
        over = λ t ended. absurd (never_empty p n (sym is ∙ left.over ended));
      }
        where
          is_file_of : (x : Tree) → file_size x ≡ Some bytes → is_dir x ≡ false
          is_file_of nothing e = absurd (cc)
          is_file_of (a_file z) e = refl
          is_file_of (a_dir f es) e = absurd (cc)

          place : (x : Tree) → file_size x ≡ Some bytes → todo u (next_path p n x) (next_after n x) ≡ todo u p n
          place nothing e = absurd (cc)
          place (a_file z) e = refl
          place (a_dir f es) e = absurd (cc)
