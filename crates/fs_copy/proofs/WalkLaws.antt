-- The walk, from one turn to the next.
use Rattle.std.proofs.Common.{◌≡◌, ◌+◌, ◌-◌, ◌*◌, ◌<◌, ◌≤◌, ℕ, Bool, true, false, List, [], ◌++◌, refl, sym, ◌∙◌, ap, subst, arith, append_assoc, append-nil, Result, Ok, Err}
use Rattle.fs_copy.proofs.Common.{list_all, names_max, entry_steps, Name, Path, is_name, nothing, a_file, a_dir, Tree, at, is_dir, names_in, ShellAsk, FsRefusal, IsNameListing, entry_count, total_entries, tree_few, DiskView, IsDiskSound, FilesView, capped, file_count, byte_count, total_files, total_bytes, IsCount, tree_under, AreSet, MakesSteps, IsSource, CanMake, AreAhead, inside, entries_behind, todo, files_made, bytes_made, turns, turns_left, WalksOn, Copied}
use Rattle.fs_trees.specs.declared.refusal.FsRefusal.TheVariants as no
use Rattle.fs_copy.proofs.CopyLaws.{source_dir}
use Rattle.fs_copy.proofs.GoingLaws.{goes_as, then_goes, err_as, ok_as, lost_goes, none_goes, now_set, same_source, source_of}
use Rattle.fs_copy.proofs.NameLaws.{behind_empty, names_inside}
use Rattle.fs_copy.proofs.ReadLaws.{other_fault}
use Rattle.fs_copy.proofs.TodoLaws.{files-append, bytes-append, all_turns, all_files, all_bytes}
use Rattle.fs_copy.proofs.TurnLaws.{can_later, listing_of}

-- Some of the steps are made, and the others are left where the walk is now.
pub record Walked (told : Type 0) (g : FilesView) (t : Tree) (old now : DiskView) (p : Path) (a : Name) (c : Copied) (left : ℕ) : Type 0 where
  pub made : List ShellAsk
  pub goes : MakesSteps {X = Unit {0}} told g old now made (Ok tt)
  pub dir : told → is_dir (at t p) ≡ true
  pub rest : told → made ++ todo t p a ≡ entry_steps [] (inside t)
  pub files : told → c.files ≡ capped (files_made made)
  pub bytes : told → c.bytes ≡ capped (bytes_made made)
  pub few : told → turns_left t p a < left

entries_inside : (t : Tree) → total_entries t ≡ entry_count (inside t)
entries_inside nothing = refl
entries_inside (a_file x) = refl
entries_inside (a_dir d es) = refl

-- at `/`, all are left
module _ (t : Tree) (listing : IsNameListing (names_in t)) where
  all_left : todo t [] [] ≡ entry_steps [] (inside t)
  all_left = append-nil (entry_steps [] (entries_behind [] (inside t))) ∙ ap (entry_steps []) (behind_empty (inside t) (ap (list_all is_name) (sym (names_inside t)) ∙ listing.0))

  turns_first : (n : ℕ) → total_entries t ≤ n → turns_left t [] [] < 2 * n + 1
  turns_first n few = omega (arith, few, entries_inside t, ap turns all_left, all_turns [] (inside t))

module _ (told : Type 0) (f g : FilesView) (old : DiskView) (source : IsSource told f old) (sound : told → IsDiskSound old) where
  abbrev t : Tree
  t = tree_under f old

  listing : told → IsNameListing (names_in t)
  listing h = listing_of f old [] (source.valid h).valid

  few_entries : told → total_entries t ≤ old.geometry.blocks + names_max
  few_entries h = subst (λ g. total_entries t ≤ g.blocks + names_max) (sound h).geometry
      (tree_few f.kind old.world f.root (source.valid h).valid (subst (λ g. f.root < g.primaries) (sym (sound h).geometry) source.ready.primary))

  pub walked_first : (c : Copied) (left : ℕ) → c.files ≡ 0 → c.bytes ≡ 0 → left ≡ 2 * (old.geometry.blocks + names_max) + 1 → MakesSteps {X = Unit {0}} told g old old [] (Ok tt) → Walked told g t old old [] [] c left
  walked_first c left no_files no_bytes is goes = record {
    made = [];
    goes = goes;
    dir = source_dir told f old source;
    rest = λ h. all_left t (listing h);
    files = λ h. no_files;
    bytes = λ h. no_bytes;
    few = λ h. subst (λ n. turns_left t [] [] < n) (sym is) (turns_first t (listing h) (old.geometry.blocks + names_max) (few_entries h));
  }

-- ---- the walk of two file systems

-- At each turn some of the steps are made, and both file systems are seen as they were.
pub record AtTurn (told : Type 0) (f g h k : FilesView) (old now : DiskView) (p : Path) (a : Name) (c : Copied) (left : ℕ) : Type 0 where
  pub set : AreSet told f g old
  pub sound : told → IsDiskSound old
  pub walked : Walked told g (tree_under f old) old now p a c left
  pub from_same : h ≡ f
  pub into_same : k ≡ g

-- at the first one none is made
pub first_turn : {told : Type 0} {f g : FilesView} {old : DiskView} {p : Path} {a : Name} {left : ℕ} → AreSet told f g old → (told → old.spent ≡ false → IsDiskSound old) → p ≡ [] → a ≡ [] → left ≡ 2 * (old.geometry.blocks + names_max) + 1 → AtTurn told f g f g old old p a (record { files = 0; bytes = 0 }) left
first_turn {told} {f} {g} {old} {p} {a} {left} set sound at_root at_first many =
    let zero : Copied = record { files = 0; bytes = 0 } in
    let here : told → IsDiskSound old = λ t. sound t set.from_ready.unspent in
    let first = walked_first told f g old (source_of set) here zero left refl refl many (none_goes set.from_ready.unspent here set.valid) in
    record {
      set = set;
      sound = here;
      walked = subst (λ (x : Path). Walked told g (tree_under f old) old old x a zero left) (sym at_root) (subst (λ (x : Name). Walked told g (tree_under f old) old old [] x zero left) (sym at_first) first);
      from_same = refl;
      into_same = refl;
    }

module _ {told : Type 0} {f g h k : FilesView} {old now : DiskView} {p : Path} {a : Name} {c : Copied} {left : ℕ} (here : AtTurn told f g h k old now p a c left) where
  -- both may go on, and the source's tree is what it was
  pub turn_set : AreSet told h k now
  turn_set = now_set here.sound here.set here.walked.goes here.from_same here.into_same

  turn_tree : told → tree_under h now ≡ tree_under f old
  turn_tree = same_source here.sound here.set here.walked.goes here.from_same

  pub turn_dir : told → is_dir (at (tree_under h now) p) ≡ true
  turn_dir t = ap (λ y. is_dir (at y p)) (turn_tree t) ∙ here.walked.dir t

  -- the steps that are left can be made, if all can
  pub turn_hold : (told → CanMake g.kind (entry_steps [] (inside (tree_under f old)))) → told → CanMake k.kind (todo (tree_under h now) p a)
  turn_hold hold t =
      let u = tree_under f old in
      let can = can_later g.kind here.walked.made (todo u p a) (subst (λ s. CanMake g.kind s) (sym (here.walked.rest t)) (hold t)) in
      subst (λ (w : FilesView). CanMake w.kind (todo (tree_under h now) p a)) (sym here.into_same) (subst (λ y. CanMake g.kind (todo y p a)) (sym (turn_tree t)) can)

  -- what was read ahead still comes next, as the source is now, and as it was
  pub turn_ahead : (ns : List Name) → (told → AreAhead (tree_under f old) p a ns) → told → AreAhead (tree_under h now) p a ns
  turn_ahead ns ahead t = subst (λ y. AreAhead y p a ns) (sym (turn_tree t)) (ahead t)

  pub still_ahead : (q : Path) (b : Name) (ns : List Name) {more : Bool} → more ≡ true → (told → more ≡ true → AreAhead (tree_under h now) q b ns) → told → AreAhead (tree_under f old) q b ns
  still_ahead q b ns on ahead t = subst (λ y. AreAhead y q b ns) (turn_tree t) (ahead t on)

  -- no turn is left
  pub turn_never : {X : Type 0} → left ≡ 0 → MakesSteps {X = X} told g old now (entry_steps [] (inside (tree_under f old))) (Err no.NotThisFs)
  turn_never none = lost_goes (λ t. absurd (omega (arith, here.walked.few t, none))) other_fault here.walked.goes

  -- what a turn makes is what was left
  module _ {new : DiskView} {q : Path} {b : Name} {d : Copied} where
    turn_parts : {r : Result Bool FsRefusal} (turn : WalksOn told k (tree_under h now) now new p q a b c d r) → told → (here.walked.made ++ turn.made) ++ turn.rest ≡ entry_steps [] (inside (tree_under f old))
    turn_parts turn t = append_assoc here.walked.made turn.made turn.rest ∙ (ap (λ s. here.walked.made ++ s) (turn.parts t ∙ ap (λ s. todo s p a) (turn_tree t)) ∙ here.walked.rest t)

    turn_goes : {r : Result Bool FsRefusal} (turn : WalksOn told k (tree_under h now) now new p q a b c d r) → MakesSteps told g old new (here.walked.made ++ turn.made) r
    turn_goes {r} turn = then_goes here.walked.goes (subst (λ (w : FilesView). MakesSteps told w now new turn.made r) here.into_same turn.goes)

    -- it failed, or was refused
    pub turn_lost : {e : FsRefusal} → WalksOn told k (tree_under h now) now new p q a b c d (Err e) → MakesSteps {X = Copied} told g old new (entry_steps [] (inside (tree_under f old))) (Err e)
    turn_lost turn = goes_as (turn_parts turn) (err_as turn.rest (turn_goes turn))

    module _ {more : Bool} (turn : WalksOn told k (tree_under h now) now new p q a b c d (Ok more)) where
      now_files : told → d.files ≡ capped (files_made (here.walked.made ++ turn.made))
      now_files t = (turn.count t).files (files_made here.walked.made) (here.walked.files t) ∙ ap capped (sym (files-append here.walked.made turn.made))

      now_bytes : told → d.bytes ≡ capped (bytes_made (here.walked.made ++ turn.made))
      now_bytes t = (turn.count t).bytes (bytes_made here.walked.made) (here.walked.bytes t) ∙ ap capped (sym (bytes-append here.walked.made turn.made))

      -- it goes on
      pub turn_next : {h2 k2 : FilesView} → more ≡ true → 0 < left → h2 ≡ h → k2 ≡ k → AtTurn told f g h2 k2 old new q b d (left - 1)
      turn_next on some from_same into_same = record {
        set = here.set;
        sound = here.sound;
        walked = record {
          made = here.walked.made ++ turn.made;
          goes = ok_as (turn_goes turn);
          dir = λ t. ap (λ s. is_dir (at s q)) (sym (turn_tree t)) ∙ (turn.on t on).0;
          rest = λ t. ap (λ s. (here.walked.made ++ turn.made) ++ s) (sym ((turn.on t on).1 ∙ ap (λ s. todo s q b) (turn_tree t))) ∙ turn_parts turn t;
          files = now_files;
          bytes = now_bytes;
          few = λ t.
              let less : turns_left (tree_under f old) q b < turns_left (tree_under f old) p a = subst (λ s. turns_left s q b < turns_left s p a) (turn_tree t) (turn.on t on).2 in
              omega (arith, less, here.walked.few t, some);
        };
        from_same = from_same ∙ here.from_same;
        into_same = into_same ∙ here.into_same;
      }

      -- it is at its end
      module _ (over : more ≡ false) where
        all_done : told → here.walked.made ++ turn.made ≡ entry_steps [] (inside (tree_under f old))
        all_done t = sym (append-nil (here.walked.made ++ turn.made)) ∙ (ap (λ s. (here.walked.made ++ turn.made) ++ s) (sym (turn.over t over)) ∙ turn_parts turn t)

        pub turn_end : MakesSteps {X = Copied} told g old new (entry_steps [] (inside (tree_under f old))) (Ok d)
        turn_end = goes_as all_done (ok_as (turn_goes turn))

        pub turn_count : told → IsCount (tree_under f old) d
        turn_count t = record {
          files = now_files t ∙ ap capped (ap files_made (all_done t) ∙ (all_files [] (inside (tree_under f old)) ∙ files_in (tree_under f old) dir));
          bytes = now_bytes t ∙ ap capped (ap bytes_made (all_done t) ∙ (all_bytes [] (inside (tree_under f old)) ∙ bytes_in (tree_under f old) dir));
        }
          where
            dir : is_dir (tree_under f old) ≡ true
            dir = source_dir told f old (source_of here.set) t

            files_in : (x : Tree) → is_dir x ≡ true → file_count (inside x) ≡ total_files x
            files_in nothing k = absurd (cc)
            files_in (a_file y) k = absurd (cc)
            files_in (a_dir e es) k = refl

            bytes_in : (x : Tree) → is_dir x ≡ true → byte_count (inside x) ≡ total_bytes x
            bytes_in nothing k = absurd (cc)
            bytes_in (a_file y) k = absurd (cc)
            bytes_in (a_dir e es) k = refl
