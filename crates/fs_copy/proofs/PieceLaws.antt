-- A file that is copied piece by piece.
use Rattle.std.proofs.Common.{◌≡◌, ◌≢◌, ◌+◌, ◌-◌, ◌*◌, ◌^◌, ◌<◌, ◌≤◌, ℕ, zero, suc, false, List, [], ◌∷◌, ◌++◌, length, map, take, drop, sym, ◌∙◌, ap, subst, arith, append_assoc, append-nil, Result, Ok, Err}
use Rattle.fs_copy.proofs.Common.{div_ceil_times, div_ceil, file_pieces, file_steps, Path, at, bytes_in, ShellAsk, FsRefusal, DiskView, IsDiskSound, FilesView, Answers, Looks, Changes, done, tree_under, AreSet, MakesSteps, IsFileAt}
use Rattle.std.proofs.lemmas.List.{drop-drop, length-take}
use Rattle.fs_trees.specs.declared.ask.ShellAsk.TheVariants as ask
use Rattle.fs_trees.specs.declared.refusal.FsRefusal.TheVariants as no
use Rattle.fs_copy.proofs.GoingLaws.{AfterLook, change_goes, goes_as, look_then, then_goes, err_as, look_lost, now_set, same_source, target_of}

abbrev pub Done : Type 0
Done = Result (Unit {0}) FsRefusal

-- the pieces from number i on
abbrev pub pieces_from : Path → ℕ → ℕ → List ℕ → List ShellAsk
pieces_from path n i x = map (ask.Append path) (file_pieces (n - i) (drop (i * 4096) x))

abbrev pub piece_at : Path → ℕ → List ℕ → ShellAsk
piece_at path i x = ask.Append path (take 4096 (drop (i * 4096) x))

-- the first i of n pieces of a file are copied
pub record UpTo (told : Type 0) (g : FilesView) (old now : DiskView) (path : Path) (x : List ℕ) (n i : ℕ) : Type 0 where
  pub made : List ShellAsk
  pub goes : MakesSteps {X = Unit {0}} told g old now made (Ok tt)
  pub rest : told → made ++ pieces_from path n i x ≡ file_steps path x
  pub some : 1 ≤ i

next_piece : (n i : ℕ) (y : List ℕ) → i < n → file_pieces (n - i) y ≡ take 4096 y ∷ file_pieces (n - (i + 1)) (drop 4096 y)
next_piece n i y h = ap (λ k. file_pieces k y) (one_less n i h)
  where
    one_less : (n i : ℕ) → i < n → n - i ≡ suc (n - (i + 1))
    one_less n i h = omega (arith, h)

further_on : (i : ℕ) (x : List ℕ) → drop 4096 (drop (i * 4096) x) ≡ drop ((i + 1) * 4096) x
further_on i x = drop-drop 4096 (i * 4096) x ∙ ap (λ k. drop k x) (omega arith)

next_from : (path : Path) (n i : ℕ) (x : List ℕ) → i < n → pieces_from path n i x ≡ piece_at path i x ∷ pieces_from path n (i + 1) x
next_from path n i x h =
    ap (map (ask.Append path)) (next_piece n i (drop (i * 4096) x) h)
    ∙ ap (λ y. piece_at path i x ∷ map (ask.Append path) (file_pieces (n - (i + 1)) y)) (further_on i x)

-- so many pieces, and those behind them
several_from : (path : Path) (n i : ℕ) (count : ℕ) (x : List ℕ) → i + count ≤ n → pieces_from path n i x ≡ map (ask.Append path) (file_pieces count (drop (i * 4096) x)) ++ pieces_from path n (i + count) x
several_from path n i zero x h = ap (λ k. pieces_from path n k x) (omega arith)
several_from path n i (suc k) x h =
    next_from path n i x (omega (arith, h))
    ∙ (ap (λ s. piece_at path i x ∷ s) (several_from path n (i + 1) k x (omega (arith, h)))
    ∙ (ap (λ y. piece_at path i x ∷ (map (ask.Append path) (file_pieces k y) ++ pieces_from path n ((i + 1) + k) x)) (sym (further_on i x))
    ∙ ap (λ j. piece_at path i x ∷ (map (ask.Append path) (file_pieces k (drop 4096 (drop (i * 4096) x))) ++ pieces_from path n j x)) (omega arith)))

none_from : (path : Path) (n i : ℕ) (x : List ℕ) → n ≤ i → pieces_from path n i x ≡ []
none_from path n i x h = ap (λ k. map (ask.Append path) (file_pieces k (drop (i * 4096) x))) (none_left n i h)
  where
    none_left : (n i : ℕ) → n ≤ i → n - i ≡ 0
    none_left n i h = omega (arith, h)

-- a first piece that isn't full is all of the file
pub all_in_first : (first x : List ℕ) → first ≡ take 4096 x → length first < 4096 → length first ≡ length x
all_in_first first x is short = let cut = length-take 4096 x in omega (arith, ap length is, cut, short)

-- the places of all pieces fit
pub places_fit : (size n : ℕ) → n ≡ div_ceil size 4096 → size < 2 ^ 64 → n * 4096 ≤ 2 ^ 64
places_fit size n is fits = let all = div_ceil_times size 4096 (omega arith) in omega (arith, all.1, is, fits)

-- ---- the pieces of two file systems

-- At each piece the first of them are copied, and both file systems are seen as they were.
pub record AtPiece (told : Type 0) (f g h k : FilesView) (old now : DiskView) (path : Path) (n i : ℕ) : Type 0 where
  pub set : AreSet told f g old
  pub sound : told → IsDiskSound old
  pub file : told → IsFileAt (tree_under f old) path
  pub up : UpTo told g old now path (bytes_in (at (tree_under f old) path)) n i
  pub from_same : h ≡ f
  pub into_same : k ≡ g

-- the first is not put
pub put_lost : {told : Type 0} {f g : FilesView} {old now : DiskView} {path : Path} {e : FsRefusal} → AreSet told f g old → MakesSteps {X = Unit {0}} told g old now (ask.Put path (take 4096 (bytes_in (at (tree_under f old) path))) ∷ []) (Err e)
    → MakesSteps {X = Unit {0}} told g old now (file_steps path (bytes_in (at (tree_under f old) path))) (Err e)
put_lost {told} {f} {g} {old} {now} {path} {e} set goes =
    let x = bytes_in (at (tree_under f old) path) in
    err_as (pieces_from path (div_ceil (length x) 4096) 1 x) goes

-- the first piece that was read is put
pub piece_put : {told : Type 0} {f g : FilesView} {old now : DiskView} {path : Path} {first : List ℕ} {r : Done} → AreSet told f g old → (told → old.spent ≡ false → IsDiskSound old) → (told → now.spent ≡ false → IsDiskSound now) → (told → first ≡ take 4096 (bytes_in (at (tree_under f old) path)))
    → (told → Answers g old now (ask.Put path first) r (λ _ answer. answer ≡ done)) → Changes told g old now (ask.Put path first) r → MakesSteps told g old now (ask.Put path (take 4096 (bytes_in (at (tree_under f old) path))) ∷ []) r
piece_put {path = path} set sound_old sound_now first answers changes = goes_as (λ t. ap (λ y. ask.Put path y ∷ []) (first t)) (change_goes (target_of set) sound_old sound_now answers changes tt)

-- at the second one the first is put
pub first_put : {told : Type 0} {f g h k : FilesView} {old now : DiskView} {path : Path} {n size : ℕ} → AreSet told f g old → (told → old.spent ≡ false → IsDiskSound old) → (told → IsFileAt (tree_under f old) path) → n ≡ div_ceil size 4096 → (told → size ≡ length (bytes_in (at (tree_under f old) path)))
    → MakesSteps {X = Unit {0}} told g old now (ask.Put path (take 4096 (bytes_in (at (tree_under f old) path))) ∷ []) (Ok tt) → h ≡ f → k ≡ g → AtPiece told f g h k old now path n 1
first_put {f = f} {old = old} {path = path} set sound file many sized goes from_same into_same =
    let x = bytes_in (at (tree_under f old) path) in
    record {
      set = set;
      sound = λ t. sound t set.from_ready.unspent;
      file = file;
      up = record {
        made = ask.Put path (take 4096 x) ∷ [];
        goes = goes;
        rest = λ t. ap (λ k. ask.Put path (take 4096 x) ∷ map (ask.Append path) (file_pieces (k - 1) (drop 4096 x))) (many ∙ ap (λ m. div_ceil m 4096) (sized t));
        some = omega arith;
      };
      from_same = from_same;
      into_same = into_same;
    }

module _ {told : Type 0} {f g h k : FilesView} {old now : DiskView} {path : Path} {n i : ℕ} (here : AtPiece told f g h k old now path n i) where
  -- the file's bytes, as they were and as they are
  abbrev x : List ℕ
  x = bytes_in (at (tree_under f old) path)

  abbrev y : List ℕ
  y = bytes_in (at (tree_under h now) path)

  -- both may go on, and the file is what it was
  pub piece_set : AreSet told h k now
  piece_set = now_set here.sound here.set here.up.goes here.from_same here.into_same

  piece_tree : told → tree_under h now ≡ tree_under f old
  piece_tree = same_source here.sound here.set here.up.goes here.from_same

  pub piece_file : told → IsFileAt (tree_under h now) path
  piece_file t = let file = here.file t in (file.0, ap (λ u. at u path) (piece_tree t) ∙ file.1)

  -- none is left
  pub piece_end : n ≤ i → MakesSteps {X = Unit {0}} told g old now (file_steps path x) (Ok tt)
  piece_end none = goes_as (λ t. sym (append-nil here.up.made) ∙ (ap (λ s. here.up.made ++ s) (sym (none_from path n i x none)) ∙ here.up.rest t)) here.up.goes

  -- the next ones are appended, and then the others are left
  module _ (count : ℕ) (some : i + count ≤ n) where
    abbrev these : List ShellAsk
    these = map (ask.Append path) (file_pieces count (drop (i * 4096) y))

    piece_parts : told → (here.up.made ++ these) ++ pieces_from path n (i + count) x ≡ file_steps path x
    piece_parts t =
        append_assoc here.up.made these (pieces_from path n (i + count) x)
        ∙ (ap (λ u. here.up.made ++ (map (ask.Append path) (file_pieces count (drop (i * 4096) (bytes_in (at u path)))) ++ pieces_from path n (i + count) x)) (piece_tree t)
        ∙ (ap (λ s. here.up.made ++ s) (sym (several_from path n i count x some)) ∙ here.up.rest t))

    piece_goes : {new : DiskView} {r : Done} → MakesSteps told k now new these r → MakesSteps told g old new (here.up.made ++ these) r
    piece_goes {new} {r} goes = then_goes here.up.goes (subst (λ (w : FilesView). MakesSteps told w now new these r) here.into_same goes)

    pub piece_next : {new : DiskView} {h2 k2 : FilesView} → MakesSteps {X = Unit {0}} told k now new these (Ok tt) → h2 ≡ h → k2 ≡ k → AtPiece told f g h2 k2 old new path n (i + count)
    piece_next goes from_same into_same = record {
      set = here.set;
      sound = here.sound;
      file = here.file;
      up = record { made = here.up.made ++ these; goes = piece_goes goes; rest = piece_parts; some = omega (arith, here.up.some) };
      from_same = from_same ∙ here.from_same;
      into_same = into_same ∙ here.into_same;
    }

    pub piece_lost : {new : DiskView} {e : FsRefusal} → MakesSteps {X = Unit {0}} told k now new these (Err e) → MakesSteps {X = Unit {0}} told g old new (file_steps path x) (Err e)
    piece_lost goes = goes_as piece_parts (err_as (pieces_from path n (i + count) x) (piece_goes goes))

    -- they are not read, and nothing is asked of the target
    pub piece_unread : {new : DiskView} {e : FsRefusal} → (told → e ≢ no.Device → ⊥) → Looks {X = Unit {0}} told now new (Err e) → MakesSteps {X = Unit {0}} told k now new these (Err e)
    piece_unread only looks = err_as these (look_lost piece_set only looks)

    -- those that were read are appended
    pub piece_read : {mid new : DiskView} {h2 : FilesView} {items : List (List ℕ)} {r : Done} → AfterLook told h h2 k now mid → (told → items ≡ file_pieces count (drop (i * 4096) y)) → MakesSteps told k mid new (map (ask.Append path) items) r → MakesSteps told k now new these r
    piece_read look read goes = look_then look (λ t. ap (map (ask.Append path)) (read t)) goes
