-- Pieces of a file, several at once.
use Rattle.std.proofs.Common.{◌≡◌, ◌≢◌, ◌+◌, ◌*◌, ◌<◌, ◌≤◌, ℕ, zero, suc, false, List, [], ◌∷◌, ◌++◌, length, map, take, drop, refl, sym, ◌∙◌, ap, subst, arith, Result, Ok, Err, slice_index_or}
use Rattle.fs_copy.proofs.Common.{Answer, file_pieces, Path, at, bytes_in, FsRefusal, DiskView, IsDiskSound, FilesView, Answers, Changes, TellsPart, Looks, done, tree_under, MakesSteps, IsFileAt, IsSource}
use Rattle.std.proofs.lemmas.List.{drop-drop, length-append, map-append, take-append-drop, take_all}
use Rattle.fs_trees.specs.declared.ask.ShellAsk.TheVariants as ask
use Rattle.fs_trees.specs.declared.refusal.FsRefusal.TheVariants as no
use Rattle.fs_copy.proofs.GoingLaws.{change_goes, err_as, goes_as, none_goes, ready_still, then_goes}
use Rattle.fs_copy.proofs.NestedLaws.{looks_as, looks_err, none_looks, then_looks, source_now, tree_now}
use Rattle.fs_copy.proofs.ReadLaws.{never_refused, part_refused, part_tells}

-- ---- reading

-- one piece more
pieces_more : (k : ℕ) (y : List ℕ) → file_pieces (k + 1) y ≡ file_pieces k y ++ take 4096 (drop (k * 4096) y) ∷ []
pieces_more zero y = refl
pieces_more (suc k) y =
    let on : suc k + 1 ≡ suc (k + 1) = omega arith in
    ap (λ j. file_pieces j y) on
    ∙ (ap (λ s. take 4096 y ∷ s) (pieces_more k (drop 4096 y))
    ∙ ap (λ z. take 4096 y ∷ (file_pieces k (drop 4096 y) ++ take 4096 z ∷ [])) (drop-drop (k * 4096) 4096 y ∙ ap (λ j. drop j y) (omega arith)))

-- So many pieces are read, and the source is seen as it was.
pub record AtRead (told : Type 0) (f h : FilesView) (old now : DiskView) (path : Path) (first i : ℕ) (items : List (List ℕ)) : Type 0 where
  pub source : IsSource told f old
  pub looks : Looks {X = Unit {0}} told old now (Ok tt)
  pub from_same : h ≡ f
  pub file : told → IsFileAt (tree_under f old) path
  pub read : told → items ≡ file_pieces i (drop (first * 4096) (bytes_in (at (tree_under f old) path)))
  pub many : length items ≡ i

pub none_read : {told : Type 0} {f : FilesView} {old : DiskView} {path : Path} (first : ℕ) {i : ℕ} {items : List (List ℕ)} → IsSource told f old → (told → old.spent ≡ false → IsDiskSound old) → (told → IsFileAt (tree_under f old) path) → items ≡ [] → i ≡ 0 → AtRead told f f old old path first i items
none_read {f = f} {old = old} {path = path} first source sound file empty none = record {
  source = source;
  looks = none_looks source.ready.unspent (λ t. sound t source.ready.unspent) source.valid;
  from_same = refl;
  file = file;
  read = λ t. empty ∙ sym (ap (λ k. file_pieces k (drop (first * 4096) (bytes_in (at (tree_under f old) path)))) none);
  many = ap length empty ∙ sym none;
}

module _ {told : Type 0} {f h : FilesView} {old now : DiskView} {path : Path} {first i : ℕ} {items : List (List ℕ)} (here : AtRead told f h old now path first i items) where
  pub read_source : IsSource told h now
  read_source = source_now here.source here.looks here.from_same

  read_tree : told → tree_under h now ≡ tree_under f old
  read_tree = tree_now here.source here.looks here.from_same

  file_still : told → IsFileAt (tree_under h now) path
  file_still t = ((here.file t).0, ap (λ u. at u path) (read_tree t) ∙ (here.file t).1)

  pub read_lost : {X : Type 0} {new : DiskView} {e : FsRefusal} → Looks {X = X} told now new (Err e) → Looks {X = Unit {0}} told old new (Err e)
  read_lost looks = then_looks here.looks (looks_err looks)

  pub read_never : {X : Type 0} {tells : X → Answer → Type 0} {new : DiskView} {e : FsRefusal} → (told → Answers {X = X} h now new (ask.Cat path) (Err e) tells) → told → e ≢ no.Device → ⊥
  read_never {tells = tells} {new = new} {e = e} answers t = never_refused h now new (ask.Cat path) (Err e) tells (part_refused h now read_source.mounted path (file_still t)) (answers t)

  pub read_next : {X : Type 0} {x : X} {new : DiskView} {h2 : FilesView} {part : List ℕ} {more : List (List ℕ)} → (told → Answers {X = X} h now new (ask.Cat path) (Ok x) (λ _. TellsPart ((first + i) * 4096) part)) → Looks {X = X} told now new (Ok x) → h2 ≡ h → more ≡ items ++ part ∷ []
      → AtRead told f h2 old new path first (i + 1) more
  read_next {part = part} answers looks same pushed = record {
    source = here.source;
    looks = then_looks here.looks (looks_as looks);
    from_same = same ∙ here.from_same;
    file = here.file;
    read = λ t.
        let y = bytes_in (at (tree_under f old) path) in
        let tells = part_tells h now read_source.mounted path (file_still t) ((first + i) * 4096) part (answers t).ok.0 in
        let part_is : part ≡ take 4096 (drop (i * 4096) (drop (first * 4096) y)) =
        tells ∙ (ap (λ u. take 4096 (drop ((first + i) * 4096) (bytes_in (at u path)))) (read_tree t) ∙ ap (take 4096) (ap (λ k. drop k y) (omega arith) ∙ sym (drop-drop (i * 4096) (first * 4096) y))) in
        pushed ∙ (ap (λ s. s ++ part ∷ []) (here.read t) ∙ (ap (λ z. file_pieces i (drop (first * 4096) y) ++ z ∷ []) part_is ∙ sym (pieces_more i (drop (first * 4096) y))));
    many = ap length pushed ∙ (length-append items (part ∷ []) ∙ ap (λ k. k + 1) here.many);
  }

-- ---- appending

-- So many are appended, and the target is seen as it was.
pub record AtAppend (told : Type 0) (g k : FilesView) (old now : DiskView) (path : Path) (items : List (List ℕ)) (i : ℕ) : Type 0 where
  pub source : IsSource told g old
  pub goes : MakesSteps {X = Unit {0}} told g old now (map (ask.Append path) (take i items)) (Ok tt)
  pub into_same : k ≡ g

take_next : (xs : List (List ℕ)) (i : ℕ) (x d : List ℕ) → i < length xs → x ≡ slice_index_or xs i d → take (i + 1) xs ≡ take i xs ++ x ∷ []
take_next [] i x d h is = absurd (omega (arith, h))
take_next (y ∷ ys) zero x d h is = ap (λ z. z ∷ []) (sym is)
take_next (y ∷ ys) (suc i) x d h is =
    let on : suc i + 1 ≡ suc (i + 1) = omega arith in
    ap (λ j. take j (y ∷ ys)) on ∙ ap (λ s. y ∷ s) (take_next ys i x d (omega (arith, h)) is)

pub none_appended : {told : Type 0} {g : FilesView} {old : DiskView} (path : Path) (items : List (List ℕ)) → IsSource told g old → (told → old.spent ≡ false → IsDiskSound old) → AtAppend told g g old old path items 0
none_appended path items source sound = record { source = source; goes = none_goes source.ready.unspent (λ t. sound t source.ready.unspent) source.valid; into_same = refl }

all_parts : (path : Path) (items : List (List ℕ)) (i : ℕ) → map (ask.Append path) (take i items) ++ map (ask.Append path) (drop i items) ≡ map (ask.Append path) items
all_parts path items i = sym (map-append (ask.Append path) (take i items) (drop i items)) ∙ ap (map (ask.Append path)) (take-append-drop i items)

module _ {told : Type 0} {g k : FilesView} {old now : DiskView} {path : Path} {items : List (List ℕ)} {i : ℕ} (here : AtAppend told g k old now path items i) where
  still_target : IsSource told g now
  still_target = record {
    ready = ready_still g old now here.goes.runs.stays.0 here.goes.runs.counts here.goes.runs.unspent.0 here.source.ready;
    mounted = here.source.mounted;
    valid = λ t. (here.goes.runs.valid t).0;
    there = λ t. (here.goes.there t).0 (here.source.there t);
  }

  pub append_target : IsSource told k now
  append_target = subst (λ (w : FilesView). IsSource told w now) (sym here.into_same) still_target

  module _ {new : DiskView} {x : List ℕ} (d : List ℕ) {r : Result (Unit {0}) FsRefusal} (inside : i < length items) (is : x ≡ slice_index_or items i d) (sound_now : told → now.spent ≡ false → IsDiskSound now) (sound_new : told → new.spent ≡ false → IsDiskSound new)
      (answers : told → Answers k now new (ask.Append path x) r (λ _ answer. answer ≡ done)) (changes : Changes told k now new (ask.Append path x) r) where
    appended : MakesSteps told g old new (map (ask.Append path) (take (i + 1) items)) r
    appended =
        let one = change_goes append_target sound_now sound_new answers changes tt in
        let both = then_goes here.goes (subst (λ (w : FilesView). MakesSteps told w now new (ask.Append path x ∷ []) r) here.into_same one) in
        goes_as (λ t. sym (map-append (ask.Append path) (take i items) (x ∷ [])) ∙ ap (map (ask.Append path)) (sym (take_next items i x d inside is))) both

    pub append_lost : {e : FsRefusal} → r ≡ Err e → MakesSteps {X = Unit {0}} told g old new (map (ask.Append path) items) (Err e)
    append_lost {e} failed = goes_as (λ t. all_parts path items (i + 1)) (err_as (map (ask.Append path) (drop (i + 1) items)) (subst (λ q. MakesSteps told g old new (map (ask.Append path) (take (i + 1) items)) q) failed appended))

    pub append_next : {k2 : FilesView} → r ≡ Ok tt → k2 ≡ k → AtAppend told g k2 old new path items (i + 1)
    append_next ok same = record { source = here.source; goes = subst (λ q. MakesSteps told g old new (map (ask.Append path) (take (i + 1) items)) q) ok appended; into_same = same ∙ here.into_same }

  pub append_end : length items ≤ i → MakesSteps {X = Unit {0}} told g old now (map (ask.Append path) items) (Ok tt)
  append_end all = goes_as (λ t. ap (map (ask.Append path)) (take_all i items all)) here.goes
