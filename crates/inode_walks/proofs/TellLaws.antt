-- What a reading ask answers, by what was found.
use Rattle.std.proofs.Common.{◌≡◌, ◌≢◌, ℕ, ◌+◌, ◌≤◌, true, false, List, [], length, take, min, sym, ◌∙◌, ap, subst, arith, Option, Some, None, Result, Ok, Err}
use Rattle.inode_walks.proofs.Common.{length-take-le, IfErr, OnOk, free_count, Name, Path, Tree, at, is_there, bytes_in, names_in, entry_names, inode_tree, Answer, bytes, listed, FsRefusal, DiskView, IsValidNow, Answers, TellsSize, TellsPart, TellsNext, Client, inode_of, block_len_of, is_directory, amount_said, entries_said, next_said, Found, tree_under, mounted_by, StandsAtPath, no_file_found, no_directory_found, part, bytes_said}
use Rattle.std.proofs.Math.ListN.{drop_of_length-le}
use Rattle.fs_trees.specs.Needs.{need_of}
use Rattle.fs_trees.specs.declared.ask.ShellAsk.TheVariants as ask
use Rattle.fs_trees.specs.declared.ask.ShellKind.TheVariants.{Inode}
use Rattle.fs_trees.specs.declared.refusal.FsRefusal.TheVariants as no
use Rattle.inode_walks.proofs.RefusalLaws.{cat_refused, cat_answered, ls_refused, ls_answered}
use Rattle.inode_walks.proofs.FileLaws.{file_is, row_is_long, tree_there}
use Rattle.inode_walks.proofs.FoundLaws.{dir_said, names_there}
use Rattle.inode_walks.proofs.PartLaws.{front_from}

module _ (c : Client) (old new : DiskView) (p : Path) (there : is_there (tree_under c old) ≡ true) where
  t : Tree
  t = tree_under c old

  -- ---- refused

  pub cat_refuses : {X : Type 0} (tells : X → Answer → Type 0) (e : FsRefusal) → (e ≢ no.Device → no_file_found (tree_under c old) p ≡ Some e) → (e ≢ no.Device → new.world ≡ old.world) → Answers {X = X} (mounted_by c) old new (ask.Cat p) (Err e) tells
  cat_refuses tells e lost same = record {
    ok = tt;
    err = λ ne. (ap (λ o. o.answer) (cat_refused old.world.geometry (tree_under c old) (free_count old.world) (length old.world.pairs) (need_of Inode old.world c.root (tree_under c old) (ask.Cat p)) p there e (lost ne)), same ne);
  }

  pub ls_refuses : {X : Type 0} (tells : X → Answer → Type 0) (e : FsRefusal) → (e ≢ no.Device → no_directory_found (tree_under c old) p ≡ Some e) → (e ≢ no.Device → new.world ≡ old.world) → Answers {X = X} (mounted_by c) old new (ask.Ls p) (Err e) tells
  ls_refuses tells e lost same = record {
    ok = tt;
    err = λ ne. (ap (λ o. o.answer) (ls_refused old.world.geometry (tree_under c old) (free_count old.world) (length old.world.pairs) (need_of Inode old.world c.root (tree_under c old) (ask.Ls p)) p there e (lost ne)), same ne);
  }

  -- ---- answered

  module _ (same : new.world ≡ old.world) where
    pub cat_answers : {X : Type 0} (tells : X → Answer → Type 0) (x : X) → ◌≡◌ {A = Option FsRefusal} (no_file_found (tree_under c old) p) None → tells x (bytes (bytes_in (at (tree_under c old) p))) → Answers (mounted_by c) old new (ask.Cat p) (Ok x) tells
    cat_answers tells x found told =
        let is = cat_answered old.world.geometry (tree_under c old) (free_count old.world) (length old.world.pairs) (need_of Inode old.world c.root (tree_under c old) (ask.Cat p)) p there found in
        record {
          ok = (subst (λ o. tells x o.answer) (sym is) told, ap (λ w. inode_tree w c.root) same ∙ sym (ap (λ o. o.tree) is));
          err = tt;
        }

    pub ls_answers : {X : Type 0} (tells : X → Answer → Type 0) (x : X) → ◌≡◌ {A = Option FsRefusal} (no_directory_found (tree_under c old) p) None → tells x (listed (names_in (at (tree_under c old) p))) → Answers (mounted_by c) old new (ask.Ls p) (Ok x) tells
    ls_answers tells x found told =
        let is = ls_answered old.world.geometry (tree_under c old) (free_count old.world) (length old.world.pairs) (need_of Inode old.world c.root (tree_under c old) (ask.Ls p)) p there found in
        record {
          ok = (subst (λ o. tells x o.answer) (sym is) told, ap (λ w. inode_tree w c.root) same ∙ sym (ap (λ o. o.tree) is));
          err = tt;
        }

-- ---- what is told

module _ (c : Client) (old new : DiskView) (p : Path) (found : Found) (i : StandsAtPath c new p found) (same : new.world ≡ old.world) where
  module _ (is_file : is_directory (inode_of found.inode) ≡ false) (now : IsValidNow new) (whole : 16 ≤ block_len_of found.inode) where
    abbrev all : List ℕ
    all = bytes_said new.world (inode_of found.inode)

    abbrev size : ℕ
    size = amount_said (inode_of found.inode)

    -- the file's bytes
    pub bytes_are : bytes_in (at (tree_under c old) p) ≡ take size all
    bytes_are = ap (λ w. bytes_in (at (inode_tree w c.root) p)) (sym same) ∙ ap bytes_in (tree_there c new p found i ∙ file_is c new i.more found i.stands is_file now)

    pub size_told : TellsSize size (bytes (bytes_in (at (tree_under c old) p)))
    size_told = (take size all, ap bytes bytes_are, sym (length-take-le size all (row_is_long c new i.more found i.stands is_file now whole)))

    pub part_told : (start end : ℕ) (x : List ℕ) → start ≤ size → end ≡ min size (start + 4096) → x ≡ part all start end → TellsPart start x (bytes (bytes_in (at (tree_under c old) p)))
    part_told start end x below is e = (take size all, ap bytes bytes_are, e ∙ (ap (part all start) is ∙ sym (front_from all size start 4096 below)))

    -- nothing is left behind the end
    pub none_told : (start : ℕ) → size ≤ start → TellsPart start [] (bytes (bytes_in (at (tree_under c old) p)))
    none_told start past = (
      take size all,
      ap bytes bytes_are,
      let long : length (take size all) ≡ size = length-take-le size all (row_is_long c new i.more found i.stands is_file now whole) in
          sym (ap (take 4096) (drop_of_length-le (take size all) {i = start} (omega (arith, long, past)))),
    )

  pub next_told : (after : Name) → is_directory (inode_of found.inode) ≡ true → TellsNext after (next_said after (inode_of found.inode)) (listed (names_in (at (tree_under c old) p)))
  next_told after h =
      let es = entries_said (inode_of found.inode) in (
        entry_names es,
        ap listed (ap (λ w. names_in (at (inode_tree w c.root) p)) (sym same) ∙ names_there c new p found i h),
        ap (next_said after) (dir_said (inode_of found.inode) h),
      )

-- reading on, where only a fault refuses it
pub part_answers : (c : Client) (old new : DiskView) (p : Path) (start : ℕ) (into : List ℕ) (result : Result (Unit {0}) FsRefusal) → is_there (tree_under c old) ≡ true → ◌≡◌ {A = Option FsRefusal} (no_file_found (tree_under c old) p) None
    → OnOk result (new.world ≡ old.world) → OnOk result (TellsPart start into (bytes (bytes_in (at (tree_under c old) p)))) → IfErr result (λ e. e ≡ no.Device) → Answers (mounted_by c) old new (ask.Cat p) result (λ _. TellsPart start into)
part_answers c old new p start into (Ok x) there found same told only = cat_answers c old new p there same (λ _. TellsPart start into) x found told
part_answers c old new p start into (Err e) there found same told only = cat_refuses c old new p there (λ _. TellsPart start into) e (λ ne. absurd (ne only)) (λ ne. absurd (ne only))

pub on_ok_too : {X : Type 0} (result : Result X FsRefusal) (P Q : Type 0) → (P → Q) → OnOk result P → OnOk result Q
on_ok_too (Ok x) P Q f h = f h
on_ok_too (Err e) P Q f h = tt
