-- An ask that gives a path what was made, from what was made to its entry.
use Rattle.std.proofs.Common.{◌≡◌, ◌≢◌, ℕ, refl, sym, ◌∙◌, inl, inr, Option, None, Result, Ok, Err}
use Rattle.inode_changes.proofs.Common.{free_count, Path, Tree, with_at, need, done, change, ShellAsk, FsRefusal, DiskView, Answers, IsEitherTree, KeepsRoom, need_on, Runs, Changes, Client, refused_on, ask_done, after_is, no_more_room, runs_more, runs_refused, then_runs, changes_of, leaves_same, Lookup, tree_under, mounted_by, IsAside, Grounds, IsMadeInode, Enters, EntersOrNot}
use Rattle.fs_trees.specs.declared.refusal.FsRefusal.TheVariants as no
use Rattle.inode_changes.proofs.OutcomeLaws.{fault_changes}

-- a stop before the deciding write
aside_runs : {X : Type 0} {told : Type 0} {c : Client} {v mk : DiskView} {result : Result X FsRefusal} (a : ShellAsk) → Runs told v mk (IsAside c.root v.world) result → Runs told v mk (IsEitherTree (mounted_by c) v a) result
aside_runs {told = told} {c = c} {v = v} {mk = mk} {result = result} a runs = runs_more told v mk (IsAside c.root v.world) (IsEitherTree (mounted_by c) v a) result
    (λ t w h. (inl h.tree, record { valid = h.valid; geometry = h.geometry; others = h.others })) runs

-- nothing was made
pub unmade_changes : {X Y : Type 0} {told : Type 0} {c : Client} {v mk : DiskView} {a : ShellAsk} {e : FsRefusal} → (told → e ≢ no.Device → mk.world ≡ v.world) → Runs {X = X} told v mk (IsAside c.root v.world) (Err e) → Changes {X = Y} told (mounted_by c) v mk a (Err e)
unmade_changes {told = told} {c = c} {v = v} {mk = mk} {a = a} {e = e} same runs = changes_of told (mounted_by c) refl v mk a (Err e) (λ t. tt) (λ t. (tt, λ ne. leaves_same (mounted_by c) v mk (same t ne) (runs.unspent.1 ne)))
    (runs_refused told v mk (IsEitherTree (mounted_by c) v a) e (aside_runs a runs))

-- What an ask gives a path was made, and is to be entered there: nothing refuses the ask.
pub record ToEnter (told : Type 0) (c : Client) (v mk : DiskView) (a : ShellAsk) (path : Path) (lookup : Lookup) (i : ℕ) (x : Tree) : Type 0 where
  pub none : told → ◌≡◌ {A = Option FsRefusal} (refused_on (mounted_by c) v a) None
  pub is_done : (change (tree_under c v) (free_count v.world) a).answer ≡ done
  pub tree : told → (change (tree_under c v) (free_count v.world) a).tree ≡ with_at path x (tree_under c v)
  pub grounds : told → Grounds c.root v.world path lookup
  pub made : told → IsMadeInode c.root v.world lookup.directory.block i x mk.world
  pub keeps : told → KeepsRoom (need_on (mounted_by c) v a) v.world mk.world
  pub runs : Runs {X = ℕ} told v mk (IsAside c.root v.world) (Ok i)

module _ {told : Type 0} {c : Client} {v mk : DiskView} {a : ShellAsk} {path : Path} {lookup : Lookup} {i : ℕ} {x : Tree} (e : ToEnter told c v mk a path lookup i x) where
  -- a stop behind it, too
  entered_runs : {fin : DiskView} {result : Result (Unit {0}) FsRefusal} → Runs told mk fin (EntersOrNot c.root lookup i mk.world) result → Runs told v fin (IsEitherTree (mounted_by c) v a) result
  entered_runs {fin = fin} {result = result} runs = then_runs told v mk fin (IsEitherTree (mounted_by c) v a) i result (aside_runs a e.runs)
      (runs_more told mk fin (EntersOrNot c.root lookup i mk.world) (IsEitherTree (mounted_by c) v a) result (λ t w k.
      let h = k v.world path x (e.grounds t) (e.made t) in (
        elim h.tree [
          | inl before ↦ inl before
          | inr after ↦ inr (after ∙ (sym (e.tree t) ∙ sym (after_is (mounted_by c) v a (e.none t) e.is_done)))
        ],
        record { valid = h.valid; geometry = h.geometry; others = h.others },
      )) runs)

  pub stopped_changes : {fin : DiskView} {r : FsRefusal} → (told → r ≡ no.Device) → Runs {X = Unit {0}} told mk fin (EntersOrNot c.root lookup i mk.world) (Err r) → Changes {X = Unit {0}} told (mounted_by c) v fin a (Err r)
  stopped_changes only runs = fault_changes refl only (entered_runs runs)

  module _ {fin : DiskView} (entered : told → Enters c.root lookup i mk.world fin.world) where
    pub entered_answers : told → Answers {X = Unit {0}} (mounted_by c) v fin a (Ok tt) (λ _ answer. answer ≡ done)
    entered_answers t = ask_done (mounted_by c) v fin a tt (e.none t) e.is_done ((entered t v.world path x (e.grounds t) (e.made t)).tree ∙ sym (e.tree t))

    pub entered_changes : (told → KeepsRoom (need 0 0) mk.world fin.world) → Runs {X = Unit {0}} told mk fin (EntersOrNot c.root lookup i mk.world) (Ok tt) → Changes {X = Unit {0}} told (mounted_by c) v fin a (Ok tt)
    entered_changes keeps runs = changes_of told (mounted_by c) refl v fin a (Ok tt) (λ t. no_more_room (need_on (mounted_by c) v a) v.world mk.world fin.world (e.keeps t) (keeps t))
        (λ t. let h = entered t v.world path x (e.grounds t) (e.made t) in (record { unspent = runs.unspent.0; tidy = h.tidy; others = h.others; taken = h.taken }, tt))
        (entered_runs runs)
