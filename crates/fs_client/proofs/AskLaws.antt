-- What an ask answers, by the refusal that applies first, in either layout.
use Rattle.std.proofs.Common.{◌≡◌, ◌≢◌, ℕ, true, false, not, nat_lt, List, [], ◌∷◌, length, sym, ◌∙◌, ap, refl, Option, Some, None, Ok, Err}
use Rattle.fs_client.proofs.Common.{free_count, Tree, nothing, a_file, a_dir, at, is_there, names_in, Answer, done, tree_at, RoomNeed, when, first_of, not_mounted, lost_on_the_way, missing, is_root, has_entries, refusal, change, ShellAsk, ShellKind, FsRefusal, DiskView, FilesView, Answers, tree_on, tree_after, unless_refused, refused_on, lookup_refusal}
use Rattle.tsd_model.specs.declared.geometry.Geometry.{Geometry}
use Rattle.fs_trees.specs.Names.{Path}
use Rattle.fs_trees.specs.Step.{judged}
use Rattle.fs_trees.specs.declared.ask.ShellAsk.TheVariants as ask
use Rattle.fs_trees.specs.declared.refusal.FsRefusal.TheVariants as no

-- ---- any ask

pub ask_refuses : {X : Type 0} (f : FilesView) (old new : DiskView) (a : ShellAsk) (tells : X → Answer → Type 0) (e : FsRefusal) → (e ≢ no.Device → refused_on f old a ≡ Some e) → (e ≢ no.Device → new.world ≡ old.world) → Answers {X = X} f old new a (Err e) tells
ask_refuses f old new a tells e h same = record {
  ok = tt;
  err = λ ne. (ap (λ o. (judged (tree_on f old) (free_count old.world) a o).answer) (h ne), same ne);
}

pub ask_done : {X : Type 0} (f : FilesView) (old new : DiskView) (a : ShellAsk) (x : X) → ◌≡◌ {A = Option FsRefusal} (refused_on f old a) None → (change (tree_on f old) (free_count old.world) a).answer ≡ done → tree_at f.kind new.world f.root ≡ (change (tree_on f old) (free_count old.world) a).tree
    → Answers f old new a (Ok x) (λ _ answer. answer ≡ done)
ask_done f old new a x h answer tree = record {
  ok = (ap (λ o. (judged (tree_on f old) (free_count old.world) a o).answer) h ∙ answer, tree ∙ sym (ap (λ o. (judged (tree_on f old) (free_count old.world) a o).tree) h));
  err = tt;
}

-- the tree afterwards, where it isn't refused
pub after_is : (f : FilesView) (old : DiskView) (a : ShellAsk) → ◌≡◌ {A = Option FsRefusal} (refused_on f old a) None → (change (tree_on f old) (free_count old.world) a).answer ≡ done → tree_after f old a ≡ (change (tree_on f old) (free_count old.world) a).tree
after_is f old a h answer =
    let t = tree_on f old in
    let before = tree_at f.kind old.world f.root in
    let is = ap (judged t (free_count old.world) a) h in
    ap (λ o. unless_refused o.answer o.tree before) is ∙ ap (λ r. unless_refused r (change t (free_count old.world) a).tree before) answer

pub is_mounted : (t : Tree) (rest : List (Option FsRefusal)) → is_there t ≡ true → first_of (not_mounted t ∷ rest) ≡ first_of rest
is_mounted nothing rest h = absurd (cc)
is_mounted (a_file x) rest h = refl
is_mounted (a_dir d es) rest h = refl

-- ---- rm

module _ (kind : ShellKind) (g : Geometry) (t : Tree) (free held : ℕ) (need : RoomNeed) (there : is_there t ≡ true) where
  pub rm_lost : (p : Path) (e : FsRefusal) → lookup_refusal t p no.IsDir ≡ Some e → refusal kind g t free held need (ask.Rm p) ≡ Some e
  rm_lost [] e h =
      is_mounted t (lost_on_the_way t [] ∷ missing t [] ∷ is_root [] ∷ has_entries t [] ∷ []) there
      ∙ (ap (λ b. first_of (when (not b) no.NoEntry ∷ is_root [] ∷ has_entries t [] ∷ [])) there ∙ h)
  rm_lost (n ∷ ns) e h =
      is_mounted t (lost_on_the_way t (n ∷ ns) ∷ missing t (n ∷ ns) ∷ is_root (n ∷ ns) ∷ has_entries t (n ∷ ns) ∷ []) there
      ∙ ap (λ o. first_of (o ∷ missing t (n ∷ ns) ∷ is_root (n ∷ ns) ∷ has_entries t (n ∷ ns) ∷ [])) h

  rm_way : (p : Path) → ◌≡◌ {A = Option FsRefusal} (lookup_refusal t p no.IsDir) None → refusal kind g t free held need (ask.Rm p) ≡ first_of (missing t p ∷ has_entries t p ∷ [])
  rm_way [] h = absurd (cc)
  rm_way (n ∷ ns) h =
      is_mounted t (lost_on_the_way t (n ∷ ns) ∷ missing t (n ∷ ns) ∷ is_root (n ∷ ns) ∷ has_entries t (n ∷ ns) ∷ []) there
      ∙ (ap (λ o. first_of (o ∷ missing t (n ∷ ns) ∷ is_root (n ∷ ns) ∷ has_entries t (n ∷ ns) ∷ [])) h
      ∙ no_root (missing t (n ∷ ns)) (has_entries t (n ∷ ns)))
    where
      no_root : (x y : Option FsRefusal) → first_of (x ∷ None ∷ y ∷ []) ≡ first_of (x ∷ y ∷ [])
      no_root None y = refl
      no_root (Some r) y = refl

  pub rm_missing : (p : Path) → ◌≡◌ {A = Option FsRefusal} (lookup_refusal t p no.IsDir) None → is_there (at t p) ≡ false → refusal kind g t free held need (ask.Rm p) ≡ Some no.NoEntry
  rm_missing p h k = rm_way p h ∙ ap (λ b. first_of (when (not b) no.NoEntry ∷ has_entries t p ∷ [])) k

  pub rm_full : (p : Path) → ◌≡◌ {A = Option FsRefusal} (lookup_refusal t p no.IsDir) None → is_there (at t p) ≡ true → nat_lt 0 (length (names_in (at t p))) ≡ true → refusal kind g t free held need (ask.Rm p) ≡ Some no.NotEmpty
  rm_full p h k full = rm_way p h ∙ (ap (λ b. first_of (when (not b) no.NoEntry ∷ has_entries t p ∷ [])) k ∙ ap (λ b. first_of (when b no.NotEmpty ∷ [])) full)

  pub rm_none : (p : Path) → ◌≡◌ {A = Option FsRefusal} (lookup_refusal t p no.IsDir) None → is_there (at t p) ≡ true → nat_lt 0 (length (names_in (at t p))) ≡ false → ◌≡◌ {A = Option FsRefusal} (refusal kind g t free held need (ask.Rm p)) None
  rm_none p h k empty = rm_way p h ∙ (ap (λ b. first_of (when (not b) no.NoEntry ∷ has_entries t p ∷ [])) k ∙ ap (λ b. first_of (when b no.NotEmpty ∷ [])) empty)
