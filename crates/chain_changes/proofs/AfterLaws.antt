-- The world once a change is decided, and after the last pair that it leaves behind is let go of.
use Rattle.std.proofs.Common.{◌≡◌, ℕ, ◌<◌, Bool, true, false, refl, sym, ◌∙◌, ap, subst, inl, inr, ◌⊎◌, Option, Some, None, Result, Ok}
use Rattle.chain_changes.proofs.Common.{IfErr, World, is_live, is_free, free_count, has_number, holds, is_pair, IsValid, is_there, Chains, chain_blocks, chain_pairs, chains_under, as_tree, chain_tree, done, Named, by_chains, named_at, IsTidy, OthersStay, ShellAsk, FsRefusal, IsUnder, outside_twice, named_is_under, read_from_named, DiskView, IsValidNow, Answers, IsEitherTree, LeavesTidyWorld, tree_on, Client, unlink_by, Went, Steps, dropped, refused_on, Runs, ask_done, after_is, runs_more, is_tidy, mounted_by}
use Rattle.fs_trees.specs.Step.{change}
use Rattle.fs_trees.specs.declared.ask.ShellKind.TheVariants as kind
use Rattle.fs_trees.specs.declared.refusal.FsRefusal.TheVariants as no
use Rattle.fs_client.specs.Trimming.{IsTrim}
use Rattle.fs_client.proofs.DropLaws.{other_pair}
use Rattle.fs_client.proofs.TrimLaws.{freed, trimmed_by_step, trims_by_step}
use Rattle.fs_client.proofs.TargetLaws.{target_named, chain_targets}
use Rattle.tsd_model.proofs.ValueLaws.{clash}

is_false : (t : Bool) → (t ≡ true → ⊥) → t ≡ false
is_false true h = absurd (h refl)
is_false false h = refl

-- The ask isn't refused, and the world has the tree that it makes. If the world was tidy when the call began, all pairs out of named
-- blocks are named, but for some loose ones.
pub record Decided (c : Client) (first : DiskView) (a : ShellAsk) (w : World) (Loose : ℕ → ℕ → Type 0) : Type 0 where
  pub granted : ◌≡◌ {A = Option FsRefusal} (refused_on (mounted_by c) first a) None
  pub answer : (change (tree_on (mounted_by c) first) (free_count first.world) a).answer ≡ done
  pub valid : IsValid w
  pub geometry : w.geometry ≡ first.world.geometry
  pub others : OthersStay c.root first.world w
  pub primary : c.root < w.geometry.primaries
  pub chains : Chains
  pub under : chains_under w c.root ≡ Some chains
  pub tree : chain_tree w c.root ≡ (change (tree_on (mounted_by c) first) (free_count first.world) a).tree
  pub taken : (k : ℕ) → is_free first.world k ≡ true → is_live w k ≡ true → has_number (chain_blocks chains) k ≡ true
  pub clean : IsTidy kind.Chain first.world c.root → (x y : ℕ) → has_number (chain_blocks chains) x ≡ true → holds w.pairs x y ≡ true → (holds (chain_pairs chains) x y ≡ true) ⊎ Loose x y

-- no pair is loose
abbrev pub None_loose : ℕ → ℕ → Type 0
None_loose x y = ⊥

-- this one alone is
abbrev pub This_loose : ℕ → ℕ → ℕ → ℕ → Type 0
This_loose d b x y = is_pair d b (x, y) ≡ true

module _ (c : Client) (first : DiskView) (a : ShellAsk) (w : World) (Loose : ℕ → ℕ → Type 0) (x : Decided c first a w Loose) where
  pub decided_named : named_at kind.Chain w c.root ≡ record { blocks = chain_blocks x.chains; pairs = chain_pairs x.chains }
  decided_named = ap by_chains x.under

  pub decided_there : is_there (chain_tree w c.root) ≡ true
  decided_there = ap (λ o. is_there (as_tree o)) x.under

  pub decided_under : IsUnder w c.root (named_at kind.Chain w c.root)
  decided_under = named_is_under kind.Chain w c.root x.primary decided_there

  -- a stop leaves it
  pub decided_either : IsEitherTree (mounted_by c) first a w
  decided_either = (inr (x.tree ∙ sym (after_is (mounted_by c) first a x.granted x.answer)), record { valid = x.valid; geometry = x.geometry; others = x.others })

pub decided_answers : (c : Client) (first : DiskView) (a : ShellAsk) (new : DiskView) (Loose : ℕ → ℕ → Type 0) → Decided c first a new.world Loose → Answers {X = Unit {0}} (mounted_by c) first new a (Ok tt) (λ _ answer. answer ≡ done)
decided_answers c first a new Loose x = ask_done {X = Unit {0}} (mounted_by c) first new a tt x.granted x.answer x.tree

-- where nothing is loose, the world is left so
pub decided_leaves : (c : Client) (first : DiskView) (a : ShellAsk) (new : DiskView) → Decided c first a new.world None_loose → new.spent ≡ false → LeavesTidyWorld (mounted_by c) first new
decided_leaves c first a new x unspent =
    let named_is = decided_named c first a new.world None_loose x in
    record {
      unspent = unspent;
      tidy = λ tidy. is_tidy kind.Chain new.world c.root x.valid (decided_under c first a new.world None_loose x) (chain_targets new.world c.root (decided_there c first a new.world None_loose x))
          (λ k named y held. ap (λ n. holds n.pairs k y) named_is ∙ no_more (x.clean tidy k y (ap (λ n. has_number n.blocks k) (sym named_is) ∙ named) held));
      others = x.others;
      taken = λ k free live. ap (λ n. has_number n.blocks k) named_is ∙ x.taken k free live;
    }
  where
    no_more : {P : Type 0} → P ⊎ ⊥ → P
    no_more (inl p) = p
    no_more (inr never) = absurd never

-- ---- the last loose pair goes

-- It is decided, and the pair from a named block to one that isn't named any more is loose.
pub record LetsGo (c : Client) (first : DiskView) (a : ShellAsk) (w : World) (d b : ℕ) : Type 0 where
  pub decided : Decided c first a w (This_loose d b)
  pub source : has_number (chain_blocks decided.chains) d ≡ true
  pub held : holds w.pairs d b ≡ true
  pub gone : has_number (chain_blocks decided.chains) b ≡ false

module _ (c : Client) (first : DiskView) (a : ShellAsk) (wr : DiskView) (d b : ℕ) (now : IsValidNow wr) (lets : LetsGo c first a wr.world d b) where
  abbrev x : Decided c first a wr.world (This_loose d b)
  x = lets.decided

  abbrev names : Named
  names = named_at kind.Chain wr.world c.root

  named_is : named_at kind.Chain wr.world c.root ≡ record { blocks = chain_blocks x.chains; pairs = chain_pairs x.chains }
  named_is = decided_named c first a wr.world (This_loose d b) x

  under : IsUnder wr.world c.root names
  under = decided_under c first a wr.world (This_loose d b) x

  there : is_there (chain_tree wr.world c.root) ≡ true
  there = decided_there c first a wr.world (This_loose d b) x

  source_named : has_number names.blocks d ≡ true
  source_named = ap (λ n. has_number n.blocks d) named_is ∙ lets.source

  spared : holds names.pairs d b ≡ false
  spared = is_false (holds names.pairs d b) (λ h. clash (has_number (chain_blocks x.chains) b) (target_named x.chains d b (ap (λ n. holds n.pairs d b) (sym named_is) ∙ h)) lets.gone)

  stop : (w : World) → IsTrim c names wr w → IsEitherTree (mounted_by c) first a w
  stop w trim = (
    inr ((read_from_named kind.Chain wr.world w c.root there trim.keeps).tree ∙ (x.tree ∙ sym (after_is (mounted_by c) first a x.granted x.answer))),
    record { valid = trim.valid; geometry = trim.keeps.geometry ∙ x.geometry; others = outside_twice c.root first.world wr.world w x.others trim.others },
  )

  -- afterwards nothing is loose
  pub loose_gone : (fin : DiskView) → Went c wr fin (unlink_by c d b) d (dropped wr.world d b) → Decided c first a fin.world None_loose
  loose_gone fin went =
      let trimmed = trimmed_by_step c names wr d b now under source_named lets.held spared fin went in
      let same = read_from_named kind.Chain wr.world fin.world c.root there trimmed.keeps in
      let still = in_chains (chains_under fin.world c.root) refl (same.named ∙ named_is) (ap is_there same.tree ∙ there) in
      record {
        granted = x.granted;
        answer = x.answer;
        valid = trimmed.valid.valid;
        geometry = trimmed.keeps.geometry ∙ x.geometry;
        others = outside_twice c.root first.world wr.world fin.world x.others trimmed.others;
        primary = subst (λ g. c.root < g.primaries) (sym trimmed.keeps.geometry) x.primary;
        chains = still.0;
        under = still.1;
        tree = same.tree ∙ x.tree;
        taken = λ k free live. ap (λ n. has_number n.blocks k) still.2 ∙ x.taken k free (freed c names wr fin trimmed k live);
        clean = λ tidy k y named h. not_this k y h (x.clean tidy k y (ap (λ n. has_number n.blocks k) (sym still.2) ∙ named) (trimmed.fewer k y h)) (ap (λ n. holds n.pairs k y) still.2);
      }
    where
      in_chains : (o : Option Chains) → chains_under fin.world c.root ≡ o → by_chains (chains_under fin.world c.root) ≡ record { blocks = chain_blocks x.chains; pairs = chain_pairs x.chains } → is_there (as_tree (chains_under fin.world c.root)) ≡ true
          → (cs : Chains) × (chains_under fin.world c.root ≡ Some cs) × (◌≡◌ {A = Named} (record { blocks = chain_blocks cs; pairs = chain_pairs cs }) (record { blocks = chain_blocks x.chains; pairs = chain_pairs x.chains }))
      in_chains None e named is = absurd (no_tree (ap (λ o. is_there (as_tree o)) (sym e) ∙ is))
        where
          no_tree : false ≡ true → ⊥
          no_tree h = cc
      in_chains (Some cs) e named is = (cs, e, ap by_chains (sym e) ∙ named)

      not_this : (k y : ℕ) → holds fin.world.pairs k y ≡ true → (holds (chain_pairs x.chains) k y ≡ true) ⊎ (is_pair d b (k, y) ≡ true) → {m : Bool} → m ≡ holds (chain_pairs x.chains) k y → (m ≡ true) ⊎ ⊥
      not_this k y h (inl named) same = inl (same ∙ named)
      not_this k y h (inr this) same = absurd (clash (is_pair d b (k, y)) this (other_pair wr.world d b k y (ap (λ w. holds w.pairs k y) (sym went.world) ∙ h)))

-- a stop meanwhile leaves the tree after
pub loose_runs : {X : Type 0} (told : Type 0) (c : Client) (first : DiskView) (a : ShellAsk) (wr fin : DiskView) (d b : ℕ) (result : Result X FsRefusal) (now : told → IsValidNow wr) (lets : told → LetsGo c first a wr.world d b)
    → (told → IfErr result (λ e. e ≡ no.Device)) → Steps told c wr fin (unlink_by c d b) d (dropped wr.world d b) result → Runs told wr fin (IsEitherTree (mounted_by c) first a) result
loose_runs told c first a wr fin d b result now lets only steps =
    runs_more told wr fin (IsTrim c (named_at kind.Chain wr.world c.root) wr) (IsEitherTree (mounted_by c) first a) result (λ t. stop c first a wr d b (now t) (lets t))
    (trims_by_step told c (named_at kind.Chain wr.world c.root) wr fin d b result now
    (λ t. decided_under c first a wr.world (This_loose d b) (lets t).decided)
    (λ t. source_named c first a wr d b (now t) (lets t))
    (λ t. (lets t).held)
    (λ t. spared c first a wr d b (now t) (lets t))
    only steps).runs
