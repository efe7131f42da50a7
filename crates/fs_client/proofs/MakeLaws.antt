-- A root that is written so that its tree is empty.
use Rattle.std.proofs.Common.{◌≡◌, ℕ, ◌<◌, true, false, ◌&&◌, ◌==◌, List, [], ◌∷◌, refl, sym, ◌∙◌, ap, subst, inl, inr, ◌⊎◌}
use Rattle.fs_client.proofs.Common.{and_from, or_cases, or_left, eq-eqb, eqb-true, World, is_live, has_number, holds, is_there, need, empty_tree, tree_at, named_at, IsTidy, is_under, OthersStay, ShellKind, SameTree, IsUnder, Keeps, outside_twice, root_under, named_is_under, read_from_named, DiskView, IsValidNow, IsEitherTree, Client, write_by, MayWrite, written, Leads, Went, IsMade, files_by, IsEmptied, root_alone, MayTrim, Trimmed, IsTrim, OnlyNamed}
use Rattle.fs_trees.specs.declared.ask.ShellAsk.TheVariants as ask
use Rattle.fs_client.proofs.RunLaws.{as_before}
use Rattle.fs_client.proofs.TidyLaws.{is_tidy}
use Rattle.fs_client.proofs.TrimLaws.{freed}
use Rattle.fs_client.proofs.WriteLaws.{written_free}
use Rattle.fs_client.proofs.KeepLaws.{takes_none, no_more_room, write_takes}

module _ (kind : ShellKind) (c : Client) (first : DiskView) (bytes : List ℕ) (now : IsValidNow first) (primary : c.root < first.world.geometry.primaries) (empty : IsEmptied kind (written first.world c.root bytes) c.root) where
  abbrev w : World
  w = first.world

  abbrev next : World
  next = written w c.root bytes

  inside : (is_under w c.root c.root && true) ≡ true
  inside = and_from (is_under w c.root c.root) true (root_under w now.valid.raw c.root primary) refl

  at_next : Leads w (write_by c c.root bytes) next → IsEitherTree (files_by kind c) first ask.Make next
  at_next leads = (inr empty.tree, record { valid = leads.valid; geometry = leads.geometry; others = leads.others c.root primary inside })

  pub stop_at_write : (u : World) → (u ≡ first.world) ⊎ ((u ≡ written first.world c.root bytes) × Leads first.world (write_by c c.root bytes) (written first.world c.root bytes)) → IsEitherTree (files_by kind c) first ask.Make u
  stop_at_write u (inl before) = as_before (files_by kind c) first ask.Make u now.valid before
  stop_at_write u (inr h) = subst (IsEitherTree (files_by kind c) first ask.Make) (sym h.0) (at_next h.1)

  module _ (wr : DiskView) (went : Went c first wr (write_by c c.root bytes) c.root (written first.world c.root bytes)) where
    tree_wr : tree_at kind wr.world c.root ≡ empty_tree
    tree_wr = ap (λ v. tree_at kind v c.root) went.world ∙ empty.tree

    named_wr : named_at kind wr.world c.root ≡ root_alone c.root
    named_wr = ap (λ v. named_at kind v c.root) went.world ∙ empty.named

    there_wr : is_there (tree_at kind wr.world c.root) ≡ true
    there_wr = ap is_there tree_wr

    primary_wr : c.root < wr.world.geometry.primaries
    primary_wr = subst (λ g. c.root < g.primaries) (sym (ap (λ v. v.geometry) went.world ∙ went.leads.geometry)) primary

    under_wr : IsUnder wr.world c.root (root_alone c.root)
    under_wr = subst (IsUnder wr.world c.root) named_wr (named_is_under kind wr.world c.root primary_wr there_wr)

    -- all pairs out of the root may go
    pub may_trim : MayWrite c wr c.root → MayTrim c (root_alone c.root) wr c.root []
    may_trim may = record {
      under = under_wr;
      named = or_left (c.root == c.root) false (eq-eqb c.root c.root refl);
      all = λ b h. h;
      way = inl refl;
      may = may;
    }

    others_wr : OthersStay c.root first.world wr.world
    others_wr = subst (OthersStay c.root first.world) (sym went.world) (went.leads.others c.root primary inside)

    pub stop_after : (u : World) → IsTrim c (root_alone c.root) wr u → IsEitherTree (files_by kind c) first ask.Make u
    stop_after u h = (
      inr ((read_from_named kind wr.world u c.root there_wr (subst (λ n. Keeps wr.world u n) (sym named_wr) h.keeps)).tree ∙ tree_wr),
      record {
        valid = h.valid;
        geometry = h.keeps.geometry ∙ (ap (λ v. v.geometry) went.world ∙ went.leads.geometry);
        others = outside_twice c.root first.world wr.world u others_wr h.others;
      },
    )

    module _ (fin : DiskView) (l : Trimmed c (root_alone c.root) wr fin) (only : OnlyNamed fin.world c.root []) (unspent : fin.spent ≡ false) where
      pub made : IsMade (files_by kind c) first fin
      made = record {
        tree = tree_fin;
        tidy = tidy_fin;
        room = no_more_room (need 0 0) first.world wr.world fin.world (write_takes c first wr now (write_by c c.root bytes) c.root bytes (now.valid.raw.primaries c.root primary) went)
            (takes_none wr.world fin.world went.valid.valid l.valid.valid l.keeps.geometry (freed c (root_alone c.root) wr fin l) l.fewer);
        left = record {
          unspent = unspent;
          tidy = λ _. tidy_fin;
          others = outside_twice c.root first.world wr.world fin.world others_wr l.others;
          taken = λ b free live. absurd (written_free w c.root bytes (now.valid.raw.primaries c.root primary) b free (ap (λ v. is_live v b) (sym went.world) ∙ freed c (root_alone c.root) wr fin l b live));
        };
      }
        where
          same : SameTree kind c.root wr.world fin.world
          same = read_from_named kind wr.world fin.world c.root there_wr (subst (λ n. Keeps wr.world fin.world n) (sym named_wr) l.keeps)

          tree_fin : tree_at kind fin.world c.root ≡ empty_tree
          tree_fin = same.tree ∙ tree_wr

          there_fin : is_there (tree_at kind fin.world c.root) ≡ true
          there_fin = ap is_there tree_fin

          named_fin : named_at kind fin.world c.root ≡ root_alone c.root
          named_fin = same.named ∙ named_wr

          never : (a b : ℕ) → has_number (c.root ∷ []) a ≡ true → holds fin.world.pairs a b ≡ true → ⊥
          never a b from h = elim (or_cases (c.root == a) false from) [
            | inl here ↦ no_name (only b (ap (λ x. holds fin.world.pairs x b) (eqb-true c.root a here) ∙ h))
            | inr other ↦ no_name other
          ]
            where
              no_name : false ≡ true → ⊥
              no_name e = cc

          no_pair : (a b : ℕ) → holds (named_at kind fin.world c.root).pairs a b ≡ true → ⊥
          no_pair a b h = let e = sym (ap (λ n. holds n.pairs a b) named_fin) ∙ h in cc

          tidy_fin : IsTidy kind fin.world c.root
          tidy_fin = is_tidy kind fin.world c.root l.valid.valid (named_is_under kind fin.world c.root (subst (λ g. c.root < g.primaries) (sym l.keeps.geometry) primary_wr) there_fin) (λ a b h. absurd (no_pair a b h))
              (λ a from b h. absurd (never a b (ap (λ n. has_number n.blocks a) (sym named_fin) ∙ from) h))
