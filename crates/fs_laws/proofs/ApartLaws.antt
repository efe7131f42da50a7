-- What hangs from one root stays while another is written.
use Rattle.std.proofs.Common.{◌≡◌, ℕ, ◌<◌, Bool, true, false, refl, sym, ◌∙◌, ap, subst}
use Rattle.fs_laws.proofs.Common.{World, is_live, has_number, holds, IsValid, tree_at, named_at, IsTidy, is_under, OthersStay, is_there, ShellKind, SameTree, IsUnder, Keeps}
use Rattle.fs_laws.specs.Apart.{AreApart, StaysApart}
use Rattle.fs_laws.proofs.NamedLaws.{each_named}
use Rattle.fs_laws.proofs.TreeLaws.{named_is_under, read_from_named}
use Rattle.fs_laws.proofs.UnderLaws.{each_under, root_under, target_under}

-- what a root reaches is live
pub under_live : (w : World) → IsValid w → (root : ℕ) → root < w.geometry.primaries → (b : ℕ) → is_under w root b ≡ true → is_live w b ≡ true
under_live w valid root primary = each_under w root (λ b. is_live w b ≡ true) (valid.raw.primaries root primary) (λ a b h _. valid.raw.targets a b h)

either_way : (s t : Bool) → (s ≡ true → t ≡ true) → (t ≡ true → s ≡ true) → s ≡ t
either_way true t on back = sym (on refl)
either_way false true on back = back refl
either_way false false on back = refl

module _ (kind : ShellKind) (w next : World) (root other : ℕ) (valid : IsValid w) (then : IsValid next) (size : next.geometry ≡ w.geometry) (primary : root < w.geometry.primaries) (there : is_there (tree_at kind w root) ≡ true) (apart : AreApart w root other) (others : OthersStay other w next) where
  still : root < next.geometry.primaries
  still = subst (λ g. root < g.primaries) (sym size) primary

  -- the pairs out of what the root reaches are the same
  same_pairs : (a b : ℕ) → is_under w root a ≡ true → holds next.pairs a b ≡ holds w.pairs a b
  same_pairs a b h = others.pairs a b (under_live w valid root primary a h) (apart a h)

  not_more : (b : ℕ) → is_under next root b ≡ true → is_under w root b ≡ true
  not_more = each_under next root (λ b. is_under w root b ≡ true) (root_under w valid.raw root primary)
      (λ a b h k. target_under w valid.raw root primary a b (sym (same_pairs a b k) ∙ h) k)

  not_less : (b : ℕ) → is_under w root b ≡ true → is_under next root b ≡ true
  not_less b h = (each_under w root (λ c. (is_under w root c ≡ true) × (is_under next root c ≡ true))
      (root_under w valid.raw root primary, root_under next then.raw root still)
      (λ a c k both. (target_under w valid.raw root primary a c k both.0, target_under next then.raw root still a c (same_pairs a c both.0 ∙ k) both.1)) b h).1

  same_reach : (b : ℕ) → is_under next root b ≡ is_under w root b
  same_reach b = either_way (is_under next root b) (is_under w root b) (not_more b) (not_less b)

  still_apart : AreApart next root other
  still_apart b h = let was = not_more b h in others.apart b (under_live w valid root primary b was) (apart b was)

  hangs : IsUnder w root (named_at kind w root)
  hangs = named_is_under kind w root primary there

  named_under : (b : ℕ) → has_number (named_at kind w root).blocks b ≡ true → is_under w root b ≡ true
  named_under = each_named (λ b. is_under w root b ≡ true) root (named_at kind w root).pairs (named_at kind w root).blocks hangs.order (root_under w valid.raw root primary)
      (λ a b h k. target_under w valid.raw root primary a b (hangs.held a b h) k)

  kept : Keeps w next (named_at kind w root)
  kept = record {
    geometry = size;
    live = λ b h. under_live next then root still b (not_less b (named_under b h));
    bytes = λ b h. let under = named_under b h in others.bytes b (under_live w valid root primary b under) (apart b under);
    pairs = λ a b h. same_pairs a b (named_under a (hangs.from a b h)) ∙ hangs.held a b h;
  }

  same_tree : SameTree kind root w next
  same_tree = read_from_named kind w next root there kept

  still_tidy : IsTidy kind w root → IsTidy kind next root
  still_tidy tidy = record {
    blocks = λ b. same_reach b ∙ (tidy.blocks b ∙ ap (λ n. has_number n.blocks b) (sym same_tree.named));
    pairs = λ a b h.
        let was : has_number (named_at kind w root).blocks a ≡ true = ap (λ n. has_number n.blocks a) (sym same_tree.named) ∙ h in
        same_pairs a b (named_under a was) ∙ (tidy.pairs a b was ∙ ap (λ n. holds n.pairs a b) (sym same_tree.named));
  }

  pub apart_stays : StaysApart kind root other w next
  apart_stays = record { reach = same_reach; apart = still_apart; keeps = kept; same = same_tree; tidy = still_tidy }
