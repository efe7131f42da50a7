-- What hangs from one root while what another doesn't reach stays: its tree is as it was, also where none is there.
use Rattle.std.proofs.Common.{◌≡◌, ℕ, ◌<◌, true, false, refl, sym, ◌∙◌, subst}
use Rattle.image_shell.proofs.Common.{AreApart, Geometry, IsValid, OthersStay, ShellKind, Tree, World, a_dir, a_file, contents, has_number, is_there, is_under, named_at, nothing, tree_at}
use Rattle.tsd_model.specs.Pairs.{holds}
use Rattle.fs_trees.specs.declared.ask.ShellKind.TheVariants as kind
use Rattle.fs_laws.specs.Stays.{IsUnder, Keeps}
use Rattle.fs_laws.proofs.ApartLaws.{under_live}
use Rattle.fs_laws.proofs.NamedLaws.{each_named}
use Rattle.fs_laws.proofs.TreeLaws.{named_is_under, read_from_named}
use Rattle.fs_laws.proofs.UnderLaws.{each_under, root_under, target_under}
use Rattle.tsd_model.proofs.ValueLaws.{clash}

gone : (t : Tree) → is_there t ≡ false → t ≡ nothing
gone nothing e = refl
gone (a_file x) e = absurd (cc)
gone (a_dir d es) e = absurd (cc)

-- Where a root's blocks have the same bytes and pairs in another world, and none more is reached there, a tree that is there is there too.
module _ (kind : ShellKind) (w next : World) (root : ℕ) (valid : IsValid w) (then : IsValid next) (size : next.geometry ≡ w.geometry) (primary : root < w.geometry.primaries)
    (bytes : (b : ℕ) → is_under w root b ≡ true → contents next b ≡ contents w b) (pairs : (a b : ℕ) → is_under w root a ≡ true → holds next.pairs a b ≡ holds w.pairs a b) where
  still : root < next.geometry.primaries
  still = subst (λ (g : Geometry). root < g.primaries) (sym size) primary

  pub not_less : (b : ℕ) → is_under w root b ≡ true → is_under next root b ≡ true
  not_less b h = (each_under w root (λ c. (is_under w root c ≡ true) × (is_under next root c ≡ true))
      (root_under w valid.raw root primary, root_under next then.raw root still)
      (λ a c k both. (target_under w valid.raw root primary a c k both.0, target_under next then.raw root still a c (pairs a c both.0 ∙ k) both.1)) b h).1

  pub not_more : (b : ℕ) → is_under next root b ≡ true → is_under w root b ≡ true
  not_more = each_under next root (λ b. is_under w root b ≡ true) (root_under w valid.raw root primary)
      (λ a b h k. target_under w valid.raw root primary a b (sym (pairs a b k) ∙ h) k)

  pub same_where_there : is_there (tree_at kind w root) ≡ true → tree_at kind next root ≡ tree_at kind w root
  same_where_there there =
      let hangs : IsUnder w root (named_at kind w root) = named_is_under kind w root primary there in
      let under : (b : ℕ) → has_number (named_at kind w root).blocks b ≡ true → is_under w root b ≡ true =
      each_named (λ b. is_under w root b ≡ true) root (named_at kind w root).pairs (named_at kind w root).blocks hangs.order (root_under w valid.raw root primary)
      (λ a b h k. target_under w valid.raw root primary a b (hangs.held a b h) k) in
      let kept : Keeps w next (named_at kind w root) = record {
        geometry = size;
        live = λ b h. under_live next then root still b (not_less b (under b h));
        bytes = λ b h. bytes b (under b h);
        pairs = λ a b h. pairs a b (under a (hangs.from a b h)) ∙ hangs.held a b h;
      } in
      (read_from_named kind w next root there kept).tree

-- Two roots that reach no block together: what the other doesn't reach stays.
module _ (w next : World) (root other : ℕ) (valid : IsValid w) (then : IsValid next) (size : next.geometry ≡ w.geometry) (primary : root < w.geometry.primaries) (apart : AreApart w root other) (others : OthersStay other w next) where
  same_bytes : (b : ℕ) → is_under w root b ≡ true → contents next b ≡ contents w b
  same_bytes b h = others.bytes b (under_live w valid root primary b h) (apart b h)

  same_pairs : (a b : ℕ) → is_under w root a ≡ true → holds next.pairs a b ≡ holds w.pairs a b
  same_pairs a b h = others.pairs a b (under_live w valid root primary a h) (apart a h)

  was_under : (b : ℕ) → is_under next root b ≡ true → is_under w root b ≡ true
  was_under = not_more kind.Inode w next root valid then size primary same_bytes same_pairs

  pub still_apart : AreApart next root other
  still_apart b h = let was = was_under b h in others.apart b (under_live w valid root primary b was) (apart b was)

  back_bytes : (b : ℕ) → is_under next root b ≡ true → contents w b ≡ contents next b
  back_bytes b h = sym (same_bytes b (was_under b h))

  back_pairs : (a b : ℕ) → is_under next root a ≡ true → holds w.pairs a b ≡ holds next.pairs a b
  back_pairs a b h = sym (same_pairs a b (was_under a h))

  pub same_tree : (k : ShellKind) → tree_at k next root ≡ tree_at k w root
  same_tree k = elim (is_there (tree_at k w root)) as (λ t. is_there (tree_at k w root) ≡ t → tree_at k next root ≡ tree_at k w root) [
    | true ↦ λ e. same_where_there k w next root valid then size primary same_bytes same_pairs e
    | false ↦ λ e. elim (is_there (tree_at k next root)) as (λ t. is_there (tree_at k next root) ≡ t → tree_at k next root ≡ tree_at k w root) [
      | true ↦ λ h. sym (same_where_there k next w root then valid (sym size) (subst (λ (g : Geometry). root < g.primaries) (sym size) primary) back_bytes back_pairs h)
      | false ↦ λ h. gone (tree_at k next root) h ∙ sym (gone (tree_at k w root) e)
    ] refl
  ] refl

-- which side is first doesn't count
pub apart_back : (w : World) (root other : ℕ) → AreApart w root other → AreApart w other root
apart_back w root other apart b h = elim (is_under w root b) as (λ t. is_under w root b ≡ t → is_under w root b ≡ false) [
  | true ↦ λ e. absurd (clash (is_under w other b) h (apart b e))
  | false ↦ λ e. e
] refl
