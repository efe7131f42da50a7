-- A chain in the making goes on, a request at a time.
use Rattle.std.proofs.Common.{◌≡◌, ℕ, ◌<◌, Bool, true, false, not, ◌||◌, ◌==◌, nat_lt, List, [], ◌∷◌, ◌++◌, length, refl, sym, ◌∙◌, ap, subst, inl, inr}
use Rattle.chain_changes.proofs.Common.{and_parts, and_from, or_cases, or_left, or_right, eq-eqb, eqb-true, false_from_ne_true, is_some, is_none, block_len, World, contents, is_live, is_free, has_number, holds, is_pair, filled, with_new_blocks, written, contents-other, live-with_contents, free_may, live-new_blocks, is_there, links, chain_tree, Named, named_at, is_under, IsUnder, Keeps, read_from_named, named_is_under, outside_twice, Client, write_by, alloc_by, Leads, clash_free_live, others_same, contents_off, lives_new, holds_new, Stage, Making, IsAside}
use Rattle.fs_trees.specs.declared.ask.ShellKind.TheVariants as kind
use Rattle.fs_laws.specs.Reading.{SameTree}
use Rattle.fs_laws.proofs.NamedLaws.{each_named}
use Rattle.fs_laws.proofs.UnderLaws.{each_under, root_under, target_under}
use Rattle.chain_changes.proofs.LinkLaws.{last_of, links-more, along, along_last, in_more, not_in_more, apart_more}
use Rattle.tsd_model.proofs.ValueLaws.{clash}

both_keep : (n : Named) (first w next : World) → Keeps first w n → Keeps w next n → Keeps first next n
both_keep n first w next one two = record {
  geometry = two.geometry ∙ one.geometry;
  live = two.live;
  bytes = λ b h. two.bytes b h ∙ one.bytes b h;
  pairs = two.pairs;
}

module _ (root : ℕ) (first : World) (source : ℕ) (at : Stage root first source) where
  abbrev named : Named
  named = named_at kind.Chain first root

  first_under : IsUnder first root named
  first_under = named_is_under kind.Chain first root at.primary at.there

  -- what is named is reached, and live
  pub named_reached : (b : ℕ) → has_number named.blocks b ≡ true → is_under first root b ≡ true
  named_reached = each_named (λ b. is_under first root b ≡ true) root named.pairs named.blocks first_under.order (root_under first at.valid.raw root at.primary)
      (λ a b h k. target_under first at.valid.raw root at.primary a b (first_under.held a b h) k)

  pub named_live : (b : ℕ) → has_number named.blocks b ≡ true → is_live first b ≡ true
  named_live b h = each_under first root (λ c. is_live first c ≡ true) (at.valid.raw.primaries root at.primary) (λ a c pair k. at.valid.raw.targets a c pair) b (named_reached b h)

  -- ---- at first

  pub making_begins : Making root first source [] first
  making_begins = record {
    valid = at.valid;
    geometry = refl;
    version = refl;
    records = refl;
    others = others_same root first;
    keeps = record { geometry = refl; live = named_live; bytes = λ b h. refl; pairs = first_under.held };
    free = λ b h. absurd (cc);
    once = refl;
    lives = λ b h. absurd (cc);
    bytes = λ b h. refl;
    pairs = λ a b. or_none (holds first.pairs a b);
  }
    where
      or_none : (t : Bool) → t ≡ (t || false)
      or_none true = refl
      or_none false = refl

  -- ---- so far

  module _ (blocks : List ℕ) (w : World) (m : Making root first source blocks w) where
    same_named : SameTree kind.Chain root first w
    same_named = read_from_named kind.Chain first w root at.there m.keeps

    pub tree_same : chain_tree w root ≡ chain_tree first root
    tree_same = same_named.tree

    pub there_now : is_there (chain_tree w root) ≡ true
    there_now = ap is_there same_named.tree ∙ at.there

    pub named_same : named_at kind.Chain w root ≡ named_at kind.Chain first root
    named_same = same_named.named

    pub primary_now : root < w.geometry.primaries
    primary_now = subst (λ g. root < g.primaries) (sym m.geometry) at.primary

    pub still_held : (a b : ℕ) → holds first.pairs a b ≡ true → holds w.pairs a b ≡ true
    still_held a b h = m.pairs a b ∙ or_left (holds first.pairs a b) _ h

    pub link_held : (a b : ℕ) → holds (links (source ∷ blocks)) a b ≡ true → holds w.pairs a b ≡ true
    link_held a b h = m.pairs a b ∙ or_right (holds first.pairs a b) _ h

    pub under_still : (b : ℕ) → is_under first root b ≡ true → is_under w root b ≡ true
    under_still = each_under first root (λ b. is_under w root b ≡ true) (root_under w m.valid.raw root primary_now) (λ a b h k. target_under w m.valid.raw root primary_now a b (still_held a b h) k)

    pub source_under : is_under w root source ≡ true
    source_under = under_still source at.reached

    pub new_under : (b : ℕ) → has_number blocks b ≡ true → is_under w root b ≡ true
    new_under = along (λ b. is_under w root b ≡ true) source blocks source_under (λ a b h k. target_under w m.valid.raw root primary_now a b (link_held a b h) k)

    pub last_under : is_under w root (last_of source blocks) ≡ true
    last_under = along_last (λ b. is_under w root b ≡ true) source blocks source_under new_under

    -- a new block isn't named
    pub new_unnamed : (b : ℕ) → has_number blocks b ≡ true → has_number named.blocks b ≡ false
    new_unnamed b h = false_from_ne_true (has_number named.blocks b) (λ k. clash_free_live first b (m.free b h) (named_live b k))

    now_under : IsUnder w root named
    now_under = subst (IsUnder w root) named_same (named_is_under kind.Chain w root primary_now there_now)

    -- what was live and isn't new
    pub was_live : (b : ℕ) → has_number blocks b ≡ false → is_live w b ≡ true → is_live first b ≡ true
    was_live b off h = ap is_some (sym (m.bytes b off)) ∙ h

    pub aside_now : IsAside root first w
    aside_now = record { tree = tree_same; valid = m.valid; geometry = m.geometry; others = m.others }

    long : length w.blocks ≡ length first.blocks
    long = m.valid.raw.sized.each_block ∙ (ap (λ g. g.blocks) m.geometry ∙ sym at.valid.raw.sized.each_block)

    -- ---- a new block is written

    module _ (c : Client) (b : ℕ) (x : List ℕ) (new : has_number blocks b ≡ true) (leads : Leads w (write_by c b x) (written w b x)) where
      pub making_written : Making root first source blocks (written w b x)
      making_written = record {
        valid = leads.valid;
        geometry = leads.geometry ∙ m.geometry;
        version = m.version;
        records = m.records;
        others = outside_twice root first w (written w b x) m.others (leads.others root primary_now (and_from (is_under w root b) true (new_under b new) refl));
        keeps = both_keep named first w (written w b x) m.keeps (leads.keeps root named now_under (ap not (new_unnamed b new)));
        free = m.free;
        once = m.once;
        lives = λ k h. live-with_contents w b k (filled (block_len w.geometry) x) (m.lives k h);
        bytes = λ k off. contents-other w b k (filled (block_len w.geometry) x) (λ e. clash (has_number blocks b) new (ap (has_number blocks) (sym e) ∙ off)) ∙ m.bytes k off;
        pairs = m.pairs;
      }

    -- ---- one block more

    module _ (c : Client) (d : ℕ) (vacant : is_free w d ≡ true) (leads : Leads w (alloc_by c (last_of source blocks) 1) (with_new_blocks w (last_of source blocks) (d ∷ []))) where
      abbrev more : World
      more = with_new_blocks w (last_of source blocks) (d ∷ [])

      off_blocks : has_number blocks d ≡ false
      off_blocks = false_from_ne_true (has_number blocks d) (λ h. clash_free_live w d vacant (m.lives d h))

      was_free : is_free first d ≡ true
      was_free =
          let parts = and_parts (nat_lt d (length w.blocks)) (is_none (contents w d)) vacant in
          and_from (nat_lt d (length first.blocks)) (is_none (contents first d)) (ap (nat_lt d) (sym long) ∙ parts.0) (ap is_none (sym (m.bytes d off_blocks)) ∙ parts.1)

      inside : (b : ℕ) → has_number (d ∷ []) b ≡ true → b < length w.blocks
      inside b h = elim (or_cases (d == b) false h) [ inl same ↦ subst (λ k. k < length w.blocks) (eqb-true d b same) (free_may w m.valid.raw d vacant).0 | inr never ↦ absurd (cc) ]

      pub making_grows : Making root first source (blocks ++ d ∷ []) (with_new_blocks w (last_of source blocks) (d ∷ []))
      making_grows = record {
        valid = leads.valid;
        geometry = leads.geometry ∙ m.geometry;
        version = m.version;
        records = m.records;
        others = outside_twice root first w more m.others (leads.others root primary_now (and_from (is_under w root (last_of source blocks)) true last_under refl));
        keeps = both_keep named first w more m.keeps (leads.keeps root named now_under refl);
        free = λ b h. elim (in_more blocks d b h) [ inl was ↦ m.free b was | inr same ↦ subst (λ k. is_free first k ≡ true) same was_free ];
        once = apart_more blocks d m.once off_blocks;
        lives = λ b h. elim (in_more blocks d b h) [
          | inl was ↦ live-new_blocks (last_of source blocks) (d ∷ []) w b (m.lives b was)
          | inr same ↦ lives_new (last_of source blocks) (d ∷ []) w inside b (or_left (d == b) false (eq-eqb d b same))
        ];
        bytes = λ b off.
            let apart = not_in_more blocks d b off in
            contents_off (last_of source blocks) (d ∷ []) w b apart.1 ∙ m.bytes b apart.0;
        pairs = λ a b.
            holds_new (last_of source blocks) (d ∷ []) w a b
            ∙ (ap (λ t. t || (is_pair a b (last_of source blocks, d) || false)) (m.pairs a b)
            ∙ (turned (holds first.pairs a b) (holds (links (source ∷ blocks)) a b) (is_pair a b (last_of source blocks, d))
            ∙ ap (λ t. holds first.pairs a b || t) (sym (links-more source blocks d a b))));
      }
        where
          turned : (s t u : Bool) → ((s || t) || (u || false)) ≡ (s || (t || u))
          turned true t u = refl
          turned false true u = refl
          turned false false true = refl
          turned false false false = refl
