-- Where a look comes to nothing, the chains aren't right.
use Rattle.std.proofs.Common.{◌≡◌, ℕ, zero, suc, ◌+◌, ◌≤◌, Bool, true, false, cond, ◌&&◌, ◌||◌, ◌==◌, nat_lt, nat_le, List, [], ◌∷◌, ◌++◌, length, refl, sym, ◌∙◌, ap, subst, arith, inl, inr, Option, Some, None}
use Rattle.chain_reading.proofs.Common.{and_parts, and_from, or_cases, or_left, or_right, eq-eqb, eqb-true, le-leb, is_none, option_and_then, block_len, World, has_number, are_apart, holds, is_pair, only_if, Entry, Link, blocks_of, links, is_filled, ChainFile, names_max, cluster_at, held_left, held_right, in_append, times, times-append, none_times, times_apart, are_held, each_in, next_blocks, entry_blocks, IsFrom, PlacedEntry, AreFiles, placed, AreEntries, file_blocks, file_pairs, part_seen, page_seen, go_on, file_by, file_from, files_from, page_on, directory_by, directory_from}
use Rattle.chain_reading.proofs.ChainedLaws.{chain_from, file_from as file_read, files_split}
use Rattle.chain_reading.proofs.ChangeLaws.{file_blocks-append, file_pairs-append}
use Rattle.chain_reading.proofs.SeenLaws.{room_of, PartIs, is_part, PageIs, is_page}
use Rattle.chain_reading.proofs.RightLaws.{begins_filled, file_right, files_right, as_many}
use Rattle.tsd_model.proofs.ValueLaws.{some_same}

abbrev IsNone : Option (List ℕ) → Type 0
IsNone o = ◌≡◌ {A = Option (List ℕ)} o None

some_not_none : (s : List ℕ) (o : Option (List ℕ)) → o ≡ Some s → IsNone o → ⊥
some_not_none s None e h = cc
some_not_none s (Some t) e h = cc

-- what stands first is counted there
first_times : (d c : ℕ) (bs : List ℕ) → d ≡ c → times c (d ∷ bs) ≡ 1 + times c bs
first_times d c bs e = ap (λ t. cond t 1 0 + times c bs) (eq-eqb d c e)

-- what would be counted twice wasn't come to
not_before : (d b : ℕ) (bs s : List ℕ) (n : ℕ) → d ≡ b → times b (d ∷ bs) ≤ n → n + times b s ≤ 1 → has_number s b ≡ false
not_before d b bs s n e le room = none_times b s (let one = first_times d b bs e in omega (arith, one, le, room))

-- ---- a file

-- a file's clusters from a block on, none of whose blocks was come to
pub record GoodFile (w : World) (first : Bool) (n b : ℕ) (s : List ℕ) (chain : List Link) : Type 0 where
  pub from : IsFrom w (Some b) chain
  pub short : length chain ≤ n
  pub filled : is_filled (room_of w) chain ≡ true
  pub begins : begins_filled first chain ≡ true
  pub held : (x y : ℕ) → holds (links (blocks_of chain)) x y ≡ true → holds w.pairs x y ≡ true
  pub fresh : (c : ℕ) → times c (blocks_of chain) + times c s ≤ 1

pair_is : (b d : ℕ) → is_pair b d (b, d) ≡ true
pair_is b d = and_from (b == b) (d == d) (eq-eqb b b refl) (eq-eqb d d refl)

only_next : (w : World) (b d : ℕ) → holds w.pairs b d ≡ true → are_held w b (d ∷ []) ≡ true
only_next w b d h = and_from (holds w.pairs b d) true h refl

full_before : (room : ℕ) (l m : Link) (ls : List Link) → is_filled room (l ∷ m ∷ ls) ≡ true → ((l.cluster.used == room) ≡ true) × (nat_lt 0 m.cluster.used ≡ true) × (is_filled room (m ∷ ls) ≡ true)
full_before room l m ls h =
    let outer = and_parts ((l.cluster.used == room) && nat_lt 0 m.cluster.used) (is_filled room (m ∷ ls)) h in
    let inner = and_parts (l.cluster.used == room) (nat_lt 0 m.cluster.used) outer.0 in
    (inner.0, inner.1, outer.1)

same_le : (m n : ℕ) → m ≡ n → m ≤ n
same_le m n e = omega arith

-- its first cluster is right by itself
own_part : (w : World) (first : Bool) (n b : ℕ) (s : List ℕ) (l : Link) (ls : List Link) → GoodFile w first n b s (l ∷ ls) → PartIs w first b l.cluster
own_part w first n b s l [] good =
    let here : b ≡ l.block = some_same good.from.0 in
    record {
      at = ap (cluster_at w) here ∙ good.from.1;
      fits = good.filled;
      filled = and_from (first || nat_lt 0 l.cluster.used) (is_none l.cluster.next || (l.cluster.used == room_of w)) good.begins (ap (λ o. is_none o || (l.cluster.used == room_of w)) good.from.2);
      held = ap (λ o. are_held w b (next_blocks o)) good.from.2;
    }
own_part w first n b s l (m ∷ ls) good =
    let here : b ≡ l.block = some_same good.from.0 in
    let full = full_before (room_of w) l m ls good.filled in
    let pair : holds w.pairs b m.block ≡ true = good.held b m.block (or_left (is_pair b m.block (l.block, m.block)) _ (ap (λ x. is_pair b m.block (x, m.block)) (sym here) ∙ pair_is b m.block)) in
    record {
      at = ap (cluster_at w) here ∙ good.from.1;
      fits = le-leb l.cluster.used (room_of w) (same_le l.cluster.used (room_of w) (eqb-true l.cluster.used (room_of w) full.0));
      filled = and_from (first || nat_lt 0 l.cluster.used) (is_none l.cluster.next || (l.cluster.used == room_of w)) good.begins (or_right (is_none l.cluster.next) _ full.0);
      held = ap (λ o. are_held w b (next_blocks o)) good.from.2.0 ∙ only_next w b m.block pair;
    }

-- what follows it
file_later : (w : World) (first : Bool) (n b : ℕ) (s : List ℕ) (l m : Link) (ls : List Link) → GoodFile w first (suc n) b s (l ∷ m ∷ ls) → GoodFile w false n m.block (b ∷ s) (m ∷ ls)
file_later w first n b s l m ls good =
    let here : b ≡ l.block = some_same good.from.0 in
    let full = full_before (room_of w) l m ls good.filled in
    record {
      from = (refl, good.from.2.1, good.from.2.2);
      short = let k = good.short in omega (arith, k);
      filled = full.2;
      begins = full.1;
      held = λ x y k. good.held x y (or_right (is_pair x y (l.block, m.block)) _ k);
      fresh = λ c. let k = good.fresh c in let same : ◌≡◌ {A = ℕ} (cond (l.block == c) 1 0) (cond (b == c) 1 0) = ap (λ x. cond (x == c) 1 0) (sym here) in omega (arith, k, same);
    }

pub file_wrong : (w : World) (first : Bool) (n b : ℕ) (s : List ℕ) (chain : List Link) → GoodFile w first n b s chain → IsNone (file_from w n first b s) → ⊥
file_wrong w first n b s [] good h = let e = good.from in cc
file_wrong w first zero b s (l ∷ ls) good h = let e = good.short in absurd (omega (arith, e))
file_wrong w first (suc n) b s (l ∷ ls) good h = by_rest ls good (λ m ms next k. file_wrong w false n m.block (b ∷ s) (m ∷ ms) next k)
  where
    new : (ks : List Link) → GoodFile w first (suc n) b s (l ∷ ks) → has_number s b ≡ false
    new ks g = not_before l.block b (blocks_of ks) s (times b (blocks_of (l ∷ ks))) (sym (some_same g.from.0)) (omega arith) (g.fresh b)

    inside : (ks : List Link) → GoodFile w first (suc n) b s (l ∷ ks) → go_on (λ d t. file_from w n false d t) (b ∷ s) l.cluster.next ≡ file_from w (suc n) first b s
    inside ks g = sym (ap (λ t. cond t None (file_by (λ d t. file_from w n false d t) (b ∷ s) (part_seen w first b))) (new ks g) ∙ ap (file_by (λ d t. file_from w n false d t) (b ∷ s)) (is_part w first b l.cluster (own_part w first (suc n) b s l ks g)))

    by_rest : (ks : List Link) → GoodFile w first (suc n) b s (l ∷ ks) → ((m : Link) (ms : List Link) → GoodFile w false n m.block (b ∷ s) (m ∷ ms) → IsNone (file_from w n false m.block (b ∷ s)) → ⊥) → ⊥
    by_rest [] g later = some_not_none (b ∷ s) (file_from w (suc n) first b s) (sym (inside [] g) ∙ ap (go_on (λ d t. file_from w n false d t) (b ∷ s)) g.from.2) h
    by_rest (m ∷ ms) g later =
        later m ms (file_later w first n b s l m ms g) (sym (ap (go_on (λ d t. file_from w n false d t) (b ∷ s)) g.from.2.0) ∙ (inside (m ∷ ms) g ∙ h))

-- ---- the files of entries

-- an entry has one file
pub files_unique : (w : World) (ps : List PlacedEntry) (fs gs : List ChainFile) → AreFiles w ps fs → AreFiles w ps gs → fs ≡ gs
files_unique w [] [] [] a b = refl
files_unique w [] [] (g ∷ gs) a b = absurd b
files_unique w [] (f ∷ fs) gs a b = absurd a
files_unique w (p ∷ ps) [] gs a b = absurd a
files_unique w (p ∷ ps) (f ∷ fs) [] a b = absurd b
files_unique w (p ∷ ps) (f ∷ fs) (g ∷ gs) a b =
    ap (λ x. x ∷ fs) (some_same (sym (file_read w p.0 p.1 f a.0) ∙ file_read w p.0 p.1 g b.0)) ∙ ap (λ xs. g ∷ xs) (files_unique w ps fs gs a.1 b.1)

pub record GoodFiles (w : World) (from : ℕ) (es : List Entry) (s : List ℕ) (fs : List ChainFile) : Type 0 where
  pub are : AreFiles w (placed from es) fs
  pub held : (x y : ℕ) → holds (file_pairs fs) x y ≡ true → holds w.pairs x y ≡ true
  pub fresh : (c : ℕ) → times c (file_blocks fs) + times c s ≤ 1

begins_first : (ls : List Link) → begins_filled true ls ≡ true
begins_first [] = refl
begins_first (l ∷ ls) = refl

links_behind : (b : ℕ) (bs : List ℕ) (x y : ℕ) → holds (links bs) x y ≡ true → holds (links (b ∷ bs)) x y ≡ true
links_behind b [] x y h = h
links_behind b (c ∷ bs) x y h = or_right (is_pair x y (b, c)) _ h

module _ (w : World) (from : ℕ) (e : Entry) (es : List Entry) (s : List ℕ) (f : ChainFile) (fs : List ChainFile) (good : GoodFiles w from (e ∷ es) s (f ∷ fs)) where
  first_good : GoodFile w true w.geometry.blocks e.block s f.chain
  first_good = record {
    from = good.are.0.chain.links;
    short = good.are.0.chain.short;
    filled = good.are.0.filled;
    begins = begins_first f.chain;
    held = λ x y k. good.held x y (held_left (links (f.from ∷ blocks_of f.chain)) (file_pairs fs) x y (links_behind f.from (blocks_of f.chain) x y k));
    fresh = λ c. let k = good.fresh c in let all = times-append c (blocks_of f.chain) (file_blocks fs) in omega (arith, k, all);
  }

  others_good : (u : List ℕ) → file_from w w.geometry.blocks true e.block s ≡ Some u → GoodFiles w from es u fs
  others_good u h =
      let one = file_right w true w.geometry.blocks e.block s u h in
      let same : one.chain ≡ f.chain = some_same (sym (chain_from w e.block one.chain (record { links = one.from; short = one.short })) ∙ chain_from w e.block f.chain good.are.0.chain) in
      record {
        are = good.are.1;
        held = λ x y k. good.held x y (held_right (links (f.from ∷ blocks_of f.chain)) (file_pairs fs) x y k);
        fresh = λ c.
            let k = good.fresh c in
            let all = times-append c (blocks_of f.chain) (file_blocks fs) in
            let come = one.adds.count c ∙ ap (λ ls. times c (blocks_of ls) + times c s) same in
            omega (arith, k, all, come);
      }

pub files_wrong : (w : World) (from : ℕ) (es : List Entry) (s : List ℕ) (fs : List ChainFile) → GoodFiles w from es s fs → IsNone (files_from w (entry_blocks es) s) → ⊥
files_wrong w from [] s fs good h = cc
files_wrong w from (e ∷ es) s [] good h = good.are
files_wrong w from (e ∷ es) s (f ∷ fs) good h = by_first (file_from w w.geometry.blocks true e.block s) refl h (λ u next k. files_wrong w from es u fs next k)
  where
    by_first : (o : Option (List ℕ)) → file_from w w.geometry.blocks true e.block s ≡ o → IsNone (option_and_then (λ t. files_from w (entry_blocks es) t) o) → ((u : List ℕ) → GoodFiles w from es u fs → IsNone (files_from w (entry_blocks es) u) → ⊥) → ⊥
    by_first None is k later = file_wrong w true w.geometry.blocks e.block s f.chain (first_good w from e es s f fs good) is
    by_first (Some u) is k later = later u (others_good w from e es s f fs good u is) k

-- ---- the directory

pub record GoodDirectory (w : World) (n b count : ℕ) (s : List ℕ) (chain : List Link) (ps : List PlacedEntry) (fs : List ChainFile) : Type 0 where
  pub from : IsFrom w (Some b) chain
  pub short : length chain ≤ n
  pub listed : AreEntries (block_len w.geometry) chain ps
  pub are : AreFiles w ps fs
  pub linked : (x y : ℕ) → holds (links (blocks_of chain)) x y ≡ true → holds w.pairs x y ≡ true
  pub held : (x y : ℕ) → holds (file_pairs fs) x y ≡ true → holds w.pairs x y ≡ true
  pub fresh : (c : ℕ) → (times c (blocks_of chain) + times c (file_blocks fs)) + times c s ≤ 1
  pub few : count + length fs ≤ names_max

-- the next one stands among what follows
next_times : (w : World) (o : Option ℕ) (ls : List Link) (c : ℕ) → IsFrom w o ls → times c (next_blocks o) ≤ times c (blocks_of ls)
next_times w None ls c from = omega arith
next_times w (Some d) [] c from = absurd (cc)
next_times w (Some d) (l ∷ ls) c from = let same : ◌≡◌ {A = ℕ} (cond (d == c) 1 0) (cond (l.block == c) 1 0) = ap (λ x. cond (x == c) 1 0) (some_same from.0) in omega (arith, same)

-- what an entry names stands in its file
entries_times : (w : World) (b : ℕ) (es : List Entry) (fs : List ChainFile) (c : ℕ) → AreFiles w (placed b es) fs → times c (entry_blocks es) ≤ times c (file_blocks fs)
entries_times w b [] fs c are = omega arith
entries_times w b (e ∷ es) [] c are = absurd are
entries_times w b (e ∷ es) (f ∷ fs) c are = by_chain f.chain are.0.chain.links (entries_times w b es fs c are.1)
  where
    by_chain : (ls : List Link) → IsFrom w (Some e.block) ls → times c (entry_blocks es) ≤ times c (file_blocks fs) → times c (entry_blocks (e ∷ es)) ≤ times c (blocks_of ls ++ file_blocks fs)
    by_chain [] from rest = absurd (cc)
    by_chain (l ∷ ls) from rest =
        let same : ◌≡◌ {A = ℕ} (cond (e.block == c) 1 0) (cond (l.block == c) 1 0) = ap (λ x. cond (x == c) 1 0) (some_same from.0) in
        let all = times-append c (blocks_of ls) (file_blocks fs) in
        omega (arith, same, all, rest)

next_pair : (w : World) (b : ℕ) (o : Option ℕ) (ls : List Link) → IsFrom w o ls → ((x y : ℕ) → holds (links (b ∷ blocks_of ls)) x y ≡ true → holds w.pairs x y ≡ true) → (c : ℕ) → has_number (next_blocks o) c ≡ true → holds w.pairs b c ≡ true
next_pair w b None ls from linked c m = absurd (cc)
next_pair w b (Some d) [] from linked c m = absurd (cc)
next_pair w b (Some d) (l ∷ ls) from linked c m = elim (or_cases (d == c) false m) [
  | inl here ↦
      let same : l.block ≡ c = sym (some_same from.0) ∙ eqb-true d c here in
      linked b c (or_left (is_pair b c (b, l.block)) _ (ap (λ x. is_pair b c (b, x)) same ∙ pair_is b c))
  | inr never ↦ absurd (cc)
]

entry_pair : (w : World) (b : ℕ) (es : List Entry) (fs : List ChainFile) → AreFiles w (placed b es) fs → ((x y : ℕ) → holds (file_pairs fs) x y ≡ true → holds w.pairs x y ≡ true) → (c : ℕ) → has_number (entry_blocks es) c ≡ true → holds w.pairs b c ≡ true
entry_pair w b [] fs are held c m = absurd (cc)
entry_pair w b (e ∷ es) [] are held c m = absurd are
entry_pair w b (e ∷ es) (f ∷ fs) are held c m = elim (or_cases (e.block == c) (has_number (entry_blocks es) c) m) [
  | inl here ↦ held b c (held_left (links (f.from ∷ blocks_of f.chain)) (file_pairs fs) b c (by_chain f.chain are.0.chain.links (eqb-true e.block c here)))
  | inr later ↦ entry_pair w b es fs are.1 (λ x y k. held x y (held_right (links (f.from ∷ blocks_of f.chain)) (file_pairs fs) x y k)) c later
]
  where
    by_chain : (ls : List Link) → IsFrom w (Some e.block) ls → e.block ≡ c → holds (links (f.from ∷ blocks_of ls)) b c ≡ true
    by_chain [] from same = absurd (cc)
    by_chain (l ∷ ls) from same =
        let first : l.block ≡ c = sym (some_same from.0) ∙ same in
        or_left (is_pair b c (f.from, l.block)) _ (ap (λ x. is_pair b c (x, l.block)) are.0.from ∙ (ap (λ x. is_pair b c (b, x)) first ∙ pair_is b c))

module _ (w : World) (n b count : ℕ) (s : List ℕ) (l : Link) (ls : List Link) (ps : List PlacedEntry) (fs : List ChainFile) (good : GoodDirectory w (suc n) b count s (l ∷ ls) ps fs) where
  here : b ≡ l.block
  here = some_same good.from.0

  module _ (gs hs : List ChainFile) (all : fs ≡ gs ++ hs) (first : AreFiles w (placed l.block good.listed.0) gs) (second : AreFiles w good.listed.1 hs) where
    own : AreFiles w (placed b good.listed.0) gs
    own = subst (λ x. AreFiles w (placed x good.listed.0) gs) (sym here) first

    counts : (c : ℕ) → (cond (b == c) 1 0 + times c (blocks_of ls)) + (times c (file_blocks gs) + times c (file_blocks hs)) + times c s ≤ 1
    counts c =
        let k = good.fresh c in
        let same : ◌≡◌ {A = ℕ} (cond (l.block == c) 1 0) (cond (b == c) 1 0) = ap (λ x. cond (x == c) 1 0) (sym here) in
        let parts = ap (λ xs. times c (file_blocks xs)) all ∙ (ap (times c) (file_blocks-append gs hs) ∙ times-append c (file_blocks gs) (file_blocks hs)) in
        omega (arith, k, same, parts)

    held_first : (x y : ℕ) → holds (file_pairs gs) x y ≡ true → holds w.pairs x y ≡ true
    held_first x y k = good.held x y (ap (λ xs. holds (file_pairs xs) x y) all ∙ (ap (λ es. holds es x y) (file_pairs-append gs hs) ∙ held_left (file_pairs gs) (file_pairs hs) x y k))

    held_second : (x y : ℕ) → holds (file_pairs hs) x y ≡ true → holds w.pairs x y ≡ true
    held_second x y k = good.held x y (ap (λ xs. holds (file_pairs xs) x y) all ∙ (ap (λ es. holds es x y) (file_pairs-append gs hs) ∙ held_right (file_pairs gs) (file_pairs hs) x y k))

    -- its first cluster is right by itself
    own_page : PageIs w b (record { cluster = l.cluster; entries = good.listed.0 })
    own_page = record {
      at = ap (cluster_at w) here ∙ good.from.1;
      entries = good.listed.2;
      held = and_from (are_apart (next_blocks l.cluster.next ++ entry_blocks good.listed.0)) _
          (times_apart (next_blocks l.cluster.next ++ entry_blocks good.listed.0) (λ c.
          let sum = times-append c (next_blocks l.cluster.next) (entry_blocks good.listed.0) in
          let one = next_times w l.cluster.next ls c good.from.2 in
          let two = entries_times w b good.listed.0 gs c own in
          let k = counts c in
          omega (arith, sum, one, two, k)))
          (each_in (holds w.pairs b) (next_blocks l.cluster.next ++ entry_blocks good.listed.0) (λ c m. elim (in_append (next_blocks l.cluster.next) (entry_blocks good.listed.0) c m) [
            | inl one ↦ next_pair w b l.cluster.next ls good.from.2 (λ x y k. good.linked x y (ap (λ d. holds (links (d ∷ blocks_of ls)) x y) (sym here) ∙ k)) c one
            | inr two ↦ entry_pair w b good.listed.0 gs own held_first c two
          ]));
    }

    new : has_number s b ≡ false
    new = not_before l.block b (blocks_of ls) s (times b (blocks_of (l ∷ ls))) (sym here) (omega arith) (let k = good.fresh b in omega (arith, k))

    files_good : GoodFiles w b good.listed.0 (b ∷ s) gs
    files_good = record { are = own; held = held_first; fresh = λ c. let k = counts c in omega (arith, k) }

    inside : directory_from w (suc n) b count s ≡ page_on (λ d k t. directory_from w n d k t) l.cluster.next (count + length good.listed.0) (files_from w (entry_blocks good.listed.0) (b ∷ s))
    inside =
        ap (λ t. cond t None (directory_by w (λ d k t. directory_from w n d k t) count (b ∷ s) (page_seen w b))) new
        ∙ ap (directory_by w (λ d k t. directory_from w n d k t) count (b ∷ s)) (is_page w b (record { cluster = l.cluster; entries = good.listed.0 }) own_page)

    many : length gs ≡ length good.listed.0
    many = as_many w b good.listed.0 gs own

    few_all : (count + length good.listed.0) + length hs ≤ names_max
    few_all = let k = good.few in let e = ap length all ∙ length_both gs hs in omega (arith, k, e, many)
      where
        length_both : (fs gs : List ChainFile) → length (fs ++ gs) ≡ length fs + length gs
        length_both [] gs = omega arith
        length_both (f ∷ fs) gs = let e = length_both fs gs in omega (arith, e)

    -- what follows it, after its files
    page_later : (u : List ℕ) → files_from w (entry_blocks good.listed.0) (b ∷ s) ≡ Some u → (d : ℕ) → l.cluster.next ≡ Some d → GoodDirectory w n d (count + length good.listed.0) u ls good.listed.1 hs
    page_later u is d next =
        let right = files_right w b good.listed.0 (b ∷ s) u (entry_pair w b good.listed.0 gs own held_first) is in
        let same = files_unique w (placed b good.listed.0) right.files gs right.are own in
        record {
          from = subst (λ o. IsFrom w o ls) next good.from.2;
          short = let k = good.short in omega (arith, k);
          listed = good.listed.4;
          are = second;
          linked = λ x y k. good.linked x y (links_behind l.block (blocks_of ls) x y k);
          held = held_second;
          fresh = λ c.
              let k = counts c in
              let come = right.adds.count c ∙ ap (λ xs. times c (file_blocks xs) + times c (b ∷ s)) same in
              omega (arith, k, come);
          few = few_all;
        }

    by_files : ((d : ℕ) (u : List ℕ) → GoodDirectory w n d (count + length good.listed.0) u ls good.listed.1 hs → IsNone (directory_from w n d (count + length good.listed.0) u) → ⊥)
        → (o : Option (List ℕ)) → files_from w (entry_blocks good.listed.0) (b ∷ s) ≡ o → (next : Option ℕ) → l.cluster.next ≡ next → IsNone (page_on (λ d k t. directory_from w n d k t) next (count + length good.listed.0) o) → ⊥
    by_files later None is next e h = files_wrong w b good.listed.0 (b ∷ s) gs files_good is
    by_files later (Some u) is None e h =
        some_not_none u (only_if (nat_le (count + length good.listed.0) names_max) (λ _. Some u))
        (ap (λ t. only_if t (λ _. Some u)) (le-leb (count + length good.listed.0) names_max (let k = few_all in omega (arith, k)))) h
    by_files later (Some u) is (Some d) e h = later d u (page_later u is d e) h

pub directory_wrong : (w : World) (n b count : ℕ) (s : List ℕ) (chain : List Link) (ps : List PlacedEntry) (fs : List ChainFile) → GoodDirectory w n b count s chain ps fs → IsNone (directory_from w n b count s) → ⊥
directory_wrong w n b count s [] ps fs good h = let e = good.from in cc
directory_wrong w zero b count s (l ∷ ls) ps fs good h = let e = good.short in absurd (omega (arith, e))
directory_wrong w (suc n) b count s (l ∷ ls) ps fs good h =
    let parts = files_split w (placed l.block good.listed.0) good.listed.1 fs (subst (λ xs. AreFiles w xs fs) good.listed.3 good.are) in
    by_files w n b count s l ls ps fs good parts.0 parts.1 parts.2 parts.3 parts.4 (λ d u next k. directory_wrong w n d (count + length good.listed.0) u ls good.listed.1 parts.1 next k)
    (files_from w (entry_blocks good.listed.0) (b ∷ s)) refl l.cluster.next refl (sym (inside w n b count s l ls ps fs good parts.0 parts.1 parts.2 parts.3 parts.4) ∙ h)
