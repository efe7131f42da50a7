-- A chain that is read cluster by cluster.
use Rattle.std.proofs.Common.{◌≡◌, ℕ, ◌≤◌, ◌<◌, true, false, ◌&&◌, ◌==◌, nat_lt, nat_le, List, [], ◌∷◌, ◌++◌, length, refl, sym, ◌∙◌, ap, subst, arith, append_assoc, length-append, Option, Some, None}
use Rattle.chain_reading.proofs.Common.{and_parts, and_from, or_left, or_right, eq-eqb, eqb-true, le-leb, option_map_or, block_len, World, holds, is_pair, Cluster, bytes_room, Link, cluster_at, blocks_of, links, is_filled, HoldsWrite, ways_lead_on, DiskView, state_of, Stays, Client, shown_at, Looked, IsFrom, has_part, IsAhead}
use Rattle.tsd_model.proofs.ValueLaws.{some_same}

abbrev pub link_of : ℕ → Cluster → Link
link_of b cl = record { block = b; cluster = cl }

-- of these links those before a block were read, and the others are ahead
pub record IsWalked (c : Client) (now : DiskView) (ls before : List Link) (b : ℕ) : Type 0 where
  pub rest : List Link
  pub parts : ls ≡ before ++ rest
  pub ahead : IsAhead c now b rest

pub walk_starts : (c : Client) (v : DiskView) (b : ℕ) (ls : List Link) → IsAhead c v b ls → IsWalked c v ls [] b
walk_starts c v b ls ahead = record { rest = ls; parts = refl; ahead = ahead }

-- what is ahead begins with the block's cluster
pub first_link : (w : World) (b : ℕ) (ls : List Link) (cl : Cluster) → IsFrom w (Some b) ls → cluster_at w b ≡ Some cl → (ks : List Link) × (ls ≡ link_of b cl ∷ ks) × IsFrom w cl.next ks
first_link w b [] cl is at = absurd (cc)
first_link w b (l ∷ ls) cl is at =
    let here : b ≡ l.block = cc in
    let same : Some cl ≡ Some l.cluster = sym at ∙ (ap (cluster_at w) here ∙ is.1) in
    let cluster : cl ≡ l.cluster = some_same same in
    (ls, ap (λ x. record { block = x; cluster = l.cluster } ∷ ls) (sym here) ∙ ap (λ x. record { block = b; cluster = x } ∷ ls) (sym cluster), ap_from cluster is.2)
  where
    ap_from : {x y : Cluster} → x ≡ y → IsFrom w y.next ls → IsFrom w x.next ls
    ap_from e h = subst (λ z. IsFrom w z.next ls) (sym e) h

from_same_world : (w next : World) (o : Option ℕ) (ls : List Link) → next ≡ w → IsFrom w o ls → IsFrom next o ls
from_same_world w next o ls e is = subst (λ u. IsFrom u o ls) (sym e) is

-- the walk goes on to the next block
pub walk_on : (c : Client) (now new : DiskView) (ls before : List Link) (b d : ℕ) (cl : Cluster) → IsWalked c now ls before b → cluster_at now.world b ≡ Some cl → cl.next ≡ Some d
    → Looked now new → Stays now new → HoldsWrite (state_of new) c.session b → IsWalked c new ls (before ++ link_of b cl ∷ []) d
walk_on c now new ls before b d cl walked at next seen stays held =
    let first = first_link now.world b walked.rest cl walked.ahead.rest at in
    by_second first.0 first.1 (subst (λ o. IsFrom now.world o first.0) next first.2)
  where
    by_second : (ks : List Link) → walked.rest ≡ link_of b cl ∷ ks → IsFrom now.world (Some d) ks → IsWalked c new ls (before ++ link_of b cl ∷ []) d
    by_second [] all is = absurd (cc)
    by_second (k ∷ ks) all is =
        let here : d ≡ k.block = cc in
        let linked : (x y : ℕ) → holds (links (blocks_of (link_of b cl ∷ k ∷ ks))) x y ≡ true → holds now.world.pairs x y ≡ true = λ x y h. walked.ahead.held x y (ap (λ xs. holds (links (blocks_of xs)) x y) all ∙ h) in
        let pair : holds now.world.pairs b d ≡ true = linked b d (or_left (is_pair b d (b, k.block)) _ (and_from (b == b) (k.block == d) (eq-eqb b b refl) (eq-eqb k.block d (sym here)))) in
        let new_pair : holds new.world.pairs b d ≡ true = ap (λ w. holds w.pairs b d) seen.world ∙ pair in
        record {
          rest = k ∷ ks;
          parts = walked.parts ∙ (ap (λ xs. before ++ xs) all ∙ sym (append_assoc before (link_of b cl ∷ []) (k ∷ ks)));
          ahead = record {
            rest = from_same_world now.world new.world (Some d) (k ∷ ks) seen.world is;
            held = λ x y h. ap (λ w. holds w.pairs x y) seen.world ∙ linked x y (or_right (is_pair x y (b, k.block)) _ h);
            may = record {
              number = walked.ahead.may.number;
              begun = stays.sessions c.session ∙ walked.ahead.may.begun;
              live = seen.valid.valid.raw.targets b d new_pair;
              attains = ways_lead_on (state_of new) c.session b d (shown_at c d) (seen.valid.valid.raw.apart b d new_pair) new_pair held;
            };
          };
        }

-- the walk is at its end
pub walk_ends : (c : Client) (now : DiskView) (ls before : List Link) (b : ℕ) (cl : Cluster) → IsWalked c now ls before b → cluster_at now.world b ≡ Some cl → cl.next ≡ None → ls ≡ before ++ link_of b cl ∷ []
walk_ends c now ls before b cl walked at next =
    let first = first_link now.world b walked.rest cl walked.ahead.rest at in
    by_rest first.0 first.1 (subst (λ o. IsFrom now.world o first.0) next first.2)
  where
    by_rest : (ks : List Link) → walked.rest ≡ link_of b cl ∷ ks → IsFrom now.world None ks → ls ≡ before ++ link_of b cl ∷ []
    by_rest [] all is = walked.parts ∙ ap (λ xs. before ++ xs) all
    by_rest (k ∷ ks) all is = absurd (cc)

-- something is ahead
pub one_more : (c : Client) (now : DiskView) (ls before : List Link) (b : ℕ) → IsWalked c now ls before b → length before < length ls
one_more c now ls before b walked = by_rest walked.rest walked.parts walked.ahead.rest
  where
    by_rest : (ks : List Link) → ls ≡ before ++ ks → IsFrom now.world (Some b) ks → length before < length ls
    by_rest [] e is = absurd (cc)
    by_rest (k ∷ ks) e is = let size = ap length e in let sum = length-append before (k ∷ ks) in omega (arith, size, sum)

-- ---- a file's clusters

filled_part : (room : ℕ) (before : List Link) (l : Link) (ks : List Link) → is_filled room (before ++ l ∷ ks) ≡ true → nat_le l.cluster.used room ≡ true
filled_part room [] l [] h = h
filled_part room [] l (k ∷ ks) h = let parts = and_parts ((l.cluster.used == room) && nat_lt 0 k.cluster.used) (is_filled room (k ∷ ks)) h in le-leb l.cluster.used room (same_le l.cluster.used room (eqb-true l.cluster.used room (and_parts (l.cluster.used == room) (nat_lt 0 k.cluster.used) parts.0).0))
  where
    same_le : (m n : ℕ) → m ≡ n → m ≤ n
    same_le m n e = omega arith
filled_part room (b ∷ []) l ks h = let parts = and_parts ((b.cluster.used == room) && nat_lt 0 l.cluster.used) (is_filled room (l ∷ ks)) h in filled_part room [] l ks parts.1
filled_part room (b ∷ d ∷ before) l ks h = let parts = and_parts ((b.cluster.used == room) && nat_lt 0 d.cluster.used) (is_filled room (d ∷ (before ++ l ∷ ks))) h in filled_part room (d ∷ before) l ks parts.1

pub part_there : (c : Client) (now : DiskView) (ls before : List Link) (b : ℕ) → IsWalked c now ls before b → is_filled (bytes_room (block_len now.world.geometry)) ls ≡ true → has_part now.world b ≡ true
part_there c now ls before b walked filled = by_rest walked.rest walked.parts walked.ahead.rest
  where
    by_rest : (ks : List Link) → ls ≡ before ++ ks → IsFrom now.world (Some b) ks → has_part now.world b ≡ true
    by_rest [] e is = absurd (cc)
    by_rest (k ∷ ks) e is =
        let here : b ≡ k.block = cc in
        let at : cluster_at now.world b ≡ Some k.cluster = ap (cluster_at now.world) here ∙ is.1 in
        ap (λ o. option_map_or (λ x. nat_le x.used (bytes_room (block_len now.world.geometry))) o false) at
        ∙ filled_part (bytes_room (block_len now.world.geometry)) before k ks (ap (is_filled (bytes_room (block_len now.world.geometry))) (sym e) ∙ filled)
