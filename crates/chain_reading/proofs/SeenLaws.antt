-- A cluster that is right by itself.
use Rattle.std.proofs.Common.{◌≡◌, ℕ, ◌≤◌, Bool, true, false, ◌&&◌, nat_le, List, refl, sym, ◌∙◌, ap, subst, Option, Some, None}
use Rattle.chain_reading.proofs.Common.{and_parts, and_from, le-leb, IfSome, IfNone, option_and_then, option_map_or, block_len, World, only_if, Entry, Cluster, entries_of, bytes_room, cluster_at, are_held, clash, is_false, next_blocks, cluster_of, block_len_of, part_cluster, entries_at, has_part, IsPage, IsPartOfRoot, Page, is_part_filled, is_part_right, if_part, part_seen, ListedCluster, blocks_listed, if_page, page_of, page_seen, listed_in}
use Rattle.chain_reading.specs.declared.walking.Part.{Part}
use Rattle.chain_reading.proofs.ListLaws.{own_entries}

abbrev pub room_of : World → ℕ
room_of w = bytes_room (block_len w.geometry)

-- a test that is passed
pub passed : {X : Type 0} (t : Bool) (x y : X) → only_if t (λ _. Some x) ≡ Some y → (t ≡ true) × (x ≡ y)
passed true x y h = (refl, cc)
passed false x y h = absurd (cc)

-- ---- of a file

pub record PartIs (w : World) (first : Bool) (b : ℕ) (c : Cluster) : Type 0 where
  pub at : cluster_at w b ≡ Some c
  pub fits : nat_le c.used (room_of w) ≡ true
  pub filled : is_part_filled (room_of w) first c ≡ true
  pub held : are_held w b (next_blocks c.next) ≡ true

pub part_is : (w : World) (first : Bool) (b : ℕ) (c : Cluster) → part_seen w first b ≡ Some c → PartIs w first b c
part_is w first b c h = by_cluster (cluster_at w b) refl h
  where
    by_cluster : (o : Option Cluster) → cluster_at w b ≡ o → option_and_then (if_part w first b) o ≡ Some c → PartIs w first b c
    by_cluster None at k = absurd (cc)
    by_cluster (Some d) at k =
        let p = passed (is_part_right w first b d) d c k in
        let right : is_part_right w first b c ≡ true = ap (is_part_right w first b) (sym p.1) ∙ p.0 in
        let two = and_parts (nat_le c.used (room_of w) && is_part_filled (room_of w) first c) (are_held w b (next_blocks c.next)) right in
        let one = and_parts (nat_le c.used (room_of w)) (is_part_filled (room_of w) first c) two.0 in
        record { at = at ∙ ap (λ x. Some x) p.1; fits = one.0; filled = one.1; held = two.1 }

right_part : (w : World) (first : Bool) (b : ℕ) (c : Cluster) → PartIs w first b c → is_part_right w first b c ≡ true
right_part w first b c is =
    and_from (nat_le c.used (room_of w) && is_part_filled (room_of w) first c) (are_held w b (next_blocks c.next))
    (and_from (nat_le c.used (room_of w)) (is_part_filled (room_of w) first c) is.fits is.filled) is.held

pub is_part : (w : World) (first : Bool) (b : ℕ) (c : Cluster) → PartIs w first b c → part_seen w first b ≡ Some c
is_part w first b c is = ap (option_and_then (if_part w first b)) is.at ∙ ap (λ t. only_if t (λ _. Some c)) (right_part w first b c is)

-- what isn't right isn't seen
pub no_part : (w : World) (first : Bool) (b : ℕ) → has_part w b ≡ false → ◌≡◌ {A = Option Cluster} (part_seen w first b) None
no_part w first b none = by_cluster (cluster_at w b) none
  where
    by_cluster : (o : Option Cluster) → option_map_or (λ c. nat_le c.used (room_of w)) o false ≡ false → ◌≡◌ {A = Option Cluster} (option_and_then (if_part w first b) o) None
    by_cluster None e = refl
    by_cluster (Some d) e = ap (λ t. only_if ((t && is_part_filled (room_of w) first d) && are_held w b (next_blocks d.next)) (λ _. Some d)) e

module _ (w : World) (first : Bool) (b : ℕ) (c : Cluster) (at : cluster_at w b ≡ Some c) where
  pub unfilled_part : is_part_filled (room_of w) first c ≡ false → ◌≡◌ {A = Option Cluster} (part_seen w first b) None
  unfilled_part e = ap (option_and_then (if_part w first b)) at
      ∙ ap (λ t. only_if t (λ _. Some c)) (is_false (is_part_right w first b c) (λ h. clash (is_part_filled (room_of w) first c) (filled h) e))
    where
      filled : is_part_right w first b c ≡ true → is_part_filled (room_of w) first c ≡ true
      filled h = (and_parts (nat_le c.used (room_of w)) _ (and_parts (nat_le c.used (room_of w) && is_part_filled (room_of w) first c) (are_held w b (next_blocks c.next)) h).0).1

  pub unheld_part : are_held w b (next_blocks c.next) ≡ false → ◌≡◌ {A = Option Cluster} (part_seen w first b) None
  unheld_part e = ap (option_and_then (if_part w first b)) at
      ∙ ap (λ t. only_if t (λ _. Some c)) (is_false (is_part_right w first b c) (λ h. clash (are_held w b (next_blocks c.next)) (held h) e))
    where
      held : is_part_right w first b c ≡ true → are_held w b (next_blocks c.next) ≡ true
      held h = (and_parts (nat_le c.used (room_of w) && is_part_filled (room_of w) first c) (are_held w b (next_blocks c.next)) h).1

-- ---- of the directory

pub record PageIs (w : World) (b : ℕ) (p : ListedCluster) : Type 0 where
  pub at : cluster_at w b ≡ Some p.cluster
  pub entries : entries_of (block_len w.geometry) p.cluster ≡ Some p.entries
  pub held : are_held w b (blocks_listed p) ≡ true

pub page_is : (w : World) (b : ℕ) (p : ListedCluster) → page_seen w b ≡ Some p → PageIs w b p
page_is w b p h = by_cluster (cluster_at w b) refl h
  where
    by_entries : (c : Cluster) → cluster_at w b ≡ Some c → (o : Option (List Entry)) → entries_of (block_len w.geometry) c ≡ o → option_and_then (λ es. if_page w b (record { cluster = c; entries = es })) o ≡ Some p → PageIs w b p
    by_entries c at None e k = absurd (cc)
    by_entries c at (Some es) e k =
        let q : ListedCluster = record { cluster = c; entries = es } in
        let two = passed (are_held w b (blocks_listed q)) q p k in
        subst (PageIs w b) two.1 (record { at = at; entries = e; held = two.0 })

    by_cluster : (o : Option Cluster) → cluster_at w b ≡ o → option_and_then (page_of w b) o ≡ Some p → PageIs w b p
    by_cluster None at k = absurd (cc)
    by_cluster (Some c) at k = by_entries c at (entries_of (block_len w.geometry) c) refl k

-- by its parts, whatever the test says
page_by : (w : World) (b : ℕ) (p : ListedCluster) → cluster_at w b ≡ Some p.cluster → entries_of (block_len w.geometry) p.cluster ≡ Some p.entries → page_seen w b ≡ if_page w b p
page_by w b p at e = ap (option_and_then (page_of w b)) at ∙ ap (option_and_then (λ es. if_page w b (record { cluster = p.cluster; entries = es }))) e

pub is_page : (w : World) (b : ℕ) (p : ListedCluster) → PageIs w b p → page_seen w b ≡ Some p
is_page w b p is = page_by w b p is.at is.entries ∙ ap (λ t. only_if t (λ _. Some p)) is.held

pub unheld_page : (w : World) (b : ℕ) (p : ListedCluster) → cluster_at w b ≡ Some p.cluster → entries_of (block_len w.geometry) p.cluster ≡ Some p.entries → are_held w b (blocks_listed p) ≡ false → ◌≡◌ {A = Option ListedCluster} (page_seen w b) None
unheld_page w b p at e not_held = page_by w b p at e ∙ ap (λ t. only_if t (λ _. Some p)) not_held

pub no_page : (w : World) (b : ℕ) → ◌≡◌ {A = Option (List Entry)} (entries_at w b) None → ◌≡◌ {A = Option ListedCluster} (page_seen w b) None
no_page w b none = by_cluster (cluster_at w b) none
  where
    by_cluster : (o : Option Cluster) → ◌≡◌ {A = Option (List Entry)} (option_and_then (entries_of (block_len w.geometry)) o) None → ◌≡◌ {A = Option ListedCluster} (option_and_then (page_of w b) o) None
    by_cluster None e = refl
    by_cluster (Some c) e = ap (option_and_then (λ es. if_page w b (record { cluster = c; entries = es }))) e

-- ---- as they are read

module _ (w : World) (first : Bool) (b : ℕ) (part : Part) (is : IsPartOfRoot w b part) where
  abbrev says : Cluster
  says = cluster_of (part_cluster part.cluster)

  room_is : bytes_room (block_len_of (part_cluster part.cluster)) ≡ room_of w
  room_is = ap bytes_room is.read.whole

  pub seen_part : says.used ≤ bytes_room (block_len_of (part_cluster part.cluster)) → true ≡ is_part_filled (bytes_room (block_len_of (part_cluster part.cluster))) first says → true ≡ are_held w b (next_blocks says.next) → part_seen w first b ≡ Some says
  seen_part fits filled held = is_part w first b says (record {
    at = is.read.says;
    fits = le-leb says.used (room_of w) (subst (λ n. says.used ≤ n) room_is fits);
    filled = ap (λ n. is_part_filled n first says) (sym room_is) ∙ sym filled;
    held = sym held;
  })

  pub unfilled : false ≡ is_part_filled (bytes_room (block_len_of (part_cluster part.cluster))) first says → ◌≡◌ {A = Option Cluster} (part_seen w first b) None
  unfilled e = unfilled_part w first b says is.read.says (ap (λ n. is_part_filled n first says) (sym room_is) ∙ sym e)

  pub unheld : false ≡ are_held w b (next_blocks says.next) → ◌≡◌ {A = Option Cluster} (part_seen w first b) None
  unheld e = unheld_part w first b says is.read.says (sym e)

module _ (w : World) (b : ℕ) (page : Page) (is : IsPage w b page) where
  own : entries_of (block_len w.geometry) (listed_in page).cluster ≡ Some (listed_in page).entries
  own = own_entries w b (block_len w.geometry) (listed_in page).cluster (listed_in page).entries refl is.read.says is.entries

  pub seen_page : true ≡ are_held w b (blocks_listed (listed_in page)) → page_seen w b ≡ Some (listed_in page)
  seen_page held = is_page w b (listed_in page) (record { at = is.read.says; entries = own; held = sym held })

  pub unseen_page : false ≡ are_held w b (blocks_listed (listed_in page)) → ◌≡◌ {A = Option ListedCluster} (page_seen w b) None
  unseen_page e = unheld_page w b (listed_in page) is.read.says own (sym e)

-- ---- of a result

pub if_some : {X : Type 0} (P : X → Type 0) (o : Option X) (x : X) → o ≡ Some x → IfSome o P → P x
if_some P o x e h = let here = subst (λ y. IfSome y P) e h in here

pub if_none : {X : Type 0} (P : Type 0) (o : Option X) → ◌≡◌ {A = Option X} o None → IfNone o P → P
if_none P o e h = let here = subst (λ y. IfNone y P) e h in here
