-- A cluster's list with an entry changed, in its parts.
use Rattle.std.proofs.Common.{◌≡◌, ℕ, ◌+◌, ◌*◌, ◌-◌, ◌<◌, ◌≤◌, List, [], ◌∷◌, ◌++◌, length, refl, sym, ◌∙◌, ap, arith, append_assoc, length-append, min, true, false, nat_le, ◌⊎◌, inl, inr}
use Rattle.std.proofs.lemmas.Bool.Decides.{nat_tests}
use Rattle.std.proofs.lemmas.List.{drop-take, take-append-drop, drop_all, length-take-le, length-drop}
use Rattle.std.proofs.lemmas.Grind.{flat_map-append}
use Rattle.std.proofs.Math.Seq.{drop-append_seam, take-length}
use Rattle.std.specs.Prelude.{take, drop, flat_map, Option}
use Rattle.fs_trees.specs.Fields.{Entry, entries, entry_bytes}
use Rattle.fs_trees.specs.Cluster.{cluster_bytes, directory_bytes}
use Rattle.fs_fields.proofs.WrittenLaws.{AreBytes, entries_written, take-entries, length-entries}
use Rattle.chain_layout.specs.Listed.{listed_at, unlisted_at}

-- ---- parts of the list

pub bytes_before : (position count : ℕ) (body : List ℕ) → AreBytes body → 32 * count ≤ length body → position ≤ count
    → take (32 * position) body ≡ flat_map entry_bytes (take position (entries count body))
bytes_before position count body bytes h within = sym (ap (λ es. flat_map entry_bytes es) (take-entries position count body within) ∙ entries_written position body bytes (omega arith))

pub bytes_behind : (b count : ℕ) (body : List ℕ) → AreBytes body → 32 * count ≤ length body → b ≤ count
    → take (32 * count - 32 * b) (drop (32 * b) body) ≡ flat_map entry_bytes (drop b (entries count body))
bytes_behind b count body bytes h within =
    let es = entries count body in
    let front = flat_map entry_bytes (take b es) in
    let back = flat_map entry_bytes (drop b es) in
    let sum : 32 * b + (32 * count - 32 * b) ≡ 32 * count = omega arith in
    let size : length front ≡ 32 * b = ap length (sym (bytes_before b count body bytes h within)) ∙ length-take-le (32 * b) body (omega arith) in
    sym (drop-take (32 * b) (32 * count - 32 * b) body)
    ∙ (ap (λ k. drop (32 * b) (take k body)) sum
    ∙ (ap (drop (32 * b)) (sym (entries_written count body bytes h) ∙ (ap (λ fs. flat_map entry_bytes fs) (sym (take-append-drop b es)) ∙ flat_map-append entry_bytes (take b es) (drop b es)))
    ∙ (ap (λ k. drop k (front ++ back)) (sym size) ∙ drop-append_seam front back)))

pub sized_behind : (b count : ℕ) (body : List ℕ) → 32 * count ≤ length body → b ≤ count → length (take (32 * count - 32 * b) (drop (32 * b) body)) ≡ 32 * (count - b)
sized_behind b count body h within =
    let rest = length-drop (32 * b) body in
    let cut = length-take-le (32 * count - 32 * b) (drop (32 * b) body) (omega (arith, rest)) in
    omega (arith, cut)

-- the entries that a cluster has, by its body
pub same_list : (n m : ℕ) (b body : List ℕ) → n ≡ length (entries m body) → b ≡ body → entries n b ≡ entries m body
same_list n m b body counted is = ap (λ k. entries k b) (counted ∙ length-entries m body) ∙ ap (entries m) is

-- ---- step by step

-- all of the list
pub linked_written : (next : Option ℕ) (count : ℕ) (es : List Entry) (h0 h1 x : List ℕ)
    → h0 ≡ cluster_bytes next count [] → h1 ≡ h0 ++ x → x ≡ flat_map entry_bytes (take count es) → count ≡ length es → h1 ≡ directory_bytes next es
linked_written next count es h0 h1 x a b is all =
    b ∙ (ap (λ y. y ++ x) a ∙ (ap (cluster_bytes next count) (is ∙ ap (λ fs. flat_map entry_bytes fs) (ap (λ k. take k es) all ∙ take-length es))
    ∙ ap (λ k. cluster_bytes next k (flat_map entry_bytes es)) all))

-- with an entry at a position
pub with_written : (next : Option ℕ) (used position behind count : ℕ) (e : Entry) (es : List Entry) (h0 h1 h2 h3 front back : List ℕ)
    → count ≡ length es → position ≤ count → behind ≡ min (position + 1) count → used ≡ position + 1 + (count - behind)
    → h0 ≡ cluster_bytes next used [] → h1 ≡ h0 ++ front → h2 ≡ h1 ++ entry_bytes e → h3 ≡ h2 ++ back
    → front ≡ flat_map entry_bytes (take position es) → back ≡ flat_map entry_bytes (drop behind es)
    → h3 ≡ directory_bytes next (listed_at position e es)
with_written next used position behind count e es h0 h1 h2 h3 front back counted within is_behind is_used a b c d first is_back =
    let same : drop behind es ≡ drop (position + 1) es = behind_all (position + 1) count behind es (sym counted) is_behind in
    let last : back ≡ flat_map entry_bytes (drop (position + 1) es) = is_back ∙ ap (λ fs. flat_map entry_bytes fs) same in
    let list_now : flat_map entry_bytes (listed_at position e es) ≡ flat_map entry_bytes (take position es) ++ (entry_bytes e ++ flat_map entry_bytes (drop (position + 1) es)) = flat_map-append entry_bytes (take position es) (e ∷ drop (position + 1) es) in
    let sum : used ≡ length (listed_at position e es) =
    let one = length-append (take position es) (e ∷ drop (position + 1) es) in
    let two = length-take-le position es (omega (arith, counted)) in
    let three = length-drop (position + 1) es in
    omega (arith, one, two, three, counted) in
    d ∙ (ap (λ x. x ++ back) (c ∙ ap (λ x. x ++ entry_bytes e) (b ∙ ap (λ x. x ++ front) a))
    ∙ (append_assoc (cluster_bytes next used [] ++ front) (entry_bytes e) back
    ∙ (append_assoc (cluster_bytes next used []) front (entry_bytes e ++ back)
    ∙ (ap (λ x. cluster_bytes next used [] ++ (x ++ (entry_bytes e ++ back))) first
    ∙ (ap (λ x. cluster_bytes next used [] ++ (flat_map entry_bytes (take position es) ++ (entry_bytes e ++ x))) last
    ∙ (ap (λ x. cluster_bytes next used [] ++ x) (sym list_now)
    ∙ ap (λ k. cluster_bytes next k (flat_map entry_bytes (listed_at position e es))) sum))))))
  where
    nat_below : (m n : ℕ) → (m ≤ n) ⊎ (n ≤ m)
    nat_below m n = elim (nat_le m n) as (λ t. nat_le m n ≡ t → (m ≤ n) ⊎ (n ≤ m)) [
      | true ↦ λ e. inl (grind (arith, nat_tests))
      | false ↦ λ e. inr (grind (arith, nat_tests))
    ] refl

    behind_all : (p n b : ℕ) (es : List Entry) → length es ≡ n → b ≡ min p n → drop b es ≡ drop p es
    behind_all p n b es counted is = elim (nat_below p n) [
      | inl le ↦ let same : b ≡ p = omega arith in ap (λ k. drop k es) same
      | inr le ↦ drop_all b es (omega arith) ∙ sym (drop_all p es (omega arith))
    ]

-- without the one at a position
pub without_written : (next : Option ℕ) (used position count : ℕ) (es : List Entry) (h0 h1 h2 front back : List ℕ)
    → count ≡ length es → position < count → used ≡ count - 1
    → h0 ≡ cluster_bytes next used [] → h1 ≡ h0 ++ front → h2 ≡ h1 ++ back
    → front ≡ flat_map entry_bytes (take position es) → back ≡ flat_map entry_bytes (drop (position + 1) es)
    → h2 ≡ directory_bytes next (unlisted_at position es)
without_written next used position count es h0 h1 h2 front back counted within is_used a b c first last =
    let list_now : flat_map entry_bytes (unlisted_at position es) ≡ flat_map entry_bytes (take position es) ++ flat_map entry_bytes (drop (position + 1) es) = flat_map-append entry_bytes (take position es) (drop (position + 1) es) in
    let sum : used ≡ length (unlisted_at position es) =
    let one = length-append (take position es) (drop (position + 1) es) in
    let two = length-take-le position es (omega (arith, counted)) in
    let three = length-drop (position + 1) es in
    omega (arith, one, two, three, counted) in
    c ∙ (ap (λ x. x ++ back) (b ∙ ap (λ x. x ++ front) a)
    ∙ (append_assoc (cluster_bytes next used []) front back
    ∙ (ap (λ x. cluster_bytes next used [] ++ (x ++ back)) first
    ∙ (ap (λ x. cluster_bytes next used [] ++ (flat_map entry_bytes (take position es) ++ x)) last
    ∙ (ap (λ x. cluster_bytes next used [] ++ x) (sym list_now)
    ∙ ap (λ k. cluster_bytes next k (flat_map entry_bytes (unlisted_at position es))) sum)))))
