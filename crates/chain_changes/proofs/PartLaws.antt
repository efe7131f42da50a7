-- The bytes of a chain whose clusters are each as full as they can be.
use Rattle.std.proofs.Common.{◌≡◌, ℕ, suc, ◌+◌, ◌*◌, ◌<◌, true, ◌&&◌, ◌==◌, nat_lt, List, [], ◌∷◌, ◌++◌, length, sym, ◌∙◌, ap, arith}
use Rattle.chain_changes.proofs.Common.{and_from, eq-eqb, lt-ltb, le-leb, length-take, length-drop, take-append-drop, take, drop, Link, is_filled, chain_bytes, ArePartsOf}

pub parts_bytes : (room : ℕ) (bytes : List ℕ) (ls : List Link) → ArePartsOf room bytes ls → chain_bytes ls ≡ bytes
parts_bytes room bytes [] parts = sym parts
parts_bytes room bytes (l ∷ ls) parts = ap (λ x. x ++ chain_bytes ls) parts.1 ∙ (ap (λ x. take room bytes ++ x) (parts_bytes room (drop room bytes) ls parts.2) ∙ take-append-drop room bytes)

-- A cluster takes no more than there is room for; where as many clusters less one have no room for the bytes, each but the last is full, and each but the first has some.
pub parts_filled : (room : ℕ) → 0 < room → (bytes : List ℕ) (l : Link) (ls : List Link) → ArePartsOf room bytes (l ∷ ls) → room * length ls < length bytes → is_filled room (l ∷ ls) ≡ true
parts_filled room some_room bytes l [] parts many = let short = length-take room bytes in le-leb l.cluster.used room (omega (arith, parts.0, short))
parts_filled room some_room bytes l (m ∷ ms) parts many =
    let short = length-take room bytes in
    let left = length-drop room bytes in
    let grown : room * suc (length ms) ≡ room + room * length ms = omega arith in
    let full : l.cluster.used ≡ room = omega (arith, parts.0, short, many, grown) in
    let more : room * length ms < length (drop room bytes) = omega (arith, left, many, grown) in
    let next = length-take room (drop room bytes) in
    let some : 0 < m.cluster.used = omega (arith, parts.2.0, next, more, some_room) in
    and_from ((l.cluster.used == room) && nat_lt 0 m.cluster.used) (is_filled room (m ∷ ms)) (and_from (l.cluster.used == room) (nat_lt 0 m.cluster.used) (eq-eqb l.cluster.used room full) (lt-ltb 0 m.cluster.used some))
    (parts_filled room some_room (drop room bytes) m ms parts.2 more)

-- one cluster, of a file without bytes too
pub part_filled : (room : ℕ) (bytes : List ℕ) (l : Link) → ArePartsOf room bytes (l ∷ []) → is_filled room (l ∷ []) ≡ true
part_filled room bytes l parts = let short = length-take room bytes in le-leb l.cluster.used room (omega (arith, parts.0, short))
