-- How many clusters a file has, and how many more once it has grown.
use Rattle.std.proofs.Common.{◌≡◌, ℕ, zero, suc, ◌+◌, ◌-◌, ◌*◌, ◌<◌, ◌≤◌, Bool, true, false, ◌&&◌, ◌==◌, nat_lt, min, List, [], ◌∷◌, ◌++◌, length, refl, sym, ◌∙◌, ap, arith, inl, inr, append-nil, length-append, Option, Some, None}
use Rattle.chain_changes.proofs.Common.{and_parts, eqb-true, leb-true, ltb-true, cases_lt, length-drop, length-take-le, div_ceil_times, mul-le-mul_right, max, take, drop, IfSome, div_ceil, option_and_then, block_len, World, contents, IsSized, only_if, begins_with, Cluster, magic, link_in, cluster_in, bytes_room, Link, cluster_at, is_filled, chain_bytes, IsFrom}
use Rattle.byteorder.specs.Endian.{little_number}

-- ---- of numbers

-- so many rooms and some bytes in one more
ceil_is : (a room k : ℕ) → 0 < room → room * k < a → a ≤ room * (k + 1) → div_ceil a room ≡ k + 1
ceil_is a room k some low high =
    let d = div_ceil a room in
    let bound = div_ceil_times a room some in
    let at_least : k + 1 ≤ d = elim (cases_lt d (k + 1)) [
      | inl less ↦ absurd (let times = mul-le-mul_right {m = d} {n = k} room (omega (arith, less)) in too_few (d * room) times bound.0)
      | inr not_less ↦ not_less
    ] in
    let at_most : d ≤ k + 1 = elim (cases_lt (k + 1) d) [
      | inl more ↦ absurd (let times = mul-le-mul_right {m = k + 2} {n = d} room (omega (arith, more)) in too_many (d * room) times bound.1)
      | inr not_more ↦ not_more
    ] in
    omega (arith, at_least, at_most)
  where
    too_few : (x : ℕ) → x ≤ k * room → a ≤ x → ⊥
    too_few x p q = omega (arith, p, q, low)

    too_many : (x : ℕ) → (k + 2) * room ≤ x → x < a + room → ⊥
    too_many x p q = omega (arith, p, q, high)

pub ceil_none : (room : ℕ) → 0 < room → div_ceil 0 room ≡ 0
ceil_none room some =
    let d = div_ceil 0 room in
    let bound = (div_ceil_times 0 room some).1 in
    elim (cases_lt 0 d) [
      | inl more ↦ absurd (let times = mul-le-mul_right {m = 1} {n = d} room (omega (arith, more)) in never (d * room) times bound)
      | inr none ↦ omega (arith, none)
    ]
  where
    never : (x : ℕ) → 1 * room ≤ x → x < 0 + room → ⊥
    never x p q = omega (arith, p, q)

abbrev pub clusters : ℕ → ℕ → ℕ
clusters size room = max 1 (div_ceil size room)

-- so many full clusters, and a last one with some bytes or the first without
pub clusters_are : (room m u : ℕ) → 0 < room → u ≤ room → (1 ≤ m → 0 < u) → clusters (room * m + u) room ≡ m + 1
clusters_are room m u some fits more = elim (cases_lt 0 u) [
  | inl used ↦ let is = ceil_is (room * m + u) room m some (omega (arith, used)) (omega (arith, fits)) in omega (arith, is)
  | inr none ↦ by_number m more none
]
  where
    by_number : (m : ℕ) → (1 ≤ m → 0 < u) → u ≤ 0 → clusters (room * m + u) room ≡ m + 1
    by_number zero more none =
        let is : room * 0 + u ≡ 0 = omega (arith, none) in
        let nothing = ap (λ n. div_ceil n room) is ∙ ceil_none room some in
        omega (arith, nothing)
    by_number (suc m) more none = absurd (let used = more (omega arith) in omega (arith, used, none))

-- what the last one has no room for takes further ones
pub clusters_grow : (room m u len taken : ℕ) → 0 < room → u ≤ room → (1 ≤ m → 0 < u) → 0 < len → taken ≡ min (room - u) len → clusters (room * m + u + len) room - clusters (room * m + u) room ≡ div_ceil (len - taken) room
clusters_grow room m u len taken some fits more any is =
    let old = clusters_are room m u some fits more in
    elim (cases_lt (room - u) len) [
      | inl over ↦
          let rest : len - taken ≡ len - (room - u) = omega (arith, is, over) in
          let e = div_ceil (len - taken) room in
          let bound = div_ceil_times (len - taken) room some in
          let left : 0 < len - taken = omega (arith, rest, over) in
          let low = low_is (len - taken) e left bound.1 in
          let high : len - taken ≤ room * e = turned (len - taken) e bound.0 in
          let all = ceil_is (room * m + u + len) room (m + e) some (lower (len - taken) e rest over low) (upper (len - taken) e rest over high) in
          omega (arith, old, all)
      | inr within ↦
          let all = ceil_is (room * m + u + len) room m some (omega (arith, any)) (omega (arith, within, fits)) in
          let same : len - taken ≡ 0 = omega (arith, is, within) in
          let none = ap (λ n. div_ceil n room) same ∙ ceil_none room some in
          omega (arith, old, all, none)
    ]
  where
    turned : (r e : ℕ) → r ≤ e * room → r ≤ room * e
    turned r e h = omega (arith, h)

    low_is : (r e : ℕ) → 0 < r → e * room < r + room → room * e < r + room
    low_is r e some h = omega (arith, h)

    lower : (r e : ℕ) → r ≡ len - (room - u) → room - u < len → room * e < r + room → room * (m + e) < room * m + u + len
    lower r e is over low = omega (arith, is, over, low, fits)

    upper : (r e : ℕ) → r ≡ len - (room - u) → room - u < len → r ≤ room * e → room * m + u + len ≤ room * (m + e + 1)
    upper r e is over high = omega (arith, is, over, high, fits)

-- ---- of a file

-- behind a cluster's head stands the rest of its block
pub body_is : (w : World) (b : ℕ) (cl : Cluster) → IsSized w → cluster_at w b ≡ Some cl → length cl.body ≡ bytes_room (block_len w.geometry)
body_is w b cl sized at = by_contents (contents w b) (sized.full b) at
  where
    by_magic : (x : List ℕ) (t : Bool) → begins_with magic x ≡ t → length x ≡ block_len w.geometry → only_if t (λ _. Some (record { next = link_in (little_number 4 (drop 8 x)); used = little_number 4 (drop 12 x); body = drop 16 x })) ≡ Some cl → length cl.body ≡ bytes_room (block_len w.geometry)
    by_magic x false m full e = absurd (cc)
    by_magic x true m full e =
        let same : drop 16 x ≡ cl.body = cc in
        let size = length-drop 16 x in
        ap length (sym same) ∙ omega (arith, size, full)

    by_contents : (o : Option (List ℕ)) → IfSome o (λ bytes. length bytes ≡ block_len w.geometry) → option_and_then cluster_in o ≡ Some cl → length cl.body ≡ bytes_room (block_len w.geometry)
    by_contents None full e = absurd (cc)
    by_contents (Some x) full e = by_magic x (begins_with magic x) refl full e

-- each but the last is full
pub record IsSize (room : ℕ) (ks : List Link) (k : Link) : Type 0 where
  pub bytes : length (chain_bytes (ks ++ k ∷ [])) ≡ room * length ks + k.cluster.used
  pub fits : k.cluster.used ≤ room
  pub some : 1 ≤ length ks → 0 < k.cluster.used

module _ (w : World) (sized : IsSized w) where
  abbrev room : ℕ
  room = bytes_room (block_len w.geometry)

  pub part_size : (l : Link) → cluster_at w l.block ≡ Some l.cluster → l.cluster.used ≤ room → length (take l.cluster.used l.cluster.body) ≡ l.cluster.used
  part_size l at fits = let long = body_is w l.block l.cluster sized at in length-take-le l.cluster.used l.cluster.body (omega (arith, long, fits))

  pub size_is : (o : Option ℕ) (ks : List Link) (k : Link) → IsFrom w o (ks ++ k ∷ []) → is_filled room (ks ++ k ∷ []) ≡ true → IsSize room ks k
  size_is o [] k from filled =
      let fits = leb-true k.cluster.used room filled in
      let size = ap length (append-nil (take k.cluster.used k.cluster.body)) ∙ part_size k from.1 fits in
      record { bytes = omega (arith, size); fits = fits; some = λ h. absurd (omega (arith, h)) }
  size_is o (a ∷ []) k from filled =
      let outer = and_parts ((a.cluster.used == room) && nat_lt 0 k.cluster.used) (is_filled room (k ∷ [])) filled in
      let inner = and_parts (a.cluster.used == room) (nat_lt 0 k.cluster.used) outer.0 in
      let full = eqb-true a.cluster.used room inner.0 in
      let here = part_size a from.1 (omega (arith, full)) in
      let later = size_is a.cluster.next [] k from.2 outer.1 in
      let both = length-append (take a.cluster.used a.cluster.body) (chain_bytes (k ∷ [])) in
      record { bytes = omega (arith, both, here, full, later.bytes); fits = later.fits; some = λ h. ltb-true 0 k.cluster.used inner.1 }
  size_is o (a ∷ b ∷ ks) k from filled =
      let outer = and_parts ((a.cluster.used == room) && nat_lt 0 b.cluster.used) (is_filled room (b ∷ (ks ++ k ∷ []))) filled in
      let inner = and_parts (a.cluster.used == room) (nat_lt 0 b.cluster.used) outer.0 in
      let full = eqb-true a.cluster.used room inner.0 in
      let here = part_size a from.1 (omega (arith, full)) in
      let later = size_is a.cluster.next (b ∷ ks) k from.2 outer.1 in
      let both = length-append (take a.cluster.used a.cluster.body) (chain_bytes (b ∷ (ks ++ k ∷ []))) in
      record { bytes = omega (arith, both, here, full, later.bytes); fits = later.fits; some = λ h. later.some (omega arith) }
