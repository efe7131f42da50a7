-- Bytes of a file from an offset on, part by part.
use Rattle.std.proofs.Common.{◌≡◌, ◌⊎◌, inl, inr, ⊎_elim, ℕ, zero, suc, ◌+◌, ◌-◌, ◌*◌, ◌<◌, ◌≤◌, min, List, [], ◌∷◌, ◌++◌, length, refl, sym, ◌∙◌, ap, arith, append-nil, append_assoc, length-append, length-drop, length-take, Some, None, Ok}
use Rattle.chain_reading.proofs.Common.{take, drop, Cluster, Link, chain_bytes, cluster_at, flat_map-append, DiskView, state_of, Stays, HoldsWrite, Client, Looked, OnlyLooks, IsFileAhead}
use Rattle.chain_reading.proofs.WalkLaws.{link_of}
use Rattle.chain_reading.proofs.SizeLaws.{IsCounted, count_on, more_bytes}
use Rattle.chain_reading.proofs.WalkLaws.{walk_starts, walk_ends, first_link}

-- what is cut out of two lists is cut out of each
pub cut_both : (n k : ℕ) (xs ys : List ℕ) → take n (drop k (xs ++ ys)) ≡ take n (drop k xs) ++ take (n - length (take n (drop k xs))) (drop (k - length xs) ys)
cut_both n k [] ys =
    let all : k - 0 ≡ k = omega arith in
    let none : take n (drop k []) ≡ [] = none_cut n k in
    let whole : n - 0 ≡ n = omega arith in
    sym (ap (λ zs. zs ++ take (n - length zs) (drop (k - 0) ys)) none ∙ (ap (λ m. take m (drop (k - 0) ys)) whole ∙ ap (λ m. take n (drop m ys)) all))
  where
    none_cut : (n k : ℕ) → ◌≡◌ {A = List ℕ} (take n (drop k [])) []
    none_cut zero zero = refl
    none_cut zero (suc k) = refl
    none_cut (suc n) zero = refl
    none_cut (suc n) (suc k) = refl
cut_both zero zero (x ∷ xs) ys = refl
cut_both (suc n) zero (x ∷ xs) ys =
    let less : suc n - suc (length (take n xs)) ≡ n - length (take n xs) = omega arith in
    let none : 0 - suc (length xs) ≡ 0 = omega arith in
    let none_there : 0 - length xs ≡ 0 = omega arith in
    ap (λ zs. x ∷ zs) (cut_both n zero xs ys ∙ ap (λ m. take n xs ++ take (n - length (take n xs)) (drop m ys)) none_there)
    ∙ sym (ap (λ m. x ∷ (take n xs ++ take m (drop (0 - suc (length xs)) ys))) less ∙ ap (λ m. x ∷ (take n xs ++ take (n - length (take n xs)) (drop m ys))) none)
cut_both n (suc k) (x ∷ xs) ys =
    let less : suc k - suc (length xs) ≡ k - length xs = omega arith in
    cut_both n k xs ys ∙ sym (ap (λ m. take n (drop k xs) ++ take (n - length (take n (drop k xs))) (drop m ys)) less)

-- more is added
pub added : (start before : ℕ) (xs ys old new : List ℕ) → before ≡ length xs → old ≡ take 4096 (drop start xs) → new ≡ old ++ take (4096 - length old) (drop (start - before) ys) → new ≡ take 4096 (drop start (xs ++ ys))
added start before xs ys old new sized is more =
    more ∙ (ap (λ zs. zs ++ take (4096 - length zs) (drop (start - before) ys)) is
    ∙ (ap (λ k. take 4096 (drop start xs) ++ take (4096 - length (take 4096 (drop start xs))) (drop (start - k) ys)) sized
    ∙ sym (cut_both 4096 start xs ys)))

-- where there is no room for more, all was added
pub full_already : (start : ℕ) (xs ys new : List ℕ) → new ≡ take 4096 (drop start xs) → length new ≡ 4096 → new ≡ take 4096 (drop start (xs ++ ys))
full_already start xs ys new is full =
    let none : 4096 - length (take 4096 (drop start xs)) ≡ 0 = let e = ap length is in omega (arith, e, full) in
    is ∙ sym (cut_both 4096 start xs ys ∙ (ap (λ k. take 4096 (drop start xs) ++ take k (drop (start - length xs) ys)) none ∙ append-nil (take 4096 (drop start xs))))

-- ---- the walk

le_or_lt : (a b : ℕ) → (a ≤ b) ⊎ (b < a)
le_or_lt zero b = inl (omega arith)
le_or_lt (suc a) zero = inr (omega arith)
le_or_lt (suc a) (suc b) = ⊎_elim (λ h. inl (omega (arith, h))) (λ h. inr (omega (arith, h))) (le_or_lt a b)

-- the bytes of the clusters before a block, from the start on, were added
pub record IsCopied (c : Client) (now : DiskView) (ls : List Link) (i b before start : ℕ) (into : List ℕ) : Type 0 where
  pub counted : IsCounted c now ls i b before
  pub copied : into ≡ take 4096 (drop start (chain_bytes counted.before))
  -- no more than what was asked for stands before the block
  pub near : before ≤ start + 4096

pub record Copying (told : Type 0) (c : Client) (first now : DiskView) (block i b before start : ℕ) (into : List ℕ) : Type 0 where
  pub looks : OnlyLooks {X = Unit {0}} told first now (Ok tt)
  pub copied : told → (ls : List Link) → IsFileAhead c first block ls → IsCopied c now ls i b before start into
  pub few : before ≤ 4096 * i

module _ (c : Client) (now : DiskView) (ls : List Link) (i b before start more : ℕ) (into result : List ℕ) (cl : Cluster) (copied : IsCopied c now ls i b before start into) (at : cluster_at now.world b ≡ Some cl) (part : more ≡ length (take cl.used cl.body))
    (adds : result ≡ into ++ take (4096 - length into) (drop (start - before) (take cl.used cl.body))) where
  now_copied : result ≡ take 4096 (drop start (chain_bytes (copied.counted.before ++ link_of b cl ∷ [])))
  now_copied = added start before (chain_bytes copied.counted.before) (take cl.used cl.body) into result copied.counted.bytes copied.copied adds ∙ ap (λ xs. take 4096 (drop start xs)) (sym (more_bytes copied.counted.before b cl))

  pub copy_ends : cl.next ≡ None → result ≡ take 4096 (drop start (chain_bytes ls))
  copy_ends next = now_copied ∙ ap (λ xs. take 4096 (drop start (chain_bytes xs))) (sym (walk_ends c now ls copied.counted.before b cl copied.counted.walked at next))

  pub copy_full : length result ≡ 4096 → result ≡ take 4096 (drop start (chain_bytes ls))
  copy_full full =
      let first = first_link now.world b copied.counted.walked.rest cl copied.counted.walked.ahead.rest at in
      let all : ls ≡ (copied.counted.before ++ link_of b cl ∷ []) ++ first.0 =
      copied.counted.walked.parts ∙ (ap (λ xs. copied.counted.before ++ xs) first.1 ∙ sym (append_assoc copied.counted.before (link_of b cl ∷ []) first.0)) in
      full_already start (chain_bytes (copied.counted.before ++ link_of b cl ∷ [])) (chain_bytes first.0) result now_copied full
      ∙ ap (λ xs. take 4096 (drop start xs)) (sym (ap chain_bytes all ∙ flat_map-append (λ l. take l.cluster.used l.cluster.body) (copied.counted.before ++ link_of b cl ∷ []) first.0))

  -- where there is room for more, no more bytes stand before the next cluster than were asked for
  near_on : (length result ≡ 4096 → ⊥) → before + more ≤ start + 4096
  near_on room =
      let cut = ap length now_copied ∙ length-take 4096 (drop start (chain_bytes (copied.counted.before ++ link_of b cl ∷ []))) in
      let long = length-drop start (chain_bytes (copied.counted.before ++ link_of b cl ∷ [])) in
      let all = ap length (more_bytes copied.counted.before b cl) ∙ length-append (chain_bytes copied.counted.before) (take cl.used cl.body) in
      by_sizes (length result) (length (chain_bytes (copied.counted.before ++ link_of b cl ∷ []))) (cut ∙ ap (λ n. min 4096 n) long) (let sum : length (chain_bytes (copied.counted.before ++ link_of b cl ∷ [])) ≡ before + more = omega (arith, all, part, copied.counted.bytes) in sum) room
    where
      by_sizes : (n k : ℕ) → n ≡ min 4096 (k - start) → k ≡ before + more → (n ≡ 4096 → ⊥) → before + more ≤ start + 4096
      by_sizes n k is sum other = elim (le_or_lt k (start + 4096)) [
        | inl le ↦ omega (arith, le, sum)
        | inr lt ↦ absurd (other (omega (arith, is, lt)))
      ]

  pub copy_on : (new : DiskView) (d : ℕ) → (length result ≡ 4096 → ⊥) → cl.next ≡ Some d → Looked now new → Stays now new → HoldsWrite (state_of new) c.session b → IsCopied c new ls (i + 1) d (before + more) start result
  unfolding count_on
  copy_on new d room next seen stays held = record {
    counted = record {
      before = copied.counted.before ++ link_of b cl ∷ [];
      walked = (count_on c now new ls i b d before more cl copied.counted at next part seen stays held).walked;
      count = (count_on c now new ls i b d before more cl copied.counted at next part seen stays held).count;
      bytes = (count_on c now new ls i b d before more cl copied.counted at next part seen stays held).bytes;
    };
    copied = now_copied;
    near = near_on room;
  }

pub copy_starts : (c : Client) (v : DiskView) (block start : ℕ) (into : List ℕ) (ls : List Link) → into ≡ [] → IsFileAhead c v block ls → IsCopied c v ls 0 block 0 start into
copy_starts c v block start into ls empty file = record {
  counted = record { before = []; walked = walk_starts c v block ls file.ahead; count = refl; bytes = refl };
  copied = empty ∙ sym (none_cut start);
  near = omega arith;
}
  where
    none_cut : (k : ℕ) → ◌≡◌ {A = List ℕ} (take 4096 (drop k [])) []
    none_cut zero = refl
    none_cut (suc k) = refl
