-- The frames of a text are what they are meant to be: the text is these frames, one after another, and the beginning of
-- one more.
use Rattle.std.proofs.Common.{◌≡◌, ◌≢◌, ℕ, zero, suc, ◌+◌, ◌-◌, ◌*◌, ◌^◌, ◌/◌, ◌%◌, ◌<◌, ◌≤◌, true, false, List, [], ◌∷◌, ◌++◌, length, take, drop, replicate, refl, sym, ◌∙◌, ap, subst, arith, append_assoc, append-nil}
use Rattle.std.proofs.lemmas.Bool.{leb-true, leb-false, le-leb, lt-leb}
use Rattle.std.proofs.lemmas.List.{length-drop, length-append, length-replicate, length-take-le, take_at, drop_at, take-append-drop}
use Rattle.byteorder.specs.Endian.{little_number}
use Rattle.byteorder.specs.Numbers.{little_number-reads_back}
use Rattle.request_frames.specs.Frames.{frame_of, frames_of, IsBegun, IsCut, frame_size, has_frame, Cut, and_then, cut, frames, unended}
use Rattle.request_frames.proofs.FieldLaws.{AreBytes, bytes-drop}
use Rattle.request_frames.proofs.CutLaws.{cut_whole, cut_none, same_size}

-- two bytes are those of the number in them
same_two : (a b n : ℕ) → a < 256 → b < 256 → n ≡ a + 256 * b → (n < 65536) × (n % 256 ≡ a) × (n / 256 % 256 ≡ b)
same_two a b n ha hb e = (omega arith, omega arith, omega arith)

-- so many zeros
abbrev zeros : ℕ → List ℕ
zeros n = replicate n 0

length-zeros : (n : ℕ) → length (zeros n) ≡ n
length-zeros n = length-replicate n 0

not_empty : (n : ℕ) → 0 < n → zeros n ≢ []
not_empty zero h = absurd (omega arith)
not_empty (suc n) h = λ e. cc

-- ---- what the functions give is a cut

-- the first two bytes and the body of the frame
two_first : (a b : ℕ) (body : List ℕ) → a < 256 → b < 256 → length body ≡ a + 256 * b → frame_of body ≡ a ∷ b ∷ body
two_first a b body ha hb e = let s = same_two a b (length body) ha hb e in λ i. s.1 i ∷ s.2 i ∷ body

first_frame : (text : List ℕ) → AreBytes text → has_frame text ≡ true → (text ≡ frame_of (drop 2 (take (frame_size text) text)) ++ drop (frame_size text) text) × (length (drop 2 (take (frame_size text) text)) < 2 ^ 16)
first_frame [] all h = absurd (omega (arith, leb-true (frame_size []) 0 h))
first_frame (a ∷ []) all h = absurd (omega (arith, leb-true (frame_size (a ∷ [])) 1 h))
first_frame (a ∷ b ∷ bs) all h =
    let n : ℕ = little_number 2 (a ∷ b ∷ bs) in
    let e : n ≡ a + 256 * b = omega arith in
    let fits : n ≤ length bs = omega (arith, leb-true (frame_size (a ∷ b ∷ bs)) (length (a ∷ b ∷ bs)) h) in
    let two : 2 + n ≡ suc (suc n) = omega arith in
    let body : List ℕ = take n bs in
    let long : length (take n bs) ≡ n = length-take-le n bs fits in
    let front : drop 2 (take (2 + n) (a ∷ b ∷ bs)) ≡ take n bs = ap (λ k. drop 2 (take k (a ∷ b ∷ bs))) two in
    let back : drop (2 + n) (a ∷ b ∷ bs) ≡ drop n bs = ap (λ k. drop k (a ∷ b ∷ bs)) two in (
      ap (λ xs. a ∷ b ∷ xs) (sym (take-append-drop n bs))
          ∙ ap (λ xs. xs ++ drop n bs) (sym (two_first a b (take n bs) (all 0) (all 1) (long ∙ e)))
          ∙ (λ i. frame_of (sym front i) ++ sym back i),
      omega (arith, ap length front, long, (same_two a b n (all 0) (all 1) e).0),
    )

-- where no frame is whole, one has begun
begun_is : (text : List ℕ) → AreBytes text → has_frame text ≡ false → IsBegun text
begun_is [] all h = record { body = []; short = omega arith; more = 0 ∷ 0 ∷ []; some = λ e. cc; whole = refl }
begun_is (a ∷ []) all h =
    let long = length-zeros a in
    let s = two_first a 0 (zeros a) (all 0) (omega arith) (omega (arith, long)) in
    record { body = zeros a; short = omega (arith, long, all 0); more = 0 ∷ zeros a; some = λ e. cc; whole = sym s }
begun_is (a ∷ b ∷ bs) all h =
    let n : ℕ = a + 256 * b in
    let less : length bs < n = omega (arith, leb-false (frame_size (a ∷ b ∷ bs)) (length (a ∷ b ∷ bs)) h) in
    let fill : List ℕ = zeros (n - length bs) in
    let long : length (bs ++ fill) ≡ n = omega (arith, length-append bs fill, length-zeros (n - length bs), less) in
    let s = two_first a b (bs ++ fill) (all 0) (all 1) long in
    record { body = bs ++ fill; short = omega (arith, long, all 0, all 1); more = fill; some = not_empty (n - length bs) (omega (arith, less)); whole = sym s }

one_more : (text body after : List ℕ) (c : Cut) → text ≡ frame_of body ++ after → length body < 2 ^ 16 → IsCut after c.bodies c.rest → IsCut text (body ∷ c.bodies) c.rest
one_more text body after c e short h = record {
  short = (short, h.short);
  parts = e ∙ ap (λ xs. frame_of body ++ xs) h.parts ∙ sym (append_assoc (frame_of body) (frames_of c.bodies) c.rest);
  begun = h.begun;
}

no_more : (text : List ℕ) → AreBytes text → has_frame text ≡ false → IsCut text (cut text).bodies (cut text).rest
no_more text all p = subst (λ (c : Cut). IsCut text c.bodies c.rest) (sym (cut_none text p)) (record { short = tt; parts = refl; begun = begun_is text all p })

cut_is_some : (n : ℕ) (text : List ℕ) → length text ≤ n → AreBytes text → IsCut text (cut text).bodies (cut text).rest
cut_is_some zero text h all = no_more text all (lt-leb (frame_size text) (length text) (omega (arith, h)))
cut_is_some (suc n) text h all =
    elim (has_frame text) as (λ t. has_frame text ≡ t → IsCut text (cut text).bodies (cut text).rest) [
      | false ↦ λ p. no_more text all p
      | true ↦ λ p. let f = first_frame text all p in
          let after : List ℕ = drop (frame_size text) text in
          let less : length after ≤ n = omega (arith, length-drop (frame_size text) text, leb-true (frame_size text) (length text) p, h) in
          subst (λ (c : Cut). IsCut text c.bodies c.rest) (sym (cut_whole text p))
          (one_more text (drop 2 (take (frame_size text) text)) after (cut after) f.0 f.1 (cut_is_some n after less (bytes-drop (frame_size text) text all)))
    ] refl

pub cut_is : (text : List ℕ) → AreBytes text → IsCut text (frames text) (unended text)
cut_is text all = cut_is_some (length text) text (omega arith) all

-- ---- every cut is what the functions give

some_bytes : (bs : List ℕ) → bs ≢ [] → 1 ≤ length bs
some_bytes [] h = absurd (h refl)
some_bytes (b ∷ bs) h = omega arith

size_of_frame : (body after : List ℕ) → length body < 2 ^ 16 → frame_size (frame_of body ++ after) ≡ 2 + length body
size_of_frame body after h = ap (λ n. 2 + n) (little_number-reads_back 2 (length body) (body ++ after) h)

begun_none : (rest : List ℕ) → IsBegun rest → has_frame rest ≡ false
begun_none rest h =
    elim (has_frame rest) as (λ t. has_frame rest ≡ t → t ≡ false) [
      | false ↦ λ p. refl
      | true ↦ λ p. let fits = leb-true (frame_size rest) (length rest) p in
          let same : frame_size (rest ++ h.more) ≡ frame_size rest = same_size rest h.more (omega (arith, fits)) in
          let size : frame_size (frame_of h.body ++ []) ≡ 2 + length h.body = size_of_frame h.body [] h.short in
          let is : frame_size (rest ++ h.more) ≡ 2 + length h.body = ap frame_size (h.whole ∙ sym (append-nil (frame_of h.body))) ∙ size in
          let long : length (rest ++ h.more) ≡ 2 + length h.body = ap length h.whole ∙ omega arith in
          absurd (omega (arith, fits, same, is, long, length-append rest h.more, some_bytes h.more h.some))
    ] refl

pub cut_only : (bodies : List (List ℕ)) (text rest : List ℕ) → IsCut text bodies rest → cut text ≡ record { bodies = bodies; rest = rest }
cut_only [] text rest h = ap cut h.parts ∙ cut_none rest (begun_none rest h.begun)
cut_only (body ∷ bodies) text rest h =
    let after : List ℕ = frames_of bodies ++ rest in
    let e : text ≡ frame_of body ++ after = h.parts ∙ append_assoc (frame_of body) (frames_of bodies) rest in
    let size : frame_size (frame_of body ++ after) ≡ 2 + length body = size_of_frame body after h.short.0 in
    let long : length (frame_of body) ≡ 2 + length body = omega arith in
    let there : has_frame (frame_of body ++ after) ≡ true = le-leb (frame_size (frame_of body ++ after)) (length (frame_of body ++ after)) (omega (arith, size, long, length-append (frame_of body) after)) in
    ap cut e
    ∙ cut_whole (frame_of body ++ after) there
    ∙ (λ i. and_then (drop 2 (take (size i) (frame_of body ++ after))) (cut (drop (size i) (frame_of body ++ after))))
    ∙ (λ i. and_then (drop 2 (take_at (frame_of body) after (2 + length body) long i)) (cut (drop_at (frame_of body) after (2 + length body) long i)))
    ∙ ap (and_then body) (cut_only bodies after rest (record { short = h.short.1; parts = refl; begun = h.begun }))
