-- What one session holds.
use Rattle.std.proofs.Common.{◌≡◌, ℕ, zero, suc, ◌+◌, ◌<◌, ◌≤◌, List, [], ◌∷◌, length, refl, sym, ◌∙◌, ap, arith}
use Rattle.std.specs.Prelude.{map, slice_index_or}
use Rattle.std.specs.List.{enumerate_from}
use Rattle.std.proofs.lemmas.List.{ext_get_or, get_or-map, length-map}
use Rattle.tsd_model.specs.Sessions.{raised_level, raised_held}
use Rattle.tsd_model.specs.declared.requests.Level.{Level}

-- every item was changed
pub changed_all : {X : Type 0} (d : X) (f : X → X) (old new : List X) (n : ℕ) → length new ≡ length old → length old ≤ n →
    ((k : ℕ) → k < n → slice_index_or new k d ≡ f (slice_index_or old k d)) → new ≡ map f old
changed_all d f old new n same long each =
    ext_get_or d new (map f old) (same ∙ sym (length-map old f)) (λ k h. each k (omega arith) ∙ sym (get_or-map f old k d d (omega arith)))

length-enumerate : (n : ℕ) (held : List (List Level)) → length (enumerate_from n held) ≡ length held
length-enumerate n [] = refl
length-enumerate n (x ∷ xs) = ap suc (length-enumerate (n + 1) xs)

pub length-raised_held : (b : ℕ) (f : ℕ → Level) (held : List (List Level)) → length (raised_held b f held) ≡ length held
length-raised_held b f held = length-map (enumerate_from 0 held) (λ p. raised_level b (f p.0) p.1) ∙ length-enumerate 0 held

raised-from : (b : ℕ) (f : ℕ → Level) (n : ℕ) (held : List (List Level)) (k : ℕ) → k < length held →
    slice_index_or (map (λ p. raised_level b (f p.0) p.1) (enumerate_from n held)) k [] ≡ raised_level b (f (n + k)) (slice_index_or held k [])
raised-from b f n [] k h = absurd (omega arith)
raised-from b f n (x ∷ xs) zero h = ap (λ m. raised_level b (f m) x) (omega arith)
raised-from b f n (x ∷ xs) (suc k) h =
    raised-from b f (n + 1) xs k (omega arith) ∙ ap (λ m. raised_level b (f m) (slice_index_or xs k [])) (omega arith)

pub get-raised_held : (b : ℕ) (f : ℕ → Level) (held : List (List Level)) (k : ℕ) → k < length held →
    slice_index_or (raised_held b f held) k [] ≡ raised_level b (f k) (slice_index_or held k [])
get-raised_held b f held k h = raised-from b f 0 held k h ∙ ap (λ m. raised_level b (f m) (slice_index_or held k [])) (omega arith)

-- the level from each origin was raised
pub raised_all : (b : ℕ) (f : ℕ → Level) (old new : List (List Level)) (n : ℕ) → length new ≡ length old → length old ≤ n →
    ((k : ℕ) → k < n → slice_index_or new k [] ≡ raised_level b (f k) (slice_index_or old k [])) → new ≡ raised_held b f old
raised_all b f old new n same long each =
    ext_get_or [] new (raised_held b f old) (same ∙ sym (length-raised_held b f old)) (λ k h. each k (omega arith) ∙ sym (get-raised_held b f old k (omega arith)))

-- only what is attained from the origins of the list counts
pub raised_held_same : (b : ℕ) (f g : ℕ → Level) (held : List (List Level)) → ((o : ℕ) → o < length held → f o ≡ g o) → raised_held b f held ≡ raised_held b g held
raised_held_same b f g held same =
    raised_all b g held (raised_held b f held) (length held) (length-raised_held b f held) (omega arith)
    (λ k h. get-raised_held b f held k h ∙ ap (λ l. raised_level b l (slice_index_or held k [])) (same k h))
