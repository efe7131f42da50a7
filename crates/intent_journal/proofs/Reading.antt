-- The open records, read one after another.
use Rattle.std.proofs.Common.{◌≡◌, ℕ, suc, ◌+◌, ◌-◌, ◌<◌, ◌&&◌, Bool, true, false, List, [], ◌∷◌, ◌++◌, length, refl, sym, ◌∙◌, ap, subst, arith, append_assoc, length-append}
use Rattle.intent_journal.proofs.Common.{cond-true, cond-false, and_from, and_left, append-nil, length-map-range_with_len, Image, Patch, count_in, is_valid, JournalRecord, patches_of, descriptor_of, is_gate_open, record_at, open_from, open_records, are_valid_from, has_valid_records}

-- before the first
pub found_start : (image : Image) (ps : List Patch) → ps ≡ [] → patches_of (open_records image) ≡ ps ++ patches_of (open_from image 0 (length ps) (8 - 0))
unfolding open_records
found_start image ps none = let P : List Patch → Type 0 = λ l. patches_of (open_from image 0 0 8) ≡ l ++ patches_of (open_from image 0 (length l) 8) in subst P (sym none) refl

pub valid_start : (image : Image) (ps : List Patch) → ps ≡ [] → has_valid_records image ≡ are_valid_from image 0 (length ps) (8 - 0)
unfolding has_valid_records
valid_start image ps none = let P : List Patch → Type 0 = λ l. are_valid_from image 0 0 8 ≡ are_valid_from image 0 (length l) 8 in subst P (sym none) refl

module _ (image : Image) (index : ℕ) (ps : List Patch) (less : index < 8) where
  left : ℕ
  left = 8 - (index + 1)

  one_more : 8 - index ≡ suc (8 - (index + 1))
  one_more = omega arith

  -- a record more
  module _ (new : List Patch) (gate : is_gate_open image index ≡ true) (valid : is_valid (length ps) (descriptor_of image index) ≡ true) (is : new ≡ ps ++ record_at image index (length ps)) where
    longer : length ps + count_in (descriptor_of image index) ≡ length new
    longer = sym (ap length is ∙ length-append ps (record_at image index (length ps)) ∙ ap (λ (n : ℕ). length ps + n) (length-map-range_with_len _ 0 (count_in (descriptor_of image index))))

    pub found_more : ps ++ patches_of (open_from image index (length ps) (8 - index)) ≡ new ++ patches_of (open_from image (index + 1) (length new) (8 - (index + 1)))
    found_more =
        let start : ℕ = length ps in
        let rest : List JournalRecord = open_from image (index + 1) (start + count_in (descriptor_of image index)) (8 - (index + 1)) in
        let split : open_from image index start (8 - index) ≡ record_at image index start ∷ rest =
        ap (open_from image index start) one_more ∙ cond-true _ (record_at image index start ∷ rest) [] (and_from (is_gate_open image index) (is_valid start (descriptor_of image index)) gate valid) in
        ap (λ (rs : List JournalRecord). ps ++ patches_of rs) split ∙ sym (append_assoc ps (record_at image index start) (patches_of rest)) ∙ ap (λ (l : List Patch). l ++ patches_of rest) (sym is)
        ∙ ap (λ (n : ℕ). new ++ patches_of (open_from image (index + 1) n (8 - (index + 1)))) longer

    pub valid_more : are_valid_from image index (length ps) (8 - index) ≡ are_valid_from image (index + 1) (length new) (8 - (index + 1))
    valid_more =
        let start : ℕ = length ps in
        let rest : Bool = are_valid_from image (index + 1) (start + count_in (descriptor_of image index)) (8 - (index + 1)) in
        ap (are_valid_from image index start) one_more ∙ cond-true (is_gate_open image index) (is_valid start (descriptor_of image index) && rest) true gate ∙ ap (λ b. b && rest) valid
        ∙ ap (λ (n : ℕ). are_valid_from image (index + 1) n (8 - (index + 1))) longer

  -- a closed gate
  pub found_end : is_gate_open image index ≡ false → ps ++ patches_of (open_from image index (length ps) (8 - index)) ≡ ps
  found_end gate =
      let none : open_from image index (length ps) (8 - index) ≡ [] =
      ap (open_from image index (length ps)) one_more ∙ cond-false _ (record_at image index (length ps) ∷ _) [] (and_left (is_gate_open image index) (is_valid (length ps) (descriptor_of image index)) gate) in
      ap (λ (rs : List JournalRecord). ps ++ patches_of rs) none ∙ append-nil ps

  pub valid_end : is_gate_open image index ≡ false → are_valid_from image index (length ps) (8 - index) ≡ true
  valid_end gate = ap (are_valid_from image index (length ps)) one_more ∙ cond-false (is_gate_open image index) _ true gate

  -- a descriptor that isn't valid
  pub bad_end : is_gate_open image index ≡ true → is_valid (length ps) (descriptor_of image index) ≡ false → are_valid_from image index (length ps) (8 - index) ≡ false
  bad_end gate bad =
      let rest : Bool = are_valid_from image (index + 1) (length ps + count_in (descriptor_of image index)) (8 - (index + 1)) in
      ap (are_valid_from image index (length ps)) one_more ∙ cond-true (is_gate_open image index) (is_valid (length ps) (descriptor_of image index) && rest) true gate ∙ ap (λ b. b && rest) bad
