-- Images whose gates are as open, and whose descriptors and bodies are the same.
use Rattle.std.proofs.Common.{◌≡◌, inl, inr, ℕ, zero, suc, ◌+◌, ◌<◌, ◌≤◌, ◌&&◌, true, cond, List, ◌∷◌, refl, sym, ◌∙◌, ap, arith}
use Rattle.intent_journal.proofs.Common.{cases_Bool, cond-true, cond-false, and_parts, leb-true, Image, records, bodies, body_sector, count_in, is_valid, descriptor_of, is_gate_open, record_at, open_from, open_records, are_valid_from, has_valid_records}
use Rattle.intent_journal.proofs.Opened.{record_alike}

pub record IsAlike (x y : Image) : Type 0 where
  pub gates : (i : ℕ) → i < records → is_gate_open y i ≡ is_gate_open x i
  pub descriptors : (i : ℕ) → i < records → descriptor_of y i ≡ descriptor_of x i
  pub each_body : (k : ℕ) → k < bodies → y (body_sector k) ≡ x (body_sector k)

-- where a descriptor is valid, its bodies are within the ring's
pub valid_room : (start : ℕ) (bytes : List ℕ) → is_valid start bytes ≡ true → start + count_in bytes ≤ bodies
valid_room start bytes h =
    let a = and_parts _ _ h in
    let b = and_parts _ _ a.0 in
    let c = and_parts _ _ b.0 in
    leb-true (start + count_in bytes) bodies c.1

module _ (x y : Image) (alike : IsAlike x y) where
  record_same : (index start : ℕ) → index < records → start + count_in (descriptor_of x index) ≤ bodies → record_at y index start ≡ record_at x index start
  record_same index start less room = record_alike x y index start (alike.descriptors index less) (λ k low high. alike.each_body k (omega arith))

  open_alike : (index start left : ℕ) → index + left ≤ records → open_from y index start left ≡ open_from x index start left
  open_alike index start zero within = refl
  open_alike index start (suc left) within =
      let less : index < records = omega arith in
      let same : (is_gate_open y index && is_valid start (descriptor_of y index)) ≡ (is_gate_open x index && is_valid start (descriptor_of x index)) = λ i. alike.gates index less i && is_valid start (alike.descriptors index less i) in
      let rest : open_from y (index + 1) (start + count_in (descriptor_of y index)) left ≡ open_from x (index + 1) (start + count_in (descriptor_of x index)) left =
      ap (λ (d : List ℕ). open_from y (index + 1) (start + count_in d) left) (alike.descriptors index less) ∙ open_alike (index + 1) (start + count_in (descriptor_of x index)) left (omega arith) in
      elim (cases_Bool (is_gate_open x index && is_valid start (descriptor_of x index))) [
        | inl t ↦
            let valid = (and_parts (is_gate_open x index) (is_valid start (descriptor_of x index)) t).1 in
            let first = record_same index start less (valid_room start (descriptor_of x index) valid) in
            cond-true _ _ _ (same ∙ t) ∙ (λ i. first i ∷ rest i) ∙ sym (cond-true _ _ _ t)
        | inr f ↦ cond-false _ _ _ (same ∙ f) ∙ sym (cond-false _ _ _ f)
      ]

  valid_alike : (index start left : ℕ) → index + left ≤ records → are_valid_from y index start left ≡ are_valid_from x index start left
  valid_alike index start zero within = refl
  valid_alike index start (suc left) within =
      let less : index < records = omega arith in
      let rest : are_valid_from y (index + 1) (start + count_in (descriptor_of y index)) left ≡ are_valid_from x (index + 1) (start + count_in (descriptor_of x index)) left =
      ap (λ (d : List ℕ). are_valid_from y (index + 1) (start + count_in d) left) (alike.descriptors index less) ∙ valid_alike (index + 1) (start + count_in (descriptor_of x index)) left (omega arith) in
      λ i. cond (alike.gates index less i) (is_valid start (alike.descriptors index less i) && rest i) true

  -- the same records are open, and they are valid where the others are
  pub opened_same : open_records y ≡ open_records x
  unfolding open_records
  opened_same = open_alike 0 0 records (omega arith)

  pub valid_same : has_valid_records y ≡ has_valid_records x
  unfolding has_valid_records
  valid_same = valid_alike 0 0 records (omega arith)
