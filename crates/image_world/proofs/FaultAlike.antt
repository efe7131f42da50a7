-- Images that agree have the same first fault.
use Rattle.std.proofs.Common.{ℕ, sym, ◌∙◌, subst, arith, Err}
use Rattle.image_world.proofs.Common.{◌↔◌, Geometry, IsLawful, ImageFault, IsHeaderReading, Image, home, HasNoBad, IsLeastBadSlot, IsLeastRepeated, ReadAlike, IsLeastPrimary, IsLeastEnd, IsLeastCount, IsTableFault, IsDamaged, IsFirstFault, header_on}
use Rattle.image_layout.specs.declared.fault.ImageFault.TheVariants as fault
use Rattle.image_world.proofs.AgreeLaws.{agree_back}
use Rattle.image_world.proofs.AlikeLaws.{alike_header}
use Rattle.image_world.proofs.AreaLaws.{SameAreas, same_marks, same_stored_counts, same_sources, same_targets}
use Rattle.image_world.proofs.StandLaws.{bad_alike, no_bad_alike, repeated_alike, none_repeated_alike, primaries_alike, held_alike, marked_alike, ends_alike, found_alike, header_alike}

module _ (g : Geometry) (x y : Image) (lawful : IsLawful g) (same : SameAreas g x y) (back : SameAreas g y x) where
  slot_alike : (k s t : ℕ) → IsLeastBadSlot x g k s t → IsLeastBadSlot y g k s t
  slot_alike k s t least = record {
    inside = least.inside;
    source_is = least.source_is ∙ sym (same_sources g x y same k least.inside);
    target_is = least.target_is ∙ sym (same_targets g x y same k least.inside);
    bad = least.bad;
    least = λ j h. bad_alike g x y same j (let more = least.inside in omega arith) ∙ least.least j h;
  }

  repeat_alike : (e : ℕ × ℕ) → IsLeastRepeated x g e → IsLeastRepeated y g e
  repeat_alike e least = record { repeated = repeated_alike g y x back e least.repeated; least = λ f r. least.least f (repeated_alike g x y same f r) }

  primary_alike : (b : ℕ) → IsLeastPrimary x g b → IsLeastPrimary y g b
  primary_alike b least = record {
    inside = least.inside;
    free = same_marks g x y same b (let most = lawful.primaries.2 in let less = least.inside in omega arith) ∙ least.free;
    least = λ a h. same_marks g x y same a (let most = lawful.primaries.2 in let less = least.inside in omega arith) ∙ least.least a h;
  }

  end_alike : HasNoBad x g → (e : ℕ × ℕ) → IsLeastEnd x g e → IsLeastEnd y g e
  end_alike none e least = record {
    held = held_alike g y x back e least.held;
    free = marked_alike g x y same none e least.held ∙ least.free;
    least = λ f held free. let held_x = held_alike g x y same f held in least.least f held_x (sym (marked_alike g x y same none f held_x) ∙ free);
  }

  count_alike : (b s f : ℕ) → IsLeastCount x g b s f → IsLeastCount y g b s f
  count_alike b s f least = record {
    inside = least.inside;
    stored_is = least.stored_is ∙ sym (same_stored_counts g x y same b least.inside);
    found_is = least.found_is ∙ sym (found_alike g x y same b);
    wrong = least.wrong;
    least = λ a h. same_stored_counts g x y same a (let more = least.inside in omega arith) ∙ (least.least a h ∙ sym (found_alike g x y same a));
  }

  pub table_fault_alike : (why : ImageFault) → IsTableFault x g why → IsTableFault y g why
  table_fault_alike fault.NotFormatted p = p
  table_fault_alike fault.Descriptor p = p
  table_fault_alike (fault.Header why) p = p
  table_fault_alike (fault.Slot k s t) p = slot_alike k s t p
  table_fault_alike (fault.Repeated a b) p = (no_bad_alike g x y same p.0, repeat_alike (a, b) p.1)
  table_fault_alike (fault.Primary b) p = (no_bad_alike g x y same p.0, none_repeated_alike g x y same p.1, primary_alike b p.2)
  table_fault_alike (fault.EndNotLive a b) p =
      (no_bad_alike g x y same p.0, none_repeated_alike g x y same p.1, primaries_alike g x y lawful same p.2, end_alike p.0 (a, b) p.3)
  table_fault_alike (fault.Count b s f) p =
      (no_bad_alike g x y same p.0, none_repeated_alike g x y same p.1, primaries_alike g x y lawful same p.2, ends_alike g x y same p.0 p.3, count_alike b s f p.4)

damage_alike : (image y : Image) → ReadAlike image y → (why : ImageFault) → IsDamaged image why → IsDamaged y why
damage_alike image y agree why p =
    let g = (header_on (home image)).geometry in
    record {
      formatted = agree.gate ∙ p.formatted;
      journal = agree.journal ∙ p.journal;
      header = header_alike (home image) (home y) p.header agree.homes;
      tables = subst (λ h. IsTableFault (home y) h.geometry why) (sym (alike_header (home image) (home y) agree.homes))
          (table_fault_alike g (home image) (home y) p.header.2 agree.homes.areas (λ n from to. sym (agree.homes.areas n from to)) why p.tables);
    }

pub fault_alike : (image y : Image) → ReadAlike image y → (why : ImageFault) → IsFirstFault image why → IsFirstFault y why
fault_alike image y agree fault.NotFormatted p = agree.gate ∙ p
fault_alike image y agree fault.Descriptor p = (agree.gate ∙ p.0, agree.journal ∙ p.1)
fault_alike image y agree (fault.Header why) p = (agree.gate ∙ p.0, agree.journal ∙ p.1, subst (λ bytes. IsHeaderReading bytes (Err why)) (sym agree.homes.header) p.2)
fault_alike image y agree (fault.Slot k s t) p = damage_alike image y agree (fault.Slot k s t) p
fault_alike image y agree (fault.Repeated a b) p = damage_alike image y agree (fault.Repeated a b) p
fault_alike image y agree (fault.Primary b) p = damage_alike image y agree (fault.Primary b) p
fault_alike image y agree (fault.EndNotLive a b) p = damage_alike image y agree (fault.EndNotLive a b) p
fault_alike image y agree (fault.Count b s f) p = damage_alike image y agree (fault.Count b s f) p

pub fault_both : (image y : Image) → ReadAlike image y → (why : ImageFault) → IsFirstFault image why ↔ IsFirstFault y why
fault_both image y agree why = (fault_alike image y agree why, fault_alike y image (agree_back image y agree) why)
