-- No two answers of the tests hold together.
use Rattle.std.proofs.Common.{◌≡◌, ℕ, true, inl, inr, refl, sym, ◌∙◌, ap}
use Rattle.image_world.proofs.Common.{cases_order, both_ways, Geometry, ImageFault, header_sector, format_gate, none_wrong, one_why, Image, says_open, is_bit_set, stored_count, source_field, target_field, home, has_valid_records, is_bad_slot, is_bad_at, HasNoBad, IsLeastBadSlot, IsLeastRepeated, HasPrimaries, HasEnds, HasCounts, AreRight, are_marked, found_count, IsLeastPrimary, IsLeastEnd, IsLeastCount, IsTableFault, IsGood, IsFirstFault, header_on}
use Rattle.tsd_model.proofs.PlaceLaws.{same_pair}
use Rattle.image_layout.specs.declared.fault.ImageFault.TheVariants as fault

-- ---- a test that passes has no fault
bad_there : (x : Image) (g : Geometry) (k s t : ℕ) → IsLeastBadSlot x g k s t → is_bad_at x g k ≡ true
bad_there x g k s t least = ap (λ a. is_bad_slot g a (target_field x g k)) (sym least.source_is) ∙ (ap (is_bad_slot g s) (sym least.target_is) ∙ least.bad)

not_bad : (x : Image) (g : Geometry) (k s t : ℕ) → HasNoBad x g → IsLeastBadSlot x g k s t → ⊥
not_bad x g k s t none least = both_ways (is_bad_at x g k) (none k least.inside) (bad_there x g k s t least)

not_free : (x : Image) (g : Geometry) (b : ℕ) → HasPrimaries x g → IsLeastPrimary x g b → ⊥
not_free x g b all least = both_ways (is_bit_set x g b) least.free (all b least.inside)

not_ended : (x : Image) (g : Geometry) (e : ℕ × ℕ) → HasEnds x g → IsLeastEnd x g e → ⊥
not_ended x g e all least = both_ways (are_marked x g e) least.free (all e least.held)

not_counted : (x : Image) (g : Geometry) (b s f : ℕ) → HasCounts x g → IsLeastCount x g b s f → ⊥
not_counted x g b s f all least = least.wrong (least.stored_is ∙ (all b least.inside ∙ sym least.found_is))

-- ---- the least is one
one_slot : (x : Image) (g : Geometry) (k s t j u v : ℕ) → IsLeastBadSlot x g k s t → IsLeastBadSlot x g j u v → fault.Slot k s t ≡ fault.Slot j u v
one_slot x g k s t j u v one other = elim (cases_order k j) [
  | inl same ↦
      let source : s ≡ u = one.source_is ∙ (ap (source_field x g) same ∙ sym other.source_is) in
      let target : t ≡ v = one.target_is ∙ (ap (target_field x g) same ∙ sym other.target_is) in
      cc
  | inr order ↦ elim order [
    | inl before ↦ absurd (both_ways (is_bad_at x g k) (other.least k before) (bad_there x g k s t one))
    | inr after ↦ absurd (both_ways (is_bad_at x g j) (one.least j after) (bad_there x g j u v other))
  ]
]

one_repeated : (x : Image) (g : Geometry) (a b c d : ℕ) → IsLeastRepeated x g (a, b) → IsLeastRepeated x g (c, d) → fault.Repeated a b ≡ fault.Repeated c d
one_repeated x g a b c d one other =
    let both = same_pair a b c d (other.least (a, b) one.repeated) (one.least (c, d) other.repeated) in
    let source = both.0 in
    let target = both.1 in
    cc

one_primary : (x : Image) (g : Geometry) (a b : ℕ) → IsLeastPrimary x g a → IsLeastPrimary x g b → fault.Primary a ≡ fault.Primary b
one_primary x g a b one other = elim (cases_order a b) [
  | inl same ↦ ap fault.Primary same
  | inr order ↦ elim order [
    | inl before ↦ absurd (both_ways (is_bit_set x g a) one.free (other.least a before))
    | inr after ↦ absurd (both_ways (is_bit_set x g b) other.free (one.least b after))
  ]
]

one_end : (x : Image) (g : Geometry) (a b c d : ℕ) → IsLeastEnd x g (a, b) → IsLeastEnd x g (c, d) → fault.EndNotLive a b ≡ fault.EndNotLive c d
one_end x g a b c d one other =
    let both = same_pair a b c d (other.least (a, b) one.held one.free) (one.least (c, d) other.held other.free) in
    let source = both.0 in
    let target = both.1 in
    cc

count_wrong : (x : Image) (g : Geometry) (b s f : ℕ) → IsLeastCount x g b s f → stored_count x g b ≡ found_count x g b → ⊥
count_wrong x g b s f least right = least.wrong (least.stored_is ∙ (right ∙ sym least.found_is))

one_count : (x : Image) (g : Geometry) (a s f b t h : ℕ) → IsLeastCount x g a s f → IsLeastCount x g b t h → fault.Count a s f ≡ fault.Count b t h
one_count x g a s f b t h one other = elim (cases_order a b) [
  | inl same ↦
      let stored : s ≡ t = one.stored_is ∙ (ap (stored_count x g) same ∙ sym other.stored_is) in
      let found : f ≡ h = one.found_is ∙ (ap (found_count x g) same ∙ sym other.found_is) in
      cc
  | inr order ↦ elim order [
    | inl before ↦ absurd (count_wrong x g a s f one (other.least a before))
    | inr after ↦ absurd (count_wrong x g b t h other (one.least b after))
  ]
]

-- ---- tests 4 to 8
one_table_fault : (x : Image) (g : Geometry) (one other : ImageFault) → IsTableFault x g one → IsTableFault x g other → one ≡ other
one_table_fault x g fault.NotFormatted other p q = absurd p
one_table_fault x g fault.Descriptor other p q = absurd p
one_table_fault x g (fault.Header why) other p q = absurd p
one_table_fault x g (fault.Slot k1 s1 t1) fault.NotFormatted p q = absurd q
one_table_fault x g (fault.Slot k1 s1 t1) fault.Descriptor p q = absurd q
one_table_fault x g (fault.Slot k1 s1 t1) (fault.Header why) p q = absurd q
one_table_fault x g (fault.Slot k1 s1 t1) (fault.Slot k2 s2 t2) p q = one_slot x g k1 s1 t1 k2 s2 t2 p q
one_table_fault x g (fault.Slot k1 s1 t1) (fault.Repeated a2 b2) p q = absurd (not_bad x g k1 s1 t1 q.0 p)
one_table_fault x g (fault.Slot k1 s1 t1) (fault.Primary b2) p q = absurd (not_bad x g k1 s1 t1 q.0 p)
one_table_fault x g (fault.Slot k1 s1 t1) (fault.EndNotLive a2 b2) p q = absurd (not_bad x g k1 s1 t1 q.0 p)
one_table_fault x g (fault.Slot k1 s1 t1) (fault.Count b2 s2 f2) p q = absurd (not_bad x g k1 s1 t1 q.0 p)
one_table_fault x g (fault.Repeated a1 b1) fault.NotFormatted p q = absurd q
one_table_fault x g (fault.Repeated a1 b1) fault.Descriptor p q = absurd q
one_table_fault x g (fault.Repeated a1 b1) (fault.Header why) p q = absurd q
one_table_fault x g (fault.Repeated a1 b1) (fault.Slot k2 s2 t2) p q = absurd (not_bad x g k2 s2 t2 p.0 q)
one_table_fault x g (fault.Repeated a1 b1) (fault.Repeated a2 b2) p q = one_repeated x g a1 b1 a2 b2 p.1 q.1
one_table_fault x g (fault.Repeated a1 b1) (fault.Primary b2) p q = absurd (q.1 (a1, b1) p.1.repeated)
one_table_fault x g (fault.Repeated a1 b1) (fault.EndNotLive a2 b2) p q = absurd (q.1 (a1, b1) p.1.repeated)
one_table_fault x g (fault.Repeated a1 b1) (fault.Count b2 s2 f2) p q = absurd (q.1 (a1, b1) p.1.repeated)
one_table_fault x g (fault.Primary b1) fault.NotFormatted p q = absurd q
one_table_fault x g (fault.Primary b1) fault.Descriptor p q = absurd q
one_table_fault x g (fault.Primary b1) (fault.Header why) p q = absurd q
one_table_fault x g (fault.Primary b1) (fault.Slot k2 s2 t2) p q = absurd (not_bad x g k2 s2 t2 p.0 q)
one_table_fault x g (fault.Primary b1) (fault.Repeated a2 b2) p q = absurd (p.1 (a2, b2) q.1.repeated)
one_table_fault x g (fault.Primary b1) (fault.Primary b2) p q = one_primary x g b1 b2 p.2 q.2
one_table_fault x g (fault.Primary b1) (fault.EndNotLive a2 b2) p q = absurd (not_free x g b1 q.2 p.2)
one_table_fault x g (fault.Primary b1) (fault.Count b2 s2 f2) p q = absurd (not_free x g b1 q.2 p.2)
one_table_fault x g (fault.EndNotLive a1 b1) fault.NotFormatted p q = absurd q
one_table_fault x g (fault.EndNotLive a1 b1) fault.Descriptor p q = absurd q
one_table_fault x g (fault.EndNotLive a1 b1) (fault.Header why) p q = absurd q
one_table_fault x g (fault.EndNotLive a1 b1) (fault.Slot k2 s2 t2) p q = absurd (not_bad x g k2 s2 t2 p.0 q)
one_table_fault x g (fault.EndNotLive a1 b1) (fault.Repeated a2 b2) p q = absurd (p.1 (a2, b2) q.1.repeated)
one_table_fault x g (fault.EndNotLive a1 b1) (fault.Primary b2) p q = absurd (not_free x g b2 p.2 q.2)
one_table_fault x g (fault.EndNotLive a1 b1) (fault.EndNotLive a2 b2) p q = one_end x g a1 b1 a2 b2 p.3 q.3
one_table_fault x g (fault.EndNotLive a1 b1) (fault.Count b2 s2 f2) p q = absurd (not_ended x g (a1, b1) q.3 p.3)
one_table_fault x g (fault.Count b1 s1 f1) fault.NotFormatted p q = absurd q
one_table_fault x g (fault.Count b1 s1 f1) fault.Descriptor p q = absurd q
one_table_fault x g (fault.Count b1 s1 f1) (fault.Header why) p q = absurd q
one_table_fault x g (fault.Count b1 s1 f1) (fault.Slot k2 s2 t2) p q = absurd (not_bad x g k2 s2 t2 p.0 q)
one_table_fault x g (fault.Count b1 s1 f1) (fault.Repeated a2 b2) p q = absurd (p.1 (a2, b2) q.1.repeated)
one_table_fault x g (fault.Count b1 s1 f1) (fault.Primary b2) p q = absurd (not_free x g b2 p.2 q.2)
one_table_fault x g (fault.Count b1 s1 f1) (fault.EndNotLive a2 b2) p q = absurd (not_ended x g (a2, b2) p.3 q.3)
one_table_fault x g (fault.Count b1 s1 f1) (fault.Count b2 s2 f2) p q = one_count x g b1 s1 f1 b2 s2 f2 p.4 q.4

no_table_fault : (x : Image) (g : Geometry) (why : ImageFault) → AreRight x g → IsTableFault x g why → ⊥
no_table_fault x g fault.NotFormatted right p = p
no_table_fault x g fault.Descriptor right p = p
no_table_fault x g (fault.Header why) right p = p
no_table_fault x g (fault.Slot k s t) right p = not_bad x g k s t right.no_bad p
no_table_fault x g (fault.Repeated a b) right p = right.none_repeated (a, b) p.1.repeated
no_table_fault x g (fault.Primary b) right p = not_free x g b right.primaries p.2
no_table_fault x g (fault.EndNotLive a b) right p = not_ended x g (a, b) right.ends p.3
no_table_fault x g (fault.Count b s f) right p = not_counted x g b s f right.counts p.4

-- ---- all of them
pub one_fault : (image : Image) (one other : ImageFault) → IsFirstFault image one → IsFirstFault image other → one ≡ other
one_fault image fault.NotFormatted fault.NotFormatted p q = refl
one_fault image fault.NotFormatted fault.Descriptor p q = absurd (both_ways (says_open (image format_gate)) p q.0)
one_fault image fault.NotFormatted (fault.Header bwhy) p q = absurd (both_ways (says_open (image format_gate)) p q.0)
one_fault image fault.NotFormatted (fault.Slot k2 s2 t2) p q = absurd (both_ways (says_open (image format_gate)) p q.formatted)
one_fault image fault.NotFormatted (fault.Repeated a2 b2) p q = absurd (both_ways (says_open (image format_gate)) p q.formatted)
one_fault image fault.NotFormatted (fault.Primary b2) p q = absurd (both_ways (says_open (image format_gate)) p q.formatted)
one_fault image fault.NotFormatted (fault.EndNotLive a2 b2) p q = absurd (both_ways (says_open (image format_gate)) p q.formatted)
one_fault image fault.NotFormatted (fault.Count b2 s2 f2) p q = absurd (both_ways (says_open (image format_gate)) p q.formatted)
one_fault image fault.Descriptor fault.NotFormatted p q = absurd (both_ways (says_open (image format_gate)) q p.0)
one_fault image fault.Descriptor fault.Descriptor p q = refl
one_fault image fault.Descriptor (fault.Header bwhy) p q = absurd (both_ways (has_valid_records image) p.1 q.1)
one_fault image fault.Descriptor (fault.Slot k2 s2 t2) p q = absurd (both_ways (has_valid_records image) p.1 q.journal)
one_fault image fault.Descriptor (fault.Repeated a2 b2) p q = absurd (both_ways (has_valid_records image) p.1 q.journal)
one_fault image fault.Descriptor (fault.Primary b2) p q = absurd (both_ways (has_valid_records image) p.1 q.journal)
one_fault image fault.Descriptor (fault.EndNotLive a2 b2) p q = absurd (both_ways (has_valid_records image) p.1 q.journal)
one_fault image fault.Descriptor (fault.Count b2 s2 f2) p q = absurd (both_ways (has_valid_records image) p.1 q.journal)
one_fault image (fault.Header awhy) fault.NotFormatted p q = absurd (both_ways (says_open (image format_gate)) q p.0)
one_fault image (fault.Header awhy) fault.Descriptor p q = absurd (both_ways (has_valid_records image) q.1 p.1)
one_fault image (fault.Header awhy) (fault.Header bwhy) p q = ap fault.Header (one_why (home image header_sector) awhy bwhy p.2 q.2)
one_fault image (fault.Header awhy) (fault.Slot k2 s2 t2) p q = absurd (none_wrong (home image header_sector) (header_on (home image)) awhy q.header p.2)
one_fault image (fault.Header awhy) (fault.Repeated a2 b2) p q = absurd (none_wrong (home image header_sector) (header_on (home image)) awhy q.header p.2)
one_fault image (fault.Header awhy) (fault.Primary b2) p q = absurd (none_wrong (home image header_sector) (header_on (home image)) awhy q.header p.2)
one_fault image (fault.Header awhy) (fault.EndNotLive a2 b2) p q = absurd (none_wrong (home image header_sector) (header_on (home image)) awhy q.header p.2)
one_fault image (fault.Header awhy) (fault.Count b2 s2 f2) p q = absurd (none_wrong (home image header_sector) (header_on (home image)) awhy q.header p.2)
one_fault image (fault.Slot k1 s1 t1) fault.NotFormatted p q = absurd (both_ways (says_open (image format_gate)) q p.formatted)
one_fault image (fault.Slot k1 s1 t1) fault.Descriptor p q = absurd (both_ways (has_valid_records image) q.1 p.journal)
one_fault image (fault.Slot k1 s1 t1) (fault.Header bwhy) p q = absurd (none_wrong (home image header_sector) (header_on (home image)) bwhy p.header q.2)
one_fault image (fault.Slot k1 s1 t1) (fault.Slot k2 s2 t2) p q = one_table_fault (home image) (header_on (home image)).geometry (fault.Slot k1 s1 t1) (fault.Slot k2 s2 t2) p.tables q.tables
one_fault image (fault.Slot k1 s1 t1) (fault.Repeated a2 b2) p q = one_table_fault (home image) (header_on (home image)).geometry (fault.Slot k1 s1 t1) (fault.Repeated a2 b2) p.tables q.tables
one_fault image (fault.Slot k1 s1 t1) (fault.Primary b2) p q = one_table_fault (home image) (header_on (home image)).geometry (fault.Slot k1 s1 t1) (fault.Primary b2) p.tables q.tables
one_fault image (fault.Slot k1 s1 t1) (fault.EndNotLive a2 b2) p q = one_table_fault (home image) (header_on (home image)).geometry (fault.Slot k1 s1 t1) (fault.EndNotLive a2 b2) p.tables q.tables
one_fault image (fault.Slot k1 s1 t1) (fault.Count b2 s2 f2) p q = one_table_fault (home image) (header_on (home image)).geometry (fault.Slot k1 s1 t1) (fault.Count b2 s2 f2) p.tables q.tables
one_fault image (fault.Repeated a1 b1) fault.NotFormatted p q = absurd (both_ways (says_open (image format_gate)) q p.formatted)
one_fault image (fault.Repeated a1 b1) fault.Descriptor p q = absurd (both_ways (has_valid_records image) q.1 p.journal)
one_fault image (fault.Repeated a1 b1) (fault.Header bwhy) p q = absurd (none_wrong (home image header_sector) (header_on (home image)) bwhy p.header q.2)
one_fault image (fault.Repeated a1 b1) (fault.Slot k2 s2 t2) p q = one_table_fault (home image) (header_on (home image)).geometry (fault.Repeated a1 b1) (fault.Slot k2 s2 t2) p.tables q.tables
one_fault image (fault.Repeated a1 b1) (fault.Repeated a2 b2) p q = one_table_fault (home image) (header_on (home image)).geometry (fault.Repeated a1 b1) (fault.Repeated a2 b2) p.tables q.tables
one_fault image (fault.Repeated a1 b1) (fault.Primary b2) p q = one_table_fault (home image) (header_on (home image)).geometry (fault.Repeated a1 b1) (fault.Primary b2) p.tables q.tables
one_fault image (fault.Repeated a1 b1) (fault.EndNotLive a2 b2) p q = one_table_fault (home image) (header_on (home image)).geometry (fault.Repeated a1 b1) (fault.EndNotLive a2 b2) p.tables q.tables
one_fault image (fault.Repeated a1 b1) (fault.Count b2 s2 f2) p q = one_table_fault (home image) (header_on (home image)).geometry (fault.Repeated a1 b1) (fault.Count b2 s2 f2) p.tables q.tables
one_fault image (fault.Primary b1) fault.NotFormatted p q = absurd (both_ways (says_open (image format_gate)) q p.formatted)
one_fault image (fault.Primary b1) fault.Descriptor p q = absurd (both_ways (has_valid_records image) q.1 p.journal)
one_fault image (fault.Primary b1) (fault.Header bwhy) p q = absurd (none_wrong (home image header_sector) (header_on (home image)) bwhy p.header q.2)
one_fault image (fault.Primary b1) (fault.Slot k2 s2 t2) p q = one_table_fault (home image) (header_on (home image)).geometry (fault.Primary b1) (fault.Slot k2 s2 t2) p.tables q.tables
one_fault image (fault.Primary b1) (fault.Repeated a2 b2) p q = one_table_fault (home image) (header_on (home image)).geometry (fault.Primary b1) (fault.Repeated a2 b2) p.tables q.tables
one_fault image (fault.Primary b1) (fault.Primary b2) p q = one_table_fault (home image) (header_on (home image)).geometry (fault.Primary b1) (fault.Primary b2) p.tables q.tables
one_fault image (fault.Primary b1) (fault.EndNotLive a2 b2) p q = one_table_fault (home image) (header_on (home image)).geometry (fault.Primary b1) (fault.EndNotLive a2 b2) p.tables q.tables
one_fault image (fault.Primary b1) (fault.Count b2 s2 f2) p q = one_table_fault (home image) (header_on (home image)).geometry (fault.Primary b1) (fault.Count b2 s2 f2) p.tables q.tables
one_fault image (fault.EndNotLive a1 b1) fault.NotFormatted p q = absurd (both_ways (says_open (image format_gate)) q p.formatted)
one_fault image (fault.EndNotLive a1 b1) fault.Descriptor p q = absurd (both_ways (has_valid_records image) q.1 p.journal)
one_fault image (fault.EndNotLive a1 b1) (fault.Header bwhy) p q = absurd (none_wrong (home image header_sector) (header_on (home image)) bwhy p.header q.2)
one_fault image (fault.EndNotLive a1 b1) (fault.Slot k2 s2 t2) p q = one_table_fault (home image) (header_on (home image)).geometry (fault.EndNotLive a1 b1) (fault.Slot k2 s2 t2) p.tables q.tables
one_fault image (fault.EndNotLive a1 b1) (fault.Repeated a2 b2) p q = one_table_fault (home image) (header_on (home image)).geometry (fault.EndNotLive a1 b1) (fault.Repeated a2 b2) p.tables q.tables
one_fault image (fault.EndNotLive a1 b1) (fault.Primary b2) p q = one_table_fault (home image) (header_on (home image)).geometry (fault.EndNotLive a1 b1) (fault.Primary b2) p.tables q.tables
one_fault image (fault.EndNotLive a1 b1) (fault.EndNotLive a2 b2) p q = one_table_fault (home image) (header_on (home image)).geometry (fault.EndNotLive a1 b1) (fault.EndNotLive a2 b2) p.tables q.tables
one_fault image (fault.EndNotLive a1 b1) (fault.Count b2 s2 f2) p q = one_table_fault (home image) (header_on (home image)).geometry (fault.EndNotLive a1 b1) (fault.Count b2 s2 f2) p.tables q.tables
one_fault image (fault.Count b1 s1 f1) fault.NotFormatted p q = absurd (both_ways (says_open (image format_gate)) q p.formatted)
one_fault image (fault.Count b1 s1 f1) fault.Descriptor p q = absurd (both_ways (has_valid_records image) q.1 p.journal)
one_fault image (fault.Count b1 s1 f1) (fault.Header bwhy) p q = absurd (none_wrong (home image header_sector) (header_on (home image)) bwhy p.header q.2)
one_fault image (fault.Count b1 s1 f1) (fault.Slot k2 s2 t2) p q = one_table_fault (home image) (header_on (home image)).geometry (fault.Count b1 s1 f1) (fault.Slot k2 s2 t2) p.tables q.tables
one_fault image (fault.Count b1 s1 f1) (fault.Repeated a2 b2) p q = one_table_fault (home image) (header_on (home image)).geometry (fault.Count b1 s1 f1) (fault.Repeated a2 b2) p.tables q.tables
one_fault image (fault.Count b1 s1 f1) (fault.Primary b2) p q = one_table_fault (home image) (header_on (home image)).geometry (fault.Count b1 s1 f1) (fault.Primary b2) p.tables q.tables
one_fault image (fault.Count b1 s1 f1) (fault.EndNotLive a2 b2) p q = one_table_fault (home image) (header_on (home image)).geometry (fault.Count b1 s1 f1) (fault.EndNotLive a2 b2) p.tables q.tables
one_fault image (fault.Count b1 s1 f1) (fault.Count b2 s2 f2) p q = one_table_fault (home image) (header_on (home image)).geometry (fault.Count b1 s1 f1) (fault.Count b2 s2 f2) p.tables q.tables

pub no_fault : (image : Image) (why : ImageFault) → IsGood image → IsFirstFault image why → ⊥
no_fault image fault.NotFormatted good p = both_ways (says_open (image format_gate)) p good.formatted
no_fault image fault.Descriptor good p = both_ways (has_valid_records image) p.1 good.journal
no_fault image (fault.Header why) good p = none_wrong (home image header_sector) (header_on (home image)) why good.header p.2
no_fault image (fault.Slot k s t) good p = no_table_fault (home image) (header_on (home image)).geometry (fault.Slot k s t) good.tables p.tables
no_fault image (fault.Repeated a b) good p = no_table_fault (home image) (header_on (home image)).geometry (fault.Repeated a b) good.tables p.tables
no_fault image (fault.Primary b) good p = no_table_fault (home image) (header_on (home image)).geometry (fault.Primary b) good.tables p.tables
no_fault image (fault.EndNotLive a b) good p = no_table_fault (home image) (header_on (home image)).geometry (fault.EndNotLive a b) good.tables p.tables
no_fault image (fault.Count b s f) good p = no_table_fault (home image) (header_on (home image)).geometry (fault.Count b s f) good.tables p.tables
