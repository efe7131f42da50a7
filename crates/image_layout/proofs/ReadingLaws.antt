-- A sector has one reading: no two answers hold of it together.
use Rattle.std.proofs.Common.{◌≡◌, ℕ, inl, inr, List, refl, sym, ◌∙◌, ap, subst, Result, Ok, Err}
use Rattle.tsd_model.specs.declared.geometry.Geometry.{Geometry}
use Rattle.tsd_model.specs.Geometry.{IsLawful}
use Rattle.image_layout.specs.declared.fault.HeaderFault.{HeaderFault}
use Rattle.image_layout.specs.declared.fault.HeaderFault.TheVariants.{Magic, Version, Field}
use Rattle.image_layout.specs.declared.header.Header.{Header}
use Rattle.image_layout.specs.Header.{IsHeaderReading, IsVersion, IsFirstBad, header_of}

-- a lawful geometry has no bad field
pub none_bad : (g : Geometry) (number found : ℕ) → IsLawful g → IsFirstBad g number found → ⊥
none_bad g number found lawful (inl a) = a.2 lawful.sectors
none_bad g number found lawful (inr (inl a)) = a.3 lawful.blocks
none_bad g number found lawful (inr (inr (inl a))) = a.4 lawful.primaries
none_bad g number found lawful (inr (inr (inr a))) = a.5 lawful.slots

-- the first bad field is one, and so is its value
pub one_bad : (g : Geometry) (n f m h : ℕ) → IsFirstBad g n f → IsFirstBad g m h → (n ≡ m) × (f ≡ h)
one_bad g n f m h (inl a) (inl b) = (a.0 ∙ sym b.0, a.1 ∙ sym b.1)
one_bad g n f m h (inl a) (inr (inl b)) = absurd (a.2 b.2)
one_bad g n f m h (inl a) (inr (inr (inl b))) = absurd (a.2 b.2)
one_bad g n f m h (inl a) (inr (inr (inr b))) = absurd (a.2 b.2)
one_bad g n f m h (inr (inl a)) (inl b) = absurd (b.2 a.2)
one_bad g n f m h (inr (inl a)) (inr (inl b)) = (a.0 ∙ sym b.0, a.1 ∙ sym b.1)
one_bad g n f m h (inr (inl a)) (inr (inr (inl b))) = absurd (a.3 b.3)
one_bad g n f m h (inr (inl a)) (inr (inr (inr b))) = absurd (a.3 b.3)
one_bad g n f m h (inr (inr (inl a))) (inl b) = absurd (b.2 a.2)
one_bad g n f m h (inr (inr (inl a))) (inr (inl b)) = absurd (b.3 a.3)
one_bad g n f m h (inr (inr (inl a))) (inr (inr (inl b))) = (a.0 ∙ sym b.0, a.1 ∙ sym b.1)
one_bad g n f m h (inr (inr (inl a))) (inr (inr (inr b))) = absurd (a.4 b.4)
one_bad g n f m h (inr (inr (inr a))) (inl b) = absurd (b.2 a.2)
one_bad g n f m h (inr (inr (inr a))) (inr (inl b)) = absurd (b.3 a.3)
one_bad g n f m h (inr (inr (inr a))) (inr (inr (inl b))) = absurd (b.4 a.4)
one_bad g n f m h (inr (inr (inr a))) (inr (inr (inr b))) = (a.0 ∙ sym b.0, a.1 ∙ sym b.1)

-- a sector that reads as a header has no fault
pub none_wrong : (bytes : List ℕ) (h : Header) (why : HeaderFault) → IsHeaderReading bytes (Ok h) → IsHeaderReading bytes (Err why) → ⊥
none_wrong bytes h Magic p q = q p.0
none_wrong bytes h (Version found) p q = q.2 (subst IsVersion (ap (λ (k : Header). k.version) p.3 ∙ sym q.1) p.1)
none_wrong bytes h (Field number found) p q =
    none_bad (header_of bytes).geometry number found (subst IsLawful (ap (λ (k : Header). k.geometry) p.3) p.2) q.2

-- two faults of a sector are one
pub one_fault : (bytes : List ℕ) (one other : HeaderFault) → IsHeaderReading bytes (Err one) → IsHeaderReading bytes (Err other) → one ≡ other
one_fault bytes Magic Magic p q = refl
one_fault bytes Magic (Version found) p q = absurd (p q.0)
one_fault bytes Magic (Field number found) p q = absurd (p q.0)
one_fault bytes (Version found) Magic p q = absurd (q p.0)
one_fault bytes (Version one) (Version other) p q = ap (λ n. Version n) (p.1 ∙ sym q.1)
one_fault bytes (Version one) (Field number found) p q = absurd (p.2 (subst IsVersion (sym p.1) q.1))
one_fault bytes (Field number found) Magic p q = absurd (q p.0)
one_fault bytes (Field number found) (Version other) p q = absurd (q.2 (subst IsVersion (sym q.1) p.1))
one_fault bytes (Field n f) (Field m h) p q =
    let both = one_bad (header_of bytes).geometry n f m h p.2 q.2 in λ i. Field (both.0 i) (both.1 i)

pub one_reading : (bytes : List ℕ) (one other : Result Header HeaderFault) → IsHeaderReading bytes one → IsHeaderReading bytes other → one ≡ other
one_reading bytes (Ok h) (Ok k) p q = ap Ok (p.3 ∙ sym q.3)
one_reading bytes (Ok h) (Err why) p q = absurd (none_wrong bytes h why p q)
one_reading bytes (Err why) (Ok h) p q = absurd (none_wrong bytes h why q p)
one_reading bytes (Err one) (Err other) p q = ap Err (one_fault bytes one other p q)
