-- What `audit` puts is answered yes, and yes means that exactly the listed blocks are reached.
use Rattle.std.proofs.Common.{◌≡◌, inl, inr, ℕ, zero, suc, ◌+◌, ◌^◌, ◌<◌, ◌≤◌, ◌&&◌, nat_le, nat_lt, true, false, List, [], ◌∷◌, ◌++◌, length, refl, sym, ◌∙◌, ap, subst, arith, Option, Some, None}
use Rattle.std.specs.Prelude.{IfSome, is_some, replicate, slice_set}
use Rattle.std.proofs.lemmas.Bool.{and_parts, both_ways, ltb-true}
use Rattle.disk_laws.proofs.GraphLaws.{has_number-range}
use Rattle.script_text.specs.Pieces.{all_lines}
use Rattle.tsd_model.specs.Reach.{reach}
use Rattle.tsd_model.specs.Valid.{IsValid}
use Rattle.tsd_model.specs.World.{World, has_number, primary_blocks}
use Rattle.tsd_words.specs.Lines.{line_of}
use Rattle.image_audit.specs.declared.entry.Entry.{Entry}
use Rattle.image_audit.specs.declared.listing.Listing.{Listing}
use Rattle.image_audit.specs.declared.verdict.Verdict.{Verdict}
use Rattle.image_audit.specs.declared.verdict.Verdict.TheVariants as verdict
use Rattle.image_audit.specs.Certificates.{IsVerdict}
use Rattle.image_audit.specs.Depths.{AreReached, IsDepth, IsEntryOf, IsParent, IsPath}
use Rattle.image_audit.specs.Entries.{entry_at, is_listed}
use Rattle.image_audit.specs.Laws.{AreTaken, IsWholeWorld, listings_from}
use Rattle.image_audit.specs.Listing.{ListsNone, MayFollow}
use Rattle.image_audit.specs.Texts.{verdict_words}
use Rattle.image_audit.proofs.PathLaws.{path_of_round, reached_by_path}
use Rattle.image_audit.proofs.TakingLaws.{one_listing, taken_behind}
use Rattle.image_audit.proofs.VerdictLaws.{found_closed, found_no_bad, found_primaries, shown_reached}
use Rattle.audit_runs.specs.Audit.{listings_text}
use Rattle.audit_runs.specs.Certificate.{AreSpelled, IsCertificate}
use Rattle.audit_runs.specs.Laws.{AuditsAreAnsweredYes, YesMeansReached, yes_line}
use Rattle.audit_runs.proofs.TextLaws.{IsSmall, small_from, small_spelled}

-- ---- lines are one certificate

-- the same lines leave the same entries
one_end : (lines : List (List ℕ)) (ks ls : List Listing) (old one other : List (Option Entry)) → AreSpelled lines ks → AreSpelled lines ls → AreTaken ks old one → AreTaken ls old other → one ≡ other
one_end [] [] [] old one other hk hl tk tl = tk ∙ sym tl
one_end [] [] (l ∷ ls) old one other hk hl tk tl = absurd hl
one_end [] (k ∷ ks) ls old one other hk hl tk tl = absurd hk
one_end (x ∷ xs) [] ls old one other hk hl tk tl = absurd hk
one_end (x ∷ xs) (k ∷ ks) [] old one other hk hl tk tl = absurd hl
one_end (x ∷ xs) (k ∷ ks) (l ∷ ls) old one other hk hl tk tl =
    let same = one_listing x k l hk.0 hl.0 in
    one_end xs ks ls (slice_set old l.block (Some l.entry)) one other hk.1 hl.1 (subst (λ (m : Listing). AreTaken ks (slice_set old m.block (Some m.entry)) one) same tk.1) tl.1

-- where all lines are taken, none of them is refused
none_refused : (before : List (List ℕ)) (line : List ℕ) (behind : List (List ℕ)) (ks ls : List Listing) (old one other : List (Option Entry)) → AreSpelled before ks → AreTaken ks old one → ListsNone line one
    → AreSpelled (before ++ line ∷ behind) ls → AreTaken ls old other → ⊥
none_refused [] line behind [] [] old one other hk tk refused hl tl = hl
none_refused [] line behind [] (l ∷ ls) old one other hk tk refused hl tl = refused l hl.0 (subst (λ es. MayFollow es l.block) (sym tk) tl.0)
none_refused [] line behind (k ∷ ks) ls old one other hk tk refused hl tl = hk
none_refused (x ∷ xs) line behind [] ls old one other hk tk refused hl tl = hk
none_refused (x ∷ xs) line behind (k ∷ ks) [] old one other hk tk refused hl tl = hl
none_refused (x ∷ xs) line behind (k ∷ ks) (l ∷ ls) old one other hk tk refused hl tl =
    let same = one_listing x k l hk.0 hl.0 in
    none_refused xs line behind ks ls (slice_set old l.block (Some l.entry)) one other hk.1 (subst (λ (m : Listing). AreTaken ks (slice_set old m.block (Some m.entry)) one) same tk.1) refused hl.1 tl.1

-- ---- the certificate of a world

module _ (w : World) (valid : IsValid w) where
  whole : IsWholeWorld w
  whole = record { each_block = valid.raw.sized.each_block; targets = valid.raw.targets }

  few : w.geometry.primaries < w.geometry.blocks
  few = valid.raw.sized.lawful.primaries.2

  inside : (b : ℕ) → has_number (primary_blocks w) b ≡ true → b < w.geometry.blocks
  inside b h = at (sym (has_number-range 0 w.geometry.primaries b) ∙ h)
    where
      at : (nat_le 0 b && nat_lt b (0 + w.geometry.primaries)) ≡ true → b < w.geometry.blocks
      at g = let below = ltb-true b (0 + w.geometry.primaries) (and_parts (nat_le 0 b) (nat_lt b (0 + w.geometry.primaries)) g).1 in let fewer = few in omega (arith, below, fewer)

  path_reached : (n b : ℕ) → IsPath w (primary_blocks w) n b → has_number (reach w) b ≡ true
  path_reached = reached_by_path w (primary_blocks w) whole inside

  most : w.geometry.blocks ≤ 1048576
  most = valid.raw.sized.lawful.blocks.1

  module _ (entries : List (Option Entry)) (blocks : length entries ≡ w.geometry.blocks) (reached : AreReached w (primary_blocks w) entries) where
    -- a block that is listed is one of the disk
    listed_below : (es : List (Option Entry)) (b : ℕ) → is_listed es b ≡ true → b < length es
    listed_below [] b h = absurd (both_ways false refl h)
    listed_below (e ∷ es) zero h = omega arith
    listed_below (e ∷ es) (suc b) h = let below = listed_below es b h in omega (arith, below)

    small_block : (b : ℕ) → is_listed entries b ≡ true → b < 2 ^ 32
    small_block b h = let below = listed_below entries b h in omega (arith, below, blocks, most)

    small_depth : (b d : ℕ) → is_listed entries b ≡ true → IsDepth w (primary_blocks w) b d → d < 2 ^ 32
    small_depth b d h depth =
        let p = path_of_round w (primary_blocks w) whole inside w.geometry.blocks b (sym (reached.listed b) ∙ h) in
        let short = depth.shortest p.0 p.2 in
        let rounds = p.1 in
        omega (arith, short, rounds, most)

    small_parent : (b d : ℕ) (o : Option ℕ) → IsParent w (primary_blocks w) b d o → IfSome o (λ a. a < 2 ^ 32)
    small_parent b d None h = tt
    small_parent b zero (Some a) h = absurd h
    small_parent b (suc d) (Some a) h = small_block a (reached.listed a ∙ path_reached d a h.leads.above.path)

    small_entry : (b : ℕ) → IfSome (entry_at entries b) (λ e. IsSmall (record { block = b; entry = e }))
    small_entry b = elim (entry_at entries b) as (λ o. entry_at entries b ≡ o → IfSome o (IsEntryOf w (primary_blocks w) b) → IfSome o (λ e. IsSmall (record { block = b; entry = e }))) [
      | None ↦ λ is h. tt
      | Some e ↦ λ is h. let listed : is_listed entries b ≡ true = ap (λ o. is_some o) is in record {
        block = small_block b listed;
        depth = small_depth b e.depth listed h.depth;
        parent = small_parent b e.depth e.parent h.parent;
      }
    ] refl (reached.each b)

    from_zero : (k : ℕ) (o : Option Entry) → IfSome o (λ e. IsSmall (record { block = k; entry = e })) → IfSome o (λ e. IsSmall (record { block = 0 + k; entry = e }))
    from_zero k None h = tt
    from_zero k (Some e) h = let at : k ≡ 0 + k = omega arith in subst (λ (n : ℕ). IsSmall (record { block = n; entry = e })) at h

    certificate_of : IsCertificate (all_lines (listings_text (listings_from 0 entries))) w.geometry.blocks entries
    certificate_of = record {
      listings = listings_from 0 entries;
      spelled = small_spelled (listings_from 0 entries) (small_from entries 0 (λ k. from_zero k (entry_at entries k) (small_entry k)));
      taken = subst (λ (n : ℕ). AreTaken (listings_from 0 entries) (replicate n None) entries) blocks (taken_behind entries [] 0 refl);
    }

    -- no verdict over it but yes
    yes_of : (v : Verdict) → IsVerdict w entries v → (n : ℕ) × (v ≡ verdict.Yes n)
    yes_of (verdict.Yes n) h = (n, refl)
    yes_of (verdict.Primary b) h = absurd (both_ways (is_listed entries b) h.out (found_primaries w whole few entries reached b h.primary))
    yes_of (verdict.Entry b) h = absurd (found_no_bad w whole few entries reached b h.1.bad)
    yes_of (verdict.Open a b) h = absurd (found_closed w whole few entries reached a b h.2.leaves)

pub answered_yes : AuditsAreAnsweredYes
answered_yes w text answer valid audit (inl form) =
    let all = certificate_of w valid audit.entries audit.blocks audit.reached in
    absurd (none_refused form.first.before form.first.line form.first.behind form.first.taken.listings all.listings (replicate w.geometry.blocks None) form.first.entries audit.entries
    form.first.taken.spelled form.first.taken.taken form.first.refused
    (subst (λ ls. AreSpelled ls all.listings) (ap all_lines (sym audit.lines) ∙ form.first.parts) all.spelled) all.taken)
answered_yes w text answer valid audit (inr shown) =
    let all = certificate_of w valid audit.entries audit.blocks audit.reached in
    let same : shown.entries ≡ audit.entries =
    one_end (all_lines text) shown.certificate.listings all.listings (replicate w.geometry.blocks None) shown.entries audit.entries
    shown.certificate.spelled (subst (λ (t : List ℕ). AreSpelled (all_lines t) all.listings) (sym audit.lines) all.spelled) shown.certificate.taken all.taken in
    let yes = yes_of w valid audit.entries audit.blocks audit.reached shown.verdict (subst (λ es. IsVerdict w es shown.verdict) same shown.shown) in
    (yes.0, shown.says ∙ ap (λ (v : Verdict). line_of (verdict_words v)) yes.1)

-- ---- the answer yes

-- its line begins otherwise than each other's
abbrev first_byte : List ℕ → ℕ
first_byte [] = 0
first_byte (b ∷ bs) = b

yes_begins : (v : Verdict) (n : ℕ) → yes_line n ≡ line_of (verdict_words v) → (m : ℕ) × (v ≡ verdict.Yes m)
yes_begins (verdict.Yes m) n e = (m, refl)
yes_begins v n e = let first : 121 ≡ 110 = ap first_byte e in absurd (omega (arith, first))

pub yes_reached : YesMeansReached
yes_reached w lines n valid (inl form) = let first : 121 ≡ 110 = ap first_byte form.says in absurd (omega (arith, first))
yes_reached w lines n valid (inr shown) =
    let yes = yes_begins shown.verdict n shown.says in
    let all = subst (λ (v : Verdict). IsVerdict w shown.entries v) yes.1 shown.shown in
    (shown.entries, shown.certificate, shown_reached w (whole w valid) (few w valid) shown.entries all.0 all.1 all.2)
