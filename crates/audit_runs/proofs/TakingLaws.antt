-- The lines of an input, taken one after another.
use Rattle.std.proofs.Common.{◌≡◌, ℕ, suc, ◌+◌, ◌-◌, ◌^◌, ◌<◌, min, List, [], ◌∷◌, ◌++◌, length, map, true, false, refl, sym, ◌∙◌, ap, subst, arith, append_assoc, length-append, Option, Some, None}
use Rattle.std.specs.Prelude.{is_some, replicate, slice_set}
use Rattle.std.proofs.lemmas.Bool.{both_ways}
use Rattle.std.proofs.lemmas.List.{map-append}
use Rattle.script_text.specs.Pieces.{all_lines, if_some, lines, unended}
use Rattle.serving.specs.Input.{all_requests, last}
use Rattle.image_audit.specs.declared.certificate.FormFault.{FormFault}
use Rattle.image_audit.specs.declared.entry.Entry.{Entry}
use Rattle.image_audit.specs.declared.listing.Listing.{Listing}
use Rattle.image_audit.specs.Laws.{AreTaken}
use Rattle.image_audit.specs.Listing.{IsNotTaken, IsListingTaken, Listed, MayFollow}
use Rattle.image_audit.specs.ListingReading.{listing_of}
use Rattle.image_audit.proofs.ListingLaws.{line_back, line_is}
use Rattle.audit_runs.specs.Certificate.{AreSpelled}
use Rattle.audit_runs.specs.Lines.{listing_ending, listing_spelling}
use Rattle.audit_runs.specs.Taking.{HasTaken, IsReadAs, RefusedAt, TakenAll}

-- ---- one line more

taken_snoc : (ls : List Listing) (old new : List (Option Entry)) (l : Listing) → AreTaken ls old new → MayFollow new l.block → AreTaken (ls ++ l ∷ []) old (slice_set new l.block (Some l.entry))
taken_snoc [] old new l same follows = (subst (λ es. MayFollow es l.block) same follows, ap (λ es. slice_set es l.block (Some l.entry)) same)
taken_snoc (k ∷ ls) old new l taken follows = (taken.0, taken_snoc ls (slice_set old k.block (Some k.entry)) new l taken.1 follows)

abbrev says : List Listing → List (Option Listing)
says ls = map (λ l. Some l) ls

says_long : (ls : List Listing) → length (says ls) ≡ length ls
says_long [] = refl
says_long (l ∷ ls) = ap suc (says_long ls)

pub taken_none : (blocks : ℕ) (c : Listed) → c.entries ≡ replicate blocks None → c.lines ≡ 0 → TakenAll blocks [] c
taken_none blocks c none new = record { listings = []; say = refl; taken = none; lines = new }

-- where nothing was refused before
pub taken_next : (blocks : ℕ) (said : List (Option Listing)) (one : Option Listing) (fault : Option FormFault) (c d : Listed) → is_some fault ≡ false → HasTaken blocks said fault c → IsListingTaken one c.entries d.entries → d.lines ≡ min (c.lines + 1) (2 ^ 64 - 1) → length said < 2 ^ 64 - 1
    → TakenAll blocks (said ++ one ∷ []) d
taken_next blocks said one None c d none was taken counts few = record {
  listings = was.listings ++ taken.listing ∷ [];
  say = (λ i. was.say i ++ taken.says i ∷ []) ∙ sym (map-append (λ l. Some l) was.listings (taken.listing ∷ []));
  taken = subst (AreTaken (was.listings ++ taken.listing ∷ []) (replicate blocks None)) (sym taken.entries) (taken_snoc was.listings (replicate blocks None) c.entries taken.listing was.taken taken.follows);
  lines = let long = length-append said (one ∷ []) in let before = was.lines in omega (arith, long, before, counts, few);
}
taken_next blocks said one (Some f) c d none was taken counts few = absurd (both_ways true none refl)

pub refused_next : (blocks : ℕ) (said : List (Option Listing)) (one : Option Listing) (before : Option FormFault) (c d : Listed) (fault : FormFault) → is_some before ≡ false → HasTaken blocks said before c → IsNotTaken one c.entries → fault.line ≡ d.lines → d.lines ≡ min (c.lines + 1) (2 ^ 64 - 1) → length said < 2 ^ 64 - 1
    → RefusedAt blocks (said ++ one ∷ []) fault
refused_next blocks said one None c d fault none was not line counts few = record {
  listings = was.listings;
  one = one;
  behind = [];
  say = ap (λ l. l ++ one ∷ []) was.say;
  entries = c.entries;
  taken = was.taken;
  refused = not;
  line =
      let before = was.lines in
      let many : length said ≡ length was.listings = ap length was.say ∙ says_long was.listings in
      omega (arith, line, counts, few, before, many);
}
refused_next blocks said one (Some f) c d fault none was not line counts few = absurd (both_ways true none refl)

pub refused_before : (blocks : ℕ) (said : List (Option Listing)) (one : Option Listing) (fault : Option FormFault) (c : Listed) → is_some fault ≡ true → HasTaken blocks said fault c → HasTaken blocks (said ++ one ∷ []) fault c
refused_before blocks said one None c some was = absurd (both_ways false refl some)
refused_before blocks said one (Some f) c some was = record {
  listings = was.listings;
  one = was.one;
  behind = was.behind ++ one ∷ [];
  say = ap (λ l. l ++ one ∷ []) was.say ∙ append_assoc (says was.listings) (was.one ∷ was.behind) (one ∷ []);
  entries = was.entries;
  taken = was.taken;
  refused = was.refused;
  line = was.line;
}

-- ---- from what was said to the lines

last_line : (rest : List ℕ) → last (listing_ending rest) ≡ map listing_of (if_some rest)
last_line [] = refl
last_line (b ∷ bs) = refl

pub all_said : (bytes : List ℕ) → all_requests listing_spelling bytes ≡ map listing_of (all_lines bytes)
all_said bytes = ap (λ l. map listing_of (lines bytes) ++ l) (last_line (unended bytes)) ∙ sym (map-append listing_of (lines bytes) (if_some (unended bytes)))

spelled_of : (lines : List (List ℕ)) (ls : List Listing) → map listing_of lines ≡ says ls → AreSpelled lines ls
spelled_of [] [] e = tt
spelled_of [] (l ∷ ls) e = absurd (cc)
spelled_of (x ∷ xs) [] e = absurd (cc)
spelled_of (x ∷ xs) (l ∷ ls) e =
    let one : listing_of x ≡ Some l = cc in
    let more : map listing_of xs ≡ says ls = cc in
    (line_is x l one, spelled_of xs ls more)

-- where what was said has parts, the lines have them
record Parted (lines : List (List ℕ)) (ls : List Listing) (one : Option Listing) : Type 0 where
  before : List (List ℕ)
  line : List ℕ
  behind : List (List ℕ)
  parts : lines ≡ before ++ line ∷ behind
  spelled : AreSpelled before ls
  says : listing_of line ≡ one

parted : (lines : List (List ℕ)) (ls : List Listing) (one : Option Listing) (more : List (Option Listing)) → map listing_of lines ≡ says ls ++ one ∷ more → Parted lines ls one
parted [] [] one more e = absurd (cc)
parted [] (l ∷ ls) one more e = absurd (cc)
parted (x ∷ xs) [] one more e = record { before = []; line = x; behind = xs; parts = refl; spelled = tt; says = cc }
parted (x ∷ xs) (l ∷ ls) one more e =
    let first : listing_of x ≡ Some l = cc in
    let rest : map listing_of xs ≡ says ls ++ one ∷ more = cc in
    let p = parted xs ls one more rest in
    record { before = x ∷ p.before; line = p.line; behind = p.behind; parts = ap (λ l. x ∷ l) p.parts; spelled = (line_is x l first, p.spelled); says = p.says }

spelled_long : (lines : List (List ℕ)) (ls : List Listing) → AreSpelled lines ls → length lines ≡ length ls
spelled_long [] [] h = refl
spelled_long [] (l ∷ ls) h = absurd h
spelled_long (x ∷ xs) [] h = absurd h
spelled_long (x ∷ xs) (l ∷ ls) h = ap suc (spelled_long xs ls h.1)

pub read_as : (blocks : ℕ) (bytes : List ℕ) (said : List (Option Listing)) (fault : Option FormFault) (c : Listed) → said ≡ all_requests listing_spelling bytes → HasTaken blocks said fault c → IsReadAs blocks (all_lines bytes) fault c.entries
read_as blocks bytes said None c these taken = record { listings = taken.listings; spelled = spelled_of (all_lines bytes) taken.listings (sym (all_said bytes) ∙ sym these ∙ taken.say); taken = taken.taken }
read_as blocks bytes said (Some fault) c these refused =
    let p = parted (all_lines bytes) refused.listings refused.one refused.behind (sym (all_said bytes) ∙ sym these ∙ refused.say) in
    record {
      before = p.before;
      line = p.line;
      behind = p.behind;
      parts = p.parts;
      entries = refused.entries;
      taken = record { listings = refused.listings; spelled = p.spelled; taken = refused.taken };
      refused = λ l h follows. refused.refused l (sym p.says ∙ line_back p.line l h) follows;
      at = let many = spelled_long p.before refused.listings p.spelled in let line = refused.line in omega (arith, many, line);
    }
