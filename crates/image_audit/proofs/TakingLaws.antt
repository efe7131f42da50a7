-- The lines of a certificate are taken one after another.
use Rattle.std.proofs.Common.{◌≡◌, ℕ, zero, suc, ◌+◌, ◌<◌, Bool, true, false, List, [], ◌∷◌, ◌++◌, length, replicate, refl, sym, ◌∙◌, ap, subst, arith, Option, Some, None}
use Rattle.image_audit.proofs.Common.{both_ways, append_assoc, append-nil, length-append, length-replicate, is_some, slice_set, unwrap_or, pieces, Entry, Listing, is_listed, listings_from, AreTaken, IsListing, MayFollow, listing_in}
use Rattle.image_audit.proofs.ListingLaws.{line_back}

-- so many places with nothing listed
abbrev blanks : ℕ → List (Option Entry)
blanks n = replicate n None

-- nothing is listed there
none_listed : (n c : ℕ) → is_listed (blanks n) c ≡ false
none_listed zero c = refl
none_listed (suc n) zero = refl
none_listed (suc n) (suc c) = none_listed n c

-- so what is listed stands before them
listed_before : (done : List (Option Entry)) (n c : ℕ) → is_listed (done ++ blanks n) c ≡ true → c < length done
listed_before [] n c h = absurd (both_ways (is_listed (blanks n) c) (none_listed n c) h)
listed_before (x ∷ xs) n zero h = omega arith
listed_before (x ∷ xs) n (suc c) h = omega (arith, listed_before xs n c h)

-- the first of them is listed
set_next : (done : List (Option Entry)) (n b : ℕ) (y : Option Entry) → b ≡ length done → slice_set (done ++ blanks (suc n)) b y ≡ done ++ (y ∷ blanks n)
set_next [] n zero y e = refl
set_next [] n (suc b) y e = absurd (omega (arith, e))
set_next (x ∷ xs) n zero y e = absurd (omega (arith, e))
set_next (x ∷ xs) n (suc b) y e = ap (λ zs. x ∷ zs) (set_next xs n b y (omega (arith, e)))

one_longer : (done : List (Option Entry)) (x : Option Entry) (b : ℕ) → b ≡ length done → suc b ≡ length (done ++ x ∷ [])
one_longer done x b e = let long = length-append done (x ∷ []) in omega (arith, e, long)

-- behind what is there already
pub taken_behind : (es done : List (Option Entry)) (b : ℕ) → b ≡ length done → AreTaken (listings_from b es) (done ++ blanks (length es)) (done ++ es)
taken_behind [] done b e = refl
taken_behind (None ∷ es) done b e =
    subst (λ old. AreTaken (listings_from (suc b) es) old (done ++ (None ∷ es))) (append_assoc done (None ∷ []) (blanks (length es)))
    (subst (AreTaken (listings_from (suc b) es) ((done ++ None ∷ []) ++ blanks (length es))) (append_assoc done (None ∷ []) es)
    (taken_behind es (done ++ None ∷ []) (suc b) (one_longer done None b e)))
taken_behind (Some x ∷ es) done b e = (
  record {
    inside = let long = length-append done (blanks (suc (length es))) in let more : length (blanks (suc (length es))) ≡ suc (length es) = length-replicate (suc (length es)) None in omega (arith, e, long, more);
    above = λ c h. let before = listed_before done (suc (length es)) c h in omega (arith, before, e);
  },
  subst (λ old. AreTaken (listings_from (suc b) es) old (done ++ (Some x ∷ es))) (append_assoc done (Some x ∷ []) (blanks (length es)) ∙ sym (set_next done (length es) b (Some x) e))
      (subst (AreTaken (listings_from (suc b) es) ((done ++ Some x ∷ []) ++ blanks (length es))) (append_assoc done (Some x ∷ []) es)
      (taken_behind es (done ++ Some x ∷ []) (suc b) (one_longer done (Some x) b e))),
)

pub one_listing : (line : List ℕ) (k l : Listing) → IsListing line k → IsListing line l → k ≡ l
one_listing line k l hk hl = ap (λ o. unwrap_or o k) (sym (line_back line k hk) ∙ line_back line l hl)
