-- Links of threads, and what a change of the slots leaves of them.
use Rattle.std.proofs.Common.{◌≡◌, ℕ, ◌+◌, ◌<◌, ◌≤◌, ◌-◌, true, false, cond, List, length, get_or, set, inl, inr, refl, sym, ◌∙◌, ap, subst, arith}
use Rattle.std.proofs.Common.{Option, Some, None}
use Rattle.pointer_table.proofs.Common.{IfSome, cases_eq, cases_lt, ne_eqb, ltb-true, ltb-false, length-set, get_or-set_same, get_or-set_other, Way, rank, group, is_below, no_link, linked, IsMember, IsFirstFrom, IsFirstThatFar, IsLast, IsLastBelow, IsNear, AreThreads, IsWith, link_after, heads_with, next_with}

-- ---- ranks

pub same_rank : (e f : ℕ × ℕ) → e.1 < 4294967296 → f.1 < 4294967296 → rank e ≡ rank f → e ≡ f
same_rank e f p q same =
    let a : e.0 ≡ f.0 = omega arith in
    let b : e.1 ≡ f.1 = omega arith in
    λ i. (a i, b i)

pub some_same : (e f : ℕ × ℕ) → ◌≡◌ {A = Option (ℕ × ℕ)} (Some e) (Some f) → e ≡ f
some_same e f h = cc

-- two slots of the same rank are one
pub one_slot : (held : ℕ → Option (ℕ × ℕ)) (by : (ℕ × ℕ) → ℕ) (heads next : List ℕ) (i j : ℕ) (e f : ℕ × ℕ) → AreThreads held by heads next
    → held i ≡ Some e → held j ≡ Some f → rank e ≡ rank f → i ≡ j
one_slot held by heads next i j e f threads p q same =
    let pair = same_rank e f (threads.fits i e p) (threads.fits j f q) same in
    threads.apart i j e p (q ∙ ap Some (sym pair))

-- ---- bounds moved where nothing is between

pub higher : (held : ℕ → Option (ℕ × ℕ)) (by : (ℕ × ℕ) → ℕ) (of from limit : ℕ) (link : Option ℕ) → from ≤ limit
    → ((j : ℕ) (f : ℕ × ℕ) → IsMember held by of j f → from ≤ rank f → limit ≤ rank f)
    → IsFirstThatFar held by of from link → IsFirstThatFar held by of limit link
higher held by of from limit None up gap leads = λ j f m. let low = leads j f m in omega arith
higher held by of from limit (Some k) up gap leads = record {
  pair = leads.pair;
  member = leads.member;
  above = gap k leads.pair leads.member leads.above;
  least = λ j f m far. leads.least j f m (omega arith);
}

pub lower : (held : ℕ → Option (ℕ × ℕ)) (by : (ℕ × ℕ) → ℕ) (of from limit : ℕ) (link : Option ℕ) → limit ≤ from
    → ((j : ℕ) (f : ℕ × ℕ) → IsMember held by of j f → limit ≤ rank f → from ≤ rank f)
    → IsFirstThatFar held by of from link → IsFirstThatFar held by of limit link
lower held by of from limit None down gap leads = λ j f m. below (rank f) (leads j f m) (gap j f m)
  where
    below : (r : ℕ) → r < from → (limit ≤ r → from ≤ r) → r < limit
    below r low far = elim (cases_lt r limit) [ inl under ↦ under | inr from_there ↦ (let high = far from_there in absurd (omega arith)) ]
lower held by of from limit (Some k) down gap leads = record {
  pair = leads.pair;
  member = leads.member;
  above = let far = leads.above in omega arith;
  least = λ j f m far. leads.least j f m (gap j f m far);
}

-- ---- a pair that comes or goes

-- a pair of the group that isn't below `from` and is below e
pub record IsLesser (held : ℕ → Option (ℕ × ℕ)) (by : (ℕ × ℕ) → ℕ) (e : ℕ × ℕ) (of from : ℕ) : Type 0 where
  pub slot : ℕ
  pub pair : ℕ × ℕ
  pub member : IsMember held by of slot pair
  pub above : from ≤ rank pair
  pub below : rank pair < rank e

-- the pair e doesn't matter to what leads to the first of the group from there on
abbrev pub IsAside : (ℕ → Option (ℕ × ℕ)) → ((ℕ × ℕ) → ℕ) → (ℕ × ℕ) → ℕ → ℕ → Type 0
IsAside held by e of from = by e ≡ of → from ≤ rank e → IsLesser held by e of from

-- what is held stays a member, and what is a member now was one or is the new pair
pub member_now : (held now : ℕ → Option (ℕ × ℕ)) (by : (ℕ × ℕ) → ℕ) (of position : ℕ) (e : ℕ × ℕ) (j : ℕ) (f : ℕ × ℕ) → IsWith held position e now
    → IsMember held by of j f → IsMember now by of j f
member_now held now by of position e j f more m = record {
  here = more.others j (λ same. let none = more.empty in let some = m.here in let at = ap held same in absurd (cc)) ∙ m.here;
  belongs = m.belongs;
}

pub member_then : (held now : ℕ → Option (ℕ × ℕ)) (by : (ℕ × ℕ) → ℕ) (of position : ℕ) (e : ℕ × ℕ) (j : ℕ) (f : ℕ × ℕ) → IsWith held position e now
    → (j ≡ position → ⊥) → IsMember now by of j f → IsMember held by of j f
member_then held now by of position e j f more off m = record { here = sym (more.others j off) ∙ m.here; belongs = m.belongs }

pub pair_there : (held now : ℕ → Option (ℕ × ℕ)) (position : ℕ) (e : ℕ × ℕ) (j : ℕ) (f : ℕ × ℕ) → IsWith held position e now → j ≡ position → now j ≡ Some f → f ≡ e
pair_there held now position e j f more same here = some_same f e (sym here ∙ (ap now same ∙ more.filled))

not_there : (held now : ℕ → Option (ℕ × ℕ)) (position : ℕ) (e : ℕ × ℕ) (j : ℕ) (f : ℕ × ℕ) → IsWith held position e now → held j ≡ Some f → j ≡ position → ⊥
not_there held now position e j f more here same = let none = more.empty in let at = ap held same in absurd (cc)

pub kept_with : (held now : ℕ → Option (ℕ × ℕ)) (by : (ℕ × ℕ) → ℕ) (of from position : ℕ) (e : ℕ × ℕ) (link : Option ℕ) → IsWith held position e now
    → IsAside held by e of from → IsFirstThatFar held by of from link → IsFirstThatFar now by of from link
kept_with held now by of from position e None more aside leads = λ j f m. elim (cases_eq j position) [
  | inl same ↦
      let pair = pair_there held now position e j f more same m.here in
      let group : by e ≡ of = ap by (sym pair) ∙ m.belongs in
      let ranks : rank f ≡ rank e = ap rank pair in
      below (rank f) (rank e) ranks (λ far. let one = aside group far in let low = leads one.slot one.pair one.member in let above = one.above in omega arith)
  | inr off ↦ leads j f (member_then held now by of position e j f more off m)
]
  where
    below : (r s : ℕ) → r ≡ s → (from ≤ s → ⊥) → r < from
    below r s same never = omega arith
kept_with held now by of from position e (Some k) more aside leads = record {
  pair = leads.pair;
  member = member_now held now by of position e k leads.pair more leads.member;
  above = leads.above;
  least = λ j f m far. elim (cases_eq j position) [
    | inl same ↦
        let pair = pair_there held now position e j f more same m.here in
        let ranks : rank f ≡ rank e = ap rank pair in
        let one = aside (ap by (sym pair) ∙ m.belongs) (omega arith) in
        let low = leads.least one.slot one.pair one.member one.above in
        let under = one.below in
        omega arith
    | inr off ↦ leads.least j f (member_then held now by of position e j f more off m) far
  ];
}

pub kept_without : (held now : ℕ → Option (ℕ × ℕ)) (by : (ℕ × ℕ) → ℕ) (of from position : ℕ) (e : ℕ × ℕ) (link : Option ℕ) → IsWith held position e now
    → IsAside held by e of from → IsFirstThatFar now by of from link → IsFirstThatFar held by of from link
kept_without held now by of from position e None more aside leads = λ j f m. leads j f (member_now held now by of position e j f more m)
kept_without held now by of from position e (Some k) more aside leads = record {
  pair = leads.pair;
  member = member_then held now by of position e k leads.pair more
      (λ same.
      let pair = pair_there held now position e k leads.pair more same leads.member.here in
      let ranks : rank leads.pair ≡ rank e = ap rank pair in
      let far = leads.above in
      let one = aside (ap by (sym pair) ∙ leads.member.belongs) (omega arith) in
      let low = leads.least one.slot one.pair (member_now held now by of position e one.slot one.pair more one.member) one.above in
      let under = one.below in
      omega arith)
      leads.member;
  above = leads.above;
  least = λ j f m far. leads.least j f (member_now held now by of position e j f more m) far;
}

-- ---- the walk to a place

-- past the pair of a slot
abbrev pub past : Option (ℕ × ℕ) → ℕ
past None = 0
past (Some e) = rank e + 1

-- where a walk is that has come to this slot, or to none
abbrev pub from_of : (ℕ → Option (ℕ × ℕ)) → Option ℕ → ℕ
from_of held None = 0
from_of held (Some k) = past (held k)

pub past_is : (held : ℕ → Option (ℕ × ℕ)) (k : ℕ) (e : ℕ × ℕ) → held k ≡ Some e → from_of held (Some k) ≡ rank e + 1
past_is held k e here = ap past here

-- what is after a slot leads on
pub leads_on : (held : ℕ → Option (ℕ × ℕ)) (by : (ℕ × ℕ) → ℕ) (heads next : List ℕ) (of limit : ℕ) (before : Option ℕ) → AreThreads held by heads next → of < length heads
    → IsNear held by of limit before → IsFirstThatFar held by of (from_of held before) (linked (link_after heads next of before))
leads_on held by heads next of limit None threads inside near = threads.first of inside
leads_on held by heads next of limit (Some k) threads inside near =
    let m = near.1.0 in
    subst (λ (n : ℕ). IsFirstThatFar held by of n (linked (get_or next k 0))) (sym (past_is held k near.0 m.here))
    (subst (λ (n : ℕ). IsFirstThatFar held by n (rank near.0 + 1) (linked (get_or next k 0))) m.belongs (threads.follow k near.0 m.here))

pub not_past : (held : ℕ → Option (ℕ × ℕ)) (by : (ℕ × ℕ) → ℕ) (of limit : ℕ) (before : Option ℕ) → IsNear held by of limit before → from_of held before ≤ limit
not_past held by of limit None near = omega arith
not_past held by of limit (Some k) near = let low = near.1.1 in let is = past_is held k near.0 near.1.0.here in omega arith

-- the walk is over: nothing of the group from there on is below the limit
pub walked : (held : ℕ → Option (ℕ × ℕ)) (by : (ℕ × ℕ) → ℕ) (of limit : ℕ) (before : Option ℕ) → IsNear held by of limit before
    → ((j : ℕ) (f : ℕ × ℕ) → IsMember held by of j f → from_of held before ≤ rank f → limit ≤ rank f) → IsLastBelow held by of limit before
walked held by of limit None near gap = λ j f m. gap j f m (omega arith)
walked held by of limit (Some k) near gap = record {
  pair = near.0;
  member = near.1.0;
  below = near.1.1;
  greatest = λ j f m low. let is = past_is held k near.0 near.1.0.here in up (rank f) (gap j f m) is low;
}
  where
    up : (r : ℕ) → (from_of held (Some k) ≤ r → limit ≤ r) → from_of held (Some k) ≡ rank near.0 + 1 → r < limit → r ≤ rank near.0
    up r far is low = elim (cases_lt (rank near.0) r) [ inl over ↦ (let high = far (omega arith) in absurd (omega arith)) | inr under ↦ under ]

-- nothing is between
pub gap_before : (held : ℕ → Option (ℕ × ℕ)) (by : (ℕ × ℕ) → ℕ) (of limit : ℕ) (before : Option ℕ) → IsLastBelow held by of limit before
    → (j : ℕ) (f : ℕ × ℕ) → IsMember held by of j f → from_of held before ≤ rank f → limit ≤ rank f
gap_before held by of limit None last j f m far = last j f m
gap_before held by of limit (Some k) last j f m far =
    let is = past_is held k last.pair last.member.here in
    over (rank f) (last.greatest j f m) (omega arith)
  where
    over : (r : ℕ) → (r < limit → r ≤ rank last.pair) → rank last.pair + 1 ≤ r → limit ≤ r
    over r up far_on = elim (cases_lt r limit) [ inl under ↦ (let low = up under in absurd (omega arith)) | inr from_there ↦ from_there ]

pub near_before : (held : ℕ → Option (ℕ × ℕ)) (by : (ℕ × ℕ) → ℕ) (of limit : ℕ) (before : Option ℕ) → IsLastBelow held by of limit before → IsNear held by of limit before
near_before held by of limit None last = tt
near_before held by of limit (Some k) last = (last.pair, (last.member, last.below))

pub leads_there : (held : ℕ → Option (ℕ × ℕ)) (by : (ℕ × ℕ) → ℕ) (heads next : List ℕ) (of limit : ℕ) (before : Option ℕ) → AreThreads held by heads next → of < length heads
    → IsLastBelow held by of limit before → IsFirstThatFar held by of limit (linked (link_after heads next of before))
leads_there held by heads next of limit before threads inside last =
    let near = near_before held by of limit before last in
    higher held by of (from_of held before) limit (linked (link_after heads next of before)) (not_past held by of limit before near)
    (gap_before held by of limit before last) (leads_on held by heads next of limit before threads inside near)

-- ---- a step of the walk

linked_on : (link : ℕ) → (link ≡ no_link → ⊥) → linked link ≡ Some link
linked_on link on = ap (λ t. cond t None (Some link)) (ne_eqb link no_link on)

pub leads_to_slot : (held : ℕ → Option (ℕ × ℕ)) (by : (ℕ × ℕ) → ℕ) (heads next : List ℕ) (of limit : ℕ) (before : Option ℕ) (link : ℕ) → AreThreads held by heads next → of < length heads
    → IsNear held by of limit before → link ≡ link_after heads next of before → (link ≡ no_link → ⊥) → IsFirstFrom held by of (from_of held before) link
leads_to_slot held by heads next of limit before link threads inside near is on =
    subst (IsFirstThatFar held by of (from_of held before)) (ap linked (sym is) ∙ linked_on link on) (leads_on held by heads next of limit before threads inside near)

below_limit : (limit : ℕ) (slot : Option (ℕ × ℕ)) (e : ℕ × ℕ) → slot ≡ Some e → is_below limit slot ≡ true → rank e < limit
below_limit limit slot e is below = ltb-true (rank e) limit (sym (ap (is_below limit) is) ∙ below)

not_below_limit : (limit : ℕ) (slot : Option (ℕ × ℕ)) (e : ℕ × ℕ) → slot ≡ Some e → is_below limit slot ≡ false → limit ≤ rank e
not_below_limit limit slot e is far = ltb-false (rank e) limit (sym (ap (is_below limit) is) ∙ far)

pub step_near : (held : ℕ → Option (ℕ × ℕ)) (by : (ℕ × ℕ) → ℕ) (heads next : List ℕ) (of limit : ℕ) (before : Option ℕ) (link : ℕ) → AreThreads held by heads next → of < length heads
    → IsNear held by of limit before → link ≡ link_after heads next of before → (link ≡ no_link → ⊥) → is_below limit (held link) ≡ true → IsNear held by of limit (Some link)
step_near held by heads next of limit before link threads inside near is on below =
    let there = leads_to_slot held by heads next of limit before link threads inside near is on in
    (there.pair, (there.member, below_limit limit (held link) there.pair there.member.here below))

pub step_smaller : (held : ℕ → Option (ℕ × ℕ)) (by : (ℕ × ℕ) → ℕ) (heads next : List ℕ) (of limit : ℕ) (before : Option ℕ) (link : ℕ) → AreThreads held by heads next → of < length heads
    → IsNear held by of limit before → link ≡ link_after heads next of before → (link ≡ no_link → ⊥) → is_below limit (held link) ≡ true
    → limit - from_of held (Some link) < limit - from_of held before
step_smaller held by heads next of limit before link threads inside near is on below =
    let there = leads_to_slot held by heads next of limit before link threads inside near is on in
    let low = below_limit limit (held link) there.pair there.member.here below in
    let past = past_is held link there.pair there.member.here in
    let above = there.above in
    omega arith

pub step_inside : (held : ℕ → Option (ℕ × ℕ)) (by : (ℕ × ℕ) → ℕ) (heads next : List ℕ) (of limit : ℕ) (before : Option ℕ) (link : ℕ) → AreThreads held by heads next → of < length heads
    → IsNear held by of limit before → link ≡ link_after heads next of before → (link ≡ no_link → ⊥) → link < length next
step_inside held by heads next of limit before link threads inside near is on =
    let there = leads_to_slot held by heads next of limit before link threads inside near is on in
    threads.inside link there.pair there.member.here

pub near_inside : (held : ℕ → Option (ℕ × ℕ)) (by : (ℕ × ℕ) → ℕ) (heads next : List ℕ) (of limit : ℕ) (before : Option ℕ) → AreThreads held by heads next
    → IsNear held by of limit before → IfSome before (λ k. k < length next)
near_inside held by heads next of limit None threads near = tt
near_inside held by heads next of limit (Some k) threads near = threads.inside k near.0 near.1.0.here

-- the end of the group
pub stop_at_end : (held : ℕ → Option (ℕ × ℕ)) (by : (ℕ × ℕ) → ℕ) (heads next : List ℕ) (of limit : ℕ) (before : Option ℕ) (link : ℕ) → AreThreads held by heads next → of < length heads
    → IsNear held by of limit before → link ≡ link_after heads next of before → link ≡ no_link → IsLastBelow held by of limit before
stop_at_end held by heads next of limit before link threads inside near is off =
    let none : IsFirstThatFar held by of (from_of held before) None =
    subst (IsFirstThatFar held by of (from_of held before)) (ap linked (sym is ∙ off)) (leads_on held by heads next of limit before threads inside near) in
    walked held by of limit before near (λ j f m far. let low = none j f m in absurd (omega arith))

-- a pair that isn't below the limit
pub stop_at_slot : (held : ℕ → Option (ℕ × ℕ)) (by : (ℕ × ℕ) → ℕ) (heads next : List ℕ) (of limit : ℕ) (before : Option ℕ) (link : ℕ) → AreThreads held by heads next → of < length heads
    → IsNear held by of limit before → link ≡ link_after heads next of before → (link ≡ no_link → ⊥) → is_below limit (held link) ≡ false → IsLastBelow held by of limit before
stop_at_slot held by heads next of limit before link threads inside near is on far =
    let there = leads_to_slot held by heads next of limit before link threads inside near is on in
    let high = not_below_limit limit (held link) there.pair there.member.here far in
    walked held by of limit before near (λ j f m from. let least = there.least j f m from in omega arith)

-- ---- a pair put in

-- a pair that isn't held has a rank of its own
above_new : (held : ℕ → Option (ℕ × ℕ)) (by : (ℕ × ℕ) → ℕ) (heads next : List ℕ) (e : ℕ × ℕ) (j : ℕ) (f : ℕ × ℕ) → AreThreads held by heads next
    → ((k : ℕ) → held k ≡ Some e → ⊥) → e.1 < 4294967296 → held j ≡ Some f → rank e ≤ rank f → rank e + 1 ≤ rank f
above_new held by heads next e j f threads new fits here far = elim (cases_eq (rank e) (rank f)) [
  | inl same ↦ absurd (new j (here ∙ ap Some (sym (same_rank e f fits (threads.fits j f here) same))))
  | inr off ↦ omega arith
]

fits_now : (held now : ℕ → Option (ℕ × ℕ)) (position : ℕ) (e : ℕ × ℕ) → IsWith held position e now → e.1 < 4294967296
    → ((k : ℕ) (f : ℕ × ℕ) → held k ≡ Some f → f.1 < 4294967296) → (k : ℕ) (f : ℕ × ℕ) → now k ≡ Some f → f.1 < 4294967296
fits_now held now position e more fits old k f here = elim (cases_eq k position) [
  | inl same ↦ (let pair = pair_there held now position e k f more same here in let ends : f.1 ≡ e.1 = ap (λ (h : ℕ × ℕ). h.1) pair in omega arith)
  | inr off ↦ old k f (sym (more.others k off) ∙ here)
]

apart_now : (held now : ℕ → Option (ℕ × ℕ)) (position : ℕ) (e : ℕ × ℕ) → IsWith held position e now → ((k : ℕ) → held k ≡ Some e → ⊥)
    → ((i j : ℕ) (f : ℕ × ℕ) → held i ≡ Some f → held j ≡ Some f → i ≡ j) → (i j : ℕ) (f : ℕ × ℕ) → now i ≡ Some f → now j ≡ Some f → i ≡ j
apart_now held now position e more new old i j f p q = elim (cases_eq i position) [
  | inl i_there ↦ elim (cases_eq j position) [
    | inl j_there ↦ i_there ∙ sym j_there
    | inr j_off ↦ absurd (new j (sym (more.others j j_off) ∙ (q ∙ ap Some (pair_there held now position e i f more i_there p))))
  ]
  | inr i_off ↦ elim (cases_eq j position) [
    | inl j_there ↦ absurd (new i (sym (more.others i i_off) ∙ (p ∙ ap Some (pair_there held now position e j f more j_there q))))
    | inr j_off ↦ old i j f (sym (more.others i i_off) ∙ p) (sym (more.others j j_off) ∙ q)
  ]
]

pub linked_place : (k : ℕ) → k < no_link → linked k ≡ Some k
linked_place k inside = ap (λ t. cond t None (Some k)) (ne_eqb k no_link (λ same. omega arith))

pub put_first : (held now : ℕ → Option (ℕ × ℕ)) (by : (ℕ × ℕ) → ℕ) (heads next : List ℕ) (position : ℕ) (e : ℕ × ℕ) → AreThreads held by heads next → IsWith held position e now
    → ((k : ℕ) → held k ≡ Some e → ⊥) → e.1 < 4294967296 → position < length next → position < no_link → by e < length heads → IsLastBelow held by (by e) (rank e) None
    → AreThreads now by (set heads (by e) position) (set next position (get_or heads (by e) 0))
put_first held now by heads next position e threads more new fits inside small room last = record {
  first = λ of within. elim (cases_eq of (by e)) [
    | inl same ↦
        subst (IsFirstThatFar now by of 0) (sym (ap linked (ap (λ g. get_or (set heads (by e) position) g 0) same ∙ get_or-set_same heads (by e) position 0 room) ∙ linked_place position small))
        (record {
          pair = e;
          member = record { here = more.filled; belongs = sym same };
          above = omega arith;
          least = λ j f m far. elim (cases_eq j position) [
            | inl there ↦ (let ranks : rank f ≡ rank e = ap rank (pair_there held now position e j f more there m.here) in omega arith)
            | inr off ↦ last j f (let old = member_then held now by of position e j f more off m in record { here = old.here; belongs = old.belongs ∙ same })
          ];
        })
    | inr other ↦
        subst (λ (link : ℕ). IsFirstThatFar now by of 0 (linked link)) (sym (get_or-set_other heads (by e) of position 0 other))
        (kept_with held now by of 0 position e (linked (get_or heads of 0)) more (λ same far. absurd (other (sym same)))
        (threads.first of (let len = length-set heads (by e) position in omega arith)))
  ];
  follow = λ k f here. elim (cases_eq k position) [
    | inl same ↦
        let pair = pair_there held now position e k f more same here in
        subst (λ (h : ℕ × ℕ). IsFirstThatFar now by (by h) (rank h + 1) (linked (get_or (set next position (get_or heads (by e) 0)) k 0))) (sym pair)
        (subst (λ (link : ℕ). IsFirstThatFar now by (by e) (rank e + 1) (linked link))
        (sym (ap (λ i. get_or (set next position (get_or heads (by e) 0)) i 0) same ∙ get_or-set_same next position (get_or heads (by e) 0) 0 inside))
        (kept_with held now by (by e) (rank e + 1) position e (linked (get_or heads (by e) 0)) more (λ one far. absurd (omega arith))
        (higher held by (by e) 0 (rank e + 1) (linked (get_or heads (by e) 0)) (omega arith)
        (λ j h m far. above_new held by heads next e j h threads new fits m.here (last j h m)) (threads.first (by e) room))))
    | inr off ↦
        let old : held k ≡ Some f = sym (more.others k off) ∙ here in
        subst (λ (link : ℕ). IsFirstThatFar now by (by f) (rank f + 1) (linked link)) (sym (get_or-set_other next position k (get_or heads (by e) 0) 0 off))
        (kept_with held now by (by f) (rank f + 1) position e (linked (get_or next k 0)) more
        (λ same far. let low = last k f (record { here = old; belongs = sym same }) in absurd (omega arith)) (threads.follow k f old))
  ];
  groups = λ k f here. let len = length-set heads (by e) position in elim (cases_eq k position) [
    | inl same ↦ (let pair = pair_there held now position e k f more same here in let groups : by f ≡ by e = ap by pair in omega arith)
    | inr off ↦ (let old = threads.groups k f (sym (more.others k off) ∙ here) in omega arith)
  ];
  inside = λ k f here. let len = length-set next position (get_or heads (by e) 0) in elim (cases_eq k position) [
    | inl same ↦ omega arith
    | inr off ↦ (let old = threads.inside k f (sym (more.others k off) ∙ here) in omega arith)
  ];
  fits = fits_now held now position e more fits threads.fits;
  apart = apart_now held now position e more new threads.apart;
}

-- a pair of the group in front of the last one in front of e
passed_over : (held : ℕ → Option (ℕ × ℕ)) (by : (ℕ × ℕ) → ℕ) (heads next : List ℕ) (e : ℕ × ℕ) (p k : ℕ) (f : ℕ × ℕ) → AreThreads held by heads next
    → IsLastBelow held by (by e) (rank e) (Some p) → held k ≡ Some f → by e ≡ by f → rank f + 1 ≤ rank e → (k ≡ p → ⊥) → IsLesser held by e (by f) (rank f + 1)
passed_over held by heads next e p k f threads last here same far off = record {
  slot = p;
  pair = last.pair;
  member = record { here = last.member.here; belongs = last.member.belongs ∙ same };
  above = elim (cases_eq (rank f) (rank last.pair)) [
    | inl one ↦ absurd (off (one_slot held by heads next k p f last.pair threads here last.member.here one))
    | inr other ↦ (let low = last.greatest k f (record { here = here; belongs = sym same }) (omega arith) in omega arith)
  ];
  below = last.below;
}

pub put_behind : (held now : ℕ → Option (ℕ × ℕ)) (by : (ℕ × ℕ) → ℕ) (heads next : List ℕ) (position : ℕ) (e : ℕ × ℕ) (p : ℕ) → AreThreads held by heads next → IsWith held position e now
    → ((k : ℕ) → held k ≡ Some e → ⊥) → e.1 < 4294967296 → position < length next → position < no_link → by e < length heads → IsLastBelow held by (by e) (rank e) (Some p)
    → AreThreads now by heads (set (set next position (get_or next p 0)) p position)
put_behind held now by heads next position e p threads more new fits inside small room last = record {
  first = λ of within. kept_with held now by of 0 position e (linked (get_or heads of 0)) more (λ same far. record {
    slot = p;
    pair = last.pair;
    member = record { here = last.member.here; belongs = last.member.belongs ∙ same };
    above = omega arith;
    below = last.below;
  }) (threads.first of within);
  follow = λ k f here. elim (cases_eq k p) [
    | inl at ↦
        let then : held k ≡ Some f = sym (more.others k (λ there. not_there held now position e p last.pair more last.member.here (sym at ∙ there))) ∙ here in
        let pair : f ≡ last.pair = some_same f last.pair (sym then ∙ (ap held at ∙ last.member.here)) in
        let ranks : rank f ≡ rank last.pair = ap rank pair in
        let low = last.below in
        subst (IsFirstThatFar now by (by f) (rank f + 1)) (sym (ap linked (ap (λ i. get_or (set (set next position (get_or next p 0)) p position) i 0) at
        ∙ get_or-set_same (set next position (get_or next p 0)) p position 0 (let len = length-set next position (get_or next p 0) in let in_next = threads.inside p last.pair last.member.here in omega arith)) ∙ linked_place position small))
        (record {
          pair = e;
          member = record { here = more.filled; belongs = sym (ap by pair ∙ last.member.belongs) };
          above = omega arith;
          least = λ j h m far. elim (cases_eq j position) [
            | inl there ↦ (let same : rank h ≡ rank e = ap rank (pair_there held now position e j h more there m.here) in omega arith)
            | inr off ↦
                (let old = member_then held now by (by f) position e j h more off m in
                not_below (rank h) (last.greatest j h (record { here = old.here; belongs = old.belongs ∙ (ap by pair ∙ last.member.belongs) })) (omega arith))
          ];
        })
    | inr past_p ↦
        subst (λ (link : ℕ). IsFirstThatFar now by (by f) (rank f + 1) (linked link)) (sym (get_or-set_other (set next position (get_or next p 0)) p k position 0 past_p))
        (elim (cases_eq k position) [
          | inl same ↦
              let pair = pair_there held now position e k f more same here in
              subst (λ (h : ℕ × ℕ). IsFirstThatFar now by (by h) (rank h + 1) (linked (get_or (set next position (get_or next p 0)) k 0))) (sym pair)
              (subst (λ (link : ℕ). IsFirstThatFar now by (by e) (rank e + 1) (linked link))
              (sym (ap (λ i. get_or (set next position (get_or next p 0)) i 0) same ∙ get_or-set_same next position (get_or next p 0) 0 inside))
              (kept_with held now by (by e) (rank e + 1) position e (linked (get_or next p 0)) more (λ one far. absurd (omega arith))
              (higher held by (by e) (rank e) (rank e + 1) (linked (get_or next p 0)) (omega arith)
              (λ j h m far. above_new held by heads next e j h threads new fits m.here far)
              (leads_there held by heads next (by e) (rank e) (Some p) threads room last))))
          | inr off ↦
              let old : held k ≡ Some f = sym (more.others k off) ∙ here in
              subst (λ (link : ℕ). IsFirstThatFar now by (by f) (rank f + 1) (linked link)) (sym (get_or-set_other next position k (get_or next p 0) 0 off))
              (kept_with held now by (by f) (rank f + 1) position e (linked (get_or next k 0)) more
              (λ same far. passed_over held by heads next e p k f threads last old same far past_p)
              (threads.follow k f old))
        ])
  ];
  groups = λ k f here. elim (cases_eq k position) [
    | inl same ↦ (let pair = pair_there held now position e k f more same here in let groups : by f ≡ by e = ap by pair in omega arith)
    | inr off ↦ threads.groups k f (sym (more.others k off) ∙ here)
  ];
  inside = λ k f here. let one = length-set next position (get_or next p 0) in let two = length-set (set next position (get_or next p 0)) p position in elim (cases_eq k position) [
    | inl same ↦ omega arith
    | inr off ↦ (let old = threads.inside k f (sym (more.others k off) ∙ here) in omega arith)
  ];
  fits = fits_now held now position e more fits threads.fits;
  apart = apart_now held now position e more new threads.apart;
}
  where
    not_below : (r : ℕ) → (r < rank e → r ≤ rank last.pair) → rank last.pair + 1 ≤ r → rank e ≤ r
    not_below r low far = elim (cases_lt r (rank e)) [ inl under ↦ (let most = low under in absurd (omega arith)) | inr from_there ↦ from_there ]

pub put_in : (held now : ℕ → Option (ℕ × ℕ)) (by : (ℕ × ℕ) → ℕ) (heads next : List ℕ) (position : ℕ) (e : ℕ × ℕ) (before : Option ℕ) → AreThreads held by heads next → IsWith held position e now
    → ((k : ℕ) → held k ≡ Some e → ⊥) → e.1 < 4294967296 → position < length next → position < no_link → by e < length heads → IsLastBelow held by (by e) (rank e) before
    → AreThreads now by (heads_with heads (by e) before position) (next_with (set next position (link_after heads next (by e) before)) before position)
put_in held now by heads next position e None threads more new fits inside small room last = put_first held now by heads next position e threads more new fits inside small room last
put_in held now by heads next position e (Some p) threads more new fits inside small room last = put_behind held now by heads next position e p threads more new fits inside small room last

-- ---- a pair cut out

held_now : (held now : ℕ → Option (ℕ × ℕ)) (position : ℕ) (e : ℕ × ℕ) (k : ℕ) (f : ℕ × ℕ) → IsWith held position e now → held k ≡ Some f → now k ≡ Some f
held_now held now position e k f less here = less.others k (not_there held now position e k f less here) ∙ here

-- what is left has another rank than what went
other_rank : (held now : ℕ → Option (ℕ × ℕ)) (by : (ℕ × ℕ) → ℕ) (heads next : List ℕ) (position : ℕ) (e : ℕ × ℕ) (j : ℕ) (f : ℕ × ℕ) → AreThreads now by heads next → IsWith held position e now
    → held j ≡ Some f → rank e ≤ rank f → rank e + 1 ≤ rank f
other_rank held now by heads next position e j f threads less here far = elim (cases_eq (rank e) (rank f)) [
  | inl same ↦ absurd (not_there held now position e j f less here (one_slot now by heads next j position f e threads (held_now held now position e j f less here) less.filled (sym same)))
  | inr off ↦ omega arith
]

pub cut_first : (held now : ℕ → Option (ℕ × ℕ)) (by : (ℕ × ℕ) → ℕ) (heads next : List ℕ) (position : ℕ) (e : ℕ × ℕ) → AreThreads now by heads next → IsWith held position e now
    → IsLastBelow now by (by e) (rank e) None → AreThreads held by (set heads (by e) (get_or next position 0)) next
cut_first held now by heads next position e threads less last = record {
  first = λ of within. elim (cases_eq of (by e)) [
    | inl same ↦
        subst (λ (link : ℕ). IsFirstThatFar held by of 0 (linked link)) (sym (ap (λ g. get_or (set heads (by e) (get_or next position 0)) g 0) same ∙ get_or-set_same heads (by e) (get_or next position 0) 0 (threads.groups position e less.filled)))
        (subst (λ (g : ℕ). IsFirstThatFar held by g 0 (linked (get_or next position 0))) (sym same)
        (lower held by (by e) (rank e + 1) 0 (linked (get_or next position 0)) (omega arith)
        (λ j f m far. other_rank held now by heads next position e j f threads less m.here (last j f (member_now held now by (by e) position e j f less m)))
        (kept_without held now by (by e) (rank e + 1) position e (linked (get_or next position 0)) less (λ one far. absurd (omega arith)) (threads.follow position e less.filled))))
    | inr other ↦
        subst (λ (link : ℕ). IsFirstThatFar held by of 0 (linked link)) (sym (get_or-set_other heads (by e) of (get_or next position 0) 0 other))
        (kept_without held now by of 0 position e (linked (get_or heads of 0)) less (λ same far. absurd (other (sym same)))
        (threads.first of (let len = length-set heads (by e) (get_or next position 0) in omega arith)))
  ];
  follow = λ k f here.
      let now_here = held_now held now position e k f less here in
      kept_without held now by (by f) (rank f + 1) position e (linked (get_or next k 0)) less
      (λ same far. let low = last k f (record { here = now_here; belongs = sym same }) in absurd (omega arith)) (threads.follow k f now_here);
  groups = λ k f here. let len = length-set heads (by e) (get_or next position 0) in let old = threads.groups k f (held_now held now position e k f less here) in omega arith;
  inside = λ k f here. threads.inside k f (held_now held now position e k f less here);
  fits = λ k f here. threads.fits k f (held_now held now position e k f less here);
  apart = λ i j f p q. threads.apart i j f (held_now held now position e i f less p) (held_now held now position e j f less q);
}

pub cut_behind : (held now : ℕ → Option (ℕ × ℕ)) (by : (ℕ × ℕ) → ℕ) (heads next : List ℕ) (position : ℕ) (e : ℕ × ℕ) (p : ℕ) → AreThreads now by heads next → IsWith held position e now
    → IsLastBelow now by (by e) (rank e) (Some p) → AreThreads held by heads (set next p (get_or next position 0))
cut_behind held now by heads next position e p threads less last = record {
  first = λ of within. kept_without held now by of 0 position e (linked (get_or heads of 0)) less (λ same far. record {
    slot = p;
    pair = last.pair;
    member = record { here = p_held; belongs = last.member.belongs ∙ same };
    above = omega arith;
    below = last.below;
  }) (threads.first of within);
  follow = λ k f here. let now_here = held_now held now position e k f less here in elim (cases_eq k p) [
    | inl at ↦
        let pair : f ≡ last.pair = some_same f last.pair (sym now_here ∙ (ap now at ∙ last.member.here)) in
        let ranks : rank f ≡ rank last.pair = ap rank pair in
        let groups : by f ≡ by e = ap by pair ∙ last.member.belongs in
        let low = last.below in
        subst (λ (link : ℕ). IsFirstThatFar held by (by f) (rank f + 1) (linked link))
        (sym (ap (λ i. get_or (set next p (get_or next position 0)) i 0) at ∙ get_or-set_same next p (get_or next position 0) 0 (threads.inside p last.pair last.member.here)))
        (subst (λ (g : ℕ). IsFirstThatFar held by g (rank f + 1) (linked (get_or next position 0))) (sym groups)
        (lower held by (by e) (rank e + 1) (rank f + 1) (linked (get_or next position 0)) (omega arith)
        (λ j h m far. other_rank held now by heads next position e j h threads less m.here
        (not_below (rank h) (last.greatest j h (member_now held now by (by e) position e j h less m)) (omega arith)))
        (kept_without held now by (by e) (rank e + 1) position e (linked (get_or next position 0)) less (λ one far. absurd (omega arith)) (threads.follow position e less.filled))))
    | inr past_p ↦
        subst (λ (link : ℕ). IsFirstThatFar held by (by f) (rank f + 1) (linked link)) (sym (get_or-set_other next p k (get_or next position 0) 0 past_p))
        (kept_without held now by (by f) (rank f + 1) position e (linked (get_or next k 0)) less
        (λ same far. lesser_held (by f) (rank f + 1) (passed_over now by heads next e p k f threads last now_here same far past_p))
        (threads.follow k f now_here))
  ];
  groups = λ k f here. threads.groups k f (held_now held now position e k f less here);
  inside = λ k f here. let len = length-set next p (get_or next position 0) in let old = threads.inside k f (held_now held now position e k f less here) in omega arith;
  fits = λ k f here. threads.fits k f (held_now held now position e k f less here);
  apart = λ i j f p q. threads.apart i j f (held_now held now position e i f less p) (held_now held now position e j f less q);
}
  where
    not_below : (r : ℕ) → (r < rank e → r ≤ rank last.pair) → rank last.pair + 1 ≤ r → rank e ≤ r
    not_below r low far = elim (cases_lt r (rank e)) [ inl under ↦ (let most = low under in absurd (omega arith)) | inr from_there ↦ from_there ]

    below_held : (j : ℕ) (h : ℕ × ℕ) → now j ≡ Some h → rank h < rank e → held j ≡ Some h
    below_held j h here low = sym (less.others j (λ there. let same : rank h ≡ rank e = ap rank (pair_there held now position e j h less there here) in omega arith)) ∙ here

    p_held : held p ≡ Some last.pair
    p_held = below_held p last.pair last.member.here last.below

    lesser_held : (of from : ℕ) → IsLesser now by e of from → IsLesser held by e of from
    lesser_held of from one = record {
      slot = one.slot;
      pair = one.pair;
      member = record { here = below_held one.slot one.pair one.member.here one.below; belongs = one.member.belongs };
      above = one.above;
      below = one.below;
    }

pub cut_out : (held now : ℕ → Option (ℕ × ℕ)) (by : (ℕ × ℕ) → ℕ) (heads next : List ℕ) (position : ℕ) (e : ℕ × ℕ) (before : Option ℕ) → AreThreads now by heads next → IsWith held position e now
    → IsLastBelow now by (by e) (rank e) before → AreThreads held by (heads_with heads (by e) before (get_or next position 0)) (next_with next before (get_or next position 0))
cut_out held now by heads next position e None threads less last = cut_first held now by heads next position e threads less last
cut_out held now by heads next position e (Some p) threads less last = cut_behind held now by heads next position e p threads less last

-- ---- the fields after a change

length-heads_with : (heads : List ℕ) (of : ℕ) (before : Option ℕ) (link : ℕ) → length (heads_with heads of before link) ≡ length heads
length-heads_with heads of None link = length-set heads of link
length-heads_with heads of (Some k) link = refl

length-next_with : (next : List ℕ) (before : Option ℕ) (link : ℕ) → length (next_with next before link) ≡ length next
length-next_with next None link = refl
length-next_with next (Some k) link = length-set next k link

pub heads_as_many : (heads now : List ℕ) (of : ℕ) (before : Option ℕ) (link : ℕ) → now ≡ heads_with heads of before link → length now ≡ length heads
heads_as_many heads now of before link is = ap length is ∙ length-heads_with heads of before link

pub next_as_many : (next now : List ℕ) (before : Option ℕ) (link : ℕ) → now ≡ next_with next before link → length now ≡ length next
next_as_many next now before link is = ap length is ∙ length-next_with next before link

pub next_as_many_put : (next now : List ℕ) (position behind : ℕ) (before : Option ℕ) (link : ℕ) → now ≡ next_with (set next position behind) before link → length now ≡ length next
next_as_many_put next now position behind before link is = ap length is ∙ (length-next_with (set next position behind) before link ∙ length-set next position behind)

-- the same threads under other names
renamed : (held : ℕ → Option (ℕ × ℕ)) (way other : Way) (heads next made_heads made_next new_heads new_next : List ℕ) → other ≡ way → new_heads ≡ made_heads → new_next ≡ made_next
    → length new_heads ≡ length heads → AreThreads held (group way (length heads)) made_heads made_next → AreThreads held (group other (length new_heads)) new_heads new_next
renamed held way other heads next made_heads made_next new_heads new_next ways h n many threads =
    subst (λ (w : Way). AreThreads held (group w (length new_heads)) new_heads new_next) (sym ways)
    (subst (λ (m : ℕ). AreThreads held (group way m) new_heads new_next) (sym many)
    (subst (λ (xs : List ℕ). AreThreads held (group way (length heads)) xs new_next) (sym h)
    (subst (λ (xs : List ℕ). AreThreads held (group way (length heads)) made_heads xs) (sym n) threads)))

before_same : (held : ℕ → Option (ℕ × ℕ)) (by : (ℕ × ℕ) → ℕ) (of r limit there : ℕ) (before : Option ℕ) → of ≡ there → r ≡ limit → IsLastBelow held by of r before → IsLastBelow held by there limit before
before_same held by of r limit there before groups ranks last =
    subst (λ (n : ℕ). IsLastBelow held by there n before) ranks (subst (λ (g : ℕ). IsLastBelow held by g r before) groups last)

pub put_fields : (held now : ℕ → Option (ℕ × ℕ)) (way other : Way) (heads next new_heads new_next : List ℕ) (position of r : ℕ) (e : ℕ × ℕ) (before : Option ℕ)
    → AreThreads held (group way (length heads)) heads next → IsWith held position e now → ((k : ℕ) → held k ≡ Some e → ⊥) → e.1 < 4294967296
    → position < length next → position < no_link → group way (length heads) e < length heads
    → of ≡ group way (length heads) e → r ≡ rank e → IsLastBelow held (group way (length heads)) of r before
    → new_heads ≡ heads_with heads of before position → new_next ≡ next_with (set next position (link_after heads next of before)) before position → other ≡ way
    → AreThreads now (group other (length new_heads)) new_heads new_next
put_fields held now way other heads next new_heads new_next position of r e before threads more new fits inside small within groups ranks last h n ways =
    let by = group way (length heads) in
    let heads_are : new_heads ≡ heads_with heads (by e) before position = h ∙ ap (λ g. heads_with heads g before position) groups in
    let next_are : new_next ≡ next_with (set next position (link_after heads next (by e) before)) before position =
    n ∙ ap (λ g. next_with (set next position (link_after heads next g before)) before position) groups in
    renamed now way other heads next (heads_with heads (by e) before position) (next_with (set next position (link_after heads next (by e) before)) before position) new_heads new_next
    ways heads_are next_are (heads_as_many heads new_heads of before position h)
    (put_in held now by heads next position e before threads more new fits inside small within (before_same held by of r (rank e) (by e) before groups ranks last))

pub cut_fields : (held now : ℕ → Option (ℕ × ℕ)) (way other : Way) (heads next new_heads new_next : List ℕ) (position of r link : ℕ) (e : ℕ × ℕ) (before : Option ℕ)
    → AreThreads now (group way (length heads)) heads next → IsWith held position e now
    → of ≡ group way (length heads) e → r ≡ rank e → IsLastBelow now (group way (length heads)) of r before → link ≡ get_or next position 0
    → new_heads ≡ heads_with heads of before link → new_next ≡ next_with next before link → other ≡ way
    → AreThreads held (group other (length new_heads)) new_heads new_next
cut_fields held now way other heads next new_heads new_next position of r link e before threads less groups ranks last links h n ways =
    let by = group way (length heads) in
    let heads_are : new_heads ≡ heads_with heads (by e) before (get_or next position 0) =
    h ∙ (ap (λ g. heads_with heads g before link) groups ∙ ap (heads_with heads (by e) before) links) in
    let next_are : new_next ≡ next_with next before (get_or next position 0) = n ∙ ap (next_with next before) links in
    renamed held way other heads next (heads_with heads (by e) before (get_or next position 0)) (next_with next before (get_or next position 0)) new_heads new_next
    ways heads_are next_are (heads_as_many heads new_heads of before link h)
    (cut_out held now by heads next position e before threads less (before_same now by of r (rank e) (by e) before groups ranks last))

-- ---- links of empty slots

-- a slot that holds nothing isn't the one in front
in_front_held : (held : ℕ → Option (ℕ × ℕ)) (by : (ℕ × ℕ) → ℕ) (of limit k p : ℕ) → IsLast held by of limit p → held k ≡ None → k ≡ p → ⊥
in_front_held held by of limit k p last none same = let some = last.member.here in let at = ap held same in cc

pub put_others : (held : ℕ → Option (ℕ × ℕ)) (by : (ℕ × ℕ) → ℕ) (of limit : ℕ) (next now : List ℕ) (position behind link : ℕ) (before : Option ℕ) → IsLastBelow held by of limit before
    → now ≡ next_with (set next position behind) before link → (k : ℕ) → held k ≡ None → (k ≡ position → ⊥) → get_or now k 0 ≡ get_or next k 0
put_others held by of limit next now position behind link None last is k none off = ap (λ xs. get_or xs k 0) is ∙ get_or-set_other next position k behind 0 off
put_others held by of limit next now position behind link (Some p) last is k none off =
    ap (λ xs. get_or xs k 0) is
    ∙ (get_or-set_other (set next position behind) p k link 0 (in_front_held held by of limit k p last none) ∙ get_or-set_other next position k behind 0 off)

pub cut_others : (held : ℕ → Option (ℕ × ℕ)) (by : (ℕ × ℕ) → ℕ) (of limit : ℕ) (next now : List ℕ) (link : ℕ) (before : Option ℕ) → IsLastBelow held by of limit before
    → now ≡ next_with next before link → (k : ℕ) → held k ≡ None → get_or now k 0 ≡ get_or next k 0
cut_others held by of limit next now link None last is k none = ap (λ xs. get_or xs k 0) is
cut_others held by of limit next now link (Some p) last is k none =
    ap (λ xs. get_or xs k 0) is ∙ get_or-set_other next p k link 0 (in_front_held held by of limit k p last none)

-- no thread knows of the link of an empty slot
pub link_aside : (held : ℕ → Option (ℕ × ℕ)) (by : (ℕ × ℕ) → ℕ) (heads next : List ℕ) (position link : ℕ) → AreThreads held by heads next → held position ≡ None → AreThreads held by heads (set next position link)
link_aside held by heads next position link threads none = record {
  first = threads.first;
  follow = λ k e here. subst (λ (l : ℕ). IsFirstThatFar held by (by e) (rank e + 1) (linked l))
      (sym (get_or-set_other next position k link 0 (λ same. let at = ap held same in absurd (cc)))) (threads.follow k e here);
  groups = threads.groups;
  inside = λ k e here. let len = length-set next position link in let old = threads.inside k e here in omega arith;
  fits = threads.fits;
  apart = threads.apart;
}
