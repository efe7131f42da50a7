-- What an answer is where a rule applies, and where none does.
use Rattle.std.proofs.Common.{◌≡◌, ◌≢◌, ℕ, Bool, true, false, cond, not, ◌&&◌, ◌↔◌, nat_lt, List, [], ◌∷◌, ◌++◌, length, refl, sym, ◌∙◌, ap, subst, inl, inr, ◌⊎◌, arith, ◌<◌}
use Rattle.std.proofs.Common.{Option, Some, None}
use Rattle.disk_laws.proofs.Common.{map, unwrap_or, option_map_or, and_parts, and_from, ltb-true, lt-ltb, World, free_count, Sessions, session_of, needs, wanted_blocks, Check, check, first_rule, denied, session_rules, block_rules, level_rules, pair_rules, room_rules, rules_before_room, verdict, finds_no_run, has_no_room, State, Outcome, step, judged, change, gives, starved, answer, Need, PlaceKind, Request, Rule}
use Rattle.tsd_model.specs.declared.requests.Request.TheVariants as ask
use Rattle.tsd_model.specs.declared.replies.Reply.TheVariants as reply
use Rattle.tsd_model.specs.declared.replies.Rule.TheVariants as rule
use Rattle.disk_laws.specs.FullDisk.{IsFullAt}
use Rattle.tsd_model.proofs.VerdictLaws.{first_rule_none, first_rule_some}

-- what is granted isn't refused, and memory was found for it
granted_reply : (kind : PlaceKind) (w : World) (v : Sessions) (q : Request) → (((r : Rule) → (change kind w v q).reply ≢ reply.Refused r) × ((change kind w v q).reply ≢ reply.NoMemory))
granted_reply kind w v q = elim q as (λ p. ((r : Rule) → (change kind w v p).reply ≢ reply.Refused r) × ((change kind w v p).reply ≢ reply.NoMemory)) [
  | ask.Bad ↦ (λ r g. cc, λ g. cc)
  | ask.Begin s ↦ (λ r g. cc, λ g. cc)
  | ask.End s ↦ (λ r g. cc, λ g. cc)
  | ask.Read s b shown ↦ (λ r g. cc, λ g. cc)
  | ask.Write s b shown bytes ↦ (λ r g. cc, λ g. cc)
  | ask.Alloc s a shown h n ↦ (λ r g. cc, λ g. cc)
  | ask.Contig s a shown h n ↦ (λ r g. cc, λ g. cc)
  | ask.GetFree ↦ (λ r g. cc, λ g. cc)
  | ask.Create s a shown b ↦ (λ r g. cc, λ g. cc)
  | ask.Delete s a shown b ↦ (λ r g. cc, λ g. cc)
  | ask.SetCap s b shown caps ↦ (λ r g. cc, λ g. cc)
  | ask.Sweep s shown ↦ (λ r g. cc, λ g. cc)
  | ask.List s a shown start ↦ (λ r g. cc, λ g. cc)
]

refused_starved : (s : State) (q : Request) (r : Rule) (o : Outcome) → starved s q (Some r) o ≡ o
refused_starved s q r o = elim q as (λ p. starved s p (Some r) o ≡ o) [
  | ask.Bad ↦ refl
  | ask.Begin n ↦ refl
  | ask.End n ↦ refl
  | ask.Read n b shown ↦ refl
  | ask.Write n b shown bytes ↦ refl
  | ask.Alloc n a shown h c ↦ refl
  | ask.Contig n a shown h c ↦ refl
  | ask.GetFree ↦ refl
  | ask.Create n a shown b ↦ refl
  | ask.Delete n a shown b ↦ refl
  | ask.SetCap n b shown caps ↦ refl
  | ask.Sweep n shown ↦ refl
  | ask.List n a shown start ↦ refl
]

-- where a rule applies it is the answer, and the state stays
pub refused_answer : (kind : PlaceKind) (s : State) (q : Request) (want : Bool) (r : Rule) → verdict s.world s.sessions q ≡ Some r → answer kind s q want ≡ gives s.world s.sessions (reply.Refused r)
refused_answer kind s q want r e =
    let stepped : step kind s q ≡ gives s.world s.sessions (reply.Refused r) = ap (judged kind s q) e in
    elim want as (λ t. answer kind s q t ≡ gives s.world s.sessions (reply.Refused r)) [
      | false ↦ stepped
      | true ↦ ap (λ x. starved s q x (step kind s q)) e ∙ (refused_starved s q r (step kind s q) ∙ stepped)
    ]

-- where none does the answer is that of the step, or an open session finds no memory and the state stays
pub granted_answer : (kind : PlaceKind) (s : State) (q : Request) (want : Bool) → ◌≡◌ {A = Option Rule} (verdict s.world s.sessions q) None
    → (answer kind s q want ≡ judged kind s q None) ⊎ ((answer kind s q want ≡ gives s.world s.sessions reply.NoMemory) × ((n : ℕ) × (q ≡ ask.Begin n)))
granted_answer kind s q want e =
    let stepped : step kind s q ≡ judged kind s q None = ap (judged kind s q) e in
    elim want as (λ t. (answer kind s q t ≡ judged kind s q None) ⊎ ((answer kind s q t ≡ gives s.world s.sessions reply.NoMemory) × ((n : ℕ) × (q ≡ ask.Begin n)))) [
      | false ↦ inl stepped
      | true ↦ subst (λ x. (starved s q x (step kind s q) ≡ judged kind s q None) ⊎ ((starved s q x (step kind s q) ≡ gives s.world s.sessions reply.NoMemory) × ((n : ℕ) × (q ≡ ask.Begin n)))) (sym e)
          (subst (λ o. (starved s q None o ≡ judged kind s q None) ⊎ ((starved s q None o ≡ gives s.world s.sessions reply.NoMemory) × ((n : ℕ) × (q ≡ ask.Begin n)))) (sym stepped) (no_memory q (judged kind s q None)))
    ]
  where
    no_memory : (p : Request) (o : Outcome) → (starved s p None o ≡ o) ⊎ ((starved s p None o ≡ gives s.world s.sessions reply.NoMemory) × ((n : ℕ) × (p ≡ ask.Begin n)))
    no_memory ask.Bad o = inl refl
    no_memory (ask.Begin n) o = inr (refl, (n, refl))
    no_memory (ask.End n) o = inl refl
    no_memory (ask.Read n b shown) o = inl refl
    no_memory (ask.Write n b shown bytes) o = inl refl
    no_memory (ask.Alloc n a shown h c) o = inl refl
    no_memory (ask.Contig n a shown h c) o = inl refl
    no_memory ask.GetFree o = inl refl
    no_memory (ask.Create n a shown b) o = inl refl
    no_memory (ask.Delete n a shown b) o = inl refl
    no_memory (ask.SetCap n b shown caps) o = inl refl
    no_memory (ask.Sweep n shown) o = inl refl
    no_memory (ask.List n a shown start) o = inl refl

-- what holds of the state before and of that after the step holds after the answer
pub after_answer : (P : State → Type 0) (kind : PlaceKind) (s : State) (q : Request) (want : Bool) → P s → (◌≡◌ {A = Option Rule} (verdict s.world s.sessions q) None → P (judged kind s q None).state) → P (answer kind s q want).state
after_answer P kind s q want stays changed = elim (verdict s.world s.sessions q) as (λ x. verdict s.world s.sessions q ≡ x → P (answer kind s q want).state) [
  | Some r ↦ λ e. subst (λ o. P o.state) (sym (refused_answer kind s q want r e)) stays
  | None ↦ λ e. elim (granted_answer kind s q want e) [
    | inl done ↦ subst (λ o. P o.state) (sym done) (changed e)
    | inr lacking ↦ subst (λ o. P o.state) (sym lacking.0) stays
  ]
] refl

-- the reply is a rule just where that rule is the verdict
pub refused_where : (kind : PlaceKind) (s : State) (q : Request) (want : Bool) (r : Rule) → ((answer kind s q want).reply ≡ reply.Refused r) ↔ (verdict s.world s.sessions q ≡ Some r)
refused_where kind s q want r = (forth, λ e. ap (λ o. o.reply) (refused_answer kind s q want r e))
  where
    forth : (answer kind s q want).reply ≡ reply.Refused r → verdict s.world s.sessions q ≡ Some r
    forth g = elim (verdict s.world s.sessions q) as (λ x. verdict s.world s.sessions q ≡ x → verdict s.world s.sessions q ≡ Some r) [
      | Some x ↦ λ e. let same : reply.Refused x ≡ reply.Refused r = sym (ap (λ o. o.reply) (refused_answer kind s q want x e)) ∙ g in
          let one : x ≡ r = cc in e ∙ ap (λ y. Some y) one
      | None ↦ λ e. elim (granted_answer kind s q want e) [
        | inl done ↦ absurd ((granted_reply kind s.world _ q).0 r (sym (ap (λ o. o.reply) done) ∙ g))
        | inr lacking ↦ let other : reply.NoMemory ≡ reply.Refused r = sym (ap (λ o. o.reply) lacking.0) ∙ g in absurd (cc)
      ]
    ] refl

pub refused_stays : (kind : PlaceKind) (s : State) (q : Request) (want : Bool) (r : Rule) → (answer kind s q want).reply ≡ reply.Refused r → (answer kind s q want).state ≡ s
refused_stays kind s q want r g = ap (λ o. o.state) (refused_answer kind s q want r ((refused_where kind s q want r).0 g))

pub no_memory_stays : (kind : PlaceKind) (s : State) (q : Request) (want : Bool) → (answer kind s q want).reply ≡ reply.NoMemory → (answer kind s q want).state ≡ s
no_memory_stays kind s q want g = elim (verdict s.world s.sessions q) as (λ x. verdict s.world s.sessions q ≡ x → (answer kind s q want).state ≡ s) [
  | Some x ↦ λ e. ap (λ o. o.state) (refused_answer kind s q want x e)
  | None ↦ λ e. elim (granted_answer kind s q want e) [
    | inl done ↦ absurd ((granted_reply kind s.world _ q).1 (sym (ap (λ o. o.reply) done) ∙ g))
    | inr lacking ↦ ap (λ o. o.state) lacking.0
  ]
] refl

-- ---- full

abbrev is_full : Rule → Bool
is_full (rule.Full f c) = true
is_full r = false

-- no rule of the list is Full
abbrev no_full : List Check → Bool
no_full [] = true
no_full (c ∷ cs) = not (is_full c.answer) && no_full cs

never_full : (cs : List Check) (f c : ℕ) → no_full cs ≡ true → first_rule cs ≢ Some (rule.Full f c)
never_full [] f c n e = cc
never_full (r ∷ cs) f c n e = let parts = and_parts (not (is_full r.answer)) (no_full cs) n in
    elim r.applies as (λ t. cond t (Some r.answer) (first_rule cs) ≡ Some (rule.Full f c) → ⊥) [
      | true ↦ λ g. let same : r.answer ≡ rule.Full f c = cc in true_not (subst (λ x. not (is_full x) ≡ true) same parts.0)
      | false ↦ λ g. never_full cs f c parts.1 g
    ] e
  where
    true_not : false ≡ true → ⊥
    true_not g = cc

no_full-append : (cs ds : List Check) → no_full cs ≡ true → no_full ds ≡ true → no_full (cs ++ ds) ≡ true
no_full-append [] ds p q = q
no_full-append (c ∷ cs) ds p q = let parts = and_parts (not (is_full c.answer)) (no_full cs) p in and_from (not (is_full c.answer)) (no_full (cs ++ ds)) parts.0 (no_full-append cs ds parts.1 q)

no_full-denied : (w : World) (v : Sessions) (s : ℕ) (ns : List Need) → no_full (map (denied w v s) ns) ≡ true
no_full-denied w v s [] = refl
no_full-denied w v s (n ∷ ns) = no_full-denied w v s ns

no_full-before : (w : World) (v : Sessions) (q : Request) → no_full (rules_before_room w v q) ≡ true
no_full-before w v q = no_full-append (session_rules v q) (block_rules w q ++ (level_rules w v q ++ pair_rules w q)) refl
    (no_full-append (block_rules w q) (level_rules w v q ++ pair_rules w q) refl (no_full-append (level_rules w v q) (pair_rules w q) (no_full-denied w v (unwrap_or (session_of q) 0) (needs q)) refl))

full_room : (w : World) (q : Request) (f c : ℕ) (o : Option ℕ) (rest : List Check) → no_full rest ≡ true
    → first_rule (check (option_map_or (nat_lt (free_count w)) o false) (rule.Full (free_count w) (unwrap_or o 0)) ∷ rest) ≡ Some (rule.Full f c)
    → (◌≡◌ {A = Option ℕ} o (Some c)) × (f ≡ free_count w) × (f < c)
full_room w q f c None rest n e = absurd (never_full rest f c n e)
full_room w q f c (Some k) rest n e = elim (nat_lt (free_count w) k) as (λ t. nat_lt (free_count w) k ≡ t → cond t (Some (rule.Full (free_count w) k)) (first_rule rest) ≡ Some (rule.Full f c) → (◌≡◌ {A = Option ℕ} (Some k) (Some c)) × (f ≡ free_count w) × (f < c)) [
  | true ↦ λ p g.
      let same_f : free_count w ≡ f = cc in
      let same_c : k ≡ c = cc in
      (ap (λ x. Some x) same_c, sym same_f, omega (arith, ltb-true (free_count w) k p))
  | false ↦ λ p g. absurd (never_full rest f c n g)
] refl e

-- the rules after it
abbrev last_rules : World → Request → List Check
last_rules w q = check (finds_no_run w q) (rule.NoRun (free_count w) (unwrap_or (wanted_blocks q) 0)) ∷ check (has_no_room w q) (rule.PointersFull (length w.pairs) w.geometry.slots) ∷ []

full_verdict : (w : World) (v : Sessions) (q : Request) (f c : ℕ) → (verdict w v q ≡ Some (rule.Full f c)) ↔ IsFullAt (record { world = w; sessions = v }) q f c
full_verdict w v q f c = (forth, back)
  where
    forth : verdict w v q ≡ Some (rule.Full f c) → IsFullAt (record { world = w; sessions = v }) q f c
    forth e = elim (first_rule (rules_before_room w v q)) as (λ x. first_rule (rules_before_room w v q) ≡ x → IsFullAt (record { world = w; sessions = v }) q f c) [
      | Some r ↦ λ g.
          let first : Some r ≡ Some (rule.Full f c) = sym (first_rule_some (rules_before_room w v q) (room_rules w q) r g) ∙ e in
          absurd (never_full (rules_before_room w v q) f c (no_full-before w v q) (g ∙ first))
      | None ↦ λ g.
          let last = sym (first_rule_none (rules_before_room w v q) (room_rules w q) g) ∙ e in
          let at = full_room w q f c (wanted_blocks q) (last_rules w q) refl last in
          (at.0, g, at.1, at.2)
    ] refl

    back : IsFullAt (record { world = w; sessions = v }) q f c → verdict w v q ≡ Some (rule.Full f c)
    back h =
        let applies : nat_lt (free_count w) c ≡ true = lt-ltb (free_count w) c (subst (λ k. k < c) h.2 h.3) in
        first_rule_none (rules_before_room w v q) (room_rules w q) h.1
        ∙ (ap (λ o. first_rule (check (option_map_or (nat_lt (free_count w)) o false) (rule.Full (free_count w) (unwrap_or o 0)) ∷ last_rules w q)) h.0
        ∙ (ap (λ t. cond t (Some (rule.Full (free_count w) c)) (first_rule (last_rules w q))) applies
        ∙ ap (λ k. Some (rule.Full k c)) (sym h.2)))

pub full_law : (kind : PlaceKind) (s : State) (q : Request) (want : Bool) (f c : ℕ) → ((answer kind s q want).reply ≡ reply.Refused (rule.Full f c)) ↔ IsFullAt s q f c
full_law kind s q want f c =
    let refused = refused_where kind s q want (rule.Full f c) in
    let full = full_verdict s.world s.sessions q f c in
    (λ e. full.0 (refused.0 e), λ h. refused.1 (full.1 h))
