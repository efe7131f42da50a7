-- What a crash leaves while records are put in place and their gates are closed.
--
-- While the homes are written, no sector of the journal changes, so the same records lie over the homes and hide them. Once
-- the homes hold the bodies, it makes no difference whether the records still lie over them. So gate 0 may be torn: read as
-- open the same records are open, and read as closed none is. Behind a closed gate 0 no other gate is read.
use Rattle.std.proofs.Common.{◌≡◌, ◌≢◌, ◌⊎◌, inl, inr, ℕ, ◌<◌, ◌==◌, ◌&&◌, nat_le, Bool, true, false, cond, IsTrue, List, [], refl, sym, ◌∙◌, ap, subst, arith}
use Rattle.intent_journal.proofs.Common.{list_all, cases_Bool, cases_eq, ne_eqb, and_right, and_left, false_from_ne_true, and_parts, leb-true, both_ways, Image, IsConfined, IsFirm, LeavesOnly, View, IsLeftWithin, joined, weakened, or_false, or_false_left, or_false_right, says_open, gate_bytes, records, gate_sector, descriptor_sector, body_sector, Patch, has_home, homes_of, IsListed, is_listed_open, IsBefore, home, overlaid, is_journal, AgreeBut, is_lawful_home, JournalRecord, patches_of, is_gate_open, IsRingAt, ClosesGates}
use Rattle.intent_journal.proofs.Gates.{IsAlike, opened_same, valid_same}
use Rattle.intent_journal.proofs.Opened.{opened_none, opened_lawful, home_of_empty}
use Rattle.intent_journal.proofs.Overlays.{overlaid_alike, overlaid_twice, lawful_apart}
use Rattle.intent_journal.proofs.Places.{gate_in, descriptor_in, body_in, gates_apart, gate_descriptor_apart, gate_no_body, in_journal}
use Rattle.intent_journal.proofs.Uses.{journal_alike, at_closed}

abbrev pub is_later : ℕ → Bool
is_later n = nat_le 117 n && nat_le n 129

pub later_in_journal : (n : ℕ) → is_journal n ≡ false → is_later n ≡ false
later_in_journal n out = false_from_ne_true (is_later n) (λ t.
    let p = and_parts (nat_le 117 n) (nat_le n 129) t in
    both_ways (is_journal n) out (in_journal n (omega (arith, leb-true 117 n p.0)) (omega (arith, leb-true n 129 p.1))))

-- all of the journal is the same but the sector of gate 0, and that gate is as open
alike_but_first : (x y : Image) → is_gate_open y 0 ≡ is_gate_open x 0 → ((n : ℕ) → is_journal n ≡ true → n ≢ 2 → y n ≡ x n) → IsAlike x y
alike_but_first x y first same = record {
  gates = λ i less. elim (cases_eq i 0) [
    | inl e ↦ ap (is_gate_open y) e ∙ first ∙ sym (ap (is_gate_open x) e)
    | inr other ↦ ap says_open (same (gate_sector i) (gate_in i less) (gates_apart i 0 other))
  ];
  descriptors = λ i less. same (descriptor_sector i) (descriptor_in i less) (λ e. gate_descriptor_apart 0 i (sym e));
  each_body = λ k less. same (body_sector k) (body_in k less) (λ e. gate_no_body 0 k less (sym e));
}

module _ (ps : List Patch) (gates : List Bool) (v : View) (listed : IsListed ps gates v) where
  abbrev P : Image → List ℕ → Type 0
  P x f = IsBefore v x × (f ≡ v.sent)

  lawful : IsTrue (list_all is_lawful_home (homes_of ps))
  lawful = subst (λ (qs : List Patch). IsTrue (list_all is_lawful_home (homes_of qs))) listed.patches (opened_lawful v.reads)

  pub journal_away : (n : ℕ) → is_journal n ≡ true → has_home ps n ≡ false
  journal_away n inside = lawful_apart ps n lawful inside

  home_old : (n : ℕ) → home v.reads n ≡ overlaid ps v.reads n
  home_old n = ap (λ (qs : List Patch). overlaid qs v.reads n) listed.patches

  -- an image with the same records
  home_alike_is : (x : Image) → IsAlike v.reads x → (n : ℕ) → home x n ≡ overlaid ps x n
  home_alike_is x alike n = ap (λ (rs : List JournalRecord). overlaid (patches_of rs) x n) (opened_same v.reads x alike) ∙ ap (λ (qs : List Patch). overlaid qs x n) listed.patches

  -- while the homes are written
  in_homes : (x : Image) (f : List ℕ) → IsLeftWithin (has_home ps) v x f → P x f
  in_homes x f left = (
    record {
      valid = valid_same v.reads x alike ∙ listed.valid;
      stands = λ n out. home_alike_is x alike n ∙ overlaid_alike ps v.reads x n (λ away. same n away (or_false_right (is_journal n) (v.loose n) out)) ∙ sym (home_old n);
    },
    left.1,
  )
    where
      same : (n : ℕ) → has_home ps n ≡ false → v.loose n ≡ false → x n ≡ v.reads n
      same n away firm = left.0.agrees n (or_false (has_home ps n) (v.loose n) away firm)

      alike : IsAlike v.reads x
      alike = journal_alike v.reads x (λ n inside. same n (journal_away n inside) (listed.journal_firm n inside))

  module _ (v1 : View) (run1 : IsConfined (has_home ps) v v1) where
    pub placing : LeavesOnly v v1 (λ x f. IsBefore v x × (f ≡ v.sent))
    placing = weakened v v1 (IsLeftWithin (has_home ps) v) P run1.leaves in_homes

    module _ (placed : (n : ℕ) → v1.reads n ≡ overlaid ps v.reads n) (firm1 : IsFirm v1) where
      journal_kept : (n : ℕ) → is_journal n ≡ true → v1.reads n ≡ v.reads n
      journal_kept n inside = run1.reads n (journal_away n inside)

      pub gate_kept : (i : ℕ) → i < records → is_listed_open gates i ≡ is_gate_open v1.reads i
      gate_kept i less = listed.gates i less ∙ sym (ap says_open (journal_kept (gate_sector i) (gate_in i less)))

      -- an image whose homes hold the bodies
      stands_for : (x : Image) → ((n : ℕ) → is_journal n ≡ false → x n ≡ overlaid ps v.reads n) → IsAlike v.reads x ⊎ (is_gate_open x 0 ≡ false) → IsBefore v x
      stands_for x homes either = elim either [
        | inl alike ↦ record {
          valid = valid_same v.reads x alike ∙ listed.valid;
          stands = λ n out.
              let away = or_false_left (is_journal n) (v.loose n) out in
              home_alike_is x alike n ∙ overlaid_alike ps (overlaid ps v.reads) x n (λ _. homes n away) ∙ overlaid_twice ps v.reads n ∙ sym (home_old n);
        }
        | inr shut ↦
            let none = opened_none x shut in
            record {
              valid = none.1;
              stands = λ n out.
                  let away = or_false_left (is_journal n) (v.loose n) out in
                  (λ i. home_of_empty x none.0 i n) ∙ homes n away ∙ sym (home_old n);
            }
      ]

      -- while gate 0 is written
      in_first : (x : Image) (f : List ℕ) → IsLeftWithin (λ n. is_listed_open gates 0 && (n == gate_sector 0)) v1 x f → P x f
      in_first x f left = (
        stands_for x (λ n away. same n (λ e. both_ways (is_journal n) away (ap is_journal e)) ∙ placed n) (elim (cases_Bool (is_gate_open x 0)) [
          | inl open_gate ↦ inl (alike_but_first v.reads x (first open_gate) (λ n inside other. same n other ∙ journal_kept n inside))
          | inr shut ↦ inr shut
        ]),
        left.1 ∙ run1.sent,
      )
        where
          within : (n : ℕ) → (is_listed_open gates 0 && (n == gate_sector 0)) ≡ false → x n ≡ v1.reads n
          within n none = left.0.agrees n (or_false (is_listed_open gates 0 && (n == gate_sector 0)) (v1.loose n) none (firm1 n))

          same : (n : ℕ) → n ≢ 2 → x n ≡ v1.reads n
          same n other = within n (and_right (is_listed_open gates 0) (n == gate_sector 0) (ne_eqb n 2 other))

          first : is_gate_open x 0 ≡ true → is_gate_open x 0 ≡ is_gate_open v.reads 0
          first open_gate = elim (cases_Bool (is_listed_open gates 0)) [
            | inl inside ↦ open_gate ∙ sym (sym (listed.gates 0 (omega arith)) ∙ inside)
            | inr not_it ↦ ap says_open (within 2 (and_left (is_listed_open gates 0) (2 == gate_sector 0) not_it) ∙ journal_kept 2 refl)
          ]

      module _ (v2 : View) (run2 : IsConfined (λ n. is_listed_open gates 0 && (n == gate_sector 0)) v1 v2) where
        pub closing_first : LeavesOnly v v2 (λ x f. IsBefore v x × (f ≡ v.sent))
        closing_first = joined v v1 v2 P (IsLeftWithin (λ n. is_listed_open gates 0 && (n == gate_sector 0)) v1) placing run2.leaves in_first

        others_kept : (n : ℕ) → n ≢ 2 → v2.reads n ≡ v1.reads n
        others_kept n other = run2.reads n (and_right (is_listed_open gates 0) (n == gate_sector 0) (ne_eqb n 2 other))

        pub later_kept : (i : ℕ) → 0 < i → i < records → is_listed_open gates i ≡ is_gate_open v2.reads i
        later_kept i more less = gate_kept i less ∙ sym (ap says_open (others_kept (gate_sector i) (gates_apart i 0 (λ e. absurd (omega arith)))))

        module _ (shut : is_gate_open v2.reads 0 ≡ false) (firm2 : IsFirm v2) where
          -- while the later gates are written
          in_later : (x : Image) (f : List ℕ) → IsLeftWithin is_later v2 x f → P x f
          in_later x f left = (
            stands_for x (λ n away. same n (later_in_journal n away) ∙ others_kept n (λ e. both_ways (is_journal n) away (ap is_journal e)) ∙ placed n) (inr (ap says_open (same 2 refl) ∙ shut)),
            left.1 ∙ run2.sent ∙ run1.sent,
          )
            where
              same : (n : ℕ) → is_later n ≡ false → x n ≡ v2.reads n
              same n out = left.0.agrees n (or_false (is_later n) (v2.loose n) out (firm2 n))

          module _ (v3 : View) (run3 : IsConfined is_later v2 v3) where
            pub closing_later : LeavesOnly v v3 (λ x f. IsBefore v x × (f ≡ v.sent))
            closing_later = joined v v2 v3 P (IsLeftWithin is_later v2) closing_first run3.leaves in_later

            pub all_sent : v3.sent ≡ v.sent
            all_sent = run3.sent ∙ run2.sent ∙ run1.sent

            -- in the end
            pub put_done : AgreeBut is_journal (home v.reads) v3.reads
            put_done n away = run3.reads n (later_in_journal n away) ∙ others_kept n (λ e. both_ways (is_journal n) away (ap is_journal e)) ∙ placed n ∙ sym (home_old n)

            pub put_at_end : ((i : ℕ) → 0 < i → i < records → is_gate_open v3.reads i ≡ false) → IsFirm v3 → IsRingAt [] v3
            put_at_end closed firm3 = at_closed v3
                (λ i less. elim (cases_eq i 0) [
                  | inl e ↦ ap (is_gate_open v3.reads) e ∙ ap says_open (run3.reads 2 refl) ∙ shut
                  | inr other ↦ closed i (omega arith) less
                ])
                (λ n _. firm3 n)

            pub put_gates : v2.reads (gate_sector 0) ≡ cond (is_listed_open gates 0) (gate_bytes false) (v1.reads (gate_sector 0))
                → ((i : ℕ) → 0 < i → i < records → v3.reads (gate_sector i) ≡ cond (is_listed_open gates i) (gate_bytes false) (v2.reads (gate_sector i))) → ClosesGates v.reads v3.reads
            put_gates first later i less = elim (cases_eq i 0) [
              | inl e ↦
                  let P : ℕ → Type 0 = λ k. v3.reads (gate_sector k) ≡ cond (is_gate_open v.reads k) (gate_bytes false) (v.reads (gate_sector k)) in
                  let is : v3.reads 2 ≡ cond (is_gate_open v.reads 0) (gate_bytes false) (v.reads 2) =
                  run3.reads 2 refl ∙ first ∙ ap (λ b. cond b (gate_bytes false) (v1.reads 2)) (listed.gates 0 (omega arith)) ∙ ap (λ (l : List ℕ). cond (is_gate_open v.reads 0) (gate_bytes false) l) (journal_kept 2 refl) in
                  subst P (sym e) is
              | inr other ↦
                  later i (omega arith) less ∙ ap (λ b. cond b (gate_bytes false) (v2.reads (gate_sector i))) (listed.gates i less)
                  ∙ ap (λ (l : List ℕ). cond (is_gate_open v.reads i) (gate_bytes false) l) (others_kept (gate_sector i) (gates_apart i 0 other) ∙ journal_kept (gate_sector i) (gate_in i less))
            ]
