-- Answers to one request at two states.
use Rattle.std.proofs.Common.{◌≡◌, ℕ, Bool, true, false, ◌&&◌, refl, sym, ◌∙◌, ap, subst, Option, Some, None}
use Rattle.disk_laws.proofs.Common.{is_none, is_granted, verdict, State, Outcome, step, judged, gives, answer, starved, PlaceKind, Request, Rule, writes_to, and_false}
use Rattle.tsd_model.specs.declared.requests.Request.TheVariants as ask
use Rattle.tsd_model.specs.declared.replies.Reply.{Reply}
use Rattle.tsd_model.specs.declared.replies.Reply.TheVariants as reply
use Rattle.disk_laws.proofs.AnswerLaws.{refused_answer}

-- what holds of two answers that a rule gives, or that found no memory, and of those that are granted, where the verdict is one
pub two_answers : (P : Outcome → Outcome → Type 0) (kind : PlaceKind) (s t : State) (q : Request) (want : Bool) → verdict t.world t.sessions q ≡ verdict s.world s.sessions q
    → (((b : ℕ) → (is_granted s.world s.sessions q && writes_to q b) ≡ false) → (r : Reply) → P (gives s.world s.sessions r) (gives t.world t.sessions r))
    → (◌≡◌ {A = Option Rule} (verdict s.world s.sessions q) None → P (judged kind s q None) (judged kind t q None))
    → P (answer kind s q want) (answer kind t q want)
two_answers P kind s t q want e stays changed = elim (verdict s.world s.sessions q) as (λ x. verdict s.world s.sessions q ≡ x → P (answer kind s q want) (answer kind t q want)) [
  | Some r ↦ λ g. subst (λ o. P o (answer kind t q want)) (sym (refused_answer kind s q want r g)) (subst (λ o. P (gives s.world s.sessions (reply.Refused r)) o) (sym (refused_answer kind t q want r (e ∙ g)))
      (stays (λ b. ap (λ x. is_none x && writes_to q b) g) (reply.Refused r)))
  | None ↦ λ g.
      let stepped : P (step kind s q) (step kind t q) = subst (λ x. P (judged kind s q x) (step kind t q)) (sym g) (subst (λ x. P (judged kind s q None) (judged kind t q x)) (sym (e ∙ g)) (changed g)) in
      elim want as (λ x. P (answer kind s q x) (answer kind t q x)) [
        | false ↦ stepped
        | true ↦ subst (λ x. P (starved s q x (step kind s q)) (starved t q (verdict t.world t.sessions q) (step kind t q))) (sym g) (subst (λ x. P (starved s q None (step kind s q)) (starved t q x (step kind t q))) (sym (e ∙ g))
            (no_memory q (step kind s q) (step kind t q) stepped (λ n same. stays (λ b. ap (λ p. is_granted s.world s.sessions q && writes_to p b) same ∙ and_false (is_granted s.world s.sessions q)) reply.NoMemory)))
      ]
] refl
  where
    no_memory : (p : Request) (o x : Outcome) → P o x → ((n : ℕ) → p ≡ ask.Begin n → P (gives s.world s.sessions reply.NoMemory) (gives t.world t.sessions reply.NoMemory)) → P (starved s p None o) (starved t p None x)
    no_memory (ask.Begin n) o x h lacking = lacking n refl
    no_memory p o x h lacking = h
