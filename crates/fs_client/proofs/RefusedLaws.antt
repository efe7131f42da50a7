-- A reply of another form than was wanted is a refusal by a rule of the disk, and nothing has changed.
use Rattle.std.proofs.Common.{◌≡◌, Bool, true, false, refl, sym, ◌∙◌, ap, Some, None}
use Rattle.fs_client.proofs.Common.{verdict, State, judged, answer, PlaceKind, Request, Reply, refused_answer, DiskView, state_of, steady_there, is_steady, IsAskCarriedOut, refusal_in, has_wanted_form, IsRefused}
use Rattle.tsd_model.specs.declared.requests.Request.TheVariants as ask
use Rattle.tsd_model.specs.declared.replies.Reply.TheVariants as reply

-- it is one of the six requests that a file system asks
abbrev pub is_of_files : Request → Bool
is_of_files (ask.Read s b shown) = true
is_of_files (ask.Write s b shown bytes) = true
is_of_files (ask.Create s a shown b) = true
is_of_files (ask.Delete s a shown b) = true
is_of_files (ask.Alloc s a shown h count) = true
is_of_files (ask.List s a shown start) = true
is_of_files q = false

-- both words for a request that neither opens nor closes a session, nor sets a capability
pub is_steady_too : (q : Request) → steady_there q ≡ true → is_steady q ≡ true
is_steady_too (ask.Begin s) h = absurd (cc)
is_steady_too (ask.End s) h = absurd (cc)
is_steady_too (ask.SetCap s b shown caps) h = absurd (cc)
is_steady_too q h = refl

-- granted, its reply has the form
judged_form : (kind : PlaceKind) (s : State) (q : Request) → is_of_files q ≡ true → has_wanted_form q (judged kind s q None).reply ≡ true
judged_form kind s (ask.Read n b shown) h = refl
judged_form kind s (ask.Write n b shown bytes) h = refl
judged_form kind s (ask.Create n a shown b) h = refl
judged_form kind s (ask.Delete n a shown b) h = refl
judged_form kind s (ask.Alloc n a shown hint count) h = refl
judged_form kind s (ask.List n a shown start) h = refl
judged_form kind s ask.Bad h = absurd (cc)
judged_form kind s (ask.Begin n) h = absurd (cc)
judged_form kind s (ask.End n) h = absurd (cc)
judged_form kind s (ask.Contig n a shown hint count) h = absurd (cc)
judged_form kind s ask.GetFree h = absurd (cc)
judged_form kind s (ask.SetCap n b shown caps) h = absurd (cc)
judged_form kind s (ask.Sweep n shown) h = absurd (cc)

-- want of memory is nothing to it
pub same_answer : (kind : PlaceKind) (s : State) (q : Request) (want : Bool) → is_of_files q ≡ true → answer kind s q want ≡ judged kind s q (verdict s.world s.sessions q)
same_answer kind s q false h = refl
same_answer kind s (ask.Read n b shown) true h = refl
same_answer kind s (ask.Write n b shown bytes) true h = refl
same_answer kind s (ask.Create n a shown b) true h = refl
same_answer kind s (ask.Delete n a shown b) true h = refl
same_answer kind s (ask.Alloc n a shown hint count) true h = refl
same_answer kind s (ask.List n a shown start) true h = refl
same_answer kind s ask.Bad true h = absurd (cc)
same_answer kind s (ask.Begin n) true h = absurd (cc)
same_answer kind s (ask.End n) true h = absurd (cc)
same_answer kind s (ask.Contig n a shown hint count) true h = absurd (cc)
same_answer kind s ask.GetFree true h = absurd (cc)
same_answer kind s (ask.SetCap n b shown caps) true h = absurd (cc)
same_answer kind s (ask.Sweep n shown) true h = absurd (cc)

granted_form : (kind : PlaceKind) (s : State) (q : Request) (want : Bool) → is_of_files q ≡ true → verdict s.world s.sessions q ≡ None → has_wanted_form q (answer kind s q want).reply ≡ true
granted_form kind s q want h e =
    ap (λ o. has_wanted_form q o.reply) (same_answer kind s q want h)
    ∙ (ap (λ x. has_wanted_form q (judged kind s q x).reply) e ∙ judged_form kind s q h)

pub other_form : (old new : DiskView) (q : Request) (r : Reply) → is_of_files q ≡ true → IsAskCarriedOut old new q r → has_wanted_form q r ≡ false → IsRefused old q (refusal_in r) × (state_of new ≡ state_of old)
other_form old new q r h done other = elim (verdict old.world old.sessions q) as (λ x. verdict old.world old.sessions q ≡ x → IsRefused old q (refusal_in r) × (state_of new ≡ state_of old)) [
  | None ↦ λ e.
      let formed = granted_form old.kind (state_of old) q done.0 h e in
      let form : has_wanted_form q r ≡ true = ap (has_wanted_form q) (sym done.2) ∙ formed in
      absurd (cc)
  | Some rule ↦ λ e.
      let whole = refused_answer old.kind (state_of old) q done.0 rule e in
      let told : r ≡ reply.Refused rule = sym done.2 ∙ ap (λ o. o.reply) whole in
      let stays : state_of new ≡ state_of old = sym done.1 ∙ ap (λ o. o.state) whole in
      ((rule, e, ap refusal_in (sym told)), stays)
] refl
