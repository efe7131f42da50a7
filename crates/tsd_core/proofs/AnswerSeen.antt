-- Answers over a table that may still hold levels at free blocks.
use Rattle.std.proofs.Common.{◌≡◌, ℕ, true, false, refl, sym, ◌∙◌, ap, ◌-◌, Option, Some, None}
use Rattle.tsd_core.proofs.Common.{without_pair, World, free_count, fitted, is_begin, verdict, settle, swept, State, gives, step, run_at, targets_from, without_pointer, starved, answer, Reply, Rule, PlaceKind, Request, AreLike, free_count_like, chosen_like, chosen_run_like, settle_like, swept_like, fitted_like, Table, with_sessions, table_after, world_after, reply_to, is_read, IsOver, state_over, IsStarved, IsAnswer}
use Rattle.tsd_model.specs.declared.replies.Reply.TheVariants as reply
use Rattle.tsd_model.specs.declared.requests.Request.TheVariants as ask
use Rattle.disk_laws.proofs.AnswerLaws.{refused_answer}
use Rattle.tsd_core.proofs.StepSeen.{verdict_over, step_over}

-- a refused request
pub refused_over : (kind : PlaceKind) (g : Table) (t w : World) (q : Request) (r : Rule) → IsOver g t w → verdict t g.sessions q ≡ Some r → IsAnswer kind (state_over t w g) q (reply.Refused r) (state_over t w g)
refused_over kind g t w q r over e =
    let o = refused_answer kind (state_over t w g) q false r (verdict_over g t w q over ∙ e) in
    record { want = false; reply = sym (ap (λ x. x.reply) o); state = sym (ap (λ x. x.state) o) }

-- a granted one, where the disk then reads as the world of the change and the table is the one after it
pub granted_over : (kind : PlaceKind) (g h : Table) (t w u x : World) (q : Request) (r : Reply) → IsOver g t w → ◌≡◌ {A = Option Rule} (verdict t g.sessions q) None
    → AreLike u x → x ≡ world_after kind w q → h ≡ with_sessions g (table_after kind t g.sessions q) → r ≡ reply_to kind w q
    → IsAnswer kind (state_over t w g) q r (state_over u x h)
granted_over kind g h t w u x q r over granted like world table reply =
    let o = step_over kind g t w q over granted in
    record {
      want = false;
      reply = reply ∙ sym (ap (λ y. y.reply) o);
      state =
          (λ i. record { world = x; sessions = fitted u (table i).sessions })
          ∙ ((λ i. record { world = x; sessions = fitted_like u x like (table_after kind t g.sessions q) i })
          ∙ ((λ i. record { world = world i; sessions = fitted (world i) (table_after kind t g.sessions q) })
          ∙ sym (ap (λ y. y.state) o)));
    }

-- a begin for which no memory was found
pub starved_over : (kind : PlaceKind) (g h : Table) (t w : World) (q : Request) (r : Reply) → IsOver g t w → ◌≡◌ {A = Option Rule} (verdict t g.sessions q) None → IsStarved g q r h
    → IsAnswer kind (state_over t w g) q r (state_over t w h)
starved_over kind g h t w q r over granted at =
    let lacking : answer kind (state_over t w g) q true ≡ gives w (fitted t g.sessions) reply.NoMemory = go q at.begin (verdict_over g t w q over ∙ granted) in
    record { want = true; reply = at.reply ∙ sym (ap (λ y. y.reply) lacking); state = ap (state_over t w) at.table ∙ sym (ap (λ y. y.state) lacking) }
  where
    here : (s : State) (p : Request) (x : Option Rule) → is_begin p ≡ true → ◌≡◌ {A = Option Rule} x None → starved s p x (step kind s p) ≡ gives s.world s.sessions reply.NoMemory
    here s (ask.Begin n) x b e = ap (λ y. starved s (ask.Begin n) y (step kind s (ask.Begin n))) e
    here s p x b e = absurd (cc)

    go : (p : Request) → is_begin p ≡ true → ◌≡◌ {A = Option Rule} (verdict w (fitted t g.sessions) p) None → answer kind (state_over t w g) p true ≡ gives w (fitted t g.sessions) reply.NoMemory
    go p b e = here (state_over t w g) p (verdict w (fitted t g.sessions) p) b e

-- ---- replies read no bytes but those of a read

pub without_like : (t w : World) (a b : ℕ) → AreLike t w → AreLike (without_pointer t a b) (without_pointer w a b)
without_like t w a b like = record { geometry = like.geometry; version = like.version; count = like.count; live = like.live; pairs = ap (without_pair a b) like.pairs; records = like.records }

gone_like : (t w u x : World) → AreLike t w → AreLike u x → free_count u - free_count t ≡ free_count x - free_count w
gone_like t w u x like left = λ i. free_count_like u x left i - free_count_like t w like i

pub reply_like : (kind : PlaceKind) (t w : World) (q : Request) → AreLike t w → is_read q ≡ false → reply_to kind t q ≡ reply_to kind w q
reply_like kind t w ask.Bad like e = refl
reply_like kind t w (ask.Begin s) like e = refl
reply_like kind t w (ask.End s) like e = refl
reply_like kind t w (ask.Read s b shown) like e = absurd (cc)
reply_like kind t w (ask.Write s b shown bytes) like e = refl
reply_like kind t w (ask.Alloc s a shown h count) like e = ap reply.Blocks (chosen_like t w like kind h count)
reply_like kind t w (ask.Contig s a shown h count) like e = ap (λ o. reply.Blocks (run_at o count)) (chosen_run_like t w like kind h count)
reply_like kind t w ask.GetFree like e = ap reply.Free (free_count_like t w like)
reply_like kind t w (ask.Create s a shown b) like e = refl
reply_like kind t w (ask.Delete s a shown b) like e = ap reply.Gone (gone_like t w (settle (without_pointer t a b)) (settle (without_pointer w a b)) like (settle_like (without_pointer t a b) (without_pointer w a b) (without_like t w a b like)))
reply_like kind t w (ask.SetCap s b shown caps) like e = refl
reply_like kind t w (ask.Sweep s shown) like e = ap reply.Gone (gone_like t w (swept t) (swept w) like (swept_like t w like))
reply_like kind t w (ask.List s a shown start) like e = ap (λ es. reply.Targets (targets_from es a start)) like.pairs
