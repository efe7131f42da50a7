-- One request that changes the world: what it leaves.
use Rattle.std.proofs.Common.{◌≡◌, ℕ, true, false, List, [], ◌∷◌, refl, sym, ◌∙◌, ap, subst, inl, inr, ◌⊎◌, Option, Some, None, Result, Ok, Err}
use Rattle.fs_client.proofs.Common.{is_none, World, is_live, Fits, verdict, IsValid, judged, answer, is_of_session, Request, Reply, Rule, refused_answer, answer_valid, answer_fits, run_geometry, OthersStay, is_local, Keeps, outside_stays, named_stays, is_steady, HoldsWrite, writes_through, ways_stay, ways_are_gained, DiskView, state_of, IsAskCarriedOut, IsEitherSide, IsValidNow, LeavesWorldsOnly, leaves_more, led_by, FsRefusal, Client, chosen, At, alloc_by, AsksOnce, has_wanted_form, Leads, Went, Steps}
use Rattle.tsd_model.specs.declared.requests.Request.TheVariants as ask
use Rattle.tsd_model.specs.declared.replies.Reply.TheVariants as reply
use Rattle.fs_client.proofs.RefusedLaws.{is_of_files, is_steady_too, same_answer}

unformed : (q : Request) (k : Rule) → has_wanted_form q (reply.Refused k) ≡ true → ⊥
unformed (ask.Read s b shown) k h = cc
unformed (ask.Write s b shown bytes) k h = cc
unformed (ask.Create s a shown b) k h = cc
unformed (ask.Delete s a shown b) k h = cc
unformed (ask.Alloc s a shown hint count) k h = cc
unformed (ask.List s a shown start) k h = cc
unformed q k h = cc

-- what has the wanted form was granted
pub granted_by_form : (old new : DiskView) (q : Request) (r : Reply) → IsAskCarriedOut old new q r → has_wanted_form q r ≡ true → ◌≡◌ {A = Option Rule} (verdict old.world old.sessions q) None
granted_by_form old new q r done form = elim (verdict old.world old.sessions q) as (λ o. verdict old.world old.sessions q ≡ o → o ≡ None) [
  | None ↦ λ e. refl
  | Some rule ↦ λ e.
      let is : r ≡ reply.Refused rule = sym done.2 ∙ ap (λ o. o.reply) (refused_answer old.kind (state_of old) q done.0 rule e) in
      absurd (unformed q rule (ap (has_wanted_form q) (sym is) ∙ form))
] refl

module _ (c : Client) (old new : DiskView) (q : Request) (a : ℕ) (after : World) (own : is_of_files q ≡ true) (is : (judged old.kind (state_of old) q None).state.world ≡ after) where
  module _ (now : IsValidNow old) (local : is_local q ≡ true) where
    -- what it leads to where it is granted
    leads : ◌≡◌ {A = Option Rule} (verdict old.world old.sessions q) None → Leads old.world q after
    leads granted =
        let to : (answer old.kind (state_of old) q false).state.world ≡ after =
        ap (λ o. o.state.world) (same_answer old.kind (state_of old) q false own) ∙ (ap (λ o. (judged old.kind (state_of old) q o).state.world) granted ∙ is) in
        record {
          valid = subst IsValid to (answer_valid old.kind (state_of old) q false now.valid);
          geometry = ap (λ w. w.geometry) (sym to) ∙ run_geometry old.kind (state_of old) (false ∷ []) (q ∷ []);
          others = λ root primary inside. subst (OthersStay root old.world) to (outside_stays old.kind (state_of old) q false root now.valid primary local inside);
          keeps = λ root n under spared. subst (λ w. Keeps old.world w n) to (named_stays old.kind (state_of old) q false root n now.valid under spared);
        }

    -- either side is the world before or the one after
    pub either : (w : World) → IsEitherSide old q w → (w ≡ old.world) ⊎ ((w ≡ after) × Leads old.world q after)
    either w h = elim h [
      | inl before ↦ inl before
      | inr e ↦ by_verdict (verdict old.world old.sessions q) refl (e ∙ ap (λ o. o.state.world) (same_answer old.kind (state_of old) q false own))
    ]
      where
        by_verdict : (o : Option Rule) → verdict old.world old.sessions q ≡ o → w ≡ (judged old.kind (state_of old) q o).state.world → (w ≡ old.world) ⊎ ((w ≡ after) × Leads old.world q after)
        by_verdict None k e = inr (e ∙ is, leads k)
        by_verdict (Some r) k e = inl e

    -- ---- carried out

    module _ (steady : is_steady q ≡ true) (mine : is_of_session q c.session ≡ true) (through : writes_through (state_of old) q c.session a ≡ true) (r : Reply) (done : IsAskCarriedOut old new q r) (form : has_wanted_form q r ≡ true) where
      granted : ◌≡◌ {A = Option Rule} (verdict old.world old.sessions q) None
      granted = granted_by_form old new q r done form

      world_is : (answer old.kind (state_of old) q done.0).state.world ≡ after
      world_is = ap (λ o. o.state.world) (same_answer old.kind (state_of old) q done.0 own) ∙ (ap (λ o. (judged old.kind (state_of old) q o).state.world) granted ∙ is)

      pub went : Went c old new q a after
      went = record {
        world = ap (λ st. st.world) (sym done.1) ∙ world_is;
        leads = leads granted;
        valid = record {
          valid = subst (λ st. IsValid st.world) done.1 (answer_valid old.kind (state_of old) q done.0 now.valid);
          fits = subst (λ st. Fits st.world st.sessions) done.1 (answer_fits old.kind (state_of old) q done.0 now.valid now.fits);
        };
        ways = λ s b held live. subst (λ st. HoldsWrite st s b) done.1 (ways_stay old.kind (state_of old) q done.0 s b now.valid now.fits held steady (ap (λ w. is_live w b) world_is ∙ live));
        held = λ live. subst (λ st. HoldsWrite st c.session a) done.1 (ways_are_gained old.kind (state_of old) q done.0 c.session a now.valid now.fits (ap is_none granted) mine through steady (ap (λ w. is_live w a) world_is ∙ live));
        led = led_by old new q r (is_steady_too q steady) done;
      }

  -- ---- whatever came of it

  module _ {X : Type 0} (told : Type 0) (now : told → IsValidNow old) (local : is_local q ≡ true) where
    crash_by : (result : Result X FsRefusal) → AsksOnce told old new q result → told → LeavesWorldsOnly old new (λ w. (w ≡ old.world) ⊎ ((w ≡ after) × Leads old.world q after))
    crash_by result once t = leaves_more old new (IsEitherSide old q) (λ w. (w ≡ old.world) ⊎ ((w ≡ after) × Leads old.world q after)) (either (now t) local) (once.crash t)

    pub step_ok : (x : X) → (told → Went c old new q a after) → AsksOnce told old new q (Ok x) → Steps told c old new q a after (Ok x)
    step_ok x h once = record {
      went = h;
      same = λ t. tt;
      crash = crash_by (Ok x) once;
      stays = once.stays;
      counts = once.counts;
      unspent = once.unspent;
      faultless = once.faultless;
      cause = once.cause;
      spent = once.spent;
    }

    pub step_err : (e : FsRefusal) → AsksOnce {X = X} told old new q (Err e) → Steps {X = X} told c old new q a after (Err e)
    step_err e once = record {
      went = λ t. tt;
      same = λ t ne. (once.refused t ne).1;
      crash = crash_by (Err e) once;
      stays = once.stays;
      counts = once.counts;
      unspent = once.unspent;
      faultless = once.faultless;
      cause = once.cause;
      spent = once.spent;
    }

-- ---- the new blocks

pub blocks_are : (c : Client) (old new : DiskView) (a count : ℕ) (bs : List ℕ) → IsAskCarriedOut old new (alloc_by c a count) (reply.Blocks bs) → bs ≡ chosen old.kind old.world (At a) count
blocks_are c old new a count bs done =
    let q = alloc_by c a count in
    let is : (answer old.kind (state_of old) q done.0).reply ≡ reply.Blocks (chosen old.kind old.world (At a) count) =
    ap (λ o. o.reply) (same_answer old.kind (state_of old) q done.0 refl) ∙ ap (λ o. (judged old.kind (state_of old) q o).reply) (granted_by_form old new q (reply.Blocks bs) done refl) in
    same_blocks (sym done.2 ∙ is)
  where
    same_blocks : {x y : List ℕ} → reply.Blocks x ≡ reply.Blocks y → x ≡ y
    same_blocks e = cc
