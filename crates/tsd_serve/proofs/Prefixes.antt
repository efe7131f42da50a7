-- What the whole replies among the bytes sent say of the image, in the words of the headline.
use Rattle.std.proofs.Common.{◌≡◌, ◌⊎◌, inl, inr, ℕ, suc, ◌<◌, ◌≤◌, Bool, List, [], ◌∷◌, ◌++◌, length, map, drop, refl, sym, ◌∙◌, ap, subst, append_assoc, append-nil, length-append, arith}
use Rattle.std.proofs.lemmas.List.{map-append}
use Rattle.tsd_model.specs.World.{World}
use Rattle.tsd_model.specs.Step.{State}
use Rattle.tsd_model.specs.Run.{after, answer, at_rest, replies}
use Rattle.tsd_model.specs.declared.requests.PlaceKind.{PlaceKind}
use Rattle.tsd_model.specs.declared.requests.Request.{Request}
use Rattle.image_device.specs.View.{IsPart}
use Rattle.image_layout.specs.Image.{Image}
use Rattle.image_world.specs.Stands.{Stands}
use Rattle.serving.specs.ModelRules.{Placed, IsModelRun}
use Rattle.serving.specs.Runs.{IsAcknowledged, IsBroken, IsCutOff, Run, texts}
use Rattle.serving.specs.Service.{IsCounted, Service}
use Rattle.serving.specs.Voice.{Voice}
use Rattle.serving.proofs.ModelRuns.{model_run}
use Rattle.serving.proofs.Runs.{texts-append}
use Rattle.gathering_runs.specs.Promise.{IsOfPrefix}
use Rattle.image_runs.specs.Served.{disk_service}
use Rattle.tsd_serve.specs.Headline.{IsPrefixLeft}

drop_one : (w : Bool) (ws : List Bool) → drop 1 (w ∷ ws) ≡ ws
drop_one w [] = refl
drop_one w (x ∷ xs) = refl

-- ---- runs one behind the other

replies_on : (kind : PlaceKind) (s : State) (ws more : List Bool) (qs ps : List Request) → length ws ≡ length qs
    → replies kind s (ws ++ more) (qs ++ ps) ≡ replies kind s ws qs ++ replies kind (after kind s ws qs) more ps
replies_on kind s [] more [] ps same = refl
replies_on kind s [] more (q ∷ qs) ps same = absurd (omega arith)
replies_on kind s (u ∷ ws) more [] ps same = absurd (omega arith)
replies_on kind s (u ∷ ws) more (q ∷ qs) ps same =
    let r = (answer kind s q u).reply in
    let t = (answer kind s q u).state in
    let rest : length ws ≡ length qs = omega arith in
    ap (λ us. r ∷ replies kind t us (qs ++ ps)) (drop_one u (ws ++ more))
    ∙ ap (λ rs. r ∷ rs) (replies_on kind t ws more qs ps rest)
    ∙ ap (λ us. (r ∷ replies kind t us qs) ++ replies kind (after kind t us qs) more ps) (sym (drop_one u ws))

after_on : (kind : PlaceKind) (s : State) (ws more : List Bool) (qs ps : List Request) → length ws ≡ length qs
    → after kind s (ws ++ more) (qs ++ ps) ≡ after kind (after kind s ws qs) more ps
after_on kind s [] more [] ps same = refl
after_on kind s [] more (q ∷ qs) ps same = absurd (omega arith)
after_on kind s (u ∷ ws) more [] ps same = absurd (omega arith)
after_on kind s (u ∷ ws) more (q ∷ qs) ps same =
    let t = (answer kind s q u).state in
    let rest : length ws ≡ length qs = omega arith in
    ap (λ us. after kind t us (qs ++ ps)) (drop_one u (ws ++ more))
    ∙ after_on kind t ws more qs ps rest
    ∙ ap (λ us. after kind (after kind t us qs) more ps) (sym (drop_one u ws))

-- the first of them alone
after_first : (kind : PlaceKind) (s : State) (ws more : List Bool) (qs : List Request) → length ws ≡ length qs → after kind s (ws ++ more) qs ≡ after kind s ws qs
after_first kind s [] more [] same = refl
after_first kind s [] more (q ∷ qs) same = absurd (omega arith)
after_first kind s (u ∷ ws) more [] same = absurd (omega arith)
after_first kind s (u ∷ ws) more (q ∷ qs) same =
    let t = (answer kind s q u).state in
    let rest : length ws ≡ length qs = omega arith in
    ap (λ us. after kind t us qs) (drop_one u (ws ++ more))
    ∙ after_first kind t ws more qs rest
    ∙ ap (λ us. after kind t us qs) (sym (drop_one u ws))

-- as they are sent
texts_on : (v : Voice) (kind : PlaceKind) (s : State) (ws more : List Bool) (asked qs ps : List Request) → asked ≡ qs ++ ps → length ws ≡ length qs
    → texts (map v.text (replies kind s (ws ++ more) asked)) ≡ texts (map v.text (replies kind s ws qs)) ++ texts (map v.text (replies kind (after kind s ws qs) more ps))
texts_on v kind s ws more asked qs ps parts same =
    let these = replies kind s ws qs in
    let those = replies kind (after kind s ws qs) more ps in
    ap (λ l. texts (map v.text (replies kind s (ws ++ more) l))) parts
    ∙ ap (λ rs. texts (map v.text rs)) (replies_on kind s ws more qs ps same)
    ∙ ap texts (map-append v.text these those)
    ∙ texts-append (map v.text these) (map v.text those)

regroup : (a front back rest : List ℕ) → a ++ ((front ++ back) ++ rest) ≡ (a ++ front) ++ (back ++ rest)
regroup a front back rest = simp append_assoc

-- ---- what a crash leaves

abbrev start : PlaceKind → World → Placed
start kind w = record { kind = kind; state = at_rest w }

at_a_reply : (v : Voice) (kind : PlaceKind) (w : World) (before : List ℕ) (asked : List Request) (x : Image) (sent : List ℕ) (b : IsBroken (disk_service v) (start kind w) before asked sent)
    → Stands x b.state.state.world → IsPrefixLeft v kind w before asked x sent
at_a_reply v kind w before asked x sent b stands =
    let s = at_rest w in
    let m : IsModelRun v (start kind w) b.answered b.answers b.state = model_run Stands v (start kind w) b.answered b.answers b.state b.run in
    let count : v.acked (texts b.answers) ≡ length b.answered = b.count in
    let behind = texts (map v.text (replies kind (after kind s m.wants b.answered) [] b.rest)) in
    record {
      wants = m.wants ++ [];
      replied = record {
        front = texts b.answers;
        back = behind;
        sent = b.sent;
        whole = texts_on v kind s m.wants [] asked b.answered b.rest b.parts m.each ∙ ap (λ l. texts l ++ behind) (sym m.texts);
      };
      prefix = b.answered;
      rest = b.rest;
      parts = b.parts;
      holds = omega (arith, count);
      stands = subst (λ (t : State). Stands x t.world) (m.state ∙ sym (after_first kind s m.wants [] b.answered m.each)) stands;
    }

in_a_reply : (v : Voice) (kind : PlaceKind) (w : World) (before : List ℕ) (asked : List Request) (x : Image) (sent : List ℕ) (c : IsCutOff (disk_service v) (start kind w) before asked sent)
    → Stands x c.state.state.world ⊎ Stands x c.next.state.world → IsPrefixLeft v kind w before asked x sent
in_a_reply v kind w before asked x sent c stands =
    let s = at_rest w in
    let m : IsModelRun v (start kind w) c.answered c.answers c.state = model_run Stands v (start kind w) c.answered c.answers c.state c.run in
    let count : v.acked (texts c.answers ++ c.front) ≡ length c.answered = c.count in
    let given = c.given.2.0 in
    let now = after kind s m.wants c.answered in
    let wants = m.wants ++ given.want ∷ [] in
    let reply : c.answer ≡ v.text (answer kind now c.request given.want).reply =
    c.given.1 ∙ ap v.text given.reply ∙ (λ i. v.text (answer (m.kind i) (m.state i) c.request given.want).reply) in
    let then : c.next.state ≡ (answer kind now c.request given.want).state = given.state ∙ (λ i. (answer (m.kind i) (m.state i) c.request given.want).state) in
    let behind = texts (map v.text (replies kind (answer kind now c.request given.want).state [] c.rest)) in
    let replied : IsPart before (texts (map v.text (replies kind s wants asked))) sent = record {
      front = texts c.answers ++ c.front;
      back = c.back ++ behind;
      sent = c.sent;
      whole = texts_on v kind s m.wants (given.want ∷ []) asked c.answered (c.request ∷ c.rest) c.parts m.each
          ∙ ap (λ l. texts l ++ (v.text (answer kind now c.request given.want).reply ++ behind)) (sym m.texts)
          ∙ ap (λ l. texts c.answers ++ (l ++ behind)) (sym reply ∙ c.whole)
          ∙ regroup (texts c.answers) c.front c.back behind;
    } in
    elim stands [
      | inl here ↦ record {
        wants = wants;
        replied = replied;
        prefix = c.answered;
        rest = c.request ∷ c.rest;
        parts = c.parts;
        holds = omega (arith, count);
        stands = subst (λ (t : State). Stands x t.world) (m.state ∙ sym (after_first kind s m.wants (given.want ∷ []) c.answered m.each)) here;
      }
      | inr one_more ↦ record {
        wants = wants;
        replied = replied;
        prefix = c.answered ++ c.request ∷ [];
        rest = c.rest;
        parts = c.parts ∙ sym (append_assoc c.answered (c.request ∷ []) c.rest);
        holds = omega (arith, count, length-append c.answered (c.request ∷ []));
        stands = subst (λ (t : State). Stands x t.world) (then ∙ sym (after_on kind s m.wants (given.want ∷ []) c.answered (c.request ∷ []) m.each)) one_more;
      }
    ]

pub prefix_left : (v : Voice) (kind : PlaceKind) (w : World) (before : List ℕ) (asked : List Request) (x : Image) (sent : List ℕ) → IsAcknowledged (disk_service v) (start kind w) before asked x sent
    → IsPrefixLeft v kind w before asked x sent
prefix_left v kind w before asked x sent acked = elim acked [
  | inl broken ↦ at_a_reply v kind w before asked x sent broken.0 broken.1
  | inr cut ↦ in_a_reply v kind w before asked x sent cut.0 cut.1
]

-- before anything was asked or sent
pub none_left : (v : Voice) (kind : PlaceKind) (w : World) (before : List ℕ) (asked : List Request) (x : Image) (sent : List ℕ) → v.acked [] ≡ 0 → Stands x w → sent ≡ before → IsPrefixLeft v kind w before asked x sent
none_left v kind w before asked x sent none stands same = record {
  wants = [];
  replied = record { front = []; back = texts (map v.text (replies kind (at_rest w) [] asked)); sent = same ∙ sym (append-nil before); whole = refl };
  prefix = [];
  rest = asked;
  parts = refl;
  holds = omega (arith, none);
  stands = stands;
}

-- ---- of a run in groups

abbrev tail_of : List ℕ → List ℕ
tail_of [] = []
tail_of (x ∷ xs) = xs

abbrev head_of : ℕ → List ℕ → ℕ
head_of d [] = d
head_of d (x ∷ xs) = x

-- of two fronts of a list one goes further
parted : (a rest front back : List ℕ) → a ++ rest ≡ front ++ back
    → ((more : List ℕ) × (front ≡ a ++ more) × (rest ≡ more ++ back)) ⊎ ((more : List ℕ) × (a ≡ front ++ more) × (0 < length more))
parted [] rest front back same = inl (front, refl, same)
parted (x ∷ a) rest [] back same = inr (x ∷ a, refl, omega arith)
parted (x ∷ a) rest (y ∷ front) back same =
    let first : x ≡ y = ap (head_of x) same in
    elim (parted a rest front back (ap tail_of same)) [
      | inl further ↦ inl (further.0, ap (λ l. y ∷ l) further.1 ∙ ap (λ n. n ∷ (a ++ further.0)) (sym first), further.2)
      | inr within ↦ inr (within.0, ap (λ l. x ∷ l) within.1 ∙ ap (λ n. n ∷ (front ++ within.0)) first, within.2)
    ]

-- a front of the answers of a run holds no more whole ones than there are
acked_front : (k : Service Request) → IsCounted k → (s t : k.States) (qs : List Request) (xs : List (List ℕ)) (front back : List ℕ) → Run k s qs xs t → texts xs ≡ front ++ back → k.acked front ≤ length qs
acked_front k counted s t [] [] [] back run same = omega (arith, counted.nothing)
acked_front k counted s t [] [] (y ∷ front) back run same = absurd (omega (arith, ap length same))
acked_front k counted s t [] (a ∷ xs) front back run same = absurd run
acked_front k counted s t (q ∷ qs) [] front back run same = absurd run
acked_front k counted s t (q ∷ qs) (a ∷ xs) front back run same = elim (parted a (texts xs) front back same) [
  | inl further ↦
      let rest : k.acked further.0 ≤ length qs = acked_front k counted run.0 t qs xs further.0 back run.2 further.2 in
      let one : k.acked (a ++ further.0) ≡ suc (k.acked further.0) = counted.whole s q a run.0 further.0 run.1 in
      let is : k.acked front ≡ k.acked (a ++ further.0) = ap k.acked further.1 in
      omega (arith, rest, one, is)
  | inr within ↦
      let none : k.acked front ≡ 0 = counted.part s q a run.0 front within.0 run.1 within.1 within.2 in
      omega (arith, none)
]

pub of_prefix_left : (v : Voice) (kind : PlaceKind) (w : World) (before : List ℕ) (asked : List Request) (x : Image) (sent : List ℕ) → IsCounted (disk_service v) → IsOfPrefix (disk_service v) (start kind w) before asked x sent
    → IsPrefixLeft v kind w before asked x sent
of_prefix_left v kind w before asked x sent counted p =
    let s = at_rest w in
    let m : IsModelRun v (start kind w) p.first p.answers p.state = model_run Stands v (start kind w) p.first p.answers p.state p.run in
    let behind = texts (map v.text (replies kind (after kind s m.wants p.first) [] p.rest)) in
    let few : v.acked p.sent.front ≤ length p.first = acked_front (disk_service v) counted (start kind w) p.state p.first p.answers p.sent.front p.sent.back p.run p.sent.whole in
    record {
      wants = m.wants ++ [];
      replied = record {
        front = p.sent.front;
        back = p.sent.back ++ behind;
        sent = p.sent.sent;
        whole = texts_on v kind s m.wants [] asked p.first p.rest p.parts m.each
            ∙ ap (λ l. texts l ++ behind) (sym m.texts)
            ∙ ap (λ l. l ++ behind) p.sent.whole
            ∙ append_assoc p.sent.front p.sent.back behind;
      };
      prefix = p.first;
      rest = p.rest;
      parts = p.parts;
      holds = few;
      stands = subst (λ (t : State). Stands x t.world) (m.state ∙ sym (after_first kind s m.wants [] p.first m.each)) p.stands;
    }
