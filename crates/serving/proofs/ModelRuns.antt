-- A run by the rules of the model is a run of the model.
use Rattle.std.proofs.Common.{◌≡◌, ℕ, suc, Bool, List, [], ◌∷◌, map, drop, refl, sym, ◌∙◌, ap}
use Rattle.image_device.specs.Image.{Image}
use Rattle.tsd_model.specs.World.{World}
use Rattle.tsd_model.specs.Run.{answer, replies, after}
use Rattle.tsd_model.specs.declared.requests.Request.{Request}
use Rattle.serving.specs.Voice.{Voice, spoken}
use Rattle.serving.specs.Runs.{Run}
use Rattle.serving.specs.ModelRules.{Placed, model_rules, IsModelRun}

drop_one : (w : Bool) (ws : List Bool) → drop 1 (w ∷ ws) ≡ ws
drop_one w [] = refl
drop_one w (x ∷ xs) = refl

pub model_run : (stands : Image → World → Type 0) (v : Voice) (s : Placed) (qs : List Request) (xs : List (List ℕ)) (t : Placed) → Run (spoken (model_rules stands) v) s qs xs t → IsModelRun v s qs xs t
model_run stands v s [] [] t run = record { wants = []; each = refl; texts = refl; state = ap (λ (p : Placed). p.state) (sym run); kind = ap (λ (p : Placed). p.kind) (sym run) }
model_run stands v s [] (x ∷ xs) t run = absurd run
model_run stands v s (q ∷ qs) [] t run = absurd run
model_run stands v s (q ∷ qs) (x ∷ xs) t run =
    let m = run.0 in
    let given = run.1 in
    let a = given.2.0 in
    let rest = model_run stands v m qs xs t run.2 in
    record {
      wants = a.want ∷ rest.wants;
      each = ap (λ n. suc n) rest.each;
      texts = (λ i. (given.1 ∙ ap v.text a.reply) i ∷ (rest.texts ∙ (λ j. map v.text (replies (given.2.2 j) (a.state j) rest.wants qs))) i)
          ∙ ap (λ us. v.text (answer s.kind s.state q a.want).reply ∷ map v.text (replies s.kind (answer s.kind s.state q a.want).state us qs)) (sym (drop_one a.want rest.wants));
      state = rest.state ∙ (λ j. after (given.2.2 j) (a.state j) rest.wants qs) ∙ ap (λ us. after s.kind (answer s.kind s.state q a.want).state us qs) (sym (drop_one a.want rest.wants));
      kind = rest.kind ∙ given.2.2;
    }
