use Rattle.std.proofs.Common.{◌≡◌, ◌≢◌, inl, inr, List, ℕ, ◌∙◌, ap, subst}
use Rattle.tsd_words.specs.declared.status.Status.TheVariants as status
use Rattle.image_runs.proofs.Common.{CapPair, IsAtEase, IsFormatting, LeavesOnly, Stands, View, cap_lines, fresh_world, sectors_behind, weakened}
use Rattle.image_runs.specs.Format.{HasFormatted, IsLeftOfFormat, caps_of, world_for}
use Rattle.tsd_words.specs.declared.commands.Format.{Format}
use Rattle.image_runs.specs.Sending.{HasPut, IsEnding}
use Rattle.image_runs.proofs.Behind.{behind_format, behind_said}
use Rattle.image_runs.proofs.Saying.{ease_put, ends_put, faults_put, put_over, said_put}
use Rattle.image_runs.proofs.format.format_image.Goals as goal

-- what formatting leaves, by the words
formatting : (words : Format) (caps : List CapPair) (old mid : View) → caps ≡ caps_of words → LeavesOnly old mid (λ x f. IsFormatting old (fresh_world words.geometry caps) x f × (f ≡ old.sent))
    → LeavesOnly old mid (λ x f. IsFormatting old (world_for words) x f × (f ≡ old.sent))
formatting words caps old mid same left = subst (λ (l : List CapPair). LeavesOnly old mid (λ x f. IsFormatting old (fresh_world words.geometry l) x f × (f ≡ old.sent))) same left

pub returns-in-Ok : goal.returns-in-Ok
returns-in-Ok g c =
    let old = g.P.Device.view c.args.port.now in
    let mid = g.P.Device.view c.format.new.dev in
    let new = g.P.Device.view c.put_text.new.port in
    let words = c.args.words.now in
    let put = subst (λ (t : List ℕ). HasPut g.P.Device.told t status.Done c.put_text.result mid new) (c.cap_lines.ensures ∙ ap (λ (l : List CapPair). cap_lines 0 l) c.caps_of-caps.ensures.value) c.put_text.ensures in
    let ease : g.P.Device.told → IsAtEase mid (world_for words) = λ told. record {
      firm = c.in-Ok.ensures.firm told;
      stands = subst (λ (l : List CapPair). Stands mid.reads (fresh_world words.geometry l)) c.caps_of-caps.ensures.value (c.in-Ok.ensures.done told);
      quiet = c.in-Ok.ensures.quiet told;
    } in
    record {
      ending = ends_put IsEnding put tt tt;
      image = λ why. ends_put (λ s. s ≢ status.NotImage why) put (λ e. cc) (λ e. cc);
      memory = ends_put (λ s. s ≢ status.NoMemory) put (λ e. cc) (λ e. cc);
      made = λ told.
          let is = ease_put told put (ease told) in
          said_put (λ s. HasFormatted s words old new) told put (c.format.ensures.sent told) (λ all. (is, all)) (λ front. (is, front));
      any_moment = λ told. put_over _ (IsLeftOfFormat words old) told put (ease told).firm (c.format.ensures.sent told) (formatting words _ old mid c.caps_of-caps.ensures.value (c.format.ensures.any_moment told)) (λ x f left. inl left) (λ f part. inr ((ease told).stands, part));
      behind = λ told firm. behind_said (sectors_behind words.geometry) _ old mid new (g.met.P.Device.sound c.format.new.dev told) (behind_format words.geometry old mid c.requires.lawful firm (c.format.ensures.inside told)) (put.puts.any_moment told);
      faults = faults_put put tt c.in-Ok.ensures.faults c.format.ensures.uses.put_faults;
    }

pub returns-in-Err-clause-any_moment : goal.returns-in-Err-clause-any_moment
returns-in-Err-clause-any_moment g c told =
    let old = g.P.Device.view c.args.port.now in
    let mid = g.P.Device.view c.format.new.dev in
    weakened old mid _ _ (formatting c.args.words.now _ old mid c.caps_of-caps.ensures.value (c.format.ensures.any_moment told)) (λ x f left. inl left)

pub returns-in-Err-clause-behind : goal.returns-in-Err-clause-behind
returns-in-Err-clause-behind g c told firm =
    behind_format c.args.words.now.geometry (g.P.Device.view c.args.port.now) (g.P.Device.view c.format.new.dev) c.requires.lawful firm (c.format.ensures.inside told)
