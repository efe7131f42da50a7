-- From what a command did over two sides to what holds of each side.
use Rattle.std.proofs.Common.{◌≡◌, ◌≢◌, ◌⊎◌, inl, inr, ⊎_elim, ℕ, ◌==◌, List, [], refl, sym, ◌∙◌, subst, arith}
use Rattle.std.proofs.Math.Logic.{∥∥₁_elim}
use Rattle.tsd_model.specs.World.{World}
use Rattle.tsd_model.specs.declared.requests.PlaceKind.{PlaceKind}
use Rattle.tsd_model.specs.declared.requests.Request.{Request}
use Rattle.image_device.specs.Image.{Image}
use Rattle.image_device.specs.Runs.{IsFirm, LeavesOnly}
use Rattle.image_device.specs.View.{IsLeftNow}
use Rattle.image_device.proofs.Moments.{weakened}
use Rattle.image_device.proofs.Sets.{or_false, or_false_left, or_false_right}
use Rattle.mirror_device.specs.Copying.{InCopying, IsLeftOfFirst}
use Rattle.mirror_device.specs.Mirror.{CountsAgree, EachSound, LeftIsSound, Shows, image_left, start_at}
use Rattle.mirror_device.specs.SidesView.{SidesAreSound, Item, SidesView}
use Rattle.mirror_device.specs.declared.side.Serving.{Serving}
use Rattle.mirror_device.specs.declared.side.Serving.TheVariants.{Both, First, Second}
use Rattle.mirror_device.specs.declared.side.Side.TheVariants.{First as FirstSide, Second as SecondSide}
use Rattle.image_layout.specs.Areas.{format_gate}
use Rattle.image_world.specs.Stands.{Stands}
use Rattle.recovery.specs.Formatting.{IsFormatting}
use Rattle.tsd_words.specs.declared.commands.Command.{Command}
use Rattle.tsd_words.specs.declared.commands.Command.TheVariants as command
use Rattle.tsd_words.specs.declared.status.Status.{Status}
use Rattle.tsd_words.specs.declared.status.Status.TheVariants as status
use Rattle.serving.specs.FrameLaws.{frames_apart}
use Rattle.serving.specs.FrameSpelling.{frame_spelling, frame_voice}
use Rattle.serving.specs.Input.{Spelling}
use Rattle.serving.specs.LineLaws.{lines_apart}
use Rattle.serving.specs.LineSpelling.{line_spelling, line_voice}
use Rattle.serving.specs.Ran.{Moments, Taking}
use Rattle.serving.specs.Voice.{Voice}
use Rattle.image_runs.specs.Fresh.{single_world}
use Rattle.tsd_serve.specs.Headline.{EachCrashLeaves, Headline, IsPrefixLeft}
use Rattle.tsd_serve.specs.MirrorDid.{AreSoundAtEnd, BeganAs, EachSideKeeps, EndedAs, IsSoundAtEnd, MirrorHeadline, first_view, lost_of}
use Rattle.tsd_serve.specs.MirrorStatus.{ended_with}
use Rattle.tsd_serve.proofs.Prefixes.{none_left}

-- what holds of each sound side, with more said of each image
each_weaker : (s : _) (c : Serving) (i : Item) (P Q : Image → Type 0) → ((x : Image) → P x → Q x) → EachSound s c i P → EachSound s c i Q
each_weaker s c i P Q here each = (λ h. here i.first.image (each.0 h), λ h. here i.second.image (each.1 h), λ h k. here (image_left c i) (each.2 h k))

-- ---- a command that ran over both

module _ (old new : SidesView) (c : Serving) (port : Moments) (begins : BeganAs old port.old) (ends : EndedAs old new c port.new) where
  -- What holds of each image that a crash left of the mirror while the command ran holds of each side that is sound, if it holds of what
  -- a crash left of the first side before.
  pub each_side : (P : Image → List ℕ → Type 0) → LeavesOnly port.old port.new P → ((x : Image) (f : List ℕ) → IsLeftOfFirst old x f → P x f)
      → (i : Item) → new.left old.clock i → EachSound (start_at old) c i (λ x. P x i.sent)
  each_side P leaves before i left = (
    λ h. pick i.first.image (inl (h, refl)),
    λ h. pick i.second.image (inr (inl (h, refl))),
    λ h k. pick (image_left c i) (inr (inr (h, k, refl))),
  )
    where
      pick : (x : Image) → Shows (start_at old) c i x → P x i.sent
      pick x shows = ⊎_elim (λ was. before x i.sent (begins.left x i.sent was)) (λ p. p)
          (leaves.before old.clock x i.sent begins.later (ends.left old.clock x i.sent (record { item = i; left = left; sent = refl; shows = shows })))

  -- Where nothing was loose on the first side, it does.
  pub of_first : IsFirm (first_view old) → (P : Image → List ℕ → Type 0) → LeavesOnly port.old port.new P → (x : Image) (f : List ℕ) → IsLeftOfFirst old x f → P x f
  of_first firm P leaves x f was = leaves.each x f (leaves.keeps port.old.clock x f (omega arith) (begins.sound.counts_now port.old.clock x f (omega arith) now))
    where
      now : IsLeftNow port.old x f
      now = (record { agrees = λ n h. was.0.agrees n (firm n) ∙ sym (λ j. begins.reads j n); whole = was.0.whole }, was.1 ∙ sym begins.sent)

  -- what holds of each image that a crash left of the mirror, of each side
  each_side_keeps : (v : Voice) (p : Spelling Request) (kind : PlaceKind) (source : Taking) → IsFirm (first_view old) → (w : World)
      → EachCrashLeaves p source port (IsPrefixLeft v kind w port.old.sent) → EachSideKeeps p source old new (IsPrefixLeft v kind w old.sent)
  each_side_keeps v p kind source firm w e =
      let P : Image → List ℕ → Type 0 = IsPrefixLeft v kind w port.old.sent e.asked in
      record {
        bytes = e.bytes;
        came_in = e.came_in;
        asked = e.asked;
        are = e.are;
        side_left = c;
        any_moment = λ i left. each_weaker (start_at old) c i (λ x. P x i.sent) (λ x. IsPrefixLeft v kind w old.sent e.asked x i.sent)
            (λ x here. subst (λ (b : List ℕ). IsPrefixLeft v kind w b e.asked x i.sent) begins.sent here)
            (each_side P e.any_moment (of_first firm P e.any_moment) i left);
      }

  -- the world of the first side is the mirror's
  stands_in_mirror : (w : World) → Stands old.first.reads w → Stands port.old.reads w
  stands_in_mirror w stands = subst (λ (x : Image). Stands x w) (sym begins.reads) stands

  of_opened : (v : Voice) (p : Spelling Request) (kind : PlaceKind) (source : Taking)
      → (IsFirm port.old → (w : World) → Stands port.old.reads w → EachCrashLeaves p source port (IsPrefixLeft v kind w port.old.sent))
      → IsFirm (first_view old) → (w : World) → Stands old.first.reads w → EachSideKeeps p source old new (IsPrefixLeft v kind w old.sent)
  of_opened v p kind source ran firm w stands = each_side_keeps v p kind source firm w (ran begins.firm w (stands_in_mirror w stands))

  -- the same where none of the records is picked
  of_groups : (v : Voice) (p : Spelling Request) (kind : PlaceKind) (source : Taking)
      → (IsFirm port.old → (w : World) → Stands port.old.reads w → ∥ EachCrashLeaves p source port (IsPrefixLeft v kind w port.old.sent) ∥₁)
      → IsFirm (first_view old) → (w : World) → Stands old.first.reads w → ∥ EachSideKeeps p source old new (IsPrefixLeft v kind w old.sent) ∥₁
  of_groups v p kind source ran firm w stands =
      let prop : IsProp (∥ EachSideKeeps p source old new (IsPrefixLeft v kind w old.sent) ∥₁) = hlevel in
      ∥∥₁_elim (ran begins.firm w (stands_in_mirror w stands)) prop (λ (e : EachCrashLeaves p source port (IsPrefixLeft v kind w port.old.sent)). ∣ each_side_keeps v p kind source firm w e ∣₁)

-- ---- the first side failed in the copying

module _ (old new : SidesView) (sound : SidesAreSound old) (copying : (i : Item) → new.left old.clock i → InCopying old i) where
  pub each_copied : (P : Image → List ℕ → Type 0) → ((x : Image) (f : List ℕ) → IsLeftOfFirst old x f → P x f) → (i : Item) → new.left old.clock i → EachSound (start_at old) First i (λ x. P x i.sent)
  each_copied P before i left =
      let here = copying i left in
      (λ h. before i.first.image i.sent (here.first, here.sent), λ h. before i.second.image i.sent (here.second h.1, here.sent), λ h k. before i.first.image i.sent (here.first, here.sent))

  none_asked : (p : Spelling Request) (source : Taking) (P : List Request → Image → List ℕ → Type 0) → source.came [] → ((x : Image) (f : List ℕ) → IsLeftOfFirst old x f → P [] x f) → EachSideKeeps p source old new P
  none_asked p source P came before = record { bytes = []; came_in = came; asked = []; are = inl refl; side_left = First; any_moment = each_copied (P []) before }

-- before anything was asked, a first side that is firm stands for its world
none_on_first : (old : SidesView) (v : Voice) (kind : PlaceKind) (w : World) → v.acked [] ≡ 0 → IsFirm (first_view old) → Stands old.first.reads w → (x : Image) (f : List ℕ) → IsLeftOfFirst old x f → IsPrefixLeft v kind w old.sent [] x f
none_on_first old v kind w none firm stands x f was = none_left v kind w old.sent [] x f none (subst (λ (y : Image). Stands y w) (λ j n. sym (was.0.agrees n (firm n)) j) stands) was.1

-- what is left of the first side is left within a format of it
formatting_first : (old : SidesView) (w : World) (x : Image) (f : List ℕ) → IsLeftOfFirst old x f → IsFormatting (first_view old) w x f
formatting_first old w x f was = inl (record { agrees = λ n h. was.0.agrees n (or_false_right _ (old.first.loose n) h); whole = was.0.whole }, was.1)

-- ---- the headline on each side

pub headline_over : (words : Command) (source : Taking) (old new : SidesView) (c : Serving) (port : Moments) → BeganAs old port.old → EndedAs old new c port.new → Headline words source port → MirrorHeadline words source old new
headline_over (command.Run kind) source old new c port begins ends ran = of_opened old new c port begins ends line_voice line_spelling kind source ran
headline_over (command.Serve kind) source old new c port begins ends ran = of_opened old new c port begins ends frame_voice frame_spelling kind source ran
headline_over (command.Group kind) source old new c port begins ends ran = of_groups old new c port begins ends frame_voice frame_spelling kind source ran
headline_over (command.Fresh fresh) source old new c port begins ends ran =
    let w = single_world fresh.geometry fresh.caps in
    record {
      bytes = ran.bytes;
      came_in = ran.came_in;
      asked = ran.asked;
      are = ran.are;
      side_left = c;
      any_moment = each_side old new c port begins ends _ (weakened port.old port.new _ _ ran.any_moment (here ran.asked)) (λ x f was. inl (formatting_first old w x f was, was.1));
    }
  where
    here : (asked : List Request) (x : Image) (f : List ℕ)
        → (IsFormatting port.old (single_world fresh.geometry fresh.caps) x f × (f ≡ port.old.sent)) ⊎ IsPrefixLeft line_voice fresh.kind (single_world fresh.geometry fresh.caps) port.old.sent asked x f
        → (IsFormatting (first_view old) (single_world fresh.geometry fresh.caps) x f × (f ≡ old.sent)) ⊎ IsPrefixLeft line_voice fresh.kind (single_world fresh.geometry fresh.caps) old.sent asked x f
    here asked x f (inl a) = inl (formatting a.0, a.1 ∙ begins.sent)
      where
        formatting : IsFormatting port.old (single_world fresh.geometry fresh.caps) x f → IsFormatting (first_view old) (single_world fresh.geometry fresh.caps) x f
        formatting (inl within) = inl (record { agrees = λ n h. within.0.agrees n (or_false (n == format_gate) (port.old.loose n) (or_false_left (n == format_gate) _ h) (begins.firm n)) ∙ (λ j. begins.reads j n); whole = within.0.whole }, within.1 ∙ begins.sent)
        formatting (inr rest) = inr rest
    here asked x f (inr b) = inr (subst (λ (l : List ℕ). IsPrefixLeft line_voice fresh.kind (single_world fresh.geometry fresh.caps) l asked x f) begins.sent b)
headline_over (command.Format words) source old new c port begins ends ran = tt
headline_over (command.Shell shell) source old new c port begins ends ran = tt
headline_over (command.Files shell) source old new c port begins ends ran = tt
headline_over command.Check source old new c port begins ends ran = tt
headline_over command.Info source old new c port begins ends ran = tt
headline_over (command.Load load) source old new c port begins ends ran = tt
headline_over command.Upgrade source old new c port begins ends ran = tt
headline_over command.Audit source old new c port begins ends ran = tt
headline_over command.Verify source old new c port begins ends ran = tt
headline_over (command.CopyFs words) source old new c port begins ends ran = tt

pub headline_unbegun : (words : Command) (source : Taking) (old new : SidesView) → source.came [] → SidesAreSound old → ((i : Item) → new.left old.clock i → InCopying old i) → MirrorHeadline words source old new
headline_unbegun (command.Run kind) source old new came sound copying = λ firm w stands. none_asked old new sound copying line_spelling source (IsPrefixLeft line_voice kind w old.sent) came (none_on_first old line_voice kind w lines_apart.nothing firm stands)
headline_unbegun (command.Serve kind) source old new came sound copying = λ firm w stands. none_asked old new sound copying frame_spelling source (IsPrefixLeft frame_voice kind w old.sent) came (none_on_first old frame_voice kind w frames_apart.nothing firm stands)
headline_unbegun (command.Group kind) source old new came sound copying =
    λ firm w stands. ∣ none_asked old new sound copying frame_spelling source (IsPrefixLeft frame_voice kind w old.sent) came (none_on_first old frame_voice kind w frames_apart.nothing firm stands) ∣₁
headline_unbegun (command.Fresh fresh) source old new came sound copying = none_asked old new sound copying line_spelling source _ came (λ x f was. inl (formatting_first old (single_world fresh.geometry fresh.caps) x f was, was.1))
headline_unbegun (command.Format words) source old new came sound copying = tt
headline_unbegun (command.Shell shell) source old new came sound copying = tt
headline_unbegun (command.Files shell) source old new came sound copying = tt
headline_unbegun command.Check source old new came sound copying = tt
headline_unbegun command.Info source old new came sound copying = tt
headline_unbegun (command.Load load) source old new came sound copying = tt
headline_unbegun command.Upgrade source old new came sound copying = tt
headline_unbegun command.Audit source old new came sound copying = tt
headline_unbegun command.Verify source old new came sound copying = tt
headline_unbegun (command.CopyFs words) source old new came sound copying = tt

-- ---- which sides are sound at the end

module _ (old new : SidesView) where
  one_sound : (c : Serving) → CountsAgree new (start_at old) c → LeftIsSound new (start_at old) c → IsSoundAtEnd FirstSide old new ⊎ IsSoundAtEnd SecondSide old new
  one_sound Both stands left = inl (stands.first_in refl)
  one_sound First stands left = inl (left.first refl)
  one_sound Second stands left = inr (left.second refl, stands.copied (λ h. absurd (cc)))

  pub sound_at_end : (r : Status) (c : Serving) → CountsAgree new (start_at old) c → (r ≢ status.DeviceFault → LeftIsSound new (start_at old) c) → AreSoundAtEnd (ended_with r (lost_of c)) old new
  sound_at_end status.Done Both stands left = (stands.first_in refl, (stands.second_in refl, stands.copied (λ h. absurd (cc))))
  sound_at_end status.Done First stands left = (left (λ h. absurd (cc))).first refl
  sound_at_end status.Done Second stands left = ((left (λ h. absurd (cc))).second refl, stands.copied (λ h. absurd (cc)))
  sound_at_end status.DeviceFault c stands left = tt
  sound_at_end status.Usage c stands left = one_sound c stands (left (λ h. absurd (cc)))
  sound_at_end (status.NotImage why) c stands left = one_sound c stands (left (λ h. absurd (cc)))
  sound_at_end status.SourceFault c stands left = one_sound c stands (left (λ h. absurd (cc)))
  sound_at_end status.PutFault c stands left = one_sound c stands (left (λ h. absurd (cc)))
  sound_at_end status.TooLong c stands left = one_sound c stands (left (λ h. absurd (cc)))
  sound_at_end status.NoMemory c stands left = one_sound c stands (left (λ h. absurd (cc)))
  sound_at_end status.Truncated c stands left = one_sound c stands (left (λ h. absurd (cc)))
  sound_at_end (status.RootDenied level) c stands left = one_sound c stands (left (λ h. absurd (cc)))
