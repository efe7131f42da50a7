-- From what the top call did to the headline.
use Rattle.std.proofs.Common.{◌≡◌, inl, inr, ◌^◌, List, [], ℕ, refl, sym, ◌∙◌, ap, subst}
use Rattle.std.proofs.Math.Logic.{∥∥₁_elim}
use Rattle.std.proofs.lemmas.List.{take_all}
use Rattle.std.specs.Prelude.{Some}
use Rattle.tsd_model.specs.World.{World}
use Rattle.tsd_model.specs.declared.requests.PlaceKind.{PlaceKind}
use Rattle.tsd_model.specs.declared.requests.Request.{Request}
use Rattle.image_device.specs.Runs.{IsFirm, LeavesOnly}
use Rattle.image_device.specs.View.{IsSound, View}
use Rattle.image_device.proofs.Moments.{firm_image, started, weakened}
use Rattle.image_layout.specs.Image.{Image}
use Rattle.image_world.specs.Stands.{Stands}
use Rattle.tsd_words.specs.declared.commands.Command.{Command}
use Rattle.tsd_words.specs.declared.commands.Command.TheVariants as command
use Rattle.tsd_words.specs.declared.status.Status.{Status}
use Rattle.tsd_words.specs.declared.status.Status.TheVariants as status
use Rattle.serving.specs.FrameSpelling.{frame_spelling, frame_voice}
use Rattle.serving.specs.FrameLaws.{frames_apart}
use Rattle.serving.specs.Input.{Spelling}
use Rattle.serving.specs.LineSpelling.{line_spelling, line_voice}
use Rattle.serving.specs.Ran.{AskedBy, Moments, Taking}
use Rattle.serving.specs.Runs.{IsAcknowledged}
use Rattle.serving.specs.Service.{IsCounted}
use Rattle.serving.specs.Voice.{Voice, spoken_counted}
use Rattle.gathering_runs.specs.Promise.{IsOfPrefix}
use Rattle.gathering_runs.specs.Run.{AskedInGroups}
use Rattle.image_runs.specs.Fresh.{fresh_start, single_world}
use Rattle.image_runs.specs.Served.{disk_service, start_of}
use Rattle.image_runs.specs.Server.{disk_rules}
use Rattle.tsd_serve.specs.Did.{Did, Opened}
use Rattle.tsd_serve.specs.Grouped.{OpenedInGroups}
use Rattle.tsd_serve.specs.Headline.{AreOf, EachCrashLeaves, Headline, IsPrefixLeft}
use Rattle.tsd_serve.proofs.Prefixes.{none_left, of_prefix_left, prefix_left}

-- the requests that a run was asked are those of its bytes
are_of : (r : Status) (p : Spelling Request) (bytes : List ℕ) (ended : Type 0) (asked : List Request) → AskedBy r p (2 ^ 40) bytes ended asked → AreOf p bytes asked
are_of status.Done p bytes ended asked by = inr (inr by.3)
are_of status.Truncated p bytes ended asked by = inr (inr by.3)
are_of status.SourceFault p bytes ended asked by = inr (inl (by.1 ∙ ap p.requests (sym (take_all (2 ^ 40) bytes by.0))))
are_of status.TooLong p bytes ended asked by = inr (inl by.1)
are_of status.DeviceFault p bytes ended asked by = elim by [ inl some ↦ inr (inl some) | inr all ↦ inr (inr all.2) ]
are_of status.PutFault p bytes ended asked by = elim by [ inl some ↦ inr (inl some) | inr all ↦ inr (inr all.2) ]
are_of status.Usage p bytes ended asked by = absurd by
are_of (status.NotImage why) p bytes ended asked by = absurd by
are_of status.NoMemory p bytes ended asked by = absurd by
are_of (status.RootDenied level) p bytes ended asked by = absurd by

-- an image that was opened, or wasn't
of_opened : (r : Status) (v : Voice) (p : Spelling Request) (kind : PlaceKind) (source : Taking) (port : Moments) → Opened r v p kind source port → port.tells
    → IsFirm port.old → (w : World) → Stands port.old.reads w → EachCrashLeaves p source port (IsPrefixLeft v kind w port.old.sent)
of_opened r v p kind source port did told firm w stands =
    let ran = did.ran in
    record {
      bytes = ran.bytes;
      came_in = ran.came_in;
      asked = ran.asked;
      are = elim ran.these [ inl closed ↦ inl closed.none | inr by ↦ are_of r p ran.bytes source.at_end ran.asked by ];
      any_moment = weakened port.old port.new _ _ ((ran.ends told).any_moment firm w stands) (λ x f acked.
          prefix_left v kind w port.old.sent ran.asked x f
          (subst (λ (u : World). IsAcknowledged (disk_service v) (fresh_start kind u) port.old.sent ran.asked x f) (sym stands.world) acked));
    }

-- so are those of a run in groups
are_of_groups : (r : Status) (p : Spelling Request) (bytes : List ℕ) (ended : Type 0) (asked : List Request) → AskedInGroups r p (2 ^ 40) bytes ended asked → AreOf p bytes asked
are_of_groups status.NoMemory p bytes ended asked by = are_of status.DeviceFault p bytes ended asked by
are_of_groups status.Done p bytes ended asked by = are_of status.Done p bytes ended asked by
are_of_groups status.Truncated p bytes ended asked by = are_of status.Truncated p bytes ended asked by
are_of_groups status.SourceFault p bytes ended asked by = are_of status.SourceFault p bytes ended asked by
are_of_groups status.TooLong p bytes ended asked by = are_of status.TooLong p bytes ended asked by
are_of_groups status.DeviceFault p bytes ended asked by = are_of status.DeviceFault p bytes ended asked by
are_of_groups status.PutFault p bytes ended asked by = are_of status.PutFault p bytes ended asked by
are_of_groups status.Usage p bytes ended asked by = absurd by
are_of_groups (status.NotImage why) p bytes ended asked by = absurd by
are_of_groups (status.RootDenied level) p bytes ended asked by = absurd by

-- an image that was opened and served in groups, or wasn't
of_groups : (r : Status) (v : Voice) (p : Spelling Request) (kind : PlaceKind) (source : Taking) (port : Moments) → IsCounted (disk_service v) → OpenedInGroups r v p kind source port → port.tells
    → IsFirm port.old → (w : World) → Stands port.old.reads w → ∥ EachCrashLeaves p source port (IsPrefixLeft v kind w port.old.sent) ∥₁
of_groups r v p kind source port counted did told firm w stands =
    let ran = did.ran in
    let prop : IsProp (∥ EachCrashLeaves p source port (IsPrefixLeft v kind w port.old.sent) ∥₁) = hlevel in
    ∥∥₁_elim ((ran.ends told).any_moment firm w stands) prop (λ (leaves : LeavesOnly port.old port.new (IsOfPrefix (disk_service v) (start_of kind port.old.reads) port.old.sent ran.asked)).
    ∣ record {
      bytes = ran.bytes;
      came_in = ran.came_in;
      asked = ran.asked;
      are = elim ran.these [ inl closed ↦ inl closed.none | inr by ↦ are_of_groups r p ran.bytes source.at_end ran.asked by ];
      any_moment = weakened port.old port.new _ _ leaves (λ x f left.
          of_prefix_left v kind w port.old.sent ran.asked x f counted
          (subst (λ (u : World). IsOfPrefix (disk_service v) (fresh_start kind u) port.old.sent ran.asked x f) (sym stands.world) left));
    } ∣₁)

-- nothing was called
of_none : (v : Voice) (p : Spelling Request) (kind : PlaceKind) (source : Taking) (port : Moments) → v.acked [] ≡ 0 → source.came [] → port.new ≡ port.old → IsSound port.old
    → IsFirm port.old → (w : World) → Stands port.old.reads w → EachCrashLeaves p source port (IsPrefixLeft v kind w port.old.sent)
of_none v p kind source port none came same sound firm w stands = record {
  bytes = [];
  came_in = came;
  asked = [];
  are = inl refl;
  any_moment = subst (λ (u : View). LeavesOnly port.old u (IsPrefixLeft v kind w port.old.sent [])) (sym same)
      (started port.old (IsPrefixLeft v kind w port.old.sent []) sound (λ x f left.
      none_left v kind w port.old.sent [] x f none (subst (λ (y : Image). Stands y w) (sym (firm_image port.old firm x f left)) stands) left.1));
}

pub headline : (words : Command) (r : Status) (source : Taking) (port : Moments) → (source.untouched → source.came []) → (port.untouched → port.new ≡ port.old) → (port.tells → IsSound port.old)
    → Did (Some words) r source port → port.tells → Headline words source port
headline (command.Run kind) r source port none same sound did told = of_opened r line_voice line_spelling kind source port did told
headline (command.Serve kind) r source port none same sound did told = elim did [
  | inl closed ↦ of_none frame_voice frame_spelling kind source port frames_apart.nothing (none closed.untaken) (same closed.unused) (sound told)
  | inr opened ↦ of_opened r frame_voice frame_spelling kind source port opened told
]
headline (command.Group kind) r source port none same sound did told = elim did [
  | inl closed ↦ λ firm w stands. ∣ of_none frame_voice frame_spelling kind source port frames_apart.nothing (none closed.untaken) (same closed.unused) (sound told) firm w stands ∣₁
  | inr opened ↦ of_groups r frame_voice frame_spelling kind source port (spoken_counted disk_rules frame_voice (λ s q r t given. given.1) frames_apart) opened told
]
headline (command.Fresh fresh) r source port none same sound did told =
    let w = single_world fresh.geometry fresh.caps in
    record {
      bytes = did.ran.bytes;
      came_in = did.ran.came_in;
      asked = did.ran.asked;
      are = elim did.ran.these [ inl closed ↦ inl closed.none | inr by ↦ are_of r line_spelling did.ran.bytes source.at_end did.ran.asked by ];
      any_moment = weakened port.old port.new _ _ (did.ran.ends told).any_moment (λ x f left. elim left [
        | inl made ↦ inl made
        | inr acked ↦ inr (prefix_left line_voice fresh.kind w port.old.sent did.ran.asked x f acked)
      ]);
    }
headline (command.Format words) r source port none same sound did told = tt
headline (command.Shell shell) r source port none same sound did told = tt
headline (command.Files shell) r source port none same sound did told = tt
headline command.Check r source port none same sound did told = tt
headline command.Info r source port none same sound did told = tt
headline (command.Load load) r source port none same sound did told = tt
headline command.Upgrade r source port none same sound did told = tt
headline command.Audit r source port none same sound did told = tt
headline command.Verify r source port none same sound did told = tt
headline (command.CopyFs words) r source port none same sound did told = tt
