-- What the headline says of each image, said of access.
use Rattle.std.proofs.Common.{◌≡◌, Bool, List, [], Some}
use Rattle.std.proofs.Math.Logic.{∥∥₁_elim}
use Rattle.tsd_model.specs.World.{World}
use Rattle.tsd_model.specs.declared.requests.PlaceKind.{PlaceKind}
use Rattle.tsd_model.specs.declared.requests.Request.{Request}
use Rattle.image_device.specs.View.{IsSound}
use Rattle.image_device.specs.Runs.{IsFirm}
use Rattle.image_device.proofs.Moments.{weakened}
use Rattle.image_world.specs.Stands.{Stands}
use Rattle.image_world.proofs.WorldLaws.{world_valid}
use Rattle.disk_laws.proofs.AttainedLaws.{attained_by_history}
use Rattle.disk_laws.proofs.GrantLaws.{levels_are_grants}
use Rattle.reach_laws.proofs.ByAccessLaws.{run_by_access}
use Rattle.tsd_words.specs.declared.commands.Command.{Command}
use Rattle.tsd_words.specs.declared.commands.Command.TheVariants as command
use Rattle.tsd_words.specs.declared.status.Status.{Status}
use Rattle.serving.specs.FrameSpelling.{frame_spelling, frame_voice}
use Rattle.serving.specs.Input.{Spelling}
use Rattle.serving.specs.LineSpelling.{line_spelling, line_voice}
use Rattle.serving.specs.Ran.{Moments, Taking}
use Rattle.serving.specs.Voice.{Voice}
use Rattle.tsd_serve.specs.Access.{AccessLaw, IsByGrants, IsLeftByAccess, LeavesByAccess}
use Rattle.tsd_serve.specs.Did.{Did}
use Rattle.tsd_serve.specs.Headline.{EachCrashLeaves, IsPrefixLeft}
use Rattle.tsd_serve.proofs.Promises.{headline}

-- what each crash leaves is left by access
each_by_access : (p : Spelling Request) (v : Voice) (kind : PlaceKind) (source : Taking) (port : Moments) → IsSound port.old → (w : World) → Stands port.old.reads w
    → EachCrashLeaves p source port (IsPrefixLeft v kind w port.old.sent) → EachCrashLeaves p source port (IsLeftByAccess v kind w port.old.sent)
each_by_access p v kind source port sound w stands l =
    let valid = world_valid port.old.reads w sound.own.whole stands in
    let grants_of : (wants : List Bool) (qs : List Request) → IsByGrants kind w wants qs = λ wants qs. record {
      held = λ s o a l. levels_are_grants kind w wants qs s o a l valid;
      attains = λ s b shown l. attained_by_history kind w wants qs s b shown l valid;
    } in
    record {
      bytes = l.bytes;
      came_in = l.came_in;
      asked = l.asked;
      are = l.are;
      any_moment = weakened port.old port.new (IsPrefixLeft v kind w port.old.sent l.asked) (IsLeftByAccess v kind w port.old.sent l.asked) l.any_moment
          (λ x f left. record { run = left; by_access = λ done ahead e. run_by_access kind w left.wants done valid; by_grants = λ done ahead e. grants_of left.wants done });
    }

left_by_access : (p : Spelling Request) (v : Voice) (kind : PlaceKind) (source : Taking) (port : Moments) → IsSound port.old
    → (IsFirm port.old → (w : World) → Stands port.old.reads w → EachCrashLeaves p source port (IsPrefixLeft v kind w port.old.sent)) → LeavesByAccess p v kind source port
left_by_access p v kind source port sound leaves firm w stands = each_by_access p v kind source port sound w stands (leaves firm w stands)

-- the same where none of the records is picked
left_by_access_merely : (p : Spelling Request) (v : Voice) (kind : PlaceKind) (source : Taking) (port : Moments) → IsSound port.old
    → (IsFirm port.old → (w : World) → Stands port.old.reads w → ∥ EachCrashLeaves p source port (IsPrefixLeft v kind w port.old.sent) ∥₁)
    → IsFirm port.old → (w : World) → Stands port.old.reads w → ∥ EachCrashLeaves p source port (IsLeftByAccess v kind w port.old.sent) ∥₁
left_by_access_merely p v kind source port sound leaves firm w stands =
    let prop : IsProp (∥ EachCrashLeaves p source port (IsLeftByAccess v kind w port.old.sent) ∥₁) = hlevel in
    ∥∥₁_elim (leaves firm w stands) prop (λ (l : EachCrashLeaves p source port (IsPrefixLeft v kind w port.old.sent)). ∣ each_by_access p v kind source port sound w stands l ∣₁)

pub access_law : (words : Command) (r : Status) (source : Taking) (port : Moments) → (source.untouched → source.came []) → (port.untouched → port.new ≡ port.old) → (port.tells → IsSound port.old)
    → Did (Some words) r source port → port.tells → AccessLaw words source port
access_law (command.Run kind) r source port none same sound did told =
    left_by_access line_spelling line_voice kind source port (sound told) (headline (command.Run kind) r source port none same sound did told)
access_law (command.Serve kind) r source port none same sound did told =
    left_by_access frame_spelling frame_voice kind source port (sound told) (headline (command.Serve kind) r source port none same sound did told)
access_law (command.Group kind) r source port none same sound did told =
    left_by_access_merely frame_spelling frame_voice kind source port (sound told) (headline (command.Group kind) r source port none same sound did told)
access_law (command.Fresh fresh) r source port none same sound did told = tt
access_law (command.Format words) r source port none same sound did told = tt
access_law (command.Shell shell) r source port none same sound did told = tt
access_law (command.Files shell) r source port none same sound did told = tt
access_law command.Check r source port none same sound did told = tt
access_law command.Info r source port none same sound did told = tt
access_law (command.Load load) r source port none same sound did told = tt
access_law command.Upgrade r source port none same sound did told = tt
access_law command.Audit r source port none same sound did told = tt
access_law command.Verify r source port none same sound did told = tt
access_law (command.CopyFs words) r source port none same sound did told = tt
