-- What one request of a file system does.
use Rattle.std.specs.Prelude.{◌≡◌, ◌≢◌, ℕ, Bool, true, false, List, Some, Result, Ok, Err, IfErr}
use Rattle.image_device.specs.Counts.{Rose}
use Rattle.tsd_model.specs.Verdict.{verdict}
use Rattle.tsd_model.specs.declared.requests.Request.{Request}
use Rattle.tsd_model.specs.declared.requests.Request.TheVariants as ask
use Rattle.tsd_model.specs.declared.replies.Reply.{Reply}
use Rattle.tsd_model.specs.declared.replies.Reply.TheVariants as reply
use Rattle.tsd_model.specs.declared.replies.Rule.{Rule}
use Rattle.tsd_model.specs.declared.replies.Rule.TheVariants as rule
use Rattle.fs_trees.specs.declared.refusal.FsRefusal.{FsRefusal}
use Rattle.fs_trees.specs.declared.refusal.FsRefusal.TheVariants as no
use Rattle.fs_port.specs.View.{DiskView, state_of}
use Rattle.fs_port.specs.Calls.{Counts, IsEitherSide, LeavesWorldsOnly, Stays}
use Rattle.fs_port.specs.Files.{OnAnswer}

-- what a rule of the disk is to a file system, of whose requests only those on room ever apply
abbrev pub refusal_of : Rule → FsRefusal
refusal_of (rule.Full free wanted) = no.Full free wanted
refusal_of (rule.PointersFull held most) = no.PointersFull held most
refusal_of r = no.NotThisFs

-- what a reply is where another was wanted
abbrev pub refusal_in : Reply → FsRefusal
refusal_in (reply.Refused r) = refusal_of r
refusal_in r = no.NotThisFs

-- what is wanted of a reply, or what it is where it has another form
abbrev pub bytes_replied : Reply → Result (List ℕ) FsRefusal
bytes_replied (reply.Bytes bytes) = Ok bytes
bytes_replied r = Err (refusal_in r)

abbrev pub done_replied : Reply → Result (Unit {0}) FsRefusal
done_replied reply.Done = Ok tt
done_replied r = Err (refusal_in r)

abbrev pub gone_replied : Reply → Result ℕ FsRefusal
gone_replied (reply.Gone gone) = Ok gone
gone_replied r = Err (refusal_in r)

abbrev pub blocks_replied : Reply → Result (List ℕ) FsRefusal
blocks_replied (reply.Blocks blocks) = Ok blocks
blocks_replied r = Err (refusal_in r)

abbrev pub targets_replied : Reply → Result (List ℕ) FsRefusal
targets_replied (reply.Targets targets) = Ok targets
targets_replied r = Err (refusal_in r)

-- the reply has the form that a request of a file system wants
abbrev pub has_wanted_form : Request → Reply → Bool
has_wanted_form (ask.Read s b shown) (reply.Bytes bytes) = true
has_wanted_form (ask.Write s b shown bytes) reply.Done = true
has_wanted_form (ask.Create s a shown b) reply.Done = true
has_wanted_form (ask.Delete s a shown b) (reply.Gone gone) = true
has_wanted_form (ask.Alloc s a shown h count) (reply.Blocks blocks) = true
has_wanted_form (ask.List s a shown start) (reply.Targets blocks) = true
has_wanted_form q r = false

-- a rule of the disk refuses the request, and so the file system
abbrev pub IsRefused : DiskView → Request → FsRefusal → Type 0
IsRefused v q e = (r : Rule) × (verdict v.world v.sessions q ≡ Some r) × (refusal_of r ≡ e)

-- A request was asked once, of a disk that may tell its world: what holds whatever came of it.
pub record AsksOnce {X : Type 0} (told : Type 0) (old new : DiskView) (q : Request)
    (result : Result X FsRefusal) : Type 0 where
  -- it is refused by a rule of the disk alone, and then nothing has changed
  pub refused : told → IfErr result (λ e. e ≢ no.Device → IsRefused old q e × (state_of new ≡ state_of old))
  -- a stop leaves the world before it or the one after it
  pub crash : told → LeavesWorldsOnly old new (IsEitherSide old q)
  pub stays : OnAnswer result (Stays old new)
  pub counts : Counts old new
  pub unspent : OnAnswer result (new.spent ≡ false)
  pub faultless : OnAnswer result (new.faults ≡ old.faults)
  pub cause : IfErr result (λ e. e ≡ no.Device → Rose old.faults new.faults)
  pub spent : IfErr result (λ e. e ≡ no.Device → new.spent ≡ true)
