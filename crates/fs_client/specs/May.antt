-- What a client may ask, and what it leaves where it only looks.
use Rattle.std.specs.Prelude.{◌≡◌, ℕ, ◌≤◌, true, false, Result, IfErr, IsTrue}
use Rattle.image_device.specs.Counts.{Rose}
use Rattle.tsd_model.specs.World.{is_live}
use Rattle.tsd_model.specs.Sessions.{sessions_max, is_open}
use Rattle.tsd_model.specs.Step.{State}
use Rattle.fs_trees.specs.declared.refusal.FsRefusal.{FsRefusal}
use Rattle.fs_trees.specs.declared.refusal.FsRefusal.TheVariants as no
use Rattle.fs_laws.specs.Ways.{HoldsWrite, attains_write}
use Rattle.fs_port.specs.View.{DiskView, state_of}
use Rattle.fs_port.specs.Calls.{Counts, IsLedTo, IsValidNow, LeavesWorldsOnly, Stays}
use Rattle.fs_port.specs.Files.{OnAnswer}
use Rattle.fs_client.specs.Client.{shown_at}
use Rattle.fs_client.specs.declared.client.Client.{Client}

-- It may write a block: its session is open, the block is live, and what it holds, or shows at the root, attains write.
pub record MayWrite (c : Client) (v : DiskView) (b : ℕ) : Type 0 where
  pub number : c.session ≤ sessions_max
  pub begun : IsTrue (is_open v.sessions c.session)
  pub live : IsTrue (is_live v.world b)
  pub attains : IsTrue (attains_write (state_of v) c.session b (shown_at c b))

-- what was held for writing still is
abbrev pub KeepsWays : State → State → Type 0
KeepsWays st next = (s a : ℕ) → HoldsWrite st s a → HoldsWrite next s a

-- the world is the same, and nothing that a session may write is lost
pub record Looked (old new : DiskView) : Type 0 where
  pub world : new.world ≡ old.world
  pub valid : IsValidNow new
  pub ways : KeepsWays (state_of old) (state_of new)
  pub led : IsLedTo old new

-- A call that only looks at a disk that may tell its world: what holds whatever it answers.
pub record OnlyLooks {X : Type 0} (told : Type 0) (old new : DiskView) (result : Result X FsRefusal) : Type 0 where
  pub looked : told → OnAnswer result (Looked old new)
  pub crash : told → LeavesWorldsOnly old new (λ w. w ≡ old.world)
  pub stays : OnAnswer result (Stays old new)
  pub counts : Counts old new
  pub unspent : OnAnswer result (new.spent ≡ false)
  pub faultless : OnAnswer result (new.faults ≡ old.faults)
  pub cause : IfErr result (λ e. e ≡ no.Device → Rose old.faults new.faults)
  pub spent : IfErr result (λ e. e ≡ no.Device → new.spent ≡ true)
