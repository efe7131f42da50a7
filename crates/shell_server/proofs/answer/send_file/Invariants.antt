use Rattle.std.proofs.Common.{◌≡◌, ℕ, ◌-◌, ◌<◌, List, ◌++◌, length, take, IfSome}
use Rattle.shell_server.proofs.Common.{encode_lower, bytes, is_empty, data_head, shell_step, shell_state, IsSpeaking, disk_state}
use Rattle.fs_trees.specs.declared.ask.ShellAsk.TheVariants as ask
use Rattle.shell_server.proofs.answer.send_file.Given as goal

abbrev pub invariant-loop-start : goal.invariant-loop-start
invariant-loop-start g l =
    let view = g.P.Device.view in
    (p : List ℕ) × IsSpeaking g.P.Device.told g.K.Started.start (g.F.Files.view l.fn.files) (g.F.Files.view l.files) l.fn.core l.core (view l.fn.port) (view l.port) p
    × (g.P.Device.told → (x : List ℕ) → (shell_step (shell_state (g.F.Files.view l.fn.files) (view l.fn.port).reads) (ask.Cat l.path)).answer ≡ bytes x → l.size ≡ length x → p ≡ data_head (is_empty x) ++ encode_lower (take l.start x))
    × (g.P.Device.told → l.start < l.size → IfSome l.place (g.F.Walks.leads (g.F.Files.view l.files) (disk_state l.core (view l.port)) l.path l.start))

abbrev pub decreases-loop-start : goal.decreases-loop-start
decreases-loop-start g l = l.size - l.start
