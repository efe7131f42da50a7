use Rattle.std.proofs.Common.{◌≡◌, List, ℕ, IfSome}
use Rattle.shell_server.proofs.Common.{Name, listed, shell_step, shell_state, IsSpeaking, AreBehind}
use Rattle.fs_trees.specs.declared.ask.ShellAsk.TheVariants as ask
use Rattle.shell_server.proofs.LsLaws.{IsSaid}
use Rattle.shell_server.proofs.listing.send_names.Given as goal

abbrev pub invariant-loop-left : goal.invariant-loop-left
invariant-loop-left g l =
    let view = g.P.Device.view in
    (p : List ℕ) × IsSpeaking g.P.Device.told g.K.Started.start (g.F.Files.view l.fn.files) (g.F.Files.view l.files) l.fn.core l.core (view l.fn.port) (view l.port) p
    × (g.P.Device.told → (ns : List Name) → (shell_step (shell_state (g.F.Files.view l.fn.files) (view l.fn.port).reads) (ask.Ls l.path)).answer ≡ listed ns → IsSaid l.next l.left p ns)
    × (g.P.Device.told → IfSome l.next (λ name. AreBehind name l.ahead.items (shell_step (shell_state (g.F.Files.view l.files) (view l.port).reads) (ask.Ls l.path)).answer))

abbrev pub decreases-loop-left : goal.decreases-loop-left
decreases-loop-left g l = l.left
