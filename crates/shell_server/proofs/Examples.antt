-- What the definitions say, worked out.
use Rattle.std.proofs.Common.{◌≡◌, [], ◌∷◌, refl}
use Rattle.shell_server.proofs.Common.{codes, World, empty_tree, answer_text, ShellState, resting, heard, shell_step, unmounted, not_heard, not_looked, look_of}
use Rattle.fs_trees.specs.declared.refusal.FsRefusal.TheVariants as no
use Rattle.shell_text.specs.declared.file_ask.FileAsk.TheVariants as file
use Rattle.tsd_model.specs.declared.caps.Cap.{Cap}
use Rattle.fs_trees.specs.declared.ask.ShellAsk.TheVariants as ask
use Rattle.fs_trees.specs.declared.ask.ShellKind.TheVariants as kind

-- a chain's shell hears no mkdir, and no shell a path with a name that is none
pub a_chain_hears_no_mkdir : heard kind.Chain (ask.MakeDir (codes "a" ∷ [])) ≡ ask.Bad
a_chain_hears_no_mkdir = refl

pub two_dots_are_no_name : heard kind.Inode (ask.Cat (codes ".." ∷ [])) ≡ ask.Bad
two_dots_are_no_name = refl

-- nothing is mounted yet
abbrev before : World → Cap → ShellState
before w cap = resting (unmounted kind.Inode 0 cap) w

pub an_unmounted_ls : (w : World) (cap : Cap) → answer_text (shell_step (before w cap) (ask.Ls [])).answer ≡ codes "no not-this-fs"
an_unmounted_ls w cap = refl

-- a tree that is made is empty
pub a_made_tree : (w : World) (cap : Cap) → (shell_step (before w cap) ask.Make).tree ≡ empty_tree
a_made_tree w cap = refl

-- its line
pub a_made_tree_is_done : (w : World) (cap : Cap) → answer_text (shell_step (before w cap) ask.Make).answer ≡ codes "ok"
a_made_tree_is_done w cap = refl

-- what only looks is refused as what it reads is, and not heard where its name is none
pub an_unmounted_size : (w : World) (cap : Cap) → look_of (before w cap) (file.Size []) ≡ not_looked no.NotThisFs
an_unmounted_size w cap = refl

pub above_a_dot : (w : World) (cap : Cap) → look_of (before w cap) (file.Next [] (codes ".")) ≡ not_heard
above_a_dot w cap = refl
