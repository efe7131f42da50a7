-- The words of a command, each a list of bytes.
use Rattle.std.specs.Prelude.{◌≡◌, ℕ, ◌*◌, ◌≤◌, Bool, cond, ◌&&◌, ◌||◌, ◌==◌, nat_le, nat_lt, List, [], ◌∷◌, codes}
use Rattle.std.specs.Prelude.{bytes_eq, Option, Some, None, option_map}
use Rattle.std.specs.Result.{result_ok}
use Rattle.hex.specs.Hex.{decode_sized}
use Rattle.tsd_model.specs.Geometry.{IsLawful}
use Rattle.tsd_model.specs.declared.geometry.Geometry.{Geometry}
use Rattle.tsd_model.specs.declared.requests.PlaceKind.{PlaceKind}
use Rattle.tsd_model.specs.declared.requests.PlaceKind.TheVariants.{Low, Near, Spread, Zone}
use Rattle.fs_trees.specs.declared.ask.ShellKind.{ShellKind}
use Rattle.fs_trees.specs.declared.ask.ShellKind.TheVariants.{Inode, Chain}
use Rattle.script_text.specs.Reading.{num_of, new_of, ◌>>=◌}
use Rattle.tsd_words.specs.declared.commands.Fresh.{Fresh}
use Rattle.tsd_words.specs.declared.commands.Format.{Format}
use Rattle.tsd_words.specs.declared.commands.Load.{Load}
use Rattle.tsd_words.specs.declared.commands.Shell.{Shell}
use Rattle.tsd_words.specs.declared.commands.TreeRoot.{TreeRoot}
use Rattle.tsd_words.specs.declared.commands.CopyFs.{CopyFs}
use Rattle.tsd_words.specs.declared.commands.Command.{Command}
use Rattle.tsd_words.specs.declared.commands.Command.TheVariants as command

-- the four kinds of placement by name
abbrev pub kinds : List (List ℕ × PlaceKind)
kinds = (codes "low", Low) ∷ (codes "near", Near) ∷ (codes "spread", Spread) ∷ (codes "zone", Zone) ∷ []

abbrev pub named_kind : List (List ℕ × PlaceKind) → List ℕ → Option PlaceKind
named_kind [] w = None
named_kind (k ∷ ks) w = cond (bytes_eq w k.0) (Some k.1) (named_kind ks w)

unfoldable pub kind_of : List ℕ → Option PlaceKind
kind_of w = named_kind kinds w

-- the two layouts of a tree by name
unfoldable pub layout_of : List ℕ → Option ShellKind
layout_of w = cond (bytes_eq w (codes "inode")) (Some Inode) (cond (bytes_eq w (codes "chain")) (Some Chain) None)

-- 32 bytes, as 64 hexadecimal digits
abbrev pub seed_of : List ℕ → Option (List ℕ)
seed_of w = result_ok (decode_sized w 32)

-- 8 to 1,048,576 blocks of 1, 2, 4 or 8 sectors
abbrev pub is_size : ℕ → ℕ → Bool
is_size blocks sectors =
    (nat_le 8 blocks && nat_le blocks 1048576)
    && ((((sectors == 1) || (sectors == 2)) || (sectors == 4)) || (sectors == 8))

-- 1 to 4,194,304 pointer slots, and 1 to 16 primary blocks, but not all
abbrev pub is_table : ℕ → ℕ → ℕ → Bool
is_table blocks slots primaries =
    (nat_le 1 slots && nat_le slots 4194304) && ((nat_le 1 primaries && nat_le primaries 16) && nat_lt primaries blocks)

-- one primary block, and four pointer slots for each block
abbrev pub fresh_geometry : ℕ → ℕ → Geometry
fresh_geometry blocks sectors = record { sectors = sectors; blocks = blocks; primaries = 1; slots = 4 * blocks }

-- what BLOCKS and SECTORS say
unfoldable pub size_of : List ℕ → List ℕ → Option Geometry
size_of blocks sectors = do
  n ← num_of blocks
  k ← num_of sectors
  cond (is_size n k) (Some (fresh_geometry n k)) None

-- what BLOCKS SECTORS SLOTS PRIMARIES say
unfoldable pub geometry_of : List ℕ → List ℕ → List ℕ → List ℕ → Option Geometry
geometry_of blocks sectors slots primaries = do
  g ← size_of blocks sectors
  m ← num_of slots
  p ← num_of primaries
  cond (is_table g.blocks m p) (Some (record { sectors = g.sectors; blocks = g.blocks; primaries = p; slots = m })) None

-- what BLOCKS SECTORS READCAP WRITECAP PLACE say
unfoldable pub fresh_of : List ℕ → List ℕ → List ℕ → List ℕ → List ℕ → Option Fresh
fresh_of blocks sectors read write placement = do
  g ← size_of blocks sectors
  r ← new_of read
  w ← new_of write
  kind ← kind_of placement
  Some (record { geometry = g; caps = record { read = r; write = w }; kind = kind })

-- what BLOCKS SECTORS SLOTS PRIMARIES SEED say
unfoldable pub format_of : List ℕ → List ℕ → List ℕ → List ℕ → List ℕ → Option Format
format_of blocks sectors slots primaries seed = do
  g ← geometry_of blocks sectors slots primaries
  s ← seed_of seed
  Some (record { geometry = g; seed = s })

-- what SEED COUNT PLACE say: 1 to 200,000 requests
unfoldable pub load_of : List ℕ → List ℕ → List ℕ → Option Load
load_of seed count placement = do
  s ← seed_of seed
  n ← num_of count
  kind ← kind_of placement
  cond (nat_le 1 n && nat_le n 200000) (Some (record { seed = s; count = n; kind = kind })) None

-- what KIND ROOT CAP PLACE say
unfoldable pub shell_of : List ℕ → List ℕ → List ℕ → List ℕ → Option Shell
shell_of layout root cap placement = do
  l ← layout_of layout
  a ← num_of root
  c ← new_of cap
  kind ← kind_of placement
  Some (record { layout = l; root = a; cap = c; kind = kind })

-- what KIND ROOT CAP say
unfoldable pub root_of : List ℕ → List ℕ → List ℕ → Option TreeRoot
root_of layout root cap = do
  l ← layout_of layout
  a ← num_of root
  c ← new_of cap
  Some (record { layout = l; root = a; cap = c })

-- what KIND ROOT CAP KIND ROOT CAP PLACE say: the tree that is copied, and where to
unfoldable pub copy_of : List ℕ → List ℕ → List ℕ → List ℕ → List ℕ → List ℕ → List ℕ → Option CopyFs
copy_of layout root cap to_layout to_root to_cap placement = do
  f ← root_of layout root cap
  g ← root_of to_layout to_root to_cap
  kind ← kind_of placement
  Some (record { from = f; into = g; kind = kind })

-- check; info; upgrade; audit; verify
unfoldable pub alone_of : List ℕ → Option Command
alone_of name =
    cond (bytes_eq name (codes "check")) (Some command.Check)
    (cond (bytes_eq name (codes "info")) (Some command.Info)
    (cond (bytes_eq name (codes "upgrade")) (Some command.Upgrade)
    (cond (bytes_eq name (codes "audit")) (Some command.Audit)
    (cond (bytes_eq name (codes "verify")) (Some command.Verify) None))))

-- run PLACE; serve PLACE; group PLACE
unfoldable pub served_of : List ℕ → List ℕ → Option Command
served_of name placement =
    cond (bytes_eq name (codes "run")) (option_map (λ kind. command.Run kind) (kind_of placement))
    (cond (bytes_eq name (codes "serve")) (option_map (λ kind. command.Serve kind) (kind_of placement))
    (cond (bytes_eq name (codes "group")) (option_map (λ kind. command.Group kind) (kind_of placement)) None))

-- fresh BLOCKS SECTORS READCAP WRITECAP PLACE; format BLOCKS SECTORS SLOTS PRIMARIES SEED
unfoldable pub made_of : List ℕ → List ℕ → List ℕ → List ℕ → List ℕ → List ℕ → Option Command
made_of name a b c d e =
    cond (bytes_eq name (codes "fresh")) (option_map (λ fresh. command.Fresh fresh) (fresh_of a b c d e))
    (cond (bytes_eq name (codes "format")) (option_map (λ format. command.Format format) (format_of a b c d e)) None)

-- load SEED COUNT PLACE
unfoldable pub loaded_of : List ℕ → List ℕ → List ℕ → List ℕ → Option Command
loaded_of name seed count placement =
    cond (bytes_eq name (codes "load")) (option_map (λ load. command.Load load) (load_of seed count placement)) None

-- shell KIND ROOT CAP PLACE; files KIND ROOT CAP PLACE
unfoldable pub shelled_of : List ℕ → List ℕ → List ℕ → List ℕ → List ℕ → Option Command
shelled_of name layout root cap placement =
    cond (bytes_eq name (codes "shell"))
    (option_map (λ shell. command.Shell shell) (shell_of layout root cap placement))
    (cond (bytes_eq name (codes "files"))
    (option_map (λ shell. command.Files shell) (shell_of layout root cap placement)) None)

-- copyfs KIND ROOT CAP KIND ROOT CAP PLACE
unfoldable pub copied_of : List ℕ → List ℕ → List ℕ → List ℕ → List ℕ → List ℕ → List ℕ → List ℕ → Option Command
copied_of name layout root cap to_layout to_root to_cap placement =
    cond (bytes_eq name (codes "copyfs")) (option_map (λ copy. command.CopyFs copy)
    (copy_of layout root cap to_layout to_root to_cap placement)) None

-- the command that the words spell
abbrev pub command_of : List (List ℕ) → Option Command
command_of (name ∷ []) = alone_of name
command_of (name ∷ placement ∷ []) = served_of name placement
command_of (name ∷ seed ∷ count ∷ placement ∷ []) = loaded_of name seed count placement
command_of (name ∷ layout ∷ root ∷ cap ∷ placement ∷ []) = shelled_of name layout root cap placement
command_of (name ∷ a ∷ b ∷ c ∷ d ∷ e ∷ []) = made_of name a b c d e
command_of (name ∷ layout ∷ root ∷ cap ∷ to_layout ∷ to_root ∷ to_cap ∷ placement ∷ []) =
    copied_of name layout root cap to_layout to_root to_cap placement
command_of ws = None

-- its numbers are within their limits
abbrev pub IsInLimits : Command → Type 0
IsInLimits (command.Fresh fresh) = IsLawful fresh.geometry × (fresh.geometry.primaries ≡ 1)
IsInLimits (command.Format format) = IsLawful format.geometry
IsInLimits (command.Load load) = (1 ≤ load.count) × (load.count ≤ 200000)
IsInLimits c = Unit {0}
