-- Worlds with the trees under their root, and what is answered there, as a program apart from these definitions gave them.
use Rattle.std.specs.Prelude.{◌≡◌, ℕ, List, [], ◌∷◌, refl, codes, map, Option, Some, None, option_map}
use Rattle.tsd_model.specs.World.{World}
use Rattle.tsd_model.specs.Step.{filled}
use Rattle.tsd_model.specs.Run.{fresh_world}
use Rattle.fs_trees.specs.Tree.{none, file, dir, nothing, a_dir}
use Rattle.fs_trees.specs.Answer.{done, bytes, listed, available, refused}
use Rattle.fs_trees.specs.Layouts.{tree_at, step_at}
use Rattle.fs_trees.specs.declared.ask.ShellAsk.TheVariants as ask
use Rattle.fs_trees.specs.declared.ask.ShellKind.TheVariants.{Inode, Chain}
use Rattle.fs_trees.specs.declared.refusal.FsRefusal.TheVariants as no

-- a world of blocks of 512 bytes, of which one is primary, each with these bytes and then zeros, and these pairs
abbrev world : ℕ → List (Option (List ℕ)) → List (ℕ × ℕ) → World
world slots xs es = record (fresh_world (record { sectors = 1; blocks = 8; primaries = 1; slots = slots }) []) { blocks = map (λ x. option_map (filled 512) x) xs; pairs = es }

abbrev w1 : World
w1 = world 32 (Some (84 ∷ 83 ∷ 68 ∷ 73 ∷ 78 ∷ 79 ∷ 68 ∷ 49 ∷ 1 ∷ 0 ∷ 0 ∷ 0 ∷ 1 ∷ 0 ∷ 0 ∷ 0 ∷ 1 ∷ 0 ∷ 0 ∷ 0 ∷ 66 ∷ []) ∷ Some (84 ∷ 83 ∷ 68 ∷ 73 ∷ 0 ∷ 79 ∷ 68 ∷ 49 ∷ 2 ∷ 0 ∷ 0 ∷ 0 ∷ 3 ∷ 0 ∷ 0 ∷ 0 ∷ 2 ∷ []) ∷ Some (204 ∷ 204 ∷ 204 ∷ []) ∷ None ∷ None ∷ None ∷ None ∷ None ∷ []) ((0, 1) ∷ (1, 2) ∷ [])

pub case_1 : tree_at Inode w1 0 ≡ nothing
case_1 = refl

abbrev w2 : World
w2 = world 32 (Some (84 ∷ 83 ∷ 68 ∷ 73 ∷ 78 ∷ 79 ∷ 68 ∷ 49 ∷ 1 ∷ 0 ∷ 0 ∷ 0 ∷ 1 ∷ 0 ∷ 0 ∷ 0 ∷ 1 ∷ 0 ∷ 0 ∷ 0 ∷ 99 ∷ []) ∷ Some (84 ∷ 83 ∷ 68 ∷ 73 ∷ 78 ∷ 79 ∷ 68 ∷ 49 ∷ 2 ∷ 0 ∷ 0 ∷ 0 ∷ 1 ∷ 0 ∷ 0 ∷ 0 ∷ 2 ∷ []) ∷ Some (83 ∷ []) ∷ None ∷ None ∷ None ∷ None ∷ None ∷ []) ((0, 1) ∷ (1, 2) ∷ [])

pub case_2 : (tree_at Inode w2 0 ≡ a_dir tt (file (codes "c") (83 ∷ []) none)) × ((step_at Inode w2 0 (ask.Append (codes "c" ∷ []) (221 ∷ 221 ∷ 221 ∷ []))).answer ≡ done)
case_2 = (refl, refl)

abbrev w3 : World
w3 = world 32 (Some (84 ∷ 83 ∷ 68 ∷ 73 ∷ 78 ∷ 79 ∷ 68 ∷ 49 ∷ 1 ∷ 0 ∷ 0 ∷ 0 ∷ 1 ∷ 0 ∷ 0 ∷ 0 ∷ 1 ∷ 0 ∷ 0 ∷ 0 ∷ 99 ∷ 0 ∷ 0 ∷ 0 ∷ 0 ∷ 0 ∷ 0 ∷ 0 ∷ 0 ∷ 0 ∷ 0 ∷ 0 ∷ 0 ∷ 0 ∷ 0 ∷ 0 ∷ 0 ∷ 0 ∷ 0 ∷ 0 ∷ 0 ∷ 0 ∷ 0 ∷ 0 ∷ 0 ∷ 0 ∷ 0 ∷ 0 ∷ 0 ∷ 0 ∷ 0 ∷ 0 ∷ 98 ∷ []) ∷ Some (84 ∷ 83 ∷ 68 ∷ 73 ∷ 78 ∷ 79 ∷ 68 ∷ 49 ∷ 2 ∷ 0 ∷ 0 ∷ 0 ∷ 1 ∷ 0 ∷ 0 ∷ 0 ∷ 2 ∷ []) ∷ Some (83 ∷ []) ∷ None ∷ None ∷ None ∷ None ∷ None ∷ []) ((1, 2) ∷ [])

pub case_3 : tree_at Inode w3 0 ≡ nothing
case_3 = refl

abbrev w4 : World
w4 = world 7 (Some (84 ∷ 83 ∷ 68 ∷ 73 ∷ 78 ∷ 79 ∷ 68 ∷ 49 ∷ 1 ∷ 0 ∷ 0 ∷ 0 ∷ 2 ∷ 0 ∷ 0 ∷ 0 ∷ 1 ∷ 0 ∷ 0 ∷ 0 ∷ 66 ∷ 0 ∷ 0 ∷ 0 ∷ 0 ∷ 0 ∷ 0 ∷ 0 ∷ 0 ∷ 0 ∷ 0 ∷ 0 ∷ 0 ∷ 0 ∷ 0 ∷ 0 ∷ 0 ∷ 0 ∷ 0 ∷ 0 ∷ 0 ∷ 0 ∷ 0 ∷ 0 ∷ 0 ∷ 0 ∷ 0 ∷ 0 ∷ 2 ∷ 0 ∷ 0 ∷ 0 ∷ 97 ∷ []) ∷ Some (84 ∷ 83 ∷ 68 ∷ 73 ∷ 78 ∷ 79 ∷ 68 ∷ 49 ∷ 1 ∷ []) ∷ Some (84 ∷ 83 ∷ 68 ∷ 73 ∷ 78 ∷ 79 ∷ 68 ∷ 49 ∷ 1 ∷ []) ∷ None ∷ None ∷ None ∷ None ∷ None ∷ []) ((0, 1) ∷ (0, 2) ∷ [])

pub case_4 : (tree_at Inode w4 0 ≡ a_dir tt (dir (codes "B") tt none (dir (codes "a") tt none none))) × ((step_at Inode w4 0 (ask.Ls (codes "B" ∷ []))).answer ≡ listed [])
case_4 = (refl, refl)

abbrev w5 : World
w5 = world 7 (Some (84 ∷ 83 ∷ 68 ∷ 73 ∷ 78 ∷ 79 ∷ 68 ∷ 49 ∷ 1 ∷ 0 ∷ 0 ∷ 0 ∷ 2 ∷ 0 ∷ 0 ∷ 0 ∷ 1 ∷ 0 ∷ 0 ∷ 0 ∷ 66 ∷ 97 ∷ 0 ∷ 0 ∷ 0 ∷ 0 ∷ 0 ∷ 0 ∷ 0 ∷ 0 ∷ 0 ∷ 0 ∷ 0 ∷ 0 ∷ 0 ∷ 0 ∷ 0 ∷ 0 ∷ 0 ∷ 0 ∷ 0 ∷ 0 ∷ 0 ∷ 0 ∷ 0 ∷ 0 ∷ 0 ∷ 0 ∷ 2 ∷ 0 ∷ 0 ∷ 0 ∷ 97 ∷ []) ∷ Some (84 ∷ 83 ∷ 68 ∷ 73 ∷ 78 ∷ 79 ∷ 68 ∷ 49 ∷ 1 ∷ []) ∷ Some (84 ∷ 83 ∷ 68 ∷ 73 ∷ 78 ∷ 79 ∷ 68 ∷ 49 ∷ 1 ∷ []) ∷ None ∷ None ∷ None ∷ None ∷ None ∷ []) ((0, 1) ∷ (0, 2) ∷ [])

pub case_5 : tree_at Inode w5 0 ≡ a_dir tt (dir (codes "Ba") tt none (dir (codes "a") tt none none))
case_5 = refl

abbrev w6 : World
w6 = world 12 (Some (84 ∷ 83 ∷ 68 ∷ 73 ∷ 78 ∷ 79 ∷ 68 ∷ 49 ∷ 1 ∷ []) ∷ None ∷ None ∷ None ∷ None ∷ None ∷ None ∷ None ∷ []) []

pub case_6 : (tree_at Inode w6 0 ≡ a_dir tt none) × ((step_at Inode w6 0 (ask.Put [] (131 ∷ []))).answer ≡ refused no.IsDir)
case_6 = (refl, refl)

abbrev w7 : World
w7 = world 12 (Some (84 ∷ 83 ∷ 68 ∷ 73 ∷ 78 ∷ 79 ∷ 68 ∷ 49 ∷ 1 ∷ 0 ∷ 0 ∷ 0 ∷ 1 ∷ 0 ∷ 0 ∷ 0 ∷ 1 ∷ 0 ∷ 0 ∷ 0 ∷ 98 ∷ []) ∷ Some (84 ∷ 83 ∷ 68 ∷ 73 ∷ 78 ∷ 79 ∷ 68 ∷ 49 ∷ 2 ∷ 0 ∷ 0 ∷ 0 ∷ 3 ∷ 0 ∷ 0 ∷ 0 ∷ 2 ∷ []) ∷ Some (126 ∷ 126 ∷ 126 ∷ []) ∷ None ∷ None ∷ None ∷ None ∷ None ∷ []) ((0, 1) ∷ (1, 2) ∷ [])

pub case_7 : (tree_at Inode w7 0 ≡ a_dir tt (file (codes "b") (126 ∷ 126 ∷ 126 ∷ []) none)) × ((step_at Inode w7 0 (ask.Copy (codes "b" ∷ []) (codes "B" ∷ []))).answer ≡ done)
case_7 = (refl, refl)

abbrev w8 : World
w8 = world 12 (Some (84 ∷ 83 ∷ 68 ∷ 73 ∷ 78 ∷ 79 ∷ 68 ∷ 49 ∷ 1 ∷ 0 ∷ 0 ∷ 0 ∷ 1 ∷ 0 ∷ 0 ∷ 0 ∷ 2 ∷ 0 ∷ 0 ∷ 0 ∷ 98 ∷ []) ∷ Some (84 ∷ 83 ∷ 68 ∷ 73 ∷ 78 ∷ 79 ∷ 68 ∷ 49 ∷ 2 ∷ 0 ∷ 0 ∷ 0 ∷ 3 ∷ 0 ∷ 0 ∷ 0 ∷ 2 ∷ []) ∷ Some (126 ∷ 126 ∷ 126 ∷ []) ∷ None ∷ None ∷ None ∷ None ∷ None ∷ []) ((0, 1) ∷ (1, 2) ∷ [])

pub case_8 : tree_at Inode w8 0 ≡ nothing
case_8 = refl

abbrev w9 : World
w9 = world 7 (Some (84 ∷ 83 ∷ 68 ∷ 73 ∷ 78 ∷ 79 ∷ 68 ∷ 49 ∷ 1 ∷ 0 ∷ 0 ∷ 0 ∷ 1 ∷ 0 ∷ 0 ∷ 0 ∷ 1 ∷ 0 ∷ 0 ∷ 0 ∷ 99 ∷ 0 ∷ 0 ∷ 0 ∷ 0 ∷ 0 ∷ 0 ∷ 0 ∷ 0 ∷ 0 ∷ 0 ∷ 0 ∷ 0 ∷ 0 ∷ 0 ∷ 0 ∷ 0 ∷ 0 ∷ 0 ∷ 0 ∷ 0 ∷ 0 ∷ 0 ∷ 0 ∷ 0 ∷ 0 ∷ 0 ∷ 0 ∷ 1 ∷ []) ∷ Some (84 ∷ 83 ∷ 68 ∷ 73 ∷ 78 ∷ 79 ∷ 68 ∷ 49 ∷ 1 ∷ []) ∷ None ∷ None ∷ None ∷ None ∷ None ∷ None ∷ []) []

pub case_9 : tree_at Inode w9 0 ≡ nothing
case_9 = refl

abbrev w10 : World
w10 = world 12 (Some (84 ∷ 83 ∷ 68 ∷ 73 ∷ 78 ∷ 79 ∷ 68 ∷ 49 ∷ 1 ∷ 0 ∷ 0 ∷ 0 ∷ 1 ∷ 0 ∷ 0 ∷ 0 ∷ 1 ∷ 0 ∷ 0 ∷ 0 ∷ 66 ∷ []) ∷ Some (84 ∷ 83 ∷ 68 ∷ 73 ∷ 78 ∷ 79 ∷ 68 ∷ 49 ∷ 1 ∷ []) ∷ None ∷ None ∷ None ∷ None ∷ None ∷ None ∷ []) ((0, 1) ∷ [])

pub case_10 : (tree_at Inode w10 0 ≡ a_dir tt (dir (codes "B") tt none none)) × ((step_at Inode w10 0 (ask.MakeDir (codes "B" ∷ []))).answer ≡ refused no.Exists)
case_10 = (refl, refl)

abbrev w11 : World
w11 = world 32 (Some (84 ∷ 83 ∷ 68 ∷ 73 ∷ 78 ∷ 79 ∷ 68 ∷ 49 ∷ 1 ∷ 0 ∷ 0 ∷ 0 ∷ 1 ∷ 0 ∷ 0 ∷ 0 ∷ 1 ∷ 0 ∷ 0 ∷ 0 ∷ 98 ∷ []) ∷ Some (84 ∷ 83 ∷ 68 ∷ 73 ∷ 78 ∷ 79 ∷ 68 ∷ 49 ∷ 2 ∷ 0 ∷ 0 ∷ 0 ∷ 1 ∷ 0 ∷ 0 ∷ 0 ∷ 2 ∷ []) ∷ Some (151 ∷ []) ∷ None ∷ None ∷ None ∷ None ∷ None ∷ []) ((0, 1) ∷ (1, 2) ∷ [])

pub case_11 : (tree_at Inode w11 0 ≡ a_dir tt (file (codes "b") (151 ∷ []) none)) × ((step_at Inode w11 0 (ask.Rm (codes "b" ∷ []))).answer ≡ done)
case_11 = (refl, refl)

abbrev w12 : World
w12 = world 32 (Some (84 ∷ 83 ∷ 68 ∷ 73 ∷ 78 ∷ 79 ∷ 68 ∷ 49 ∷ 1 ∷ 0 ∷ 0 ∷ 0 ∷ 1 ∷ 0 ∷ 0 ∷ 0 ∷ 1 ∷ 0 ∷ 0 ∷ 0 ∷ 97 ∷ []) ∷ Some (84 ∷ 83 ∷ 68 ∷ 73 ∷ 78 ∷ 79 ∷ 68 ∷ 49 ∷ 2 ∷ 0 ∷ 0 ∷ 0 ∷ 1 ∷ 0 ∷ 0 ∷ 0 ∷ 2 ∷ []) ∷ Some (151 ∷ []) ∷ None ∷ None ∷ None ∷ None ∷ None ∷ []) ((0, 1) ∷ [])

pub case_12 : tree_at Inode w12 0 ≡ nothing
case_12 = refl

abbrev w13 : World
w13 = world 32 (Some (84 ∷ 83 ∷ 68 ∷ 73 ∷ 78 ∷ 79 ∷ 68 ∷ 49 ∷ 1 ∷ 0 ∷ 0 ∷ 0 ∷ 1 ∷ 0 ∷ 0 ∷ 0 ∷ 1 ∷ 0 ∷ 0 ∷ 0 ∷ 99 ∷ []) ∷ Some (84 ∷ 83 ∷ 68 ∷ 73 ∷ 78 ∷ 79 ∷ 0 ∷ 49 ∷ 1 ∷ []) ∷ None ∷ None ∷ None ∷ None ∷ None ∷ None ∷ []) []

pub case_13 : tree_at Inode w13 0 ≡ nothing
case_13 = refl

abbrev w14 : World
w14 = world 7 (Some (84 ∷ 83 ∷ 68 ∷ 67 ∷ 72 ∷ 65 ∷ 78 ∷ 49 ∷ []) ∷ None ∷ None ∷ None ∷ None ∷ None ∷ None ∷ None ∷ []) []

pub case_14 : (tree_at Chain w14 0 ≡ a_dir tt none) × ((step_at Chain w14 0 (ask.Append (codes "a" ∷ codes "a" ∷ []) [])).answer ≡ refused no.NoEntry)
case_14 = (refl, refl)

abbrev w15 : World
w15 = world 7 (Some (98 ∷ 83 ∷ 68 ∷ 67 ∷ 72 ∷ 65 ∷ 78 ∷ 49 ∷ []) ∷ None ∷ None ∷ None ∷ None ∷ None ∷ None ∷ None ∷ []) []

pub case_15 : tree_at Chain w15 0 ≡ nothing
case_15 = refl

abbrev w16 : World
w16 = world 32 (Some (84 ∷ 83 ∷ 68 ∷ 67 ∷ 72 ∷ 65 ∷ 78 ∷ 49 ∷ 0 ∷ 0 ∷ 0 ∷ 0 ∷ 1 ∷ 0 ∷ 0 ∷ 0 ∷ 1 ∷ 0 ∷ 0 ∷ 0 ∷ 66 ∷ []) ∷ Some (84 ∷ 83 ∷ 68 ∷ 67 ∷ 72 ∷ 65 ∷ 78 ∷ 49 ∷ []) ∷ None ∷ None ∷ None ∷ None ∷ None ∷ None ∷ []) ((0, 1) ∷ [])

pub case_16 : (tree_at Chain w16 0 ≡ a_dir tt (file (codes "B") [] none)) × ((step_at Chain w16 0 (ask.Cat (codes "B" ∷ []))).answer ≡ bytes [])
case_16 = (refl, refl)

abbrev w17 : World
w17 = world 32 (Some (84 ∷ 83 ∷ 68 ∷ 67 ∷ 72 ∷ 65 ∷ 78 ∷ 49 ∷ 0 ∷ 0 ∷ 0 ∷ 0 ∷ 1 ∷ 0 ∷ 0 ∷ 0 ∷ 1 ∷ 0 ∷ 0 ∷ 0 ∷ 66 ∷ 0 ∷ 0 ∷ 0 ∷ 0 ∷ 0 ∷ 0 ∷ 0 ∷ 0 ∷ 0 ∷ 0 ∷ 0 ∷ 0 ∷ 0 ∷ 0 ∷ 0 ∷ 0 ∷ 0 ∷ 0 ∷ 0 ∷ 0 ∷ 0 ∷ 0 ∷ 0 ∷ 0 ∷ 0 ∷ 0 ∷ 0 ∷ 0 ∷ 0 ∷ 0 ∷ 0 ∷ 1 ∷ []) ∷ Some (84 ∷ 83 ∷ 68 ∷ 67 ∷ 72 ∷ 65 ∷ 78 ∷ 49 ∷ []) ∷ None ∷ None ∷ None ∷ None ∷ None ∷ None ∷ []) ((0, 1) ∷ [])

pub case_17 : tree_at Chain w17 0 ≡ a_dir tt (file (codes "B") [] none)
case_17 = refl

abbrev w18 : World
w18 = world 7 (Some (84 ∷ 83 ∷ 68 ∷ 67 ∷ 72 ∷ 65 ∷ 78 ∷ 49 ∷ 0 ∷ 0 ∷ 0 ∷ 0 ∷ 1 ∷ 0 ∷ 0 ∷ 0 ∷ 3 ∷ 0 ∷ 0 ∷ 0 ∷ 66 ∷ []) ∷ None ∷ None ∷ Some (84 ∷ 83 ∷ 68 ∷ 67 ∷ 72 ∷ 65 ∷ 78 ∷ 49 ∷ 0 ∷ 0 ∷ 0 ∷ 0 ∷ 1 ∷ 0 ∷ 0 ∷ 0 ∷ 201 ∷ []) ∷ None ∷ None ∷ None ∷ None ∷ []) ((0, 3) ∷ [])

pub case_18 : (tree_at Chain w18 0 ≡ a_dir tt (file (codes "B") (201 ∷ []) none)) × ((step_at Chain w18 0 (ask.Rm (codes "B" ∷ []))).answer ≡ done)
case_18 = (refl, refl)

abbrev w19 : World
w19 = world 7 (Some (84 ∷ 83 ∷ 68 ∷ 67 ∷ 72 ∷ 65 ∷ 78 ∷ 49 ∷ 0 ∷ 0 ∷ 0 ∷ 0 ∷ 1 ∷ 0 ∷ 0 ∷ 0 ∷ 3 ∷ 0 ∷ 0 ∷ 0 ∷ 66 ∷ []) ∷ None ∷ None ∷ Some (84 ∷ 83 ∷ 68 ∷ 67 ∷ 72 ∷ 65 ∷ 78 ∷ 49 ∷ 0 ∷ 0 ∷ 0 ∷ 0 ∷ 3 ∷ 0 ∷ 0 ∷ 0 ∷ 201 ∷ []) ∷ None ∷ None ∷ None ∷ None ∷ []) []

pub case_19 : tree_at Chain w19 0 ≡ nothing
case_19 = refl

abbrev w20 : World
w20 = world 32 (Some (84 ∷ 83 ∷ 68 ∷ 67 ∷ 72 ∷ 65 ∷ 78 ∷ 49 ∷ 0 ∷ 0 ∷ 0 ∷ 0 ∷ 1 ∷ 0 ∷ 0 ∷ 0 ∷ 1 ∷ 0 ∷ 0 ∷ 0 ∷ 66 ∷ []) ∷ Some (84 ∷ 83 ∷ 68 ∷ 67 ∷ 72 ∷ 65 ∷ 78 ∷ 49 ∷ 0 ∷ 0 ∷ 0 ∷ 0 ∷ 3 ∷ 0 ∷ 0 ∷ 0 ∷ 211 ∷ 211 ∷ 211 ∷ []) ∷ None ∷ None ∷ None ∷ None ∷ None ∷ None ∷ []) ((0, 1) ∷ [])

pub case_20 : (tree_at Chain w20 0 ≡ a_dir tt (file (codes "B") (211 ∷ 211 ∷ 211 ∷ []) none)) × ((step_at Chain w20 0 ask.Df).answer ≡ available 6)
case_20 = (refl, refl)

abbrev w21 : World
w21 = world 32 (Some (84 ∷ 83 ∷ 68 ∷ 67 ∷ 72 ∷ 65 ∷ 78 ∷ 49 ∷ 0 ∷ 0 ∷ 0 ∷ 0 ∷ 1 ∷ 0 ∷ 0 ∷ 0 ∷ 1 ∷ 0 ∷ 0 ∷ 0 ∷ 66 ∷ []) ∷ Some (84 ∷ 83 ∷ 68 ∷ 67 ∷ 72 ∷ 65 ∷ 78 ∷ 49 ∷ 0 ∷ 0 ∷ 0 ∷ 0 ∷ 3 ∷ 0 ∷ 0 ∷ 0 ∷ 211 ∷ 211 ∷ 211 ∷ 0 ∷ 0 ∷ 0 ∷ 0 ∷ 0 ∷ 0 ∷ 0 ∷ 0 ∷ 0 ∷ 0 ∷ 0 ∷ 0 ∷ 0 ∷ 0 ∷ 0 ∷ 0 ∷ 0 ∷ 0 ∷ 0 ∷ 0 ∷ 0 ∷ 0 ∷ 0 ∷ 0 ∷ 0 ∷ 0 ∷ 0 ∷ 0 ∷ 0 ∷ 0 ∷ 0 ∷ 0 ∷ 0 ∷ 2 ∷ []) ∷ None ∷ None ∷ None ∷ None ∷ None ∷ None ∷ []) ((0, 1) ∷ [])

pub case_21 : tree_at Chain w21 0 ≡ a_dir tt (file (codes "B") (211 ∷ 211 ∷ 211 ∷ []) none)
case_21 = refl
