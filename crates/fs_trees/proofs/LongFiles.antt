-- Worlds with files of several blocks or clusters, with the trees under their root and what is answered there, as a program apart from
-- these definitions gave them.
use Rattle.std.specs.Prelude.{◌≡◌, ℕ, ◌+◌, ◌-◌, ◌*◌, ◌==◌, cond, nat_lt, List, [], ◌∷◌, ◌++◌, refl, replicate, codes, map, Option, Some, None}
use Rattle.std.specs.List.{range_with_len}
use Rattle.tsd_model.specs.World.{World}
use Rattle.tsd_model.specs.Step.{filled}
use Rattle.tsd_model.specs.Run.{fresh_world}
use Rattle.fs_trees.specs.Tree.{none, file, a_dir}
use Rattle.fs_trees.specs.Answer.{done, bytes, available, refused}
use Rattle.fs_trees.specs.Layouts.{tree_at, step_at}
use Rattle.fs_trees.specs.declared.ask.ShellAsk.TheVariants as ask
use Rattle.fs_trees.specs.declared.ask.ShellKind.TheVariants.{Inode, Chain}
use Rattle.fs_trees.specs.declared.refusal.FsRefusal.TheVariants as no

-- the bytes of lower-case hexadecimal digits
abbrev digit : ℕ → ℕ
digit c = cond (nat_lt c 58) (c - 48) (c - 87)

abbrev hex : List ℕ → List ℕ
hex [] = []
hex (c ∷ []) = []
hex (c ∷ d ∷ x) = (16 * digit c + digit d) ∷ hex x

-- what is listed for a block, and then zeros
abbrev block_in : List (ℕ × List ℕ) → ℕ → Option (List ℕ)
block_in [] b = None
block_in (x ∷ xs) b = cond (x.0 == b) (Some (filled 512 x.1)) (block_in xs b)

-- a world of so many blocks of 512 bytes, of which one is primary and these are live, and these pairs
abbrev world : ℕ → ℕ → List (ℕ × List ℕ) → List (ℕ × ℕ) → World
world blocks slots xs es =
    record (fresh_world (record { sectors = 1; blocks = blocks; primaries = 1; slots = slots }) []) { blocks = map (block_in xs) (range_with_len 0 blocks); pairs = es }

-- ---- inodes

abbrev inodes_1_world : World
inodes_1_world =
    world 8 32
    ((0, hex (codes "545344494e4f443101000000010000000100000061"))
    ∷ (1, hex (codes "545344494e4f443102000000f6050000020000000300000004"))
    ∷ (2, replicate 512 0x30)
    ∷ (3, replicate 512 0x30)
    ∷ (4, hex (codes "303030303030") ++ (replicate 495 0xa4 ++ hex (codes "26")))
    ∷ [])
    ((0, 1) ∷ (1, 2) ∷ (1, 3) ∷ (1, 4) ∷ [])

pub inodes_1 :
    (tree_at Inode inodes_1_world 0 ≡ a_dir tt (file (codes "a") (replicate 1030 0x30 ++ (replicate 495 0xa4 ++ hex (codes "26"))) none))
    × ((step_at Inode inodes_1_world 0 (ask.Append (codes "a" ∷ codes "a" ∷ []) (replicate 497 0xec))).answer ≡ refused no.NotDir)
inodes_1 = (refl, refl)

abbrev inodes_2_world : World
inodes_2_world =
    world 8 32
    ((0, hex (codes "545344494e4f443101000000010000000100000061"))
    ∷ (1, hex (codes "545344494e4f443102000000f6050000020000000300000004"))
    ∷ (2, replicate 512 0x30)
    ∷ (3, hex (codes "62") ++ replicate 511 0x30)
    ∷ (4, hex (codes "303030303030") ++ (replicate 495 0xa4 ++ hex (codes "26")))
    ∷ [])
    ((0, 1) ∷ (1, 2) ∷ (1, 3) ∷ (1, 4) ∷ [])

pub inodes_2 : tree_at Inode inodes_2_world 0 ≡ a_dir tt (file (codes "a") (replicate 512 0x30 ++ (hex (codes "62") ++ (replicate 517 0x30 ++ (replicate 495 0xa4 ++ hex (codes "26"))))) none)
inodes_2 = refl

abbrev inodes_3_world : World
inodes_3_world =
    world 8 7
    ((0, hex (codes "545344494e4f443101000000020000000300000042") ++ (replicate 27 0x00 ++ hex (codes "0400000063")))
    ∷ (2, replicate 512 0xc7)
    ∷ (3, hex (codes "545344494e4f443102000000030200000200000006"))
    ∷ (4, hex (codes "545344494e4f4431020000000100000005"))
    ∷ (5, hex (codes "81"))
    ∷ (6, hex (codes "959595"))
    ∷ [])
    ((0, 3) ∷ (0, 4) ∷ (3, 2) ∷ (3, 6) ∷ (4, 5) ∷ [])

pub inodes_3 :
    (tree_at Inode inodes_3_world 0 ≡ a_dir tt (file (codes "B") (replicate 512 0xc7 ++ hex (codes "959595")) (file (codes "c") (hex (codes "81")) none)))
    × ((step_at Inode inodes_3_world 0 (ask.Copy (codes "c" ∷ []) [])).answer ≡ refused no.Exists)
inodes_3 = (refl, refl)

abbrev inodes_4_world : World
inodes_4_world =
    world 8 12
    ((0, hex (codes "545344494e4f443101000000010000000300000063"))
    ∷ (3, hex (codes "545344494e4f443102000000010200000400000005"))
    ∷ (4, replicate 512 0x14)
    ∷ (5, hex (codes "14"))
    ∷ [])
    ((0, 3) ∷ (3, 4) ∷ (3, 5) ∷ [])

pub inodes_4 :
    (tree_at Inode inodes_4_world 0 ≡ a_dir tt (file (codes "c") (replicate 513 0x14) none))
    × ((step_at Inode inodes_4_world 0 (ask.MakeDir (codes "c" ∷ []))).answer ≡ refused no.Exists)
inodes_4 = (refl, refl)

abbrev inodes_5_world : World
inodes_5_world =
    world 8 12
    ((0, hex (codes "545344494e4f443101000000010000000300000063"))
    ∷ (3, hex (codes "545344494e4f443102000000010200000400000005"))
    ∷ (4, replicate 512 0x14)
    ∷ (5, hex (codes "14"))
    ∷ [])
    ((0, 3) ∷ (3, 4) ∷ (3, 5) ∷ [])

pub inodes_5 : tree_at Inode inodes_5_world 0 ≡ a_dir tt (file (codes "c") (replicate 513 0x14) none)
inodes_5 = refl

abbrev inodes_6_world : World
inodes_6_world =
    world 8 32
    ((0, hex (codes "545344494e4f443101000000020000000300000042") ++ (replicate 27 0x00 ++ hex (codes "0100000061")))
    ∷ (1, hex (codes "545344494e4f4431020000000002000002"))
    ∷ (2, replicate 512 0xe1)
    ∷ (3, hex (codes "545344494e4f443102000000010200000400000005"))
    ∷ (4, replicate 512 0x21)
    ∷ (5, hex (codes "21"))
    ∷ [])
    ((0, 1) ∷ (0, 3) ∷ (1, 2) ∷ (3, 4) ∷ (3, 5) ∷ [])

pub inodes_6 :
    (tree_at Inode inodes_6_world 0 ≡ a_dir tt (file (codes "B") (replicate 513 0x21) (file (codes "a") (replicate 512 0xe1) none)))
    × ((step_at Inode inodes_6_world 0 (ask.MakeDir (codes "a" ∷ []))).answer ≡ refused no.Exists)
inodes_6 = (refl, refl)

abbrev inodes_7_world : World
inodes_7_world =
    world 8 12
    ((0, hex (codes "545344494e4f443101000000010000000300000042"))
    ∷ (3, hex (codes "545344494e4f443102000000020200000400000005"))
    ∷ (4, hex (codes "63") ++ replicate 511 0x4b)
    ∷ (5, hex (codes "4b4b"))
    ∷ [])
    ((0, 3) ∷ (3, 4) ∷ (3, 5) ∷ [])

pub inodes_7 :
    (tree_at Inode inodes_7_world 0 ≡ a_dir tt (file (codes "B") (hex (codes "63") ++ replicate 513 0x4b) none))
    × ((step_at Inode inodes_7_world 0 (ask.Append [] (replicate 513 0x0a))).answer ≡ refused no.IsDir)
inodes_7 = (refl, refl)

abbrev inodes_8_world : World
inodes_8_world =
    world 8 12
    ((0, hex (codes "545344494e4f443101000000010000000300000042"))
    ∷ (3, hex (codes "545344494e4f443102000000020200000400000005"))
    ∷ (4, hex (codes "634b4b4b4b4b4b4b00") ++ replicate 503 0x4b)
    ∷ (5, hex (codes "4b4b"))
    ∷ [])
    ((0, 3) ∷ (3, 4) ∷ (3, 5) ∷ [])

pub inodes_8 : tree_at Inode inodes_8_world 0 ≡ a_dir tt (file (codes "B") (hex (codes "634b4b4b4b4b4b4b00") ++ replicate 505 0x4b) none)
inodes_8 = refl

abbrev inodes_9_world : World
inodes_9_world =
    world 8 32
    ((0, hex (codes "545344494e4f443101000000010000000100000063"))
    ∷ (1, hex (codes "545344494e4f44310200000006040000020000000300000004"))
    ∷ (2, replicate 512 0x68)
    ∷ (3, replicate 512 0x68)
    ∷ (4, hex (codes "686868686868"))
    ∷ [])
    ((0, 1) ∷ (1, 2) ∷ (1, 3) ∷ (1, 4) ∷ [])

pub inodes_9 :
    (tree_at Inode inodes_9_world 0 ≡ a_dir tt (file (codes "c") (replicate 1030 0x68) none))
    × ((step_at Inode inodes_9_world 0 (ask.Rm (codes "c" ∷ []))).answer ≡ done)
inodes_9 = (refl, refl)

abbrev inodes_10_world : World
inodes_10_world =
    world 8 12
    ((0, hex (codes "545344494e4f443101000000010000000100000061"))
    ∷ (1, hex (codes "545344494e4f44310200000006040000020000000300000004"))
    ∷ (2, replicate 512 0xf7)
    ∷ (3, replicate 512 0xf7)
    ∷ (4, hex (codes "f7f7f7f7f7f7"))
    ∷ [])
    ((0, 1) ∷ (1, 2) ∷ (1, 3) ∷ (1, 4) ∷ [])

pub inodes_10 :
    (tree_at Inode inodes_10_world 0 ≡ a_dir tt (file (codes "a") (replicate 1030 0xf7) none))
    × ((step_at Inode inodes_10_world 0 (ask.Append (codes "a" ∷ []) (replicate 497 0x9b))).answer ≡ done)
inodes_10 = (refl, refl)

-- ---- chains

abbrev chains_1_world : World
chains_1_world =
    world 8 12
    ((0, hex (codes "5453444348414e3100000000010000000200000063"))
    ∷ (1, hex (codes "5453444348414e3104000000f0010000") ++ (replicate 495 0x88 ++ hex (codes "42")))
    ∷ (2, hex (codes "5453444348414e3102000000f0010000") ++ (replicate 495 0x24 ++ hex (codes "88")))
    ∷ (3, hex (codes "5453444348414e3105000000f0010000") ++ replicate 496 0x42)
    ∷ (4, hex (codes "5453444348414e31000000000f000000") ++ replicate 15 0x42)
    ∷ [])
    ((0, 2) ∷ (1, 3) ∷ (2, 1) ∷ (3, 4) ∷ [])

pub chains_1 :
    (tree_at Chain chains_1_world 0 ≡ a_dir tt (file (codes "c") (replicate 495 0x24 ++ (replicate 496 0x88 ++ replicate 512 0x42)) none))
    × ((step_at Chain chains_1_world 0 (ask.Cat (codes "a" ∷ codes "b" ∷ []))).answer ≡ refused no.NoEntry)
chains_1 = (refl, refl)

abbrev chains_2_world : World
chains_2_world =
    world 8 12
    ((0, hex (codes "5453444348414e3100000000010000000200000063") ++ (replicate 27 0x00 ++ hex (codes "03")))
    ∷ (1, hex (codes "5453444348414e3104000000f0010000") ++ (replicate 495 0x88 ++ hex (codes "42")))
    ∷ (2, hex (codes "5453444348414e3102000000f0010000") ++ (replicate 495 0x24 ++ hex (codes "88")))
    ∷ (3, hex (codes "5453444348414e3105000000f0010000") ++ replicate 496 0x42)
    ∷ (4, hex (codes "5453444348414e31000000000f000000") ++ replicate 15 0x42)
    ∷ [])
    ((0, 2) ∷ (1, 3) ∷ (2, 1) ∷ (3, 4) ∷ [])

pub chains_2 : tree_at Chain chains_2_world 0 ≡ a_dir tt (file (codes "c") (replicate 495 0x24 ++ (replicate 496 0x88 ++ replicate 512 0x42)) none)
chains_2 = refl

abbrev chains_3_world : World
chains_3_world =
    world 8 32
    ((0, hex (codes "5453444348414e3100000000010000000100000042"))
    ∷ (1, hex (codes "5453444348414e3103000000f0010000") ++ replicate 496 0x73)
    ∷ (2, hex (codes "5453444348414e310000000011000000") ++ replicate 17 0x73)
    ∷ [])
    ((0, 1) ∷ (1, 2) ∷ [])

pub chains_3 :
    (tree_at Chain chains_3_world 0 ≡ a_dir tt (file (codes "B") (replicate 513 0x73) none))
    × ((step_at Chain chains_3_world 0 (ask.Rm (codes "B" ∷ []))).answer ≡ done)
chains_3 = (refl, refl)

abbrev chains_4_world : World
chains_4_world =
    world 8 12
    ((0, hex (codes "5453444348414e3100000000010000000100000061"))
    ∷ (1, hex (codes "5453444348414e3103000000f0010000cccccc") ++ replicate 493 0x2c)
    ∷ (2, hex (codes "5453444348414e3100000000020000002c2c"))
    ∷ [])
    ((0, 1) ∷ (1, 2) ∷ [])

pub chains_4 :
    (tree_at Chain chains_4_world 0 ≡ a_dir tt (file (codes "a") (hex (codes "cccccc") ++ replicate 495 0x2c) none))
    × ((step_at Chain chains_4_world 0 (ask.Rm (codes "a" ∷ []))).answer ≡ done)
chains_4 = (refl, refl)

abbrev chains_5_world : World
chains_5_world =
    world 8 7
    ((0, hex (codes "5453444348414e3100000000010000000500000061"))
    ∷ (5, hex (codes "5453444348414e3107000000f0010000") ++ replicate 496 0x6e)
    ∷ (6, hex (codes "5453444348414e3108000000f0010000") ++ replicate 496 0x6e)
    ∷ (7, hex (codes "5453444348414e310000000026000000") ++ replicate 38 0x6e)
    ∷ [])
    ((0, 5) ∷ (5, 6) ∷ (6, 7) ∷ [])

pub chains_5 :
    (tree_at Chain chains_5_world 0 ≡ a_dir tt (file (codes "a") (replicate 1030 0x6e) none))
    × ((step_at Chain chains_5_world 0 (ask.Rm (codes "a" ∷ []))).answer ≡ done)
chains_5 = (refl, refl)

abbrev chains_6_world : World
chains_6_world =
    world 8 7
    ((0, hex (codes "5453444348414e3100000000010000000500000061"))
    ∷ (5, hex (codes "5453444348414e3107000000f00100006e6e6e6e01") ++ replicate 491 0x6e)
    ∷ (6, hex (codes "5453444348414e3108000000f0010000") ++ replicate 496 0x6e)
    ∷ (7, hex (codes "5453444348414e310000000026000000") ++ replicate 38 0x6e)
    ∷ [])
    ((0, 5) ∷ (5, 6) ∷ (6, 7) ∷ [])

pub chains_6 : tree_at Chain chains_6_world 0 ≡ a_dir tt (file (codes "a") (hex (codes "6e6e6e6e01") ++ replicate 1025 0x6e) none)
chains_6 = refl

abbrev chains_7_world : World
chains_7_world =
    world 8 32
    ((0, hex (codes "5453444348414e3100000000010000000100000063"))
    ∷ (1, hex (codes "5453444348414e3103000000f0010000f0f0f0") ++ replicate 493 0x8a)
    ∷ (2, hex (codes "5453444348414e3104000000f0010000") ++ replicate 496 0x8a)
    ∷ (3, hex (codes "5453444348414e310000000029000000") ++ replicate 41 0x8a)
    ∷ [])
    ((0, 1) ∷ (1, 2) ∷ (2, 3) ∷ [])

pub chains_7 :
    (tree_at Chain chains_7_world 0 ≡ a_dir tt (file (codes "c") (hex (codes "f0f0f0") ++ replicate 1030 0x8a) none))
    × ((step_at Chain chains_7_world 0 (ask.Ls (codes "c" ∷ []))).answer ≡ refused no.NotDir)
chains_7 = (refl, refl)

abbrev chains_8_world : World
chains_8_world =
    world 8 32
    ((0, hex (codes "5453444348414e3100000000010000000100000063"))
    ∷ (1, hex (codes "5453444348414e3103000000f0010000f0f0f0") ++ replicate 493 0x8a)
    ∷ (2, hex (codes "5453444348414e3104000000f0010000") ++ replicate 496 0x8a)
    ∷ (3, hex (codes "5453444348414e310000000029000000") ++ replicate 41 0x8a)
    ∷ [])
    ((0, 1) ∷ (1, 2) ∷ (2, 3) ∷ [])

pub chains_8 : tree_at Chain chains_8_world 0 ≡ a_dir tt (file (codes "c") (hex (codes "f0f0f0") ++ replicate 1030 0x8a) none)
chains_8 = refl

abbrev chains_9_world : World
chains_9_world =
    world 12 7
    ((0, hex (codes "5453444348414e3100000000010000000100000063"))
    ∷ (1, hex (codes "5453444348414e3103000000f0010000") ++ replicate 496 0x92)
    ∷ (2, hex (codes "5453444348414e310000000014000000") ++ (replicate 17 0x92 ++ hex (codes "f3f3f3")))
    ∷ [])
    ((0, 1) ∷ (1, 2) ∷ [])

pub chains_9 :
    (tree_at Chain chains_9_world 0 ≡ a_dir tt (file (codes "c") (replicate 513 0x92 ++ hex (codes "f3f3f3")) none))
    × ((step_at Chain chains_9_world 0 (ask.Cat (codes "c" ∷ []))).answer ≡ bytes (replicate 513 0x92 ++ hex (codes "f3f3f3")))
chains_9 = (refl, refl)

abbrev chains_10_world : World
chains_10_world =
    world 8 7
    ((0, hex (codes "5453444348414e3100000000020000000100000061") ++ (replicate 27 0x00 ++ hex (codes "0200000042")))
    ∷ (1, hex (codes "5453444348414e3100000000ef010000") ++ replicate 495 0x2e)
    ∷ (2, hex (codes "5453444348414e3104000000f0010000") ++ replicate 496 0xae)
    ∷ (3, hex (codes "5453444348414e3105000000f0010000") ++ (replicate 17 0xae ++ replicate 479 0x11))
    ∷ (4, hex (codes "5453444348414e310000000010000000") ++ replicate 16 0x11)
    ∷ [])
    ((0, 1) ∷ (0, 2) ∷ (2, 3) ∷ (3, 4) ∷ [])

pub chains_10 :
    (tree_at Chain chains_10_world 0 ≡ a_dir tt (file (codes "B") (replicate 513 0xae ++ replicate 495 0x11) (file (codes "a") (replicate 495 0x2e) none)))
    × ((step_at Chain chains_10_world 0 (ask.Put (codes "b" ∷ []) (replicate 513 0xc4))).answer ≡ done)
chains_10 = (refl, refl)

abbrev chains_11_world : World
chains_11_world =
    world 8 7
    ((0, hex (codes "5453444348414e3100000000010000000100000061"))
    ∷ (1, hex (codes "5453444348414e3103000000f0010000") ++ replicate 496 0x67)
    ∷ (2, hex (codes "5453444348414e31000000000100000067"))
    ∷ [])
    ((0, 1) ∷ (1, 2) ∷ [])

pub chains_11 :
    (tree_at Chain chains_11_world 0 ≡ a_dir tt (file (codes "a") (replicate 497 0x67) none))
    × ((step_at Chain chains_11_world 0 (ask.Append (codes "a" ∷ []) (replicate 497 0xa8))).answer ≡ done)
chains_11 = (refl, refl)

abbrev chains_12_world : World
chains_12_world =
    world 8 12
    ((0, hex (codes "5453444348414e3100000000010000000100000042"))
    ∷ (1, hex (codes "5453444348414e3104000000f0010000") ++ replicate 496 0x91)
    ∷ (3, hex (codes "5453444348414e31000000000100000091"))
    ∷ [])
    ((0, 1) ∷ (1, 3) ∷ [])

pub chains_12 :
    (tree_at Chain chains_12_world 0 ≡ a_dir tt (file (codes "B") (replicate 497 0x91) none))
    × ((step_at Chain chains_12_world 0 ask.Df).answer ≡ available 5)
chains_12 = (refl, refl)
