-- What an append answers, by the refusal that applies first.
use Rattle.std.proofs.Common.{◌≡◌, ℕ, ◌+◌, true, false, not, nat_lt, List, [], ◌∷◌, length, refl, ◌∙◌, ap, Option, Some, None}
use Rattle.inode_changes.proofs.Common.{div_ceil, block_len, Geometry, Path, Tree, nothing, a_file, a_dir, at, is_there, is_file, is_dir, bytes_in, data_room, RoomNeed, when, first_of, lost_on_the_way, missing, no_file, too_big, no_room, refusal, FsRefusal, is_mounted, lookup_refusal}
use Rattle.fs_trees.specs.declared.ask.ShellAsk.TheVariants as ask
use Rattle.fs_trees.specs.declared.ask.ShellKind.TheVariants as kind
use Rattle.fs_trees.specs.declared.refusal.FsRefusal.TheVariants as no

-- what stands there is no directory, where it is a file
pub file_only : (x : Tree) → is_file x ≡ true → (is_there x ≡ true) × (is_dir x ≡ false)
file_only nothing h = absurd (cc)
file_only (a_file x) h = (refl, refl)
file_only (a_dir d es) h = absurd (cc)

pub dir_only : (x : Tree) → is_dir x ≡ true → is_there x ≡ true
dir_only nothing h = absurd (cc)
dir_only (a_file x) h = absurd (cc)
dir_only (a_dir d es) h = refl

module _ (g : Geometry) (t : Tree) (free held : ℕ) (n : RoomNeed) (root : is_dir t ≡ true) (x : List ℕ) where
  abbrev size : Path → ℕ
  size p = length (bytes_in (at t p)) + length x

  -- what is left behind the first test
  abbrev behind : Path → List (Option FsRefusal)
  behind p = missing t p ∷ no_file t p ∷ too_big kind.Inode g (length (bytes_in (at t p)) + length x) ∷ no_room g free held n

  pub append_lost : (p : Path) (e : FsRefusal) → lookup_refusal t p no.IsDir ≡ Some e → refusal kind.Inode g t free held n (ask.Append p x) ≡ Some e
  append_lost [] e h =
      is_mounted t (lost_on_the_way t [] ∷ behind []) (dir_only t root)
      ∙ (ap (λ b. first_of (when (not b) no.NoEntry ∷ no_file t [] ∷ too_big kind.Inode g (size []) ∷ no_room g free held n)) (dir_only t root)
      ∙ (ap (λ b. first_of (when b no.IsDir ∷ too_big kind.Inode g (size []) ∷ no_room g free held n)) root ∙ h))
  append_lost (m ∷ ms) e h = is_mounted t (lost_on_the_way t (m ∷ ms) ∷ behind (m ∷ ms)) (dir_only t root) ∙ ap (λ o. first_of (o ∷ behind (m ∷ ms))) h

  append_way : (p : Path) → ◌≡◌ {A = Option FsRefusal} (lookup_refusal t p no.IsDir) None → refusal kind.Inode g t free held n (ask.Append p x) ≡ first_of (behind p)
  append_way [] h = absurd (cc)
  append_way (m ∷ ms) h = is_mounted t (lost_on_the_way t (m ∷ ms) ∷ behind (m ∷ ms)) (dir_only t root) ∙ ap (λ o. first_of (o ∷ behind (m ∷ ms))) h

  module _ (p : Path) (h : ◌≡◌ {A = Option FsRefusal} (lookup_refusal t p no.IsDir) None) where
    pub append_missing : is_there (at t p) ≡ false → refusal kind.Inode g t free held n (ask.Append p x) ≡ Some no.NoEntry
    append_missing k = append_way p h ∙ ap (λ b. first_of (when (not b) no.NoEntry ∷ no_file t p ∷ too_big kind.Inode g (size p) ∷ no_room g free held n)) k

    pub append_dir : is_dir (at t p) ≡ true → refusal kind.Inode g t free held n (ask.Append p x) ≡ Some no.IsDir
    append_dir k = append_way p h
        ∙ (ap (λ b. first_of (when (not b) no.NoEntry ∷ no_file t p ∷ too_big kind.Inode g (size p) ∷ no_room g free held n)) (dir_only (at t p) k)
        ∙ ap (λ b. first_of (when b no.IsDir ∷ too_big kind.Inode g (size p) ∷ no_room g free held n)) k)

    module _ (k : is_file (at t p) ≡ true) where
      on_file : refusal kind.Inode g t free held n (ask.Append p x) ≡ first_of (when (nat_lt (data_room (block_len g)) (div_ceil (length (bytes_in (at t p)) + length x) (block_len g))) no.TooBig ∷ no_room g free held n)
      on_file = append_way p h
          ∙ (ap (λ b. first_of (when (not b) no.NoEntry ∷ no_file t p ∷ too_big kind.Inode g (size p) ∷ no_room g free held n)) (file_only (at t p) k).0
          ∙ ap (λ b. first_of (when b no.IsDir ∷ too_big kind.Inode g (size p) ∷ no_room g free held n)) (file_only (at t p) k).1)

      pub append_big : nat_lt (data_room (block_len g)) (div_ceil (length (bytes_in (at t p)) + length x) (block_len g)) ≡ true → refusal kind.Inode g t free held n (ask.Append p x) ≡ Some no.TooBig
      append_big big = on_file ∙ ap (λ b. first_of (when b no.TooBig ∷ no_room g free held n)) big

      pub append_room : nat_lt (data_room (block_len g)) (div_ceil (length (bytes_in (at t p)) + length x) (block_len g)) ≡ false → refusal kind.Inode g t free held n (ask.Append p x) ≡ first_of (no_room g free held n)
      append_room fits = on_file ∙ ap (λ b. first_of (when b no.TooBig ∷ no_room g free held n)) fits
