-- Small steps of the look at an inode.
use Rattle.std.proofs.Common.{◌≡◌, ◌⊎◌, ◌<◌, ◌≤◌, ◌-◌, ℕ, suc, length, Bool, true, false, Some, sym, ◌∙◌, subst, inl, inr, Option, Result, Ok, Err}
use Rattle.inode_fs.proofs.Common.{or_left, or_right, IfOk, has_number, is_inode, is_data_block, Marks, Come, is_come, with_inode, IsMarkedAs, Comes, Client, DiskView, Inode, held_at, blocks_said, inode_of, MayWrite, Noted, Seen, IsValidNow, OnlyLooks, IsSeenAt, IsInodeSeen, MarksInode, on_disk, is_directory, come_as, come_data, come_each, come_from, slice_index}
use Rattle.inode_fs.proofs.SeeLaws.{comes_none, no_file, come_file, come_dir, not_come, agrees_inode, named_may}
use Rattle.inode_fs.proofs.LoopLaws.{Looping, each_stops, each_ends, noted_seen}
use Rattle.fs_trees.specs.declared.refusal.FsRefusal.{FsRefusal}

-- what is marked is come to
pub seen_before : (m : Marks) (s : Come) (b : ℕ) → IsMarkedAs m s → (is_inode m b ≡ true) ⊎ (is_data_block m b ≡ true) → is_come s b ≡ true
seen_before m s b agrees h = elim h [
  | inl p ↦ or_left (has_number s.inodes b) _ (sym (agrees.inodes b) ∙ p)
  | inr q ↦ or_right (has_number s.inodes b) _ (sym (agrees.bytes b) ∙ q)
]

-- a file's result, of what was come to before
pub when_right : (next : Marks) (result : Result Bool FsRefusal) (m begun : Marks) (b : ℕ) (before after : Come → Option Come) → ((s : Come) → IsMarkedAs m s → IsMarkedAs begun (with_inode s b)) → ((s : Come) → IsMarkedAs m s → before s ≡ after (with_inode s b))
    → IfOk result (λ right. (s : Come) → IsMarkedAs begun s → Comes next (after s) right) → IfOk result (λ right. (s : Come) → IsMarkedAs m s → Comes next (before s) right)
when_right next (Ok right) m begun b before after on same h = λ s agrees. subst (λ o. Comes next o right) (sym (same s agrees)) (h (with_inode s b) (on s agrees))
when_right next (Err e) m begun b before after on same h = tt

-- ---- an inode was seen, and is marked

pub record AtInode (told : Type 0) (c : Client) (old new : DiskView) (m next : Marks) (b : ℕ) (i : Inode) : Type 0 where
  pub is : told → held_at old.world b ≡ Some i
  pub may : told → (d : ℕ) → has_number (blocks_said i) d ≡ true → MayWrite c new d
  pub noted : told → Noted c new next
  pub marks : told → (s : Come) → IsMarkedAs m s → IsMarkedAs next (with_inode s b)

pub at_inode : {told : Type 0} {c : Client} {old new : DiskView} {m next : Marks} {b : ℕ} {o : Option Seen} {seen : Seen} → (told → IsValidNow old) → (told → MayWrite c old b) → (told → Noted c old m) → OnlyLooks told old new (Ok o)
    → (told → IsSeenAt c old new b o) → o ≡ Some seen → MarksInode m next b seen.has_others → AtInode told c old new m next b (inode_of seen.found.inode)
at_inode {told} {c} {old} {new} {m} {next} {b} {o} {seen} valid may noted looks at same marks =
    let is : told → IsInodeSeen c old new b seen = λ t. (subst (IsSeenAt c old new b) same (at t)).0 in
    let small : told → b < 1048576 = λ t. on_disk old b (valid t) (may t).live in
    record {
      is = λ t. (is t).is;
      may = λ t. named_may c old new b (inode_of seen.found.inode) (looks.looked t).0.valid (may t) looks.stays.0 (looks.looked t).0 (is t).is (is t).held;
      noted = λ t. noted_seen c old new m next b seen (noted t) (looks.looked t).0 (is t) (small t) marks;
      marks = λ t s agrees. agrees_inode m next s b seen.has_others (small t) agrees marks;
    }

module _ {told : Type 0} {c : Client} {old new : DiskView} {m next : Marks} {b : ℕ} {i : Inode} (here : AtInode told c old new m next b i) (is_entry : Bool) (levels : ℕ) where
  -- a file where only a directory may be
  pub no_entry : is_entry ≡ false → is_directory i ≡ false → told → (s : Come) → IsMarkedAs m s → Comes next (come_as is_entry old.world levels b s) false
  no_entry e d t s agrees = comes_none next _ (no_file is_entry old.world b s i (here.is t) levels e d)

  module _ (deeper : levels ≡ suc (levels - 1)) (off : is_inode m b ≡ false) (no_data : is_data_block m b ≡ false) where
    pub right_file : (after : Marks) (r : Result Bool FsRefusal) → is_entry ≡ true → is_directory i ≡ false → (told → IfOk r (λ right. (s : Come) → IsMarkedAs next s → Comes after (come_data (blocks_said i) s) right))
        → told → IfOk r (λ right. (s : Come) → IsMarkedAs m s → Comes after (come_as is_entry old.world levels b s) right)
    right_file after r e d comes t = when_right after r m next b (come_as is_entry old.world levels b) (come_data (blocks_said i)) (here.marks t)
        (λ s agrees. come_file is_entry old.world b s i (here.is t) levels (levels - 1) deeper (not_come m s b agrees off no_data) e d) (comes t)

    module _ (is_dir : is_directory i ≡ true) {cur : DiskView} {marks : Marks} {p : ℕ} (going : Looping told c old cur (blocks_said i) (come_each (come_from old.world (levels - 1))) p next marks) where
      come_as_dir : (t : told) (s : Come) → IsMarkedAs m s → come_as is_entry old.world levels b s ≡ come_each (come_from old.world (levels - 1)) (blocks_said i) (with_inode s b)
      come_as_dir t s agrees = come_dir is_entry old.world b s i (here.is t) levels (levels - 1) deeper (not_come m s b agrees off no_data) is_dir

      pub dir_stops : (after : Marks) → p < length (blocks_said i) → (told → (s : Come) → IsMarkedAs marks s → Comes after (come_from old.world (levels - 1) (slice_index (blocks_said i) p) s) false)
          → told → (s : Come) → IsMarkedAs m s → Comes after (come_as is_entry old.world levels b s) false
      dir_stops after less wrong t s agrees = subst (λ o. Comes after o false) (sym (come_as_dir t s agrees))
          (each_stops (come_from old.world (levels - 1)) (blocks_said i) p next marks (going.comes t) after less (wrong t) (with_inode s b) (here.marks t s agrees))

      pub dir_ends : length (blocks_said i) ≤ p → told → (s : Come) → IsMarkedAs m s → Comes marks (come_as is_entry old.world levels b s) true
      dir_ends past t s agrees = subst (λ o. Comes marks o true) (sym (come_as_dir t s agrees))
          (each_ends (come_from old.world (levels - 1)) (blocks_said i) p next marks (going.comes t) past (with_inode s b) (here.marks t s agrees))
