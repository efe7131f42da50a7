-- What holds while blocks are looked at one after the other.
use Rattle.std.proofs.Common.{◌≡◌, ℕ, ◌+◌, ◌<◌, ◌≤◌, Bool, true, false, cond, List, length, sym, ◌∙◌, ap, subst, Option, None, Ok}
use Rattle.inode_fs.proofs.Common.{drop, slice_index, option_and_then, has_number, DiskView, IsValidNow, Client, MayWrite, Looked, OnlyLooks, may_again, drop_at, drop_end, is_inode, MarksInode, Seen, holds, Marks, Come, with_data, come_data, come_each, come_from, IsMarkedAs, Comes, NamesData, Noted, IsInodeSeen, names_at}
use Rattle.inode_fs.proofs.SeeLaws.{comes_none, comes_some, none_of, some_of, agrees_data, noted_on, noted_inode}

-- after i of these blocks: so they are looked at, where `come` tells what the others come to
pub record Looping (told : Type 0) (c : Client) (first now : DiskView) (bs : List ℕ) (come : List ℕ → Come → Option Come) (i : ℕ) (begun m : Marks) : Type 0 where
  pub looks : OnlyLooks {X = Unit {0}} told first now (Ok tt)
  pub may : told → (b : ℕ) → has_number bs b ≡ true → MayWrite c now b
  pub noted : told → Noted c now m
  pub comes : told → (s : Come) → IsMarkedAs begun s → (t : Come) × IsMarkedAs m t × (come bs s ≡ come (drop i bs) t)

-- what may be written still may
pub may_still : (c : Client) (now new : DiskView) (bs : List ℕ) {X : Type 0} (told : Type 0) (x : X) (t : told) → OnlyLooks told now new (Ok x) → IsValidNow now → ((b : ℕ) → has_number bs b ≡ true → MayWrite c now b) → (b : ℕ) → has_number bs b ≡ true → MayWrite c new b
may_still c now new bs told x t looks valid may b h = may_again c now new b (looks.looked t).0 looks.stays.0 valid (may b h)

-- ---- of a file

data_next : (bs : List ℕ) (i : ℕ) (t : Come) → i < length bs → come_data (drop i bs) t ≡ cond (has_number t.inodes (slice_index bs i)) None (come_data (drop (i + 1) bs) (with_data t (slice_index bs i)))
data_next bs i t h = ap (λ xs. come_data xs t) (drop_at bs i h)

module _ (bs : List ℕ) (i : ℕ) (begun m : Marks) (comes : (s : Come) → IsMarkedAs begun s → (t : Come) × IsMarkedAs m t × (come_data bs s ≡ come_data (drop i bs) t)) where
  pub data_on : (next : Marks) → i < length bs → is_inode m (slice_index bs i) ≡ false → NamesData m next (slice_index bs i) → (s : Come) → IsMarkedAs begun s → (t : Come) × IsMarkedAs next t × (come_data bs s ≡ come_data (drop (i + 1) bs) t)
  data_on next h new marks s agrees =
      let so = comes s agrees in
      let b = slice_index bs i in
      let no : has_number so.0.inodes b ≡ false = sym (so.1.inodes b) ∙ new in
      (with_data so.0 b, agrees_data m next so.0 b so.1 marks, so.2 ∙ (data_next bs i so.0 h ∙ ap (λ u. cond u None (come_data (drop (i + 1) bs) (with_data so.0 b))) no))

  pub data_stops : i < length bs → is_inode m (slice_index bs i) ≡ true → (s : Come) → IsMarkedAs begun s → Comes m (come_data bs s) false
  data_stops h old s agrees =
      let so = comes s agrees in
      let b = slice_index bs i in
      let yes : has_number so.0.inodes b ≡ true = sym (so.1.inodes b) ∙ old in
      comes_none m (come_data bs s) (so.2 ∙ (data_next bs i so.0 h ∙ ap (λ u. cond u None (come_data (drop (i + 1) bs) (with_data so.0 b))) yes))

  pub data_ends : length bs ≤ i → (s : Come) → IsMarkedAs begun s → Comes m (come_data bs s) true
  data_ends h s agrees =
      let so = comes s agrees in
      comes_some m (come_data bs s) so.0 (so.2 ∙ ap (λ xs. come_data xs so.0) (drop_end bs i h)) so.1

-- ---- of a directory

each_next : (visit : ℕ → Come → Option Come) (bs : List ℕ) (i : ℕ) (t : Come) → i < length bs → come_each visit (drop i bs) t ≡ option_and_then (come_each visit (drop (i + 1) bs)) (visit (slice_index bs i) t)
each_next visit bs i t h = ap (λ xs. come_each visit xs t) (drop_at bs i h)

module _ (visit : ℕ → Come → Option Come) (bs : List ℕ) (i : ℕ) (begun m : Marks) (comes : (s : Come) → IsMarkedAs begun s → (t : Come) × IsMarkedAs m t × (come_each visit bs s ≡ come_each visit (drop i bs) t)) where
  pub each_on : (next : Marks) → i < length bs → ((t : Come) → IsMarkedAs m t → Comes next (visit (slice_index bs i) t) true) → (s : Come) → IsMarkedAs begun s → (t : Come) × IsMarkedAs next t × (come_each visit bs s ≡ come_each visit (drop (i + 1) bs) t)
  each_on next h right s agrees =
      let so = comes s agrees in
      let one = some_of next (visit (slice_index bs i) so.0) (right so.0 so.1) in
      (one.0, one.2, so.2 ∙ (each_next visit bs i so.0 h ∙ ap (option_and_then (come_each visit (drop (i + 1) bs))) one.1))

  pub each_stops : (next : Marks) → i < length bs → ((t : Come) → IsMarkedAs m t → Comes next (visit (slice_index bs i) t) false) → (s : Come) → IsMarkedAs begun s → Comes next (come_each visit bs s) false
  each_stops next h wrong s agrees =
      let so = comes s agrees in
      comes_none next (come_each visit bs s) (so.2 ∙ (each_next visit bs i so.0 h ∙ ap (option_and_then (come_each visit (drop (i + 1) bs))) (none_of next (visit (slice_index bs i) so.0) (wrong so.0 so.1))))

  pub each_ends : length bs ≤ i → (s : Come) → IsMarkedAs begun s → Comes m (come_each visit bs s) true
  each_ends h s agrees =
      let so = comes s agrees in
      comes_some m (come_each visit bs s) so.0 (so.2 ∙ ap (λ xs. come_each visit xs so.0) (drop_end bs i h)) so.1

-- ---- an inode's own mark

pub noted_seen : (c : Client) (old new : DiskView) (m next : Marks) (b : ℕ) (seen : Seen) → Noted c old m → Looked old new → IsInodeSeen c old new b seen → b < 1048576 → MarksInode m next b seen.has_others → Noted c new next
noted_seen c old new m next b seen noted looked is small marks =
    noted_inode c new m next b seen.has_others small (noted_on c old new m looked noted) marks is.held
    (λ clean d h. ap (λ w. has_number (names_at w b) d) looked.world ∙ is.others clean d (ap (λ w. holds w.pairs b d) (sym looked.world) ∙ h))

-- what a call that goes on tells, of the same world and block
pub told_as : (v first : DiskView) (levels k b : ℕ) (next : Marks) (m : Marks) (field result : Bool) → v.world ≡ first.world → k ≡ b → field ≡ result
    → ((s : Come) → IsMarkedAs m s → Comes next (come_from v.world levels k s) field) → (s : Come) → IsMarkedAs m s → Comes next (come_from first.world levels b s) result
told_as v first levels k b next m field result world block test h s agrees =
    subst (λ r. Comes next (come_from first.world levels b s) r) test (subst (λ x. Comes next (come_from first.world levels x s) field) block (subst (λ w. Comes next (come_from w levels k s) field) world (h s agrees)))
