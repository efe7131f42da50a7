-- The line of a copy that has ended, put.
use Rattle.std.proofs.Common.{◌≡◌, ◌⊎◌, inl, inr, ℕ, List, [], refl, sym, ◌∙◌, ap, subst, append-nil, Err}
use Rattle.image_shell.proofs.Common.{CopyFs, Image, IsFirm, IsGood, IsLeftInPut, IsPart, IsQuiet, IsSound, LeavesBehind, LeavesOnly, StandAlike, Stands, Status, View, behind, firm_image, joined, part_put, part_then, size_of_image, spared_start, weakened, world_of}
use Rattle.tsd_words.specs.declared.status.Status.TheVariants as status
use Rattle.image_copy.specs.Copied.{HasCopied, HasEnded, IsCopyEnding, IsLeftOfCopy, source, target}
use Rattle.image_copy.specs.Ends.{EndsAs, IsUnderWay}
use Rattle.image_copy.specs.Lines.{end_line}
use Rattle.image_copy.specs.Steps.{CarriesOut, IsLeftBy, IsLeftFrom, IsUnended}
use Rattle.image_copy.specs.declared.ending.CopyEnd.{CopyEnd}
use Rattle.image_shell.proofs.StartLaws.{alike_of, idle_behind, idle_moments}
use Rattle.image_copy.proofs.ImageLaws.{not_carried_out}

-- ---- what a crash leaves

module _ (words : CopyFs) (old : View) where
  -- with nothing sent
  pub silent : (x : Image) (s : List ℕ) → IsLeftFrom words old.reads x → s ≡ old.sent → IsLeftOfCopy words old x s
  silent x s (inl alike) none = inl (alike, none)
  silent x s (inr left) none = by left.1
    where
      by : IsLeftBy (source words) (target words) (world_of old.reads) x → IsLeftOfCopy words old x s
      by (inl stands) = inl (alike_of old.reads x left.0 stands, none)
      by (inr some) = inr (record { good = left.0; world = some.0; stands = some.1; way = way_of some.2 })
        where
          way_of : IsUnderWay (source words) (target words) (world_of old.reads) some.0 ⊎ ((e : CopyEnd) × EndsAs (source words) (target words) (world_of old.reads) e some.0)
              → (IsUnderWay (source words) (target words) (world_of old.reads) some.0 × (s ≡ old.sent)) ⊎ ((e : CopyEnd) × EndsAs (source words) (target words) (world_of old.reads) e some.0 × IsPart old.sent (end_line e) s)
          way_of (inl on) = inl (on, none)
          way_of (inr end) = inr (end.0, end.1, record { front = []; back = end_line end.0; sent = none ∙ sym (append-nil old.sent); whole = refl })

  pub silent_moments : (new : View) → LeavesOnly old new (λ x s. IsLeftFrom words old.reads x × (s ≡ old.sent)) → LeavesOnly old new (IsLeftOfCopy words old)
  silent_moments new any = weakened old new (λ x s. IsLeftFrom words old.reads x × (s ≡ old.sent)) (IsLeftOfCopy words old) any (λ x s left. silent x s left.0 left.1)

  -- while the line is put
  pub put_moments : (mid new : View) (e : CopyEnd) (text : List ℕ) → text ≡ end_line e → IsGood old.reads → HasEnded words old mid e → mid.sent ≡ old.sent → LeavesOnly old mid (λ x s. IsLeftFrom words old.reads x × (s ≡ old.sent)) → LeavesOnly mid new (IsLeftInPut text mid) → LeavesOnly old new (IsLeftOfCopy words old)
  put_moments mid new e text is good ended sent any putting =
      joined old mid new (IsLeftOfCopy words old) (IsLeftInPut text mid) (silent_moments mid any) putting
      (λ x s left. inr (record {
        good = good;
        world = ended.world;
        stands = subst (λ (y : Image). Stands y ended.world) (sym (firm_image mid ended.at_ease.firm x mid.sent (left.0, refl))) ended.at_ease.stands;
        way = inr (e, ended.ends, rw (← sent, ← is) left.1);
      }))

-- and behind the image
pub behind_put : (old mid new : View) (text : List ℕ) → IsSound mid → IsFirm mid → LeavesBehind old mid → LeavesOnly mid new (IsLeftInPut text mid) → LeavesBehind old new
behind_put old mid new text sound firm so_far putting = part_then (behind (size_of_image old.reads)) old mid new sound so_far (part_put (behind (size_of_image old.reads)) text mid new firm putting)

-- a put leaves the disk at ease
pub ended_still : (words : CopyFs) (old mid new : View) (e : CopyEnd) → HasEnded words old mid e → new.reads ≡ mid.reads → new.loose ≡ mid.loose → HasEnded words old new e
ended_still words old mid new e ended reads loose = record {
  world = ended.world;
  ends = ended.ends;
  at_ease = record {
    firm = λ n. ap (λ l. l n) loose ∙ ended.at_ease.firm n;
    stands = subst (λ (x : Image). Stands x ended.world) (sym reads) ended.at_ease.stands;
    quiet = subst IsQuiet (sym reads) ended.at_ease.quiet;
  };
}

-- ---- where it has no end

pub unended_copied : (words : CopyFs) (old new : View) (why : Status) → IsUnended why → new.sent ≡ old.sent → HasCopied why words old new
unended_copied words old new status.Done h sent = absurd h
unended_copied words old new status.PutFault h sent = absurd h
unended_copied words old new why h sent = sent

pub unended_ends : (why : Status) → IsUnended why → IsCopyEnding why
unended_ends (status.NotImage why) h = tt
unended_ends (status.RootDenied attained) h = tt
unended_ends status.NoMemory h = tt
unended_ends status.DeviceFault h = tt
unended_ends why h = absurd h

-- ---- nothing was called

pub idle_left : (words : CopyFs) (v : View) → IsSound v → IsFirm v → LeavesOnly v v (IsLeftOfCopy words v)
idle_left words v sound firm = weakened v v (λ x s. StandAlike v.reads x × (s ≡ v.sent)) (IsLeftOfCopy words v) (idle_moments v sound firm) (λ x s left. inl (left.0, left.1))

pub ruleset idle = (idle_left, idle_moments, idle_behind)

-- There was no memory for the room, and nothing was done.
pub nothing_done : (told : Type 0) (words : CopyFs) (v : View) → (told → IsSound v) → CarriesOut told words v v (Err status.NoMemory)
nothing_done told words v sound =
    not_carried_out told words v v status.NoMemory tt (λ t. tt) (λ t. refl) (λ t firm. idle_moments v (sound t) firm) (λ t foreign. record { writes = refl; reads = refl }) (λ t bad. spared_start v (sound t)) refl
    ((λ is. absurd (cc)), λ ne. refl) (λ t firm. idle_behind v (sound t) firm) (λ t out. absurd out)
