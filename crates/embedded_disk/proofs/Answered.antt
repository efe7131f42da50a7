-- From what the loop over an input promises to what became of the frames of one call.
use Rattle.std.specs.Prelude.{⊤}
use Rattle.std.proofs.Common.{arith, ◌≡◌, ◌≢◌, ◌≤◌, ◌++◌, ◌^◌, ℕ, List, [], length, take, inl, inr, sym, ◌∙◌, ap, refl, subst}
use Rattle.std.proofs.lemmas.List.{append-nil}
use Rattle.image_device.specs.Counts.{Rose}
use Rattle.tsd_model.specs.declared.requests.Request.{Request}
use Rattle.tsd_words.specs.declared.status.Status.{Status}
use Rattle.tsd_words.specs.declared.status.Status.TheVariants as status
use Rattle.serving.specs.FrameSpelling.{frame_spelling}
use Rattle.serving.specs.ModelRules.{Placed}
use Rattle.serving.specs.Ran.{Ends, Moments, Taking}
use Rattle.image_runs.specs.Server.{disk_work}
use Rattle.embedded_disk.specs.Calls.{AllAnswered, AnsweredFrames, Applied, FrontAnswered, framed_disk, shown}

abbrev IsNoMemory : Status → Type 0
IsNoMemory status.NoMemory = ⊤
IsNoMemory r = ⊥

no_room : (r : Status) → r ≡ status.NoMemory → IsNoMemory r
no_room r e = subst IsNoMemory (sym e) tt

-- what is said of these requests is said of those
of_asked : (r : Status) (before final : Placed) (due : ℕ) (port : Moments) (asked these : List Request)
    → asked ≡ these → Ends r framed_disk disk_work before final due port.old port.new asked
    → Ends r framed_disk disk_work before final due port.old port.new these
of_asked r before final due port asked these e ends =
    subst (λ qs. Ends r framed_disk disk_work before final due port.old port.new qs) e ends

module _ (before final : Placed) (source : Taking) (due : ℕ) (port : Moments) (frames left : List ℕ)
    (came : (x : List ℕ) → source.came x → frames ≡ x ++ left) (never : source.at_end → ⊥) where
  -- all of the frames came, since the source had no more
  all : left ≡ [] → Applied status.SourceFault before final source due port → AllAnswered frames before final due port
  all e applied = elim applied [
    | inl bare ↦ absurd (no_room status.SourceFault bare.memory)
    | inr ran ↦
        let same : frames ≡ ran.bytes = came ran.bytes ran.came_in ∙ ap (λ l. ran.bytes ++ l) e
        ∙ append-nil ran.bytes in
        record {
          few = subst (λ l. length l ≤ 2 ^ 40) (sym same) ran.these.0;
          ends = λ tells. of_asked status.SourceFault before final due port ran.asked
              (frame_spelling.requests frames) (ran.these.1 ∙ ap frame_spelling.requests (sym same))
              (ran.ends tells);
        }
  ]

  device : Applied status.DeviceFault before final source due port
      → FrontAnswered status.DeviceFault frames before final due port
  device applied = elim applied [
    | inl bare ↦ absurd (no_room status.DeviceFault bare.memory)
    | inr ran ↦ elim ran.these [
      | inl these ↦ record {
        front = ran.bytes;
        rest = left;
        parts = came ran.bytes ran.came_in;
        ends = λ tells. of_asked status.DeviceFault before final due port ran.asked
            (frame_spelling.requests (take (2 ^ 40) ran.bytes)) these (ran.ends tells);
      }
      | inr ended ↦ absurd (never ended.1)
    ]
  ]

  cut_off : Applied status.PutFault before final source due port
      → FrontAnswered status.PutFault frames before final due port
  cut_off applied = elim applied [
    | inl bare ↦ absurd (no_room status.PutFault bare.memory)
    | inr ran ↦ elim ran.these [
      | inl these ↦ record {
        front = ran.bytes;
        rest = left;
        parts = came ran.bytes ran.came_in;
        ends = λ tells. of_asked status.PutFault before final due port ran.asked
            (frame_spelling.requests (take (2 ^ 40) ran.bytes)) these (ran.ends tells);
      }
      | inr ended ↦ absurd (never ended.1)
    ]
  ]

  too_long : Applied status.TooLong before final source due port
      → FrontAnswered status.TooLong frames before final due port
  too_long applied = elim applied [
    | inl bare ↦ absurd (no_room status.TooLong bare.memory)
    | inr ran ↦ record {
      front = ran.bytes;
      rest = left;
      parts = came ran.bytes ran.came_in;
      ends = λ tells. of_asked status.TooLong before final due port ran.asked
          (frame_spelling.requests (take (2 ^ 40) ran.bytes)) ran.these.1 (ran.ends tells);
    }
  ]

  pub answered : (r : Status) → (r ≡ status.SourceFault → left ≡ []) → Applied r before final source due port
      → AnsweredFrames (shown r) frames before final due port
  answered status.Done nothing applied = elim applied [
    | inl bare ↦ absurd (no_room status.Done bare.memory)
    | inr ran ↦ absurd (never ran.these.1)
  ]
  answered status.Usage nothing applied = elim applied [
    | inl bare ↦ no_room status.Usage bare.memory
    | inr ran ↦ ran.these
  ]
  answered (status.NotImage why) nothing applied = elim applied [
    | inl bare ↦ no_room (status.NotImage why) bare.memory
    | inr ran ↦ ran.these
  ]
  answered status.DeviceFault nothing applied = device applied
  answered status.SourceFault nothing applied = all (nothing refl) applied
  answered status.PutFault nothing applied = cut_off applied
  answered status.TooLong nothing applied = too_long applied
  answered status.NoMemory nothing applied = elim applied [
    | inl bare ↦ bare.unused
    | inr ran ↦ absurd ran.these
  ]
  answered status.Truncated nothing applied = elim applied [
    | inl bare ↦ no_room status.Truncated bare.memory
    | inr ran ↦ never ran.these.1
  ]
  answered (status.RootDenied level) nothing applied = elim applied [
    | inl bare ↦ no_room (status.RootDenied level) bare.memory
    | inr ran ↦ ran.these
  ]

-- a count that rose from nothing is something
pub some_faults : (a b : ℕ) → a ≡ 0 → Rose a b → b ≢ 0
some_faults a b e rose z = let one : Rose 0 0 = subst (λ n. Rose 0 n) z (subst (λ n. Rose n b) e rose) in omega arith
