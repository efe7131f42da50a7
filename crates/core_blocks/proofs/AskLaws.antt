-- What one request of a core leaves, as an ask of a disk of blocks.
use Rattle.std.proofs.Common.{◌≡◌, ◌⊎◌, inl, inr, ⊎_elim, ℕ, ◌≤◌, true, List, refl, sym, ◌∙◌, ap, subst, arith}
use Rattle.core_blocks.proofs.Common.{Core, Counts, Err, Geometry, IfOk, Image, IsEitherSide, IsSound, LeavesPart, LeavesWorldsOnly, Ok, OnOk, PlaceKind, Result, SameSize, SaysWorld, Some, Stays, World, behind, core_view, no_first, part_at_end, says_one, second_moment_of, state_on, told_size, told_state, told_world}
use Rattle.tsd_model.specs.Sessions.{is_open}
use Rattle.tsd_model.specs.declared.requests.Request.{Request}
use Rattle.tsd_model.specs.declared.replies.Reply.{Reply}
use Rattle.image_device.specs.View.{View as DeviceView}
use Rattle.volume_laws.specs.Moments.{LeavesEither, StandsForEither}
use Rattle.volume_laws.specs.Volume.{world_on}
use Rattle.volume_laws.specs.Writes.{Works}
use Rattle.fs_port.specs.View.{Left}
use Rattle.tsd_model.specs.Needs.{is_steady}
use Rattle.fs_port.proofs.PlainLaws.{steady_records, steady_open}
use Rattle.tsd_core.specs.Applying.{IsToldAnswer, next_world}

module _ (lenders : ℕ × ℕ) (kind : PlaceKind) (old new : Core) (v w : DeviceView) (q : Request) where
  -- an image of the world before or of the one after says that world
  either_side : (x : Left) (f : List ℕ) → SaysWorld x.image x.world → StandsForEither (world_on v) (next_world kind (state_on old v.reads) q) x.image × (f ≡ v.sent)
      → (u : World) × (x.world ≡ Some u) × IsEitherSide (core_view lenders kind old v) q u × (f ≡ v.sent)
  either_side x f says left = elim left.0 [
    | inl before ↦ (world_on v, says_one x.image (world_on v) x.world before says, inl refl, left.1)
    | inr next ↦ (next_world kind (state_on old v.reads) q, says_one x.image (next_world kind (state_on old v.reads) q) x.world next says, inr refl, left.1)
  ]

  module _ (leaves : LeavesEither v w (next_world kind (state_on old v.reads) q)) (sound : IsSound w) (size : SameSize old new) (aside : LeavesPart (behind old.volume.tables.geometry) v w) where
    told_same : (told_world new).geometry ≡ (told_world old).geometry
    told_same = (told_size new.volume.tables).0 ∙ (size.geometry ∙ sym (told_size old.volume.tables).0)

    -- the same by the size that memory tells
    told_aside : LeavesPart (behind (told_world old).geometry) v w
    told_aside = subst (λ (g : Geometry). LeavesPart (behind g) v w) (sym (told_size old.volume.tables).0) aside

    same : behind (told_world old).geometry w.reads ≡ behind (told_world old).geometry v.reads
    same = part_at_end (behind (told_world old).geometry) v w sound told_aside

    back : (t : ℕ) (x : Image) (f : List ℕ) → t ≤ v.clock → w.left t x f ⊎ (behind (told_world new).geometry x ≡ behind (told_world new).geometry w.reads) → v.left t x f ⊎ (behind (told_world old).geometry x ≡ behind (told_world old).geometry v.reads)
    back t x f le (inl left) = told_aside.before t x f le left
    back t x f le (inr alike) = inr (subst (λ (g : Geometry). behind g x ≡ behind g w.reads) told_same alike ∙ same)

    forth : (t : ℕ) (x : Image) (f : List ℕ) → t ≤ v.clock → v.left t x f ⊎ (behind (told_world old).geometry x ≡ behind (told_world old).geometry v.reads) → w.left t x f ⊎ (behind (told_world new).geometry x ≡ behind (told_world new).geometry w.reads)
    forth t x f le (inl left) = inl (leaves.keeps t x f le left)
    forth t x f le (inr alike) = inr (subst (λ (g : Geometry). behind g x ≡ behind g w.reads) (sym told_same) (alike ∙ sym same))

    pub ask_leaves : w.sent ≡ v.sent → LeavesWorldsOnly (core_view lenders kind old v) (core_view lenders kind new w) (IsEitherSide (core_view lenders kind old v) q)
    ask_leaves sent = record {
      later = omega (arith, leaves.later);
      sent = sent;
      each = λ x f left. elim left [
        | inl h ↦ either_side x f h.says (leaves.each x.image f (subst (λ t. w.left t x.image f) (second_moment_of h.since v.clock h.moment) h.was_left))
        | inr e ↦ absurd (no_first e.since v.clock e.moment)
      ];
      before = λ t x f le left. elim left [
        | inl h ↦
            let early : h.since ≤ v.clock = omega (arith, le, h.moment.first) in
            ⊎_elim (λ was. inl (inl (record { since = h.since; moment = h.moment; was_left = was; says = h.says }))) (λ now. inr (either_side x f h.says now)) (leaves.before h.since x.image f early h.was_left)
        | inr e ↦
            let early : e.since ≤ v.clock = omega (arith, le, e.moment) in
            inl (inr (record { since = e.since; moment = e.moment; says_none = e.says_none; either = back e.since x.image f early e.either }))
      ];
      keeps = λ t x f le left. elim left [
        | inl h ↦
            let early : h.since ≤ v.clock = omega (arith, le, h.moment.first) in
            inl (record { since = h.since; moment = h.moment; was_left = leaves.keeps h.since x.image f early h.was_left; says = h.says })
        | inr e ↦
            let early : e.since ≤ v.clock = omega (arith, le, e.moment) in
            inr (record { since = e.since; moment = e.moment; says_none = e.says_none; either = forth e.since x.image f early e.either })
      ];
    }

  pub ask_stays : {E : Type 0} (result : Result Reply E) → is_steady q ≡ true → IfOk result (λ r. IsToldAnswer kind old q r new) → OnOk result (Stays (core_view lenders kind old v) (core_view lenders kind new w))
  ask_stays (Ok r) steady told = record {
    records = told.world.records ∙ steady_records kind (told_state old) q told.want steady;
    sessions = λ s. ap (λ u. is_open u s) told.sessions ∙ steady_open kind (told_state old) q told.want s steady;
  }
  ask_stays (Err e) steady told = tt

  pub ask_counts : SameSize old new → Works v w → Counts (core_view lenders kind old v) (core_view lenders kind new w)
  ask_counts size works = record {
    geometry = (told_size new.volume.tables).0 ∙ (size.geometry ∙ sym (told_size old.volume.tables).0);
    version = (told_size new.volume.tables).1 ∙ (size.version ∙ sym (told_size old.volume.tables).1);
    kind = refl;
    clock = omega (arith, works.clock);
    faults = works.faults;
    put_faults = works.put_faults;
    lenders = refl;
  }
