-- What all requests of an ask leave of the device below.
use Rattle.std.proofs.Common.{◌≡◌, inl, inr, ℕ, false, List, [], ◌∷◌, Some, None, refl, sym, ◌∙◌, ap, subst, arith}
use Rattle.gathered_tasks.proofs.Common.{AllHaveRoom, AllWentBelow, Geometry, Image, IsBegun, IsFirm, IsGood, IsLeftNow, IsOfSince, IsSound, LeavesOnly, LeavesPart, PlaceKind, Stands, StandsForAny, There, View, WasWorld, WentBelow, World, behind, blocks_view, firm_image, held_world, joined, part_then, there, weakened, world_after, world_below, world_of}
use Rattle.fs_port.specs.Calls.{LeavesWorldsOnly}
use Rattle.core_blocks.proofs.ImageLaws.{IsImageOf}
use Rattle.gathered_tasks.specs.declared.asked.Before.{Before}

module _ {T : Type 0} (view : T → View) (kind : PlaceKind) (start : View) (sound : (d : T) → IsSound (view d)) (firm : IsFirm start) (good : IsGood start.reads) (P : World → Type 0) where
  -- what is known of the device behind some requests
  record Below (here : There T) : Type 0 where
    sent : (view here.dev).sent ≡ start.sent
    leaves : LeavesOnly start (view here.dev) (IsImageOf P start.sent)
    aside : LeavesPart (behind here.core.volume.tables.geometry) start (view here.dev)
    base : here.core.volume.is_spent ≡ false → P (world_below view here.dev)

  begun_below : (here : There T) → IsBegun view start here → (here.core.volume.is_spent ≡ false → P (held_world view here.room here.dev)) → Below here
  begun_below here begun has = record {
    sent = begun.rested.sent;
    leaves = weakened start (view here.dev) (IsLeftNow start) (IsImageOf P start.sent) begun.rested.leaves
        (λ x f now. (world_of start.reads, subst (λ (y : Image). Stands y (world_of start.reads)) (sym (firm_image start firm x f now)) (record { good = good; world = refl }), at_start, now.1));
    aside = weakened start (view here.dev) (IsLeftNow start) (λ x f. behind here.core.volume.tables.geometry x ≡ behind here.core.volume.tables.geometry start.reads) begun.rested.leaves
        (λ x f now. ap (behind here.core.volume.tables.geometry) (firm_image start firm x f now));
    base = λ fine. on_device;
  }
    where
      on_device : P (world_below view here.dev)
      on_device = subst P (sym begun.same) (has begun.unspent)

      at_start : P (world_of start.reads)
      at_start = subst (λ (x : Image). P (world_of x)) begun.rested.reads on_device

  one_below : (b : Before T) (here : There T) → Below (there b) → WentBelow view kind b here → P (held_world view b.room b.dev) → P (world_after view kind b)
      → (here.core.volume.is_spent ≡ false → P (held_world view here.room here.dev)) → Below here
  one_below b here so_far went was next now = record {
    sent = went.sent ∙ so_far.sent;
    leaves =
        joined start (view b.dev) (view here.dev) (IsImageOf P start.sent) (λ x f. StandsForAny (world_below view b.dev) (held_world view b.room b.dev) (world_after view kind b) x × (f ≡ (view b.dev).sent)) so_far.leaves went.leaves
        (λ x f left. elim left.0 [
          | inl is ↦ (world_below view b.dev, is, so_far.base went.unspent, left.1 ∙ so_far.sent)
          | inr (inl is) ↦ (held_world view b.room b.dev, is, was, left.1 ∙ so_far.sent)
          | inr (inr is) ↦ (world_after view kind b, is, next, left.1 ∙ so_far.sent)
        ]);
    aside =
        subst (λ (g : Geometry). LeavesPart (behind g) start (view here.dev)) (sym went.size.geometry)
        (part_then (behind b.core.volume.tables.geometry) start (view b.dev) (view here.dev) (sound b.dev) so_far.aside went.behind);
    base = λ fine. elim (went.base fine) [
      | inl is ↦ subst P (sym is) (so_far.base went.unspent)
      | inr (inl is) ↦ subst P (sym is) was
      | inr (inr is) ↦ subst P (sym is) (now fine)
    ];
  }

  all_below : (bs : List (Before T)) (here : There T) → AllWentBelow view kind start bs here → ((u : World) → IsOfSince view kind 0 bs u → P u)
      → (here.core.volume.is_spent ≡ false → P (held_world view here.room here.dev)) → Below here
  all_below [] here begun of now = begun_below here begun now
  all_below (b ∷ bs) here went of now =
      let was : P (held_world view b.room b.dev) = of (held_world view b.room b.dev) (inl (omega arith, inl refl)) in
      one_below b here (all_below bs (there b) went.1 (λ u is. of u (inr is)) (λ fine. was)) went.0 was (of (world_after view kind b) (inl (omega arith, inr refl))) now

-- where what was gathered has room for each request, the device isn't written
all_quiet : {T : Type 0} (view : T → View) (kind : PlaceKind) (start : View) (bs : List (Before T)) (here : There T) → AllWentBelow view kind start bs here → AllHaveRoom view bs → (view here.dev).writes ≡ start.writes
all_quiet view kind start [] here begun room = begun.writes
all_quiet view kind start (b ∷ bs) here went room = went.0.quiet room.0 ∙ all_quiet view kind start bs (there b) went.1 room.1

module _ {T : Type 0} (view : T → View) (l m : ℕ × ℕ) (kind placed : PlaceKind) (start : View) (begin now : There T) (bs : List (Before T)) (sound : (d : T) → IsSound (view d)) (firm : IsFirm start) (good : IsGood start.reads)
    (begun : IsBegun view start begin) where
  module _ (P : World → Type 0) (leaves : LeavesWorldsOnly (blocks_view view l kind start begin []) (blocks_view view m placed start now bs) P) where
    -- each world that it had has P
    has : (u : World) → WasWorld view placed 0 now bs u → P u
    has u was =
        let found = leaves.each (record { image = start.reads; world = Some u }) (view now.dev).sent (u, refl, was, refl) in
        subst P (same u found.0 found.1) found.2
      where
        same : (u w : World) → Some u ≡ Some w → w ≡ u
        same u w e = cc

    -- what the requests did to the device
    pub went : AllWentBelow view placed start bs now
    went = leaves.keeps 0 (record { image = start.reads; world = None }) [] (omega arith) begun

    below : Below view placed start sound firm good P now
    below = all_below view placed start sound firm good P bs now went (λ u is. has u (inr is)) (λ fine. has (held_world view now.room now.dev) (inl (fine, refl)))

    -- A crash leaves an image of a world that has P.
    pub asks_leave : LeavesOnly start (view now.dev) (IsImageOf P start.sent)
    asks_leave = below.leaves

    -- so has the world on the device, and the one in memory
    pub asks_base : now.core.volume.is_spent ≡ false → P (world_below view now.dev)
    asks_base = below.base

    pub asks_held : now.core.volume.is_spent ≡ false → P (held_world view now.room now.dev)
    asks_held fine = has (held_world view now.room now.dev) (inl (fine, refl))

    -- What lies behind the image stays.
    pub asks_aside : LeavesPart (behind now.core.volume.tables.geometry) start (view now.dev)
    asks_aside = below.aside

    -- Where what was gathered had room for each request, the device isn't written.
    pub asks_quiet : AllHaveRoom view bs → (view now.dev).writes ≡ start.writes
    asks_quiet room = all_quiet view placed start bs now went room
