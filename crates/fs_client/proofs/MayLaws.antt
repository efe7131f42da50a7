-- What may be written after a request.
use Rattle.std.proofs.Common.{◌≡◌, ◌<◌, ◌≤◌, ℕ, true, refl, sym, ap, subst, ◌∙◌, inl, inr}
use Rattle.fs_client.proofs.Common.{slice_get, World, is_live, holds, kept_of, level_le, level_from, record_level, shown_level, Shown, Nothing, Key, Level, Request, attained_where, HoldsWrite, DiskView, state_of, IsValidNow, Stays, Client, shown_at, MayWrite, Went}
use Rattle.tsd_model.specs.declared.requests.Level.TheVariants as level

-- a block that is live still, and the sources of its pairs
pub may_still : (c : Client) (old new : DiskView) (b : ℕ) → new.world.geometry ≡ old.world.geometry → new.world.version ≡ old.world.version → new.world.records ≡ old.world.records
    → ((a : ℕ) → holds old.world.pairs a b ≡ true → holds new.world.pairs a b ≡ true) → ((s a : ℕ) → HoldsWrite (state_of old) s a → HoldsWrite (state_of new) s a) → is_live new.world b ≡ true → Stays old new → MayWrite c old b → MayWrite c new b
may_still c old new b size version records pairs ways lives stays may = record {
  number = may.number;
  begun = stays.sessions c.session ∙ may.begun;
  live = lives;
  attains = (attained_where new.world new.sessions c.session b (shown_at c b) level.Write refl).1
      (elim ((attained_where old.world old.sessions c.session b (shown_at c b) level.Write refl).0 may.attains) [
        | inl shown ↦ inl (subst (λ g. b < g.primaries) (sym size) shown.0, ap (level_le level.Write) (shown_same (shown_at c b)) ∙ shown.1)
        | inr held ↦ inr (
            let way = ways c.session held.1.0 (held.1.1, held.1.3, held.1.4) in
            (subst (λ g. g.primaries ≤ b) (sym size) held.0, (held.1.0, way.0, pairs held.1.0 held.1.2, way.1, way.2)))
      ]);
}
  where
    shown_same : (x : Shown) → shown_level new.world b x ≡ shown_level old.world b x
    shown_same Nothing = refl
    shown_same (Key k) = ap (λ rs. record_level (slice_get rs b) (kept_of new.world.version k)) records ∙ ap (λ n. record_level (slice_get old.world.records b) (kept_of n k)) version

pub held_live : (v : DiskView) → IsValidNow v → (s a : ℕ) → HoldsWrite (state_of v) s a → is_live v.world a ≡ true
held_live v now s a held = elim (now.fits.live s held.0 a) [
  | inl bare ↦ absurd (no_write (level_from v.sessions s held.0 a) bare held.2)
  | inr lives ↦ lives
]
  where
    no_write : (l : Level) → l ≡ level.Bare → level_le level.Write l ≡ true → ⊥
    no_write level.Bare e h = cc
    no_write level.Read e h = cc
    no_write level.Write e h = cc

pub may_after : (c : Client) (old new : DiskView) (q : Request) (a : ℕ) (after : World) → Went c old new q a after → IsValidNow old → after.version ≡ old.world.version → after.records ≡ old.world.records
    → ((x y : ℕ) → holds old.world.pairs x y ≡ true → holds after.pairs x y ≡ true) → ((b : ℕ) → is_live old.world b ≡ true → is_live after b ≡ true) → Stays old new → (b : ℕ) → MayWrite c old b → MayWrite c new b
may_after c old new q a after went now version records pairs lives stays b may =
    may_still c old new b (ap (λ w. w.geometry) went.world ∙ went.leads.geometry) (ap (λ w. w.version) went.world ∙ version) (ap (λ w. w.records) went.world ∙ records)
    (λ x h. ap (λ w. holds w.pairs x b) went.world ∙ pairs x b h)
    (λ s x held. went.ways s x held (lives x (held_live old now s x held)))
    (ap (λ w. is_live w b) went.world ∙ lives b may.live) stays may
