-- The root may be written by what is shown there.
use Rattle.std.proofs.Common.{◌≡◌, ◌<◌, true, cond, refl, sym, ◌∙◌, ap, subst, inl}
use Rattle.fs_client.proofs.Common.{eq-eqb, slice_get, kept_of, level_le, record_level, shown_level, Nothing, Key, attained_where, ShellKind, DiskView, IsDiskSound, IsValidNow, FilesView, IsClientReady, Client, shown_at, MayWrite}
use Rattle.tsd_model.specs.declared.requests.Level.TheVariants as level

-- the file system of a client, in either layout
abbrev pub mounted_as : ShellKind → Client → FilesView
mounted_as kind c = record { kind = kind; root = c.root; cap = c.cap; session = c.session; mounted = true }

pub root_may : (kind : ShellKind) (c : Client) (v : DiskView) → IsClientReady (mounted_as kind c) v → IsValidNow v → IsDiskSound v → MayWrite c v c.root
root_may kind c v ready valid sound = record {
  number = ready.number;
  begun = ready.begun;
  live = valid.valid.raw.primaries c.root primary;
  attains = (attained_where v.world v.sessions c.session c.root (shown_at c c.root) level.Write refl).1 (inl (primary, shown));
}
  where
    primary : c.root < v.world.geometry.primaries
    primary = subst (λ n. c.root < n) (ap (λ x. x.primaries) (sym sound.geometry)) ready.primary

    shown : level_le level.Write (shown_level v.world c.root (shown_at c c.root)) ≡ true
    shown =
        ap (λ s. level_le level.Write (shown_level v.world c.root s)) (ap (λ t. cond t (Key c.cap) Nothing) (eq-eqb c.root c.root refl))
        ∙ ap (level_le level.Write) (ap (λ rs. record_level (slice_get rs c.root) (kept_of v.world.version c.cap)) sound.records
        ∙ (ap (λ n. record_level (slice_get v.records c.root) (kept_of n c.cap)) sound.version ∙ ready.attains))
