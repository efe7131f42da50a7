use Rattle.std.proofs.Common.{◌≡◌, ℕ, ◌+◌, ◌/◌, ◌<◌, ◌≤◌, length, sym, ◌∙◌, ap, subst, arith}
use Rattle.cap_store.specs.Store.{IsTable, Store}
use Rattle.cap_store.specs.Stored.{sector_of, caps_sector_bytes, part_of}
use Rattle.cap_store.proofs.Sectors.{more, place_is, stored_all}
use Rattle.cap_store.proofs.store.CapStore.patch.Goals as goal

module _ (c : goal.After-bytes_of_part) where
  abbrev now : Store
  now = c.args.self.now

  abbrev sector : ℕ
  sector = 132 + c.args.block / c.per_sector.result

  whole : IsTable now
  whole = subst IsTable c.self.view_is c.self.invariant

  few : length now.records ≤ 16
  few = omega (arith, whole.each, whole.lawful.primaries.1)

  inside : c.args.block < 16
  inside = omega (arith, whole.lawful.primaries.1)

  part : c.args.block / c.per_sector.result ≡ part_of now.version c.args.block
  part = ap (λ n. c.args.block / n) c.per_sector.ensures ∙ ap (λ (s : Store). part_of s.version c.args.block) c.self.view_is

  position : sector ≡ sector_of now.version c.args.block
  position = ap (λ n. 132 + n) part ∙ sym (place_is c.args.block now.version whole.version inside)

  bytes_are : c.bytes_of_part.result ≡ caps_sector_bytes now.version now.records (part_of now.version c.args.block)
  bytes_are =
      c.bytes_of_part.ensures
      ∙ ap (λ l. caps_sector_bytes c.self.inside.version l (c.args.block / c.per_sector.result)) c.deref.ensures.value
      ∙ ap (λ (s : Store). caps_sector_bytes s.version s.records (c.args.block / c.per_sector.result)) c.self.view_is
      ∙ ap (caps_sector_bytes now.version now.records) part

pub returns-clause-stored : goal.returns-clause-stored
returns-clause-stored c x =
    stored_all (now c).version (now c).records x c.args.block (sector c) c.bytes_of_part.result (whole c).version (few c) (whole c).kept (inside c) (position c) (bytes_are c)

pub returns-clause-more : goal.returns-clause-more
returns-clause-more c some x =
    more (now c).version (now c).records x c.args.block (sector c) c.bytes_of_part.result (whole c).version (few c) (whole c).kept (inside c) (position c) (bytes_are c) some
