use Rattle.std.proofs.Common.{◌≡◌, ◌+◌, ◌*◌, ◌/◌, ◌<◌, ℕ, List, subst, sym, ◌∙◌, ap, arith}
use Rattle.block_alloc.proofs.Common.{slice_index, put_at, bitmap_start, LiveMap, IsTable, bitmap_sector_bytes, IsStoredAt, IsStored}
use Rattle.block_alloc.proofs.BitLaws.{kept-table}
use Rattle.block_alloc.proofs.ByteLaws.{sector_is}
use Rattle.block_alloc.proofs.StoredLaws.{stored_here, stored_all}
use Rattle.block_alloc.proofs.map.LiveMap.patch.Goals as goal

pub returns-clause-bytes : goal.returns-clause-bytes
returns-clause-bytes c =
    let bytes = c.self.inside.bytes.items in let blocks = c.self.inside.geometry.blocks in let first = c.args.block / 4096 in
    let read : (i : ℕ) → i < 512 → slice_index c.sector_from.result i ≡ slice_index bytes (512 * first + i) =
    λ i h. c.sector_from.ensures.bytes i h ∙ ap (λ bs. slice_index bs (512 * first + i)) c.deref.ensures.value in
    let P : List ℕ → Type 0 = λ bs. (i : ℕ) → slice_index bs i < 256 in
    sector_is bytes c.sector_from.result blocks first c.sector_from.ensures.size read (subst P c.deref.ensures.value c.sector_from.ensures.fits) c.self.invariant.1.bitmap.ends
    ∙ ap (λ m. bitmap_sector_bytes m.live first) c.self.view_is

-- the sector stands where the format has it
at_place : (c : goal.After-sector_from) → c.bit_offset.result.sector ≡ bitmap_start c.args.self.now.geometry + c.args.block / 4096
at_place c =
    let part : c.args.block / 8 / 512 ≡ c.args.block / 4096 = omega arith in
    ap (λ p. p.sector) c.bit_offset.ensures.value
    ∙ (ap (λ g. bitmap_start g + c.args.block / 8 / 512) (c.of.ensures ∙ ap (λ m. m.geometry) c.self.view_is)
    ∙ ap (λ n. bitmap_start c.args.self.now.geometry + n) part)

pub returns-clause-here : goal.returns-clause-here
returns-clause-here c = λ x b h same.
    let m = c.args.self.now in let sector = c.bit_offset.result.sector in
    let P : List ℕ → Type 0 = λ bytes. IsStoredAt m.live m.geometry (put_at sector bytes x) b in
    subst P (sym (returns-clause-bytes c)) (stored_here m.live m.geometry x sector (c.args.block / 4096) b (at_place c) same)

pub returns-clause-stored : goal.returns-clause-stored
returns-clause-stored c = λ x others.
    let m = c.args.self.now in let sector = c.bit_offset.result.sector in
    let P : List ℕ → Type 0 = λ bytes. IsStored m.live m.geometry (put_at sector bytes x) in
    subst P (sym (returns-clause-bytes c)) (stored_all m.live m.geometry x sector (c.args.block / 4096) (at_place c) others)

pub returns-clause-table : goal.returns-clause-table
returns-clause-table c =
    let P : LiveMap → Type 0 = λ m. IsTable m in
    let inside = c.self.inside in
    subst P c.self.view_is (kept-table inside.geometry inside.bytes.items inside.unhidden.items inside.free inside.most.items c.self.invariant.0 c.self.invariant.1)
