use Rattle.std.proofs.Common.{◌<◌, ℕ, List, sym, ap, ◌∙◌, subst, arith}
use Rattle.image_world.proofs.Common.{slice_index, get_or_default_zero, Geometry, Image, IsStored, IsLeastPrimary, IsLeastWrong}
use Rattle.image_world.proofs.TestLaws.{ends_live, primaries_on, ends_on, least_end, least_count}
use Rattle.image_world.proofs.tests_in_order.test_tables.Goals as goal

pub returns-in-Some : goal.returns-in-Some
returns-in-Some c = λ x read. (
  read.no_bad,
  read.none_repeated,
  subst (λ (g : Geometry). (y : Image) → IsStored c.args.live.now.live g y → IsLeastPrimary y g c.in-Some.block) c.requires.live c.in-Some.ensures x read.live,
)

pub returns-in-Some-least_loose_pair : goal.returns-in-Some-least_loose_pair
returns-in-Some-least_loose_pair c =
    let p = c.args.pointers.now in
    let m = c.args.live.now in
    let n = c.args.counts.now in
    λ x read. (
      read.no_bad,
      read.none_repeated,
      primaries_on p m n x c.requires.table c.requires.live read c.in_default.ensures,
      least_end p m n x c.in-Some-least_loose_pair.source c.in-Some-least_loose_pair.target c.requires.table read c.in-Some-least_loose_pair.ensures,
    )

pub returns-in-Some-least_wrong_count : goal.returns-in-Some-least_wrong_count
returns-in-Some-least_wrong_count c =
    let p = c.args.pointers.now in
    let m = c.args.live.now in
    let n = c.args.counts.now in
    let found = c.in_ok-found.found.items in
    let b = c.in-Some-least_wrong_count.block in
    let least : IsLeastWrong n.counts found p.geometry.blocks b =
    subst (λ (g : Geometry). IsLeastWrong n.counts found g.blocks b) c.requires.counts (subst (λ (xs : List ℕ). IsLeastWrong n.counts xs n.geometry.blocks b) c.deref.ensures.value c.in-Some-least_wrong_count.ensures) in
    λ x read. (
      read.no_bad,
      read.none_repeated,
      primaries_on p m n x c.requires.table c.requires.live read c.in_default.ensures,
      ends_on p m n x c.requires.table read (ends_live p m c.requires.table c.in_default-least_loose_pair.ensures),
      least_count p m n x found b c.count.result c.index.result.now read c.in_ok-found.ensures.found least c.count.ensures.value
          (c.index.ensures ∙ get_or_default_zero found b c.index.result.now (omega (arith, least.inside, c.in_ok-found.ensures.each))),
    )

pub returns : goal.returns
returns c = record {
  primaries = c.in_default.ensures;
  ends = ends_live c.args.pointers.now c.args.live.now c.requires.table c.in_default-least_loose_pair.ensures;
  counts = λ b h.
      let counts = c.args.counts.now in
      let found = c.in_ok-found.found.items in
      let inside : b < counts.geometry.blocks = subst (λ (g : Geometry). b < g.blocks) (sym c.requires.counts) h in
      c.in_default-least_wrong_count.ensures b inside
      ∙ (ap (λ (xs : List ℕ). slice_index xs b) c.deref.ensures.value ∙ c.in_ok-found.ensures.found b h);
}
