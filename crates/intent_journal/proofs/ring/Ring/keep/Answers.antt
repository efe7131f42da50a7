use Rattle.std.proofs.Common.{◌≡◌, ◌+◌, ◌≤◌, ◌∷◌, [], ◌++◌, List, length, ℕ, sym, ◌∙◌, ap, arith, subst, lit<}
use Rattle.intent_journal.proofs.Common.{Patch, bodies, records, ArePatchesOfRing, parted, patches_of}
use Rattle.intent_journal.proofs.Parts.{length_parted, patches_parted, parts_push, view_push}
use Rattle.intent_journal.proofs.ring.Ring.keep.Goals as goal

pub append-requires : goal.append-requires
append-requires c =
    let is : patches_of c.args.self.now ≡ c.self.inside.patches = ap patches_of (sym c.self.view_is) ∙ patches_parted c.self.inside.counts.items c.self.inside.patches c.self.invariant.whole in
    omega (arith, ap length is, ap length c.patches.ensures.value, c.requires.room)

pub push-requires : goal.push-requires
push-requires c =
    let is : length c.args.self.now ≡ length c.self.inside.counts.items = ap length (sym c.self.view_is) ∙ length_parted c.self.inside.counts.items c.self.inside.patches in
    (lit< tt, omega (arith, is, c.requires.records))

pub invariant_of-self : goal.invariant_of-self
invariant_of-self c =
    let cs = c.self.inside.counts.items in
    let ps = c.self.inside.patches in
    let b = c.args.batch.now in
    let patches : c.append.new.patches ≡ ps ++ b = c.append.ensures ∙ ap (λ (l : List Patch). ps ++ l) c.patches.ensures.value in
    let counts : c.push.new.self.items ≡ cs ++ length b ∷ [] = c.push.ensures.items ∙ ap (λ (n : ℕ). cs ++ n ∷ []) c.len.ensures.value in
    let is : patches_of c.args.self.now ≡ ps = ap patches_of (sym c.self.view_is) ∙ patches_parted cs ps c.self.invariant.whole in
    let len : length c.args.self.now ≡ length cs = ap length (sym c.self.view_is) ∙ length_parted cs ps in
    let room : length ps + length b ≤ bodies = omega (arith, ap length is, c.requires.room) in
    let more : length cs + 1 ≤ records = omega (arith, len, c.requires.records) in
    subst (λ (l : List ℕ). ArePatchesOfRing l c.append.new.patches) (sym counts)
    (subst (λ (l : List Patch). ArePatchesOfRing (cs ++ length b ∷ []) l) (sym patches) (parts_push cs ps b c.self.invariant c.patches.ensures.batch c.requires.some room more))

pub returns : goal.returns
returns c =
    let cs = c.self.inside.counts.items in
    let ps = c.self.inside.patches in
    let b = c.args.batch.now in
    let patches : c.append.new.patches ≡ ps ++ b = c.append.ensures ∙ ap (λ (l : List Patch). ps ++ l) c.patches.ensures.value in
    let counts : c.push.new.self.items ≡ cs ++ length b ∷ [] = c.push.ensures.items ∙ ap (λ (n : ℕ). cs ++ n ∷ []) c.len.ensures.value in
    (λ i. parted (counts i) (patches i)) ∙ view_push cs ps b c.self.invariant ∙ ap (λ (l : List (List Patch)). l ++ b ∷ []) c.self.view_is
