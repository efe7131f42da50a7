use Rattle.std.proofs.Common.{◌≡◌, ℕ, ◌<◌, ◌≤◌, ◌-◌, ◌%◌, ◌/◌, length, refl, sym, ◌∙◌, ap, subst, arith, Some}
use Rattle.inode_changes.proofs.Common.{mod-lt, slice_index, contents, MayWrite, looks_as, looks_refused, no_look, inode_of, block_len_of, amount_said, blocks_said, part, bytes_said, number_at_place, may_look}
use Rattle.inode_walks.proofs.ReadLaws.{block_full}
use Rattle.inode_changes.proofs.LastLaws.{last_is, last_part, none_partial}
use Rattle.inode_changes.proofs.appending.last_bytes.Goals as goal

pub overflow_cast-len : goal.overflow_cast-len
overflow_cast-len g c = omega (arith, c.amount.type_inv)

pub nonzero_rem-len : goal.nonzero_rem-len
nonzero_rem-len g c = omega (arith, c.block_len.ensures.whole)

-- the number of bytes behind the full blocks
rest_is : (a b s l : ℕ) → a ≡ s → b ≡ l → a % b ≡ s % l
rest_is a b s l e f = ap (λ n. n % b) e ∙ ap (λ n. s % n) f

pub returns-then-len-eq0 : goal.returns-then-len-eq0
returns-then-len-eq0 g c =
    let told = g.K.Blocks.told in
    let old = g.K.Blocks.view c.args.disk.now in
    let i = c.args.file.now.inode in
    let size = amount_said (inode_of i) in
    let len = block_len_of i in
    let none : size % len ≡ 0 = sym (rest_is c.amount.result c.block_len.result size len c.amount.ensures c.block_len.ensures.value) ∙ c.if-len-eq0.true in
    record {
      few = subst (λ x. length x ≤ size % len) (sym c.new.ensures) (omega arith);
      front = λ t. c.new.ensures ∙ sym (none_partial (bytes_said old.world (inode_of i)) len size none);
      only = λ t. tt;
      looks = looks_as told old old tt c.new.result (no_look told old c.requires.unspent (λ t. g.met.K.Blocks.sound c.args.disk.now t c.requires.unspent) c.requires.valid);
    }

-- some bytes are behind the full blocks
some_rest : (n : ℕ) → (n ≡ 0 → ⊥) → 1 ≤ n
some_rest n h = omega (arith, h)

pub overflow_sub-count : goal.overflow_sub-count
overflow_sub-count g c =
    let i = c.args.file.now.inode in
    let rest = rest_is c.amount.result c.block_len.result (amount_said (inode_of i)) (block_len_of i) c.amount.ensures c.block_len.ensures.value in
    let last = last_is i c.requires.is_file (subst (λ n. 16 ≤ n) c.block_len.ensures.value c.block_len.ensures.whole) (subst (λ n. 1 ≤ n) rest (some_rest (c.amount.result % c.block_len.result) c.if-len-eq0.false)) in
    omega (arith, last, c.count.ensures.value)

pub named-requires : goal.named-requires
named-requires g c =
    let i = c.args.file.now.inode in
    let rest = rest_is c.amount.result c.block_len.result (amount_said (inode_of i)) (block_len_of i) c.amount.ensures c.block_len.ensures.value in
    let last = last_is i c.requires.is_file (subst (λ n. 16 ≤ n) c.block_len.ensures.value c.block_len.ensures.whole) (subst (λ n. 1 ≤ n) rest (some_rest (c.amount.result % c.block_len.result) c.if-len-eq0.false)) in
    omega (arith, last, c.count.ensures.value)

pub look-requires : goal.look-requires
look-requires g c =
    let me = c.args.client.now in
    let old = g.K.Blocks.view c.args.disk.now in
    let i = c.args.file.now.inode in
    let blocks = blocks_said (inode_of i) in
    let rest = rest_is c.amount.result c.block_len.result (amount_said (inode_of i)) (block_len_of i) c.amount.ensures c.block_len.ensures.value in
    let last = last_is i c.requires.is_file (subst (λ n. 16 ≤ n) c.block_len.ensures.value c.block_len.ensures.whole) (subst (λ n. 1 ≤ n) rest (some_rest (c.amount.result % c.block_len.result) c.if-len-eq0.false)) in
    record {
      unspent = c.requires.unspent;
      valid = c.requires.valid;
      may = λ t. let s = c.requires.stands t in
          subst (MayWrite me old) (sym c.named.ensures) (may_look me old s.0 c.args.file.now s.1 c.requires.is_file (c.requires.valid t) (c.requires.session t) (slice_index blocks (c.count.result - 1))
          (number_at_place blocks (c.count.result - 1) (omega (arith, last, c.count.ensures.value))));
    }

pub returns-in-Ok : goal.returns-in-Ok
returns-in-Ok g c =
    let told = g.K.Blocks.told in
    let me = c.args.client.now in
    let old = g.K.Blocks.view c.args.disk.now in
    let new = g.K.Blocks.view c.look.new.disk in
    let file = c.args.file.now in
    let i = c.args.file.now.inode in
    let size = amount_said (inode_of i) in
    let len = block_len_of i in
    let blocks = blocks_said (inode_of i) in
    let rest = rest_is c.amount.result c.block_len.result (amount_said (inode_of i)) (block_len_of i) c.amount.ensures c.block_len.ensures.value in
    let whole : 16 ≤ len = subst (λ n. 16 ≤ n) c.block_len.ensures.value c.block_len.ensures.whole in
    let some : 0 < len = omega (arith, whole) in
    let last = last_is i c.requires.is_file whole (subst (λ n. 1 ≤ n) rest (some_rest (c.amount.result % c.block_len.result) c.if-len-eq0.false)) in
    let lookup : c.count.result - 1 ≡ size / len = omega (arith, last, c.count.ensures.value) in
    record {
      few = subst (λ n. length c.first_bytes.result ≤ n) rest c.first_bytes.ensures.fits;
      front = λ t.
          let s = c.requires.stands t in
          let there : contents old.world (slice_index blocks (size / len)) ≡ Some c.in-Ok.bytes = ap (λ n. contents old.world (slice_index blocks n)) (sym lookup) ∙ (ap (contents old.world) (sym c.named.ensures) ∙ c.in-Ok.ensures.bytes t) in
          let full = block_full old.world (slice_index blocks (size / len)) c.in-Ok.bytes (c.requires.valid t).valid there in
          let less : size % len < len = mod-lt size some in
          let fits : size % len ≤ length c.in-Ok.bytes = omega (arith, full, s.1.whole, less) in
          c.first_bytes.ensures.value (subst (λ n. n ≤ length c.in-Ok.bytes) (sym rest) fits)
          ∙ (ap (part c.in-Ok.bytes 0) rest
          ∙ last_part me old s.0 file s.1 c.requires.is_file (c.requires.valid t) len c.in-Ok.bytes refl whole (omega (arith, last)) there);
      only = λ t. tt;
      looks = looks_as told old new c.in-Ok.bytes c.first_bytes.result c.in-Ok.ensures.looks;
    }

pub returns-in-Err : goal.returns-in-Err
returns-in-Err g c =
    let told = g.K.Blocks.told in
    let old = g.K.Blocks.view c.args.disk.now in
    let new = g.K.Blocks.view c.look.new.disk in
    record {
      few = tt;
      front = λ t. tt;
      only = c.in-Err.ensures.only;
      looks = looks_refused told old new c.in-Err.refusal c.in-Err.ensures.looks;
    }
