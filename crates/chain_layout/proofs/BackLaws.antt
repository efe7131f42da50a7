-- What is written as a cluster of the directory is read as its entries.
use Rattle.std.proofs.Common.{◌≡◌, ℕ, ◌^◌, ◌<◌, ◌≤◌, true, ◌&&◌, nat_lt, nat_le, List, [], ◌∷◌, ◌++◌, length, refl, sym, ◌∙◌, ap, Some}
use Rattle.std.proofs.lemmas.Bool.{le-leb}
use Rattle.std.proofs.Common.{◌+◌, ◌-◌, ◌==◌, cond, false, None, arith}
use Rattle.std.proofs.lemmas.Bool.Decides.{nat_tests}
use Rattle.byteorder.specs.Endian.{little_number, little_bytes}
use Rattle.byteorder.specs.Numbers.{little_number-reads_back}
use Rattle.std.specs.Prelude.{flat_map, Option}
use Rattle.fs_trees.specs.Fields.{only_if, Entry, entry_bytes, entries, all_named}
use Rattle.fs_trees.specs.Cluster.{Cluster, cluster_in, link_in, link_field, entries_of, entries_room, cluster_bytes}
use Rattle.fs_laws.proofs.EncodingLaws.{all_small, entries_read_back}
use Rattle.chain_layout.specs.Listed.{entry_blocks}
use Rattle.chain_layout.specs.ReadsBack.{HaveFourBytes, is_linked}
use Rattle.std.specs.List.{list_all}

small_entries : (es : List Entry) → list_all (λ n. nat_lt n (2 ^ 32)) (entry_blocks es) ≡ all_small es
small_entries [] = refl
small_entries (e ∷ es) = ap (λ t. nat_lt e.block (2 ^ 32) && t) (small_entries es)

-- by the head that was read
pub entries_back : (len : ℕ) (next : Option ℕ) (es : List Entry) (rest : List ℕ) (c : Cluster) → length es ≤ entries_room len → all_named es ≡ true → HaveFourBytes (entry_blocks es)
    → c.used ≡ length es → c.body ≡ flat_map entry_bytes es ++ rest → entries_of len c ≡ Some es
entries_back len next es rest c room named small is_used is_body =
    let read = ap (λ k. entries k c.body) is_used ∙ (ap (entries (length es)) is_body ∙ entries_read_back es rest named (sym (small_entries es) ∙ small)) in
    ap (λ t. only_if t (λ _. only_if (all_named (entries c.used c.body)) (λ _. Some (entries c.used c.body)))) (ap (λ k. nat_le k (entries_room len)) is_used ∙ le-leb (length es) (entries_room len) room)
    ∙ (ap (λ xs. only_if (all_named xs) (λ _. Some xs)) read ∙ ap (λ t. only_if t (λ _. Some es)) named)

link_back : (next : Option ℕ) → link_in (link_field next) ≡ next
link_back None = refl
link_back (Some b) =
    let more : (b + 1 == 0) ≡ false = grind (arith, nat_tests) in
    let less : b + 1 - 1 ≡ b = omega arith in
    ap (λ t. cond t None (Some (b + 1 - 1))) more ∙ ap (λ k. Some k) less

pub head_back : (next : Option ℕ) (used : ℕ) (body rest : List ℕ) → is_linked next → used < 2 ^ 32 → cluster_in (cluster_bytes next used body ++ rest) ≡ Some (record { next = next; used = used; body = body ++ rest })
head_back next used body rest linked few =
    let field : little_number 4 (little_bytes 4 (link_field next) ++ (little_bytes 4 used ++ (body ++ rest))) ≡ link_field next = little_number-reads_back 4 (link_field next) (little_bytes 4 used ++ (body ++ rest)) linked in
    let amount : little_number 4 (little_bytes 4 used ++ (body ++ rest)) ≡ used = little_number-reads_back 4 used (body ++ rest) few in
    ap (λ k. Some (record { next = link_in k; used = little_number 4 (little_bytes 4 used ++ (body ++ rest)); body = body ++ rest })) field
    ∙ (ap (λ k. Some (record { next = link_in (link_field next); used = k; body = body ++ rest })) amount
    ∙ ap (λ n. Some (record { next = n; used = used; body = body ++ rest })) (link_back next))
