-- What reading calls tell.
use Rattle.std.proofs.Common.{◌≡◌, ◌≤◌, ℕ, true, List, [], length, sym, ◌∙◌, ap, subst, Option, Some, None, Result, Ok, Err}
use Rattle.chain_reading.proofs.Common.{take, drop, map, IfOk, IfErr, OnOk, Name, Path, at, is_there, bytes_in, names_in, names, bytes, listed, Link, chain_bytes, chain_tree, tree_of_files, FsRefusal, block_len, holds, IsValidNow, Stays, may_again, DiskView, IsDiskSound, Answers, TellsPart, TellsNext, Client, Looked, OnlyLooks, least_above, IsFrom, PlacedEntry, AreEntries, IsFileAhead, IsDirectoryAhead, MayAsk, mounted_by, tree_under, IsFileOf, no_file_found}
use Rattle.fs_trees.specs.declared.ask.ShellAsk.TheVariants as ask
use Rattle.fs_trees.specs.declared.refusal.FsRefusal.TheVariants as no
use Rattle.chain_reading.proofs.ChangeLaws.{right_is}
use Rattle.chain_reading.proofs.RefusalLaws.{cat_answered, cat_stays, ls_answered, ls_stays}
use Rattle.chain_reading.proofs.KnownLaws.{is_known, tree_known, root_is_listed, names_of_files}
use Rattle.chain_reading.proofs.NextLaws.{next_name}

-- the bytes of a file from an offset on
pub part_told : {X : Type 0} (told : Type 0) (c : Client) (old mid new : DiskView) (p : Path) (first start : ℕ) (part : List ℕ) (result : Result X FsRefusal) → told → is_there (tree_under c old) ≡ true → Looked old mid → ◌≡◌ {A = Option FsRefusal} (no_file_found (tree_under c old) p) None → IsFileOf c mid p first
    → ((ls : List Link) → IsFileAhead c mid first ls → OnOk result (part ≡ take 4096 (drop start (chain_bytes ls)))) → IfErr result (λ e. e ≡ no.Device) → OnlyLooks told mid new result → Answers (mounted_by c) old new (ask.Cat p) result (λ _. TellsPart start part)
part_told told c old mid new p first start part (Err e) t there seen none file gives only looks = record { ok = tt; err = λ ne. absurd (ne only) }
part_told told c old mid new p first start part (Ok x) t there seen none file gives only looks = record {
  ok = (
    (chain_bytes file.file.chain, cat_answered c old p there none ∙ ap (λ y. bytes (bytes_in y)) (ap (λ w. at (chain_tree w c.root) p) (sym seen.world) ∙ file.there), gives file.file.chain file.ahead),
    ap (λ w. chain_tree w c.root) ((looks.looked t).0.world ∙ seen.world) ∙ sym (cat_stays c old p there),
  );
  err = tt;
}

-- the next name of the directory
pub next_told : (told : Type 0) (c : Client) (old new : DiskView) (after : Name) (result : Result (Option Name) FsRefusal) → told → MayAsk told c old → IsDiskSound old
    → ((ls : List Link) (ps : List PlacedEntry) → IsDirectoryAhead c old ls ps → IfOk result (λ name. name ≡ least_above after (map (λ p. p.1.name) ps))) → IfErr result (λ e. e ≡ no.Device) → OnlyLooks told old new result
    → Answers (mounted_by c) old new (ask.Ls []) result (TellsNext after)
next_told told c old new after (Err e) t may sound gives only looks = record { ok = tt; err = λ ne. absurd (ne only) }
next_told told c old new after (Ok name) t may sound gives only looks =
    let known = is_known told c old t may sound in
    let fs = known.chains.files in
    let there : is_there (tree_under c old) ≡ true = ap is_there (tree_known c old known) in
    let listed_now = ls_answered c old [] there (root_is_listed told c old t may sound) ∙ ap (λ x. listed (names_in x)) (tree_known c old known) in
    let distinct = (right_is old.world known.chains known.has.right).names in
    let names_there = sym (ap (least_above after) (names_of_files old.world known.has.listing.entries fs known.has.listing.files)) in
    record {
      ok = (
        (names (tree_of_files fs), listed_now, gives known.chains.directory known.has.listing.entries known.ahead ∙ (names_there ∙ sym (next_name after fs distinct))),
        ap (λ w. chain_tree w c.root) (looks.looked t).0.world ∙ sym (ls_stays c old [] there),
      );
      err = tt;
    }

-- after looking, the directory is still ahead
pub ahead_again : (c : Client) (old mid : DiskView) (ls : List Link) (ps : List PlacedEntry) → Looked old mid → Stays old mid → IsValidNow old → IsDirectoryAhead c old ls ps → IsDirectoryAhead c mid ls ps
ahead_again c old mid ls ps seen stays valid ahead = record {
  ahead = record {
    rest = subst (λ w. IsFrom w (Some c.root) ls) (sym seen.world) ahead.ahead.rest;
    held = λ x y h. ap (λ w. holds w.pairs x y) seen.world ∙ ahead.ahead.held x y h;
    may = may_again c old mid c.root seen stays valid ahead.ahead.may;
  };
  entries = subst (λ w. AreEntries (block_len w.geometry) ls ps) (sym seen.world) ahead.entries;
  short = subst (λ w. length ls ≤ w.geometry.blocks) (sym seen.world) ahead.short;
}
