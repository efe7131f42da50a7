-- The least names above one, as the directory is read, and as they are told.
use Rattle.std.proofs.Common.{◌≡◌, ℕ, zero, suc, ◌++◌, Bool, true, false, nat_le, List, [], ◌∷◌, refl, sym, ◌∙◌, ap, subst, Option, Some, None, Result, Ok, Err}
use Rattle.chain_reading.proofs.Common.{IfErr, OnOk, block_len, names, names_in, is_there, listed, chain_tree, tree_of_files, Entry, Link, entry_names, Cluster, entries_of, only_if, FsRefusal, DiskView, IsDiskSound, Answers, TellsNext, step_on, Client, OnlyLooks, least_above, PlacedEntry, placed, IsDirectoryAhead, MayAsk, mounted_by, tree_under, file_names, placed_names}
use Rattle.fs_trees.specs.Answer.{Answer}
use Rattle.fs_trees.specs.Cluster.{entries_room}
use Rattle.fs_trees.specs.Fields.{all_named, entries}
use Rattle.fs_trees.specs.Names.{Name, is_name}
use Rattle.fs_trees.specs.declared.ask.ShellAsk.TheVariants as ask
use Rattle.fs_trees.specs.declared.refusal.FsRefusal.TheVariants as no
use Rattle.fs_walks.specs.Nexts.{AreBehind, TellsNames}
use Rattle.chain_reading.specs.Nexts.{and_on, least_names}
use Rattle.chain_reading.proofs.ChangeLaws.{right_is}
use Rattle.chain_reading.proofs.KnownLaws.{is_known, tree_known, root_is_listed, names_of_files}
use Rattle.chain_reading.proofs.ListLaws.{IsLooking, names-append, names_placed}
use Rattle.chain_reading.proofs.NextLaws.{next_name}
use Rattle.chain_reading.proofs.RefusalLaws.{ls_answered, ls_stays}

-- ---- cluster by cluster

-- the clusters so far were looked through for them
pub record IsListed (c : Client) (now : DiskView) (len : ℕ) (ls : List Link) (ps : List PlacedEntry) (i b : ℕ) (after : Name) (into : List Name) : Type 0 where
  pub qs : List PlacedEntry
  pub looking : IsLooking c now len ls ps qs i b
  pub is : into ≡ least_names 64 after (placed_names qs)

pub record Listing (told : Type 0) (c : Client) (first now : DiskView) (i b : ℕ) (after : Name) (into : List Name) : Type 0 where
  pub looks : OnlyLooks {X = Unit {0}} told first now (Ok tt)
  pub seen : told → (ls : List Link) (ps : List PlacedEntry) → IsDirectoryAhead c first ls ps → IsListed c now (block_len first.world.geometry) ls ps i b after into

-- the entries of a cluster have names
pub own_names : (len : ℕ) (cl : Cluster) (es : List Entry) → entries_of len cl ≡ Some es → all_named es ≡ true
own_names len cl es e = by_room (nat_le cl.used (entries_room len)) (entries cl.used cl.body) e
  where
    by_names : (xs : List Entry) (t : Bool) → all_named xs ≡ t → only_if t (λ _. Some xs) ≡ Some es → all_named es ≡ true
    by_names xs true named is = let same : xs ≡ es = cc in subst (λ ys. all_named ys ≡ true) same named
    by_names xs false named is = absurd (cc)

    by_room : (t : Bool) (xs : List Entry) → only_if t (λ _. only_if (all_named xs) (λ _. Some xs)) ≡ Some es → all_named es ≡ true
    by_room true xs is = by_names xs (all_named xs) refl is
    by_room false xs is = absurd (cc)

-- with the names of one cluster more
pub names_more : (after : Name) (qs : List PlacedEntry) (b : ℕ) (es : List Entry) (into result : List Name) → into ≡ least_names 64 after (placed_names qs)
    → ((ns : List Name) → into ≡ least_names 64 after ns → result ≡ least_names 64 after (ns ++ entry_names es)) → result ≡ least_names 64 after (placed_names (qs ++ placed b es))
names_more after qs b es into result is adds =
    adds (placed_names qs) is ∙ ap (least_names 64 after) (sym (names-append qs (placed b es) ∙ ap (λ ns. placed_names qs ++ ns) (names_placed b es)))

-- ---- what is told

are_behind : (k : ℕ) (a : Name) (ms : List Name) (answer : Answer) → ((b : Name) → TellsNext b (least_above b ms) answer) → AreBehind a (least_names k a ms) answer
are_behind zero a ms answer tells = tt
are_behind (suc k) a ms answer tells = by (least_above a ms) (tells a) (λ n. are_behind k n ms answer tells)
  where
    by : (o : Option Name) → TellsNext a o answer → ((n : Name) → AreBehind n (least_names k n ms) answer) → AreBehind a (and_on (λ n. least_names k n ms) o) answer
    by None told rest = tt
    by (Some n) told rest = (told, rest n)

-- the least names are those that come next, by an answer that tells the least name above each
tell_names : (k : ℕ) (a : Name) (ms : List Name) (answer : Answer) → ((b : Name) → TellsNext b (least_above b ms) answer) → TellsNames a (least_names (suc k) a ms) answer
tell_names k a ms answer tells = by (least_above a ms) (tells a)
  where
    by : (o : Option Name) → TellsNext a o answer → TellsNames a (and_on (λ n. least_names k n ms) o) answer
    by None told = told
    by (Some n) told = (told, are_behind k n ms answer tells)

-- the next names of the directory
pub names_told : (told : Type 0) (c : Client) (old new : DiskView) (after : Name) (part : List Name) (result : Result (Unit {0}) FsRefusal) → told → MayAsk told c old → IsDiskSound old
    → ((ls : List Link) (ps : List PlacedEntry) → IsDirectoryAhead c old ls ps → OnOk result (part ≡ least_names 64 after (placed_names ps))) → IfErr result (λ e. e ≡ no.Device) → OnlyLooks told old new result
    → Answers (mounted_by c) old new (ask.Ls []) result (λ _. TellsNames after part)
names_told told c old new after part (Err e) t may sound gives only looks = record { ok = tt; err = λ ne. absurd (ne only) }
names_told told c old new after part (Ok x) t may sound gives only looks =
    let known = is_known told c old t may sound in
    let fs = known.chains.files in
    let there : is_there (tree_under c old) ≡ true = ap is_there (tree_known c old known) in
    let listed_now = ls_answered c old [] there (root_is_listed told c old t may sound) ∙ ap (λ x. listed (names_in x)) (tree_known c old known) in
    let distinct = (right_is old.world known.chains known.has.right).names in
    let same = names_of_files old.world known.has.listing.entries fs known.has.listing.files in
    let tells : (b : Name) → TellsNext b (least_above b (file_names fs)) (step_on (mounted_by c) old (ask.Ls [])).answer = λ b. (names (tree_of_files fs), listed_now, sym (next_name b fs distinct)) in
    record {
      ok = (
        subst (λ ns. TellsNames after ns (step_on (mounted_by c) old (ask.Ls [])).answer) (sym (gives known.chains.directory known.has.listing.entries known.ahead ∙ sym (ap (least_names 64 after) same))) (tell_names 63 after (file_names fs) (step_on (mounted_by c) old (ask.Ls [])).answer tells),
        ap (λ w. chain_tree w c.root) (looks.looked t).0.world ∙ sym (ls_stays c old [] there),
      );
      err = tt;
    }
