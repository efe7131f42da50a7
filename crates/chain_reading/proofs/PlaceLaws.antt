-- Where reading a file goes on.
use Rattle.std.proofs.Common.{◌≡◌, ℕ, zero, suc, ◌+◌, ◌-◌, ◌≤◌, min, true, ◌&&◌, ◌==◌, nat_lt, List, [], ◌∷◌, ◌++◌, length, refl, sym, ◌∙◌, ap, subst, arith, append-nil, length-append, length-drop, length-take, drop-drop, Option, Some, None, Result, Ok, Err}
use Rattle.chain_reading.proofs.Common.{and_parts, flat_map-append, take, drop, IfErr, IfOk, IfSome, OnOk, block_len, holds, Path, bytes, bytes_in, a_file, at, is_there, Cluster, bytes_room, Link, chain_bytes, chain_tree, cluster_at, is_filled, FsRefusal, DiskView, IsValidNow, state_of, Stays, Answers, TellsPart, Client, Looked, OnlyLooks, may_again, IsFrom, IsAhead, IsFileAhead, IsFileOf, mounted_by, tree_under, no_file_found}
use Rattle.chain_reading.specs.Ahead.{HasFile}
use Rattle.chain_reading.specs.Places.{IsPlaceIn, IsRestAt, Leads}
use Rattle.fs_trees.specs.declared.ask.ShellAsk.TheVariants as ask
use Rattle.fs_trees.specs.declared.refusal.FsRefusal.TheVariants as no
use Rattle.fs_walks.specs.declared.place.Place.{Place}
use Rattle.chain_reading.proofs.WalkLaws.{link_of, IsWalked, first_link}
use Rattle.chain_reading.proofs.SizeLaws.{IsCounted, more_bytes}
use Rattle.chain_reading.proofs.CopyLaws.{IsCopied}
use Rattle.chain_reading.proofs.RefusalLaws.{cat_answered, cat_stays}

-- ---- lists of bytes

-- what is cut off a longer list is cut off its back
drop_past : (n : ℕ) (xs ys : List ℕ) → length xs ≤ n → drop n (xs ++ ys) ≡ drop (n - length xs) ys
drop_past n [] ys h = let all : n ≡ n - 0 = omega arith in ap (λ k. drop k ys) all
drop_past zero (x ∷ xs) ys h = absurd (omega (arith, h))
drop_past (suc n) (x ∷ xs) ys h =
    let less : n - length xs ≡ suc n - suc (length xs) = omega arith in
    drop_past n xs ys (omega (arith, h)) ∙ ap (λ k. drop k ys) less

-- no more than all is cut off
drop_within : (n : ℕ) (xs : List ℕ) → drop (min (length xs) n) xs ≡ drop n xs
drop_within n [] = let none : min 0 n ≡ 0 = omega arith in ap (λ k. drop k []) none ∙ sym (nothing n)
  where
    nothing : (k : ℕ) → ◌≡◌ {A = List ℕ} (drop k []) []
    nothing zero = refl
    nothing (suc k) = refl
drop_within zero (x ∷ xs) = let none : min (suc (length xs)) 0 ≡ 0 = omega arith in ap (λ k. drop k (x ∷ xs)) none
drop_within (suc n) (x ∷ xs) = let one : min (suc (length xs)) (suc n) ≡ suc (min (length xs) n) = omega arith in ap (λ k. drop k (x ∷ xs)) one ∙ drop_within n xs

-- ---- what is left of a file

rest_filled : (room : ℕ) (before : List Link) (l : Link) (ks : List Link) → is_filled room (before ++ l ∷ ks) ≡ true → is_filled room (l ∷ ks) ≡ true
rest_filled room [] l ks h = h
rest_filled room (b ∷ []) l ks h = (and_parts ((b.cluster.used == room) && nat_lt 0 l.cluster.used) (is_filled room (l ∷ ks)) h).1
rest_filled room (b ∷ d ∷ before) l ks h = rest_filled room (d ∷ before) l ks (and_parts ((b.cluster.used == room) && nat_lt 0 d.cluster.used) (is_filled room (d ∷ (before ++ l ∷ ks))) h).1

-- what is left is a file that is ahead
pub rest_ahead : (c : Client) (v : DiskView) (b : ℕ) (ls : List Link) → IsRestAt c (state_of v) b ls → IsFileAhead c v b ls
rest_ahead c v b ls rest = record {
  ahead = record { rest = rest.rest; held = rest.held; may = record { number = rest.number; begun = rest.begun; live = rest.live; attains = rest.attains } };
  filled = rest.filled;
  short = rest.short;
}

-- after one look more it is still left
rest_again : (c : Client) (first now new : DiskView) (start b : ℕ) (ls before : List Link) → Looked first now → IsFileAhead c first start ls → (walked : IsWalked c now ls before b) → Looked now new → Stays now new → IsRestAt c (state_of new) b walked.rest
rest_again c first now new start b ls before came file walked seen stays =
    let may = may_again c now new b seen stays came.valid walked.ahead.may in
    record {
      rest = subst (λ w. IsFrom w (Some b) walked.rest) (sym seen.world) walked.ahead.rest;
      held = λ x y h. ap (λ w. holds w.pairs x y) seen.world ∙ walked.ahead.held x y h;
      filled = ap (λ w. is_filled (bytes_room (block_len w.geometry)) walked.rest) (seen.world ∙ came.world) ∙ by_rest walked.rest walked.parts walked.ahead.rest;
      short = subst (λ w. length walked.rest ≤ w.geometry.blocks) (sym (seen.world ∙ came.world)) (let sum = ap length walked.parts ∙ length-append before walked.rest in omega (arith, sum, file.short));
      number = may.number;
      begun = may.begun;
      live = may.live;
      attains = may.attains;
    }
  where
    by_rest : (ks : List Link) → ls ≡ before ++ ks → IsFrom now.world (Some b) ks → is_filled (bytes_room (block_len first.world.geometry)) ks ≡ true
    by_rest [] e is = absurd (cc)
    by_rest (k ∷ ks) e is = rest_filled (bytes_room (block_len first.world.geometry)) before k ks (ap (is_filled (bytes_room (block_len first.world.geometry))) (sym e) ∙ file.filled)

-- ---- the place behind a part

module _ (c : Client) (first now new : DiskView) (ls : List Link) (block i b before start more read : ℕ) (into result : List ℕ) (cl : Cluster) (came : Looked first now) (file : IsFileAhead c first block ls) (copied : IsCopied c now ls i b before start into)
    (at : cluster_at now.world b ≡ Some cl) (part : more ≡ length (take cl.used cl.body)) (adds : result ≡ into ++ take (4096 - length into) (drop (start - before) (take cl.used cl.body)))
    (reads : read ≡ min (length (take cl.used cl.body)) ((start - before) + (4096 - length into))) (seen : Looked now new) (stays : Stays now new) where
  abbrev walked : IsWalked c now ls copied.counted.before b
  walked = copied.counted.walked

  abbrev own : List ℕ
  own = take cl.used cl.body

  -- so many bytes were asked for from the block on
  abbrev ahead : ℕ
  ahead = (start + 4096) - before

  reads_on : read ≡ min (length own) ahead
  reads_on =
      let cut = ap length copied.copied ∙ length-take 4096 (drop start (chain_bytes copied.counted.before)) in
      let long = length-drop start (chain_bytes copied.counted.before) in
      reads ∙ ap (min (length own)) (by_sizes (length into) (length (drop start (chain_bytes copied.counted.before))) cut (long ∙ ap (λ n. n - start) (sym copied.counted.bytes)))
    where
      by_sizes : (n k : ℕ) → n ≡ min 4096 k → k ≡ before - start → (start - before) + (4096 - n) ≡ ahead
      by_sizes n k is long = let near = copied.near in omega (arith, is, long, near)

  -- what comes behind the clusters before
  behind : (xs : List ℕ) → chain_bytes walked.rest ≡ xs → drop (start + 4096) (chain_bytes ls) ≡ drop ahead xs
  behind xs is =
      let sized : length (chain_bytes copied.counted.before) ≡ before = sym copied.counted.bytes in
      ap (λ ks. drop (start + 4096) (chain_bytes ks)) walked.parts
      ∙ (ap (drop (start + 4096)) (flat_map-append (λ l. take l.cluster.used l.cluster.body) copied.counted.before walked.rest)
      ∙ (drop_past (start + 4096) (chain_bytes copied.counted.before) (chain_bytes walked.rest) (let near = copied.near in omega (arith, near, sized))
      ∙ (ap (λ k. drop ((start + 4096) - k) (chain_bytes walked.rest)) sized ∙ ap (drop ahead) is)))

  first_here : (ks : List Link) × (walked.rest ≡ link_of b cl ∷ ks) × IsFrom now.world cl.next ks
  first_here = first_link now.world b walked.rest cl walked.ahead.rest at

  still_left : IsRestAt c (state_of new) b walked.rest
  still_left = rest_again c first now new block b ls copied.counted.before came file walked seen stays

  -- the part is full
  pub place_full : length result ≡ 4096 → IsPlaceIn c (state_of new) (chain_bytes ls) (start + 4096) (record { block = b; read = read })
  place_full full = record {
    left = walked.rest;
    ahead = still_left;
    bytes = behind (chain_bytes walked.rest) refl ∙ ap (λ k. drop k (chain_bytes walked.rest)) (sym (reads_on ∙ all));
  }
    where
      by_sizes : (n k p r : ℕ) → n ≡ min 4096 k → k ≡ before - start → 4096 ≡ n + p → p ≡ min (4096 - n) r → r ≡ length own - (start - before) → min (length own) ahead ≡ ahead
      by_sizes n k p r is long whole piece rest = let near = copied.near in omega (arith, is, long, whole, piece, rest, near)

      all : min (length own) ahead ≡ ahead
      all =
          let cut = ap length copied.copied ∙ length-take 4096 (drop start (chain_bytes copied.counted.before)) in
          let long = length-drop start (chain_bytes copied.counted.before) ∙ ap (λ n. n - start) (sym copied.counted.bytes) in
          let whole = ap length adds ∙ length-append into (take (4096 - length into) (drop (start - before) own)) in
          let piece = length-take (4096 - length into) (drop (start - before) own) in
          let rest = length-drop (start - before) own in
          by_sizes (length into) (length (drop start (chain_bytes copied.counted.before))) (length (take (4096 - length into) (drop (start - before) own))) (length (drop (start - before) own)) cut long (sym full ∙ whole) piece rest

  -- the file is at its end
  pub place_end : cl.next ≡ None → IsPlaceIn c (state_of new) (chain_bytes ls) (start + 4096) (record { block = b; read = read })
  place_end next = record {
    left = walked.rest;
    ahead = still_left;
    bytes = behind own own_alone ∙ (sym (drop_within ahead own) ∙ (ap (λ k. drop k own) (sym reads_on) ∙ ap (drop read) (sym own_alone)));
  }
    where
      alone : (ks : List Link) → IsFrom now.world None ks → walked.rest ≡ link_of b cl ∷ ks → chain_bytes walked.rest ≡ own
      alone [] is e = ap chain_bytes e ∙ append-nil own
      alone (k ∷ ks) is e = absurd (cc)

      own_alone : chain_bytes walked.rest ≡ own
      own_alone = alone first_here.0 (subst (λ o. IsFrom now.world o first_here.0) next first_here.2) first_here.1

-- ---- what is told

-- a place in a file that was found is one of the file at its path
pub found_leads : (c : Client) (old mid new : DiskView) (p : Path) (first start : ℕ) (result : Result Place FsRefusal) → ◌≡◌ {A = Option FsRefusal} (no_file_found (tree_under c old) p) None → Looked old mid → (file : IsFileOf c mid p first) → (OnOk result (new.world ≡ mid.world))
    → IfOk result (IsPlaceIn c (state_of new) (chain_bytes file.file.chain) (start + 4096)) → IfOk result (Leads c (state_of new) p (start + 4096))
found_leads c old mid new p first start (Err e) none seen file same place = tt
found_leads c old mid new p first start (Ok at_place) none seen file same place = record {
  file = chain_bytes file.file.chain;
  there = ap (λ w. at (chain_tree w c.root) p) same ∙ file.there;
  found = ap (λ w. no_file_found (chain_tree w c.root) p) (same ∙ seen.world) ∙ none;
  place = place;
}

module _ (c : Client) (old new : DiskView) (p : Path) (start : ℕ) (from : Place) (leads : Leads c (state_of old) p start from) where
  -- the file that is left there
  pub left_here : HasFile c old from.block
  left_here = (leads.place.left, rest_ahead c old from.block leads.place.left leads.place.ahead)

  -- the place behind the part that begins at a place
  pub leads_on : (result : Result Place FsRefusal) → OnOk result (new.world ≡ old.world) → IfOk result (IsPlaceIn c (state_of new) (chain_bytes leads.place.left) (from.read + 4096)) → IfOk result (Leads c (state_of new) p (start + 4096))
  leads_on (Err e) same place = tt
  leads_on (Ok to) same place = record {
    file = leads.file;
    there = ap (λ w. at (chain_tree w c.root) p) same ∙ leads.there;
    found = ap (λ w. no_file_found (chain_tree w c.root) p) same ∙ leads.found;
    place = record {
      left = place.left;
      ahead = place.ahead;
      bytes = sym (drop-drop 4096 start leads.file) ∙ (ap (drop 4096) leads.place.bytes ∙ (drop-drop 4096 from.read (chain_bytes leads.place.left) ∙ place.bytes));
    };
  }

  pub part_left : {X : Type 0} (told : Type 0) (part : List ℕ) (result : Result X FsRefusal) → told → is_there (tree_under c old) ≡ true → OnOk result (part ≡ take 4096 (drop from.read (chain_bytes leads.place.left))) → IfErr result (λ e. e ≡ no.Device) → OnlyLooks told old new result
      → Answers (mounted_by c) old new (ask.Cat p) result (λ _. TellsPart start part)
  part_left told part (Err e) t there gives only looks = record { ok = tt; err = λ ne. absurd (ne only) }
  part_left told part (Ok x) t there gives only looks = record {
    ok = (
      (leads.file, cat_answered c old p there leads.found ∙ ap (λ y. bytes (bytes_in y)) leads.there, gives ∙ ap (take 4096) (sym leads.place.bytes)),
      ap (λ w. chain_tree w c.root) (looks.looked t).0.world ∙ sym (cat_stays c old p there),
    );
    err = tt;
  }

-- a read of the whole file looks as one from a place
pub told_without : {X Y : Type 0} (c : Client) (old new : DiskView) (p : Path) (start : ℕ) (part : List ℕ) (x : X) (y : Y) → Answers (mounted_by c) old new (ask.Cat p) (Ok x) (λ _. TellsPart start part) → Answers (mounted_by c) old new (ask.Cat p) (Ok y) (λ _. TellsPart start part)
told_without c old new p start part x y told = record { ok = told.ok; err = tt }

pub told_refused : {X Y : Type 0} (c : Client) (old new : DiskView) (p : Path) (start : ℕ) (part : List ℕ) (e : FsRefusal) → Answers {X = X} (mounted_by c) old new (ask.Cat p) (Err e) (λ _. TellsPart start part) → Answers {X = Y} (mounted_by c) old new (ask.Cat p) (Err e) (λ _. TellsPart start part)
told_refused c old new p start part e told = record { ok = tt; err = told.err }

-- a look that is answered leaves the world
pub world_again : {X : Type 0} (told : Type 0) (old new : DiskView) (r : Result X FsRefusal) → told → OnlyLooks told old new r → OnOk r (new.world ≡ old.world)
world_again told old new (Ok x) t looks = (looks.looked t).0.world
world_again told old new (Err e) t looks = tt
