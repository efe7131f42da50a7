-- A directory whose block is written anew: the tree is the one with that node in its place.
use Rattle.std.proofs.Common.{◌≡◌, ℕ, suc, Bool, true, false, not, cond, ◌&&◌, ◌==◌, nat_lt, List, [], ◌∷◌, ◌++◌, refl, sym, ◌∙◌, ap, subst, inl, inr, Option, Some, None, arith}
use Rattle.fs_laws.proofs.Common.{eq-eqb, eqb-true, and_parts, and_from, or_cases, or_right, or_parts, nat_tests, option_and_then, block_len, World, contents, has_number, are_apart, Name, Path, name_lt, none, file, dir, Node, nothing, a_file, a_dir, entry, child, at, is_there, before, with_entry, with_child, with_at, Entry, Inode, directory, regular, inode_in, block_named, with_listed, without_listed, InodeNode, InodeEntries, inode_at, with_first, entries_by, as_dir, node_by, node_at, inode_blocks}
use Rattle.fs_laws.proofs.ListLaws.{any-append, number_left, number_right, first_in}
use Rattle.fs_laws.proofs.InodeLaws.{node_blocks, node_same, root_block}
use Rattle.tsd_model.proofs.ValueLaws.{clash}

-- ---- names are in a line

pub names_meet : (m n : Name) → name_lt m n ≡ false → name_lt n m ≡ false → m ≡ n
names_meet [] [] p q = refl
names_meet [] (d ∷ n) p q = absurd (cc)
names_meet (c ∷ m) [] p q = absurd (cc)
names_meet (c ∷ m) (d ∷ n) p q =
    let one = or_parts (nat_lt c d) ((c == d) && name_lt m n) p in
    let two = or_parts (nat_lt d c) ((d == c) && name_lt n m) q in
    let same : c ≡ d = grind (arith, nat_tests) in
    ap (λ x. x ∷ m) same ∙ ap (λ x. d ∷ x) (names_meet m n (and_not (c == d) (name_lt m n) (eq-eqb c d same) one.1) (and_not (d == c) (name_lt n m) (eq-eqb d c (sym same)) two.1))
  where
    and_not : (s t : Bool) → s ≡ true → (s && t) ≡ false → t ≡ false
    and_not true t e h = h
    and_not false t e h = absurd (cc)

-- ---- an entry in front of others

with_first_is : (n : Name) (x : InodeNode) (es : InodeEntries) → is_there x ≡ true → with_first n x (Some es) ≡ Some (before n x es)
with_first_is n nothing es h = absurd (cc)
with_first_is n (a_file f) es h = refl
with_first_is n (a_dir b inside) es h = refl

-- what an entry in front is made of
parts_of_first : (n : Name) (x : InodeNode) (o : Option InodeEntries) (xs : InodeEntries) → with_first n x o ≡ Some xs → (zs : InodeEntries) × (o ≡ Some zs) × (is_there x ≡ true) × (xs ≡ before n x zs)
parts_of_first n nothing None xs e = absurd (cc)
parts_of_first n nothing (Some zs) xs e = absurd (cc)
parts_of_first n (a_file f) None xs e = absurd (cc)
parts_of_first n (a_file f) (Some zs) xs e = let same : file n f zs ≡ xs = cc in (zs, refl, refl, sym same)
parts_of_first n (a_dir b inside) None xs e = absurd (cc)
parts_of_first n (a_dir b inside) (Some zs) xs e = let same : dir n b inside zs ≡ xs = cc in (zs, refl, refl, sym same)

pub blocks_before : (n : Name) (x : InodeNode) (es : InodeEntries) → inode_blocks (before n x es) ≡ node_blocks x ++ inode_blocks es
blocks_before n nothing es = refl
blocks_before n (a_file f) es = refl
blocks_before n (a_dir b inside) es = refl

-- ---- how a name is found behind an entry in front

pub entry_here : (n m : Name) (x : InodeNode) (es : InodeEntries) → is_there x ≡ true → name_lt n m ≡ false → name_lt m n ≡ false → entry n (before m x es) ≡ x
entry_here n m nothing es h p q = absurd (cc)
entry_here n m (a_file f) es h p q = ap (λ t. cond t nothing (cond (name_lt m n) (entry n es) (a_file f))) p ∙ ap (λ t. cond t (entry n es) (a_file f)) q
entry_here n m (a_dir b inside) es h p q = ap (λ t. cond t nothing (cond (name_lt m n) (entry n es) (a_dir b inside))) p ∙ ap (λ t. cond t (entry n es) (a_dir b inside)) q

pub entry_later : (n m : Name) (x : InodeNode) (es : InodeEntries) → is_there x ≡ true → name_lt n m ≡ false → name_lt m n ≡ true → entry n (before m x es) ≡ entry n es
entry_later n m nothing es h p q = absurd (cc)
entry_later n m (a_file f) es h p q = ap (λ t. cond t nothing (cond (name_lt m n) (entry n es) (a_file f))) p ∙ ap (λ t. cond t (entry n es) (a_file f)) q
entry_later n m (a_dir b inside) es h p q = ap (λ t. cond t nothing (cond (name_lt m n) (entry n es) (a_dir b inside))) p ∙ ap (λ t. cond t (entry n es) (a_dir b inside)) q

pub entry_before : (n m : Name) (x : InodeNode) (es : InodeEntries) → is_there x ≡ true → name_lt n m ≡ true → entry n (before m x es) ≡ nothing
entry_before n m nothing es h p = absurd (cc)
entry_before n m (a_file f) es h p = ap (λ t. cond t nothing (cond (name_lt m n) (entry n es) (a_file f))) p
entry_before n m (a_dir b inside) es h p = ap (λ t. cond t nothing (cond (name_lt m n) (entry n es) (a_dir b inside))) p

-- ---- how an entry is put behind one in front

pub put_here : (n m : Name) (y x : InodeNode) (es : InodeEntries) → is_there x ≡ true → name_lt n m ≡ false → name_lt m n ≡ false → with_entry n y (before m x es) ≡ before n y es
put_here n m y nothing es h p q = absurd (cc)
put_here n m y (a_file f) es h p q = ap (λ t. cond t (before n y (file m f es)) (cond (name_lt m n) (file m f (with_entry n y es)) (before n y es))) p ∙ ap (λ t. cond t (file m f (with_entry n y es)) (before n y es)) q
put_here n m y (a_dir b inside) es h p q = ap (λ t. cond t (before n y (dir m b inside es)) (cond (name_lt m n) (dir m b inside (with_entry n y es)) (before n y es))) p ∙ ap (λ t. cond t (dir m b inside (with_entry n y es)) (before n y es)) q

pub put_later : (n m : Name) (y x : InodeNode) (es : InodeEntries) → is_there x ≡ true → name_lt n m ≡ false → name_lt m n ≡ true → with_entry n y (before m x es) ≡ before m x (with_entry n y es)
put_later n m y nothing es h p q = absurd (cc)
put_later n m y (a_file f) es h p q = ap (λ t. cond t (before n y (file m f es)) (cond (name_lt m n) (file m f (with_entry n y es)) (before n y es))) p ∙ ap (λ t. cond t (file m f (with_entry n y es)) (before n y es)) q
put_later n m y (a_dir b inside) es h p q = ap (λ t. cond t (before n y (dir m b inside es)) (cond (name_lt m n) (dir m b inside (with_entry n y es)) (before n y es))) p ∙ ap (λ t. cond t (dir m b inside (with_entry n y es)) (before n y es)) q

pub put_before : (n m : Name) (y x : InodeNode) (es : InodeEntries) → is_there x ≡ true → name_lt n m ≡ true → with_entry n y (before m x es) ≡ before n y (before m x es)
put_before n m y nothing es h p = absurd (cc)
put_before n m y (a_file f) es h p = ap (λ t. cond t (before n y (file m f es)) (cond (name_lt m n) (file m f (with_entry n y es)) (before n y es))) p
put_before n m y (a_dir b inside) es h p = ap (λ t. cond t (before n y (dir m b inside es)) (cond (name_lt m n) (dir m b inside (with_entry n y es)) (before n y es))) p

-- ---- the list in a directory's block

abbrev pub read_named : (ℕ → InodeNode) → Option ℕ → InodeNode
read_named read None = nothing
read_named read (Some c) = read c

-- what a name of the directory is, by its block
pub entry_is_read : (read : ℕ → InodeNode) (n : Name) (es : List Entry) (xs : InodeEntries) → entries_by read es ≡ Some xs → entry n xs ≡ read_named read (block_named n es)
entry_is_read read n [] xs e = let same : none ≡ xs = cc in ap (entry n) (sym same)
entry_is_read read n (f ∷ fs) xs e =
    let parts = parts_of_first f.name (read f.block) (entries_by read fs) xs e in
    let zs = parts.0 in
    ap (entry n) parts.3 ∙ elim (name_lt n f.name) as (λ t. name_lt n f.name ≡ t → entry n (before f.name (read f.block) zs) ≡ read_named read (cond t None (cond (name_lt f.name n) (block_named n fs) (Some f.block)))) [
      | true ↦ λ p. entry_before n f.name (read f.block) zs parts.2 p
      | false ↦ λ p. elim (name_lt f.name n) as (λ t. name_lt f.name n ≡ t → entry n (before f.name (read f.block) zs) ≡ read_named read (cond t (block_named n fs) (Some f.block))) [
        | true ↦ λ q. entry_later n f.name (read f.block) zs parts.2 p q ∙ entry_is_read read n fs zs parts.1
        | false ↦ λ q. entry_here n f.name (read f.block) zs parts.2 p q
      ] refl
    ] refl

-- the blocks of what a name is are among those of the directory
pub named_blocks_in : (read : ℕ → InodeNode) (n : Name) (c b : ℕ) (es : List Entry) (xs : InodeEntries) → entries_by read es ≡ Some xs → block_named n es ≡ Some c → has_number (node_blocks (read c)) b ≡ true → has_number (inode_blocks xs) b ≡ true
named_blocks_in read n c b [] xs e k h = absurd (cc)
named_blocks_in read n c b (f ∷ fs) xs e k h =
    let parts = parts_of_first f.name (read f.block) (entries_by read fs) xs e in
    let zs = parts.0 in
    let all : inode_blocks xs ≡ node_blocks (read f.block) ++ inode_blocks zs = ap inode_blocks parts.3 ∙ blocks_before f.name (read f.block) zs in
    ap (λ bs. has_number bs b) all ∙ elim (name_lt n f.name) as (λ t. cond t None (cond (name_lt f.name n) (block_named n fs) (Some f.block)) ≡ Some c → has_number (node_blocks (read f.block) ++ inode_blocks zs) b ≡ true) [
      | true ↦ λ g. absurd (cc)
      | false ↦ elim (name_lt f.name n) as (λ t. cond t (block_named n fs) (Some f.block) ≡ Some c → has_number (node_blocks (read f.block) ++ inode_blocks zs) b ≡ true) [
        | true ↦ λ g. number_right (node_blocks (read f.block)) (inode_blocks zs) b (named_blocks_in read n c b fs zs parts.1 g h)
        | false ↦ λ g. let same : f.block ≡ c = cc in number_left (node_blocks (read f.block)) (inode_blocks zs) b (subst (λ x. has_number (node_blocks (read x)) b ≡ true) (sym same) h)
      ]
    ] k

-- ---- lists without repeats

apart_right : (xs ys : List ℕ) → are_apart (xs ++ ys) ≡ true → are_apart ys ≡ true
apart_right [] ys h = h
apart_right (x ∷ xs) ys h = apart_right xs ys (and_parts (not (has_number (xs ++ ys) x)) (are_apart (xs ++ ys)) h).1

apart_left : (xs ys : List ℕ) → are_apart (xs ++ ys) ≡ true → are_apart xs ≡ true
apart_left [] ys h = refl
apart_left (x ∷ xs) ys h = let parts = and_parts (not (has_number (xs ++ ys) x)) (are_apart (xs ++ ys)) h in
    and_from (not (has_number xs x)) _ (elim (has_number xs x) as (λ t. has_number xs x ≡ t → not t ≡ true) [
      | true ↦ λ e. absurd (clash (not (has_number (xs ++ ys) x)) parts.0 (ap not (number_left xs ys x e)))
      | false ↦ λ e. refl
    ] refl) (apart_left xs ys parts.1)

-- what is in one part isn't in the other
not_in_both : (xs ys : List ℕ) (b : ℕ) → are_apart (xs ++ ys) ≡ true → has_number xs b ≡ true → has_number ys b ≡ false
not_in_both [] ys b h m = absurd (cc)
not_in_both (x ∷ xs) ys b h m = let parts = and_parts (not (has_number (xs ++ ys) x)) (are_apart (xs ++ ys)) h in
    elim (or_cases (x == b) (has_number xs b) m) [
      | inl here ↦ elim (has_number ys b) as (λ t. has_number ys b ≡ t → t ≡ false) [
        | true ↦ λ e. absurd (clash (not (has_number (xs ++ ys) x)) parts.0 (ap not (ap (has_number (xs ++ ys)) (eqb-true x b here) ∙ number_right xs ys b e)))
        | false ↦ λ e. refl
      ] refl
      | inr later ↦ not_in_both xs ys b parts.1 later
    ]

not_left : (xs ys : List ℕ) (b : ℕ) → are_apart (xs ++ ys) ≡ true → has_number ys b ≡ true → has_number xs b ≡ false
not_left xs ys b h m = elim (has_number xs b) as (λ t. has_number xs b ≡ t → t ≡ false) [
  | true ↦ λ e. absurd (clash (has_number ys b) m (not_in_both xs ys b h e))
  | false ↦ λ e. refl
] refl

-- ---- entries of which others are read as before

-- what has not block d among its own is read as before
module _ (read other : ℕ → InodeNode) (d : ℕ) (same : (c : ℕ) → is_there (read c) ≡ true → has_number (node_blocks (read c)) d ≡ false → other c ≡ read c) where
  pub entries_stay : (es : List Entry) (xs : InodeEntries) → entries_by read es ≡ Some xs → has_number (inode_blocks xs) d ≡ false → entries_by other es ≡ Some xs
  entries_stay [] xs e away = e
  entries_stay (f ∷ fs) xs e away =
      let parts = parts_of_first f.name (read f.block) (entries_by read fs) xs e in
      let zs = parts.0 in
      let all : inode_blocks xs ≡ node_blocks (read f.block) ++ inode_blocks zs = ap inode_blocks parts.3 ∙ blocks_before f.name (read f.block) zs in
      let split = or_parts (has_number (node_blocks (read f.block)) d) (has_number (inode_blocks zs) d) (sym (ap (λ bs. has_number bs d) all ∙ any-append (λ x. x == d) (node_blocks (read f.block)) (inode_blocks zs)) ∙ away) in
      ap (λ x. with_first f.name x (entries_by other fs)) (same f.block parts.2 split.0)
      ∙ (ap (with_first f.name (read f.block)) (entries_stay fs zs parts.1 split.1) ∙ (with_first_is f.name (read f.block) zs parts.2 ∙ ap (λ x. Some x) (sym parts.3)))

  -- the one with block d among its own is another node now
  pub entries_change : (n : Name) (c : ℕ) (y : InodeNode) → is_there y ≡ true → other c ≡ y → has_number (node_blocks (read c)) d ≡ true
      → (es : List Entry) (xs : InodeEntries) → entries_by read es ≡ Some xs → are_apart (inode_blocks xs) ≡ true → block_named n es ≡ Some c → entries_by other es ≡ Some (with_entry n y xs)
  entries_change n c y there is inside [] xs e apart k = absurd (cc)
  entries_change n c y there is inside (f ∷ fs) xs e apart k =
      let parts = parts_of_first f.name (read f.block) (entries_by read fs) xs e in
      let zs = parts.0 in
      let all : inode_blocks xs ≡ node_blocks (read f.block) ++ inode_blocks zs = ap inode_blocks parts.3 ∙ blocks_before f.name (read f.block) zs in
      let split : are_apart (node_blocks (read f.block) ++ inode_blocks zs) ≡ true = ap are_apart (sym all) ∙ apart in
      elim (name_lt n f.name) as (λ t. name_lt n f.name ≡ t → cond t None (cond (name_lt f.name n) (block_named n fs) (Some f.block)) ≡ Some c → with_first f.name (other f.block) (entries_by other fs) ≡ Some (with_entry n y xs)) [
        | true ↦ λ p g. absurd (cc)
        | false ↦ λ p. elim (name_lt f.name n) as (λ t. name_lt f.name n ≡ t → cond t (block_named n fs) (Some f.block) ≡ Some c → with_first f.name (other f.block) (entries_by other fs) ≡ Some (with_entry n y xs)) [
          | true ↦ λ q g.
              let away = not_left (node_blocks (read f.block)) (inode_blocks zs) d split (named_blocks_in read n c d fs zs parts.1 g inside) in
              ap (λ z. with_first f.name z (entries_by other fs)) (same f.block parts.2 away)
              ∙ (ap (with_first f.name (read f.block)) (entries_change n c y there is inside fs zs parts.1 (apart_right (node_blocks (read f.block)) (inode_blocks zs) split) g)
              ∙ (with_first_is f.name (read f.block) (with_entry n y zs) parts.2
              ∙ ap (λ z. Some z) (sym (ap (with_entry n y) parts.3 ∙ put_later n f.name y (read f.block) zs parts.2 p q))))
          | false ↦ λ q g.
              let one : f.block ≡ c = cc in
              let name : f.name ≡ n = names_meet f.name n q p in
              let away = not_in_both (node_blocks (read f.block)) (inode_blocks zs) d split (subst (λ z. has_number (node_blocks (read z)) d ≡ true) (sym one) inside) in
              ap (λ z. with_first f.name z (entries_by other fs)) (ap other one ∙ is)
              ∙ (ap (with_first f.name y) (entries_stay fs zs parts.1 away)
              ∙ (with_first_is f.name y zs there
              ∙ ap (λ z. Some z) (ap (λ m. before m y zs) name ∙ sym (ap (with_entry n y) parts.3 ∙ put_here n f.name y (read f.block) zs parts.2 p q))))
        ] refl
      ] refl k

  -- the list with an entry of that name put in, or put in the old one's place
  pub entries_put : (e : Entry) (y : InodeNode) → is_there y ≡ true → other e.block ≡ y → (es : List Entry) (xs : InodeEntries) → entries_by read es ≡ Some xs → has_number (inode_blocks xs) d ≡ false → entries_by other (with_listed e es) ≡ Some (with_entry e.name y xs)
  entries_put e y there is [] xs i away = let same_end : none ≡ xs = cc in
      ap (λ z. with_first e.name z (Some none)) is ∙ (with_first_is e.name y none there ∙ ap (λ z. Some (with_entry e.name y z)) same_end)
  entries_put e y there is (f ∷ fs) xs i away =
      let parts = parts_of_first f.name (read f.block) (entries_by read fs) xs i in
      let zs = parts.0 in
      let all : inode_blocks xs ≡ node_blocks (read f.block) ++ inode_blocks zs = ap inode_blocks parts.3 ∙ blocks_before f.name (read f.block) zs in
      let split = or_parts (has_number (node_blocks (read f.block)) d) (has_number (inode_blocks zs) d) (sym (ap (λ bs. has_number bs d) all ∙ any-append (λ x. x == d) (node_blocks (read f.block)) (inode_blocks zs)) ∙ away) in
      elim (name_lt e.name f.name) as (λ t. name_lt e.name f.name ≡ t → entries_by other (cond t (e ∷ f ∷ fs) (cond (name_lt f.name e.name) (f ∷ with_listed e fs) (e ∷ fs))) ≡ Some (with_entry e.name y xs)) [
        | true ↦ λ p.
            ap (λ z. with_first e.name z (entries_by other (f ∷ fs))) is
            ∙ (ap (with_first e.name y) (entries_stay (f ∷ fs) xs i away)
            ∙ (with_first_is e.name y xs there ∙ ap (λ z. Some z) (ap (before e.name y) parts.3 ∙ sym (ap (with_entry e.name y) parts.3 ∙ put_before e.name f.name y (read f.block) zs parts.2 p))))
        | false ↦ λ p. elim (name_lt f.name e.name) as (λ t. name_lt f.name e.name ≡ t → entries_by other (cond t (f ∷ with_listed e fs) (e ∷ fs)) ≡ Some (with_entry e.name y xs)) [
          | true ↦ λ q.
              ap (λ z. with_first f.name z (entries_by other (with_listed e fs))) (same f.block parts.2 split.0)
              ∙ (ap (with_first f.name (read f.block)) (entries_put e y there is fs zs parts.1 split.1)
              ∙ (with_first_is f.name (read f.block) (with_entry e.name y zs) parts.2
              ∙ ap (λ z. Some z) (sym (ap (with_entry e.name y) parts.3 ∙ put_later e.name f.name y (read f.block) zs parts.2 p q))))
          | false ↦ λ q.
              ap (λ z. with_first e.name z (entries_by other fs)) is
              ∙ (ap (with_first e.name y) (entries_stay fs zs parts.1 split.1)
              ∙ (with_first_is e.name y zs there ∙ ap (λ z. Some z) (sym (ap (with_entry e.name y) parts.3 ∙ put_here e.name f.name y (read f.block) zs parts.2 p q))))
        ] refl
      ] refl

  -- the list without the entry of a name
  pub entries_drop : (n : Name) (es : List Entry) (xs : InodeEntries) → entries_by read es ≡ Some xs → has_number (inode_blocks xs) d ≡ false → entries_by other (without_listed n es) ≡ Some (with_entry n nothing xs)
  entries_drop n [] xs i away = let same_end : none ≡ xs = cc in ap (λ z. Some (with_entry n nothing z)) same_end
  entries_drop n (f ∷ fs) xs i away =
      let parts = parts_of_first f.name (read f.block) (entries_by read fs) xs i in
      let zs = parts.0 in
      let all : inode_blocks xs ≡ node_blocks (read f.block) ++ inode_blocks zs = ap inode_blocks parts.3 ∙ blocks_before f.name (read f.block) zs in
      let split = or_parts (has_number (node_blocks (read f.block)) d) (has_number (inode_blocks zs) d) (sym (ap (λ bs. has_number bs d) all ∙ any-append (λ x. x == d) (node_blocks (read f.block)) (inode_blocks zs)) ∙ away) in
      elim (name_lt n f.name) as (λ t. name_lt n f.name ≡ t → entries_by other (cond t (f ∷ fs) (cond (name_lt f.name n) (f ∷ without_listed n fs) fs)) ≡ Some (with_entry n nothing xs)) [
        | true ↦ λ p. entries_stay (f ∷ fs) xs i away ∙ ap (λ z. Some z) (parts.3 ∙ sym (ap (with_entry n nothing) parts.3 ∙ put_before n f.name nothing (read f.block) zs parts.2 p))
        | false ↦ λ p. elim (name_lt f.name n) as (λ t. name_lt f.name n ≡ t → entries_by other (cond t (f ∷ without_listed n fs) fs) ≡ Some (with_entry n nothing xs)) [
          | true ↦ λ q.
              ap (λ z. with_first f.name z (entries_by other (without_listed n fs))) (same f.block parts.2 split.0)
              ∙ (ap (with_first f.name (read f.block)) (entries_drop n fs zs parts.1 split.1)
              ∙ (with_first_is f.name (read f.block) (with_entry n nothing zs) parts.2
              ∙ ap (λ z. Some z) (sym (ap (with_entry n nothing) parts.3 ∙ put_later n f.name nothing (read f.block) zs parts.2 p q))))
          | false ↦ λ q.
              entries_stay fs zs parts.1 split.1
              ∙ ap (λ z. Some z) (sym (ap (with_entry n nothing) parts.3 ∙ put_here n f.name nothing (read f.block) zs parts.2 p q))
        ] refl
      ] refl

-- ---- a directory at a path

pub nowhere : (ns : Path) (d : ℕ) (ys : InodeEntries) → at nothing ns ≡ a_dir d ys → ⊥
nowhere [] d ys e = cc
nowhere (n ∷ ns) d ys e = nowhere ns d ys e

-- the blocks of an entry are among those of all
pub entry_blocks_in : (n : Name) (es : InodeEntries) (b : ℕ) → has_number (node_blocks (entry n es)) b ≡ true → has_number (inode_blocks es) b ≡ true
entry_blocks_in n none b h = absurd (cc)
entry_blocks_in n (file m f rest) b h = elim (name_lt n m) as (λ t. has_number (node_blocks (cond t nothing (cond (name_lt m n) (entry n rest) (a_file f)))) b ≡ true → has_number (f.block ∷ inode_blocks rest) b ≡ true) [
  | true ↦ λ g. absurd (cc)
  | false ↦ elim (name_lt m n) as (λ t. has_number (node_blocks (cond t (entry n rest) (a_file f))) b ≡ true → has_number (f.block ∷ inode_blocks rest) b ≡ true) [
    | true ↦ λ g. or_right (f.block == b) _ (entry_blocks_in n rest b g)
    | false ↦ λ g. number_left (f.block ∷ []) (inode_blocks rest) b g
  ]
] h
entry_blocks_in n (dir m c inside rest) b h = elim (name_lt n m) as (λ t. has_number (node_blocks (cond t nothing (cond (name_lt m n) (entry n rest) (a_dir c inside)))) b ≡ true → has_number (c ∷ (inode_blocks inside ++ inode_blocks rest)) b ≡ true) [
  | true ↦ λ g. absurd (cc)
  | false ↦ elim (name_lt m n) as (λ t. has_number (node_blocks (cond t (entry n rest) (a_dir c inside))) b ≡ true → has_number (c ∷ (inode_blocks inside ++ inode_blocks rest)) b ≡ true) [
    | true ↦ λ g. or_right (c == b) _ (number_right (inode_blocks inside) (inode_blocks rest) b (entry_blocks_in n rest b g))
    | false ↦ λ g. number_left (c ∷ inode_blocks inside) (inode_blocks rest) b g
  ]
] h

-- what stands at a path has its block among those of the whole
pub block_at : (p : Path) (x : InodeNode) (d : ℕ) (ys : InodeEntries) → at x p ≡ a_dir d ys → has_number (node_blocks x) d ≡ true
block_at [] x d ys e = ap (λ z. has_number (node_blocks z) d) e ∙ first_in d (inode_blocks ys)
block_at (n ∷ ns) nothing d ys e = absurd (nowhere ns d ys e)
block_at (n ∷ ns) (a_file f) d ys e = absurd (nowhere ns d ys e)
block_at (n ∷ ns) (a_dir b es) d ys e = or_right (b == d) _ (entry_blocks_in n es d (block_at ns (entry n es) d ys e))

-- what a name is has no block twice where the directory has none
apart_named : (read : ℕ → InodeNode) (n : Name) (c : ℕ) (es : List Entry) (xs : InodeEntries) → entries_by read es ≡ Some xs → block_named n es ≡ Some c → are_apart (inode_blocks xs) ≡ true → are_apart (node_blocks (read c)) ≡ true
apart_named read n c [] xs e k h = absurd (cc)
apart_named read n c (f ∷ fs) xs e k h =
    let parts = parts_of_first f.name (read f.block) (entries_by read fs) xs e in
    let zs = parts.0 in
    let all : inode_blocks xs ≡ node_blocks (read f.block) ++ inode_blocks zs = ap inode_blocks parts.3 ∙ blocks_before f.name (read f.block) zs in
    let split : are_apart (node_blocks (read f.block) ++ inode_blocks zs) ≡ true = ap are_apart (sym all) ∙ h in
    elim (name_lt n f.name) as (λ t. cond t None (cond (name_lt f.name n) (block_named n fs) (Some f.block)) ≡ Some c → are_apart (node_blocks (read c)) ≡ true) [
      | true ↦ λ g. absurd (cc)
      | false ↦ elim (name_lt f.name n) as (λ t. cond t (block_named n fs) (Some f.block) ≡ Some c → are_apart (node_blocks (read c)) ≡ true) [
        | true ↦ λ g. apart_named read n c fs zs parts.1 g (apart_right (node_blocks (read f.block)) (inode_blocks zs) split)
        | false ↦ λ g. let same : f.block ≡ c = cc in subst (λ x. are_apart (node_blocks (read x)) ≡ true) same (apart_left (node_blocks (read f.block)) (inode_blocks zs) split)
      ]
    ] k

-- where a directory stands at a path, something stands there once it is replaced
there_at : (p : Path) (z x : InodeNode) (d : ℕ) (ys : InodeEntries) → at x p ≡ a_dir d ys → is_there z ≡ true → is_there (with_at p z x) ≡ true
there_at [] z x d ys e h = h
there_at (n ∷ ns) z nothing d ys e h = absurd (nowhere ns d ys e)
there_at (n ∷ ns) z (a_file f) d ys e h = absurd (nowhere ns d ys e)
there_at (n ∷ ns) z (a_dir b es) d ys e h = refl

-- a directory isn't in the block of one on the way to it
other_block : (n : Name) (ns : Path) (x : InodeNode) (b d : ℕ) (ys : InodeEntries) → ((c : ℕ) (es : InodeEntries) → x ≡ a_dir c es → c ≡ b) → at (child n x) ns ≡ a_dir d ys → are_apart (node_blocks x) ≡ true → (b == d) ≡ false
other_block n ns nothing b d ys own e h = absurd (nowhere ns d ys e)
other_block n ns (a_file f) b d ys own e h = absurd (nowhere ns d ys e)
other_block n ns (a_dir c es) b d ys own e h =
    let inside : has_number (inode_blocks es) d ≡ true = entry_blocks_in n es d (block_at ns (entry n es) d ys e) in
    let once = (and_parts (not (has_number (inode_blocks es) c)) (are_apart (inode_blocks es)) h).0 in
    elim (b == d) as (λ t. (b == d) ≡ t → t ≡ false) [
      | true ↦ λ g. absurd (clash (not (has_number (inode_blocks es) c)) once (ap not (ap (has_number (inode_blocks es)) (own c es refl ∙ eqb-true b d g) ∙ inside)))
      | false ↦ λ g. refl
    ] refl

-- how many levels a node at a path is below
abbrev pub deeper : Path → ℕ → ℕ
deeper [] more = more
deeper (n ∷ ns) more = suc (deeper ns more)

-- one directory on the way
module _ (read other : ℕ → InodeNode) (d : ℕ) (same : (c : ℕ) → is_there (read c) ≡ true → has_number (node_blocks (read c)) d ≡ false → other c ≡ read c) (n : Name) (ns : Path) (ys : InodeEntries) (z : InodeNode) (there : is_there z ≡ true)
    (below : (c : ℕ) → at (read c) ns ≡ a_dir d ys → are_apart (node_blocks (read c)) ≡ true → other c ≡ with_at ns z (read c)) where
  named_on : (b : ℕ) (es : List Entry) (xs : InodeEntries) (o : Option ℕ) → entries_by read es ≡ Some xs → block_named n es ≡ o → entry n xs ≡ read_named read o → at (entry n xs) ns ≡ a_dir d ys → are_apart (inode_blocks xs) ≡ true
      → as_dir b (entries_by other es) ≡ a_dir b (with_entry n (with_at ns z (entry n xs)) xs)
  named_on b es xs None i k is e h = absurd (nowhere ns d ys (ap (λ x. at x ns) (sym is) ∙ e))
  named_on b es xs (Some c) i k is e h =
      let down : at (read c) ns ≡ a_dir d ys = ap (λ x. at x ns) (sym is) ∙ e in
      let changed = below c down (apart_named read n c es xs i k h) in
      ap (as_dir b) (entries_change read other d same n c (with_at ns z (read c)) (there_at ns z (read c) d ys down there) changed (block_at ns (read c) d ys down) es xs i h k)
      ∙ ap (λ x. a_dir b (with_entry n (with_at ns z x) xs)) (sym is)

  listed_on : (b : ℕ) (es : List Entry) (o : Option InodeEntries) → entries_by read es ≡ o → at (child n (as_dir b o)) ns ≡ a_dir d ys → are_apart (node_blocks (as_dir b o)) ≡ true
      → as_dir b (entries_by other es) ≡ with_child n (with_at ns z (child n (as_dir b o))) (as_dir b o)
  listed_on b es None i e h = absurd (nowhere ns d ys e)
  listed_on b es (Some xs) i e h = named_on b es xs (block_named n es) i refl (entry_is_read read n es xs i) e (and_parts (not (has_number (inode_blocks xs) b)) (are_apart (inode_blocks xs)) h).1

  passes_on : (b : ℕ) (o : Option Inode) → at (child n (node_by read b o)) ns ≡ a_dir d ys → are_apart (node_blocks (node_by read b o)) ≡ true
      → node_by other b o ≡ with_child n (with_at ns z (child n (node_by read b o))) (node_by read b o)
  passes_on b None e h = absurd (nowhere ns d ys e)
  passes_on b (Some (regular size blocks)) e h = absurd (nowhere ns d ys e)
  passes_on b (Some (directory es)) e h = listed_on b es (entries_by read es) refl e h

-- Block d, a directory at a path, is written anew, and nothing else: where the block is now another node, so is the path.
module _ (w next : World) (size : next.geometry ≡ w.geometry) (d : ℕ) (rest : (b : ℕ) → (b == d) ≡ false → contents next b ≡ contents w b) where
  away_same : (bs : List ℕ) → has_number bs d ≡ false → (b : ℕ) → has_number bs b ≡ true → contents next b ≡ contents w b
  away_same bs away b m = rest b (elim (b == d) as (λ t. (b == d) ≡ t → t ≡ false) [
    | true ↦ λ e. absurd (clash (has_number bs b) m (ap (has_number bs) (eqb-true b d e) ∙ away))
    | false ↦ λ e. refl
  ] refl)

  pub node_away : (more c : ℕ) → is_there (node_at w more c) ≡ true → has_number (node_blocks (node_at w more c)) d ≡ false → node_at next more c ≡ node_at w more c
  node_away more c there away = node_same w next size more c there (away_same (node_blocks (node_at w more c)) away)

  pub written_at : (p : Path) (more b : ℕ) (ys : InodeEntries) (z : InodeNode) → at (node_at w (deeper p more) b) p ≡ a_dir d ys → are_apart (node_blocks (node_at w (deeper p more) b)) ≡ true → node_at next more d ≡ z → is_there z ≡ true
      → node_at next (deeper p more) b ≡ with_at p z (node_at w (deeper p more) b)
  written_at [] more b ys z e apart is there = ap (node_at next more) (sym (root_block w more b d ys e)) ∙ is
  written_at (n ∷ ns) more b ys z e apart is there =
      let m = deeper ns more in
      let off = other_block n ns (node_at w (suc (deeper ns more)) b) b d ys (λ c es i. root_block w (suc (deeper ns more)) b c es i) e apart in
      let here : inode_at next b ≡ inode_at w b =
      ap (λ g. option_and_then (inode_in (block_len g)) (contents next b)) size ∙ ap (option_and_then (inode_in (block_len w.geometry))) (rest b off) in
      ap (node_by (λ c. node_at next (deeper ns more) c) b) here
      ∙ passes_on (λ c. node_at w (deeper ns more) c) (λ c. node_at next (deeper ns more) c) d (λ c h away. node_away (deeper ns more) c h away) n ns ys z there
      (λ c down once. written_at ns more c ys z down once is there) b (inode_at w b) e apart

  -- A directory's block gets the list with a new or replaced entry: the tree is the one with that entry.
  pub entry_is_put : (p : Path) (more b : ℕ) (es : List Entry) (xs : InodeEntries) (e : Entry) (y : InodeNode)
      → at (node_at w (deeper p (suc more)) b) p ≡ a_dir d xs → are_apart (node_blocks (node_at w (deeper p (suc more)) b)) ≡ true
      → entries_by (λ c. node_at w more c) es ≡ Some xs → has_number (inode_blocks xs) d ≡ false
      → inode_at next d ≡ Some (directory (with_listed e es)) → node_at next more e.block ≡ y → is_there y ≡ true
      → node_at next (deeper p (suc more)) b ≡ with_at p (a_dir d (with_entry e.name y xs)) (node_at w (deeper p (suc more)) b)
  entry_is_put p more b es xs e y at_p apart listed away written is there =
      written_at p (suc more) b xs (a_dir d (with_entry e.name y xs)) at_p apart
      (ap (node_by (λ c. node_at next more c) d) written ∙ ap (as_dir d) (entries_put (λ c. node_at w more c) (λ c. node_at next more c) d (λ c h far. node_away more c h far) e y there is es xs listed away)) refl

  -- and the one without an entry, where its name is taken out of the list
  pub entry_is_dropped : (p : Path) (more b : ℕ) (es : List Entry) (xs : InodeEntries) (n : Name)
      → at (node_at w (deeper p (suc more)) b) p ≡ a_dir d xs → are_apart (node_blocks (node_at w (deeper p (suc more)) b)) ≡ true
      → entries_by (λ c. node_at w more c) es ≡ Some xs → has_number (inode_blocks xs) d ≡ false
      → inode_at next d ≡ Some (directory (without_listed n es))
      → node_at next (deeper p (suc more)) b ≡ with_at p (a_dir d (with_entry n nothing xs)) (node_at w (deeper p (suc more)) b)
  entry_is_dropped p more b es xs n at_p apart listed away written =
      written_at p (suc more) b xs (a_dir d (with_entry n nothing xs)) at_p apart
      (ap (node_by (λ c. node_at next more c) d) written ∙ ap (as_dir d) (entries_drop (λ c. node_at w more c) (λ c. node_at next more c) d (λ c h far. node_away more c h far) n es xs listed away)) refl

-- ---- a path and its last name

-- a node at a name of the directory at a path
pub with_last : {D F : Type 0} (p : Path) (n : Name) (y x : Node D F) → with_at (p ++ n ∷ []) y x ≡ with_at p (with_child n y (at x p)) x
with_last [] n y x = refl
with_last (m ∷ ms) n y x = ap (λ z. with_child m z x) (with_last ms n y (child m x))
