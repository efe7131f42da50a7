-- The line of the names in a directory, name by name.
use Rattle.std.proofs.Common.{◌≡◌, ℕ, ◌+◌, ◌-◌, ◌<◌, ◌≤◌, Bool, true, false, not, cond, List, [], ◌∷◌, ◌++◌, length, refl, sym, ◌∙◌, ap, subst, arith, append-nil, append_assoc, length-append, Option, Some, None}
use Rattle.shell_server.proofs.Common.{Image, codes, find, flat_map, is_some, World, free_count, line_feeds, feeds-append, Name, Path, name_lt, is_name, is_below_first_name, are_ascending, Tree, nothing, at, names_in, Answer, listed, refused, need_of, refusal, judged, step_in, ShellAsk, FsRefusal, TellsNext, above, is_empty, answer_text, names_head, ShellState, AnswersByLine, IsInParts, RestsIn, heard, shell_step, tree_by, tree_in, tree_of, IsNameListing, and_parts, list_all, IsValid, is_change, next_dir}
use Rattle.std.proofs.lemmas.Grind.{flat_map-append}
use Rattle.fs_trees.specs.ChainTree.{names_max}
use Rattle.shell_server.proofs.KeptLaws.{look_answered}
use Rattle.fs_trees.specs.declared.ask.ShellAsk.TheVariants as ask
use Rattle.shell_text.proofs.AnswerLaws.{names_in_parts}
use Rattle.fs_laws.proofs.ListingLaws.{tree_lists, nothing_lists}
use Rattle.fs_laws.proofs.OrderLaws.{below_only, lt_irreflexive, lt_trans}
use Rattle.shell_text.proofs.LookedLaws.{looked_none}

-- ---- names in order

-- the first of some names
abbrev pub first_of : List Name → Option Name
first_of [] = None
first_of (n ∷ ns) = Some n

below_all : (d n : Name) (ds es : List Name) → is_below_first_name d (ds ++ n ∷ es) ≡ true → are_ascending (ds ++ n ∷ es) ≡ true → name_lt d n ≡ true
below_all d n [] es h up = h
below_all d n (e ∷ ds) es h up =
    let parts = and_parts (is_below_first_name e (ds ++ n ∷ es)) (are_ascending (ds ++ n ∷ es)) up in
    lt_trans d e n h (below_all e n ds es parts.0 parts.1)

above_itself : (n : Name) (es : List Name) → is_below_first_name n es ≡ true → find (name_lt n) es ≡ first_of es
above_itself n [] h = refl
above_itself n (e ∷ es) h = ap (λ t. cond t (Some e) (find (name_lt n) es)) h

-- above a name stands the one behind it
above_next : (ds : List Name) (n : Name) (es : List Name) → are_ascending (ds ++ n ∷ es) ≡ true → above n (ds ++ n ∷ es) ≡ first_of es
above_next [] n es up =
    let parts = and_parts (is_below_first_name n es) (are_ascending es) up in
    ap (λ t. cond t (Some n) (find (name_lt n) es)) (lt_irreflexive n) ∙ above_itself n es parts.0
above_next (d ∷ ds) n es up =
    let parts = and_parts (is_below_first_name d (ds ++ n ∷ es)) (are_ascending (ds ++ n ∷ es)) up in
    ap (λ t. cond t (Some d) (find (name_lt n) (ds ++ n ∷ es))) (below_only d n (below_all d n ds es parts.0 parts.1)) ∙ above_next ds n es parts.1

is_some_name : (n : Name) → is_name n ≡ true → name_lt [] n ≡ true
is_some_name [] h = absurd (cc)
is_some_name (c ∷ n) h = refl

-- above the empty name stands the first
pub above_none : (ns : List Name) → IsNameListing ns → above [] ns ≡ first_of ns
above_none [] h = refl
above_none (n ∷ ns) h = ap (λ t. cond t (Some n) (find (name_lt []) ns)) (is_some_name n (and_parts (is_name n) (list_all is_name ns) h.0).0)

-- ---- no line feeds

name_none : (n : Name) → is_name n ≡ true → line_feeds n ≡ 0
name_none n h = let all = looked_none (next_dir n) h in omega (arith, feeds-append (codes "next ") (n ++ codes " dir"), feeds-append n (codes " dir"), all)

names_none : (ns : List Name) → list_all is_name ns ≡ true → line_feeds (flat_map (λ n. 32 ∷ n) ns) ≡ 0
names_none [] h = refl
names_none (n ∷ ns) h =
    let parts = and_parts (is_name n) (list_all is_name ns) h in
    let one = name_none n parts.0 in
    let more = names_none ns parts.1 in
    feeds-append (32 ∷ n) (flat_map (λ m. 32 ∷ m) ns) ∙ omega (arith, one, more)

head_none : (b : Bool) → line_feeds (names_head b) ≡ 0
head_none true = refl
head_none false = refl

names_line : (ns : List Name) → IsNameListing ns → line_feeds (answer_text (listed ns)) ≡ 0
names_line ns h = ap line_feeds (sym (names_in_parts ns)) ∙ (feeds-append (names_head (is_empty ns)) (flat_map (λ n. 32 ∷ n) ns) ∙ omega (arith, head_none (is_empty ns), names_none ns h.0))

-- ---- the parts

abbrev spelled : List Name → List ℕ
spelled ns = flat_map (λ n. 32 ∷ n) ns

-- what was sent once some of the names were, and what comes behind it
abbrev pub up_to : List Name → List Name → List ℕ
up_to ns ds = names_head (is_empty ns) ++ spelled ds

abbrev pub behind : List Name → List ℕ
behind es = spelled es ++ 10 ∷ []

abbrev pub whole_line : List Name → List ℕ
whole_line ns = answer_text (listed ns) ++ 10 ∷ []

pub line_parts : (ns ds es : List Name) → ns ≡ ds ++ es → whole_line ns ≡ up_to ns ds ++ behind es
line_parts ns ds es is =
    ap (λ l. l ++ 10 ∷ []) (sym (names_in_parts ns) ∙ ap (λ ms. names_head (is_empty ns) ++ spelled ms) is ∙ ap (λ l. names_head (is_empty ns) ++ l) (flat_map-append (λ n. 32 ∷ n) ds es) ∙ sym (append_assoc (names_head (is_empty ns)) (spelled ds) (spelled es)))
    ∙ append_assoc (up_to ns ds) (spelled es) (10 ∷ [])

pub line_headed : (ns : List Name) → whole_line ns ≡ names_head (is_empty ns) ++ behind ns
line_headed ns = ap (λ l. l ++ 10 ∷ []) (sym (names_in_parts ns)) ∙ append_assoc (names_head (is_empty ns)) (spelled ns) (10 ∷ [])

pub up_to_none : (ns : List Name) → up_to ns [] ≡ names_head (is_empty ns)
up_to_none ns = append-nil (names_head (is_empty ns))

-- the next name
pub up_to_next : (ns ds : List Name) (n : Name) → up_to ns ds ++ 32 ∷ n ≡ up_to ns (ds ++ n ∷ [])
up_to_next ns ds n =
    append_assoc (names_head (is_empty ns)) (spelled ds) (32 ∷ n)
    ∙ ap (λ l. names_head (is_empty ns) ++ l) (ap (λ l. spelled ds ++ l) (sym (append-nil (32 ∷ n))) ∙ sym (flat_map-append (λ m. 32 ∷ m) ds (n ∷ [])))

pub line_next : (ns ds : List Name) (n : Name) (es : List Name) → ns ≡ ds ++ n ∷ es → whole_line ns ≡ up_to ns ds ++ ((32 ∷ n) ++ behind es)
line_next ns ds n es is = line_parts ns ds (n ∷ es) is ∙ ap (λ l. up_to ns ds ++ l) (append_assoc (32 ∷ n) (spelled es) (10 ∷ []))

-- nothing is left
pub line_end : (ns ds : List Name) → ns ≡ ds ++ [] → whole_line ns ≡ up_to ns ds ++ 10 ∷ []
line_end ns ds is = line_parts ns ds [] is

-- ---- the answer

ls_listed : (t : Tree) (free : ℕ) (path : Path) (o : Option FsRefusal) (ns : List Name) → (judged t free (ask.Ls path) o).answer ≡ listed ns → names_in (at t path) ≡ ns
ls_listed t free path (Some r) ns e = absurd (cc)
ls_listed t free path None ns e = cc

-- what is answered is a directory's list
pub lists : (s : ShellState) (path : Path) (ns : List Name) → heard s.files.kind (ask.Ls path) ≡ ask.Ls path → s.under_way ≡ None → IsValid s.world → (shell_step s (ask.Ls path)).answer ≡ listed ns → IsNameListing ns
lists s path ns hears still valid is =
    let there = sym (ap (λ (b : ShellAsk). (step_in s.files.kind s.world s.files.root (tree_in s) b).answer) hears) ∙ is in
    let same : names_in (at (tree_in s) path) ≡ ns = ls_listed (tree_in s) (free_count s.world) path (refusal s.files.kind s.world.geometry (tree_in s) (free_count s.world) (length s.world.pairs) (need_of s.files.kind s.world s.files.root (tree_in s) (ask.Ls path)) (ask.Ls path)) ns there in
    subst (λ ms. IsNameListing ms) same (by s.files.mounted)
  where
    by : (t : Bool) → IsNameListing (names_in (at (cond t (tree_of s) nothing) path))
    by true = subst (λ (o : Option ShellAsk). IsNameListing (names_in (at (tree_by s.files s.world o) path))) (sym still) (tree_lists s.files.kind s.world s.files.root path valid.raw.sized.lawful)
    by false = nothing_lists path

pub ls_answers : (start : World) (s : ShellState) (path : Path) (ns : List Name) → heard s.files.kind (ask.Ls path) ≡ ask.Ls path → (shell_step s (ask.Ls path)).answer ≡ listed ns → (x : Image) → RestsIn start s x → AnswersByLine start s (ask.Ls path) (whole_line ns) s
ls_answers start s path ns hears is x rests =
    look_answered start s (ask.Ls path) (listed ns) is (names_line ns (lists s path ns hears rests.at_rest rests.kept.valid is)) x rests (ap is_change hears)

pub ls_in_parts : (path : Path) (ns : List Name) → IsInParts (ask.Ls path) (whole_line ns)
ls_in_parts path ns = (ns, refl)

pub ls_not_refused : (ns : List Name) (r : FsRefusal) (a : Answer) → a ≡ listed ns → a ≡ refused r → ⊥
ls_not_refused ns r a is refuses = cc

-- what was read is of these names
pub next_is : (s u : ShellState) (q : ShellAsk) (ns : List Name) (n : Name) (next : Option Name) → u ≡ s → (shell_step s q).answer ≡ listed ns → TellsNext n next (shell_step u q).answer → next ≡ above n ns
next_is s u q ns n next same is tells =
    let both : listed tells.0 ≡ listed ns = sym tells.1 ∙ (ap (λ (w : ShellState). (shell_step w q).answer) same ∙ is) in
    let one : tells.0 ≡ ns = cc in
    tells.2 ∙ ap (λ ms. above n ms) one

-- the name behind the ones that were sent
pub next_behind : (ns ds : List Name) (n : Name) (es : List Name) → IsNameListing ns → ns ≡ ds ++ n ∷ es → above n ns ≡ first_of es
next_behind ns ds n es h is = ap (above n) is ∙ above_next ds n es (subst (λ ms. are_ascending ms ≡ true) is h.1)

pub no_names : (t : Bool) (ns : List Name) (first : Option Name) → is_some first ≡ not t → first ≡ first_of ns → t ≡ is_empty ns
no_names true [] first h e = refl
no_names true (n ∷ ns) first h e = let same = sym h ∙ ap (λ (o : Option Name). is_some o) e in absurd (cc)
no_names false [] first h e = let same = sym h ∙ ap (λ (o : Option Name). is_some o) e in absurd (cc)
no_names false (n ∷ ns) first h e = refl

-- what was read first is the first name
pub first_is : (a : Answer) (ns : List Name) (first : Option Name) → a ≡ listed ns → TellsNext [] first a → IsNameListing ns → first ≡ first_of ns
first_is a ns first is tells h =
    let both : listed tells.0 ≡ listed ns = sym tells.1 ∙ is in
    let one : tells.0 ≡ ns = cc in
    tells.2 ∙ ap (λ ms. above [] ms) one ∙ above_none ns h

-- ---- the loop

-- This was sent of the line of these names, and that is the next of those that are left. So many more may come.
abbrev pub IsSaid : Option Name → ℕ → List ℕ → List Name → Type 0
IsSaid next left p ns = (ds : List Name) × (es : List Name) × (ns ≡ ds ++ es) × (next ≡ first_of es) × (left + length ds ≡ 4096) × (p ≡ up_to ns ds)

pub said_none : (ns : List Name) (p : List ℕ) (first : Option Name) → first ≡ first_of ns → p ≡ names_head (is_empty ns) → IsSaid first 4096 p ns
said_none ns p first e is = ([], ns, refl, e, refl, is ∙ sym (up_to_none ns))

some_left : (n : Name) (es : List Name) → Some n ≡ first_of es → (fs : List Name) × (es ≡ n ∷ fs)
some_left n [] e = absurd (cc)
some_left n (m ∷ es) e = let same : n ≡ m = cc in (es, ap (λ k. k ∷ es) (sym same))

none_left : (es : List Name) → None ≡ first_of es → es ≡ []
none_left [] e = refl
none_left (m ∷ es) e = absurd (cc)

too_many : (ns ds es : List Name) → ns ≡ ds ++ es → length ns ≤ names_max → length ds ≡ 4096 → es ≡ []
too_many ns ds [] is few all = refl
too_many ns ds (e ∷ es) is few all = absurd (omega (arith, ap length is, length-append ds (e ∷ es), few, all))

module _ (next : Option Name) (left : ℕ) (p : List ℕ) (ns : List Name) (said : IsSaid next left p ns) where
  at_end : said.1 ≡ [] → whole_line ns ≡ p ++ 10 ∷ []
  at_end empty = line_end ns said.0 (said.2 ∙ ap (λ fs. said.0 ++ fs) empty) ∙ ap (λ l. l ++ 10 ∷ []) (sym said.5)

  -- none is left
  pub said_all : next ≡ None → whole_line ns ≡ p ++ 10 ∷ []
  said_all last = at_end (none_left said.1 (sym last ∙ said.3))

  -- there can't be more
  pub said_most : IsNameListing ns → left ≡ 0 → whole_line ns ≡ p ++ 10 ∷ []
  said_most h zero_left = at_end (too_many ns said.0 said.1 said.2 h.2 (omega (arith, said.4, zero_left)))

  module _ (n : Name) (some : next ≡ Some n) (piece : List ℕ) (piece_is : piece ≡ 32 ∷ n) where
    abbrev more : (fs : List Name) × (said.1 ≡ n ∷ fs)
    more = some_left n said.1 (sym some ∙ said.3)

    whole : ns ≡ said.0 ++ n ∷ more.0
    whole = said.2 ∙ ap (λ fs. said.0 ++ fs) more.1

    -- the line goes on with the name
    pub said_piece : (back : List ℕ) × (whole_line ns ≡ p ++ (piece ++ back))
    said_piece = (behind more.0, line_next ns said.0 n more.0 whole ∙ ap (λ l. l ++ ((32 ∷ n) ++ behind more.0)) (sym said.5) ∙ ap (λ l. p ++ (l ++ behind more.0)) (sym piece_is))

    -- the name was sent, and the next read
    pub said_next : (later : Option Name) → IsNameListing ns → 0 < left → later ≡ above n ns → IsSaid later (left - 1) (p ++ piece) ns
    said_next later h some_more is = (
      said.0 ++ n ∷ [],
      more.0,
      whole ∙ sym (append_assoc said.0 (n ∷ []) more.0),
      is ∙ next_behind ns said.0 n more.0 h whole,
      omega (arith, said.4, length-append said.0 (n ∷ []), some_more),
      ap (λ l. l ++ piece) said.5 ∙ ap (λ l. up_to ns said.0 ++ l) piece_is ∙ up_to_next ns said.0 n,
    )
