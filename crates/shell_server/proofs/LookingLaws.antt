-- Asks that only look: what they see, and what is sent of it.
use Rattle.std.proofs.Common.{◌≡◌, ◌≢◌, ◌<◌, inl, inr, ℕ, true, false, cond, List, [], ◌∷◌, ◌++◌, length, take, drop, min, nat_le, Bool, refl, sym, ◌∙◌, ap, arith, length-append, Option, Some}
use Rattle.shell_server.proofs.Common.{Result, Err, IsTrue, IfErr, nat_tests, World, View, IsSound, PutsAll, line_feeds, Path, Name, is_path, Answer, bad, refused, step_in, ShellAsk, FileAsk, FsRefusal, FilesView, TellsNext, TellsPart, TellsSize, answer_text, Status, Core, ShellState, AnswersFile, LooksByLine, shell_step, tree_in, AreReady, FitsShell, shell_state, shell_rests, IsLeftBeforeOrAfter, IsLooked, IsServed, list_all, and_parts, is_name, Looked, part_of, next_dir, next_file, not_looked, not_heard, looked_text, entry_seen, part_seen, next_seen, names_seen, look_of}
use Rattle.std.proofs.lemmas.List.{length-take, take-take, take_all}
use Rattle.fs_trees.specs.Names.{path_max}
use Rattle.fs_trees.specs.declared.ask.ShellAsk.TheVariants as ask
use Rattle.fs_trees.specs.declared.refusal.FsRefusal.TheVariants as no
use Rattle.shell_text.specs.FileBodies.{is_after}
use Rattle.shell_text.specs.declared.file_ask.FileAsk.TheVariants as file
use Rattle.tsd_words.specs.declared.status.Status.TheVariants as status
use Rattle.shell_server.proofs.CatLaws.{le_or_lt}
use Rattle.shell_server.proofs.AfterLaws.{rests_there, served_line_after}
use Rattle.shell_server.proofs.SendLaws.{called_lost, called_wider, device_or_not, failed, served_look}

-- ---- what is seen

pub size_seen : (of_file : ℕ → Looked) (of_dir : Looked) (n : ℕ) (a : Answer) → TellsSize n a → entry_seen of_file of_dir a ≡ of_file n
size_seen of_file of_dir n a tells = ap (entry_seen of_file of_dir) tells.1 ∙ ap of_file (sym tells.2)

pub dir_seen : (of_file : ℕ → Looked) (of_dir : Looked) (a : Answer) → a ≡ refused no.IsDir → entry_seen of_file of_dir a ≡ of_dir
dir_seen of_file of_dir a is = ap (entry_seen of_file of_dir) is

refusal_is : (of_file : ℕ → Looked) (of_dir : Looked) (e : FsRefusal) → e ≢ no.IsDir → entry_seen of_file of_dir (refused e) ≡ not_looked e
refusal_is of_file of_dir no.IsDir other = absurd (other refl)
refusal_is of_file of_dir e other = refl

pub refusal_seen : (of_file : ℕ → Looked) (of_dir : Looked) (e : FsRefusal) (a : Answer) → e ≢ no.IsDir → a ≡ refused e → entry_seen of_file of_dir a ≡ not_looked e
refusal_seen of_file of_dir e a other is = ap (entry_seen of_file of_dir) is ∙ refusal_is of_file of_dir e other

take_twice : {X : Type 0} (n m : ℕ) (xs : List X) → take n (take m xs) ≡ take (min n m) xs
take_twice n m xs = elim (le_or_lt n m) [
  | inl le ↦ take-take n m xs le ∙ ap (λ k. take k xs) (let e : n ≡ min n m = omega (arith, le) in e)
  | inr lt ↦ take_all n (take m xs) (let len = length-take m xs in omega (arith, len, lt)) ∙ ap (λ k. take k xs) (let e : m ≡ min n m = omega (arith, lt) in e)
]

pub bytes_seen : (start count : ℕ) (part : List ℕ) (a : Answer) → TellsPart start part a → part_seen start count a ≡ part_of (take count part)
bytes_seen start count part a tells =
    ap (part_seen start count) tells.1 ∙ ap part_of (sym (take_twice count 4096 (drop start tells.0)) ∙ ap (take count) (sym tells.2))

-- what is no path is not heard
pub cat_unheard : (s : ShellState) (path : Path) → is_path path ≡ false → (shell_step s (ask.Cat path)).answer ≡ bad
cat_unheard s path no_path = ap (λ t. (step_in s.files.kind s.world s.files.root (tree_in s) (cond t (ask.Cat path) ask.Bad)).answer) no_path

module _ (s : ShellState) (path : Path) (after : Name) where
  pub after_unheard : is_after after ≡ false → look_of s (file.Next path after) ≡ not_heard
  after_unheard none = ap (λ t. cond t (names_seen (λ b. (shell_step s b).answer) path after (shell_step s (ask.Ls path)).answer) not_heard) none

  module _ (good : IsTrue (is_after after)) where
    names : look_of s (file.Next path after) ≡ names_seen (λ b. (shell_step s b).answer) path after (shell_step s (ask.Ls path)).answer
    names = ap (λ t. cond t (names_seen (λ b. (shell_step s b).answer) path after (shell_step s (ask.Ls path)).answer) not_heard) good

    pub next_refused : (e : FsRefusal) → (shell_step s (ask.Ls path)).answer ≡ refused e → look_of s (file.Next path after) ≡ not_looked e
    next_refused e is = names ∙ ap (names_seen (λ b. (shell_step s b).answer) path after) is

    pub next_told : (next : Option Name) → TellsNext after next (shell_step s (ask.Ls path)).answer → look_of s (file.Next path after) ≡ next_seen (λ b. (shell_step s b).answer) path next
    next_told next tells = names ∙ ap (names_seen (λ b. (shell_step s b).answer) path after) tells.1 ∙ ap (next_seen (λ b. (shell_step s b).answer) path) (sym tells.2)

-- what is seen of what the next name names, by its path
pub child_seen : (s : ShellState) (path : Path) (after n : Name) → IsTrue (is_after after) → TellsNext after (Some n) (shell_step s (ask.Ls path)).answer → (child : Path) → child ≡ path ++ n ∷ [] → look_of s (file.Next path after) ≡ entry_seen (next_file n) (next_dir n) (shell_step s (ask.Cat child)).answer
child_seen s path after n good tells child is = next_told s path after good (Some n) tells ∙ ap (λ (p : Path). entry_seen (next_file n) (next_dir n) (shell_step s (ask.Cat p)).answer) (sym is)

-- the last name of a path is a name
last_named : (path : Path) (n : Name) → IsTrue (list_all is_name (path ++ n ∷ [])) → IsTrue (is_name n)
last_named [] n h = (and_parts (is_name n) true h).0
last_named (m ∷ ms) n h = last_named ms n (and_parts (is_name m) (list_all is_name (ms ++ n ∷ [])) h).1

child_named : (path : Path) (n : Name) → IsTrue (is_path (path ++ n ∷ [])) → IsTrue (is_name n)
child_named path n h = last_named path n (and_parts (nat_le (length (path ++ n ∷ [])) path_max) (list_all is_name (path ++ n ∷ [])) h).1

-- what no name goes behind
pub no_child : (path : Path) (n : Name) → ((length path < path_max) × IsTrue (is_name n) → ⊥) → is_path (path ++ n ∷ []) ≡ false
no_child path n none = by (is_path (path ++ n ∷ [])) refl
  where
    short : is_path (path ++ n ∷ []) ≡ true → length path < path_max
    short h = grind (arith, nat_tests, length-append path (n ∷ []))

    by : (b : Bool) → is_path (path ++ n ∷ []) ≡ b → b ≡ false
    by true h = absurd (none (short h, child_named path n h))
    by false h = refl

-- ---- what is sent

-- it is no ask of the shell
abbrev pub IsLook : FileAsk → Type 0
IsLook (file.Shell a) = ⊥
IsLook q = Unit {0}

as_answer : (start : World) (s : ShellState) (q : FileAsk) (line : List ℕ) (t : ShellState) → IsLook q → LooksByLine start s q line t → AnswersFile start s q line t
as_answer start s (file.Shell a) line t is given = absurd is
as_answer start s q line t is given = given

-- what isn't heard is answered so, and nothing is read
pub unheard_served : {Y : Type 0} {told : Type 0} {start : World} (q : FileAsk) {f : FilesView} {c : Core} {v z : View} {result : Result Y Status} → IsLook q → (told → look_of (shell_state f v.reads) q ≡ not_heard) → AreReady f c → (told → IsSound v) → (told → ((n : ℕ) → v.loose n ≡ false) × FitsShell start f c v.reads)
    → IfErr result (λ why. why ≡ status.PutFault) → PutsAll told (answer_text bad ++ 10 ∷ []) v z result → IsServed told start q f f c c v z result
unheard_served {told = told} {start = start} q {f = f} {c = c} {v = v} {z = z} {result = result} is_look is ready sound at stops puts =
    served_look told start q f c v z (answer_text bad ++ 10 ∷ []) ready sound at
    (λ t. as_answer start (shell_state f v.reads) q (answer_text bad ++ 10 ∷ []) (shell_state f v.reads) is_look (record {
      from = v.reads;
      at_rest = shell_rests start f c v.reads (at t).1;
      text = ap (λ l. looked_text l ++ 10 ∷ []) (sym (is t));
      one_line = ap (λ l. line_feeds (looked_text l)) (is t);
      same = refl;
    })) result stops puts

module _ {X : Type 0} {told : Type 0} {start : World} {a : ShellAsk} (q : FileAsk) (is_look : IsLook q) {f0 f1 : FilesView} {c0 c1 : Core} {v w : View} {of_answer : X → Answer → Type 0} {r : Result X FsRefusal} (look : IsLooked told start a f0 f1 c0 c1 v w of_answer r) where
  -- what was seen is sent
  pub seen_served : {Y : Type 0} (seen : Looked) {z : View} {result : Result Y Status} → r ≢ Err no.Device → (told → look_of (shell_state f0 v.reads) q ≡ seen) → line_feeds (looked_text seen) ≡ 0 → IfErr result (λ why. why ≡ status.PutFault) → PutsAll told (looked_text seen ++ 10 ∷ []) w z result
      → IsServed told start q f0 f1 c0 c1 v z result
  seen_served seen {z = z} {result = result} other is line stops puts =
      served_line_after look other q z (looked_text seen ++ 10 ∷ []) result
      (λ t. as_answer start (shell_state f0 v.reads) q (looked_text seen ++ 10 ∷ []) (shell_state f0 v.reads) is_look (record {
        from = w.reads;
        at_rest = rests_there look other t;
        text = ap (λ l. looked_text l ++ 10 ∷ []) (sym (is t));
        one_line = ap (λ l. line_feeds (looked_text l)) (is t) ∙ line;
        same = refl;
      })) stops puts

-- nothing was seen: the device failed, or it was refused
module _ {X : Type 0} {told : Type 0} {start : World} {a : ShellAsk} (q : FileAsk) (is_look : IsLook q) {f0 f1 : FilesView} {c0 c1 : Core} {v w : View} {of_answer : X → Answer → Type 0} {e : FsRefusal} (look : IsLooked told start a f0 f1 c0 c1 v w of_answer (Err e)) where
  pub refused_served : {Y Z : Type 0} {z : View} {result : Result Y Status} → (told → (shell_step (shell_state f0 v.reads) a).answer ≡ refused e → look_of (shell_state f0 v.reads) q ≡ not_looked e)
      → (failed Z e ≡ Err no.Device → (result ≡ Err status.DeviceFault) × (z ≡ w)) → (failed Z e ≢ Err no.Device → line_feeds (answer_text (refused e)) ≡ 0) → (failed Z e ≢ Err no.Device → IfErr result (λ why. why ≡ status.PutFault)) → (failed Z e ≢ Err no.Device → PutsAll told (answer_text (refused e) ++ 10 ∷ []) w z result)
      → IsServed told start q f0 f1 c0 c1 v z result
  refused_served {Z = Z} is device line stops puts = elim (device_or_not e) [
    | inl lost ↦
        let told_so = device (ap Err lost) in
        rw (told_so.0, told_so.1) (called_lost {X = X} q f0 (ap Err lost) (called_wider (IsLeftBeforeOrAfter start (shell_state f0 v.reads) q) (λ x left. inl left) look.called))
    | inr other ↦
        let not_device : failed Z e ≢ Err no.Device = λ same. other (cc) in
        seen_served q is_look look (not_looked e) (λ same. other (cc)) (λ t. is t (look.refused t other)) (line not_device) (stops not_device) (puts not_device)
  ]
