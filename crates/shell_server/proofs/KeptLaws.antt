-- A session that was open at the core with what it held.
use Rattle.std.proofs.Common.{◌≡◌, ◌≢◌, ◌⊎◌, inl, inr, ℕ, true, false, ◌<◌, nat_lt, List, [], ◌∷◌, ◌++◌, length, refl, sym, ◌∙◌, ap, subst}
use Rattle.shell_server.proofs.Common.{IsTrue, slice_get, World, Geometry, Image, world_of, ShellAsk, FilesView, files_after, Core, FitsReads, IsClient, IsKeptSince, IsTakenForTree, OthersStay, ShellState, Answer, FsRefusal, IsLeftOf, Stands, resting, AnswersByLine, RestsIn, answer_text, heard, line_feeds, refused, shell_step, step_in, tree_in, Tree, nothing, a_file, a_dir, is_there, and_parts, Option, Some, None, is_none, is_some, sessions_of, told_world, is_open, is_change}
use Rattle.image_world.specs.Tables.{Tables, tables_of}
use Rattle.image_world.proofs.WorldLaws.{told_like}
use Rattle.intent_journal.specs.Home.{home}
use Rattle.tsd_model.specs.World.{contents}
use Rattle.volume_laws.proofs.QuestionLaws.{told_size}
use Rattle.tsd_model.specs.Records.{kept_of}
use Rattle.tsd_model.specs.Attained.{record_level}
use Rattle.tsd_model.specs.declared.records.Record.{Record}
use Rattle.fs_trees.specs.declared.ask.ShellAsk.TheVariants as ask
use Rattle.shell_server.proofs.StepLaws.{after_make, after_other, judged_refused, looks_stay, no_done}

-- it is so as long as the records, the numbers and the open sessions stay
pub client_still : (f : FilesView) (c0 c1 : Core) → (told_world c1).records ≡ (told_world c0).records → (told_world c1).version ≡ (told_world c0).version → (told_world c1).geometry ≡ (told_world c0).geometry
    → ((s : ℕ) → is_open (sessions_of c1) s ≡ is_open (sessions_of c0) s) → IsClient f c0 → IsClient f c1
client_still f c0 c1 records version size sessions was = record {
  number = was.number;
  begun = subst (λ b. IsTrue b) (sym (sessions f.session)) was.begun;
  primary = subst (λ (g : Geometry). f.root < g.primaries) (sym size) was.primary;
  attains = ap (λ (rs : List Record). record_level (slice_get rs f.root) (kept_of (told_world c1).version f.cap)) records ∙ (ap (λ (n : ℕ). record_level (slice_get (told_world c0).records f.root) (kept_of n f.cap)) version ∙ was.attains);
}

-- mounting an empty tree leaves it so
pub client_after : (f : FilesView) (q : ShellAsk) (c : Core) → IsClient f c → IsClient (files_after f q) c
client_after f q c k = subst (λ h. IsClient h c) (sym (after_make f q)) (record { number = k.number; begun = k.begun; primary = k.primary; attains = k.attains })

-- ---- trees

pub not_nothing : (t : Tree) → IsTrue (is_there t) → t ≡ nothing → ⊥
not_nothing t there gone = let none : is_there t ≡ false = ap is_there gone in cc

pub nothing_or_there : (t : Tree) → (t ≡ nothing) ⊎ IsTrue (is_there t)
nothing_or_there nothing = inl refl
nothing_or_there (a_file x) = inr refl
nothing_or_there (a_dir d es) = inr refl

-- ---- worlds

-- the size that memory tells
world_size : (c : Core) (x : Image) → FitsReads c x → (told_world c).geometry ≡ (world_of x).geometry
world_size c x fits = (told_size c.volume.tables).0 ∙ sym (ap (λ (t : Tables). t.geometry) fits.tables) ∙ sym (told_size (tables_of (home x))).0 ∙ (told_like x).geometry

pub size_stays : (c d : Core) (x y : Image) → FitsReads c x → FitsReads d y → (told_world d).geometry ≡ (told_world c).geometry → (world_of y).geometry ≡ (world_of x).geometry
size_stays c d x y fits then same = sym (world_size d y then) ∙ same ∙ world_size c x fits

-- nothing is free and live
free_or_live : (o : Option (List ℕ)) → is_none o ≡ true → IsTrue (is_some o) → ⊥
free_or_live None free live = absurd (cc)
free_or_live (Some x) free live = absurd (cc)

pub none_taken : (f : FilesView) (w : World) → IsTakenForTree f w w
none_taken f w b free live = absurd (free_or_live (contents w b) (and_parts (nat_lt b (length w.blocks)) (is_none (contents w b)) free).1 live)

-- while an ask is under way, it isn't tidy
pub kept_asked : (start : World) (s : ShellState) (g : FilesView) (q : ShellAsk) → g.root ≡ s.files.root → IsKeptSince start s → IsKeptSince start (record { files = g; world = s.world; under_way = Some q })
kept_asked start s g q same kept = record {
  valid = kept.valid;
  geometry = kept.geometry;
  others = subst (λ (n : ℕ). OthersStay n start s.world) (sym same) kept.others;
  tidy = λ rests. absurd (cc);
}

-- the image of a world that is kept
pub left_still : (start : World) (f : FilesView) (w : World) → IsKeptSince start (resting f w) → (x : Image) (u : World) → Stands x u → u ≡ w → IsLeftOf start (resting f w) x
left_still start f w kept x u stands same = record { world = w; stands = subst (λ (y : World). Stands x y) same stands; valid = kept.valid; geometry = kept.geometry; tree = refl; others = kept.others; still = λ none. refl }

-- ---- an ask that leaves the state

module _ (start : World) (s : ShellState) (q : ShellAsk) (a : Answer) (is : (shell_step s q).answer ≡ a) (line : line_feeds (answer_text a) ≡ 0) (x : Image) (rests : RestsIn start s x) where
  abbrev asks : ShellAsk
  asks = heard s.files.kind q

  answered_by : (shell_step s q).tree ≡ tree_in s → asks ≢ ask.Make → AnswersByLine start s q (answer_text a ++ 10 ∷ []) s
  answered_by tree other = record {
    from = x;
    at_rest = rests;
    text = ap (λ b. answer_text b ++ 10 ∷ []) (sym is);
    one_line = ap (λ b. line_feeds (answer_text b)) is ∙ line;
    tree = sym tree;
    same = λ other. refl;
    files = sym (after_other s.files asks other);
    kept = rests.kept;
    taken = none_taken s.files s.world;
  }

  -- it is no change
  pub look_answered : is_change asks ≡ false → AnswersByLine start s q (answer_text a ++ 10 ∷ []) s
  look_answered none = answered_by (looks_stay (tree_in s) _ asks _ none) (λ make. let both : true ≡ false = sym (ap is_change make) ∙ none in cc)

  -- or it is refused
  pub refusal_answered : (r : FsRefusal) → a ≡ refused r → AnswersByLine start s q (answer_text a ++ 10 ∷ []) s
  refusal_answered r refuses =
      answered_by (judged_refused (tree_in s) _ asks _ r (is ∙ refuses))
      (λ make. no_done r (ap (λ b. (step_in s.files.kind s.world s.files.root (tree_in s) b).answer) (sym make) ∙ is ∙ refuses))
