-- The number of free blocks, read and answered.
use Rattle.std.proofs.Common.{◌≡◌, ◌≢◌, ℕ, ◌^◌, ◌<◌, List, [], ◌∷◌, ◌++◌, refl, sym, ap, arith, decimal}
use Rattle.shell_server.proofs.Common.{Image, Result, Ok, Err, IfOk, IfErr, codes, World, free_count, View, PutsAll, line_feeds, feeds-append, Answer, available, refused, FsRefusal, BlocksView, FilesView, step_on, answer_text, Status, Core, ShellState, AnswersByLine, RestsIn, shell_step, shell_state, IsLooked, IsServed}
use Rattle.shell_server.proofs.KeptLaws.{look_answered}
use Rattle.fs_trees.specs.declared.ask.ShellAsk.TheVariants as ask
use Rattle.shell_text.specs.declared.file_ask.FileAsk.TheVariants as file
use Rattle.fs_trees.specs.declared.refusal.FsRefusal.TheVariants as no
use Rattle.tsd_words.specs.declared.status.Status.TheVariants as status
use Rattle.shell_text.proofs.RefusalLaws.{number_none}
use Rattle.shell_server.proofs.AfterLaws.{rests_there, served_line_after}

abbrev pub free_line : ℕ → List ℕ
free_line n = answer_text (available n) ++ 10 ∷ []

-- what is answered with a number of free blocks
abbrev pub TellsFree : ℕ → Answer → Type 0
TellsFree n answer = answer ≡ available n

-- what a count of the free blocks tells, whatever is mounted
pub free_told : (f : FilesView) (v : BlocksView) (result : Result ℕ FsRefusal) → IfOk result (λ n. n ≡ free_count v.world) → IfOk result (λ n. TellsFree n (step_on f v ask.Df).answer)
free_told f v (Ok n) is = ap available (sym is)
free_told f v (Err e) is = tt

pub free_refused : (a : Answer) (result : Result ℕ FsRefusal) → IfErr result (λ e. e ≡ no.Device) → IfErr result (λ e. e ≢ no.Device → a ≡ refused e)
free_refused a (Ok n) only = tt
free_refused a (Err e) only = λ other. absurd (other only)

free_one_line : (n : ℕ) → n < 2 ^ 32 → line_feeds (answer_text (available n)) ≡ 0
free_one_line n few = omega (arith, feeds-append (codes "free") (32 ∷ decimal n), number_none n few)

free_answers : (start : World) (s : ShellState) (n : ℕ) → n < 2 ^ 32 → TellsFree n (shell_step s ask.Df).answer → (x : Image) → RestsIn start s x → AnswersByLine start s ask.Df (free_line n) s
free_answers start s n few is x rests = look_answered start s ask.Df (available n) is (free_one_line n few) x rests refl

-- the number was read, and its line sent
pub served_free : {Y : Type 0} (told : Type 0) (start : World) (f0 f1 : FilesView) (c0 c1 : Core) (v w z : View) (n : ℕ) → n < 2 ^ 32 → IsLooked told start ask.Df f0 f1 c0 c1 v w TellsFree (Ok n)
    → (result : Result Y Status) → IfErr result (λ why. why ≡ status.PutFault) → PutsAll told (free_line n) w z result → IsServed told start (file.Shell ask.Df) f0 f1 c0 c1 v z result
served_free told start f0 f1 c0 c1 v w z n few look result stops puts =
    served_line_after look (λ e. cc) (file.Shell ask.Df) z (free_line n) result
    (λ t. free_answers start (shell_state f0 v.reads) n few (look.read t) w.reads (rests_there look (λ e. cc) t)) stops puts
