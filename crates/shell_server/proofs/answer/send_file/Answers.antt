use Rattle.std.proofs.Common.{◌≡◌, ◌≢◌, IfSome, ◌+◌, ◌<◌, ◌≤◌, List, ℕ, [], ◌∷◌, ◌++◌, length, take, drop, sym, ◌∙◌, ap, subst, arith, rules}
use Rattle.shell_server.proofs.Common.{Image, world_of, encode_lower, AnswersByLine, IsSpeaking, ShellState, bytes, shell_step, shell_rests, shell_state, sessions_of, disk_state}
use Rattle.fs_trees.specs.declared.ask.ShellAsk.TheVariants as ask
use Rattle.fs_trees.specs.declared.refusal.FsRefusal.TheVariants as no
use Rattle.shell_server.proofs.CatLaws.{cat_answers, cat_in_parts, behind, line_end, line_headed, line_next, line_parts, no_size, not_refused, part_is, up_to, up_to_next, up_to_none, whole_line}
use Rattle.shell_server.proofs.SendLaws.{error_is}
use Rattle.shell_server.proofs.SpeakLaws.{speaks_none, speaks_put, speaks_look, speaks_lost, speaks_cut, speaks_end, speaks_never}
use Rattle.shell_server.proofs.answer.send_file.Goals.{After-send_text, After-send_text-in-loop-start}
use Rattle.shell_server.proofs.answer.send_file.Goals as goal

module _ (g : _) (c : After-send_text g) where
  abbrev state : ShellState
  state = shell_state (g.F.Files.view c.args.files.now) (g.P.Device.view c.args.port.now).reads

  -- nothing was sent yet
  begun : IsSpeaking g.P.Device.told g.K.Started.start (g.F.Files.view c.args.files.now) (g.F.Files.view c.args.files.now) c.args.core.now c.args.core.now (g.P.Device.view c.args.port.now) (g.P.Device.view c.args.port.now) []
  begun = speaks_none g.P.Device.told g.K.Started.start (g.F.Files.view c.args.files.now) c.args.core.now (g.P.Device.view c.args.port.now) c.requires.ready c.requires.at (λ told. g.met.P.Device.sound c.args.port.now told)

  -- the line of the bytes answers
  answers : (told : g.P.Device.told) → AnswersByLine g.K.Started.start state (ask.Cat c.args.path.now) (whole_line (c.requires.told told).0) state
  answers told = cat_answers g.K.Started.start state c.args.path.now (c.requires.told told).0 (c.requires.told told).1 (g.P.Device.view c.args.port.now).reads (shell_rests g.K.Started.start (g.F.Files.view c.args.files.now) c.args.core.now (g.P.Device.view c.args.port.now).reads (c.requires.at told).1)

-- a part was read
module _ (g : _) (c : After-send_text-in-loop-start g) where
  read : IsSpeaking g.P.Device.told g.K.Started.start (g.F.Files.view c.args.files.now) (g.F.Files.view c.part_on.new.files) c.args.core.now c.part_on.new.core (g.P.Device.view c.args.port.now) (g.P.Device.view c.part_on.new.dev) c.loop-start.invariant.0
  read = speaks_look c.loop-start.invariant.1 c.in-Ok.ensures.looked

  part_read : g.P.Device.told → (x : List ℕ) → (shell_step (shell_state (g.F.Files.view c.args.files.now) (g.P.Device.view c.args.port.now).reads) (ask.Cat c.args.path.now)).answer ≡ bytes x → c.part_on.new.into ≡ take 4096 (drop c.loop-start.start x)
  part_read told x is = part_is (shell_state (g.F.Files.view c.args.files.now) (g.P.Device.view c.args.port.now).reads) (shell_state (g.F.Files.view c.loop-start.files) (g.P.Device.view c.loop-start.port).reads) (ask.Cat c.args.path.now) x c.part_on.new.into c.loop-start.start (c.loop-start.invariant.1.state told) is (c.in-Ok.ensures.looked.read told)

  piece_is : c.as_slice-in-loop-start-2.result.now ≡ encode_lower c.part_on.new.into
  piece_is = c.as_slice-in-loop-start-2.ensures.value ∙ c.print_data_part.ensures ∙ ap encode_lower c.as_slice-in-loop-start.ensures.value

pub returns-in_err-send_text : goal.returns-in_err-send_text
returns-in_err-send_text g c =
    let i = (goal.at.returns-in_err-send_text g c).After-send_text in
    rw (error_is c.from_residual.result c.in_err-send_text.field-0.0 c.from_residual.ensures) (speaks_cut (begun g i) (ask.Cat c.args.path.now) c.in_err-send_text.ensures.stops c.in_err-send_text.ensures.puts
    (λ told.
    let x = (c.requires.told told).0 in (
      whole_line x,
      encode_lower x ++ 10 ∷ [],
      line_headed x ∙ ap (λ l. l ++ (encode_lower x ++ 10 ∷ [])) (sym (c.as_slice.ensures.value ∙ c.print_data_head.ensures ∙ no_size x c.args.size (c.requires.told told).2)),
      answers g i told,
    )))

pub loop-start-init : goal.loop-start-init
loop-start-init g c = (
  c.as_slice.result.now,
  speaks_put (begun g (goal.at.loop-start-init g c).After-send_text) c.in_ok-send_text.ensures.puts,
  λ told x is len. c.as_slice.ensures.value ∙ c.print_data_head.ensures ∙ no_size x c.args.size len ∙ sym (up_to_none x),
  λ told some. tt,
)

pub part_on-requires-clause-place : goal.part_on-requires-clause-place
part_on-requires-clause-place g c = λ told. c.loop-start.invariant.3 told c.loop-start-test.true

pub returns-in-Err-Device : goal.returns-in-Err-Device
returns-in-Err-Device g c =
    let i = c.loop-start.invariant in
    speaks_lost i.1 (rw c.in-Err-Device.field-0-is at c.in-Err-Device.ensures.looked) (λ told.
    let x = (c.requires.told told).0 in (
      whole_line x,
      behind x c.loop-start.start,
      line_parts x c.loop-start.start ∙ ap (λ l. l ++ behind x c.loop-start.start) (sym (i.2 told x (c.requires.told told).1 (c.requires.told told).2)),
      answers g (goal.at.returns-in-Err-Device g c).After-send_text told,
      cat_in_parts c.args.path.now x,
    ))

pub returns-in-Err : goal.returns-in-Err
returns-in-Err g c =
    let i = c.loop-start.invariant in
    let other : c.in-Err.field-0 ≢ no.Device = search rules in
    let look = c.in-Err.ensures.looked in
    let never : g.P.Device.told → ⊥ = λ told.
    let r = c.requires.told told in
    not_refused r.0 c.in-Err.field-0 (shell_step (state g (goal.at.returns-in-Err g c).After-send_text) (ask.Cat c.args.path.now)).answer r.1 (ap (λ (s : ShellState). (shell_step s (ask.Cat c.args.path.now)).answer) (sym (i.1.state told)) ∙ look.refused told other) in
    speaks_never i.1 look other never c.send_end.ensures.stops c.send_end.ensures.puts

pub returns-in_err-send_text-2 : goal.returns-in_err-send_text-2
returns-in_err-send_text-2 g c =
    let i = c.loop-start.invariant in
    let n = c.loop-start.start in
    let part = c.part_on.new.into in
    let sent = (goal.at.returns-in_err-send_text-2 g c).After-send_text-in-loop-start in
    rw (error_is c.from_residual-in_err-send_text-2.result c.in_err-send_text-2.field-0.0 c.from_residual-in_err-send_text-2.ensures) (speaks_cut (read g sent) (ask.Cat c.args.path.now) c.in_err-send_text-2.ensures.stops c.in_err-send_text-2.ensures.puts
    (λ told.
    let r = c.requires.told told in
    let x = r.0 in (
      whole_line x,
      behind x (n + 4096),
      line_next x part n (part_read g sent told x r.1) ∙ ap (λ l. l ++ (encode_lower part ++ behind x (n + 4096))) (sym (i.2 told x r.1 r.2)) ∙ ap (λ l. i.0 ++ (l ++ behind x (n + 4096))) (sym (piece_is g sent)),
      answers g (goal.at.returns-in_err-send_text-2 g c).After-send_text told,
    )))

pub loop-start-preserved : goal.loop-start-preserved
loop-start-preserved g c =
    let i = c.loop-start.invariant in
    let n = c.loop-start.start in
    let m = c.saturating_add-start.result in
    let core = c.part_on.new.core in
    let f = g.F.Files.view c.part_on.new.files in
    let sent = (goal.at.loop-start-preserved g c).After-send_text-in-loop-start in (
      i.0 ++ c.as_slice-in-loop-start-2.result.now,
      speaks_put (read g sent) c.in_ok-send_text-2.ensures.puts,
      λ told x is len.
          let le : m ≤ n + 4096 = omega arith in
          let all : m < n + 4096 → length x ≤ m = λ less. omega (arith, len) in
          ap (λ l. l ++ c.as_slice-in-loop-start-2.result.now) (i.2 told x is len) ∙ ap (λ l. up_to x n ++ l) (piece_is g sent) ∙ up_to_next x c.part_on.new.into n m (part_read g sent told x is) le all,
      λ told more.
          let on : m ≡ n + 4096 = omega (arith, more) in
          subst (λ k. IfSome c.in-Ok.next (g.F.Walks.leads f (disk_state core (g.P.Device.view c.send_text-in-loop-start.new.port)) c.args.path.now k)) (sym on)
          (subst (λ (x : Image). IfSome c.in-Ok.next (g.F.Walks.leads f (record { world = world_of x; sessions = sessions_of core }) c.args.path.now (n + 4096))) (sym (c.in_ok-send_text-2.ensures.puts.reads told)) (c.in-Ok.ensures.place told)),
    )

pub returns : goal.returns
returns g c =
    let i = c.loop-start.invariant in
    let at = (goal.at.returns g c).After-send_text in
    speaks_end i.1 (ask.Cat c.args.path.now) c.send_end-2.result c.send_end-2.ensures.stops c.send_end-2.ensures.puts
    (λ told.
    let r = c.requires.told told in
    let past : length r.0 ≤ c.loop-start.start = omega (arith, r.2) in
    subst (λ l. AnswersByLine g.K.Started.start (state g at) (ask.Cat c.args.path.now) l (state g at)) (line_end r.0 c.loop-start.start past ∙ ap (λ l. l ++ 10 ∷ []) (sym (i.2 told r.0 r.1 r.2))) (answers g at told))
