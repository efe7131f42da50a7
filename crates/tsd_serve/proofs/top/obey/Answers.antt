use Rattle.std.proofs.Common.{refl, subst, sym}
use Rattle.std.specs.Prelude.{Some}
use Rattle.tsd_model.specs.declared.requests.PlaceKind.{PlaceKind}
use Rattle.image_device.specs.Runs.{LeavesOnly}
use Rattle.serving.specs.Ran.{moments, taking}
use Rattle.tsd_words.specs.declared.commands.Command.{Command}
use Rattle.image_runs.specs.Load.{HasLoaded, IsLeftOfLoad}
use Rattle.tsd_serve.specs.Did.{Did}
use Rattle.tsd_serve.specs.Prompt.{AnswersByRounds, AnswersPromptly}
use Rattle.tsd_serve.proofs.top.obey.Goals as goal

pub returns-in-Load-clause-did : goal.returns-in-Load-clause-did
returns-in-Load-clause-did g c =
    let source = taking g.S.Source.told g.S.Source.taken g.S.Source.left_bytes g.S.Source.ended c.args.source.now c.args.source.now in
    let port = moments g.P.Device.told g.P.Device.view c.args.port.now c.load_image.new.port in
    let words = c.in-Load.words in
    let r = c.load_image.result in
    subst (λ (x : Command). Did (Some x) r source port) (sym c.in-Load.is) (
      refl,
      record {
        ending = c.load_image.ensures.ending;
        loaded = λ told. subst (λ (k : PlaceKind). HasLoaded r k words.seed words.count port.old port.new) c.pick.ensures (c.load_image.ensures.loaded told);
        any_moment = λ told firm. subst (λ (k : PlaceKind). LeavesOnly port.old port.new (IsLeftOfLoad k words.seed words.count port.old)) c.pick.ensures (c.load_image.ensures.any_moment told firm);
        spared = record { foreign = c.load_image.ensures.untouched; damaged = c.load_image.ensures.spared; behind = c.load_image.ensures.behind };
        no_memory = c.load_image.ensures.no_memory;
        looked = c.load_image.ensures.looked;
      },
    )

pub returns-in-CopyFs-clause-did : goal.returns-in-CopyFs-clause-did
returns-in-CopyFs-clause-did g c =
    let source = taking g.S.Source.told g.S.Source.taken g.S.Source.left_bytes g.S.Source.ended c.args.source.now c.args.source.now in
    let port = moments g.P.Device.told g.P.Device.view c.args.port.now c.copy_image.new.port in
    let r = c.copy_image.result in
    subst (λ (x : Command). Did (Some x) r source port) (sym c.in-CopyFs.is) (
      refl,
      record {
        ending = c.copy_image.ensures.ending;
        judged = c.copy_image.ensures.read;
        copied = c.copy_image.ensures.copied;
        any_moment = c.copy_image.ensures.any_moment;
        not_begun = c.copy_image.ensures.not_begun;
        looked = c.copy_image.ensures.looked;
        spared = record { foreign = c.copy_image.ensures.untouched; damaged = c.copy_image.ensures.spared; behind = c.copy_image.ensures.behind };
      },
    )

pub returns-in-Fresh-clause-prompt : goal.returns-in-Fresh-clause-prompt
returns-in-Fresh-clause-prompt g c told =
    let source = taking g.S.Source.told g.S.Source.taken g.S.Source.left_bytes g.S.Source.ended c.args.source.now c.fresh_lines.new.source in
    subst (λ (x : Command). AnswersPromptly (Some x) c.fresh_lines.result source g.P.Device.view c.args.port.now c.fresh_lines.new.port) (sym c.in-Fresh.is)
    (c.fresh_lines.ensures.prompt told)

pub returns-in-Shell-clause-prompt : goal.returns-in-Shell-clause-prompt
returns-in-Shell-clause-prompt g c told =
    let source = taking g.S.Source.told g.S.Source.taken g.S.Source.left_bytes g.S.Source.ended c.args.source.now c.shell_lines.new.source in
    subst (λ (x : Command). AnswersPromptly (Some x) c.shell_lines.result source g.P.Device.view c.args.port.now c.shell_lines.new.port) (sym c.in-Shell.is)
    (c.shell_lines.ensures.prompt told)

pub returns-in-Files-clause-prompt : goal.returns-in-Files-clause-prompt
returns-in-Files-clause-prompt g c told =
    let source = taking g.S.Source.told g.S.Source.taken g.S.Source.left_bytes g.S.Source.ended c.args.source.now c.file_frames.new.source in
    subst (λ (x : Command). AnswersPromptly (Some x) c.file_frames.result source g.P.Device.view c.args.port.now c.file_frames.new.port) (sym c.in-Files.is)
    (c.file_frames.ensures.prompt told)

pub returns-in-Group-clause-rounds : goal.returns-in-Group-clause-rounds
returns-in-Group-clause-rounds g c told =
    let source = taking g.S.Source.told g.S.Source.taken g.S.Source.left_bytes g.S.Source.ended c.args.source.now c.group_frames.new.source in
    subst (λ (x : Command). AnswersByRounds (Some x) c.group_frames.result source g.P.Device.view c.args.port.now c.group_frames.new.port) (sym c.in-Group.is) (c.group_frames.ensures.rounds told)

pub returns-in-Check-clause-did : goal.returns-in-Check-clause-did
returns-in-Check-clause-did g c =
    let source = taking g.S.Source.told g.S.Source.taken g.S.Source.left_bytes g.S.Source.ended c.args.source.now c.args.source.now in
    let port = moments g.P.Device.told g.P.Device.view c.args.port.now c.check_image.new.port in
    let r = c.check_image.result in
    subst (λ (x : Command). Did (Some x) r source port) (sym c.in-Check.is) (
      refl,
      record {
        ending = c.check_image.ensures.ending;
        said = c.check_image.ensures.said;
        any_moment = c.check_image.ensures.any_moment;
        looks = record { only = c.check_image.ensures.only; kept = c.check_image.ensures.kept };
        spared = record { foreign = c.check_image.ensures.untouched; damaged = c.check_image.ensures.spared; behind = c.check_image.ensures.behind };
      },
    )

pub returns-in-Info-clause-did : goal.returns-in-Info-clause-did
returns-in-Info-clause-did g c =
    let source = taking g.S.Source.told g.S.Source.taken g.S.Source.left_bytes g.S.Source.ended c.args.source.now c.args.source.now in
    let port = moments g.P.Device.told g.P.Device.view c.args.port.now c.check_image-in-Info.new.port in
    let r = c.check_image-in-Info.result in
    subst (λ (x : Command). Did (Some x) r source port) (sym c.in-Info.is) (
      refl,
      record {
        ending = c.check_image-in-Info.ensures.ending;
        said = c.check_image-in-Info.ensures.said;
        any_moment = c.check_image-in-Info.ensures.any_moment;
        looks = record { only = c.check_image-in-Info.ensures.only; kept = c.check_image-in-Info.ensures.kept };
        spared = record { foreign = c.check_image-in-Info.ensures.untouched; damaged = c.check_image-in-Info.ensures.spared; behind = c.check_image-in-Info.ensures.behind };
      },
    )

pub returns-in-Upgrade-clause-did : goal.returns-in-Upgrade-clause-did
returns-in-Upgrade-clause-did g c =
    let source = taking g.S.Source.told g.S.Source.taken g.S.Source.left_bytes g.S.Source.ended c.args.source.now c.args.source.now in
    let port = moments g.P.Device.told g.P.Device.view c.args.port.now c.upgrade_image.new.port in
    let r = c.upgrade_image.result in
    subst (λ (x : Command). Did (Some x) r source port) (sym c.in-Upgrade.is) (
      refl,
      record {
        ending = c.upgrade_image.ensures.ending;
        upgraded = c.upgrade_image.ensures.upgraded;
        any_moment = c.upgrade_image.ensures.any_moment;
        spared = record { foreign = c.upgrade_image.ensures.untouched; damaged = c.upgrade_image.ensures.spared; behind = c.upgrade_image.ensures.behind };
        no_memory = c.upgrade_image.ensures.no_memory;
      },
    )
