use Rattle.std.proofs.Common.{◌≡◌, ◌∙◌, ap, ap₂, codes}
use Rattle.clap.specs.Simple.{app_of_fields}
use Rattle.clap.specs.Words.{app_of, new_app, with_rule}
use Rattle.camel_replay_lib.specs.ProgramRun.{limit_rule, threads_rule, with_version}
use Rattle.camel_replay_lib.proofs.command.words.command.Goals as goal

pub returns-clause-program : goal.returns-clause-program
returns-clause-program c =
    let bare = with_version (new_app (codes "camel_replay")) in
    let helped = ap app_of_fields c.after_help.ensures ∙ ap app_of_fields c.about.ensures ∙ c.new.ensures.app in
    let named : app_of c.version.result ≡ bare = ap app_of_fields c.version.ensures ∙ ap with_version helped in
    let limited : app_of c.in_ok-arg.field-0 ≡ with_rule bare limit_rule =
    c.in_ok-arg.ensures.shape c.limit_argument.ensures.own ∙ ap₂ with_rule named c.limit_argument.ensures.rule in
    let threaded : app_of c.in_ok-arg-2.field-0 ≡ with_rule (with_rule bare limit_rule) threads_rule =
    c.in_ok-arg-2.ensures.shape c.threads_argument.ensures.own ∙ ap₂ with_rule limited c.threads_argument.ensures.rule in
    c.in_ok-command.ensures.shape c.profile_argument.ensures.own ∙ ap₂ with_rule threaded c.profile_argument.ensures.rule
