use Rattle.std.proofs.Common.{◌≡◌, Global, map, rules, string_bytes}
use Rattle.std.proofs.lemmas.Result.{err_from_is_err_and}
use Rattle.clap.specs.Words.{app_of}
use Rattle.clap.specs.declared.error.Error.{Error}
use Rattle.camel_replay_lib.proofs.CommandLineLemmas.{AsksForHelp-answered, AsksForVersion-answered, LimitOf-held, ProfileOf-held, ThreadsOf-held}
use Rattle.camel_replay_lib.proofs.command.words.options.Goals as goal

pub returns-in-Some-clause-threads : goal.returns-in-Some-clause-threads
returns-in-Some-clause-threads c =
    ThreadsOf-held (map (string_bytes {Z = Global}) c.args.words.now) c.in_ok-matches.matches (search rules) c.in-Some.options.threads (search rules)

pub returns-in-Some-clause-limit : goal.returns-in-Some-clause-limit
returns-in-Some-clause-limit c =
    LimitOf-held (map (string_bytes {Z = Global}) c.args.words.now) c.in_ok-matches.matches (search rules) c.in-Some.options.limit (search rules)

pub returns-in-Some-clause-profile : goal.returns-in-Some-clause-profile
returns-in-Some-clause-profile c =
    ProfileOf-held (map (string_bytes {Z = Global}) c.args.words.now) c.in_ok-matches.matches (search rules) c.in-Some.options.profile (search rules)

pub returns-in_err-matches-clause-help : goal.returns-in_err-matches-clause-help
returns-in_err-matches-clause-help c =
    let words = map (string_bytes {Z = Global}) c.args.words.now in
    let answered = c.in_err-matches.field-0.0 in
    let back = c.from_residual-in_err-matches in
    let passed_on = err_from_is_err_and {Q = λ (error : Error). error ≡ answered} back.result back.ensures.1 in
    rw passed_on.1 (λ help.
    AsksForHelp-answered words (app_of c.in_ok-command.command) answered c.in_ok-command.ensures.program c.in_err-matches.ensures.kinds
    (cc (passed_on.2, help)))

pub returns-in_err-matches-clause-version : goal.returns-in_err-matches-clause-version
returns-in_err-matches-clause-version c =
    let words = map (string_bytes {Z = Global}) c.args.words.now in
    let answered = c.in_err-matches.field-0.0 in
    let back = c.from_residual-in_err-matches in
    let passed_on = err_from_is_err_and {Q = λ (error : Error). error ≡ answered} back.result back.ensures.1 in
    rw passed_on.1 (λ version.
    AsksForVersion-answered words (app_of c.in_ok-command.command) answered c.in_ok-command.ensures.program c.in_err-matches.ensures.kinds
    (cc (passed_on.2, version)))
