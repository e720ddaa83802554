use Rattle.std.proofs.Common.{rules, take_all}
use Rattle.std.proofs.lemmas.List.Elements.{All-more}
use Rattle.camel_replay_lib.specs.Rounds.{FrontIsAtMost}
use Rattle.camel_replay_lib.proofs.threaded_replay.round.check_fronts.Goals as goal

pub loop-at-preserved : goal.loop-at-preserved
loop-at-preserved c =
    All-more (FrontIsAtMost c.args.front) c.args.entries.now c.loop-at.at c.index-entries-at.result (search rules) c.loop-at.invariant (search rules)

pub returns : goal.returns
returns c = rw (← take_all c.loop-at.at c.args.entries.now (search rules)) c.loop-at.invariant
