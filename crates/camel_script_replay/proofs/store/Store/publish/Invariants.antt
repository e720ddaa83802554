use Rattle.std.proofs.Common.{length}
use Rattle.camel_script_replay.proofs.StoreLemmas.{IsPublishing}
use Rattle.camel_script_replay.proofs.store.Store.publish.Given as goal

abbrev pub invariant-updates : goal.invariant-updates
invariant-updates l = IsPublishing l.fn.self l.self-inside.admission l.self-inside.records l.self-inside.profile
    (record { published = l.self-inside.published.value; pending = l.self-inside.pending.items })

abbrev pub decreases-updates : goal.decreases-updates
decreases-updates l = length l.self-inside.pending.items
