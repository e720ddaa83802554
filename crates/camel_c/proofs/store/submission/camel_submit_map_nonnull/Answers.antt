use Rattle.std.proofs.Common.{inr}
use Rattle.std.specs.Prelude.{Ok}
use Rattle.camel_c.proofs.OctetsLemmas.{takes_octets_as, reads_update}
use Rattle.camel_c.specs.Octets.{octets_in, update_read}
use Rattle.camel_c.specs.Submission.{ReadsAndSubmits}
use Rattle.camel_c.proofs.store.submission.camel_submit_map_nonnull.Goals as goal

pub returns : goal.returns
returns c =
    let a = c.args in
    let status = c.submit_read.result in
    let before = a.store.now.value in
    let after = c.submit_read.new.store.value in
    takes_octets_as (λ update. ReadsAndSubmits (Ok update) status before after) (update_read c.read_octets-read.result)
    (octets_in a.operation a.imsi.now a.argument.now) status c.submit_read.new.place before after (λ update e. inr e)
    (reads_update a.operation a.imsi.now a.argument.now c.read_octets-read.result c.read_octets-read.ensures.read)
    c.submit_read.ensures
