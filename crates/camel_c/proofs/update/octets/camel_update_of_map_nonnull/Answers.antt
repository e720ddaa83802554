use Rattle.std.proofs.Common.{inr}
use Rattle.camel_c.proofs.OctetsLemmas.{takes_octets_as}
use Rattle.camel_c.specs.Octets.{arrival_in}
use Rattle.camel_c.specs.Updates.{ReadsAndFills}
use Rattle.camel_c.proofs.update.octets.camel_update_of_map_nonnull.Goals as goal

pub returns-clause-made : goal.returns-clause-made
returns-clause-made c =
    let a = c.args in
    let status = c.keep_read.result in
    let before = a.update.now.value in
    let after = c.keep_read.new.handle.value in
    takes_octets_as (λ arrival. ReadsAndFills arrival status before after) c.read_octets-read.result
    (arrival_in a.operation a.imsi.now a.argument.now) status c.keep_read.new.place before after (λ arrival e. inr e)
    c.read_octets-read.ensures.read c.keep_read.ensures.made
