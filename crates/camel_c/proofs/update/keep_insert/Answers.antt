use Rattle.std.proofs.Common.{subst}
use Rattle.camel_map.specs.declared.arrival.ItemCounts.{ItemCounts}
use Rattle.camel_c_data.specs.Update.{insert_in}
use Rattle.camel_c.specs.Updates.{Makes, ReadsAndMakes, counted}
use Rattle.camel_c.proofs.ReadingLemmas.{made_lists, makes_as}
use Rattle.camel_c.proofs.update.keep_insert.Goals as goal

pub returns-clause-made : goal.returns-clause-made
returns-clause-made c =
    let a = c.args in
    let reading = insert_in a.sent.now a.imsi.now in
    let status = c.keep.result in
    let before = a.update.now.value in
    let after = c.keep.new.handle.value in
    subst (λ (counts : ItemCounts). ReadsAndMakes (counted counts reading) status before after) c.counts_in.ensures
    (makes_as c.counts_in.result c.read-read.result reading status before after c.read-read.ensures c.keep.ensures)

pub returns-clause-received : goal.returns-clause-received
returns-clause-received c =
    let a = c.args in
    let status = c.keep.result in
    let before = a.update.now.value in
    let after = c.keep.new.handle.value in
    let makes = subst (λ (counts : ItemCounts). Makes (counted counts c.read-read.result) status before after)
    c.counts_in.ensures c.keep.ensures in
    made_lists a.sent.now a.imsi.now c.read-read.result status before after c.read-read.ensures makes
