use Rattle.camel_c.proofs.ReadingLemmas.{submits_as}
use Rattle.camel_c_data.specs.Update.{insert_in}
use Rattle.camel_c.proofs.store.submission.submit_insert.Goals as goal

pub returns : goal.returns
returns c = let a = c.args in
    submits_as c.read.result (insert_in a.sent.now a.imsi.now)
    c.submit.result a.store.now.value c.submit.new.store.value c.read.ensures c.submit.ensures
