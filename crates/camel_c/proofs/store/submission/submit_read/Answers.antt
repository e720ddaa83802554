use Rattle.std.proofs.Common.{inl, sym, subst}
use Rattle.std.specs.Prelude.{Ok, Result}
use Rattle.camel_map.specs.declared.arrival.Arrival.{Arrival}
use Rattle.camel_c.proofs.OctetsLemmas.{takes_value}
use Rattle.camel_c.specs.Octets.{no_octet, SubmitsOctets, update_read}
use Rattle.camel_c.specs.Submission.{ReadsAndSubmits}
use Rattle.camel_c.specs.declared.update.octets.OctetsFault.{OctetsFault}
use Rattle.camel_c.proofs.store.submission.submit_read.Goals as goal

pub returns-in-Ok : goal.returns-in-Ok
returns-in-Ok c =
    let before = c.args.store.now.value in
    let after = c.submit.new.store.value in
    let status = c.submit.result in
    subst (λ (r : Result Arrival OctetsFault). SubmitsOctets (update_read r) status no_octet before after) (sym c.in-Ok.is)
    (takes_value (λ update. ReadsAndSubmits (Ok update) status before after) c.in-Ok.arrival.update status before after
    (inl c.submit.ensures) c.submit.ensures.unchanged)
