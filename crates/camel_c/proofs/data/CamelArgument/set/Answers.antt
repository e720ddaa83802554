use Rattle.std.proofs.Common.{◌++◌, length, refl, ap₂}
use Rattle.std.proofs.lemmas.List.{drop-replicate}
use Rattle.camel_c.proofs.data.CamelArgument.set.Goals as goal

pub returns-clause-written : goal.returns-clause-written
returns-clause-written c = record {
  count = refl;
  room = ap₂ (λ octets rest. octets ++ rest) c.copy_from_slice.ensures.after (drop-replicate (length c.args.octets.now) 1198 0);
}
