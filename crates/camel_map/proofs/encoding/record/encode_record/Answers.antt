use Rattle.camel_map.specs.Encoding.{insert_of_record}
use Rattle.camel_map.proofs.Written.Records.{record_stands}
use Rattle.camel_map.proofs.Written.Updates.{update_decodes}
use Rattle.camel_map.proofs.encoding.record.encode_record.Goals as goal

pub returns-clause-stands : goal.returns-clause-stands
returns-clause-stands c = record_stands c.args.imsi.now c.args.subscriber.now

pub returns-clause-decoded : goal.returns-clause-decoded
returns-clause-decoded c =
    λ dialogue kept same. update_decodes dialogue (insert_of_record c.args.imsi.now c.args.subscriber.now) kept same
