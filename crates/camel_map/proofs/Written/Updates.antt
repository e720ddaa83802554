-- The octets of an update are decoded to it.
use Rattle.std.proofs.Common.{◌≡◌, ℕ, List, IfSome, Option, Some, None, Ok, refl}
use Rattle.std.specs.Option.{option_map}
use Rattle.camel_rows.specs.declared.subscriber.update.Update.{Update}
use Rattle.camel_map.specs.Encoding.{Argument, IsInDialogue, argument_of, encoding, IsKept, argument_octets}
use Rattle.camel_map.specs.Encoding.{octets_of_update, operation_of_update}
use Rattle.camel_map.specs.Reading.{whole}
use Rattle.camel_map.specs.Update.{update_of}
use Rattle.camel_map.proofs.EncodedUpdates.Updates.{encoding_decodes}

argument_decodes : (dialogue : Option (List ℕ)) (update : Update) (said : Option Argument) → argument_of update ≡ said
    → IsKept update → IsInDialogue dialogue update
    → IfSome (option_map (λ argument. argument.operation) said)
    (λ operation. update_of operation dialogue (whole (argument_octets said)) ≡ Ok update)
argument_decodes dialogue update None is kept same = tt
argument_decodes dialogue update (Some argument) is kept same =
    encoding_decodes argument.operation dialogue update (encoding argument.element) kept
    record { element = argument.element; said = is; spelled = refl } same

pub update_decodes : (dialogue : Option (List ℕ)) (update : Update) → IsKept update → IsInDialogue dialogue update
    → IfSome (operation_of_update update)
    (λ operation. update_of operation dialogue (whole (octets_of_update update)) ≡ Ok update)
update_decodes dialogue update kept same = argument_decodes dialogue update (argument_of update) refl kept same
