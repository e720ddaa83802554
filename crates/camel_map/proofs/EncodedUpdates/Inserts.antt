-- An encoded InsertSubscriberDataArg is read as its update.
use Rattle.std.proofs.Common.{◌≡◌, ℕ, List, [], ◌∷◌, IfSome, Option, refl}
use Rattle.camel_ber.specs.Elements.{ElementData}
use Rattle.camel_map.specs.Encoding.{leaf, parent, tbcd_octets, IsKept}
use Rattle.camel_map.specs.Reading.{constructed, primitive, sequence, imsi_or_of_dialogue}
use Rattle.camel_map.specs.Arrival.{Lists}
use Rattle.camel_map.specs.Update.{insert_in}
use Rattle.camel_map.proofs.EncodedUpdates.CamelFields.{all_identified, info, insert_of}
use Rattle.camel_map.proofs.Encoded.Series.{field_there, AreIdentified, Decodes, one_octet, parts_read}
use Rattle.camel_map.proofs.Encoded.Imsis.{own_imsi_read}
use Rattle.camel_map.proofs.EncodedUpdates.InsertFields.{came_insert, fields_read}

module _ (imsi : List ℕ) (lists : Lists) where
  abbrev argument_parts : List ElementData
  argument_parts = leaf (primitive 0) (tbcd_octets imsi) ∷ parent (constructed 13) (info lists) ∷ []

  argument_identified : AreIdentified argument_parts
  argument_identified = (one_octet (primitive 0) (refl, refl), (one_octet (constructed 13) (refl, refl), tt))

  -- an InsertSubscriberDataArg is read as its update
  pub insert_read : IsKept (insert_of imsi lists) → (dialogue : Option (List ℕ)) → IfSome dialogue (λ other. imsi ≡ other)
      → Decodes (insert_in dialogue) (parent sequence argument_parts) (came_insert imsi lists)
  unfolding insert_in imsi_or_of_dialogue
  insert_read kept dialogue same short place end =
      let parts = parts_read sequence argument_parts place end argument_identified short in
      let own = leaf (primitive 0) (tbcd_octets imsi) in
      let own_field = field_there (primitive 0) parts.0 argument_parts own refl parts.2 refl in
      let is_imsi = own_imsi_read dialogue (primitive 0) imsi kept.0 same own_field.3 own_field.0 own_field.1 in
      let camel = parent (constructed 13) (info lists) in
      let field = field_there (constructed 13) parts.0 argument_parts camel refl parts.2 refl in
      let inner = parts_read (constructed 13) (info lists) field.0 field.1 (all_identified lists) field.3 in
      rw (parts.1, own_field.2, is_imsi, field.2, inner.1) (fields_read imsi lists kept inner.0 inner.2)
