-- The fields of an encoded VlrCamelSubscriptionInfo, by their tags.
use Rattle.std.proofs.Common.{◌≡◌, ℕ, List, [], ◌∷◌, refl}
use Rattle.camel_ber.specs.Elements.{ElementData}
use Rattle.camel_rows.specs.declared.subscriber.update.Update.{Update}
use Rattle.camel_rows.specs.declared.subscriber.update.Update.TheVariants as update
use Rattle.camel_map.specs.Encoding.{camel_parts, csi_element, ignored_in_o, ignored_in_vt, ignored_o_entry}
use Rattle.camel_map.specs.Encoding.{ignored_row, ignored_t_entry, list_element, o_entry_fields, t_entry_fields}
use Rattle.camel_map.specs.Reading.{constructed}
use Rattle.camel_map.specs.Arrival.{Lists}
use Rattle.camel_map.proofs.Encoded.Parts.{Part, any_part, found, identified, joined, parts_of}
use Rattle.camel_map.proofs.Encoded.Series.{AreIdentified, of_tag}

-- the Insert of lists, as they are sent
abbrev pub insert_of : List ℕ → Lists → Update
insert_of imsi lists = update.Insert imsi lists.o lists.o_criteria lists.vt lists.t_criteria

module _ (lists : Lists) where
  abbrev pub camel_fields : List Part
  camel_fields =
      any_part (constructed 0) (csi_element (ignored_row ignored_in_o) (constructed 0)) lists.o (λ x. refl) (refl, refl)
      ∷ any_part (constructed 4) (list_element o_entry_fields ignored_o_entry (constructed 4)) lists.o_criteria (λ x. refl) (refl, refl)
      ∷ any_part (constructed 7) (csi_element (ignored_row ignored_in_vt) (constructed 7)) lists.vt (λ x. refl) (refl, refl)
      ∷ any_part (constructed 8) (list_element t_entry_fields ignored_t_entry (constructed 8)) lists.t_criteria (λ x. refl) (refl, refl)
      ∷ []

  abbrev pub info : List ElementData
  info = camel_parts lists.o lists.o_criteria lists.vt lists.t_criteria

  pub all_identified : AreIdentified info
  all_identified = identified [] camel_fields tt

  -- the fields of a tag
  pub the_fields : (octet : ℕ) → of_tag octet info ≡ joined [] (parts_of octet camel_fields)
  the_fields octet = found octet [] camel_fields
