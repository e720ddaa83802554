-- An encoded DeleteSubscriberDataArg or CancelLocationArg is read as its update.
use Rattle.std.proofs.Common.{ℕ, ◌≡◌, List, [], ◌∷◌, IfSome, Option, refl, Ok}
use Rattle.camel_ber.specs.Elements.{ElementData}
use Rattle.camel_rows.specs.declared.subscriber.update.Withdrawal.{Withdrawal}
use Rattle.camel_tbcd.specs.Imsi.{IsImsi}
use Rattle.camel_map.specs.Encoding.{everything_parts, leaf, parent, specific_parts, tbcd_octets}
use Rattle.camel_map.specs.Reading.{primitive, sequence, own_imsi, constructed, octet_string}
use Rattle.camel_map.specs.Update.{delete_in, cancel_in, cancelled_in, first_identity_in, identity_in}
use Rattle.camel_map.proofs.Encoded.Series.{mandatory_read, Decodes, at, one_octet, parts_read, first_read}
use Rattle.camel_map.proofs.Encoded.Imsis.{own_imsi_read}
use Rattle.camel_map.proofs.Encoded.Parts.{Part, found, identified, joined, everything_are, everything_read}
use Rattle.camel_map.proofs.Encoded.Parts.{specific_are, specific_read}
use Rattle.camel_map.specs.Csi.{first_of}
use Rattle.camel_rows.specs.declared.subscriber.update.Update.TheVariants as update

-- An encoded DeleteSubscriberDataArg is read as its update.

module _ (imsi : List ℕ) (what : Withdrawal) where
  abbrev imsi_part : ElementData
  imsi_part = leaf (primitive 0) (tbcd_octets imsi)

  abbrev named : List Part
  named =
      record {
        octet = primitive 9;
        elements = everything_parts what.everything;
        are = everything_are what.everything;
        identifier = one_octet (primitive 9) (refl, refl);
      }
      ∷ record {
        octet = primitive 15;
        elements = specific_parts what.o what.vt;
        are = specific_are what.o what.vt;
        identifier = one_octet (primitive 15) (refl, refl);
      }
      ∷ []

  abbrev argument_parts : List ElementData
  argument_parts = joined (imsi_part ∷ []) named

  -- a DeleteSubscriberDataArg is read as its update
  pub delete_read : (dialogue : Option (List ℕ)) → IsImsi imsi → IfSome dialogue (λ other. imsi ≡ other)
      → Decodes (delete_in dialogue) (parent sequence argument_parts) (update.Delete imsi what)
  unfolding delete_in
  delete_read dialogue is same short place end =
      let argument = at (parent sequence argument_parts) place end in
      let are = identified (imsi_part ∷ []) named (one_octet (primitive 0) (refl, refl), tt) in
      let parts = parts_read sequence argument_parts place end are short in
      let fields = parts.0 in
      let own = mandatory_read (own_imsi dialogue) (primitive 0) fields argument_parts argument imsi_part imsi refl parts.2
      (found (primitive 0) (imsi_part ∷ []) named) (own_imsi_read dialogue (primitive 0) imsi is same) in
      let everything = everything_read fields argument_parts parts.2 what.everything (found (primitive 9) (imsi_part ∷ []) named) in
      let csis = specific_read fields argument_parts parts.2 what.everything what.o what.vt
      (found (primitive 15) (imsi_part ∷ []) named) in
      rw (parts.1, own, everything, csis) refl

-- An encoded CancelLocationArg is read as its update.

pub cancel_read : (dialogue : Option (List ℕ)) (imsi : List ℕ) → IsImsi imsi → IfSome dialogue (λ other. imsi ≡ other)
    → Decodes (cancel_in dialogue) (parent (constructed 3) (leaf octet_string (tbcd_octets imsi) ∷ []))
    (update.Cancel imsi)
unfolding cancel_in cancelled_in first_identity_in identity_in
cancel_read dialogue imsi is same short place end =
    let e = leaf octet_string (tbcd_octets imsi) in
    let argument = at (parent (constructed 3) (e ∷ [])) place end in
    let parts = parts_read (constructed 3) (e ∷ []) place end (one_octet octet_string (refl, refl), tt) short in
    let first = first_read argument parts.0 e [] parts.2 in
    let there : first_of argument parts.0 ≡ Ok (at e first.0 first.1) = first.2 in
    let own : own_imsi dialogue (at e first.0 first.1) ≡ Ok imsi =
    own_imsi_read dialogue octet_string imsi is same first.3 first.0 first.1 in
    rw (parts.1, there, own) refl
