-- Each update that an operation can say is read where it is encoded.
use Rattle.std.proofs.Common.{◌≡◌, ℕ, List, Option, Some, Result, Ok, refl, ap, subst, ◌∙◌, ◌<◌, [], ◌∷◌, length, sym}
use Rattle.std.proofs.lemmas.Option.{IfSome_then}
use Rattle.std.proofs.lemmas.List.{append-nil}
use Rattle.camel_ber.specs.Elements.{ElementData, IsIdentifier, ◌>>=◌, PlacedData}
use Rattle.camel_rows.specs.declared.subscriber.update.Update.{Update}
use Rattle.camel_map.specs.Arrival.{bare, Lists}
use Rattle.camel_map.specs.Encoding.{Argument, IsInDialogue, argument_of, IsKept, Encodes, encoding, encodings}
use Rattle.camel_map.specs.Reading.{constructed, elements_in, whole}
use Rattle.camel_map.specs.Update.{arrival_in, cancel_in, delete_in, arrival_of, one_of, update_of}
use Rattle.camel_map.specs.declared.arrival.Arrival.{Arrival}
use Rattle.camel_map.specs.declared.map_fault.MapFault.{MapFault}
use Rattle.camel_map.proofs.EncodedUpdates.Removals.{delete_read, cancel_read}
use Rattle.camel_map.proofs.EncodedUpdates.Inserts.{insert_read}
use Rattle.camel_map.proofs.Encoded.Series.{a_sequence, Decodes, one_octet, first_read, AreRead, IsShort, at}
use Rattle.camel_map.proofs.Encoded.Series.{parts_read}
use Rattle.camel_map.proofs.EncodedUpdates.CamelFields.{insert_of}
use Rattle.camel_map.proofs.EncodedUpdates.InsertFields.{came_insert, came_says}
use Rattle.camel_map.specs.declared.operation.Operation.{Operation}
use Rattle.camel_map.proofs.EncodedSizes.Arguments.{encoding_few}
use Rattle.camel_rows.specs.declared.subscriber.update.Update.TheVariants as update

-- The argument of an update is read as what brings it.

-- an argument is read as what brings the update that it says
pub record IsRead (dialogue : Option (List ℕ)) (update : Update) (argument : Argument) : Type 0 where
  pub arrival : Arrival
  pub says : arrival.update ≡ update
  pub identified : IsIdentifier argument.element.identifier
  pub read : Decodes (arrival_in argument.operation dialogue) argument.element arrival

-- what is read as an update brings it
brought : (value_of : PlacedData → Result Update MapFault) (e : ElementData) (update : Update)
    → Decodes value_of e update → Decodes (λ argument. value_of argument >>= λ update. Ok (bare update)) e (bare update)
brought value_of e update decodes short place end =
    ap (λ (read : Result Update MapFault). read >>= λ update. Ok (bare update)) (decodes short place end)

same_argument : (one other : Argument) → Some one ≡ Some other → one ≡ other
same_argument one other same = cc

same_imsi : (imsi other : List ℕ) → Some imsi ≡ Some other → imsi ≡ other
same_imsi imsi other same = cc

-- each argument that an update has is read so
pub argument_read : (dialogue : Option (List ℕ)) (update : Update) (argument : Argument)
    → argument_of update ≡ Some argument → IsKept update → IsInDialogue dialogue update
    → IsRead dialogue update argument
argument_read dialogue (update.Insert imsi o o_criteria vt t_criteria) argument said kept same =
    let lists : Lists = record { o = o; o_criteria = o_criteria; vt = vt; t_criteria = t_criteria } in
    subst (IsRead dialogue (insert_of imsi lists)) (same_argument _ argument said) record {
      arrival = came_insert imsi lists;
      says = came_says imsi lists;
      identified = a_sequence;
      read = insert_read imsi lists kept dialogue (IfSome_then dialogue same (same_imsi imsi));
    }
argument_read dialogue (update.Delete imsi what) argument said kept same =
    subst (IsRead dialogue (update.Delete imsi what)) (same_argument _ argument said) record {
      arrival = bare (update.Delete imsi what);
      says = refl;
      identified = a_sequence;
      read = brought (delete_in dialogue) _ (update.Delete imsi what)
          (delete_read imsi what dialogue kept (IfSome_then dialogue same (same_imsi imsi)));
    }
argument_read dialogue (update.Cancel imsi) argument said kept same =
    subst (IsRead dialogue (update.Cancel imsi)) (same_argument _ argument said) record {
      arrival = bare (update.Cancel imsi);
      says = refl;
      identified = one_octet (constructed 3) (refl, refl);
      read = brought (cancel_in dialogue) _ (update.Cancel imsi)
          (cancel_read dialogue imsi kept (IfSome_then dialogue same (same_imsi imsi)));
    }
argument_read dialogue (update.Register imsi) argument said kept same = absurd cc
argument_read dialogue update.ClearAll argument said kept same = absurd cc

-- Each update that an operation can say is read where it is encoded.

-- the only element is the argument
only_read : (ps : List PlacedData) (e : ElementData) → AreRead ps (e ∷ [])
    → (place end : ℕ) × (one_of 0 ps ≡ Ok (at e place end)) × IsShort e
only_read [] e read = let same = read.same in absurd cc
only_read (p ∷ []) e read = first_read p (p ∷ []) e [] read
only_read (p ∷ q ∷ ps) e read = let same = read.same in absurd cc

whole_encoding : (e : ElementData) → encodings (e ∷ []) ≡ encoding e
unfolding encodings
whole_encoding e = append-nil (encoding e)

-- the encoding of an update is read as it, in each dialogue that is its subscriber's
pub encoding_decodes : (which : Operation) (dialogue : Option (List ℕ)) (update : Update) (octets : List ℕ)
    → IsKept update → Encodes which update octets → IsInDialogue dialogue update
    → update_of which dialogue (whole octets) ≡ Ok update
unfolding arrival_of
encoding_decodes which dialogue update octets kept encodes same =
    let e = encodes.element in
    let argument : Argument = record { operation = which; element = e } in
    let is = argument_read dialogue update argument encodes.said kept same in
    let spelled : octets ≡ encodings (e ∷ []) = encodes.spelled ∙ sym (whole_encoding e) in
    let few : length (encodings (e ∷ [])) < 4294967296 =
    subst (λ (bytes : List ℕ). length bytes < 4294967296) (sym (whole_encoding e))
    (encoding_few update argument kept encodes.said) in
    let parts = parts_read 0 (e ∷ []) 0 (length octets) (is.identified, tt) few in
    let all : elements_in (whole octets) ≡ Ok parts.0 =
    ap (λ (bytes : List ℕ). elements_in (record { bytes = bytes; end = length octets })) spelled ∙ parts.1 in
    let only = only_read parts.0 e parts.2 in
    let came : arrival_of which dialogue (whole octets) ≡ Ok is.arrival =
    ap (λ (ps : Result (List PlacedData) MapFault). ps >>= one_of 0 >>= arrival_in which dialogue) all
    ∙ ap (λ (argument : Result PlacedData MapFault). argument >>= arrival_in which dialogue) only.2
    ∙ is.read only.3 only.0 only.1 in
    ap (λ (read : Result Arrival MapFault). read >>= λ arrival. Ok arrival.update) came ∙ ap Ok is.says
