-- Octets of the caller, and the update that they are.
use Rattle.std.proofs.Common.{◌≡◌, ◌∙◌, ℕ, refl, sym, ap, subst, inl, inr, ⊎_elim, arith, List}
use Rattle.std.specs.Prelude.{Option, Result, Ok, Err}
use Rattle.camel_c.proofs.ReadingLemmas.{no_fault, same_value}
use Rattle.camel_c.specs.Octets.{ReadsOctets, TakesOctets, no_octet, octets_fault_code, octets_fault_place, arrival_in}
use Rattle.camel_c.specs.Octets.{dialogue_in, in_argument, operation_in, octets_in, update_read}
use Rattle.camel_c.specs.declared.object.Object.{Object}
use Rattle.camel_c.specs.declared.update.octets.OctetsFault.{OctetsFault}
use Rattle.camel_ber.specs.Elements.{◌>>=◌}
use Rattle.camel_rows.specs.declared.subscriber.update.Update.{Update}
use Rattle.camel_map.specs.Reading.{whole}
use Rattle.camel_map.specs.Update.{arrival_of}
use Rattle.camel_map.specs.declared.arrival.Arrival.{Arrival}
use Rattle.camel_map.specs.declared.map_fault.MapFault.{MapFault}
use Rattle.camel_c_data.specs.declared.imsi.CamelImsi.{CamelImsi}

-- Octets of the caller: what is read, what the octets are, and what a call makes of them.

-- octets without a fault, which are taken
pub takes_value : {A : Type 0} (Takes : A → Type 0) (value : A) (status : ℕ) (before after : Option Object)
    → Takes value → ((status ≡ 0 → ⊥) → after ≡ before)
    → TakesOctets Takes (Ok value) status no_octet before after
takes_value Takes value status before after takes same = record {
  taken = λ e. refl;
  unchanged = same;
  value = λ other is. (subst Takes (same_value value other is) takes, refl);
  faulty = λ fault is. absurd (no_fault value fault is);
}

not_both : (status : ℕ) → status ≡ 102 → status ≡ 0 → ⊥
not_both status refused e = omega (arith, e, refused)

-- octets for which memory is refused
octets_out_of_memory : {A : Type 0} (Takes : A → Type 0) (reading : Result A OctetsFault) (status place : ℕ)
    (before after : Option Object) → ((value : A) → (status ≡ 102) × (after ≡ before) → Takes value)
    → (status ≡ 102) × (place ≡ no_octet) → after ≡ before → TakesOctets Takes reading status place before after
octets_out_of_memory Takes reading status place before after or_refused refused same = record {
  taken = λ e. absurd (not_both status refused.0 e);
  unchanged = λ _. same;
  value = λ value is. (or_refused value (refused.0, same), refused.1);
  faulty = λ fault is. inr refused;
}

-- what is taken as read is taken as the octets are
pub takes_octets_as : {A : Type 0} (Takes : A → Type 0) (read reading : Result A OctetsFault) (status place : ℕ)
    (before after : Option Object) → ((value : A) → (status ≡ 102) × (after ≡ before) → Takes value)
    → ReadsOctets read reading → TakesOctets Takes read status place before after
    → TakesOctets Takes reading status place before after
takes_octets_as {A} Takes (Ok value) reading status place before after or_refused is as_read =
    subst (λ (r : Result A OctetsFault). TakesOctets Takes r status place before after) (sym is) as_read
takes_octets_as {A} Takes (Err fault) reading status place before after or_refused (inr is) as_read =
    subst (λ (r : Result A OctetsFault). TakesOctets Takes r status place before after) (sym is) as_read
takes_octets_as {A} Takes (Err fault) reading status place before after or_refused (inl memory) as_read =
    let refused : (status ≡ 102) × (place ≡ no_octet) = ⊎_elim
    (λ (e : (status ≡ octets_fault_code fault) × (place ≡ octets_fault_place fault)).
    (e.0 ∙ ap octets_fault_code memory, e.1 ∙ ap octets_fault_place memory))
    (λ (e : (status ≡ 102) × (place ≡ no_octet)). e) (as_read.faulty fault refl) in
    octets_out_of_memory Takes reading status place before after or_refused refused (as_read.unchanged (not_both status refused.0))

-- The update that octets are is that of what they bring.

of_argument : (reading : Result Arrival MapFault)
    → in_argument (reading >>= λ arrival. Ok arrival.update) ≡ update_read (in_argument reading)
of_argument (Ok arrival) = refl
of_argument (Err fault) = refl

of_step : {A : Type 0} (step : Result A OctetsFault) (one : A → Result Update OctetsFault) (other : A → Result Arrival OctetsFault)
    → ((value : A) → one value ≡ update_read (other value)) → (step >>= one) ≡ update_read (step >>= other)
of_step (Ok value) one other same = same value
of_step (Err fault) one other same = refl

octets_in-update : (code : ℕ) (imsi : CamelImsi) (argument : List ℕ)
    → octets_in code imsi argument ≡ update_read (arrival_in code imsi argument)
unfolding octets_in arrival_in
octets_in-update code imsi argument = of_step (operation_in code) _ _ (λ operation. of_step (dialogue_in imsi) _ _ (λ dialogue.
    of_argument (arrival_of operation dialogue (whole argument))))

update_read-as : (read reading : Result Arrival OctetsFault)
    → ReadsOctets read reading → ReadsOctets (update_read read) (update_read reading)
update_read-as (Ok arrival) reading is = ap update_read is
update_read-as (Err fault) reading (inl memory) = inl memory
update_read-as (Err fault) reading (inr is) = inr (ap update_read is)

-- what is read gives the update that the octets are
pub reads_update : (code : ℕ) (imsi : CamelImsi) (argument : List ℕ) (read : Result Arrival OctetsFault)
    → ReadsOctets read (arrival_in code imsi argument) → ReadsOctets (update_read read) (octets_in code imsi argument)
reads_update code imsi argument read is =
    subst (ReadsOctets (update_read read)) (sym (octets_in-update code imsi argument))
    (update_read-as read (arrival_in code imsi argument) is)
