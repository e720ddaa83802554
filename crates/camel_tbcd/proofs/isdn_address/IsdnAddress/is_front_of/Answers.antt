use Rattle.std.proofs.Common.{◌≡◌, ◌∙◌, ◌%◌, ap, arith, get_or, sym}
use Rattle.std.proofs.lemmas.List.{get_or-take, length-take}
use Rattle.camel_tbcd.specs.Address.{octets}
use Rattle.camel_tbcd.specs.AddressString.{packed_digits}
use Rattle.camel_tbcd.proofs.ProfileLemmas.{front_told, agree_by_firsts}
use Rattle.camel_tbcd.proofs.isdn_address.IsdnAddress.is_front_of.Goals as goal

pub returns : goal.returns
returns c =
    let listed = c.args.self.now in
    let destination = octets c.args.destination.now in
    let called = c.digits-digits.result in
    let same = c.read-front.ensures.octets in
    let some = c.self.invariant.address.some in
    let count = length-take (c.self.inside.counts % 10) c.self.inside.room in
    let first : get_or c.self.inside.room 0 0 ≡ get_or listed 0 0 =
    sym (get_or-take (c.self.inside.counts % 10) c.self.inside.room 0 0 (omega (arith, some, count))) ∙ ap (λ octets. get_or octets 0 0) c.self.view_is in
    let other : get_or c.bytes.result.now 0 0 ≡ get_or destination 0 0 = ap (λ octets. get_or octets 0 0) c.bytes.ensures.same in
    let bits = c.differing_bits-differing_first.ensures in
    let firsts = agree_by_firsts c.args.profile listed destination _ _ first other in
    rw (c.number.ensures, c.number-2.ensures ∙ ap packed_digits same, c.from.ensures)
    (front_told c.args.profile listed destination called.bytes.now c.fewer-half.result _ (rw same at c.read-front.result.octets) called.octets
    c.digits-digits.ensures c.fewer-half.ensures (λ none. firsts.0 (bits.0 none), λ are. bits.1 (firsts.1 are)))
