use Rattle.std.proofs.Common.{◌≡◌, List, ℕ, ap, arith, length}
use Rattle.camel_tbcd.specs.AddressString.{digits, counted_octets}
use Rattle.camel_tbcd.proofs.DigitLemmas.{length-digits-le}
use Rattle.camel_tbcd.proofs.isdn_address.IsdnAddress.fewer.Goals as goal

pub returns : goal.returns
returns c =
    let kept : List ℕ = counted_octets c.self.inside.counts c.self.inside.room in
    let same : length (digits kept) ≡ length (digits c.args.self.now) = ap (λ octets. length (digits octets)) c.self.view_is in
    omega (arith, length-digits-le kept, c.self.invariant.counted, c.self.invariant.address.few, c.from.ensures)
