use Rattle.std.proofs.Common.{◌≡◌, ◌∙◌, ◌<◌, ◌≤◌, ◌+◌, ◌-◌, ◌/◌, ◌^◌, bit_and, sym, ap, subst, arith}
use Rattle.std.proofs.lemmas.Nat.{and_mask}
use Rattle.camel_table.specs.Buckets.{bucket_in}
use Rattle.camel_table.proofs.AddressingLemmas.{double, place_narrow, place_wide, some_power}
use Rattle.camel_table.proofs.addressing.Addressing.bucket.Goals as goal

pub returns-then-bucket-self : goal.returns-then-bucket-self
returns-then-bucket-self g c =
    let self = c.args.self.now in
    let hash = c.hash_one-hash.result in
    let wide = ap (bit_and hash) self.masks ∙ and_mask hash (1 + self.level) in
    wide ∙ sym (place_wide self.level self.count hash (subst (λ n. n < self.count) wide c.if-bucket-self.true))
    ∙ ap (bucket_in self.level self.count) c.hash_one-hash.ensures

pub returns-else-bucket-self : goal.returns-else-bucket-self
returns-else-bucket-self g c =
    let self = c.args.self.now in
    let hash = c.hash_one-hash.result in
    let wide = ap (bit_and hash) self.masks ∙ and_mask hash (1 + self.level) in
    let half : self.mask / 2 ≡ 2 ^ self.level - 1 = omega (arith, self.masks, double self.level, some_power self.level) in
    ap (bit_and hash) half ∙ and_mask hash self.level
    ∙ sym (place_narrow self.level self.count hash (subst (λ n. self.count ≤ n) wide c.if-bucket-self.false))
    ∙ ap (bucket_in self.level self.count) c.hash_one-hash.ensures
