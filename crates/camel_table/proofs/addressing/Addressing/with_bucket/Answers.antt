use Rattle.std.proofs.Common.{◌≡◌, ◌∙◌, ◌+◌, ◌^◌, sym, ap, arith}
use Rattle.camel_table.proofs.AddressingLemmas.{double, less_than, shifted_two, some_power}
use Rattle.camel_table.proofs.addressing.Addressing.with_bucket.Goals as goal
use Rattle.camel_table.proofs.addressing.Addressing.with_bucket.Goals.{then-is_over, else-is_over}

pub returns-clause-within : goal.returns-clause-within
returns-clause-within g c =
    let self = c.args.self.now in
    let within = c.requires.within in
    let wide = shifted_two self.level c.requires.low in
    rw (c.new.ensures.count, c.new.ensures.level)
    (elim c.if-is_over.branch [
      | then-is_over w ↦
          let whole : self.count ≡ 2 ^ (1 + self.level) = w.if-is_over.true ∙ wide in
          let began = c.requires.began in
          let more = double (1 + self.level) in
          let next : 2 ^ (1 + c.if-is_over.level) ≡ 2 ^ (1 + (1 + self.level)) = ap (λ n. 2 ^ (1 + n)) (w.level-is ∙ omega arith) in
          let some = some_power (1 + self.level) in
          omega (arith, whole, more, next, some)
      | else-is_over w ↦
          let next : 2 ^ (1 + c.if-is_over.level) ≡ 2 ^ (1 + self.level) = ap (λ n. 2 ^ (1 + n)) w.level-is in
          let other = λ (e : self.count ≡ 2 ^ (1 + self.level)). w.if-is_over.false (e ∙ sym wide) in
          less_than self.count (2 ^ (1 + self.level)) (2 ^ (1 + c.if-is_over.level)) within other next
    ])
