use Rattle.std.proofs.Common.{◌≡◌, ◌+◌, ◌*◌, ◌∙◌, ◌++◌, ◌∷◌, [], suc, ap, ap₂, arith}
use Rattle.camel_tbcd.specs.Imsi.{last_digits}
use Rattle.camel_tbcd.proofs.ImsiLemmas.{few_more, fewer, last_more}
use Rattle.camel_tbcd.proofs.first_digits.FirstDigits.push.Goals as goal

pub overflow_mul-self : goal.overflow_mul-self
overflow_mul-self c =
    let room = fewer c.self.inside.count c.self.inside.value _ c.self.view_is c.requires.room in
    omega (arith, few_more c.self.inside.count c.self.inside.value room c.self.invariant.1)

pub overflow_add-self : goal.overflow_add-self
overflow_add-self c =
    let room = fewer c.self.inside.count c.self.inside.value _ c.self.view_is c.requires.room in
    omega (arith, few_more c.self.inside.count c.self.inside.value room c.self.invariant.1, c.from.ensures, c.requires.decimal)

pub returns : goal.returns
returns c =
    let count = c.self.inside.count in
    let value = c.self.inside.value in
    let next : count + 1 ≡ suc count = omega arith in
    ap₂ (λ n digit. last_digits n (value * 10 + digit)) next c.from.ensures
    ∙ last_more count value c.args.digit c.requires.decimal
    ∙ ap (λ digits. digits ++ c.args.digit ∷ []) c.self.view_is
