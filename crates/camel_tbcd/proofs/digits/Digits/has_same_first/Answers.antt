use Rattle.std.proofs.Common.{◌*◌, ◌-◌, ◌%◌, ◌^◌, ◌∙◌, ap, sym}
use Rattle.std.proofs.lemmas.Bool.Decides.{Decides-eqb}
use Rattle.camel_tbcd.proofs.DifferenceLemmas.{same_shifted}
use Rattle.camel_tbcd.proofs.digits.Digits.has_same_first.Goals as goal

pub returns : goal.returns
returns c =
    let mine = c.args.self.now in
    let theirs = c.args.other.now in
    let told = same_shifted mine.bytes.now theirs.bytes.now c.args.count mine.octets theirs.octets c.requires.packed c.requires.mine c.requires.theirs in
    let left = ap (λ n. n * 2 ^ (64 - 4 * c.args.count) % 2 ^ 64) mine.numbered in
    let right = ap (λ n. n * 2 ^ (64 - 4 * c.args.count) % 2 ^ 64) theirs.numbered in
    let test = Decides-eqb (mine.number * 2 ^ (64 - 4 * c.args.count) % 2 ^ 64) (theirs.number * 2 ^ (64 - 4 * c.args.count) % 2 ^ 64) in
    (λ e. told.0 (sym left ∙ test.0 e ∙ right), λ same. test.1 (left ∙ told.1 same ∙ sym right))
