use Rattle.std.proofs.Common.{◌≡◌, ℕ, List, IfOk, codes, string_bytes, subst}
use Rattle.std.specs.Fmt.{decimal}
use Rattle.camel_replay_lib.proofs.LineLemmas.{five_pieces}
use Rattle.camel_replay_lib.proofs.command.fault_line_with_record.Goals as goal

pub returns : goal.returns
returns c = subst (λ (line : List ℕ). IfOk c.format.result (λ text. string_bytes text ≡ line))
    (five_pieces (codes "camel_replay: record ") (decimal c.args.number) (codes ": fault ") (decimal c.args.code) (codes "\n")) c.format.ensures.ok
