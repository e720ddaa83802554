use Rattle.std.proofs.Common.{arith, refl}
use Rattle.std.specs.Prelude.{codes}
use Rattle.std.proofs.lemmas.Slice.Eq.{text_from_reads}
use Rattle.camel_script.specs.Record.{kind_of_word}
use Rattle.camel_script.proofs.record.parse_kind.Goals as goal

pub returns-in-register : goal.returns-in-register
unfolding kind_of_word
returns-in-register c =
    rw (text_from_reads c.args.word.now (codes "register") (omega arith)
    (omega arith, (omega arith, (omega arith, (omega arith, (omega arith, (omega arith, (omega arith, (omega arith, tt))))))))) refl

pub returns-in-insert : goal.returns-in-insert
unfolding kind_of_word
returns-in-insert c =
    rw (text_from_reads c.args.word.now (codes "insert") (omega arith)
    (omega arith, (omega arith, (omega arith, (omega arith, (omega arith, (omega arith, tt))))))) refl

pub returns-in-delete : goal.returns-in-delete
unfolding kind_of_word
returns-in-delete c =
    rw (text_from_reads c.args.word.now (codes "delete") (omega arith)
    (omega arith, (omega arith, (omega arith, (omega arith, (omega arith, (omega arith, tt))))))) refl

pub returns-in-cancel : goal.returns-in-cancel
unfolding kind_of_word
returns-in-cancel c =
    rw (text_from_reads c.args.word.now (codes "cancel") (omega arith)
    (omega arith, (omega arith, (omega arith, (omega arith, (omega arith, (omega arith, tt))))))) refl

pub returns-in-clear : goal.returns-in-clear
unfolding kind_of_word
returns-in-clear c =
    rw (text_from_reads c.args.word.now (codes "clear") (omega arith)
    (omega arith, (omega arith, (omega arith, (omega arith, (omega arith, tt)))))) refl

pub returns-in-publish : goal.returns-in-publish
unfolding kind_of_word
returns-in-publish c =
    rw (text_from_reads c.args.word.now (codes "publish") (omega arith)
    (omega arith, (omega arith, (omega arith, (omega arith, (omega arith, (omega arith, (omega arith, tt)))))))) refl
