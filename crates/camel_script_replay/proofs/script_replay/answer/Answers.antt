use Rattle.camel_script_replay.proofs.script_replay.answer.Goals as goal

-- the text is only the line's, since the last line's was cleared
pub returns-in-Ok-write_all-clause-line : goal.returns-in-Ok-write_all-clause-line
returns-in-Ok-write_all-clause-line g c = rw (c.as_slice.ensures.value, c.in_default.ensures.appended, c.clear.ensures.items, c.in-Ok.ensures.line) at
    c.in-Ok-write_all.ensures.whole
