use Rattle.std.proofs.Common.{◌∙◌, ◌<◌, ◌≤◌, ap, subst, arith}
use Rattle.camel_table.specs.Buckets.{joined}
use Rattle.camel_table.proofs.SegmentsLemmas.{full_more, joined_more, last_length, last_measured, none_measured, room_by_length, room_more}
use Rattle.camel_table.proofs.segments.make_room.Goals as goal
use Rattle.camel_table.proofs.segments.make_room.Goals.{else-count-gt0-via-then-count-gt0+else-len-lt-SEGMENT, else-count-gt0-via-else-count-gt0}

pub returns-then-len-lt-SEGMENT-clause-room : goal.returns-then-len-lt-SEGMENT-clause-room
returns-then-len-lt-SEGMENT-clause-room g c =
    let count = c.len-count.ensures ∙ c.args.segments.now.ok.0 in
    let measured = c.len.ensures ∙ c.index.result.now.ok.0 ∙ last_measured _ count c.if-count-gt0.true c.index.ensures in
    room_by_length c.args.segments.now.items (subst (λ n. n < 128) measured c.if-len-lt-SEGMENT.true)

pub returns-clause-full : goal.returns-clause-full
returns-clause-full g c =
    let segments = c.args.segments.now in
    let count = c.len-count.ensures ∙ segments.ok.0 in
    let whole : 128 ≤ last_length segments.items = elim c.else-count-gt0.branch [
      | else-count-gt0-via-then-count-gt0+else-len-lt-SEGMENT w ↦
          let measured = w.len.ensures ∙ w.index.result.now.ok.0 ∙ last_measured _ count w.if-count-gt0.true w.index.ensures in
          subst (λ n. 128 ≤ n) measured w.if-len-lt-SEGMENT.false
      | else-count-gt0-via-else-count-gt0 w ↦
          let none = none_measured segments.items (subst (λ n. n ≤ 0) count w.if-count-gt0.false) in
          omega (arith, none)
    ] in
    rw c.in_ok-push.ensures.items (full_more segments.items c.in_ok-with_capacity.field-0 c.in_ok-with_capacity.ensures.items c.requires whole)

pub returns-clause-room : goal.returns-clause-room
returns-clause-room g c = rw c.in_ok-push.ensures.items (room_more c.args.segments.now.items c.in_ok-with_capacity.field-0 c.in_ok-with_capacity.ensures.items)

pub returns-clause-same : goal.returns-clause-same
returns-clause-same g c =
    ap joined c.in_ok-push.ensures.items ∙ joined_more c.args.segments.now.items c.in_ok-with_capacity.field-0 c.in_ok-with_capacity.ensures.items
