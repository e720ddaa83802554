use Rattle.std.proofs.Common.{rules, ◌≡◌, ◌<◌, ◌≤◌, ◌+◌, ◌*◌, ℕ, zero, suc, Some, None, true, length, slice_get, refl, arith}
use Rattle.std.proofs.lemmas.Bool.Decides.{nat_tests}
use Rattle.std.proofs.lemmas.Option.{slice_get_read}
use Rattle.camel_criteria.specs.DetectionPoint.{is_among}
use Rattle.camel_rows.specs.TdpRow.{has_no_two, list_refusal, TdpRowData}
use Rattle.camel_rows.proofs.RowLemmas.{few-from_taken, room_left}
use Rattle.camel_rows.proofs.csi.Csi.of_received.Goals as goal

-- the room of a CSI fits into memory
fits : (most : ℕ) → most ≤ 3 → prog.Memory.up 4 (prog.Memory.up 1 (prog.Memory.up 1 (0 + most * 16) + 1) + 0) < 9223372036854775808
fits zero few = omega arith
fits (suc zero) few = omega arith
fits (suc (suc zero)) few = omega arith
fits (suc (suc (suc zero))) few = omega arith
fits (suc (suc (suc (suc most)))) few = absurd (omega arith)

pub push-requires : goal.push-requires
push-requires g c =
    let points = g.K.Entry.CriteriaEntry.points in let rows = c.args.received.now in
    let at = c.loop-row.row-index in
    let row = c.row-item.result in
    let there : slice_get rows at ≡ Some row = slice_get_read rows (length rows) at row refl (grind (arith, nat_tests)) c.row-item.is in
    let kept : is_among points row.dp ≡ true = search rules in
    let taken : list_refusal (length rows) (has_no_two (λ (row : TdpRowData). row.dp) points rows) ≡ None = rw (← c.detection_points-points.ensures, ← c.has_no_two.ensures) c.in_ok-check_list.ensures.taken in
    let few = few-from_taken (λ row. row.dp) points rows taken in
    let left = room_left (λ row. row.dp) points rows at row there kept in
    (fits g.row.MOST c.requires.few, rw c.loop-row.invariant (omega arith))
