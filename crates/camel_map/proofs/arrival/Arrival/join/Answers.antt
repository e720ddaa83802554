use Rattle.std.proofs.Common.{◌≡◌, ◌∙◌, ℕ, List, Bool, true, false, not, Ok, bytes_eq, ap, subst, sym, refl}
use Rattle.std.proofs.lemmas.Result.{err_from_is_err_and}
use Rattle.std.proofs.lemmas.Slice.Eq.{bytes_eq-Decides}
use Rattle.camel_rows.specs.TdpRow.{o_csi_of, vt_csi_of}
use Rattle.camel_rows.specs.Update.{is_insert}
use Rattle.camel_map.specs.Arrival.{as_one, insert_of_lists, latest}
use Rattle.camel_map.specs.declared.arrival.CapabilityHandling.{CapabilityHandling}
use Rattle.camel_map.proofs.Joined.Parts.{brings_insert, parts}
use Rattle.camel_map.proofs.Joined.Arrivals.{ends, later_read, received_lists}
use Rattle.camel_map.proofs.arrival.Arrival.join.Goals as goal

not_other : (imsi other : List ℕ) → false ≡ not (bytes_eq imsi other) → imsi ≡ other
not_other imsi other same = by_test (bytes_eq imsi other) refl same
  where
    by_test : (test : Bool) → bytes_eq imsi other ≡ test → false ≡ not test → imsi ≡ other
    by_test true is same = (bytes_eq-Decides imsi other).0 is
    by_test false is same = absurd cc

pub returns-in_default-clause-joined : goal.returns-in_default-clause-joined
returns-in_default-clause-joined c =
    λ imsi earlier later one other.
    absurd (brings_insert imsi earlier c.args.self.now.capabilities c.args.self.now c.in_default.not-Insert one)

pub returns-in_default-update-clause-joined : goal.returns-in_default-update-clause-joined
returns-in_default-update-clause-joined c =
    λ imsi earlier later one other.
    absurd (brings_insert imsi later c.args.next.now.capabilities c.args.next.now c.in_default-update.not-Insert other)

pub returns-then-ne-clause-joined : goal.returns-then-ne-clause-joined
returns-then-ne-clause-joined c =
    λ imsi earlier later one other.
    let first = parts imsi earlier c.args.self.now _ _ _ _ _ one c.in-Insert.is in
    let second = parts imsi later c.args.next.now _ _ _ _ _ other c.in-Insert-update.is in
    let same : c.in-Insert.imsi ≡ c.in-Insert-update.next_imsi = sym first.imsi_is ∙ second.imsi_is in
    let equal : bytes_eq c.in-Insert.imsi c.in-Insert-update.next_imsi ≡ true = (bytes_eq-Decides _ _).1 same in
    let differs = c.if-ne.ensures in
    let not : true ≡ false = rw equal at differs in
    absurd cc

pub returns-in_err-join_lists-clause-joined : goal.returns-in_err-join_lists-clause-joined
unfolding insert_of_lists
returns-in_err-join_lists-clause-joined c =
    λ imsi earlier later one other.
    let first = parts imsi earlier c.args.self.now _ _ _ _ _ one c.in-Insert.is in
    let second = parts imsi later c.args.next.now _ _ _ _ _ other c.in-Insert-update.is in
    let o = later_read o_csi_of earlier.o later.o _ _ first.o_is second.o_is in
    let ended = c.in_err-join_lists.ensures earlier.o_criteria later.o_criteria first.o_criteria_is second.o_criteria_is in
    let returned = err_from_is_err_and c.from_residual.result c.from_residual.ensures.1 in
    rw returned.1 (ends _ _ _ _ returned.2 ended (λ refused. rw (o, refused) refl))

pub returns-in_err-join_lists-2-clause-joined : goal.returns-in_err-join_lists-2-clause-joined
unfolding insert_of_lists
returns-in_err-join_lists-2-clause-joined c =
    λ imsi earlier later one other.
    let first = parts imsi earlier c.args.self.now _ _ _ _ _ one c.in-Insert.is in
    let second = parts imsi later c.args.next.now _ _ _ _ _ other c.in-Insert-update.is in
    let o = later_read o_csi_of earlier.o later.o _ _ first.o_is second.o_is in
    let o_criteria = c.in_ok-join_lists.ensures earlier.o_criteria later.o_criteria first.o_criteria_is second.o_criteria_is in
    let vt = later_read vt_csi_of earlier.vt later.vt _ _ first.vt_is second.vt_is in
    let ended = c.in_err-join_lists-2.ensures earlier.t_criteria later.t_criteria first.t_criteria_is second.t_criteria_is in
    let returned = err_from_is_err_and c.from_residual-in_err-join_lists-2.result c.from_residual-in_err-join_lists-2.ensures.1 in
    rw returned.1 (ends _ _ _ _ returned.2 ended (λ refused. rw (o, o_criteria, vt, refused) refl))

pub returns-clause-joined : goal.returns-clause-joined
unfolding insert_of_lists
returns-clause-joined c =
    λ imsi earlier later one other.
    let first = parts imsi earlier c.args.self.now _ _ _ _ _ one c.in-Insert.is in
    let second = parts imsi later c.args.next.now _ _ _ _ _ other c.in-Insert-update.is in
    let o = later_read o_csi_of earlier.o later.o _ _ first.o_is second.o_is in
    let o_criteria = c.in_ok-join_lists.ensures earlier.o_criteria later.o_criteria first.o_criteria_is second.o_criteria_is in
    let vt = later_read vt_csi_of earlier.vt later.vt _ _ first.vt_is second.vt_is in
    let t_criteria = c.in_ok-join_lists-2.ensures earlier.t_criteria later.t_criteria first.t_criteria_is second.t_criteria_is in
    rw (o, o_criteria, vt, t_criteria, first.imsi_is, c.insert.ensures, c.later_csi.ensures, c.later_csi-2.ensures, c.or.ensures, c.or-2.ensures)
    refl

pub returns-clause-received : goal.returns-clause-received
returns-clause-received c =
    λ received received_too.
    let one = received_lists c.args.self.now (ap is_insert c.in-Insert.is) received in
    let other = received_lists c.args.next.now (ap is_insert c.in-Insert-update.is) received_too in
    let first = parts one.imsi one.lists c.args.self.now _ _ _ _ _ one.whole c.in-Insert.is in
    let second = parts other.imsi other.lists c.args.next.now _ _ _ _ _ other.whole c.in-Insert-update.is in
    let same : one.imsi ≡ other.imsi =
    first.imsi_is ∙ not_other c.in-Insert.imsi c.in-Insert-update.next_imsi c.if-ne.ensures ∙ sym second.imsi_is in
    let other_whole = rw (← same) at other.whole in
    let whole = returns-clause-joined c one.imsi one.lists other.lists one.whole other_whole in
    let capabilities : c.insert.result.capabilities ≡ latest c.args.self.now.capabilities c.args.next.now.capabilities =
    rw (c.insert.ensures, c.or.ensures, c.or-2.ensures) refl in record {
      imsi = one.imsi;
      lists = as_one one.lists other.lists;
      whole =
          subst (λ (capabilities : CapabilityHandling). insert_of_lists one.imsi (as_one one.lists other.lists) capabilities
          ≡ Ok c.insert.result) (sym capabilities) whole;
    }
