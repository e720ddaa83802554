use Rattle.std.proofs.Common.{◌∙◌, [], ◌∷◌, ◌++◌, sym, ap, append_assoc, subst, rules}
use Rattle.camel_table.specs.ByImsi.{ListsEachOnce}
use Rattle.camel_rows.proofs.StoreLemmas.{IsDirectoryOfListed, next_left_out, next_put, none_listed}
use Rattle.camel_rows.specs.Store.{DirectoryData}
use Rattle.camel_rows.proofs.subscriber.admission.directory_of.Goals as goal

pub loop-imsi-init : goal.loop-imsi-init
loop-imsi-init c = record {
  each_once = search rules;
  done = subst (λ (d : DirectoryData). IsDirectoryOfListed [] d c.args.records.now) (sym c.new-directory.ensures) (none_listed c.args.records.now);
}

pub loop-imsi-preserved-in-Continue-branch-2 : goal.loop-imsi-preserved-in-Continue-branch-2
loop-imsi-preserved-in-Continue-branch-2 c =
    let m = c.args.records.now in let done = c.loop-imsi.yielded in let imsi = c.in-Some.imsi in
    let order = ap (λ list. done ++ list) c.in-Some.ensures.steps.0 ∙ sym (append_assoc done (imsi ∷ []) c.next.new.self.rest.items) in
    record {
      each_once = subst (λ list. ListsEachOnce list m) order c.loop-imsi.invariant.each_once;
      done = subst (λ (d : DirectoryData). IsDirectoryOfListed (done ++ imsi ∷ []) d m) (sym c.in_ok-insert.ensures.put)
          (next_put done imsi c.loop-imsi.directory m c.in-Some-csis.csis c.in-Some-csis.ensures c.loop-imsi.invariant.done);
    }

pub loop-imsi-preserved : goal.loop-imsi-preserved
loop-imsi-preserved c =
    let m = c.args.records.now in let done = c.loop-imsi.yielded in let imsi = c.in-Some.imsi in
    let order = ap (λ list. done ++ list) c.in-Some.ensures.steps.0 ∙ sym (append_assoc done (imsi ∷ []) c.next.new.self.rest.items) in
    record {
      each_once = subst (λ list. ListsEachOnce list m) order c.loop-imsi.invariant.each_once;
      done = next_left_out done imsi c.loop-imsi.directory m c.in_default.ensures c.loop-imsi.invariant.done;
    }
