use Rattle.std.proofs.Common.{◌∙◌, inl, refl, ap}
use Rattle.camel_vlr.specs.Store.{StoreData}
use Rattle.camel_c.proofs.PublicationLemmas.{all_pending, several_accepted}
use Rattle.camel_c.proofs.store.LiveStore.take_several.Goals as goal

pub returns-in-Ok : goal.returns-in-Ok
returns-in-Ok c =
    let live = c.args.self.now in
    let accepted = c.in-Ok.ensures.accepted ∙ all_pending live.vlr c.args.updates.items in record {
      taken = λ done. (
        ap (λ (vlr : StoreData). record { vlr = vlr; number = live.number; held = live.held }) accepted,
        several_accepted live.vlr c.args.updates.items c.requires.several c.in-Ok.ensures.all,
      );
      none = λ done. c.requires.count;
      unchanged = λ failed. absurd (failed refl);
      refused = inl refl;
    }
