use Rattle.std.proofs.Common.{rules, ◌≡◌, ◌∙◌, ◌+◌, ◌++◌, [], ◌∷◌, length, map, sym, ap, append_assoc}
use Rattle.std.proofs.lemmas.List.{map-append}
use Rattle.std.proofs.lemmas.List.Elements.{All-append, All-cons, All-nil}
use Rattle.camel_replay_lib.proofs.RoundLemmas.{AreNumbered-push}
use Rattle.camel_replay_lib.specs.Rounds.{HasNoEntries, session_in}
use Rattle.camel_replay_lib.specs.declared.threaded_replay.seat.Seat.{Seat}
use Rattle.camel_replay_lib.proofs.threaded_replay.seats_of.Goals as goal

pub sessions-preserved : goal.sessions-preserved
sessions-preserved c =
    let so_far = c.sessions.invariant in
    let seats = c.sessions.seats.items in
    let left = c.pop_front.new.self.items in
    let seat : Seat = record { number = c.len-number.result; session = c.in-Some.session; entries = c.new.result } in
    let empty : HasNoEntries seat = c.new.ensures.items in
    let number : c.len-number.result ≡ 0 + length seats = search rules in
    rw c.in_ok-push_back.ensures.items record {
      sessions = ap (λ sessions. sessions ++ left) (map-append session_in seats (seat ∷ [])) ∙ append_assoc (map session_in seats) (seat.session ∷ []) left
          ∙ sym (ap (λ sessions. map session_in seats ++ sessions) c.in-Some.ensures.items) ∙ so_far.sessions;
      numbered = AreNumbered-push 0 seats seat so_far.numbered number;
      empty = All-append HasNoEntries seats (seat ∷ []) so_far.empty (All-cons HasNoEntries seat [] empty (All-nil HasNoEntries));
    }
