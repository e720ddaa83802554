use Rattle.std.proofs.Common.{◌≡◌, ◌-◌, ◌≤◌, vec_len, vec_capacity, All}
use Rattle.camel_vlr.specs.Store.{fresh_session}
use Rattle.camel_vlr.proofs.writer.Vlr.seat_all.Given as goal

abbrev pub invariant-loop-sessions : goal.invariant-loop-sessions
invariant-loop-sessions g l = record {
  same : l.self ≡ l.fn.self;
  few : vec_len l.sessions ≤ l.places;
  room : l.places ≤ vec_capacity l.sessions;
  fresh_all : All (λ s. s ≡ fresh_session l.self.store) l.sessions.items;
}

abbrev pub decreases-loop-sessions : goal.decreases-loop-sessions
decreases-loop-sessions g l = l.places - vec_len l.sessions
