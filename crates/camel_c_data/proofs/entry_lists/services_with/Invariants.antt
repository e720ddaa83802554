use Rattle.std.proofs.Common.{◌≡◌, ◌≤◌, All, length, map, take}
use Rattle.camel_c_data.specs.declared.basic_service.CamelBasicService.{CamelBasicService}
use Rattle.camel_c_data.specs.Fields.{basic_service_in}
use Rattle.camel_c_data.proofs.entry_lists.services_with.Given as goal

-- the first places have the fields of the first services
abbrev pub invariant-loop-at : goal.invariant-loop-at
invariant-loop-at l = record {
  whole : length l.room ≡ 5;
  flags : All (λ (service : CamelBasicService). service.is_bearer ≤ 1) l.room;
  so_far : map basic_service_in (take l.at l.room) ≡ take l.at l.services;
}
