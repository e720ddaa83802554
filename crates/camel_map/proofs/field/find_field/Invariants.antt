use Rattle.std.proofs.Common.{◌≡◌, ◌++◌, drop, filter}
use Rattle.camel_ber.specs.Elements.{views}
use Rattle.camel_map.specs.Reading.{is_tagged}
use Rattle.camel_map.proofs.Received.Fields.{found_so_far}
use Rattle.camel_map.proofs.field.find_field.Given as goal

-- the field that was found, and behind it those that are left, are all fields of the tag
abbrev pub invariant-loop-field : goal.invariant-loop-field
invariant-loop-field l =
    found_so_far l.found ++ filter (is_tagged l.octet) (views (drop l.field-index l.fields))
    ≡ filter (is_tagged l.octet) (views l.fields)
