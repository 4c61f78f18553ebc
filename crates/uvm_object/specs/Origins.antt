-- How an entry stores an origin.
use Rattle.std.specs.Prelude.{Option, Some, None}
use Rattle.uvm_object.specs.declared.entries.Origin.{Origin}
use Rattle.uvm_object.specs.declared.entries.CompactOrigin.{CompactOrigin}
use Rattle.uvm_object.specs.declared.entries.CompactOrigin.TheVariants as origin

-- the origin that an entry stores in compact form, if it has one
abbrev pub held_origin : CompactOrigin → Option Origin
held_origin origin.None = None
held_origin (origin.Caused phase place number) = Some (record { cause = record { place = place; number = number }; phase = phase })
