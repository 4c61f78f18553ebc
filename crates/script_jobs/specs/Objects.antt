-- The objects of a run: their views, names and relations, and the object of each type.
use Rattle.std.specs.Prelude.{ℕ, List, [], Option, Some, None}
use Rattle.uvm_object.specs.Objects.{Says, View}
use Rattle.bus_objects.specs.Objects as bus
use Rattle.bus_objects.specs.declared.objects.BusObject.{BusObject}
use Rattle.script_objects.specs.Answers.{TypeValue, rules_named}
use Rattle.script_objects.specs.Rules.{RuleValue}
use Rattle.script_objects.specs.Scripted.{ScriptedSays, new_of}
use Rattle.script_jobs.specs.declared.objects.BenchObject.{BenchObject}
use Rattle.script_jobs.specs.declared.objects.BenchObject.TheVariants.{Scripted, Bus}

-- the view of an object of a run: how often each of its rules has answered, or the view of the bus object
abbrev pub view_of : BenchObject → View
view_of (Scripted scripted) = scripted.used
view_of (Bus object) = bus.view_of object

-- the name of the type of an object of a run
abbrev pub name_of : BenchObject → List ℕ
name_of (Scripted scripted) = scripted.type_name
name_of (Bus object) = bus.name_of object

-- the relation of an object of a run: that of its rules, or that of the bus object
abbrev pub says_of : BenchObject → Says
says_of (Scripted scripted) = ScriptedSays scripted.rules
says_of (Bus object) = bus.says_of object

-- The new object of a type. It answers by the type's rules, if there are any. Otherwise it is the built-in object of the bus bench, or
-- answers every call with no actions.
abbrev pub object_of : List ℕ → Option (List RuleValue) → Option BusObject → BenchObject
object_of type_name (Some rules) object = Scripted (new_of type_name rules)
object_of type_name None (Some object) = Bus object
object_of type_name None None = Scripted (new_of type_name [])

-- the new object of the type with this name, by the answers of a document
abbrev pub object_named : List TypeValue → List ℕ → BenchObject
object_named types type_name = object_of type_name (rules_named types type_name) (bus.object_named type_name)
