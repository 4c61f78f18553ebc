-- How an entry changes the scripted objects.
use Rattle.std.specs.Prelude.{◌≡◌, List, Option, None, Some, option_map}
use Rattle.uvm_acts.specs.declared.acts.Act.{Act}
use Rattle.uvm_acts.specs.declared.acts.Who.{Who}
use Rattle.uvm_object.specs.declared.entries.Outcome.{Outcome}
use Rattle.uvm_object.specs.declared.entries.Entry.{Entry}
use Rattle.bench_history.specs.declared.needs.Need as declared
use Rattle.bench_history.specs.Cases as next
use Rattle.bench_core.specs.Worlds.{made_who}
use Rattle.script_objects.specs.Answers.{rules_named}
use Rattle.script_objects.specs.Rules.{RuleValue}
use Rattle.script_objects.specs.Scripted.{new_of}
use Rattle.script_objects.specs.Seats.{ChangesAt, SeatsValue, object_after, object_of}

-- the new object is added to the slots if its type has rules; otherwise the slots stay the same
abbrev pub NeedFollows : List Entry → declared.Need → Outcome → Who → Act → SeatsValue → SeatsValue → Option (List RuleValue) → Type 0
NeedFollows before need made performer act old new None = new ≡ old
NeedFollows before need made performer act old new (Some rules) =
    (who : Who) × (made_who before (next.Need need made performer act) ≡ Some who) × ChangesAt who (Some (new_of need.type_name rules)) old new

-- An entry changes the slots so: a needed object is added if its type has rules. A scripted object that was called has received the call.
abbrev pub SeatsFollow : List Entry → next.Next → SeatsValue → SeatsValue → Type 0
SeatsFollow before (next.Answer hearer call origin) old new = ChangesAt hearer (option_map (object_after call) (object_of old hearer)) old new
SeatsFollow before (next.Need need made performer act) old new = NeedFollows before need made performer act old new (rules_named old.answers need.type_name)
SeatsFollow before other old new = new ≡ old
