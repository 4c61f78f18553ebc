-- The scripted objects of a run over a client: the objects of the types that have answers. The kernel holds them, and the client takes no
-- part in requests for them.
use Rattle.std.specs.Prelude.{◌≡◌, ℕ, Bool, true, false, List, [], ◌∷◌, Option, IfSome, OnSome, is_some, option_and_then, option_map}
use Rattle.std.specs.Map.{lookup}
use Rattle.uvm_acts.specs.declared.acts.Who.{Who}
use Rattle.uvm_object.specs.Objects.{Exchange, life_of, same_who}
use Rattle.uvm_object.specs.declared.entries.Entry.{Entry}
use Rattle.uvm_object.specs.declared.entries.Entry.TheVariants.{Did, Heard}
use Rattle.bench_script.specs.Scripts.{ScriptValue}
use Rattle.bench_history.specs.Cases as next
use Rattle.bench_history.specs.Next.{next_of}
use Rattle.bench_kernel.specs.Kernels.{types_made}
use Rattle.script_objects.specs.Answers.{TypeValue, rules_named}
use Rattle.script_objects.specs.Scripted.{ScriptedValue, new_of}
use Rattle.script_objects.specs.Seats.{SeatsValue, acts_by, object_after, object_of}

-- a scripted object after a list of calls, newest call first
abbrev pub after_calls : ScriptedValue → List Exchange → ScriptedValue
after_calls object [] = object
after_calls object (exchange ∷ earlier) = object_after exchange.0 (after_calls object earlier)

-- an object of a type after a list of calls, if the type has answers
abbrev pub of_type : List TypeValue → List Exchange → List ℕ → Option ScriptedValue
of_type answers calls type_name = option_map (λ rules. after_calls (new_of type_name rules) calls) (rules_named answers type_name)

-- the name of the type of a component or a sequence, if it was made
abbrev pub type_of : ScriptValue → List Entry → Who → Option (List ℕ)
type_of script history who = lookup (same_who who) (types_made script history)

-- the scripted object of a component or a sequence after all calls that it received, if its type has answers
abbrev pub scripted_of : List TypeValue → ScriptValue → List Entry → Who → Option ScriptedValue
scripted_of answers script history who = option_and_then (of_type answers (life_of who history)) (type_of script history who)

-- whether what comes next concerns a scripted object: the request for one, or the call to one
abbrev pub is_scripted : List TypeValue → ScriptValue → List Entry → next.Next → Bool
is_scripted answers script history (next.Answer hearer call origin) = is_some (scripted_of answers script history hearer)
is_scripted answers script history (next.Need need made performer act) = is_some (rules_named answers need.type_name)
is_scripted answers script history other = false

-- what the client must answer of what comes next (`client_next`): nothing if it concerns a scripted object, otherwise all of it
abbrev pub left_to_client : Bool → next.Next → next.Next
left_to_client true comes = next.Nothing
left_to_client false comes = comes

abbrev pub client_next : List TypeValue → ScriptValue → List Entry → next.Next
client_next answers script history = left_to_client (is_scripted answers script history (next_of script history)) (next_of script history)

-- An entry for a scripted object is as its rules decide: a needed object is made; a called object answers by its rules, after the calls that
-- it received before.
abbrev pub IsByScript : List TypeValue → ScriptValue → List Entry → next.Next → Entry → Type 0
IsByScript answers script before (next.Answer hearer call origin) entry = IfSome (scripted_of answers script before hearer) (λ object. entry ≡ Heard hearer origin call (acts_by call object))
IsByScript answers script before (next.Need need made performer act) entry = OnSome (rules_named answers need.type_name) (entry ≡ Did performer made act)
IsByScript answers script before other entry = Unit {0}

-- each entry of a log for a scripted object is as its rules decide
abbrev pub AreByScript : List TypeValue → ScriptValue → List Entry → Type 0
AreByScript answers script [] = Unit {0}
AreByScript answers script (entry ∷ before) = IsByScript answers script before (next_of script before) entry × AreByScript answers script before

-- the slots hold exactly the scripted objects of a log
abbrev pub AreSeated : ScriptValue → List Entry → SeatsValue → Type 0
AreSeated script history seats = (who : Who) → object_of seats who ≡ scripted_of seats.answers script history who
