-- The calls to an object and its answers.
use Rattle.std.specs.Prelude.{ℕ, Bool, false, ◌==◌, ◌&&◌, List, [], ◌∷◌, ◌↔◌, if◌then◌else◌}
use Rattle.std.specs.List.{flat_map}
use Rattle.uvm_acts.specs.declared.acts.Who.{Who}
use Rattle.uvm_acts.specs.declared.acts.Who.TheVariants.{Node, Sequence}
use Rattle.uvm_acts.specs.declared.acts.Call.{Call}
use Rattle.uvm_acts.specs.declared.acts.Act.{Act}
use Rattle.uvm_object.specs.declared.entries.Entry.{Entry}
use Rattle.uvm_object.specs.declared.entries.Entry.TheVariants.{Heard}

-- the visible state of an object, as numbers
abbrev pub View : Type 0
View = List ℕ

-- a call and the actions that answer it
abbrev pub Exchange : Type 0
Exchange = Call × List Act

-- the relation of an object: between the view before, a call, the actions that may answer it, and the view after
abbrev pub Says : Type 1
Says = View → Call → List Act → View → Type 0

-- two relations hold in the same cases
abbrev pub SameSays : Says → Says → Type 0
SameSays says others = (before : View) (call : Call) (acts : List Act) (after : View) → says before call acts after ↔ others before call acts after

-- whether two receivers are the same: components are compared by node, sequences by number and sequencer
abbrev pub same_who : Who → Who → Bool
same_who (Node node) (Node other) = node == other
same_who (Sequence home id) (Sequence there other) = (id == other) && (home == there)
same_who who other = false

-- the call to the object of `who` and its answer that an entry records; empty if it records none
abbrev pub exchanged_in : Who → Entry → List Exchange
exchanged_in who (Heard performer origin call acts) = if same_who performer who then (call, acts) ∷ [] else []
exchanged_in who entry = []

-- all calls to the object of `who` and its answers in a log, newest first
abbrev pub life_of : Who → List Entry → List Exchange
life_of who history = flat_map (exchanged_in who) history

-- `says` holds at each exchange, from one view to the next; views and exchanges are newest first, and there is one view more
abbrev pub IsHonest : Says → List View → List Exchange → Type 0
IsHonest says [] life = ⊥
IsHonest says (first ∷ []) [] = Unit {0}
IsHonest says (first ∷ []) (exchange ∷ life) = ⊥
IsHonest says (after ∷ before ∷ earlier) [] = ⊥
IsHonest says (after ∷ before ∷ earlier) (exchange ∷ life) = says before exchange.0 exchange.1 after × IsHonest says (before ∷ earlier) life

-- there are earlier views so that `says` holds at each exchange and the current view is this one
abbrev pub IsHonestNow : Says → View → List Exchange → Type 0
IsHonestNow says view life = (earlier : List View) × IsHonest says (view ∷ earlier) life
