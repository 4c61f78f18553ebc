-- The sequences that send items: they send one item after another, and their view is the number of items sent.
use Rattle.std.specs.Prelude.{ℕ, ◌+◌, List, [], ◌∷◌, Option, Some, None, slice_get}
use Rattle.uvm_tlm.specs.declared.items.Item.{Item}
use Rattle.uvm_object.specs.Objects.{View}
use Rattle.uvm_acts.specs.declared.acts.Call.{Call}
use Rattle.uvm_acts.specs.declared.acts.Call.TheVariants.{Grant}
use Rattle.uvm_acts.specs.declared.acts.Act.{Act}
use Rattle.uvm_acts.specs.declared.acts.Act.TheVariants.{Send}

-- the count in a view; 0 if the view is empty
abbrev pub count_of : View → ℕ
count_of [] = 0
count_of (count ∷ view) = count

-- the action that sends the next item, if one is left
abbrev pub send_acts : Option Item → List Act
send_acts None = []
send_acts (Some item) = Send item ∷ []

-- the first actions if an item is left; otherwise the second
abbrev pub while_left : Option Item → List Act → List Act → List Act
while_left (Some item) more over = more
while_left None more over = over

-- the number of items sent after the next item, if one is left
abbrev pub one_sent : ℕ → Option Item → ℕ
one_sent sent None = sent
one_sent sent (Some item) = sent + 1

-- the number of items sent after a call: each grant sends the next item
abbrev pub sent_after : List Item → ℕ → Call → ℕ
sent_after items sent Grant = one_sent sent (slice_get items sent)
sent_after items sent call = sent
