-- The keys of answers, and the calls that each key matches.
use Rattle.std.specs.Prelude.{◌≡◌, ◌<◌, ◌^◌, ℕ, ◌-◌, ◌==◌, Bool, true, List, length, take, nat_eq, slice_index_or, bytes_eq, if◌then◌else◌}
use Rattle.std.specs.Prelude.{Option, Some, None, IfSome, is_some}
use Rattle.std.specs.List.{starts_with}
use Rattle.uvm_tlm.specs.declared.items.Item.{Item}
use Rattle.uvm_lines.specs.Lines.{call_text}
use Rattle.script_answer_acts.specs.Sound.{IsItem, IsName, IsSigned}
use Rattle.script_answers.specs.declared.faults.LineFault.{LineFault}
use Rattle.script_answers.specs.declared.faults.LineFault.TheVariants.{NoCall, Memory}
use Rattle.uvm_acts.specs.declared.acts.Call.{Call}
use Rattle.uvm_acts.specs.declared.acts.Call.TheVariants.{Config, Wake, Stored, TryStored, Taken, TryTaken, Peeked, Written, NextItem, ItemDone, Finished}

-- whether the last byte of a key is `*` (42)
abbrev pub is_open : List ℕ → Bool
is_open key = slice_index_or key (length key - 1) 0 == 42

-- the fixed text of a key: the key without a `*` at its end
abbrev pub fixed : List ℕ → List ℕ
fixed key = if is_open key then take (length key - 1) key else key

-- Whether a key matches the call with this line: the line is the key. If the key ends in `*`, the line begins with the text before it.
abbrev pub is_for : List ℕ → List ℕ → Bool
is_for key line = if is_open key then starts_with nat_eq line (fixed key) else bytes_eq line key

-- whether a text is empty or its last byte is a blank (32)
abbrev pub ends_between_words : List ℕ → Bool
ends_between_words text = slice_index_or text (length text - 1) 32 == 32

-- whether a key has whole words: a `*` at its end, if it has one, follows a blank or is the whole key
abbrev pub has_whole_words : List ℕ → Bool
has_whole_words key = if is_open key then ends_between_words (fixed key) else true

-- the item of a call, if it has one
abbrev pub item_in : Call → Option Item
item_in (Taken port item) = Some item
item_in (Peeked port item) = Some item
item_in (Written imp item) = Some item
item_in (TryTaken port item) = item
item_in (NextItem port item) = item
item_in (ItemDone response) = response
item_in call = None

-- The names, numbers and items of a call are valid. This holds for each value of type `Call`.
abbrev pub CanBeCall : Call → Type 0
CanBeCall (Config field value) = IsName field × IfSome value IsSigned
CanBeCall (Wake tag) = tag < 2 ^ 32
CanBeCall (Stored port) = IsName port
CanBeCall (TryStored port stored) = IsName port
CanBeCall (Taken port item) = IsName port × IsItem item
CanBeCall (TryTaken port item) = IsName port × IfSome item IsItem
CanBeCall (Peeked port item) = IsName port × IsItem item
CanBeCall (Written imp item) = IsName imp × IsItem item
CanBeCall (NextItem port item) = IsName port × IfSome item IsItem
CanBeCall (ItemDone response) = IfSome response IsItem
CanBeCall (Finished name id) = IsName name × (id < 2 ^ 64)
CanBeCall call = Unit {0}

-- a line is the line of a possible call, and `has_item` says whether that call has an item
pub record IsCallLine (line : List ℕ) (has_item : Bool) : Type 0 where
  pub call : Call
  pub can : CanBeCall call
  pub text : call_text call ≡ line
  pub item : is_some (item_in call) ≡ has_item

-- a key matches a possible call, and `has_item` says whether that call has an item
pub record IsKeyOf (key : List ℕ) (has_item : Bool) : Type 0 where
  pub call : Call
  pub can : CanBeCall call
  pub for : is_for key (call_text call) ≡ true
  pub item : is_some (item_in call) ≡ has_item

-- no call that the key matches has an item
abbrev pub LacksItem : List ℕ → Type 0
LacksItem key = (call : Call) → CanBeCall call → is_for key (call_text call) ≡ true → item_in call ≡ None

-- a text is the key of no call
abbrev pub IsNoKey : List ℕ → Type 0
IsNoKey key = (call : Call) → CanBeCall call → is_for key (call_text call) ≡ true → has_whole_words key ≡ true → ⊥

-- the fault of a key whose call cannot be read: `Memory` stays, and any other becomes `NoCall`
abbrev pub key_fault : LineFault → LineFault
key_fault Memory = Memory
key_fault other = NoCall
