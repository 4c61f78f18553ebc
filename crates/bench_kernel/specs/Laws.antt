-- Laws of legal logs on which the holding of objects rests, and what they state of the components and sequences that are made.
use Rattle.std.specs.Prelude.{◌≡◌, ℕ, List, [], ◌∷◌, Some, None, Contains}
use Rattle.uvm_acts.specs.declared.acts.Who.{Who}
use Rattle.uvm_acts.specs.declared.acts.Who.TheVariants.{Sequence}
use Rattle.uvm_object.specs.declared.entries.Entry.{Entry}
use Rattle.std.specs.List.{IsDistinct}
use Rattle.std.specs.Map.{keys_of}
use Rattle.uvm_object.specs.Objects.{life_of, same_who}
use Rattle.bench_script.specs.Scripts.{ScriptValue}
use Rattle.bench_history.specs.Next.{EachIsNext, IsNext, made_in, need_in, next_of}
use Rattle.bench_core.specs.Worlds.{made_who}
use Rattle.bench_kernel.specs.Kernels.{needed_type, types_made}
use Rattle.bench_history.specs.Laws.{NothingAfterOver, MachineEntriesAreSilent, NodesStay, NeedsAreWanted, MadeObjectsAreNew, NewNodesAreUnasked, NewSequencesAreUnasked, ComponentsAreNodes, LivingLived, LeaversLived}

-- the laws of legal logs on which the holding of objects rests
pub record LogLaws : Type 0 where
  pub over : NothingAfterOver
  pub silent : MachineEntriesAreSilent
  pub nodes : NodesStay
  pub wanted : NeedsAreWanted
  pub made : MadeObjectsAreNew
  pub unasked_nodes : NewNodesAreUnasked
  pub unasked_sequences : NewSequencesAreUnasked
  pub components : ComponentsAreNodes
  pub lived : LivingLived
  pub leavers : LeaversLived

-- a component or sequence is made, one more than before, with the name of the type that was needed; it was not called yet
pub record IsMadeNew (script : ScriptValue) (history : List Entry) (entry : Entry) (who : Who) : Type 0 where
  pub types : types_made script (entry ∷ history) ≡ (who, needed_type script history) ∷ types_made script history
  pub unasked : life_of who history ≡ []

-- law: a component or sequence that is made is new, and was not called yet (`IsMadeNew`)
abbrev pub MadeAreNew : Type 0
MadeAreNew =
    (script : ScriptValue) (history : List Entry) (entry : Entry) (who : Who) → EachIsNext script history → made_in (next_of script history) ≡ Some entry
    → made_who history (next_of script history) ≡ Some who → IsMadeNew script history entry who

-- law: an entry for which no object was needed makes no component and starts no sequence
abbrev pub OthersMakeNobody : Type 0
OthersMakeNobody =
    (script : ScriptValue) (history : List Entry) (entry : Entry) → need_in (next_of script history) ≡ None → IsNext script history entry
    → types_made script (entry ∷ history) ≡ types_made script history

-- no component or sequence is in the list twice, and no two sequences have the same number, on any sequencers
pub record AreMadeOnce (made : List Who) : Type 0 where
  pub distinct : IsDistinct same_who made
  pub numbers : (id home other : ℕ) → Contains made (Sequence home id) → Contains made (Sequence other id) → home ≡ other

-- law: no component or sequence is made twice, so no number of a node or of a sequence is used again (`AreMadeOnce`)
abbrev pub NobodyIsMadeTwice : Type 0
NobodyIsMadeTwice = (script : ScriptValue) (history : List Entry) → EachIsNext script history → AreMadeOnce (keys_of (types_made script history))
