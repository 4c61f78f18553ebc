-- Which action of the kernel belongs to what comes next.
use Rattle.std.specs.Prelude.{◌≡◌, ℕ, Option}
use Rattle.uvm_acts.specs.declared.acts.Who.{Who}
use Rattle.uvm_acts.specs.declared.acts.Call.{Call}
use Rattle.uvm_object.specs.declared.entries.Origin.{Origin}
use Rattle.uvm_object.specs.declared.entries.Entry.TheVariants as entry
use Rattle.uvm_object.specs.declared.entries.Passage.{Passage}
use Rattle.bench_history.specs.Cases as next
use Rattle.bench_history.specs.Next.{IsAct}
use Rattle.world_entries.specs.KernelEntries.{entry_of}
use Rattle.bench_core.specs.Worlds as request
use Rattle.bench_core.specs.declared.next_actions.NextAction.{NextAction}
use Rattle.bench_core.specs.declared.next_actions.NextAction.TheVariants.{Nothing, Enter, Grant, Pass, Act, Ask}

-- the action of the kernel is what comes next; for `Ask` the open request is for an answer, and for every other action there is none
abbrev pub IsNextAction : next.Next → request.Standing → NextAction → Type 0
IsNextAction comes standing Nothing = (standing ≡ request.Nothing) × (comes ≡ next.Nothing)
IsNextAction comes standing (Enter kernel_entry) = (standing ≡ request.Nothing) × (comes ≡ next.Exactly (entry_of kernel_entry))
IsNextAction comes standing (Grant sequencer drawn) = (standing ≡ request.Nothing) × (chosen : Option ℕ → Option ℕ) × (comes ≡ next.Grant sequencer drawn chosen)
IsNextAction comes standing Pass = (standing ≡ request.Nothing) × (fifo : ℕ) × (passage : Passage) × (comes ≡ next.Exactly (entry.Passed fifo passage))
IsNextAction comes standing Act = (standing ≡ request.Nothing) × IsAct comes
IsNextAction comes standing Ask = (hearer : Who) × (call : Call) × (origin : Option Origin) × (standing ≡ request.Asked hearer call origin) × (comes ≡ next.Answer hearer call origin)
