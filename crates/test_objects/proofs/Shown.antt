-- The tree and the sequences in which lines are shown: `uvm_test_top`, and `a` below it, at which a sequence `a` and its child `b` were started.
use Rattle.std.specs.Prelude.{ℕ, List, [], ◌∷◌, Some, None, codes}
use Rattle.uvm_tree.specs.declared.nodes.NodeKind.TheVariants.{Component}
use Rattle.uvm_tree.specs.Nodes.{Node, top}
use Rattle.uvm_sequences.specs.Sequences.{Start}
use Rattle.uvm_acts.specs.declared.acts.Act.{Act}
use Rattle.uvm_acts.specs.declared.acts.Call.{Call}
use Rattle.uvm_acts.specs.declared.acts.Who.{Who}
use Rattle.uvm_acts.specs.declared.acts.Who.TheVariants.{Node as AtNode}
use Rattle.uvm_object.specs.declared.entries.Entry.{Entry}
use Rattle.uvm_object.specs.declared.entries.Entry.TheVariants.{Did, Heard}
use Rattle.uvm_object.specs.declared.entries.Outcome.{Outcome}
use Rattle.uvm_object.specs.declared.entries.Outcome.TheVariants.{Done}
use Rattle.uvm_lines.specs.Lines.{entry_line}

abbrev pub nodes : List Node
nodes =
    top
    ∷ record { under = Some (0, codes "uvm_test_top"); path = codes "uvm_test_top" ∷ []; kind = Component }
    ∷ record { under = Some (1, codes "a"); path = codes "uvm_test_top" ∷ codes "a" ∷ []; kind = Component }
    ∷ []

abbrev pub started : List Start
started =
    record { home = 2; parent = Some 1; name = codes "b"; priority = 100 }
    ∷ record { home = 2; parent = None; name = codes "a"; priority = 100 }
    ∷ []

-- the line of an entry
abbrev pub shown : Entry → List ℕ
shown entry = entry_line nodes started entry

-- the line of an act of `uvm_test_top`, by its outcome, and of one that was done
abbrev pub did : Outcome → Act → List ℕ
did outcome act = shown (Did (AtNode 1) outcome act)

abbrev pub done : Act → List ℕ
done act = did Done act

-- the line of an answer without acts, by a sequence and by `uvm_test_top`
abbrev pub heard_by : Who → Call → List ℕ
heard_by who call = shown (Heard who None call [])

abbrev pub heard : Call → List ℕ
heard call = heard_by (AtNode 1) call
