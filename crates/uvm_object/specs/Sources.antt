-- The texts of nodes and sequences.
use Rattle.std.specs.Prelude.{ℕ, List, [], ◌∷◌, ◌++◌, codes}
use Rattle.uvm_glob.specs.Paths.{path_text}
use Rattle.uvm_sequences.specs.Sequences.{Start, names_of}
use Rattle.uvm_tree.specs.Nodes.{Node, path_at}
use Rattle.uvm_acts.specs.declared.acts.Who.{Who}
use Rattle.uvm_acts.specs.declared.acts.Who.TheVariants as who

-- the text of a path; the path of the root has the text `uvm_top`
abbrev pub shown_path : List (List ℕ) → List ℕ
shown_path [] = codes "uvm_top"
shown_path (name ∷ names) = path_text (name ∷ names)

-- the text of a sequence: the path of its sequencer, `@@`, and the names from its root sequence down to itself
abbrev pub sequence_text : List Node → List Start → ℕ → ℕ → List ℕ
sequence_text nodes started id home = shown_path (path_at nodes home) ++ codes "@@" ++ path_text (names_of started id)

-- the text of a component or sequence as the source of a report
abbrev pub source_text : List Node → List Start → Who → List ℕ
source_text nodes started (who.Node node) = shown_path (path_at nodes node)
source_text nodes started (who.Sequence home id) = sequence_text nodes started id home
