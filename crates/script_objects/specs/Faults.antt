-- The faults of scripted answers, and their texts.
use Rattle.std.specs.Prelude.{ℕ, List, [], ◌∷◌, ◌++◌, Option, Some, None, codes}
use Rattle.script_answers.specs.declared.faults.LineFault.{LineFault}
use Rattle.script_answers.specs.declared.faults.LineFault.TheVariants as line
use Rattle.script_objects.specs.declared.faults.AnswerFault.{AnswerFault}
use Rattle.script_objects.specs.declared.faults.AnswerFault.TheVariants.{BadName, NotTable, NoList, NoCall, NoAct, NoItem, Memory}
use Rattle.script_objects.specs.declared.faults.FaultyAnswer.{FaultyAnswer}
use Rattle.script_objects.specs.FirstFaults.{FaultAt, named_fault}

-- the fault of answers for a fault of a line
abbrev pub fault_of : LineFault → AnswerFault
fault_of line.NoCall = NoCall
fault_of line.NoAct = NoAct
fault_of line.Memory = Memory

-- the text of a fault
abbrev pub fault_text : AnswerFault → List ℕ
fault_text BadName = codes "not a name"
fault_text NotTable = codes "not a table"
fault_text NoList = codes "expected an array of action strings"
fault_text NoCall = codes "not a call"
fault_text NoAct = codes "not an action"
fault_text NoItem = codes "'*' needs a call that carries an item"
fault_text Memory = codes "memory"

-- the call at fault, if there is one: `."wake 1"`
abbrev pub call_text : Option (List ℕ) → List ℕ
call_text None = []
call_text (Some call) = codes ".\"" ++ call ++ 34 ∷ []

-- the action at fault, if there is one: `: creat c b`
abbrev pub act_text : Option (List ℕ) → List ℕ
act_text None = []
act_text (Some act) = codes ": " ++ act

-- the place, what is wrong there, and the text of the action, if there is one
abbrev pub place_text : FaultAt → List ℕ
place_text at = codes "answers." ++ at.type_name ++ call_text at.call ++ codes ": " ++ fault_text at.fault ++ act_text at.act

-- the text of a fault with its place
abbrev pub faulty_text : FaultyAnswer → List ℕ
faulty_text faulty = place_text (named_fault faulty)
