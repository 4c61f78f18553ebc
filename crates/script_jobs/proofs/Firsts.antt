-- What a list without a first is.
use Rattle.script_jobs.proofs.Common.{◌≡◌, List, [], ◌∷◌, None, refl, slice_get, Data, Types, IsAnswersFault, IsReadFault, Script, UnknownTest, NoTable, UnknownType, NoObject, Answers, Verdict, Clean, Faulty, Refused, Broken, Option}

pub none_first : {A : Type 0} (xs : List A) → slice_get xs 0 ≡ None → xs ≡ []
none_first [] none = refl
none_first (x ∷ xs) none = cc

-- answers that are refused before it is asked which types have an object are refused
pub read_fault : (said : Option Data) (types : Types) (verdict : Verdict) → IsReadFault said types verdict → IsAnswersFault said types verdict
read_fault said types Clean fault = fault
read_fault said types Faulty fault = fault
read_fault said types (Refused (Script why)) fault = fault
read_fault said types (Refused (UnknownTest name)) fault = fault
read_fault said types (Refused NoTable) fault = fault
read_fault said types (Refused (UnknownType name)) fault = fault
read_fault said types (Refused (NoObject name)) fault = absurd fault
read_fault said types (Refused (Answers text)) fault = fault
read_fault said types (Broken why) fault = fault
