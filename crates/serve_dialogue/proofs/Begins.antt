-- Before the first entry of a run.
use Rattle.serve_dialogue.proofs.Common.{◌≡◌, ℕ, Bool, List, [], arith, refl, Stream, ScriptValue, AreDrawn, count_after, TypeValue, SpokeLog, Spoken}

-- no number was drawn
pub drawn-none : {Words : Type 0} (stream : Words → Stream) (words : Words) → AreDrawn stream [] words words
drawn-none stream words = record { words = refl; left = refl }

-- no line was read
no-lines : (count : ℕ) → count ≡ count_after count 0
no-lines count = omega arith

-- nothing was spoken of the empty log
pub no_log : {C : Type 0} (spoke : C → C → List Spoken → Type 0) (ended : C → C → Type 0) (line : C → ℕ) → ((client : C) → spoke client client []) → (answers : List TypeValue) (trace : Bool) (script : ScriptValue) (client : C)
    → SpokeLog spoke ended line answers script trace [] client client
no_log spoke ended line silent answers trace script client = record { talk = silent client; lines = no-lines (line client) }
