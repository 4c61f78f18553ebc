-- The laws of the lines of calls.
use Rattle.std.specs.Prelude.{◌≡◌}
use Rattle.uvm_acts.specs.declared.acts.Call.{Call}
use Rattle.uvm_lines.specs.Lines.{call_text}
use Rattle.script_answers.specs.Calls.{call_words}
use Rattle.script_answers.specs.Keys.{CanBeCall}
use Rattle.script_answers.specs.Words.{words_of}

-- splitting the line of a call at its blanks gives the words of the call
abbrev pub CallsHaveWords : Type 0
CallsHaveWords = (call : Call) → CanBeCall call → words_of (call_text call) ≡ call_words call
