use Rattle.std.proofs.Common.{◌≡◌, length, nat_lt, true, false, refl, Result, Ok, Err, MatchResult}
use Rattle.std.specs.Str.{is_utf8}
use Rattle.std.proofs.lemmas.Bool.{le-ltb, false_from_ne_true}
use Rattle.std.proofs.lemmas.Str.{is_utf8-from_IsUtf8, IsUtf8-from_is_utf8}
use Rattle.script_values.specs.declared.faults.ScriptFault.{ScriptFault}
use Rattle.script_values.specs.declared.faults.ScriptFault.TheVariants.{Memory}
use Rattle.bench_script.specs.Limits.{most_script_bytes}
use Rattle.bench_script.proofs.reading.read_document.Goals as goal

-- either way
either : {A : Type 0} (result : Result A ScriptFault) (P : Type 0) → P → MatchResult result (λ _. P) (λ fault. fault ≡ Memory → P)
either (Ok value) P holds = holds
either (Err fault) P holds = λ memory. holds

-- bytes that are no text
pub returns-in_default-clause-reading : goal.returns-in_default-clause-reading
returns-in_default-clause-reading c = λ _.
    let short : nat_lt most_script_bytes (length c.args.bytes.now) ≡ false = le-ltb _ _ c.if-bytes-gt-MAX_LEN.false in
    let no : is_utf8 c.args.bytes.now ≡ false = false_from_ne_true _ (λ yes. c.in_default.ensures.cases.0 (IsUtf8-from_is_utf8 _ yes)) in
    rw (short, no) refl

-- bytes that are a text
pub returns-clause-reading : goal.returns-clause-reading
returns-clause-reading c =
    let short : nat_lt most_script_bytes (length c.args.bytes.now) ≡ false = le-ltb _ _ c.if-bytes-gt-MAX_LEN.false in
    let yes : is_utf8 c.args.bytes.now ≡ true = is_utf8-from_IsUtf8 _ c.in-Ok.ensures.cases.1 in
    rw (short, yes) (rw (c.in-Ok.ensures.cases.0) at c.parse.ensures)

-- whatever they say
pub returns-clause-readable : goal.returns-clause-readable
returns-clause-readable c = either c.parse.result _ (c.if-bytes-gt-MAX_LEN.false, is_utf8-from_IsUtf8 _ c.in-Ok.ensures.cases.1)
