-- The lines of a script's answers, one after another.
use Rattle.bus_jobs.proofs.Common.{◌≡◌, ◌≢◌, ℕ, ◌+◌, ◌<◌, ◌≤◌, List, [], ◌∷◌, ◌++◌, length, take, reverse, get_or, map, refl, sym, ap, ◌∙◌, arith, concat, append_assoc, take-map, take_more, take_all, map-append, length-map, made, next_type, StepsReplace, path_text, Representation, types_of, made_at, next_at, Probe, ScriptValue, IsFactoryOf, answer_line, made_for, probe_line, debug_lines, append-nil}

concat-push : (lines : List (List ℕ)) (line : List ℕ) → concat (lines ++ line ∷ []) ≡ concat lines ++ line
concat-push [] line = append-nil line
concat-push (x ∷ lines) line = ap (λ rest. x ++ rest) (concat-push lines line) ∙ sym (append_assoc x (concat lines) line)

-- one more line
pub lines-more : (script : ScriptValue) (i : ℕ) (probe : Probe) → i < length script.probes → probe ≡ get_or script.probes i probe → concat (take (i + 1) (debug_lines script)) ≡ concat (take i (debug_lines script)) ++ probe_line script probe
unfolding debug_lines
lines-more script i probe within at =
    let more : take (i + 1) (debug_lines script) ≡ take i (debug_lines script) ++ probe_line script probe ∷ [] =
    take-map (probe_line script) (i + 1) script.probes
    ∙ ap (map (probe_line script)) (take_more script.probes i probe within)
    ∙ map-append (probe_line script) (take i script.probes) (get_or script.probes i probe ∷ [])
    ∙ rw (← at, ← take-map (probe_line script) i script.probes) refl in
    ap concat more ∙ concat-push (take i (debug_lines script)) (probe_line script probe)

-- all the lines
pub lines-all : (script : ScriptValue) (i : ℕ) → length script.probes ≤ i → take i (debug_lines script) ≡ debug_lines script
unfolding debug_lines
lines-all script i end = take_all i (debug_lines script) (rw (length-map script.probes (probe_line script)) end)

-- a script with a probe has a line
pub lines-some : (script : ScriptValue) (i : ℕ) → i < length script.probes → debug_lines script ≢ []
unfolding debug_lines
lines-some script i within none =
    let empty : length script.probes ≡ 0 = sym (length-map script.probes (probe_line script)) ∙ ap length none in
    absurd (omega arith)

-- the factory of a script makes what the script says
pub made_for-factory : (script : ScriptValue) (kept : Representation) (probe : Probe) → StepsReplace → IsFactoryOf script kept → made_at kept probe.path probe.type_id ≡ made_for script probe
made_for-factory script kept probe replace same =
    ap (λ types. made (next_at kept probe.path) (length types) probe.type_id) same.types
    ∙ (λ i. made (λ from. next_type from (same.steps from probe.path i)) (length script.types) probe.type_id)
    ∙ (λ i. made (λ from. replace (reverse script.overrides) (path_text probe.path) from i) (length script.types) probe.type_id)

-- so its line is the script's
pub line-factory : (script : ScriptValue) (kept : Representation) (probe : Probe) → StepsReplace → IsFactoryOf script kept → answer_line (types_of kept) probe (made_at kept probe.path probe.type_id) ≡ probe_line script probe
line-factory script kept probe replace same =
    ap (λ types. answer_line types probe (made_at kept probe.path probe.type_id)) same.types
    ∙ ap (answer_line script.types probe) (made_for-factory script kept probe replace same)
