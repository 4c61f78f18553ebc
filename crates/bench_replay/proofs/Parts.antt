-- The first entries of a legal log.
use Rattle.std.proofs.Common.{◌≡◌, ◌∙◌, ◌<◌, ◌+◌, ◌-◌, ℕ, zero, suc, List, [], ◌∷◌, Some, ap, arith, drop, get_or, length, reverse, subst, sym}
use Rattle.std.specs.List.{slice_get}
use Rattle.std.proofs.lemmas.List.{drop_more, get_or-reverse, length-reverse}
use Rattle.std.proofs.lemmas.Option.{get_or_from_slice_get, slice_get_within}
use Rattle.uvm_object.specs.declared.entries.Entry.{Entry}
use Rattle.bench_script.specs.Scripts.{ScriptValue}
use Rattle.bench_history.specs.Next.{EachIsNext, IsLegal, IsNext}
use Rattle.bench_core.specs.Cores.{CoreValue, Nothing}
use Rattle.bench_replay.specs.Replays.{IsReplay, log_at}

-- the log with one more entry
pub log-grows : (log : List Entry) (count : ℕ) (entry : Entry) → slice_get (reverse log) count ≡ Some entry → log_at log (count + 1) ≡ entry ∷ log_at log count
log-grows log count entry there =
    let within : count < length (reverse log) = slice_get_within (reverse log) count entry there in
    let below : count < length log = rw (sym (length-reverse log)) within in
    let at : length log - 1 - count ≡ length log - (count + 1) = omega arith in
    let after : length log - (count + 1) + 1 ≡ length log - count = omega arith in
    let found : get_or log (length log - 1 - count) entry ≡ entry = sym (get_or-reverse log count entry below) ∙ get_or_from_slice_get (reverse log) count entry entry there in
    let here : get_or log (length log - (count + 1)) entry ≡ entry = ap (λ it. get_or log it entry) (sym at) ∙ found in
    drop_more log (length log - (count + 1)) entry (omega arith) ∙ ap (λ it. it ∷ drop (length log - (count + 1) + 1) log) here ∙ ap (λ it. entry ∷ drop it log) after

each-drop : (script : ScriptValue) (log : List Entry) (count : ℕ) → EachIsNext script log → EachIsNext script (drop count log)
each-drop script log zero each = each
each-drop script [] (suc count) each = tt
each-drop script (entry ∷ before) (suc count) each = each-drop script before count each.1

-- the next entry of a legal log may come next after those before it
pub next-at : (script : ScriptValue) (log : List Entry) (count : ℕ) (entry : Entry) → slice_get (reverse log) count ≡ Some entry → IsLegal script log → IsNext script (log_at log count) entry
next-at script log count entry there legal =
    let each : EachIsNext script (entry ∷ log_at log count) = subst (EachIsNext script) (log-grows log count entry there) (each-drop script log (length log - (count + 1)) legal.each) in
    each.0

-- the next entry of the log of a core may come next in its replay
pub next-in : (ended core : CoreValue) (entry : Entry) → IsReplay ended core → IsLegal ended.script ended.history → slice_get (reverse ended.history) (length core.history) ≡ Some entry
    → IsNext core.script core.history entry
next-in ended core entry replay legal there =
    let next : IsNext ended.script (log_at ended.history (length core.history)) entry = next-at ended.script ended.history (length core.history) entry there legal in
    subst (λ script. IsNext script core.history entry) (sym replay.same) (subst (λ history. IsNext ended.script history entry) (sym replay.part) next)

-- a replay with one more entry
pub grown : (ended old new : CoreValue) (entry : Entry) → IsReplay ended old → slice_get (reverse ended.history) (length old.history) ≡ Some entry → new.script ≡ old.script → new.standing ≡ Nothing
    → new.history ≡ entry ∷ old.history → IsReplay ended new
grown ended old new entry replay there script settled more =
    let count : length new.history ≡ length old.history + 1 = ap length more ∙ omega arith in
    let within : length old.history < length (reverse ended.history) = slice_get_within (reverse ended.history) (length old.history) entry there in
    let below : length old.history < length ended.history = rw (sym (length-reverse ended.history)) within in
    record {
      same = script ∙ replay.same;
      few = omega (arith, count, below);
      part = more ∙ ap (λ it. entry ∷ it) replay.part ∙ sym (log-grows ended.history (length old.history) entry there) ∙ ap (λ it. log_at ended.history it) (sym count);
      settled = settled;
    }
