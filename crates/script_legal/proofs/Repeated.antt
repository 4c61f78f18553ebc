-- The text of a log that grows.
use Rattle.std.specs.Prelude.{if◌then◌else◌}
use Rattle.std.proofs.Common.{◌≡◌, ◌∙◌, ℕ, true, List, [], ◌∷◌, ◌++◌, ap, append_assoc, sym}
use Rattle.bench_script.specs.Scripts.{ScriptValue}
use Rattle.bench_core.specs.Cores.{CoreValue, is_sound, last_text}
use Rattle.bench_run.specs.Running.{Grows, transcript}

-- the text with one more entry
pub text-grown : (script : ScriptValue) (old new : CoreValue) (text left written rest : List ℕ) → Grows old new → new.script ≡ script → is_sound new.health ≡ true
    → written ≡ (if is_sound new.health then last_text true new.script new.history else []) → left ≡ written ++ rest → text ≡ transcript true script old.history ++ left → text ≡ transcript true script new.history ++ rest
text-grown script old new text left written rest grown same sound is behind so_far =
    let newest : written ≡ last_text true script (grown.entry ∷ old.history) = rw (sound, same, ap (λ (core : CoreValue). core.history) grown.is) at is in
    so_far ∙ ap (λ more. transcript true script old.history ++ more) (behind ∙ ap (λ front. front ++ rest) newest)
    ∙ sym (append_assoc (transcript true script old.history) (last_text true script (grown.entry ∷ old.history)) rest)
    ∙ ap (λ history. transcript true script history ++ rest) (sym (ap (λ (core : CoreValue). core.history) grown.is))
