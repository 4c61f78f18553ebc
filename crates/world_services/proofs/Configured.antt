-- One more setting.
use Rattle.world_services.proofs.Common.{◌≡◌, ℕ, ◌+◌, List, [], ◌∷◌, Option, Some, None, option_map, refl, ap, sym, ◌∙◌, arith, path_text, Setting, strongest, strongest_answer, answer_of, config_answer, AnswersAreGiven, NoneSetNoAnswer, answer_after, answer_at, value_at, accepted, IsSettings}
use Rattle.uvm_config.specs.Observed.{Representation}

-- the settings give what one more gives
pub settings-more :
    {given : List Setting} {old new : Representation} (setting : Setting) → AnswersAreGiven
    → ((path : List (List ℕ)) (asked : List ℕ) → answer_at new path asked ≡ answer_after setting.scope setting.field setting.precedence setting.value (path_text path) asked (answer_at old path asked))
    → accepted new ≡ accepted old + 1
    → IsSettings given old → IsSettings (setting ∷ given) new
settings-more {given} setting answers steps more s = record {
  answers = λ path asked.
      steps path asked
      ∙ ap (answer_after setting.scope setting.field setting.precedence setting.value (path_text path) asked) (s.answers path asked)
      ∙ sym (answers setting given (path_text path) asked);
  count = omega (arith, more, s.count);
}

-- no setting was made
pub settings-none : {kept : Representation} → NoneSetNoAnswer → ((path : List (List ℕ)) (asked : List ℕ) → answer_at kept path asked ≡ None) → accepted kept ≡ 0 → IsSettings [] kept
settings-none nothing none count = record { answers = λ path asked. none path asked ∙ sym (nothing (path_text path) asked); count = count }

-- the value of what a setting answers is the setting's
answer-value : (found : Option Setting) → option_map (λ answer. answer.value) (option_map answer_of found) ≡ option_map (λ setting. setting.value) found
answer-value None = refl
answer-value (Some setting) = refl

-- the value that is found
pub value-found : {given : List Setting} {kept : Representation} (path : List (List ℕ)) (asked : List ℕ) → IsSettings given kept → value_at kept path asked ≡ config_answer given (path_text path) asked
unfolding strongest_answer
value-found {given} path asked s = ap (option_map (λ answer. answer.value)) (s.answers path asked) ∙ answer-value (strongest given (path_text path) asked)
