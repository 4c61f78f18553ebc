-- Which setting of a list applies at a path and a field. The newest setting is first.
use Rattle.std.specs.Prelude.{◌≡◌, ◌<◌, ◌≤◌, ◌↔◌, ℕ, ℤ, Bool, List, [], ◌∷◌, ◌++◌, Option, None, ◌&&◌, IsTrue, All, IfSome, nat_eq, nat_le, filter, option_map}
use Rattle.std.specs.List.{list_all}
use Rattle.std.specs.Cmp.Lexicographic.{pointwise}
use Rattle.uvm_glob.specs.Globs.{matches}
use Rattle.uvm_glob.specs.Lists.{newest}
use Rattle.uvm_config.specs.ChosenValue.{Answer, answer_after}

-- the maximum number of accepted settings
abbrev pub most_settings : ℕ
most_settings = 65536

-- a value of a field at the paths that the scope matches, with its precedence
pub record Setting : Type 0 where
  pub scope : List ℕ
  pub field : List ℕ
  pub precedence : ℕ
  pub value : ℤ

-- whether a setting matches a field and the text of a path: it is of that field, and its scope matches
abbrev pub answers_at : List ℕ → List ℕ → Setting → Bool
answers_at text asked setting = pointwise nat_eq setting.field asked && matches setting.scope text

-- the settings of a list that match
abbrev pub answering : List Setting → List ℕ → List ℕ → List Setting
answering settings text asked = filter (answers_at text asked) settings

-- whether no setting of the list has a greater precedence than this one
abbrev pub is_greatest : List Setting → Setting → Bool
is_greatest settings setting = list_all (λ other. nat_le other.precedence setting.precedence) settings

-- the settings of a list with the greatest precedence
abbrev pub greatest : List Setting → List Setting
greatest settings = filter (is_greatest settings) settings

-- the setting that applies: of those that match with the greatest precedence, the last that was set
unfoldable pub strongest : List Setting → List ℕ → List ℕ → Option Setting
strongest settings text asked = newest (greatest (answering settings text asked))

-- the value of the setting that applies
abbrev pub config_answer : List Setting → List ℕ → List ℕ → Option ℤ
config_answer settings text asked = option_map (λ setting. setting.value) (strongest settings text asked)

-- the precedence and the value of a setting
abbrev pub answer_of : Setting → Answer
answer_of setting = record { precedence = setting.precedence; value = setting.value }

-- the precedence and the value of the setting that applies at the text of a path and a field, if one matches
unfoldable pub strongest_answer : List Setting → List ℕ → List ℕ → Option Answer
strongest_answer settings text asked = option_map answer_of (strongest settings text asked)

-- no setting applies if none is given
abbrev pub NoneSetNoAnswer : Type 0
NoneSetNoAnswer = (text asked : List ℕ) → strongest_answer [] text asked ≡ None

-- one more setting changes the answer at the text of each path and each field as `answer_after` defines
abbrev pub AnswersAreGiven : Type 0
AnswersAreGiven =
    (setting : Setting) (older : List Setting) (text asked : List ℕ)
    → strongest_answer (setting ∷ older) text asked ≡ answer_after setting.scope setting.field setting.precedence setting.value text asked (strongest_answer older text asked)

-- a setting takes precedence among those that were set after and before it. It matches. Each newer one that matches has a smaller
-- precedence, and each older one that matches has no greater precedence.
pub record Prevails (text asked : List ℕ) (newer : List Setting) (setting : Setting) (older : List Setting) : Type 0 where
  pub answers : IsTrue (answers_at text asked setting)
  pub over_newer : All (λ other. IsTrue (answers_at text asked other) → other.precedence < setting.precedence) newer
  pub over_older : All (λ other. IsTrue (answers_at text asked other) → other.precedence ≤ setting.precedence) older

-- every answer is that of a setting of the list that takes precedence
abbrev pub AnswerIsStrongest : Type 0
AnswerIsStrongest =
    (settings : List Setting) (text asked : List ℕ)
    → IfSome (strongest_answer settings text asked) (λ answer.
    (newer : List Setting) × (setting : Setting) × (older : List Setting)
    × (settings ≡ newer ++ setting ∷ older) × Prevails text asked newer setting older × (answer_of setting ≡ answer))

-- there is no answer exactly if no setting matches
abbrev pub NoneWhereNoneAnswers : Type 0
NoneWhereNoneAnswers =
    (settings : List Setting) (text asked : List ℕ)
    → (strongest_answer settings text asked ≡ None) ↔ All (λ setting. ¬ (IsTrue (answers_at text asked setting))) settings
