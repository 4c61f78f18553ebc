-- The setting of a list that takes precedence; lists are newest first.
use Rattle.std.specs.Prelude.{◌≡◌, ◌<◌, ◌≤◌, ◌↔◌, ℕ, Bool, List, [], ◌∷◌, ◌++◌, Option, None, ◌==◌, ◌&&◌, IsTrue, All, IfSome, filter, map, option_map}
use Rattle.uvm_glob.specs.Globs.{matches}
use Rattle.uvm_glob.specs.Lists.{newest, first_given}
use Rattle.uvm_report.specs.declared.severities.Severity.{Severity}
use Rattle.uvm_report.specs.declared.settings.Which.{Which}
use Rattle.uvm_report.specs.declared.settings.Class.{Class}
use Rattle.uvm_report.specs.declared.settings.Class.TheVariants as class
use Rattle.uvm_report.specs.ChosenValue.{names, class_of, class_number, ChosenValue, Lookup}

-- a value for the reports that `which` names, at the paths that `scope` matches
pub record Setting (A : Type 0) : Type 0 where
  pub scope : List ℕ
  pub which : Which
  pub value : A

-- whether a setting applies to reports of a severity and an id at a path's text
abbrev pub applies : {A : Type 0} → List ℕ → Severity → List ℕ → Setting A → Bool
applies text severity id setting = names setting.which severity id && matches setting.scope text

-- the settings of a list that apply to reports of a severity and an id at a path's text
abbrev pub settings_for : {A : Type 0} → List (Setting A) → List ℕ → Severity → List ℕ → List (Setting A)
settings_for settings text severity id = filter (applies text severity id) settings

-- the classes of settings in their order of precedence
abbrev pub classes : List Class
classes = class.SeverityAndId ∷ class.Id ∷ class.Severity ∷ class.All ∷ []

-- whether a setting is of a class
abbrev pub is_of : {A : Type 0} → Class → Setting A → Bool
is_of class setting = class_number (class_of setting.which) == class_number class

-- the newest of some settings in the first class that has one
abbrev pub last_of_first_class : {A : Type 0} → List (Setting A) → Option (Setting A)
last_of_first_class settings = first_given (map (λ class. newest (filter (is_of class) settings)) classes)

-- the choice of a setting: its class and its value
abbrev pub choice_of : {A : Type 0} → Setting A → ChosenValue A
choice_of setting = record { class = class_of setting.which; value = setting.value }

-- the choice among some settings: of those that apply to a severity and an id at a path's text, the newest in the first class that has one
unfoldable pub choice_among : {A : Type 0} → List (Setting A) → List ℕ → Lookup A
choice_among settings text severity id = option_map choice_of (last_of_first_class (settings_for settings text severity id))

-- a setting is of an earlier class than another
abbrev pub IsBefore : {A : Type 0} → Setting A → Setting A → Type 0
IsBefore a b = class_number (class_of a.which) < class_number (class_of b.which)

-- a setting is of no later class than another
abbrev pub IsNotAfter : {A : Type 0} → Setting A → Setting A → Type 0
IsNotAfter a b = class_number (class_of a.which) ≤ class_number (class_of b.which)

-- a setting takes precedence: it applies, each newer setting that applies is of a later class, and no older setting that applies is of an
-- earlier class
pub record Prevails {A : Type 0} (text : List ℕ) (severity : Severity) (id : List ℕ) (newer : List (Setting A)) (setting : Setting A) (older : List (Setting A)) : Type 0 where
  pub applies_itself : IsTrue (applies text severity id setting)
  pub over_newer : All (λ other. IsTrue (applies text severity id other) → IsBefore setting other) newer
  pub over_older : All (λ other. IsTrue (applies text severity id other) → IsNotAfter setting other) older

-- the law that a choice is that of a setting of the list that takes precedence
abbrev pub ChoicePrevails : Type 0 → Type 0
ChoicePrevails A =
    (settings : List (Setting A)) (text : List ℕ) (severity : Severity) (id : List ℕ)
    → IfSome (choice_among settings text severity id) (λ choice.
    (newer : List (Setting A)) × (setting : Setting A) × (older : List (Setting A))
    × (settings ≡ newer ++ setting ∷ older) × Prevails text severity id newer setting older × (choice_of setting ≡ choice))

-- the law that there is no choice exactly if no setting applies
abbrev pub NoChoiceWhereNoneApplies : Type 0 → Type 0
NoChoiceWhereNoneApplies A =
    (settings : List (Setting A)) (text : List ℕ) (severity : Severity) (id : List ℕ)
    → (choice_among settings text severity id ≡ None) ↔ All (λ setting. ¬ (IsTrue (applies text severity id setting))) settings
