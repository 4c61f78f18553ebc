-- The answers of all types.
use Rattle.std.specs.Prelude.{ℕ, List, [], ◌∷◌, Option, Some, None, bytes_eq, if◌then◌else◌}
use Rattle.script_objects.specs.Rules.{RuleValue}

-- the rules of one type
pub record TypeValue : Type 0 where
  pub type_name : List ℕ
  pub rules : List RuleValue

-- the rules of the type with this name; `None` if there is no such type
abbrev pub rules_named : List TypeValue → List ℕ → Option (List RuleValue)
rules_named [] name = None
rules_named (rules ∷ others) name = if bytes_eq rules.type_name name then Some rules.rules else rules_named others name
