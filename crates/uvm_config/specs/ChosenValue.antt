-- How a setting changes the answer at a path and a field (IEEE 1800.2-2020, Annex C, uvm_config_db).
use Rattle.std.specs.Prelude.{ℕ, ℤ, Bool, true, List, Option, Some, None, ◌-◌, ◌&&◌, nat_eq, nat_le, if◌then◌else◌}
use Rattle.std.specs.Cmp.Lexicographic.{pointwise}
use Rattle.uvm_glob.specs.Globs.{matches}

-- the answer: the precedence and the value of the setting that applies
pub record Answer : Type 0 where
  pub precedence : ℕ
  pub value : ℤ

-- the precedence of a setting that is made while the build phase does not run
abbrev pub default_precedence : ℕ
default_precedence = 1000

-- the precedence of a setting: the default, and while the build phase runs one less for each level of the setter below the top
unfoldable pub precedence_of : Bool → ℕ → ℕ
precedence_of building depth = if building then default_precedence - depth else default_precedence

-- whether the answer before, if there is one, has no greater precedence
abbrev pub gives_way : ℕ → Option Answer → Bool
gives_way precedence None = true
gives_way precedence (Some answer) = nat_le answer.precedence precedence

-- the answer at the text of a path and a field after one more setting, given the answer before
unfoldable pub answer_after : List ℕ → List ℕ → ℕ → ℤ → List ℕ → List ℕ → Option Answer → Option Answer
answer_after scope field precedence value text asked before =
    if pointwise nat_eq field asked && matches scope text && gives_way precedence before
    then Some (record { precedence = precedence; value = value })
    else before
