-- The text of the error of a drop.
use Rattle.std.specs.Prelude.{ℕ, List, codes}

-- the text of the only error of a drop
abbrev pub fault_text : List ℕ
fault_text = codes "objection dropped below zero"
