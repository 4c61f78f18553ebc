-- The changes of a value change dump, and their text.
use Rattle.std.specs.Prelude.{◌≤◌, ◌==◌, ℕ, List, [], ◌∷◌, ◌++◌, Option, Some, None, if◌then◌else◌}
use Rattle.std.specs.Fmt.{decimal}

-- a change: the time, the code of the variable, and its value
pub record Change : Type 0 where
  pub stamp : ℕ
  pub code : ℕ
  pub value : List ℕ

-- the line of a time: `#` (35) and the time
abbrev pub stamp_line : ℕ → List ℕ
stamp_line stamp = 35 ∷ decimal stamp ++ 10 ∷ []

-- the line of a time, unless it was the last one
abbrev pub stamp_after : Option ℕ → ℕ → List ℕ
stamp_after None stamp = stamp_line stamp
stamp_after (Some last) stamp = if last == stamp then [] else stamp_line stamp

-- the lines of a change after the last time that was written: its time, if it is another one; then the value and the code
abbrev pub change_text : Option ℕ → Change → List ℕ
change_text last change = stamp_after last change.stamp ++ (change.value ++ (32 ∷ (decimal change.code ++ 10 ∷ [])))

-- the time of the newest of some changes, which is first
abbrev pub last_stamp : List Change → Option ℕ
last_stamp [] = None
last_stamp (change ∷ before) = Some change.stamp

-- the text of some changes; the newest is first in the list, and last in the text
abbrev pub changes_text : List Change → List ℕ
changes_text [] = []
changes_text (change ∷ before) = changes_text before ++ change_text (last_stamp before) change

-- no time is greater than this one
abbrev pub IsUpTo : Option ℕ → ℕ → Type 0
IsUpTo None stamp = Unit {0}
IsUpTo (Some last) stamp = last ≤ stamp

-- the times do not fall
abbrev pub AreRising : List Change → Type 0
AreRising [] = Unit {0}
AreRising (change ∷ before) = IsUpTo (last_stamp before) change.stamp × AreRising before
