-- The laws of the texts that the lines of actions consist of.
use Rattle.std.specs.Prelude.{◌≡◌, ℕ, ℤ, Bool, true, not, ◌==◌, List}
use Rattle.std.specs.Fmt.{decimal, signed_decimal}
use Rattle.std.specs.List.{list_all}
use Rattle.uvm_lines.specs.Lines.{item_text}
use Rattle.uvm_tlm.specs.declared.items.Item.{Item}
use Rattle.script_answer_acts.specs.Sound.{IsItem, IsName, IsNumber, IsSigned}

-- whether a text has no blank (32)
abbrev pub has_no_blank : List ℕ → Bool
has_no_blank text = list_all (λ b. not (b == 32)) text

-- the text of a name, a number, an integer or an item has no blank
pub record PartsHaveNoBlanks : Type 0 where
  pub names : (name : List ℕ) → IsName name → has_no_blank name ≡ true
  pub numbers : (n : ℕ) → IsNumber n → has_no_blank (decimal n) ≡ true
  pub integers : (z : ℤ) → IsSigned z → has_no_blank (signed_decimal z) ≡ true
  pub items : (item : Item) → IsItem item → has_no_blank (item_text item) ≡ true
