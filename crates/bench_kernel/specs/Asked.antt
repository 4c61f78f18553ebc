-- The call of one of the objects of a kernel.
use Rattle.std.specs.Prelude.{◌≡◌, ℕ, List, ◌∷◌, Result, IfOk}
use Rattle.std.specs.List.Sorted.{IsPermutation}
use Rattle.std.specs.declared.alloc.AllocError.{AllocError}
use Rattle.uvm_object.specs.Objects.{View, Says, SameSays}
use Rattle.uvm_acts.specs.declared.acts.Who.{Who}
use Rattle.uvm_acts.specs.declared.acts.Call.{Call}
use Rattle.uvm_acts.specs.declared.acts.Act.{Act}

module _ {O : Type 0} (view : O → View) (name : O → List ℕ) (says : O → Says) where
  -- one of the held objects was called: its name and its relation stay, its answer conforms to its relation, and the other objects are
  -- unchanged
  pub record IsAsked (who : Who) (call : Call) (answer : Result (List Act) AllocError) (old new : List (Who × O)) : Type 0 where
    pub before : O
    pub after : O
    pub others : List (Who × O)
    pub was : IsPermutation ((who, before) ∷ others) old
    pub is : IsPermutation ((who, after) ∷ others) new
    pub same_name : name after ≡ name before
    pub same_says : SameSays (says after) (says before)
    pub said : IfOk answer (λ acts. says before (view before) call acts (view after))
