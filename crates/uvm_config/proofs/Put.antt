-- Where a setting goes.
use Rattle.std.proofs.Common.{◌≡◌, ℕ, List, [], ◌∷◌, ◌++◌, None, nat_eq}
use Rattle.std.specs.Cmp.Lexicographic.{pointwise}
use Rattle.indexmap.specs.IndexMap.{IndexMap, get, insert_entry}
use Rattle.indexmap.proofs.CallerLemmas.{insert_entry-new}
use Rattle.uvm_config.specs.ChosenValue.{Answer}

-- one with a scope that is new goes last
pub goes_last : {S : Type 0} (settings : IndexMap (List ℕ) Answer S) (scope : List ℕ) (given : Answer) → get (pointwise nat_eq) settings scope ≡ None → insert_entry (pointwise nat_eq) settings.entries scope given ≡ settings.entries ++ (scope, given) ∷ []
goes_last settings scope given none = insert_entry-new (pointwise nat_eq) settings scope given none
