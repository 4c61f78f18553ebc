use Rattle.std.specs.Prelude.{◌≡◌, ◌++◌, IfSome, List, MatchOption, Option, Some, None, ℕ}
use Rattle.std.proofs.Common.{Bor}
use Rattle.std.proofs.lemmas.Bool.Decides.{Decides-eqb}
use Rattle.std.proofs.lemmas.Slice.Eq.{strip_prefix_is}
use Rattle.std.specs.Prelude.{◌≢◌}
use Rattle.script_legal.proofs.lines.behind.Goals as goal

-- the text behind, if there is one
rest-is : (text front : List ℕ) (stripped : Option (Bor (List ℕ))) → MatchOption stripped ((rest : List ℕ) → text ≢ front ++ rest) (λ rest. text ≡ front ++ rest.now) → IfSome stripped (λ rest. text ≡ front ++ rest.now)
rest-is text front None is = tt
rest-is text front (Some rest) is = is

pub returns : goal.returns
returns c = rest-is c.args.text.now c.args.front.now c.strip_prefix.result (strip_prefix_is Decides-eqb c.args.text.now c.args.front.now c.strip_prefix.result c.strip_prefix.ensures.cases)
