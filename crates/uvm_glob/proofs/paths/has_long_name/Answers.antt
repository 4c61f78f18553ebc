use Rattle.uvm_glob.proofs.Common.{◌==◌, nat_lt, length, rules, tests, any_from_yields_List, YieldsList-from_slice_split, most_name_bytes}
use Rattle.uvm_glob.proofs.paths.has_long_name.Goals as goal

-- the call goes over what stands between the dots
pub returns : goal.returns
returns c =
    any_from_yields_List (λ name. nat_lt most_name_bytes (length name)) _ _ _ c.any.ensures.ran
    (YieldsList-from_slice_split _ (λ b. b == 46) _ c.split.ensures.rest c.split.ensures.done c.split.ensures.closure (λ x b q k. search (rules, tests)))
    (λ x b q k. search (rules, tests))
