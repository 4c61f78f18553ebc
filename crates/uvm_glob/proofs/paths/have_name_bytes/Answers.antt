use Rattle.uvm_glob.proofs.Common.{◌==◌, rules, tests, list_all, all_from_yields_List, YieldsList-from_slice_split, is_name_byte}
use Rattle.uvm_glob.proofs.paths.have_name_bytes.Goals as goal

-- the call goes over what stands between the dots
pub returns : goal.returns
returns c =
    all_from_yields_List (list_all is_name_byte) _ _ _ c.all.ensures.ran
    (YieldsList-from_slice_split _ (λ b. b == 46) _ c.split.ensures.rest c.split.ensures.done c.split.ensures.closure (λ x b q k. search (rules, tests)))
    (λ x b q k. search (rules, tests))
