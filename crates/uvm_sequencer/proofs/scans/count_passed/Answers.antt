use Rattle.uvm_sequencer.proofs.Common.{◌≡◌, ◌∙◌, ◌≤◌, ℕ, Bool, true, false, not, cond, ltb, Some, None, length, refl, ap, arith, rules, tests, position_or_len, unwrap_or, nat_tests, YieldsList-from_slice, position_from_yields_List, prefix_len-le-length, Request, is_blocked}
use Rattle.uvm_sequencer.proofs.scans.count_passed.Goals as goal

-- where none is found, all stand in front
or_all : (n all : ℕ) (b : Bool) → ltb n all ≡ b → n ≤ all → unwrap_or (cond b (Some n) None) all ≡ n
or_all n all true e within = refl
or_all n all false e within = grind (arith, nat_tests)

pub returns : goal.returns
returns c =
    let queue = c.args.queue.now in
    let free = λ (request : Request). not (is_blocked c.args.sequences.now.started c.args.holders.now.list request.seq) in
    let n = position_or_len free queue in
    let found : c.position.result ≡ cond (ltb n (length queue)) (Some n) None = position_from_yields_List free _ _ c.position.result c.position.ensures.ran (YieldsList-from_slice queue cc) (λ x b q k. search (rules, tests)) in
    c.unwrap_or.ensures ∙ ap (λ o. unwrap_or o (length queue)) found
    ∙ or_all n (length queue) (ltb n (length queue)) refl (prefix_len-le-length (λ (request : Request). not (free request)) queue)
