use Rattle.std.proofs.Common.{◌≡◌, ◌∙◌, ◌==◌, rules, arith, ap, sym, length, take, None, true, false}
use Rattle.std.proofs.lemmas.List.{length_push, take_all}
use Rattle.std.proofs.lemmas.Iterator.Consumers.{YieldsList-end, YieldsList-turn}
use Rattle.std.proofs.lemmas.Iterator.Splits.{YieldsList-from_slice_split}
use Rattle.std.specs.Prelude.{find}
use Rattle.std.specs.List.{slice_split}
use Rattle.std.specs.Slice.Iter.{split_callee, split_done, split_rest}
use Rattle.script_seeds.specs.SeedRuns.{is_fault_line}
use Rattle.script_seeds.proofs.Faults.{find-found, find-more}
use Rattle.script_seeds.proofs.lines.fault_of.Goals as goal

pub returns-then-is_fault_line : goal.returns-then-is_fault_line
returns-then-is_fault_line c =
    let gives = c.into_iter-line-iterator.ensures.into_iter_gives in
    let t = YieldsList-turn (YieldsList-from_slice_split _ (λ b. b == 10) c.args.output.now (ap split_rest gives ∙ c.split-line-items.ensures.rest) (ap split_done gives ∙ c.split-line-items.ensures.done) (ap split_callee gives ∙ c.split-line-items.ensures.closure) (λ x b q h. search rules)) c.loop-line.yielded _ c.loop-line.yielded_by _ _ c.in-Some.line c.in-Some.is c.next.ensures.steps in
    let passes : is_fault_line c.in-Some.line.now ≡ true = search rules in
    sym (find-found is_fault_line (slice_split (λ b. b == 10) c.args.output.now) (length c.loop-line.yielded) c.in-Some.line.now t.0 t.1 c.loop-line.invariant passes)

pub loop-line-preserved : goal.loop-line-preserved
loop-line-preserved c =
    let gives = c.into_iter-line-iterator.ensures.into_iter_gives in
    let all = slice_split (λ b. b == 10) c.args.output.now in
    let t = YieldsList-turn (YieldsList-from_slice_split _ (λ b. b == 10) c.args.output.now (ap split_rest gives ∙ c.split-line-items.ensures.rest) (ap split_done gives ∙ c.split-line-items.ensures.done) (ap split_callee gives ∙ c.split-line-items.ensures.closure) (λ x b q h. search rules)) c.loop-line.yielded _ c.loop-line.yielded_by _ _ c.in-Some.line c.in-Some.is c.next.ensures.steps in
    let fails : is_fault_line c.in-Some.line.now ≡ false = search rules in
    ap (λ n. find is_fault_line (take n all)) (length_push c.loop-line.yielded c.in-Some.line) ∙ find-more is_fault_line all (length c.loop-line.yielded) c.in-Some.line.now t.0 t.1 c.loop-line.invariant fails

pub returns : goal.returns
returns c =
    let gives = c.into_iter-line-iterator.ensures.into_iter_gives in
    let all = slice_split (λ b. b == 10) c.args.output.now in
    let t = YieldsList-end (YieldsList-from_slice_split _ (λ b. b == 10) c.args.output.now (ap split_rest gives ∙ c.split-line-items.ensures.rest) (ap split_done gives ∙ c.split-line-items.ensures.done) (ap split_callee gives ∙ c.split-line-items.ensures.closure) (λ x b q h. search rules)) c.loop-line.yielded _ c.loop-line.yielded_by _ _ c.in-None.is c.next.ensures.steps in
    let whole : find is_fault_line (take (length all) all) ≡ None = ap (λ n. find is_fault_line (take n all)) (sym t.1) ∙ c.loop-line.invariant in
    sym (ap (find is_fault_line) (sym (take_all (length all) all (omega arith))) ∙ whole)
