use Rattle.uvm_tlm.proofs.Common.{◌+◌, ◌-◌, ◌<◌, length, ◌∙◌, ap, arith, rules, has, is_connected}
use Rattle.uvm_tlm.proofs.Sources.{search-start, search-step, search-end, few_found}
use Rattle.uvm_tlm.proofs.graphs.Graph.sources.Goals as goal

pub loop-next-init : goal.loop-next-init
loop-next-init c =
    search-start c.args.self.now.connections c.args.target c.insert_all.new.set.keys c.new-found.result.keys c.list.result.now
    (search rules) (search rules)
    (λ from. ap (λ l. has l from) c.list.ensures ∙ c.self.invariant.starts_found from c.args.target ∙ ap (λ g. is_connected g.connections from c.args.target) c.self.view_is)

pub loop-next-smaller : goal.loop-next-smaller
loop-next-smaller c =
    let few = few_found c.args.self.now.connections c.args.target c.loop-next.next c.loop-next.found.keys c.len.ensures.unique c.loop-next.invariant in
    let less : length c.args.self.now.connections - (c.loop-next.next + 1) < length c.args.self.now.connections - c.loop-next.next = omega (arith, few, c.len.ensures.len, c.loop-next-test.true) in
    less

pub loop-next-preserved : goal.loop-next-preserved
loop-next-preserved c =
    search-step c.args.self.now.connections c.args.target c.index-as_slice-next.result c.loop-next.next c.loop-next.found.keys _ c.list-in-loop-next.result.now
    (omega arith) (search rules) (search rules)
    (λ from. ap (λ l. has l from) c.list-in-loop-next.ensures ∙ c.self.invariant.starts_found from c.index-as_slice-next.result ∙ ap (λ g. is_connected g.connections from c.index-as_slice-next.result) c.self.view_is)
    c.loop-next.invariant

pub returns : goal.returns
returns c n =
    search-end c.args.self.now.connections c.args.target c.loop-next.next c.loop-next.found.keys n (omega arith) c.loop-next.invariant
