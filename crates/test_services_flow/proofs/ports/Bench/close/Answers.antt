use Rattle.std.proofs.Common.{◌≡◌, ℕ, List, map, Contains, All, sym, subst, ◌∙◌, arith}
use Rattle.std.proofs.lemmas.List.{get_or-map, length-map}
use Rattle.std.proofs.lemmas.List.Elements.{Contains-get_or}
use Rattle.uvm_tlm.specs.declared.ends.End.{End}
use Rattle.uvm_tlm.specs.Wirings.{IsPathOrder}
use Rattle.test_services_flow.proofs.ports.Bench.close.Goals as goal

-- the nodes of some ends have each of them
whole : (ends : List (ℕ × End)) → All (λ e. Contains (map (λ e. e.0) ends) e.0) ends
whole ends k d within =
    let node : ℕ × End → ℕ = λ e. e.0 in
    subst (Contains (map node ends)) (get_or-map node ends k d (node d) within)
    (Contains-get_or (map node ends) k (node d) (omega (arith, length-map ends node)))

pub close-requires : goal.close-requires
close-requires c =
    let order : c.as_slice.result.now ≡ map (λ e. e.0) c.args.self.now.wiring.ends = c.as_slice.ensures.value ∙ c.args.self.now.ordered in
    let ends = c.args.self.now.wiring.ends in
    subst (λ l. IsPathOrder l ends) (sym order) (record { distinct = c.resolve.ensures.wiring.apart; whole = whole ends })
