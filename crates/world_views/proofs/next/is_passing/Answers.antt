use Rattle.std.proofs.Common.{◌≡◌, length, ap, map, ◌∙◌, sym, refl, List, [], ◌∷◌, ℕ, arith}
use Rattle.std.proofs.lemmas.Bool.{eqb-true}
use Rattle.uvm_glob.specs.Lists.{first_given}
use Rattle.world_wiring.specs.FifoStates.{passing_in}
use Rattle.world_services.proofs.Passages.{next-known}
use Rattle.world_views.proofs.next.is_passing.Goals as goal

no-items : (xs : List ℕ) → length xs ≡ 0 → xs ≡ []
no-items [] none = refl
no-items (x ∷ xs) none = absurd (omega (arith, none))

-- where no FIFO is to settle
pub returns-then-is_empty-clause-none : goal.returns-then-is_empty-clause-none
returns-then-is_empty-clause-none c =
    let services = c.services-services.result.now in
    let none = sym c.as_slice.ensures.value ∙ no-items c.as_slice.result.now (eqb-true _ _ (sym c.is_empty.ensures ∙ c.if-is_empty.true)) in
    sym (next-known c.services-services.ensures) ∙ ap (λ (fifos : List ℕ). first_given (map (passing_in services.fifo_states) fifos)) none
