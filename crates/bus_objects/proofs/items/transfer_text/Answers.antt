-- The bytes are the item's text, at the words as they are and not cast.
use Rattle.bus_objects.proofs.Common.{◌≡◌, List, ℕ, ◌++◌, ◌∷◌, w64, FitsSigned, to_z, of_z, rules, ◌∙◌, ℤ, signed_decimal, to_z-of_z, Item, address_of, data_of, operation_text, transfer_text}
use Rattle.bus_objects.proofs.Printed.{transfer_text-fits}
use Rattle.bus_objects.proofs.items.transfer_text.Goals as goal

cast : ℤ → ℤ
cast z = to_z w64 (of_z w64 z)

uncast : (item : Item) (operation : List ℕ) (address datum : ℤ) → operation ≡ operation_text item → address ≡ address_of item → datum ≡ data_of item → FitsSigned w64 address → FitsSigned w64 datum → operation ++ 32 ∷ (signed_decimal (cast address) ++ 32 ∷ signed_decimal (cast datum)) ≡ transfer_text item
unfolding transfer_text cast
uncast item operation address datum e f g fits fits' = rw (to_z-of_z w64 address fits, to_z-of_z w64 datum fits', e, f, g)

pub returns : goal.returns
unfolding cast
returns c =
    let address : FitsSigned w64 c.address_of-address.result = search rules in
    let datum : FitsSigned w64 c.data_of-datum.result = search rules in
    let text = uncast _ _ _ _ c.operation_text-operation.ensures c.address_of-address.ensures c.data_of-datum.ensures address datum in
    let is = c.as_str.ensures.value ∙ c.in_ok-text.ensures.ok ∙ text in
    let fits = transfer_text-fits c.args.item.now (rw c.address_of-address.ensures at address) (rw c.data_of-datum.ensures at datum) in
    rw is at (c.lossy.ensures.same (rw is fits))
