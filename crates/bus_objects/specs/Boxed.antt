-- Objects that move to the heap at their first call.
use Rattle.std.specs.Prelude.{ℕ, List}
use Rattle.bus_objects.specs.declared.boxed.BoxedState.{BoxedState}
use Rattle.bus_objects.specs.declared.boxed.BoxedState.TheVariants.{New, Called}

-- the object: before its first call, the new object that its type name determines
abbrev pub object_at : {O : Type 0} → (List ℕ → O) → BoxedState O → O
object_at fresh (New type_name) = fresh type_name
object_at fresh (Called box) = box.value
