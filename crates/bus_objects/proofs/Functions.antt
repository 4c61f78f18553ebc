-- What an object does is a function of what it shows and of the call.
use Rattle.bus_objects.proofs.Common.{◌≡◌, List, refl, View, Act, Idle, AllowsOne, ObjectsAreFunctions}

-- an answer and a view that are given are the ones that are allowed
given : (acts : List Act) (after : View) → AllowsOne (λ others next. (others ≡ acts) × (next ≡ after))
given acts after = (acts, after, ((refl, refl), λ others next same. same))

-- each object's relation is of that form
pub objects_are_functions : ObjectsAreFunctions
objects_are_functions (Idle idle) before call = given _ _
objects_are_functions object before call = given _ _
