-- What a sort by a key says, where each call of its closure gives the key.
use Rattle.script_objects.proofs.Common.{◌≡◌, List, always_returns_same, Called, ComputesKey, IsSortedByKey, IsStableByKey, Ordering}
use denote.Param.Members.{Mut}
use denote.Ref.{Bor}

pub sorted-by : {X K F : Type 0} (key : X → K) (order : K → K → Ordering) (after : List X) {g : Mut F (Bor X × Unit {0}) K} {f : F} → ((by : X → K) → ComputesKey g by f → IsSortedByKey by order after)
    → ((given : Bor X × Unit {0}) (result : K) (next : F) → Called g f given result next → (result ≡ key given.0.now) × (next ≡ f)) → IsSortedByKey key order after
sorted-by key order after {g = g} {f = f} says gives = says key (always_returns_same g (λ given result. result ≡ key given.0.now) f gives)

pub stable-by : {X K F : Type 0} (key : X → K) (order : K → K → Ordering) (before after : List X) {g : Mut F (Bor X × Unit {0}) K} {f : F} → ((by : X → K) → ComputesKey g by f → IsStableByKey by order before after)
    → ((given : Bor X × Unit {0}) (result : K) (next : F) → Called g f given result next → (result ≡ key given.0.now) × (next ≡ f)) → IsStableByKey key order before after
stable-by key order before after {g = g} {f = f} says gives = says key (always_returns_same g (λ given result. result ≡ key given.0.now) f gives)
