-- The number of the elements of an array.
use Rattle.script_values.proofs.Common.{◌≡◌, ℕ, ◌<◌, ◌≤◌, suc, List, [], ◌∷◌, length, ap, refl, nat_le, true, false, le-leb, lt-leb, items_view, Value, count_of}

pub count_of-items_view : (values : List Value) → count_of (items_view values) ≡ length values
count_of-items_view [] = refl
count_of-items_view (value ∷ values) = ap suc (count_of-items_view values)

-- few elements, and too many
pub few-items_view : (values : List Value) (most : ℕ) → length values ≤ most → nat_le (count_of (items_view values)) most ≡ true
few-items_view values most few = rw (count_of-items_view values) (le-leb (length values) most few)

pub many-items_view : (values : List Value) (most : ℕ) → most < length values → nat_le (count_of (items_view values)) most ≡ false
many-items_view values most many = rw (count_of-items_view values) (lt-leb (length values) most many)
