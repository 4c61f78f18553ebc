-- One more row that is read of the elements of an array.
use Rattle.script_tables.proofs.Common.{◌≡◌, ◌+◌, ◌∙◌, ◌<◌, ℕ, List, [], ◌∷◌, ◌++◌, drop, length, Result, Ok, Err, IfOk, suc, sym, ap, subst, add-one, slice_index_or, drop-cons, Data, view, items_view, Value, and_then, rows_from, in_column, in_row, IsRow, IsValue, Column, FaultyRow, Reason, Missing, TableArray, Option, Some, ok_or, refl}

pub row-read : {Row E : Type 0} (read : List Row → Data → Result Row E) (whole : Result (List Row) E) (rows more : List Row) (row : Row) (items : List Value) (i : ℕ) (item : Value)
    → i < length items → item ≡ slice_index_or items i item → whole ≡ rows_from read rows (items_view (drop i items)) → read rows (view item) ≡ Ok row → more ≡ rows ++ row ∷ []
    → whole ≡ rows_from read more (items_view (drop (i + 1) items))
row-read {Row} {E} read whole rows more row items i item lt is so reads pushed =
    let next : Row → Result (List Row) E = λ r. rows_from read (rows ++ r ∷ []) (items_view (drop (suc i) items)) in
    rw (add-one i, pushed)
    (so ∙ ap (λ l. rows_from read rows (items_view l)) (drop-cons items i item lt) ∙ ap (λ x. and_then (read rows (view x)) next) (sym is) ∙ ap (λ r. and_then r next) reads)

-- a row that is read at its place is read
pub read-ok : {Row : Type 0} (array : TableArray) (n : ℕ) (result : Result Row FaultyRow) (row : Row) → Ok row ≡ in_row array n result → result ≡ Ok row
read-ok array n (Ok value) row so = let same : value ≡ row = cc so in ap Ok same
read-ok array n (Err faulty) row so = absurd (cc so)

pub placed-ok : {Row : Type 0} (array : TableArray) (m n : ℕ) (reading result : Result Row FaultyRow) (row : Row) → n ≡ m → IsRow reading result → Ok row ≡ in_row array n result
    → in_row array m reading ≡ Ok row
placed-ok array m n reading (Ok value) row same is so = ap (in_row array m) is ∙ sym (subst (λ k. Ok row ≡ in_row array k (Ok value)) same so)
placed-ok array m n reading (Err faulty) row same is so = absurd (cc so)

-- what is so of a row that is read is so of it at its place
pub sound-ok : {Row : Type 0} (P : Row → Type 0) (array : TableArray) (n : ℕ) (result : Result Row FaultyRow) (row : Row) → IfOk result P → Ok row ≡ in_row array n result → P row
sound-ok P array n result row sound so = subst (λ r. IfOk r P) (read-ok array n result row so) sound

-- what is read at a key of a row, at this key
pub cell-read : {A : Type 0} (column : Column) (read : Data → Result A Reason) (given : Option Data) (value : Data) (result : Result A Reason) (told : Result A FaultyRow)
    → given ≡ Some value → IsValue (read value) result → told ≡ in_column column result → IsRow (in_column column (and_then (ok_or given Missing) read)) told
cell-read column read given value (Ok meaning) told there is so = rw (so, there, is) refl
cell-read column read given value (Err why) told there is so = rw (so, there) (λ other. ap (in_column column) (is other))
