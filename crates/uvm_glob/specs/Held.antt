-- A text that is stored inline, followed by zeros.
use Rattle.std.proofs.Common.{◌≡◌, ℕ, ◌-◌, ◌≤◌, List, ◌++◌, length, take, drop, replicate, ap, ◌∙◌, sym, subst}
use Rattle.std.proofs.lemmas.List.{take-append-drop, length-take-le}
use Rattle.uvm_glob.specs.Limits.{most_name_bytes}

-- the length of the stored text is `len`
pub held_len : (len : ℕ) (bytes : List ℕ) → len ≤ length bytes → length (take len bytes) ≡ len
held_len len bytes within = length-take-le len bytes within

-- the text followed by its zeros gives the stored bytes
pub held_bytes : (len : ℕ) (bytes : List ℕ) → len ≤ length bytes → drop len bytes ≡ replicate (most_name_bytes - len) 0 → take len bytes ++ replicate (most_name_bytes - length (take len bytes)) 0 ≡ bytes
held_bytes len bytes within zeros =
    ap (λ n. take len bytes ++ replicate (most_name_bytes - n) 0) (length-take-le len bytes within)
    ∙ ap (λ rest. take len bytes ++ rest) (sym zeros)
    ∙ take-append-drop len bytes

-- the text fits in the array
pub within : (len : ℕ) (bytes : List ℕ) → len ≤ most_name_bytes → length bytes ≡ most_name_bytes → len ≤ length bytes
within len bytes few size = subst (λ n. len ≤ n) (sym size) few
