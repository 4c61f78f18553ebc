-- What is left of a list that stands behind free slots.
use Rattle.uvm_sequencer.proofs.Common.{◌≡◌, ◌≤◌, ◌<◌, ◌+◌, ◌-◌, ℕ, zero, suc, List, [], ◌∷◌, ◌++◌, length, take, drop, sym, ap, ◌∙◌, arith, copy_within, append_assoc, drop_at, drop-drop, length-take-le, remove}

module _ {X : Type 0} where
  -- without one, where those behind it were moved
  pub removed-behind : (xs : List X) (free place at : ℕ) → at ≡ free + place → free ≤ length xs → drop free (remove xs at) ≡ remove (drop free xs) place
  removed-behind xs zero place at is within = ap (remove xs) (let same : at ≡ place = omega arith in same)
  removed-behind [] (suc free) place at is within = absurd (omega arith)
  removed-behind (x ∷ xs) (suc free) place zero is within = absurd (omega arith)
  removed-behind (x ∷ xs) (suc free) place (suc at) is within = removed-behind xs free place at (omega arith) (omega arith)

  -- and where those before it were
  pub removed-before : (xs : List X) (free place at next : ℕ) → at ≡ free + place → next ≡ free + 1 → at < length xs → drop next (copy_within xs free at next) ≡ remove (drop free xs) place
  removed-before xs free place at next is one within =
      let ys = drop free xs in
      let few : at - free ≡ place = omega arith in
      let behind : next + (at - free) ≡ free + suc place = omega arith in
      ap (drop next) (append_assoc (take next xs) (take (at - free) ys) (drop (next + (at - free)) xs))
      ∙ drop_at (take next xs) (take (at - free) ys ++ drop (next + (at - free)) xs) next (length-take-le next xs (omega arith))
      ∙ ap (λ n. take n ys ++ drop (next + (at - free)) xs) few
      ∙ ap (λ n. take place ys ++ drop n xs) behind
      ∙ ap (λ l. take place ys ++ l) (sym (drop-drop (suc place) free xs))
