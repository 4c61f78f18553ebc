use Rattle.bench_kernel.proofs.Common.{◌≡◌, ◌<◌, ℕ, None, slice_index_or}
use Rattle.bench_kernel.proofs.sequence_seats.first_key.Given as goal

-- no place so far has a key
abbrev pub invariant-loop-place : goal.invariant-loop-place
invariant-loop-place l = (place : ℕ) → place < l.place → slice_index_or l.keys place None ≡ None
