use Rattle.uvm_glob.proofs.Common.{◌≡◌, ◌-◌, ◌++◌, ◌≤◌, List, ℕ, length, replicate, refl, arith, take_at, drop_at, length-append, length-replicate, most_name_bytes}
use Rattle.uvm_glob.proofs.names.Name.of_sound.Goals as goal

-- the bytes and their zeros fill the array
full : (bytes : List ℕ) → length bytes ≤ most_name_bytes → length (bytes ++ replicate (most_name_bytes - length bytes) 0) ≡ most_name_bytes
full bytes short = omega (arith, length-append bytes (replicate (most_name_bytes - length bytes) 0), length-replicate {A = ℕ} (most_name_bytes - length bytes) 0)

pub invariant_of-result : goal.invariant_of-result
invariant_of-result c =
    let bytes = c.args.bytes.now in
    rw c.padded.ensures (
      c.requires.short,
      full bytes c.requires.short,
      rw (take_at bytes _ _ refl) c.requires.sound,
      drop_at bytes _ _ refl,
    )
