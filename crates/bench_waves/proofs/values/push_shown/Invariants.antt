use Rattle.std.proofs.Common.{◌≡◌, ◌++◌, map, take}
use Rattle.bench_waves.specs.Values.{shown_byte}
use Rattle.bench_waves.proofs.values.push_shown.Given as goal

-- the bytes so far are appended
abbrev pub invariant-loop-byte : goal.invariant-loop-byte
invariant-loop-byte l = l.value.items ≡ l.fn.value.items ++ map shown_byte (take l.byte-index l.text)
