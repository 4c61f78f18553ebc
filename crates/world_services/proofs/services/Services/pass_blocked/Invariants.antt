use Rattle.world_services.specs.Services.{HasPassed}
use Rattle.world_services.proofs.services.Services.pass_blocked.Given as goal

-- nothing else has changed, and no component or sequence that was passed over may be granted
abbrev pub invariant-loop-place : goal.invariant-loop-place
invariant-loop-place l = HasPassed l.initial.self l.self
