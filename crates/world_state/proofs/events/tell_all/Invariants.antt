use Rattle.world_state.proofs.Common.{◌≡◌, ◌++◌, List, drop, in_order, calls_numbered, Event}
use Rattle.world_state.proofs.events.tell_all.Given as goal

-- those that are left, with what is due so far, are all
abbrev pub invariant-loop-number : goal.invariant-loop-number
invariant-loop-number l = (caused : List Event) → l.initial.agenda.dues ≡ in_order caused →
    (others : List Event) × (l.agenda.dues ≡ in_order others) × (calls_numbered l.time l.place l.number (drop l.number l.calls) ++ others ≡ calls_numbered l.time l.place 0 l.calls ++ caused)
