use Rattle.world_services.proofs.Common.{◌≡◌, List, [], refl, arith, rules, path_order, nodes_of, Event, passing_at, AreToSettle, arbitrating-first, nodes_in, IsAgenda, objecting-first, IsSequencing, sequencing-first}
use Rattle.world_services.proofs.Passages.{passed-first, fifo_states-first, fifos_to_settle-none}
use Rattle.world_services.proofs.Rounding.{phase_cursors-first}
use Rattle.world_services.proofs.services.Services.new.Goals as goal

-- nothing is due
agenda-first : (dues : List Event) → dues ≡ [] → IsAgenda [] [] [] [] 0 dues
agenda-first dues none = record {
  are = none;
  distinct = λ i j d before within. absurd (omega arith);
  caused_within = λ k d within. absurd (omega arith);
  heard_within = λ k d within. absurd (omega arith);
}

pub returns : goal.returns
returns c = λ script given factory settings report_state.
    let fifos_to_settle : AreToSettle (passing_at []) (path_order (nodes_of [])) [] = fifos_to_settle-none (path_order (nodes_of [])) (λ n. refl) in
    let sequencing : IsSequencing [] [] [] [] c.new-7.result [] = sequencing-first c.new-7.ensures.started c.new-7.ensures.steps in
    record {
      stage = refl;
      time = refl;
      early = omega arith;
      tree = search rules;
      past_connect = refl;
      connecting = rw c.new-2.ensures (search rules);
      closing = rw c.new-2.ensures (search rules);
      closed_past = record { is = λ e. cc };
      fifo_states = fifo_states-first c.new-3.ensures.empty;
      passed = passed-first;
      fifos_to_settle = search (rules, fifos_to_settle);
      arbitrating = arbitrating-first (nodes_of []) c.new-5.ensures.empty c.new-6.ensures.nodes;
      sequencing = search (rules, sequencing);
      objections = record { given = given; each = λ phase task. objecting-first (nodes_in c.args.objections phase) c.nodes_grow.ensures.0 (c.requires phase) };
      factory = factory;
      phase_cursors = phase_cursors-first c.new-10.ensures.last c.new-10.ensures.late;
      answer = search rules;
      speaks = omega arith;
      built = refl;
      report_state = report_state;
      settings = settings;
      agenda = agenda-first c.new-9.result.dues c.new-9.ensures;
      events = search rules;
      test_refused = refl;
    }
