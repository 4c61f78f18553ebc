-- A world whose wiring is closed.
use Rattle.bench_world.proofs.Common.{Who, ◌≡◌, List, Bool, true, Option, Some, rules, unwrap_or, path_order, LogValue, ScriptValue, nodes_of, wiring_of, EachIsNext, ConnectFollowsBuild, is_at_check, PendingParts, Services, IsConnecting, IsClosing, ServicesMatch, IsWorld, IsReady, IsPrepared, Pending, Creation, Call, connecting-closed, closing-now}

-- the services, with the wiring closed
abbrev pub with_order : Services → Services
with_order services = record services { wiring = record services.wiring { order = Some (unwrap_or services.wiring.order (path_order services.tree.nodes)) } }

closed-match : {script : ScriptValue} {services : Services} (log : LogValue) → ConnectFollowsBuild → EachIsNext script log.entries → is_at_check script log.entries ≡ true → ServicesMatch script log.entries services → ServicesMatch script log.entries (with_order services)
closed-match {script} {services} log follows each at_check m =
    let connecting : IsConnecting (nodes_of log.entries) (wiring_of log.entries) (with_order services).wiring = rw m.tree (connecting-closed m.connecting) in
    let closing : IsClosing script log.entries true = closing-now true follows each at_check in
    search (rules, connecting, closing)

closed-ready : {script : ScriptValue} {log : LogValue} {services : Services} {creation : PendingParts} → IsReady creation script log services → IsReady creation script log (with_order services)
closed-ready r = record {
  left = r.left;
  needed = r.needed;
  home = r.home;
  room = r.room;
  declined = r.declined;
  has_room = record {
    log_spare = r.has_room.log_spare;
    tree_spare = r.has_room.tree_spare;
    objection_spare = r.has_room.objection_spare;
    phase_cursors = r.has_room.phase_cursors;
    sequence_spare = r.has_room.sequence_spare;
    start_records = r.has_room.start_records;
    agenda_spare = r.has_room.agenda_spare;
    report_room = r.has_room.report_room;
  };
}

closed-prepared : (script : ScriptValue) (log : LogValue) (services : Services) (pending : Pending) → IsPrepared pending script log services → IsPrepared pending script log (with_order services)
closed-prepared script log services (Creation creation) r = closed-ready r
closed-prepared script log services (Call call) r = tt

-- it is as good as before
pub world-closed :
    {P : Type 0} {sound : Bool} {script : ScriptValue} {log : LogValue} {services : Services} {pending : Option Pending} {leaving : List Who}
    → P × IsWorld sound script log services pending leaving → ConnectFollowsBuild → is_at_check script log.entries ≡ true → P × IsWorld sound script log (with_order services) pending leaving
world-closed {script = script} {log} {services} p follows at_check =
    let w = p.1 in
    (p.0, record { limit = w.limit; legal = w.legal; services_match = λ sound. closed-match log follows w.legal.each at_check (w.services_match sound); leaves = w.leaves; waits = w.waits; ready = λ pending is. closed-prepared script log services pending (w.ready pending is) })
