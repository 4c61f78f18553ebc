-- What ports reach over connections, what is wrong with them, and what may be connected.
use Rattle.std.proofs.Common.{◌≡◌, ℕ, List, [], ◌∷◌, Some, None, refl}
use Rattle.std.specs.Prelude.{◌++◌, Option, codes, map}
use Rattle.uvm_tree.specs.declared.nodes.NodeKind.{NodeKind}
use Rattle.uvm_tree.specs.declared.nodes.NodeKind.TheVariants as node
use Rattle.uvm_tree.specs.Nodes.{Node, child, path_at, top}
use Rattle.uvm_tree.specs.Sorted.{path_order}
use Rattle.uvm_tlm.specs.declared.ends.End.{End}
use Rattle.uvm_tlm.specs.declared.ends.End.TheVariants.{Port, Export, Imp, Fifo, Sequencer}
use Rattle.uvm_tlm.specs.declared.ends.PortKind.TheVariants.{Put, Get, Analysis, Seq}
use Rattle.uvm_tlm.specs.declared.faults.WireFault.{WireFault}
use Rattle.uvm_tlm.specs.declared.faults.WireFault.TheVariants.{KindDiffers, TooFew, TooMany, Unknown, Late, Memory}
use Rattle.uvm_tlm.specs.Faults.{fault_text}
use Rattle.uvm_tlm.specs.Wirings.{WiringValue, new_wiring, with_end, with_connection, connect_fault, late_fault, kind_at, leads, reaches, targets_in, targets_of, driver_in, wire_fault}

-- once it is closed with a path order
abbrev closed : List ℕ → WiringValue → WiringValue
closed order w = record w { order = Some order }

-- a tree in the order in which its nodes were added: `b` is 1, `b.i` is 2, `a` is 3, `a.i` is 4, and `p` is 5

abbrev grown : List Node → ℕ → List ℕ → NodeKind → List Node
grown nodes parent name kind = nodes ++ child nodes parent name kind ∷ []

abbrev placed : List Node
placed = grown (grown (grown (grown (grown (top ∷ []) 0 (codes "b") node.Component) 1 (codes "i") node.Imp) 0 (codes "a") node.Component) 3 (codes "i") node.Imp) 0 (codes "p") node.Port

-- the port `p` and the two imps
abbrev unwritten : WiringValue
unwritten = with_end 2 Imp (with_end 4 Imp (with_end 5 (Port Analysis) new_wiring))

-- the port `p` is connected to the imp `b.i`, to the imp `a.i`, and again to `b.i`
abbrev written : WiringValue
written = with_connection 5 2 (with_connection 5 4 (with_connection 5 2 unwritten))

a-connection-that-is-made-again-changes-nothing : with_connection 5 4 written ≡ written
a-connection-that-is-made-again-changes-nothing = refl

connections-do-not-show-which-was-made-first : with_connection 5 2 (with_connection 5 4 unwritten) ≡ with_connection 5 4 (with_connection 5 2 unwritten)
connections-do-not-show-which-was-made-first = refl

no-target-is-found-before-the-close : targets_of written 5 ≡ []
unfolding targets_of targets_in reaches leads
no-target-is-found-before-the-close = refl

abbrev written_closed : WiringValue
unfolding path_order
written_closed = closed (path_order placed) written

-- the paths of the targets of a node
abbrev target_paths : ℕ → List (List (List ℕ))
target_paths from = map (path_at placed) (targets_of written_closed from)

targets-stand-in-path-order-each-once : target_paths 5 ≡ (codes "a" ∷ codes "i" ∷ []) ∷ (codes "b" ∷ codes "i" ∷ []) ∷ []
unfolding targets_of targets_in reaches leads path_order written_closed
targets-stand-in-path-order-each-once = refl

an-analysis-port-may-have-many : wire_fault written_closed 5 ≡ None
unfolding wire_fault driver_in targets_in reaches leads path_order written_closed
an-analysis-port-may-have-many = refl

an-imp-reaches-nothing : target_paths 4 ≡ []
unfolding targets_of targets_in reaches leads path_order written_closed
an-imp-reaches-nothing = refl

-- in path order: a put port without a connection, one to two FIFOs and one to one, and the FIFOs

abbrev put_ports : WiringValue
put_ports = with_connection 3 4 (with_connection 2 4 (with_connection 2 5 (with_end 1 (Port Put) (with_end 2 (Port Put) (with_end 3 (Port Put) (with_end 4 (Fifo 1) (with_end 5 (Fifo 1) new_wiring)))))))

no-fault-is-found-before-the-close : wire_fault put_ports 1 ≡ None
unfolding wire_fault driver_in targets_in reaches leads
no-fault-is-found-before-the-close = refl

abbrev put_ports_closed : WiringValue
put_ports_closed = closed (1 ∷ 2 ∷ 3 ∷ 4 ∷ 5 ∷ []) put_ports

a-put-port-with-no-target-has-too-few : wire_fault put_ports_closed 1 ≡ Some TooFew
unfolding wire_fault driver_in targets_in reaches leads
a-put-port-with-no-target-has-too-few = refl

a-put-port-with-two-targets-has-too-many : wire_fault put_ports_closed 2 ≡ Some TooMany
unfolding wire_fault driver_in targets_in reaches leads
a-put-port-with-two-targets-has-too-many = refl

both-targets-of-a-put-port-are-found : targets_of put_ports_closed 2 ≡ 4 ∷ 5 ∷ []
unfolding targets_of targets_in reaches leads
both-targets-of-a-put-port-are-found = refl

a-put-port-with-one-target-is-sound : wire_fault put_ports_closed 3 ≡ None
unfolding wire_fault driver_in targets_in reaches leads
a-put-port-with-one-target-is-sound = refl

a-fifo-has-no-fault : wire_fault put_ports_closed 4 ≡ None
unfolding wire_fault driver_in targets_in reaches leads
a-fifo-has-no-fault = refl

a-port-has-its-kind : kind_at put_ports_closed.ends 3 ≡ Some Put
a-port-has-its-kind = refl

a-fifo-has-no-kind : kind_at put_ports_closed.ends 4 ≡ None
a-fifo-has-no-kind = refl

-- in path order three seq ports, of which the first reaches both sequencers and the others one

abbrev seq_ports : WiringValue
seq_ports = closed (1 ∷ 2 ∷ 3 ∷ 4 ∷ 5 ∷ []) (with_connection 1 5 (with_connection 1 4 (with_connection 2 4 (with_connection 3 4 (with_end 1 (Port Seq) (with_end 2 (Port Seq) (with_end 3 (Port Seq) (with_end 4 Sequencer (with_end 5 Sequencer new_wiring)))))))))

of-two-ports-that-reach-one-sequencer-the-first-drives-it : wire_fault seq_ports 2 ≡ None
unfolding wire_fault driver_in targets_in reaches leads
of-two-ports-that-reach-one-sequencer-the-first-drives-it = refl

the-second-port-of-a-sequencer-is-one-too-many : wire_fault seq_ports 3 ≡ Some TooMany
unfolding wire_fault driver_in targets_in reaches leads
the-second-port-of-a-sequencer-is-one-too-many = refl

a-port-that-reaches-two-sequencers-drives-none : wire_fault seq_ports 1 ≡ Some TooMany
unfolding wire_fault driver_in targets_in reaches leads
a-port-that-reaches-two-sequencers-drives-none = refl

-- the ports 1 and 2 are connected to each other, and 2 to the imp 4 directly and over the export 3, which is connected to itself

abbrev round : WiringValue
round = closed (1 ∷ 2 ∷ 3 ∷ 4 ∷ []) (with_connection 3 3 (with_connection 3 4 (with_connection 2 4 (with_connection 2 3 (with_connection 2 1 (with_connection 1 2 (with_end 1 (Port Analysis) (with_end 2 (Port Analysis) (with_end 3 (Export Analysis) (with_end 4 Imp new_wiring))))))))))

routes-go-round-and-by-more-than-one-way-from-one : targets_of round 1 ≡ 4 ∷ []
unfolding targets_of targets_in reaches leads
routes-go-round-and-by-more-than-one-way-from-one = refl

routes-go-round-and-by-more-than-one-way-from-two : targets_of round 2 ≡ 4 ∷ []
unfolding targets_of targets_in reaches leads
routes-go-round-and-by-more-than-one-way-from-two = refl

routes-go-round-and-by-more-than-one-way-from-three : targets_of round 3 ≡ 4 ∷ []
unfolding targets_of targets_in reaches leads
routes-go-round-and-by-more-than-one-way-from-three = refl

-- of the sorts of ends, which may be connected

abbrev connected : End → End → Option WireFault
unfolding connect_fault
connected = λ from to. connect_fault (with_end 2 to (with_end 1 from new_wiring)) 1 2

a-port-goes-to-a-port-of-its-kind : connected (Port Put) (Port Put) ≡ None
unfolding connected
a-port-goes-to-a-port-of-its-kind = refl

a-port-goes-to-no-port-of-another-kind : connected (Port Put) (Port Get) ≡ Some KindDiffers
unfolding connected
a-port-goes-to-no-port-of-another-kind = refl

a-port-goes-to-an-export-of-its-kind : connected (Port Put) (Export Put) ≡ None
unfolding connected
a-port-goes-to-an-export-of-its-kind = refl

a-put-port-goes-to-no-imp : connected (Port Put) Imp ≡ Some KindDiffers
unfolding connected
a-put-port-goes-to-no-imp = refl

an-analysis-port-goes-to-an-imp : connected (Port Analysis) Imp ≡ None
unfolding connected
an-analysis-port-goes-to-an-imp = refl

a-put-port-goes-to-a-fifo : connected (Port Put) (Fifo 1) ≡ None
unfolding connected
a-put-port-goes-to-a-fifo = refl

a-get-port-goes-to-a-fifo : connected (Port Get) (Fifo 0) ≡ None
unfolding connected
a-get-port-goes-to-a-fifo = refl

an-analysis-port-goes-to-no-fifo-with-a-limit : connected (Port Analysis) (Fifo 1) ≡ Some KindDiffers
unfolding connected
an-analysis-port-goes-to-no-fifo-with-a-limit = refl

an-analysis-port-goes-to-a-fifo-without-a-limit : connected (Port Analysis) (Fifo 0) ≡ None
unfolding connected
an-analysis-port-goes-to-a-fifo-without-a-limit = refl

a-seq-port-goes-to-no-fifo : connected (Port Seq) (Fifo 0) ≡ Some KindDiffers
unfolding connected
a-seq-port-goes-to-no-fifo = refl

a-seq-port-goes-to-a-sequencer : connected (Port Seq) Sequencer ≡ None
unfolding connected
a-seq-port-goes-to-a-sequencer = refl

a-get-port-goes-to-no-sequencer : connected (Port Get) Sequencer ≡ Some KindDiffers
unfolding connected
a-get-port-goes-to-no-sequencer = refl

an-export-goes-to-no-port : connected (Export Get) (Port Get) ≡ Some KindDiffers
unfolding connected
an-export-goes-to-no-port = refl

an-export-goes-to-an-export-of-its-kind : connected (Export Get) (Export Get) ≡ None
unfolding connected
an-export-goes-to-an-export-of-its-kind = refl

a-get-export-goes-to-a-fifo : connected (Export Get) (Fifo 2) ≡ None
unfolding connected
a-get-export-goes-to-a-fifo = refl

an-analysis-export-goes-to-an-imp : connected (Export Analysis) Imp ≡ None
unfolding connected
an-analysis-export-goes-to-an-imp = refl

an-imp-goes-nowhere : connected Imp Imp ≡ Some KindDiffers
unfolding connected
an-imp-goes-nowhere = refl

a-fifo-goes-nowhere : connected (Fifo 0) Imp ≡ Some KindDiffers
unfolding connected
a-fifo-goes-nowhere = refl

a-sequencer-goes-nowhere : connected Sequencer Sequencer ≡ Some KindDiffers
unfolding connected
a-sequencer-goes-nowhere = refl

-- late goes before unknown, and unknown before a difference of kinds: at 1 stands a put port, at 2 an imp, at 3 nothing

abbrev two_ends : WiringValue
two_ends = with_end 2 Imp (with_end 1 (Port Put) new_wiring)

abbrev two_ends_closed : WiringValue
two_ends_closed = closed (1 ∷ 2 ∷ []) two_ends

kinds-differ-where-both-ends-are-known : connect_fault two_ends 1 2 ≡ Some KindDiffers
unfolding connect_fault
kinds-differ-where-both-ends-are-known = refl

a-node-that-was-not-added-is-unknown-as-an-end : connect_fault two_ends 1 3 ≡ Some Unknown
unfolding connect_fault
a-node-that-was-not-added-is-unknown-as-an-end = refl

a-node-that-was-not-added-is-unknown-as-a-start : connect_fault two_ends 3 2 ≡ Some Unknown
unfolding connect_fault
a-node-that-was-not-added-is-unknown-as-a-start = refl

after-the-close-it-is-late : connect_fault two_ends_closed 1 3 ≡ Some Late
unfolding connect_fault
after-the-close-it-is-late = refl

after-the-close-it-is-late-for-an-end-and-for-a-second-close : late_fault two_ends_closed ≡ Some Late
after-the-close-it-is-late-for-an-end-and-for-a-second-close = refl

-- what is told of each fault

told-kinds-differ : fault_text KindDiffers ≡ codes "kinds differ"
told-kinds-differ = refl

told-too-few-connections : fault_text TooFew ≡ codes "too few connections"
told-too-few-connections = refl

told-too-many-connections : fault_text TooMany ≡ codes "too many connections"
told-too-many-connections = refl

told-unknown-node : fault_text Unknown ≡ codes "unknown node"
told-unknown-node = refl

told-connected-too-late : fault_text Late ≡ codes "connected too late"
told-connected-too-late = refl

told-out-of-memory : fault_text Memory ≡ codes "out of memory"
told-out-of-memory = refl
