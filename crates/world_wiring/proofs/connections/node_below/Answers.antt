use Rattle.world_wiring.proofs.Found.{found-below}
use Rattle.world_wiring.proofs.connections.node_below.Goals as goal

pub returns : goal.returns
returns c = found-below c.args.tree.now.nodes c.args.performer.now c.args.path.now c.node.result c.find_below.result c.node.ensures c.find_below.ensures.node c.find_below.ensures.sound
