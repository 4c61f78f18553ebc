use Rattle.world_wiring.proofs.Common.{◌∷◌, ◌∙◌, [], ap, option_and_then, if_sound}
use Rattle.world_wiring.proofs.Found.{found-below}
use Rattle.world_wiring.proofs.ports.port_below.Goals as goal

pub returns : goal.returns
returns c =
    let below = found-below c.args.tree.now.nodes c.args.performer.now (c.args.name.now ∷ []) c.node.result c.child.result c.node.ensures c.child.ensures.child c.child.ensures.sound in
    c.if_sound.ensures ∙ ap (option_and_then (if_sound c.args.wiring.now c.args.kind)) below
