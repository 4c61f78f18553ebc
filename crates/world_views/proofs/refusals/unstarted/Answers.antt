use Rattle.std.proofs.Common.{length, sym, subst}
use Rattle.std.specs.Result.{result_err}
use Rattle.uvm_acts.specs.declared.acts.Act.TheVariants.{Start}
use Rattle.bench_history.specs.History.{overrides_of}
use Rattle.bench_history.specs.Refusals.{Starting}
use Rattle.bench_history.specs.Sequences.{sequences_of}
use Rattle.bench_history.specs.Effects.{refusal_in, starting_effect}
use Rattle.world_services.specs.Creations.{IsUnmade, starting_in}
use Rattle.world_acts_sequencers.proofs.Begun.{starting-known}
use Rattle.world_services.proofs.Creating.{unstarted-why}
use Rattle.world_views.proofs.refusals.unstarted.Goals as goal

pub returns : goal.returns
returns c =
    let m = c.services-services.ensures in
    let services = c.services-services.result.now in
    let script = c.args.world.now.script in
    let history = c.args.world.now.history in
    let start = c.in-Start in
    let count = length (sequences_of history) in
    let result = c.what_is_started.result in
    let P : Starting → Type 0 = λ starting. IsUnmade (Start start.type_name start.name start.on start.priority) (refusal_in (starting_effect count starting)) (result_err result) in
    rw (start.is, c.err.ensures.value)
    (subst P (sym (starting-known m c.args.performer.now start.type_name start.name start.on start.priority))
    (unstarted-why script.types (overrides_of script history) m.factory (λ types overrides. starting_in types overrides services c.args.performer.now start.type_name start.name start.on start.priority) count start.type_name start.name start.on start.priority result c.what_is_started.ensures.ok c.what_is_started.ensures.err))
