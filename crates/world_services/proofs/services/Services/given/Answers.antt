use Rattle.world_services.proofs.services.Services.given.Goals as goal

-- what was read off the script stands in the services
pub returns : goal.returns
returns c = c.new-2.ensures c.args.script.now (rw (← c.drains.ensures.drains) c.in_ok-objections.ensures.given) (record { types_are = c.requires.types; steps = c.requires.steps }) (rw (← c.settings.ensures.settings) c.in_ok-settings.ensures) c.in_ok-report_state.ensures
