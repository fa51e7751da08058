use Rattle.std.proofs.{Common.{◌≡◌, ◌∙◌, sym, arith}, lemmas.{Bool.{false≢true}, Grind.{common_steps}}}
use Rattle.gate_world.specs.{Configs.{IsWithin}, Worlds.{opening}}
use Rattle.model_state.specs.Shown.{bounded_state_of, opened}
use Rattle.transcripts.proofs.Opening.{is_config_within, limits_within, known_mapped, answer_mapped, opens}
use Rattle.transcripts.proofs.session.Session.new.Goals as goal

pub returns-in_err-model-clause-invalid : goal.returns-in_err-model-clause-invalid
returns-in_err-model-clause-invalid g c = λ outside.
    let within = known_mapped c.new.result c.map_err.result c.in_ok-driver.driver (IsWithin c.args.config)
    c.new.ensures.within c.map_err.ensures.variant c.in_ok-driver.was in
    absurd (false≢true (sym outside ∙ is_config_within c.args.config within))

pub returns-in_err-model-clause-memory : goal.returns-in_err-model-clause-memory
returns-in_err-model-clause-memory g c = λ _.
    let within = known_mapped c.new.result c.map_err.result c.in_ok-driver.driver (IsWithin c.args.config)
    c.new.ensures.within c.map_err.ensures.variant c.in_ok-driver.was in
    let memory = c.new-2.ensures.memory (limits_within c.args.config within) in
    grind (arith, common_steps, memory)

pub returns-clause-opens : goal.returns-clause-opens
returns-clause-opens g c = λ known.
    let config = c.args.config in
    let within = known_mapped c.new.result c.map_err.result c.in_ok-driver.driver (IsWithin config)
    c.new.ensures.within c.map_err.ensures.variant c.in_ok-driver.was in
    let shown = answer_mapped c.new.result c.map_err.result c.in_ok-driver.driver (λ driver. g.D.Driver.shows driver config opening) _
    (c.new.ensures.opens known) c.map_err.ensures.cases c.map_err.ensures.variant c.in_ok-driver.was in
    let model = answer_mapped c.new-2.result c.map_err-2.result c.in_ok-model.model
    (λ model. bounded_state_of model ≡ opened config.tasks config.mounts config.nodes config.capacity) _
    c.new-2.ensures.opens c.map_err-2.ensures.cases c.map_err-2.ensures.variant c.in_ok-model.was in
    opens g.D.Driver.shows record { config = config; driver = c.in_ok-driver.driver; model = c.in_ok-model.model } within shown model

pub returns-clause-within : goal.returns-clause-within
returns-clause-within g c =
    let within = known_mapped c.new.result c.map_err.result c.in_ok-driver.driver (IsWithin c.args.config)
    c.new.ensures.within c.map_err.ensures.variant c.in_ok-driver.was in
    is_config_within c.args.config within

pub returns-clause-invalid : goal.returns-clause-invalid
returns-clause-invalid g c = λ outside.
    let within = known_mapped c.new.result c.map_err.result c.in_ok-driver.driver (IsWithin c.args.config)
    c.new.ensures.within c.map_err.ensures.variant c.in_ok-driver.was in
    absurd (false≢true (sym outside ∙ is_config_within c.args.config within))
