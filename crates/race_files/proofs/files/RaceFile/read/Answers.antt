-- The core is a twin of the gates that were set up.
use Rattle.std.proofs.{Common.{IfErr, None, ap, inl, inr, refl, subst, sym, ℕ, ◌<◌, ◌∙◌, ◌≡◌, ◌⊎◌}, lemmas.Result.IfOk-weaker}
use Rattle.{access_model.specs.declared.errors.GateError.TheVariants.NoMemory, exploration.proofs.Lists.err_from}
use Rattle.{gate_core.specs.{Drivers.CoreShows, Memory.Memory, Moves.phase_in}, gate_world.specs.declared.config.Config.Config}
use Rattle.{schedule_lines.specs.declared.faults.Fault.TheVariants.Refused, transcripts.{proofs.Opening.answer_mapped, specs.Transcript.ReplayState}}
use Rattle.race_files.{proofs.{FirstFaults.{any_fault, fault_mapped}, Idle.{idle_recent, phase_there}}, specs.FirstFaults.FailsFromRace}
use Rattle.race_files.specs.{FirstFaults.{FailsFromRace.{InCalls, NotIdle}, FailsInCalls, IsMemory}, Left.{Left, behind}, Races.AllAreIdle}
use Rattle.race_files.specs.declared.faults.RaceFault.{RaceFault, TheVariants.Schedule}
use Rattle.race_files.proofs.files.RaceFile.read.Goals as goal

pub returns-clause-core : goal.returns-clause-core
returns-clause-core c = λ p shows.
    let Is = λ (core : Memory). CoreShows core p.config p.world in
    answer_mapped c.twin.result c.map_err.result c.in_ok-core.core Is _
    (IfOk-weaker c.twin.result _ Is (λ core is. subst Is (sym is) (c.gates-2.ensures p shows)) c.twin.ensures)
    c.map_err.ensures.cases c.map_err.ensures.variant c.in_ok-core.was

-- tasks that are idle in the core are so in the state that it shows
idle_there : (core : Memory) (p : ReplayState) → CoreShows core p.config p.world → ((t : ℕ) → t < core.config.tasks → phase_in core t ≡ None) →
    AllAreIdle p
idle_there core p shows idle t less =
    let own : t < core.config.tasks = subst (λ (d : Config). t < d.tasks) (sym shows.config) less in
    sym (shows.world.phases t own) ∙ (sym (phase_there core t own) ∙ idle t own)

pub returns-clause-idle : goal.returns-clause-idle
returns-clause-idle c = λ p shows. idle_there _ p (c.gates.ensures p shows) c.in_ok-expect_idle.ensures.idle

pub returns-clause-recent : goal.returns-clause-recent
returns-clause-recent c = λ p shows.
    idle_recent _ p c.config.ensures.sound (returns-clause-core c p shows) (returns-clause-idle c p shows)

-- and the other way round
idle_here : (core : Memory) (p : ReplayState) → CoreShows core p.config p.world → AllAreIdle p → (t : ℕ) → t < core.config.tasks → phase_in core t ≡ None
idle_here core p shows idle t less =
    let there : t < p.config.tasks = subst (λ (d : Config). t < d.tasks) shows.config less in
    phase_there core t less ∙ (shows.world.phases t less ∙ idle t there)

pub returns-in_err-expect_idle-clause-fault : goal.returns-in_err-expect_idle-clause-fault
returns-in_err-expect_idle-clause-fault c = λ p shows.
    err_from _ c.in_err-expect_idle.field-0.0 _ c.from_residual.ensures.1
    (inl (NotIdle (λ idle. c.in_err-expect_idle.ensures.busy (idle_here _ p (c.gates.ensures p shows) idle)) refl c.in_err-expect_idle.ensures.fault))

-- the calls' fault is that of the race
calls_fail : (p : ReplayState) (left all now : Left) (tasks : ℕ) (fault : RaceFault) → AllAreIdle p → tasks ≡ p.config.tasks → all ≡ behind left →
    FailsInCalls tasks all now fault ⊎ IsMemory fault → FailsFromRace p left now fault ⊎ IsMemory fault
calls_fail p left all now tasks fault idle same is (inr memory) = inr memory
calls_fail p left all now tasks fault idle same is (inl fails) =
    inl (InCalls idle (subst (λ (x : Left). FailsInCalls p.config.tasks x now fault) is (subst (λ (n : ℕ). FailsInCalls n all now fault) same fails)))

pub returns-in_err-core-clause-fault : goal.returns-in_err-core-clause-fault
returns-in_err-core-clause-fault c = λ p shows.
    err_from _ (Schedule c.in_err-core.field-0.0) _ c.from_residual-in_err-core.ensures.1
    (inr (ap Schedule (subst (λ r. IfErr r (λ f. f ≡ Refused NoMemory)) c.in_err-core.was
    (fault_mapped c.twin.result c.map_err.result (λ e f. f ≡ Refused NoMemory) (λ e. Unit {0}) (λ f. f ≡ Refused NoMemory)
    c.map_err.ensures.cases (any_fault c.twin.result) (λ e f h post. post)))))

pub returns-in_err-calls-clause-fault : goal.returns-in_err-calls-clause-fault
returns-in_err-calls-clause-fault c = λ p shows.
    let Is = λ (core : Memory). CoreShows core p.config p.world in
    let core_is = answer_mapped c.twin.result c.map_err.result c.in_ok-core.core Is _
    (IfOk-weaker c.twin.result _ Is (λ core is. subst Is (sym is) (c.gates-2.ensures p shows)) c.twin.ensures)
    c.map_err.ensures.cases c.map_err.ensures.variant c.in_ok-core.was in
    err_from _ c.in_err-calls.field-0.0 _ c.from_residual-in_err-calls.ensures.1
    (calls_fail p _ _ _ _ _ (idle_there _ p (c.gates.ensures p shows) c.in_ok-expect_idle.ensures.idle)
    (ap (λ (d : Config). d.tasks) (c.config.ensures.is ∙ core_is.config)) c.take.ensures.left
    c.in_err-calls.ensures.fault)
