-- A freeze that a hook refused leaves nothing behind, as its last step is the one that answers so.
use Rattle.vfs_gates.proofs.Prelude.{Called, Config, DealtNumbers, Entry, Err, Freeze, GateError, Holder, List, None, Ok, Option, Performs, Reply}
use Rattle.vfs_gates.proofs.Prelude.{Result, SeatedTask, Some, Steps, Traced, World, [], ap, arith, if◌then◌else◌, lt-ltb, own_number, refl}
use Rattle.vfs_gates.proofs.Prelude.{refusal_at, subst, sym, told_as, unit_of, world_after, ℕ, ◌++◌, ◌∙◌, ◌∷◌, ◌≡◌}
use Rattle.{access_model.specs.declared.errors.GateError.TheVariants.Hook, gate_schedules.proofs.schedules.Runs.run_more}
use Rattle.gate_steps.{proofs.call_events.Caused.call_caused_during, specs.call_events.Spans.{HasItsCauseDuring, IsCausedDuring}}
use Rattle.gate_transitions.specs.{Answers.{idle_step, phase_step, progress_of, step_answer}, declared.steps.{Progress.TheVariants.Done, Step.Step}}
use Rattle.{gate_world.specs.Worlds.opening, progress_laws.{proofs.Undone.fails_undone, specs.Undone.IsUndone}}
use Rattle.vfs_gates.specs.Undone.{LeavesNothing}

module _ (c : Config) (items : DealtNumbers) (holder : Holder) (code : ℕ) (seen gone : List (List Entry)) where
  -- the last step is the one that answers so
  leaves_by : (e : Traced) (earlier : List Traced) → IsCausedDuring c items (Freeze holder) earlier e (Hook code) seen gone →
      (entries : List Entry) × (gone ≡ entries ∷ []) × IsUndone (world_after c entries) (own_number items)
  leaves_by e earlier cause =
      let n : ℕ = own_number items in
      let during = cause.during in
      let before : List Entry = during.entries in
      let w : World = world_after c before in
      let there : step_answer c w n e.hook ≡ phase_step w e.hook (w.views n).phase =
      ap (λ b. if b then phase_step w e.hook (w.views n).phase else idle_step) (lt-ltb n c.tasks during.task) in
      let answers : (step_answer c w n e.hook).progress ≡ Done (Err (Hook code)) =
      ap (λ (s : Step). s.progress) (there ∙ ap (phase_step w e.hook) during.happens.at) ∙ ap progress_of cause.ends in (
        before ++ Steps n e.hook ∷ [],
        during.leaves ∙ ap (λ (rest : List Entry). (before ++ Steps n e.hook ∷ rest) ∷ []) cause.returns,
        subst (λ v. IsUndone v n) (sym (run_more c opening before (Steps n e.hook)))
            (fails_undone c during.within before n holder e.hook code during.happens.under_way answers),
      )

  leaves_after : (trace : List Traced) → HasItsCauseDuring c items (Freeze holder) trace (Hook code) seen gone →
      (entries : List Entry) × (gone ≡ entries ∷ []) × IsUndone (world_after c entries) (own_number items)
  leaves_after [] cause = absurd cause
  leaves_after (e ∷ earlier) cause = leaves_by e earlier cause

-- so of a whole call
module _ (holder : Holder) (old left : SeatedTask) (code : ℕ) where
  called_leaves : Called (Freeze holder) old left (Err (Hook code)) → LeavesNothing old left
  called_leaves called =
      let is = leaves_after old.config old.items holder code old.seen left.seen called.trace
      (call_caused_during (Freeze holder) old left (Hook code) called) in record {
        entries = is.0;
        seen = is.1;
        undone = is.2;
      }

  -- the answer that is told of it
  told_leaves : (answer : Result Reply GateError) → ◌≡◌ {A = Result (Unit {0}) GateError} (Err (Hook code)) (told_as unit_of answer) →
      Called (Freeze holder) old left answer → LeavesNothing old left
  told_leaves (Ok reply) told called = absurd (let f : ⊥ = cc in f)
  told_leaves (Err refusal) told called =
      let same : refusal ≡ Hook code = cc in called_leaves (subst (λ e. Called (Freeze holder) old left (Err e)) same called)

  -- a beginning is refused by no hook
  no_hook : (o : Option GateError) → refusal_at (Freeze holder) old ≡ o → o ≡ Some (Hook code) → ⊥
  no_hook o at is = grind arith

  by_beginning : Performs (Freeze holder) old left (Err (Hook code)) → (o : Option GateError) → refusal_at (Freeze holder) old ≡ o →
      LeavesNothing old left
  by_beginning did None began = let done = did.done began in told_leaves done.0 done.1 done.2
  by_beginning did (Some refusal) at =
      let told : ◌≡◌ {A = Result (Unit {0}) GateError} (Err (Hook code)) (Err refusal) = (did.refused refusal at).0 in
      let same : refusal ≡ Hook code = cc in
      absurd (no_hook (Some refusal) at (ap Some same))

  pub refused_leaves : Performs (Freeze holder) old left (Err (Hook code)) → LeavesNothing old left
  refused_leaves did = by_beginning did (refusal_at (Freeze holder) old) refl
