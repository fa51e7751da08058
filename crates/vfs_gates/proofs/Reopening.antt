-- A change of a mount to writable, which waits: it is done.
use Rattle.vfs_gates.proofs.Prelude.{Action, Config, HookAnswer, List, Next, Ok, Op, Phase, Reply, Traced, [], after_of, cases_Bool, false, has_flag}
use Rattle.vfs_gates.proofs.Prelude.{inl, inr, refl, state_of_trace, subst, sym, trace_state_after, true, ℕ, ◌==◌, ◌∷◌, ◌≡◌}
use Rattle.mount_counts.specs.declared.phases.{ChangeStep.ChangeStep, MountPhase.MountPhase}

-- the change at a step
abbrev opening : Config → ℕ → ℕ → ChangeStep → Phase
opening c t m step = Phase.Mounts (MountPhase.Change (record {
  mount = m;
  read_only = false;
  wait = true;
  task = t;
  processors = c.processors;
  step = step;
}))

-- the steps that it comes to: it sums nothing
abbrev StepFollows : ChangeStep → Type 0
StepFollows ChangeStep.Locks = Unit {0}
StepFollows ChangeStep.LoadsFlags = Unit {0}
StepFollows ChangeStep.LoadsSuperblock = Unit {0}
StepFollows ChangeStep.ClearsReadOnly = Unit {0}
StepFollows (ChangeStep.Releases answer) = answer ≡ Ok Reply.Unit
StepFollows step = ⊥

abbrev pub Opens : Config → ℕ → ℕ → Next Phase → Type 0
Opens c t m (Next.Go phase) = (step : ChangeStep) × (phase ≡ opening c t m step) × StepFollows step
Opens c t m (Next.Wait phase) = (step : ChangeStep) × (phase ≡ opening c t m step) × StepFollows step
Opens c t m (Next.Done answer) = answer ≡ Ok Reply.Unit

module _ (c : Config) (t m : ℕ) where
  goes_on : (found : ℕ) (hook : HookAnswer) (step : ChangeStep) → StepFollows step → Opens c t m (after_of (opening c t m step) found hook).0
  goes_on found hook ChangeStep.Locks comes =
      elim (cases_Bool (found == 0)) [ inl f ↦ rw f (ChangeStep.LoadsFlags, refl, tt) | inr f ↦ rw f (ChangeStep.Locks, refl, tt) ]
  goes_on found hook ChangeStep.LoadsFlags comes =
      elim (cases_Bool (has_flag found 1)) [
        | inl f ↦ rw f (ChangeStep.ClearsReadOnly, refl, tt)
        | inr f ↦ rw f (ChangeStep.LoadsSuperblock, refl, tt)
      ]
  goes_on found hook ChangeStep.LoadsSuperblock comes =
      elim (cases_Bool (found == 0)) [
        | inl f ↦ rw f (ChangeStep.Releases (Ok Reply.Unit), refl, refl)
        | inr f ↦ rw f (ChangeStep.ClearsReadOnly, refl, tt)
      ]
  goes_on found hook ChangeStep.ClearsReadOnly comes = (ChangeStep.Releases (Ok Reply.Unit), refl, refl)
  goes_on found hook (ChangeStep.Releases answer) comes = comes
  goes_on found hook step comes = absurd comes

  opens_after : (next : Next Phase) (added : List Action) (e : Traced) → Opens c t m next → Opens c t m (trace_state_after next added e).comes
  opens_after (Next.Go phase) added e h =
      subst (λ p. Opens c t m (after_of p e.event.found e.hook).0) (sym h.1) (goes_on e.event.found e.hook h.0 h.2)
  opens_after (Next.Wait phase) added e h =
      subst (λ p. Opens c t m (after_of p e.event.found e.hook).0) (sym h.1) (goes_on e.event.found e.hook h.0 h.2)
  opens_after (Next.Done answer) added e h = h

  -- so its trace ends in no refusal
  pub opens : (trace : List Traced) → Opens c t m (state_of_trace c t (Op.ChangeMount m false true) trace).comes
  opens [] = (ChangeStep.Locks, refl, tt)
  opens (e ∷ earlier) = opens_after (state_of_trace c t (Op.ChangeMount m false true) earlier).comes _ e (opens earlier)
