-- What one holder has frozen stays frozen until that holder leaves, action by action.
use Rattle.std.proofs.{Common.{Bool, arith, false, true, ℕ, ◌≡◌}, lemmas.Bool.false≢true}
use Rattle.access_model.specs.{Actions.{MayDo, after_action}, Holders.{held_by, is_unheld}, Laws.{IsFrozenFor, StaysFrozen}, States.{Limits, State}}
use Rattle.access_model.specs.declared.actions.{Action.{Action, TheVariants.Leave}, Holder.{Holder, TheVariants.{Kernel, User}}}

-- who holds a freeze isn't nobody
pub some_held : (h : Holder) (kernel user : Bool) → is_unheld (record { kernel = kernel; user = user }) ≡ true →
    held_by (record { kernel = kernel; user = user }) h ≡ true → ⊥
some_held Kernel true user none own = false≢true none
some_held Kernel false user none own = false≢true own
some_held User true true none own = false≢true none
some_held User false true none own = false≢true none
some_held User kernel false none own = false≢true own

module _ (l : Limits) (s : State) (t : ℕ) (h : Holder) (frozen : IsFrozenFor s h) where
  -- after this action all is frozen for this one, as before
  abbrev IsLeft : Action → Type 0
  IsLeft a = IsFrozenFor (after_action s t a) h × ((after_action s t a).passed ≡ s.passed)

  left : (a : Action) → MayDo l s t a → (a ≡ Leave h → ⊥) → IsLeft a
  left a may ne = grind arith

pub stays_frozen : (l : Limits) (s : State) (t : ℕ) (a : Action) (h : Holder) → StaysFrozen l s t a h
stays_frozen l s t a h allowed frozen ne = left l s t h frozen a allowed.1 ne
