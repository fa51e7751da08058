-- The transitions that phases make, by a load and a compare-exchange, as transitions of the number that is in memory.
use Rattle.std.specs.Prelude.{None, Option, Some, ℕ, ◌≡◌}
use Rattle.cpu_words.specs.Touches.{left}
use Rattle.percpu_rwsem.specs.{SyncWords.IsLawful, Transitions.{transition_after, transition_next}, declared.sync_word.SyncWord.SyncWord}
use Rattle.percpu_rwsem.specs.declared.transitions.Transition.{TheVariants.{Exchanges, Loads}, Transition}
use Rattle.percpu_rwsem.specs.declared.transitions.TransitionNext.{TheVariants.{Made, More, Undefined}, TransitionNext}
use Rattle.freeze_laws.specs.levels.Changes.{state_found, transition}

-- what is known where an exchange is to come: the word that was loaded is lawful, and the transition makes the other one of it
abbrev pub KnowsWords : (SyncWord → Option SyncWord) → Transition → Type 0
KnowsWords makes Loads = Unit {0}
KnowsWords makes (Exchanges from to) = IsLawful from × (makes from ≡ Some to)

-- What a step of a transition shows that found one number and left the other: either nothing has changed, and what is to come is
-- known or the transition is not defined; or what was found was in this state, and its transition was put in its place.
abbrev pub MakesTransition : (SyncWord → Option SyncWord) → ℕ → ℕ → TransitionNext → Type 0
MakesTransition makes found leaves (More next) = (leaves ≡ found) × KnowsWords makes next
MakesTransition makes found leaves Undefined = (leaves ≡ found) × (transition makes found ≡ None)
MakesTransition makes found leaves (Made state) = (state_found found ≡ Some state) × (transition makes found ≡ Some leaves)

-- each step of each transition shows it, at whatever level
abbrev pub ExchangesMakeTransitions : Type 0
ExchangesMakeTransitions = (makes : SyncWord → Option SyncWord) (level found : ℕ) (next : Transition) → KnowsWords makes next →
    MakesTransition makes found (left (transition_next level next).1 found) (transition_after makes next found)
