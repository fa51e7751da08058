-- A transition of a level's sync word: the word is loaded, and exchanged for what the transition makes of it.
use Rattle.std.specs.Prelude.{ℕ, ◌==◌, if◌then◌else◌, Option, Some, None}
use Rattle.cpu_words.specs.declared.{names.WordName.{WordName, TheVariants.{Sync}}, events.Touch.{Touch, TheVariants.{Load, Cas}}}
use Rattle.percpu_rwsem.specs.declared.{sync_word.SyncWord.{SyncWord}, transitions.Transition.{Transition, TheVariants.{Loads, Exchanges}}}
use Rattle.percpu_rwsem.specs.declared.transitions.TransitionNext.{TransitionNext, TheVariants.{More, Undefined, Made}}
use Rattle.percpu_rwsem.specs.SyncWords.{pack, unpack}

-- the word and the touch of the next step
abbrev pub transition_next : ℕ → Transition → WordName × Touch
transition_next level Loads = (Sync level, Load)
transition_next level (Exchanges from to) = (Sync level, Cas (pack from) (pack to))

-- what is to be exchanged for the word that was loaded, where there is such a transition of it
abbrev pub exchange_for : SyncWord → Option SyncWord → TransitionNext
exchange_for from None = Undefined
exchange_for from (Some to) = More (Exchanges from to)

-- a number that is no word is loaded again
abbrev pub word_loaded : (SyncWord → Option SyncWord) → Option SyncWord → TransitionNext
word_loaded makes None = More Loads
word_loaded makes (Some from) = exchange_for from (makes from)

-- what comes after the step that found this: a word that was changed before the exchange is loaded again
abbrev pub transition_after : (SyncWord → Option SyncWord) → Transition → ℕ → TransitionNext
transition_after makes Loads found = word_loaded makes (unpack found)
transition_after makes (Exchanges from to) found = if found == pack from then Made from.state else More Loads
