-- What a step at a level leaves: the number that a transition puts, and the role that its task has.
use Rattle.std.specs.Prelude.{None, Option, Some, ℕ}
use Rattle.percpu_rwsem.specs.{Graces.started, SyncWords.{pack, unpack}, declared.grace.GraceNext.{GraceNext, TheVariants.{Ended, More, Wait}}}
use Rattle.percpu_rwsem.specs.declared.sync_word.{GpState.{GpState, TheVariants.Idle}, SyncWord.SyncWord}
use Rattle.freeze_laws.specs.levels.Roles.{Claimed, Entered, Out, Past, Ready, SyncRole, Waiting}

-- the transition is defined, and P holds of what it leaves
abbrev pub Leaves : Option SyncWord → (SyncWord → Type 0) → Type 0
Leaves None P = ⊥
Leaves (Some word) P = P word

-- the number of the word that a transition makes, where it is defined
abbrev pub put_by : Option SyncWord → Option ℕ
put_by None = None
put_by (Some word) = Some (pack word)

-- the same, where the word was loaded
abbrev pub transition_of : (SyncWord → Option SyncWord) → Option SyncWord → Option ℕ
transition_of on None = None
transition_of on (Some word) = put_by (on word)

-- what a transition puts in the place of a number that was loaded, where that is a word and the transition is defined
abbrev pub transition : (SyncWord → Option SyncWord) → ℕ → Option ℕ
transition on loaded = transition_of on (unpack loaded)

-- the state of a word that was loaded
abbrev pub state_found_in : Option SyncWord → Option GpState
state_found_in None = None
state_found_in (Some word) = Some word.state

-- the state of a number that was loaded, where that is a word
abbrev pub state_found : ℕ → Option GpState
state_found loaded = state_found_in (unpack loaded)

-- a writer that entered: where it found GP_IDLE, it waits for a grace period
abbrev pub role_entered : ℕ → GpState → SyncRole
role_entered tasks Idle = Waiting (started tasks)
role_entered tasks s = Entered

-- the same, by the state of the number that was loaded
abbrev pub role_found : ℕ → Option GpState → SyncRole
role_found tasks None = Out
role_found tasks (Some s) = role_entered tasks s

-- a writer after a load of a section word
abbrev pub waits : GraceNext → SyncRole
waits (More g) = Waiting g
waits (Wait g) = Waiting g
waits Ended = Past

-- a callback after a load of a section word
abbrev pub claims : GraceNext → SyncRole
claims (More g) = Claimed g
claims (Wait g) = Claimed g
claims Ended = Ready
