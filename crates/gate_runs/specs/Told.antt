-- What a run tells of its gates once they are closed.
use Rattle.std.specs.Prelude.{None, Option, slice_index, ℕ, ◌*◌, ◌≡◌}
use Rattle.cpu_words.specs.{Names.{place, stride}, declared.names.WordName.TheVariants.Used}
use Rattle.{run_plans.specs.{Plans.run_config, declared.counts.{Details.Details, Totals.Totals}}, vfs_gates.specs.Ended.{ClosedState, Ended}}
use Rattle.gate_runs.specs.{Counts.{CountsRounds, gave_up_told}, Parts.{AllDid, EndsAs}}

-- What a run tells of gates that are closed: the blocks that their files have in the end, and that nothing is held. In the state that they
-- leave, each task has done its part from where it began, and nothing else: the backup all its rounds, each a freeze with a snapshot, a call of the
-- watch and a thaw, or a freeze that gave up, and then three callbacks; the remounter all rounds of changes; each writer all its rounds, with a call of
-- the watch between each grant and its return. Just what these calls met is printed. What froze and what gave up are together the freezes asked for; with
-- no end to its patience each freeze was granted.
pub record TellsRun (held : ℕ → ℕ → Type 0) (seen : ℕ → Type 0) (tasks processors rounds freezes : ℕ) (patience : Option ℕ) (totals : Totals)
    (details : Details) (closed : ClosedState) : Type 0 where
  pub config : closed.config ≡ run_config tasks processors rounds
  pub grown : totals.grown ≡ slice_index closed.words (stride * place Used)
  pub none_held : totals.held ≡ 0
  pub frozen : totals.frozen ≡ details.copies.frozen
  pub gave_up : totals.gave_up ≡ gave_up_told patience details.copies.gave_up
  pub snapshots : totals.snapshots ≡ totals.frozen
  pub counts : CountsRounds patience freezes details.copies
  pub endless : patience ≡ None → totals.frozen ≡ freezes
  pub remounts : totals.remounts ≡ rounds
  pub ended : Ended closed.config closed.words
  pub all : AllDid (EndsAs ended.world.views) held seen tasks processors rounds freezes patience details

-- a run of so many was done whole, as its gates tell that are closed
pub record WasRun (held : ℕ → ℕ → Type 0) (seen : ℕ → Type 0) (tasks processors rounds freezes : ℕ) (patience : Option ℕ) : Type 0 where
  pub totals : Totals
  pub details : Details
  pub closed : ClosedState
  pub tells : TellsRun held seen tasks processors rounds freezes patience totals details closed
