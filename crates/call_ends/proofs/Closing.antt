-- What comes after each step of the closing of a level.
use Rattle.call_ends.proofs.Prelude.{Accesses, Bool, Go, None, Ok, Some, ap, arith, closing_at, false, refl, standing, sym, true, ℕ, ◌-◌, ◌∙◌, ◌≡◌}
use Rattle.call_ends.specs.Closings.{awaited, closed_or, of_freeze, summed, waiting_at}
use Rattle.std.{proofs.Common.◌<◌, specs.Prelude.{if◌then◌else◌, ◌==◌}}
use Rattle.access_model.specs.declared.{actions.Action.TheVariants.Clean, replies.Next.{Next, TheVariants.{Done, Wait}}}
use Rattle.access_model.specs.declared.replies.Reply.TheVariants.{Unit as UnitReply}
use Rattle.cpu_words.specs.{Hooks.HookAnswer, Sums.sum_taking, declared.sums.{Sum.Sum, Taken.TheVariants.{More as MoreWords, Total}}}
use Rattle.freeze_levels.specs.{Freezes.{after_closing, at_freeze, level_closed}, Levels.closing, declared.freezes.Freeze.Freeze}
use Rattle.freeze_levels.specs.declared.freezes.FreezeStep.{FreezeStep, TheVariants.{Cleans, Closes, LoadsStage, LoadsSuperblock, Locks, LocksAgain}}
use Rattle.freeze_levels.specs.declared.freezes.FreezeStep.TheVariants.{SetsComplete, SetsFs, SetsPageFault, SetsWrite}
use Rattle.gate_world.specs.{Accesses.accesses_after, Work.after_of, declared.work.Phase.TheVariants.Freezes}
use Rattle.node_words.specs.{Nodes.{dirty_in, node_after}, declared.marks.ClearMarks.ClearMarks}
use Rattle.percpu_rwsem.specs.{Graces.looked, SyncWords.{on_callback, on_enter, pack, unpack}, Writers.{at_down_write, entered_from, sum_begun}}
use Rattle.percpu_rwsem.specs.declared.{grace.{Grace.Grace, GraceNext.TheVariants.{Ended, More, Wait as WaitsFor}}, sync_word.SyncWord.SyncWord}
use Rattle.percpu_rwsem.specs.declared.{transitions.Transition.{TheVariants.{Exchanges, Loads}, Transition}, writers.DownWrite.DownWrite}
use Rattle.percpu_rwsem.specs.declared.writers.DownWriteStep.{DownWriteStep, TheVariants.{AwaitsSections, CallsBack, Enters, SetsBlock, Sums}}

-- equal numbers are found equal, and others not
pub same_number : (a b : ℕ) → a ≡ b → (a == b) ≡ true
same_number a b is = grind arith

pub other_number : (a b : ℕ) → (a ≡ b → ⊥) → (a == b) ≡ false
other_number a b is = grind arith

module _ (x : Freeze) where
  -- where a freeze stands
  pub stands_at_step : (s : FreezeStep) → x.step ≡ s → Go (standing x s) ≡ Go (Freezes x)
  stands_at_step s at = ap (λ t. Go (Freezes (at_freeze x t))) (sym at)

  -- the load of the stage
  pub stage_free : (found : ℕ) → found ≡ 0 → (after_of (standing x LoadsStage) found (Ok tt)).0 ≡ Go (standing x LoadsSuperblock)
  stage_free found is = rw (same_number found 0 is) refl

  -- the load of the superblock's flag
  pub flag_clear : (found : ℕ) → found ≡ 0 → (after_of (standing x LoadsSuperblock) found (Ok tt)).0 ≡ Go (standing x SetsWrite)
  flag_clear found is = rw (same_number found 0 is) refl

  -- `umount` was free, or taken
  pub locked : (found : ℕ) → found ≡ 0 → (after_of (standing x Locks) found (Ok tt)).0 ≡ Go (standing x LoadsStage)
  locked found is = rw (same_number found 0 is) refl

  pub locked_again : (found : ℕ) → found ≡ 0 → (after_of (standing x LocksAgain) found (Ok tt)).0 ≡ Go (standing x SetsPageFault)
  locked_again found is = rw (same_number found 0 is) refl

  -- a level was closed, or wasn't
  pub closed_so : (level : ℕ) (b : Bool) (rest : Next Freeze) → b ≡ true → closed_or x level b rest ≡ Go (standing x (level_closed level x.nodes))
  closed_so level b rest is = ap (λ c. closed_or x level c rest) is

  pub not_closed : (level : ℕ) (b : Bool) (rest : Next Freeze) → b ≡ false → closed_or x level b rest ≡ of_freeze rest
  not_closed level b rest is = ap (λ c. closed_or x level c rest) is

  -- which one that was
  pub closed_first : (level : ℕ) → level ≡ 1 → Go (standing x LocksAgain) ≡ Go (standing x (level_closed level x.nodes))
  closed_first level is = rw is refl

  pub closed_second : (level : ℕ) → level ≡ 2 → Go (standing x (level_closed 2 x.nodes)) ≡ Go (standing x (level_closed level x.nodes))
  closed_second level is = rw is refl

  pub closed_third : (level : ℕ) → (level ≡ 1 → ⊥) → (level ≡ 2 → ⊥) → Go (standing x SetsComplete) ≡ Go (standing x (level_closed level x.nodes))
  closed_third level not_first not_second = rw (other_number level 1 not_first, other_number level 2 not_second) refl

  -- the clearing of a mark
  pub cleans_on : (marks : ClearMarks) (next found : ℕ) → Some next ≡ node_after marks.node marks.nodes →
      (after_of (standing x (Cleans marks)) found (Ok tt)).0 ≡ Go (standing x (Cleans record { node = next; nodes = marks.nodes }))
  cleans_on marks next found is = rw (sym is) refl

  pub cleans_last : (marks : ClearMarks) (found : ℕ) → None ≡ node_after marks.node marks.nodes →
      (after_of (standing x (Cleans marks)) found (Ok tt)).0 ≡ Go (standing x SetsFs)
  cleans_last marks found is = rw (sym is) refl

  -- it leaves the accesses, and so do the stores that a hook's answer decides
  cleans_case : (held : Accesses) (node : ℕ) (b : Bool) → held ≡ accesses_after held (if b then Some (Clean node) else None)
  cleans_case held node true = refl
  cleans_case held node false = refl

  pub cleans_leave : (held : Accesses) (marks : ClearMarks) (found : ℕ) →
      held ≡ accesses_after held (after_of (standing x (Cleans marks)) found (Ok tt)).1
  cleans_leave held marks found = cleans_case held marks.node (dirty_in found == 1)

  pub syncs_leave : (held : Accesses) (found : ℕ) (hook : HookAnswer) → held ≡ accesses_after held (after_of (standing x SetsFs) found hook).1
  syncs_leave held found hook = grind arith

  pub completes_leave : (held : Accesses) (found : ℕ) (hook : HookAnswer) →
      held ≡ accesses_after held (after_of (standing x SetsComplete) found hook).1
  completes_leave held found hook = grind arith

module _ (x : Freeze) (level : ℕ) where
  -- whether nobody was counted
  sums_case : (b : Bool) → of_freeze (after_closing x level (if b then Done (Ok UnitReply) else Wait (at_down_write (closing level x.tasks x.processors) sum_begun))) ≡ summed x level b
  sums_case true = refl
  sums_case false = refl

  -- where the closing of a level stands
  pub closing_stands : (step now : DownWriteStep) → now ≡ step → Go (closing_at x level step) ≡ Go (closing_at x level now)
  closing_stands step now at = ap (λ s. Go (closing_at x level s)) (sym at)

  pub closing_enters : (t : Transition) (now : DownWriteStep) → now ≡ Enters t → t ≡ Loads → Go (closing_at x level (Enters Loads)) ≡ Go (closing_at x level now)
  closing_enters t now step loads = closing_stands (Enters Loads) now (step ∙ ap (λ u. Enters u) loads)

  -- a down-write among as many tasks and processors as the freeze
  pub closing_of : (d : DownWrite) → d.level ≡ level → d.tasks ≡ x.tasks → d.processors ≡ x.processors →
      Go (closing_at x level d.step) ≡ Go (standing x (Closes d))
  closing_of d same_level same_tasks same_processors =
      λ i. Go (standing x (Closes record { level = sym same_level i; tasks = sym same_tasks i; processors = sym same_processors i; step = d.step }))

  -- one that is to be exchanged
  pub enters_on : (found : ℕ) (from to : SyncWord) → Some from ≡ unpack found → Some to ≡ on_enter from →
      (after_of (closing_at x level (Enters Loads)) found (Ok tt)).0 ≡ Go (closing_at x level (Enters (Exchanges from to)))
  enters_on found from to is made = rw (sym is, sym made) refl

  -- the exchange
  pub entered_so : (found : ℕ) (from to : SyncWord) → found ≡ pack from →
      (after_of (closing_at x level (Enters (Exchanges from to))) found (Ok tt)).0 ≡ Go (closing_at x level (entered_from x.tasks from.state))
  entered_so found from to is = rw (same_number found (pack from) is) refl

  pub entered_not : (found : ℕ) (from to : SyncWord) → (found ≡ pack from → ⊥) →
      (after_of (closing_at x level (Enters (Exchanges from to))) found (Ok tt)).0 ≡ Go (closing_at x level (Enters Loads))
  entered_not found from to not = rw (other_number found (pack from) not) refl

  pub calls_on : (found : ℕ) (from to : SyncWord) → Some from ≡ unpack found → Some to ≡ on_callback from →
      (after_of (closing_at x level (CallsBack Loads)) found (Ok tt)).0 ≡ Go (closing_at x level (CallsBack (Exchanges from to)))
  calls_on found from to is made = rw (sym is, sym made) refl

  pub called_so : (found : ℕ) (from to : SyncWord) → found ≡ pack from →
      (after_of (closing_at x level (CallsBack (Exchanges from to))) found (Ok tt)).0 ≡ Go (closing_at x level SetsBlock)
  called_so found from to is = rw (same_number found (pack from) is) refl

  pub called_not : (found : ℕ) (from to : SyncWord) → (found ≡ pack from → ⊥) →
      (after_of (closing_at x level (CallsBack (Exchanges from to))) found (Ok tt)).0 ≡ Go (closing_at x level (CallsBack Loads))
  called_not found from to not = rw (other_number found (pack from) not) refl

  -- the exchange of `block`
  pub blocks : (found : ℕ) → found ≡ 0 → (sum : Sum) → sum ≡ record { words = 0; total = 0 } →
      (after_of (closing_at x level SetsBlock) found (Ok tt)).0 ≡ Go (closing_at x level (Sums sum))
  blocks found is sum begun = rw (same_number found 0 is) (ap (λ s. Go (closing_at x level (Sums s))) (sym begun))

  pub blocked : (found : ℕ) → (found ≡ 0 → ⊥) → (after_of (closing_at x level SetsBlock) found (Ok tt)).0 ≡ Wait (closing_at x level SetsBlock)
  blocked found not = rw (other_number found 0 not) refl

  -- a whole sum
  pub all_summed : (b : Bool) → b ≡ true → summed x level b ≡ Go (standing x (level_closed level x.nodes))
  all_summed b is = ap (summed x level) is

  pub some_summed : (b : Bool) → b ≡ false → summed x level b ≡ Wait (waiting_at x level)
  some_summed b is = ap (summed x level) is

  -- a load of a section word
  pub looks_on : (grace further : Grace) (found : ℕ) → More further ≡ looked grace found →
      (after_of (closing_at x level (AwaitsSections grace)) found (Ok tt)).0 ≡ Go (closing_at x level (AwaitsSections further))
  looks_on grace further found is = rw (sym is) refl

  pub looks_in_vain : (grace further : Grace) (found : ℕ) → WaitsFor further ≡ looked grace found →
      (after_of (closing_at x level (AwaitsSections grace)) found (Ok tt)).0 ≡ awaited x level (Some further)
  looks_in_vain grace further found is = rw (sym is) refl

  pub looks_last : (grace : Grace) (found : ℕ) → Ended ≡ looked grace found →
      (after_of (closing_at x level (AwaitsSections grace)) found (Ok tt)).0 ≡ awaited x level None
  looks_last grace found is = rw (sym is) refl

  -- a load of a count word
  pub sums_on : (sum further : Sum) (found : ℕ) → MoreWords further ≡ sum_taking sum found x.processors →
      (after_of (closing_at x level (Sums sum)) found (Ok tt)).0 ≡ Go (closing_at x level (Sums further))
  sums_on sum further found is = rw (sym is) refl

  pub sums_last : (sum : Sum) (total found : ℕ) → Total total ≡ sum_taking sum found x.processors →
      (after_of (closing_at x level (Sums sum)) found (Ok tt)).0 ≡ summed x level (total == 0)
  sums_last sum total found is = rw (sym is) (sums_case (total == 0))

-- the rows come to their ends
pub fewer_words : (sum further : Sum) (found processors : ℕ) → MoreWords further ≡ sum_taking sum found processors →
    processors - further.words < processors - sum.words
fewer_words sum further found processors is = grind arith

pub fewer_tasks : (grace further : Grace) (found : ℕ) → More further ≡ looked grace found →
    further.tasks - further.task < grace.tasks - grace.task
fewer_tasks grace further found is = grind arith

pub fewer_nodes : (node nodes next : ℕ) → Some next ≡ node_after node nodes → nodes - next < nodes - node
fewer_nodes node nodes next is = grind arith
