-- An operation that waits for nobody ends after few of its own steps.
use Rattle.vfs_gates.proofs.Prelude.{AreMoves, Called, Config, DealtNumbers, Done, Entry, GateError, Go, IsTrace, IsWithin, List, Next, Node, Ok, Op}
use Rattle.vfs_gates.proofs.Prelude.{OpUnderWay, Option, Phase, Reply, Result, Some, Traced, Trees, Wait, WordName, [], arith, event_of, length}
use Rattle.vfs_gates.proofs.Prelude.{next_of, phase_after, refl, state_of_trace, subst, sym, ℕ, ◌<◌, ◌∙◌, ◌∷◌, ◌≡◌, ◌≤◌}
use Rattle.composite_ops.specs.declared.file_closes.phases.ClosePhase.{ClosePhase, TheVariants.{Enters as EntersLevel, FreesNode}}
use Rattle.composite_ops.specs.declared.file_closes.phases.ClosePhase.TheVariants.{LoadsFile as CloseLoadsFile, LowersCount}
use Rattle.{cpu_words.specs.declared.names.WordName.TheVariants.Sync, gate_schedules.proofs.operations.AllOperations.op_keeps}
use Rattle.gate_steps.{proofs.call_events.Spanning.last_event, specs.call_events.{Runs.ProgressMatches, SeatedTasks.{SeatedTask, own_number}}}
use Rattle.gate_transitions.specs.declared.steps.Progress.TheVariants.{Waiting}
use Rattle.gate_world.specs.{Views.with_hook, declared.work.Phase.TheVariants.Closes, traces.TraceStates.{CloseReadIsValid, IsNext, OpenReadIsValid}}
use Rattle.gate_world.specs.traces.{TraceStates.{ReadIsValid, WordIsValid}, Traces.{IsShort, MayWait, most_events}}
use Rattle.gated_tree.specs.declared.opens.OpenStep.{OpenStep, TheVariants.{LoadsFile as LoadsFileToOpen, OpensFile}}
use Rattle.gated_tree.specs.declared.phases.TreePhase.TheVariants.{OpenFile as OpensOne}
use Rattle.{node_words.specs.Nodes.word_of, percpu_rwsem.specs.Readers.down_read_next}

-- each word may hold some value, and so each step may find one
word_value : (word : WordName) → (v : ℕ) × WordIsValid word v
word_value (Node n) = (0, refl)
word_value (Sync i) = (0, refl)
word_value word = (0, tt)

close_value : (x : ClosePhase) → (v : ℕ) × CloseReadIsValid x v
close_value (CloseLoadsFile x) = (65537, (refl, omega arith))
close_value (EntersLevel f node r) = word_value (down_read_next r r.step).0
close_value (FreesNode f p node) = (word_of node, refl)
close_value (LowersCount x node) = (0, refl)
close_value x = (0, tt)

open_value : (s : OpenStep) → (v : ℕ) × OpenReadIsValid s v
open_value LoadsFileToOpen = (0, (refl, omega arith))
open_value (OpensFile file) = (0, refl)

some_value : (phase : Phase) (word : WordName) → (v : ℕ) × ReadIsValid phase word v
some_value (Closes x) word = close_value x
some_value (Trees (OpensOne x)) word = open_value x.step
some_value phase word = word_value word

next_at : (comes : Next Phase) (q : Phase) → phase_after comes ≡ Some q → (e : Traced) × IsNext comes e
next_at (Go phase) q is = let v = some_value phase (next_of phase (Ok tt)).0 in
    (with_hook (event_of (next_of phase (Ok tt)).0 (next_of phase (Ok tt)).1 v.0) (Ok tt), (v.0, refl, v.1))
next_at (Wait phase) q is = let v = some_value phase (next_of phase (Ok tt)).0 in
    (with_hook (event_of (next_of phase (Ok tt)).0 (next_of phase (Ok tt)).1 v.0) (Ok tt), (v.0, refl, v.1))
next_at (Done answer) q is = absurd (let no : ⊥ = cc in no)

-- an operation that is still under way has room for one step more
fewer : (c : Config) → IsWithin c → (t : ℕ) (op : Op) (trace : List Traced) (most : ℕ) (q : Phase) → most_events c op ≡ Some most →
    IsTrace c t op trace → phase_after (state_of_trace c t op trace).comes ≡ Some q → length trace < most
fewer c lim t op trace most q bound follows at =
    let next = next_at (state_of_trace c t op trace).comes q at in
    let short : IsShort (Some most) (next.0 ∷ trace) =
    subst (λ (o : Option ℕ). IsShort o (next.0 ∷ trace)) bound (((op_keeps c op).traces lim).short t (next.0 ∷ trace) (next.1, follows)) in
    omega (arith, short)

-- before the first step any operation has
some_most : (c : Config) (op : Op) (most : ℕ) → most_events c op ≡ Some most → 1 ≤ most
some_most c op most bound = grind arith

step_most : (c : Config) (op : Op) (items : DealtNumbers) (seen gone : List (List Entry)) (trace : List Traced) (most : ℕ) (q : Phase) →
    most_events c op ≡ Some most → IsTrace c (own_number items) op trace → AreMoves c op items seen trace gone →
    phase_after (state_of_trace c (own_number items) op trace).comes ≡ Some q → length trace < most
step_most c op items seen gone [] most q bound follows moves at = omega (arith, some_most c op most bound)
step_most c op items seen gone (e ∷ earlier) most q bound follows moves at =
    fewer c (last_event c op items seen gone e earlier moves).0.within (own_number items) op (e ∷ earlier) most q bound follows at

-- so while it is under way it has done fewer than its most
pub step_free : (op : Op) (start now : SeatedTask) (most : ℕ) → most_events start.config op ≡ Some most → (goes : OpUnderWay op start now) →
    length goes.trace < most
step_free op start now most bound goes =
    step_most start.config op start.items start.seen goes.moves.0 goes.trace most goes.going.0 bound goes.follows goes.moves.2
    (sym goes.phase ∙ goes.going.1)

pub call_free : (op : Op) (old left : SeatedTask) (answer : Result Reply GateError) (most : ℕ) → most_events old.config op ≡ Some most →
    (called : Called op old left answer) → length called.trace ≤ most
call_free op old left answer most bound called = subst (λ (o : Option ℕ). IsShort o called.trace) bound called.short

-- and it never may say that it waits
no_wait : (c : Config) (op : Op) (trace : List Traced) (most : ℕ) → most_events c op ≡ Some most → MayWait c op trace → ⊥
no_wait c op trace most bound may = grind arith

pub never_waits : (op : Op) (start now : SeatedTask) (most : ℕ) → most_events start.config op ≡ Some most → ProgressMatches op start Waiting now → ⊥
never_waits op start now most bound (goes, may) = no_wait start.config op goes.trace most bound may
