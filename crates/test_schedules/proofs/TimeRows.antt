-- Worked executions in the order of time, by computing: what an execution alone allows, and what one that goes on from all that was seen refuses.
use Rattle.std.proofs.Common.{Err, List, None, Ok, Option, Some, [], ap, arith, false, refl, slice_index, suc, sym, true, zero, ℕ, ◌*◌, ◌++◌, ◌+◌}
use Rattle.std.proofs.{Common.{◌<◌, ◌∙◌, ◌∷◌, ◌≡◌}, lemmas.List.append_assoc}
use Rattle.{access_model.specs.declared.{actions.Holder.Holder, errors.GateError.GateError}, cpu_words.specs.Touches.event_of}
use Rattle.gate_steps.specs.{Seating.{DealtNumbers, IsPrefix}, call_events.{Caused.IsCausedBy, SeatedTasks.own_number}}
use Rattle.gate_steps.specs.call_events.Spans.{IsCausedDuring, IsEventDuring, IsTreeDuring}
use Rattle.gate_transitions.specs.{Answers.step_answer, declared.steps.Progress.Progress}
use Rattle.gate_world.specs.{Configs.IsWithin, Moments.IsPresentTree, Views.with_hook, Work.next_of, Worlds.{found_at, opening, run, task_of}}
use Rattle.gate_world.specs.declared.{entries.Entry.{Entry, TheVariants.Begins}, operations.Op.Op, views.Traced.Traced, work.Phase.Phase}
use Rattle.gate_world.specs.refusals.Causes.{WantRefused, last_question, since_begun, trail_of}
use Rattle.{gated_tree.specs.{Trees.node_at, declared.trees.TreeWords.TreeWords}, mount_counts.specs.declared.phases.MountPhase.MountPhase}
use Rattle.node_words.specs.Nodes.{node_shown}
use Rattle.test_schedules.{proofs.TreeRows.{freezes as frozen, snapshots}, specs.Schedules.{small, steps}}

-- whose transition stands at a place; past the end, nobody's, which 64 is
abbrev task_at : List Entry → ℕ → ℕ
task_at [] k = 64
task_at (e ∷ es) zero = task_of e
task_at (e ∷ es) (suc k) = task_at es k

-- a step of a call, whose task had seen an execution, stands in one that goes on from it
during_goes_on : (items : DealtNumbers) (op : Op) (earlier : List Traced) (e : Traced) (seen : List Entry) (left : List (List Entry))
    (during : IsEventDuring small items op earlier e (seen ∷ []) left) → IsPrefix seen during.entries
during_goes_on items op earlier e seen left during =
    let on : IsPrefix seen during.began = during.begins.saw 0 seen refl in
    let begun : List Entry = Begins (own_number items) op ∷ during.since in
    (on.0 ++ begun, during.is ∙ (ap (λ (l : List Entry). l ++ begun) on.1 ∙ append_assoc seen on.0 begun))

-- a mount that was made read-only
abbrev closes : List Entry
closes = Begins 0 (Op.ChangeMount 0 true true) ∷ steps 9 0

-- and a want up to its last step, which refuses it as read-only
abbrev refuses : List Entry
refuses = closes ++ (Begins 1 (Op.Want 0 1 true) ∷ steps 4 1)

refuses_ends : (step_answer small (run small opening refuses) 1 (Ok tt)).progress ≡ Progress.Done (Err GateError.ReadOnly)
refuses_ends = refl

-- the cause is there, and of some execution alone no more is said
refuses_cause : WantRefused small 1 0 (last_question 1 (since_begun 1 (trail_of small refuses))) GateError.ReadOnly
refuses_cause = refl

abbrev phase_in : Option Phase → Phase
phase_in None = Phase.Mounts (MountPhase.Drop 0 0)
phase_in (Some phase) = phase

-- where the want stands then, its steps so far, and its last one
abbrev stands : Phase
stands = phase_in ((run small opening refuses).views 1).phase

abbrev so_far : List Traced
so_far = ((run small opening refuses).views 1).trace

abbrev last_one : Traced
last_one = with_hook (event_of (next_of stands (Ok tt)).0 (next_of stands (Ok tt)).1 (found_at (run small opening refuses).words stands (Ok tt))) (Ok tt)

small_within : IsWithin small
small_within = record {
  some_task = omega arith;
  tasks = omega arith;
  some_processor = omega arith;
  processors = omega arith;
  some_mount = omega arith;
  mounts = omega arith;
  some_node = omega arith;
  nodes = omega arith;
  capacity = omega arith;
}

refuses_allowed : IsCausedBy small 1 (Op.Want 0 1 true) so_far last_one GateError.ReadOnly
refuses_allowed = record {
  within = small_within;
  task = omega arith;
  entries = refuses;
  phase = stands;
  at = refl;
  under_way = refl;
  events = refl;
  finds = refl;
  ends = refl;
  cause = refl;
}

-- the same mount made writable again
abbrev reopens : List Entry
reopens = closes ++ (Begins 0 (Op.ChangeMount 0 false true) ∷ steps 7 0)

reopens_flags : (run small opening reopens).words.flags 0 ≡ 0
reopens_flags = refl

-- whose task has seen that is not refused for what was before: that execution does not go on from what it had seen
refuses_apart : IsPrefix reopens refuses → ⊥
refuses_apart on = let no : 1 ≡ 0 = ap (λ (l : List Entry). task_at l 10) on.1 in omega (arith, no)

earlier_cause_never : (items : DealtNumbers) (op : Op) (earlier : List Traced) (last : Traced) (left : List (List Entry))
    (caused : IsCausedDuring small items op earlier last GateError.ReadOnly (reopens ∷ []) left) → caused.during.entries ≡ refuses → ⊥
earlier_cause_never items op earlier last left caused is =
    let on = during_goes_on items op earlier last reopens left caused.during in refuses_apart (on.0, sym is ∙ on.1)

-- the tree of a freeze, which a snapshot loads
abbrev loaded : TreeWords
loaded = record { used = 3; nodes = 2 ∷ (1 + 4294967296 * 3) ∷ []; kids = 1 ∷ 0 ∷ [] }

-- everything is frozen then, and that is the tree
older_nodes : (n : ℕ) → n < 2 → node_shown ((run small opening snapshots).words.node n) ≡ node_at loaded n
older_nodes zero below = refl
older_nodes (suc zero) below = refl
older_nodes (suc (suc n)) below = absurd (omega arith)

older_kids : (n : ℕ) → n < 2 → (run small opening snapshots).words.kids n ≡ slice_index loaded.kids n
older_kids zero below = refl
older_kids (suc zero) below = refl
older_kids (suc (suc n)) below = absurd (omega arith)

older_allowed : IsPresentTree small (run small opening snapshots).words loaded
older_allowed = record { frozen = refl; whole = refl; used = refl; nodes = older_nodes; kids = older_kids }

-- a thaw of it
abbrev thawed : List Entry
thawed = frozen ++ (Begins 1 (Op.Thaw Holder.User) ∷ steps 16 1)

thawed_stage : (run small opening thawed).words.stage ≡ 0
thawed_stage = refl

-- whose task has seen the thaw gets no tree of that freeze: not right then
thawed_never : IsPresentTree small (run small opening thawed).words loaded → ⊥
thawed_never tree = omega (arith, tree.frozen)

-- and not by the execution in which the snapshot came before it
older_apart : IsPrefix thawed snapshots → ⊥
older_apart on = let no : 2 ≡ 1 = ap (λ (l : List Entry). task_at l 67) on.1 in omega (arith, no)

older_never : (items : DealtNumbers) (op : Op) (left : List (List Entry)) (taken : IsTreeDuring small items op (thawed ∷ []) left loaded) →
    taken.during.entries ≡ snapshots → ⊥
older_never items op left taken is =
    let on = during_goes_on items op taken.earlier taken.last thawed left taken.during in older_apart (on.0, sym is ∙ on.1)
