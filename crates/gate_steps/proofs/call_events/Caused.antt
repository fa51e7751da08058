-- A refused call has its cause at a moment of a schedule, between call and return.
use Rattle.gate_steps.proofs.Prelude.{Called, Config, DealtNumbers, Done, Entry, Err, GateError, List, Op, SeatedTask, Some, Traced, World, []}
use Rattle.gate_steps.proofs.Prelude.{after_of, ap, arith, found_by, next_of, own_number, state_of_trace, subst, sym, ℕ, ◌++◌, ◌∙◌, ◌∷◌, ◌≡◌}
use Rattle.cpu_words.specs.declared.events.Touch.{Touch}
use Rattle.gate_schedules.proofs.{operations.AllOperations.phase_keeps, schedules.HeadlineProof.{whole_causes, whole_rule}}
use Rattle.gate_world.specs.{Headline.world_after, Worlds.found_at, refusals.Causes.HasCause, traces.{Snapshots.completes, TraceStates.TraceState}}
use Rattle.gated_tree.specs.declared.trees.TreeWords.{TreeWords}
use Rattle.gate_steps.proofs.call_events.{Running.{completed_is, course_is}, Spanning.{each_event, last_event}}
use Rattle.gate_steps.specs.call_events.{Caused.HasItsCause, Runs.{AreMoves, completed_by}, Spans.{HappensAfter, HasItsCauseDuring, IsCausedDuring}}
use Rattle.gate_steps.specs.call_events.Spans.{IsEventDuring, IsTreeDuring}

-- what a step says that it found, it finds again
pub found_again : (touch : Touch) (n : ℕ) → found_by touch (found_by touch n) ≡ found_by touch n
found_again touch n = grind arith

-- what a step says that it found, it finds in the state of its moment
says : (c : Config) (n : ℕ) (op : Op) (earlier : List Traced) (e : Traced) (entries : List Entry)
    (h : HappensAfter c n op earlier e entries) → e.event.found ≡ found_at (world_after c entries).words h.phase e.hook
says c n op earlier e entries h =
    ap (λ (f : Traced). f.event.found) h.finds ∙ found_again (next_of h.phase e.hook).1 _

module _ (c : Config) (items : DealtNumbers) (op : Op) (earlier : List Traced) (e : Traced) (refusal : GateError)
    (seen gone : List (List Entry)) where
  abbrev n : ℕ
  n = own_number items

  -- a step that ends the operation with a refusal
  refused_during : (during : IsEventDuring c items op earlier e seen gone) → during.rest ≡ [] →
      (state_of_trace c n op (e ∷ earlier)).comes ≡ Done (Err refusal) → IsCausedDuring c items op earlier e refusal seen gone
  refused_during during returns ends =
      let h : HappensAfter c n op earlier e during.entries = during.happens in
      let w : World = world_after c during.entries in
      let done : (after_of h.phase (found_at w.words h.phase e.hook) e.hook).0 ≡ Done (Err refusal) =
      subst (λ k. (after_of h.phase k e.hook).0 ≡ Done (Err refusal)) (says c n op earlier e during.entries h)
      (sym (ap (λ (o : TraceState). o.comes) (course_is (state_of_trace c n op earlier).comes h.phase (state_of_trace c n op earlier).added e h.comes)) ∙
      ends) in record {
        during = during;
        returns = returns;
        ends = done;
        cause = subst (λ (worlds : List World). HasCause c n worlds h.phase refusal) during.moments
            (whole_causes c during.within during.entries n h.phase e.hook refusal during.task h.at done);
      }

trace_caused : (c : Config) (items : DealtNumbers) (op : Op) (refusal : GateError) (seen gone : List (List Entry)) (trace : List Traced) →
    (state_of_trace c (own_number items) op trace).comes ≡ Done (Err refusal) → AreMoves c op items seen trace gone →
    HasItsCauseDuring c items op trace refusal seen gone
trace_caused c items op refusal seen gone [] ends moves = let no : ⊥ = cc in no
trace_caused c items op refusal seen gone (e ∷ earlier) ends moves =
    let last = last_event c op items seen gone e earlier moves in
    refused_during c items op earlier e refusal seen gone last.0 last.1 ends

all_alone : (c : Config) (items : DealtNumbers) (op : Op) (refusal : GateError) (seen gone : List (List Entry)) (trace : List Traced) →
    HasItsCauseDuring c items op trace refusal seen gone → HasItsCause c (own_number items) op trace refusal
all_alone c items op refusal seen gone trace h = grind arith

-- so a refused call has it
pub call_caused_during : (op : Op) (old left : SeatedTask) (refusal : GateError) (called : Called op old left (Err refusal)) →
    HasItsCauseDuring old.config old.items op called.trace refusal old.seen left.seen
call_caused_during op old left refusal called =
    trace_caused old.config old.items op refusal old.seen left.seen called.trace called.ends called.moves

pub call_caused : (op : Op) (old left : SeatedTask) (refusal : GateError) (called : Called op old left (Err refusal)) →
    HasItsCause old.config (own_number old.items) op called.trace refusal
call_caused op old left refusal called =
    all_alone old.config old.items op refusal old.seen left.seen called.trace (call_caused_during op old left refusal called)

-- and where a step of a call has completed a snapshot, that is of the tree of its moment
pub tree_during : (c : Config) (items : DealtNumbers) (op : Op) (seen gone : List (List Entry)) (loaded : TreeWords)
    (later : List Traced) (e : Traced) (earlier : List Traced) → AreMoves c op items seen (later ++ e ∷ earlier) gone →
    completed_by (state_of_trace c (own_number items) op earlier).comes earlier e ≡ Some loaded → IsTreeDuring c items op seen gone loaded
tree_during c items op seen gone loaded later e earlier moves completed =
    let n : ℕ = own_number items in
    let during : IsEventDuring c items op earlier e seen gone = each_event c op items seen gone later e earlier moves in
    let h : HappensAfter c n op earlier e during.entries = during.happens in
    let w : World = world_after c during.entries in
    let here : completes h.phase (w.views n).trace (found_at w.words h.phase e.hook) ≡ Some loaded =
    (λ i. completes h.phase (h.events i) (sym (says c n op earlier e during.entries h) i)) ∙
    (sym (completed_is (state_of_trace c n op earlier).comes h.phase earlier e h.comes) ∙ completed) in record {
      earlier = earlier;
      last = e;
      during = during;
      tree = (phase_keeps c h.phase).completes during.within w (whole_rule c during.within during.entries) n during.task e.hook h.at
          loaded here;
    }
