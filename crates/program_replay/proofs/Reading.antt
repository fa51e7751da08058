-- What a step says of the execution before it and of the one after it.
use Rattle.std.proofs.Common.{List, None, Option, Some, [], ap, arith, length, refl, subst, sym, ℕ, ◌<◌, ◌∙◌, ◌∷◌, ◌≡◌, ◌≤◌}
use Rattle.{cpu_words.specs.{Hooks.HookAnswer, Words.Words}, finite_sums.proofs.Totals.update_at}
use Rattle.gate_steps.{proofs.call_events.{Going.entered_actions, Grown.{after_more, only_seen}, Moments.run_append}, specs.Histories.then_begins}
use Rattle.gate_steps.specs.Seating.{DealtNumbers, HasWitness, IsPrefix, done_by, entered, items_after, numbered, world_entered, world_left}
use Rattle.gate_steps.specs.{call_events.{Grown.HasSeen, SeatedTasks.{own_number, own_view}, Stepped.ToldIn}, declared.seating.Numbered.Numbered}
use Rattle.gate_transitions.specs.{Answers.phase_step, declared.steps.Step.Step}
use Rattle.gate_world.specs.{Headline.world_after, Views.{actions_after, phase_after, view_after_with_others}, Work.after_of}
use Rattle.gate_world.specs.{Worlds.{World, found_at, opening, run, value_at, words_after}, declared.{config.Config.Config, entries.Entry.Entry}}
use Rattle.gate_world.specs.declared.{entries.Entry.TheVariants.{Begins, Steps}, operations.Op.Op, views.View.View, work.Phase.Phase}
use Rattle.vfs_gates.proofs.call_laws.Blocked.{same_words}
use Rattle.program_replay.proofs.Still.{come, grows_on, view_stays, world_stays}

-- the state after an execution, from the one after an earlier one
later_world : (c : Config) (a b : List Entry) (p : IsPrefix a b) → world_after c b ≡ run c (world_after c a) p.0
later_world c a b p = ap (λ (l : List Entry). run c opening l) p.1 ∙ run_append c a p.0 opening

-- what goes on takes no number back
pub come_on : (c : Config) (a b : List Entry) → IsPrefix a b → (n : ℕ) → come ((world_after c a).views n) ≤ come ((world_after c b).views n)
come_on c a b p n =
    subst (λ (x : World). come ((world_after c a).views n) ≤ come (x.views n)) (sym (later_world c a b p)) (grows_on c p.0 (world_after c a) n)

-- who has come no further stands as it did
pub view_on : (c : Config) (a b : List Entry) → IsPrefix a b → (n : ℕ) → come ((world_after c b).views n) ≤ come ((world_after c a).views n) →
    (world_after c b).views n ≡ (world_after c a).views n
view_on c a b p n no_more =
    ap (λ (x : World). x.views n) (later_world c a b p) ∙
    view_stays c p.0 (world_after c a) n
    (subst (λ (x : World). come (x.views n) ≤ come ((world_after c a).views n)) (later_world c a b p) no_more)

-- where no task has, the state is the same
pub world_on : (c : Config) (a b : List Entry) → IsPrefix a b →
    ((n : ℕ) → n < c.tasks → come ((world_after c b).views n) ≤ come ((world_after c a).views n)) → world_after c b ≡ world_after c a
world_on c a b p no_more =
    later_world c a b p ∙
    world_stays c p.0 (world_after c a) (λ n lt.
    subst (λ (x : World). come (x.views n) ≤ come ((world_after c a).views n)) (later_world c a b p) (no_more n lt))

-- The step was that of the phase after an execution that goes on from all that the task had seen, and in which the task stood as it knew. It has
-- made the one that the task has seen since, in which it stands as it knows now.
pub record StepRead (c : Config) (phase : Phase) (hook : HookAnswer) (items after : DealtNumbers) (seen left : List (List Entry)) (done : Step) : Type 0
  where
    pub past : List Entry
    pub goes_on : (earlier : List Entry) → HasSeen earlier seen → IsPrefix earlier past
    pub stood_phase : ((world_after c past).views (own_number items)).phase ≡ (own_view items).phase
    pub stood_events : ((world_after c past).views (own_number items)).events ≡ (own_view items).events
    pub now : List Entry
    pub further : IsPrefix past now
    pub leaves : left ≡ now ∷ []
    pub words : (world_after c now).words ≡ words_after (world_after c past).words phase hook
    pub stands_phase : ((world_after c now).views (own_number items)).phase ≡ (own_view after).phase
    pub stands_events : ((world_after c now).views (own_number items)).events ≡ (own_view after).events
    pub told : done ≡ phase_step (world_after c past) hook (Some phase)
    pub comes : (own_view after).phase ≡ phase_after (after_of phase (found_at (world_after c past).words phase hook) hook).0
    pub actions : (own_view after).actions ≡
        actions_after (after_of phase (found_at (world_after c past).words phase hook) hook).1 (own_view items).actions
    pub there : 1 ≤ length after
    pub number : own_number after ≡ own_number items

begins_on : (t : ℕ) (begins : Option Op) (entries : List Entry) → IsPrefix entries (then_begins t begins entries)
begins_on t None entries = only_seen entries
begins_on t (Some op) entries = (Begins t op ∷ [], refl)

pub step_read : (c : Config) (begins : Option Op) (phase : Phase) (hook : HookAnswer) (items : DealtNumbers) (found : ℕ) (seen left : List (List Entry))
    (m : HasWitness c begins phase hook items found seen left) (done : Step) → ToldIn c begins phase hook found items seen left m done →
    StepRead c phase hook items (items_after begins phase hook found items) seen left done
step_read c begins phase hook [] found seen left m done told = absurd m
step_read c begins phase hook (x ∷ xs) found seen left m done told =
    let past : List Entry = m.past.reached.entries in
    let now : List Entry = m.history.reached.entries in
    let inside : World = world_entered c m.world x.number begins in
    let after : World = world_left c m.world begins phase hook x.number xs in
    let y : Numbered = numbered x.number (view_after_with_others (done_by xs) (entered x.view begins phase) phase found hook) in
    let begun = begins_on x.number begins past in
    let same : inside.words ≡ (world_after c past).words = same_words c m.world x.number begins ∙ sym m.past.reached.words in
    let came : View = view_after_with_others (done_by xs) (inside.views x.number) phase (value_at inside.words phase hook) hook in
    let is : y.view ≡ came = sym (m.left 0 y refl) ∙ update_at inside.views x.number came in
    record {
      past = past;
      goes_on = λ earlier h. after_more earlier h.1 past h.3 (m.from.goes_on h.0 h.1 h.2);
      stood_phase = (m.past.reached.views x.number).phase ∙ ap (λ (v : View). v.phase) (m.mine 0 x refl);
      stood_events = (m.past.reached.views x.number).events ∙ ap (λ (v : View). v.events) (m.mine 0 x refl);
      now = now;
      further = after_more past m.reached.entries now (begun.0, m.begun ∙ begun.1) (Steps x.number hook ∷ [], m.stepped);
      leaves = m.leaves;
      words = m.history.reached.words ∙ ap (λ (ws : Words). words_after ws phase hook) same;
      stands_phase = (m.history.reached.views x.number).phase ∙ ap (λ (v : View). v.phase) (m.left 0 y refl);
      stands_events = (m.history.reached.views x.number).events ∙ ap (λ (v : View). v.events) (m.left 0 y refl);
      told = told ∙ ap (λ (ws : Words). phase_step (record { words = ws; views = m.world.views }) hook (Some phase)) (sym m.past.reached.words);
      comes = ap (λ (v : View). v.phase) is ∙ ap (λ (ws : Words). phase_after (after_of phase (found_at ws phase hook) hook).0) same;
      actions = ap (λ (v : View). v.actions) is ∙
          (ap (λ (ws : Words). actions_after (after_of phase (found_at ws phase hook) hook).1 (inside.views x.number).actions) same ∙
          ap (actions_after (after_of phase (found_at (world_after c past).words phase hook) hook).1)
          (ap (λ (v : View). v.actions) m.stands ∙ entered_actions x.view begins phase));
      there = omega arith;
      number = refl;
    }
