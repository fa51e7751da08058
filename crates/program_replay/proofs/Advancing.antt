-- After a step of one task, and after all have met, the gates show the state that the step's transition makes.
use Rattle.std.proofs.Common.{List, Option, Some, [], ap, arith, inl, inr, length, refl, slice_index_or, slice_set, subst, sym, ℕ, ◌<◌, ◌∙◌, ◌∷◌, ◌≡◌}
use Rattle.std.proofs.{Common.{◌≢◌, ◌≤◌}, Math.ListN.length-set, lemmas.{Bool.{Decides.eqb_tells, lt-ltb}, List.get_or_default}}
use Rattle.cpu_words.{proofs.Places.written, specs.{Hooks.HookAnswer, Names.{IsWord, place}, Touches.{event_of, found_by, left}, Words.{Words, read}}}
use Rattle.cpu_words.specs.declared.events.Event.{Event}
use Rattle.finite_sums.proofs.Totals.{update_at, update_off}
use Rattle.gate_schedules.proofs.{frames.{Accesses.holdings_of_after, Places.are_few}, schedules.Phases.{fits_after, word_placed, word_there}}
use Rattle.gate_steps.{proofs.call_events.Grown.{after_more, only_seen}, specs.Seating.{DealtNumbers, HasWitness, IsPrefix, items_after}}
use Rattle.gate_steps.specs.call_events.{Grown.HasSeen, Stepped.Stepped}
use Rattle.gate_transitions.specs.{Answers.{phase_step, step_answer}, declared.steps.Step.Step}
use Rattle.gate_world.specs.{Configs.extents_kept, Fits.{Fits, PhaseFits}, Headline.world_after, Holdings.{held_after, holdings_of}}
use Rattle.gate_world.specs.{Views.{actions_after, held_of, phase_after, view_after}, Work.{after_of, next_of}}
use Rattle.gate_world.specs.{Worlds.{World, after_step, found_at, happens, value_at, words_after}, declared.config.Config.Config}
use Rattle.gate_world.specs.declared.{entries.Entry.{Entry, TheVariants.Steps}, operations.Op.Op, views.View.View, work.Phase.Phase}
use Rattle.vfs_gates.specs.TaskStates.{SeatedTask, own_number, own_view}
use Rattle.program_replay.proofs.{Reading.{StepRead, come_on, step_read, view_on, world_on}, Still.{come, under_way}}
use Rattle.program_replay.specs.{Shown.{IsShown, TasksShow}, Standing.{AreGathered, Stands, StandsLater}}

-- who is at the same phase after the same steps has come as far
come_same : (v u : View) → v.phase ≡ u.phase → v.events ≡ u.events → come v ≡ come u
come_same v u phases events =
    let one : under_way v.phase ≡ under_way u.phase = ap under_way phases in
    let two : length v.events ≡ length u.events = ap length events in
    omega (arith, one, two)

-- of a task of this configuration
read_there : (c : Config) (phase : Phase) (hook : HookAnswer) (old mid : SeatedTask) (done : Step) → old.config ≡ c → Stepped phase hook old done mid →
    StepRead c phase hook old.items mid.items old.seen mid.seen done
read_there c phase hook old mid done config s =
    let its : StepRead old.config phase hook old.items mid.items old.seen mid.seen done =
    subst (λ (l : DealtNumbers). StepRead old.config phase hook old.items l old.seen mid.seen done)
    (sym (ap (λ (x : SeatedTask). x.items) s.new))
    (step_read old.config old.begins phase hook old.items s.found old.seen mid.seen s.moves done s.told) in
    subst (λ (k : Config). StepRead k phase hook old.items mid.items old.seen mid.seen done) config its

-- the phase of a task after a step is that of its view
phase_came : (c : Config) (begins : Option Op) (phase : Phase) (hook : HookAnswer) (items : DealtNumbers) (found : ℕ) (seen left : List (List Entry)) →
    HasWitness c begins phase hook items found seen left →
    phase_after (after_of phase (found_by (next_of phase hook).1 found) hook).0 ≡ (own_view (items_after begins phase hook found items)).phase
phase_came c begins phase hook [] found seen left m = absurd m
phase_came c begins phase hook (x ∷ xs) found seen left m = refl

own_phase : (phase : Phase) (hook : HookAnswer) (old mid : SeatedTask) (done : Step) → Stepped phase hook old done mid →
    mid.phase ≡ (own_view mid.items).phase
own_phase phase hook old mid done s =
    ap (λ (x : SeatedTask). x.phase) s.new ∙
    (phase_came old.config old.begins phase hook old.items s.found old.seen mid.seen s.moves ∙
    sym (ap (λ (x : SeatedTask). (own_view x.items).phase) s.new))

module _ (c : Config) (w : World) (old mid new : List SeatedTask) (list : List ℕ) (shows : TasksShow old list c w)
    (t : ℕ) (lt : t < c.tasks) (phase : Phase) (hook : HookAnswer) (done : Step) (d : SeatedTask)
    (at : (slice_index_or old t d).phase ≡ Some phase)
    (stepped : Stepped phase hook (slice_index_or old t d) done (slice_index_or mid t d))
    (others : (k : ℕ) → k ≢ t → slice_index_or mid k d ≡ slice_index_or old k d)
    (count : length mid ≡ length old) (gathered : AreGathered t mid new) where
  abbrev first : ℕ → SeatedTask
  first k = slice_index_or old k d

  abbrev then : ℕ → SeatedTask
  then k = slice_index_or mid k d

  abbrev last : ℕ → SeatedTask
  last k = slice_index_or new k d

  was : (k : ℕ) → k < c.tasks → IsShown c shows.entries w k (first k)
  was k lk = shows.shown k d lk

  within_mid : (k : ℕ) → k < c.tasks → k < length mid
  within_mid k lk = let many = shows.count in omega (arith, many)

  read_of : StepRead c phase hook (first t).items (then t).items (first t).seen (then t).seen done
  read_of = read_there c phase hook (first t) (then t) done (was t lt).config stepped

  before : IsPrefix shows.entries read_of.past
  before = read_of.goes_on shows.entries (was t lt).seen

  saw : HasSeen read_of.now (then t).seen
  saw = subst (HasSeen read_of.now) (sym read_of.leaves) (0, read_of.now, refl, only_seen read_of.now)

  seen_last : (k : ℕ) → k < c.tasks → HasSeen read_of.now (last k).seen
  seen_last k lk = gathered.seen read_of.now d saw k d (within_mid k lk)

  same_last : (k : ℕ) → k < c.tasks → last k ≡ record (then k) { seen = (last k).seen }
  same_last k lk = gathered.same k d (within_mid k lk)

  -- how far a task has come that did not step, in each state from the first to one after the step
  rests : (k : ℕ) → k < c.tasks → k ≢ t → (es : List Entry) → IsPrefix es read_of.now →
      come ((world_after c es).views k) ≤ come ((world_after c shows.entries).views k)
  rests k lk ne es on =
      let s : SeatedTask = first k in
      let kept : then k ≡ s = others k ne in
      let some : 1 ≤ length (then k).items = subst (λ (x : SeatedTask). 1 ≤ length x.items) (sym kept) (was k lk).there in
      let later : StandsLater read_of.now (last k) = gathered.stands read_of.now d saw k d (within_mid k lk) ne some in
      let items : (last k).items ≡ s.items = ap (λ (x : SeatedTask). x.items) (same_last k lk) ∙ ap (λ (x : SeatedTask). x.items) kept in
      let config : (last k).config ≡ c = ap (λ (x : SeatedTask). x.config) (same_last k lk) ∙ (ap (λ (x : SeatedTask). x.config) kept ∙ (was k lk).config) in
      let number : own_number (last k).items ≡ k = ap own_number items ∙ (was k lk).own in
      let there : Stands (world_after c later.later) k (last k) =
      subst (λ (n : ℕ). Stands (world_after c later.later) n (last k)) number
      (subst (λ (q : Config). Stands (world_after q later.later) (own_number (last k).items) (last k)) config later.stands) in
      let far : come ((world_after c later.later).views k) ≡ come (own_view (last k).items) =
      come_same ((world_after c later.later).views k) (own_view (last k).items) there.phase there.events in
      let near : come ((world_after c shows.entries).views k) ≡ come (own_view s.items) =
      come_same ((world_after c shows.entries).views k) (own_view s.items) (was k lk).stands.phase (was k lk).stands.events in
      let same : come (own_view (last k).items) ≡ come (own_view s.items) = ap (λ (l : DealtNumbers). come (own_view l)) items in
      let grown = come_on c es later.later (after_more es read_of.now later.later on later.goes_on) k in
      omega (arith, far, near, same, grown)

  own_rests : come ((world_after c read_of.past).views t) ≤ come ((world_after c shows.entries).views t)
  own_rests =
      let own : own_number (first t).items ≡ t = (was t lt).own in
      let here : come ((world_after c read_of.past).views (own_number (first t).items)) ≡ come (own_view (first t).items) =
      come_same ((world_after c read_of.past).views (own_number (first t).items)) (own_view (first t).items) read_of.stood_phase read_of.stood_events in
      let there : come ((world_after c read_of.past).views t) ≡ come (own_view (first t).items) =
      subst (λ (n : ℕ). come ((world_after c read_of.past).views n) ≡ come (own_view (first t).items)) own here in
      let near : come ((world_after c shows.entries).views t) ≡ come (own_view (first t).items) =
      come_same ((world_after c shows.entries).views t) (own_view (first t).items) (was t lt).stands.phase (was t lt).stands.events in
      omega (arith, there, near)

  -- the state of the step is that of the tasks
  same_past : world_after c read_of.past ≡ world_after c shows.entries
  same_past = world_on c shows.entries read_of.past before (λ n ln. elim (eqb_tells n t) [
    | inl is ↦ subst (λ (k : ℕ). come ((world_after c read_of.past).views k) ≤ come ((world_after c shows.entries).views k)) (sym is.1) own_rests
    | inr ne ↦ rests n ln ne.1 read_of.past read_of.further
  ])

  same_words : (world_after c read_of.past).words ≡ w.words
  same_words = ap (λ (x : World). x.words) same_past ∙ sym shows.words

  view_there : (w.views t).phase ≡ Some phase
  view_there = (was t lt).phase ∙ at

  next_is : happens c w (Steps t hook) ≡ after_step w t phase hook
  next_is = rw (lt-ltb t c.tasks lt, view_there) refl

  told : done ≡ phase_step w hook (Some phase)
  told = read_of.told ∙ ap (λ (ws : Words). phase_step (record { words = ws; views = w.views }) hook (Some phase)) same_words

  pub step_answered : done ≡ step_answer c w t hook
  step_answered = rw (lt-ltb t c.tasks lt, view_there) told

  abbrev own_after : View
  own_after = view_after (w.views t) phase (value_at w.words phase hook) hook

  abbrev next : World
  next = after_step w t phase hook

  phase_fits : PhaseFits c t (held_of (own_view (first t).items)) phase
  phase_fits = subst (Fits c t (held_of (own_view (first t).items))) at (was t lt).fits

  -- the task that stepped
  shown_own : IsShown c read_of.now next t (last t)
  shown_own =
      let items : (last t).items ≡ (then t).items = ap (λ (x : SeatedTask). x.items) (same_last t lt) in
      let own : own_number (first t).items ≡ t = (was t lt).own in
      let found : ℕ = found_at (world_after c read_of.past).words phase hook in
      let at_words : found ≡ found_at w.words phase hook = ap (λ (ws : Words). found_at ws phase hook) same_words in
      let came : (own_view (last t).items).phase ≡ phase_after (after_of phase found hook).0 =
      ap (λ (l : DealtNumbers). (own_view l).phase) items ∙ read_of.comes in
      let phases : (last t).phase ≡ phase_after (after_of phase found hook).0 =
      ap (λ (x : SeatedTask). x.phase) (same_last t lt) ∙ (own_phase phase hook (first t) (then t) done stepped ∙ read_of.comes) in
      let actions : (own_view (last t).items).actions ≡ actions_after (after_of phase found hook).1 (own_view (first t).items).actions =
      ap (λ (l : DealtNumbers). (own_view l).actions) items ∙ read_of.actions in
      let stands_there : Stands (world_after c read_of.now) t (last t) = record {
        phase = subst (λ (n : ℕ). ((world_after c read_of.now).views n).phase ≡ (own_view (last t).items).phase) own
            (read_of.stands_phase ∙ sym (ap (λ (l : DealtNumbers). (own_view l).phase) items));
        events = subst (λ (n : ℕ). ((world_after c read_of.now).views n).events ≡ (own_view (last t).items).events) own
            (read_of.stands_events ∙ sym (ap (λ (l : DealtNumbers). (own_view l).events) items));
      } in
      let held : held_of (own_view (last t).items) ≡ held_after (after_of phase found hook).1 (held_of (own_view (first t).items)) =
      ap holdings_of actions ∙ holdings_of_after (after_of phase found hook).1 (own_view (first t).items).actions in
      record {
        there = subst (λ (l : DealtNumbers). 1 ≤ length l) (sym items) read_of.there;
        own = ap own_number items ∙ (read_of.number ∙ own);
        config = ap (λ (x : SeatedTask). x.config) (same_last t lt) ∙ (ap (λ (x : SeatedTask). x.config) stepped.new ∙ (was t lt).config);
        seen = seen_last t lt;
        stands = stands_there;
        phase = ap (λ (v : View). v.phase) (update_at w.views t own_after) ∙
            (sym (ap (λ n. phase_after (after_of phase n hook).0) at_words) ∙ sym phases);
        actions = ap (λ (v : View). v.actions) (update_at w.views t own_after) ∙
            (ap (actions_after (after_of phase (found_at w.words phase hook) hook).1) (was t lt).actions ∙
            (sym (ap (λ n. actions_after (after_of phase n hook).1 (own_view (first t).items).actions) at_words) ∙ sym actions));
        fits = subst (λ h. Fits c t h (last t).phase) (sym held)
            (subst (Fits c t (held_after (after_of phase found hook).1 (held_of (own_view (first t).items)))) (sym phases)
            (fits_after c shows.within t (held_of (own_view (first t).items)) phase found hook phase_fits));
      }

  -- each other
  shown_other : (k : ℕ) → k < c.tasks → k ≢ t → IsShown c read_of.now next k (last k)
  shown_other k lk ne =
      let s : IsShown c shows.entries w k (first k) = was k lk in
      let kept : then k ≡ first k = others k ne in
      let items : (last k).items ≡ (first k).items = ap (λ (x : SeatedTask). x.items) (same_last k lk) ∙ ap (λ (x : SeatedTask). x.items) kept in
      let phases : (last k).phase ≡ (first k).phase = ap (λ (x : SeatedTask). x.phase) (same_last k lk) ∙ ap (λ (x : SeatedTask). x.phase) kept in
      let still : (world_after c read_of.now).views k ≡ (world_after c shows.entries).views k =
      view_on c shows.entries read_of.now (after_more shows.entries read_of.past read_of.now before read_of.further) k
      (rests k lk ne read_of.now (only_seen read_of.now)) in
      let view : next.views k ≡ w.views k = update_off w.views t own_after k ne in
      record {
        there = subst (λ (l : DealtNumbers). 1 ≤ length l) (sym items) s.there;
        own = ap own_number items ∙ s.own;
        config = ap (λ (x : SeatedTask). x.config) (same_last k lk) ∙ (ap (λ (x : SeatedTask). x.config) kept ∙ s.config);
        seen = seen_last k lk;
        stands = record {
          phase = ap (λ (v : View). v.phase) still ∙ (s.stands.phase ∙ sym (ap (λ (l : DealtNumbers). (own_view l).phase) items));
          events = ap (λ (v : View). v.events) still ∙ (s.stands.events ∙ sym (ap (λ (l : DealtNumbers). (own_view l).events) items));
        };
        phase = ap (λ (v : View). v.phase) view ∙ (s.phase ∙ sym phases);
        actions = ap (λ (v : View). v.actions) view ∙ (s.actions ∙ sym (ap (λ (l : DealtNumbers). (own_view l).actions) items));
        fits = subst (λ (l : DealtNumbers). Fits c k (held_of (own_view l)) (last k).phase) (sym items)
            (subst (Fits c k (held_of (own_view (first k).items))) (sym phases) s.fits);
      }

  shown_after : (k : ℕ) → k < c.tasks → IsShown c read_of.now next k (last k)
  shown_after k lk = elim (eqb_tells k t) [
    | inl is ↦ subst (λ (n : ℕ). IsShown c read_of.now next n (last n)) (sym is.1) shown_own
    | inr ne ↦ shown_other k lk ne.1
  ]

  module _ (event : Event) (its : done.event ≡ Some event) where
    event_is : event ≡ event_of (next_of phase hook).0 (next_of phase hook).1 (value_at w.words phase hook)
    event_is = let same : Some event ≡ Some (event_of (next_of phase hook).0 (next_of phase hook).1 (value_at w.words phase hook)) =
        sym its ∙ ap (λ (s : Step). s.event) told in cc

    inside : place (next_of phase hook).0 < length list
    inside =
        let long = shows.long in
        let placed = word_placed c shows.within t (held_of (own_view (first t).items)) (let most = shows.within.tasks in omega (arith, lt, most)) phase hook phase_fits in
        omega (arith, long, placed)

    pub step_shown : TasksShow new (slice_set list (place event.word) event.left) c (happens c w (Steps t hook))
    step_shown =
        let many : length new ≡ c.tasks = gathered.count ∙ (count ∙ shows.count) in
        subst (λ (x : World). TasksShow new (slice_set list (place event.word) event.left) c x) (sym next_is) (record {
          within = shows.within;
          count = many;
          long = length-set list (place event.word) event.left ∙ shows.long;
          entries = read_of.now;
          words = ap (λ (ws : Words). words_after ws phase hook) (sym same_words) ∙ sym read_of.words;
          shown = λ k e lk. subst (IsShown c read_of.now next k) (get_or_default new k d e (omega (arith, many, lk))) (shown_after k lk);
          listed = subst (λ (e : Event). (name : _) → IsWord (extents_kept c) name →
              slice_index_or (slice_set list (place e.word) e.left) (place name) 0 ≡ read next.words name) (sym event_is)
              (written (extents_kept c) (are_few c shows.within) (λ place. place) (λ i j q. q) list w.words (next_of phase hook).0
              (left (next_of phase hook).1 (value_at w.words phase hook)) inside
              (word_there c shows.within t (held_of (own_view (first t).items)) lt phase hook phase_fits) shows.listed);
        })
