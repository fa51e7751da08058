-- The steps of a freeze on the words of a level that it closes.
use Rattle.gate_schedules.proofs.Prelude.{Action, Apart, Bool, CleanBelow, Clearing, Config, DownWrite, DownWriteStep, Fits, Freeze, FreezeStep}
use Rattle.gate_schedules.proofs.Prelude.{Freezing, Holdings, Holds, HookAnswer, IsGood, IsWithin, Next, Ok, Option, Phase, Reply, Some, StageEvent}
use Rattle.gate_schedules.proofs.Prelude.{Sum, SyncWord, Transition, TransitionNext, Tree, View, ViewFits, Words, World, actions_after, added_by}
use Rattle.gate_schedules.proofs.Prelude.{after_closing, ap, arith, at_down_write, at_freeze, cases_Bool, closed_to, common_steps, down_write_after}
use Rattle.gate_schedules.proofs.Prelude.{down_write_next, eq-eqb, false, found_by, freeze_stage_role, held_of, holder_role_of, holdings_of}
use Rattle.gate_schedules.proofs.Prelude.{holds_level, if◌then◌else◌, inl, inr, left, level_added_by, level_taken_by, map_next, marks_of}
use Rattle.gate_schedules.proofs.Prelude.{model_limits, nat_lt, on_callback, on_enter, owns, phase_after, playing, put, read, refl, shown}
use Rattle.gate_schedules.proofs.Prelude.{stage_role_of, state_after, subst, sym, taken_by, total, total_at, transition_after, tree_role_of}
use Rattle.gate_schedules.proofs.Prelude.{tree_roles, true, true≢false, unpack, update, view_with, ℕ, ◌<◌, ◌==◌, ◌∙◌, ◌≡◌, ◌≤◌, ◌⊎◌}
use Rattle.cpu_words.specs.{Sums.sum_taking, declared.sums.Taken.Taken}
use Rattle.freeze_laws.proofs.stages.Facts.{at_level}
use Rattle.freeze_laws.specs.stages.Events.{Happens, Passes, SetsBlock as SetsBlockStage, Stays, action_of as stage_action_of}
use Rattle.freeze_laws.specs.stages.Roles.{Before, Closing, HasPassed, Place, bit, has_position, owns as stage_owns}
use Rattle.{freeze_levels.specs.Freezes.{closing_waits, level_closed}, gate_world.specs.Roles.{freeze_holder_role, place_of}}
use Rattle.{gated_tree.specs.Roles.Out as OffTree, node_words.{proofs.ClearedMarks.directory_clean, specs.Nodes.IsNode}}
use Rattle.percpu_rwsem.specs.{Graces.looked, Writers.{callback_step, down_write_summed, enter_step, passed_awaited, sections_awaited, sum_begun}}
use Rattle.percpu_rwsem.specs.declared.grace.GraceNext.{GraceNext}
use Rattle.gate_schedules.proofs.frames.{Accesses.holdings_of_after, ByPhase.freeze_owner, OperationLaws.by_bool, Stages.{IsStageEvent, stages_in}}
use Rattle.gate_schedules.proofs.levels.DownWrite.{down_write_levels, entered_by_nobody, passes_finds_nobody, swap_finds_clear}
use Rattle.gate_schedules.proofs.levels.LevelPositions.{HasPosition, LevelsHold, closing_position, left_world, position_after_closing}
use Rattle.gate_schedules.proofs.operations.freeze.Fits.{freeze_goes}
use Rattle.gate_schedules.proofs.operations.freeze.Stages.{FitsHere, IsHere, Keeps, freeze_stands, here_fits, here_stands, here_tree, here_writes}
use Rattle.gate_schedules.proofs.{trees.worlds.Trees.shown_clean, writers.Parts.{AsksWhere, LeavesRest, WriterLaw, down_write_comes, freeze_comes}}
use Rattle.gate_schedules.proofs.writers.{Stages.{none_leaves, still_plays}, Words.{down_write_adds, down_write_counts_none, down_write_words}}
use Rattle.gate_schedules.proofs.writers.Words.{pass_leaves, tree_begins, tree_beside, writer_at_level}

-- once level 2 is passed the clearing of marks begins at node 1
abbrev clean_from : ℕ → ℕ
clean_from level = if level == 2 then 1 else 0

-- what comes after a step of a down-write is the same one, at a program point of this place
abbrev IsAtPlace : DownWrite → Place → Next DownWrite → Type 0
IsAtPlace d p (Next.Go x) = (x.level ≡ d.level) × (place_of x.step ≡ p)
IsAtPlace d p (Next.Wait x) = (x.level ≡ d.level) × (place_of x.step ≡ p)
IsAtPlace d p (Next.Done answer) = ⊥

-- until its swap it is before that
enter_place : (tasks : ℕ) (n : TransitionNext) → place_of (enter_step tasks n) ≡ Before
enter_place tasks n = grind arith

callback_place : (n : TransitionNext) → place_of (callback_step n) ≡ Before
callback_place n = grind arith

sections_place : (d : DownWrite) (n : GraceNext) → IsAtPlace d Before (sections_awaited d n)
sections_place d n = grind arith

passed_place : (d : DownWrite) (o : Option SyncWord) → IsAtPlace d Before (passed_awaited d o)
passed_place d o = grind arith

-- and once the level is closed
closed_role : (x : Freeze) (level : ℕ) → 1 ≤ level → level ≤ 3 →
    freeze_stage_role x.nodes (level_closed level x.nodes) ≡ Freezing level (HasPassed (clean_from level)) (nat_lt 1 level)
closed_role x level = at_level
    (λ i. freeze_stage_role x.nodes (level_closed i x.nodes) ≡ Freezing i (HasPassed (clean_from i)) (nat_lt 1 i)) (refl, refl, refl) level

-- how it stands with the levels then
closed_stands : (x : Freeze) (level : ℕ) → 1 ≤ level → level ≤ 3 →
    HasPosition (Some (Phase.Freezes (at_freeze x (level_closed level x.nodes)))) (Some (closed_to level))
closed_stands x level = grind arith

-- `block` is set where the swap found it clear
swapped_role : (x : Freeze) (d : DownWrite) (b : Bool) → b ≡ true →
    stage_role_of (phase_after (map_next Phase.Freezes (after_closing x d.level
    (if b then Next.Go (at_down_write d sum_begun) else Next.Wait (at_down_write d DownWriteStep.SetsBlock))))) ≡ Freezing d.level Closing (nat_lt 1 d.level)
swapped_role x d true h = refl
swapped_role x d false h = absurd (true≢false (sym h))

-- the step of the stage that comes with a word more of the sum: with the last one of a sum of 0 the level is passed
abbrev sum_kind : DownWrite → Taken → StageEvent
sum_kind d (Taken.More sum) = Stays
sum_kind d (Taken.Total total) = if total == 0 then Passes d.level (clean_from d.level) (nat_lt 1 d.level) else Stays

closed_apart : (level nodes : ℕ) → freeze_holder_role (level_closed level nodes) ≡ Apart
closed_apart level nodes = grind arith

-- what is so of a freeze that closes a level and of one that waits at it is so of one whose down-write waits
pub by_wait : (P : FreezeStep → Type 0) (d : DownWrite) (s : DownWriteStep) → P (FreezeStep.Closes d) → P (FreezeStep.Waits d) → P (closing_waits d s)
by_wait P d s goes waits = grind arith

-- how a freeze stands with the levels after a step of a down-write
pub after_closing_stands : (x : Freeze) (d : DownWrite) → 1 ≤ d.level → d.level ≤ 3 → (found : ℕ) →
    HasPosition (phase_after (map_next Phase.Freezes (after_closing x d.level (down_write_after d d.step found).0)))
    (position_after_closing d.level (down_write_after d d.step found).0)
after_closing_stands x d low high found =
    down_write_comes d (λ n. HasPosition (phase_after (map_next Phase.Freezes (after_closing x d.level n))) (position_after_closing d.level n))
    (λ s. freeze_stands (at_freeze x (FreezeStep.Closes (at_down_write d s))))
    (λ s. by_wait (λ z. HasPosition (Some (Phase.Freezes (at_freeze x z))) (Some (closing_position (at_down_write d s)))) (at_down_write d s) s
    (freeze_stands (at_freeze x (FreezeStep.Closes (at_down_write d s)))) (freeze_stands (at_freeze x (FreezeStep.Waits (at_down_write d s)))))
    (closed_stands x d.level low high) d.step found

module _ (c : Config) (lim : IsWithin c) (w : World) (good : IsGood c w) (t : ℕ) (lt : t < c.tasks) (x : Freeze) (hook : HookAnswer) where
  root_clean : (level : ℕ) → 1 ≤ level → level ≤ 3 → CleanBelow (clean_from level) (marks_of w.words)
  root_clean level low high m l =
      let at_most : clean_from level ≤ 1 = at_level (λ i. clean_from i ≤ 1) (omega arith, omega arith, omega arith) level low high in
      let zero_is : m ≡ 0 = omega (arith, l, at_most) in
      let there : IsNode (w.words.node 0) = (good Tree).words 0 (omega (arith, lim.some_node)) in
      ap (marks_of w.words) zero_is ∙
      shown_clean (w.words.node 0) there.packed.free (directory_clean (w.words.node 0) there (good Tree).root)

  -- what the last load of a sum is of the stage
  sum_happens : (d : DownWrite) → stage_role_of (w.views t).phase ≡ Freezing d.level Closing (nat_lt 1 d.level) → 1 ≤ d.level →
      d.level ≤ 3 → (n : Taken) →
      Happens c.tasks c.nodes t (stages_in w) (playing (stages_in w) t
      (stage_role_of (phase_after (map_next Phase.Freezes (after_closing x d.level (down_write_summed d n).0))))) (sum_kind d n)
  sum_happens d role low high (Taken.More sum) = still_plays c w good t lt (sym role)
  sum_happens d role low high (Taken.Total sum) =
      by_bool (sum == 0) (λ b. Happens c.tasks c.nodes t (stages_in w) (playing (stages_in w) t
      (stage_role_of (phase_after (map_next Phase.Freezes (after_closing x d.level
      (if b then Next.Done (Ok Reply.Unit) else Next.Wait (at_down_write d sum_begun)))))))
      (if b then Passes d.level (clean_from d.level) (nat_lt 1 d.level) else Stays))
      (role, root_clean d.level low high, ap (playing (stages_in w) t) (closed_role x d.level low high))
      (still_plays c w good t lt (sym role))

  sum_adds : (d : DownWrite) (n : Taken) → stage_action_of (sum_kind d n) (stages_in w) ≡ (down_write_summed d n).1
  sum_adds d n = grind arith

  sum_asks : (d : DownWrite) (n : Taken) →
      ((j : ℕ) → (down_write_summed d n).1 ≡ Some (Action.Pass j) → (y : ℕ) → y < c.tasks → holds_level (w.views y) d.level ≡ false) →
      AsksWhere (model_limits c) (shown c w) (down_write_summed d n).1
  sum_asks d n h = grind arith

  module _ (d : DownWrite) (e : IsHere c lim w good t lt x (FreezeStep.Closes d)) where
    -- the words after its step
    abbrev words_then : Words
    words_then = put w.words (down_write_next d d.step).0 (left (down_write_next d d.step).1 (read w.words (down_write_next d d.step).0))

    -- what it found
    abbrev found_here : ℕ
    found_here = found_by (down_write_next d d.step).1 (read w.words (down_write_next d d.step).0)

    -- what comes after it
    abbrev next_here : Next DownWrite
    next_here = (down_write_after d d.step found_here).0

    -- what it adds
    abbrev adds_here : Option Action
    adds_here = (down_write_after d d.step found_here).1

    -- and its task's view then
    abbrev view_then : View
    view_then = view_with (w.views t) (down_write_next d d.step) (read w.words (down_write_next d d.step).0) hook
        (map_next Phase.Freezes (after_closing x d.level next_here), adds_here)

    -- its step fits before it
    fits_now : FitsHere c lim w good t lt x (FreezeStep.Closes d)
    fits_now = here_fits c lim w good t lt x (FreezeStep.Closes d) e

    holdings_stay : held_of view_then ≡ held_of (w.views t)
    holdings_stay =
        down_write_adds d (λ a. holdings_of (actions_after a (w.views t).actions) ≡ held_of (w.views t)) refl refl d.step found_here

    fits_then : ViewFits c t view_then
    fits_then =
        subst (λ h. Fits c t h view_then.phase) (sym (holdings_of_after adds_here (w.views t).actions))
        (freeze_goes c lim t (held_of (w.views t)) x (FreezeStep.Closes d) found_here hook fits_now)

    owns_then : owns view_then.phase ≡ bit (nat_lt 1 d.level)
    owns_then =
        down_write_comes d (λ n. owns (phase_after (map_next Phase.Freezes (after_closing x d.level n))) ≡ bit (nat_lt 1 d.level))
        (λ s. refl)
        (λ s. by_wait (λ z. owns (Some (Phase.Freezes (at_freeze x z))) ≡ bit (nat_lt 1 d.level)) (at_down_write d s) s refl refl)
        (sym (freeze_owner x.nodes (level_closed d.level x.nodes)) ∙
        ap stage_owns (closed_role x d.level fits_now.5.0 fits_now.5.1)) d.step found_here

    -- how it stands with the levels
    pub stands_then : HasPosition view_then.phase (position_after_closing d.level next_here)
    stands_then = after_closing_stands x d fits_now.5.0 fits_now.5.1 found_here

    -- what is left of the levels
    levels_then : LevelsHold c (left_world w t words_then view_then)
    levels_then =
        down_write_levels c lim w good t lt d view_then
        (record {
          held_same = ap (λ (h : Holdings). h.levels) holdings_stay;
          added_same = (down_write_counts_none d d.step (level_added_by (w.views t).events)).2;
          taken_same = (down_write_counts_none d d.step (level_taken_by (w.views t).events)).3;
        })
        fits_now.5 (here_stands c lim w good t lt x (FreezeStep.Closes d) e) stands_then
        (entered_by_nobody c w good t lt (ap (λ p. has_position (stage_role_of p)) e) d.level)

    -- what it does at the tree: nothing, or it begins to clear marks
    tree_role_then : (tree_role_of view_then.trace view_then.phase ≡ OffTree) ⊎ (tree_role_of view_then.trace view_then.phase ≡ Clearing 1)
    tree_role_then = grind arith

    -- what is left of the tree
    tree_left : Holds c (left_world w t words_then view_then) Tree
    tree_left =
        let was : tree_roles w t ≡ OffTree = here_tree c lim w good t lt x (FreezeStep.Closes d) e in
        elim tree_role_then [
          | inl now ↦ tree_beside c w good t lt words_then view_then (down_write_words w.words d d.step) (now ∙ sym was)
          | inr now ↦ tree_begins c w good t lt words_then view_then lim (down_write_words w.words d d.step) was now
        ]

    -- so its step keeps the invariant, where it is this step of the stage
    closing_law : (kind : StageEvent) → IsStageEvent c w good t lt words_then view_then kind →
        stage_action_of kind (stages_in w) ≡ adds_here → AsksWhere (model_limits c) (shown c w) adds_here →
        WriterLaw c w t words_then view_then adds_here
    closing_law kind happens adds asks =
        writer_at_level c w good t lt words_then view_then adds_here kind (here_writes c lim w good t lt x (FreezeStep.Closes d) e)
        (freeze_comes (after_closing x d.level next_here)) (down_write_words w.words d d.step)
        (record {
          held_same = holdings_stay;
          added_same = (down_write_counts_none d d.step (added_by (w.views t).events)).0;
          taken_same = (down_write_counts_none d d.step (taken_by (w.views t).events)).1;
        })
        fits_then (owns_then ∙ sym (ap owns e)) levels_then tree_left happens adds asks
        (down_write_adds d (λ a. LeavesRest (shown c w) (state_after (shown c w) t a) (shown c w).tree (shown c w).holders)
        (none_leaves c w good t lt) (pass_leaves (shown c w) t d.level) d.step found_here)
        (down_write_comes d (λ n. holder_role_of (phase_after (map_next Phase.Freezes (after_closing x d.level n))) ≡ Apart) (λ s. refl)
        (λ s. by_wait (λ z. holder_role_of (Some (Phase.Freezes (at_freeze x z))) ≡ Apart) (at_down_write d s) s refl refl)
        (closed_apart d.level x.nodes) d.step found_here ∙ sym (ap holder_role_of e))

    closing_stays : (words_then.block ≡ w.words.block) → (p : Place) → place_of d.step ≡ p → IsAtPlace d p next_here →
        IsStageEvent c w good t lt words_then view_then Stays
    closing_stays block p was now = grind (arith, common_steps)

    nobody_inside : (j : ℕ) → adds_here ≡ Some (Action.Pass j) → (y : ℕ) → y < c.tasks → holds_level (w.views y) d.level ≡ false
    nobody_inside j is y ly =
        let none : total c.tasks (λ z. if holds_level (w.views z) d.level then 1 else 0) ≡ 0 =
        passes_finds_nobody c lim w good t lt d fits_now.5 (here_stands c lim w good t lt x (FreezeStep.Closes d) e) j is in
        elim (cases_Bool (holds_level (w.views y) d.level)) [
          | inl h ↦
              let one : ◌≡◌ {A = ℕ} (if holds_level (w.views y) d.level then 1 else 0) 1 = rw h refl in
              absurd (omega (arith, one, none, total_at c.tasks y (λ z. if holds_level (w.views z) d.level then 1 else 0) ly))
          | inr h ↦ h
        ]

  -- the swap, which finds `block` clear
  sets_block : (d : DownWrite) → IsHere c lim w good t lt x (FreezeStep.Closes (at_down_write d DownWriteStep.SetsBlock)) →
      Keeps c lim w good t lt x hook (FreezeStep.Closes (at_down_write d DownWriteStep.SetsBlock))
  sets_block d e =
      let y : DownWrite = at_down_write d DownWriteStep.SetsBlock in
      let f : FitsHere c lim w good t lt x (FreezeStep.Closes y) = here_fits c lim w good t lt x (FreezeStep.Closes y) e in
      let clear : w.words.block d.level ≡ 0 =
      swap_finds_clear c lim w good t lt d f.5.0 f.5.1 (here_stands c lim w good t lt x (FreezeStep.Closes y) e) in
      let role : stage_role_of (view_then y e).phase ≡ Freezing d.level Closing (nat_lt 1 d.level) =
      swapped_role x y (w.words.block d.level == 0) (eq-eqb (w.words.block d.level) 0 clear) in
      closing_law y e (SetsBlockStage d.level (nat_lt 1 d.level))
      (ap stage_role_of e, ap (playing (record (stages_in w) { block = update w.words.block d.level 1 }) t) role) refl tt

  -- a load of a count of the level
  sums_level : (d : DownWrite) (sum : Sum) → IsHere c lim w good t lt x (FreezeStep.Closes (at_down_write d (DownWriteStep.Sums sum))) →
      Keeps c lim w good t lt x hook (FreezeStep.Closes (at_down_write d (DownWriteStep.Sums sum)))
  sums_level d sum e =
      let y : DownWrite = at_down_write d (DownWriteStep.Sums sum) in
      let n : Taken = sum_taking sum (w.words.level d.level sum.words) d.processors in
      let f : FitsHere c lim w good t lt x (FreezeStep.Closes y) = here_fits c lim w good t lt x (FreezeStep.Closes y) e in
      closing_law y e (sum_kind y n)
      (sum_happens y (ap stage_role_of e) f.5.0 f.5.1 n)
      (sum_adds y n)
      (sum_asks y n (nobody_inside y e))

  -- each step of the closing of a level
  pub closes : (d : DownWrite) (s : DownWriteStep) → IsHere c lim w good t lt x (FreezeStep.Closes (at_down_write d s)) →
      Keeps c lim w good t lt x hook (FreezeStep.Closes (at_down_write d s))
  closes d (DownWriteStep.Enters Transition.Loads) e =
      let y : DownWrite = at_down_write d (DownWriteStep.Enters Transition.Loads) in
      closing_law y e Stays
      (closing_stays y e refl Before refl (refl, enter_place d.tasks (transition_after on_enter Transition.Loads (w.words.sync d.level)))) refl tt
  closes d (DownWriteStep.Enters (Transition.Exchanges from to)) e =
      let y : DownWrite = at_down_write d (DownWriteStep.Enters (Transition.Exchanges from to)) in
      closing_law y e Stays
      (closing_stays y e refl Before refl
      (refl, enter_place d.tasks (transition_after on_enter (Transition.Exchanges from to) (w.words.sync d.level)))) refl tt
  closes d (DownWriteStep.AwaitsSections grace) e =
      let y : DownWrite = at_down_write d (DownWriteStep.AwaitsSections grace) in
      closing_law y e Stays (closing_stays y e refl Before refl (sections_place y (looked grace (w.words.section grace.task)))) refl tt
  closes d (DownWriteStep.CallsBack Transition.Loads) e =
      let y : DownWrite = at_down_write d (DownWriteStep.CallsBack Transition.Loads) in
      closing_law y e Stays
      (closing_stays y e refl Before refl (refl, callback_place (transition_after on_callback Transition.Loads (w.words.sync d.level)))) refl tt
  closes d (DownWriteStep.CallsBack (Transition.Exchanges from to)) e =
      let y : DownWrite = at_down_write d (DownWriteStep.CallsBack (Transition.Exchanges from to)) in
      closing_law y e Stays
      (closing_stays y e refl Before refl (refl, callback_place (transition_after on_callback (Transition.Exchanges from to) (w.words.sync d.level))))
      refl tt
  closes d DownWriteStep.AwaitsPassed e =
      let y : DownWrite = at_down_write d DownWriteStep.AwaitsPassed in
      closing_law y e Stays (closing_stays y e refl Before refl (passed_place y (unpack (w.words.sync d.level)))) refl tt
  closes d DownWriteStep.SetsBlock e = sets_block d e
  closes d (DownWriteStep.Sums sum) e = sums_level d sum e
