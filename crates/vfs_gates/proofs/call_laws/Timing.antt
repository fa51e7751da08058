-- Whole calls in the order of time.
use Rattle.vfs_gates.proofs.Prelude.{Action, AreMoves, Bool, Called, Config, DealtNumbers, GateError, List, None, Numbered, Ok, Op, Option, Reply}
use Rattle.vfs_gates.proofs.Prelude.{Result, SeatedTask, Some, StaySeen, TakesEffect, Traced, TreeWords, View, [], actions_since, actions_so_far, ap}
use Rattle.vfs_gates.proofs.Prelude.{arith, call_effect, completed_by, done_by, get_elem?, last_snapshot, length, own_number, own_part, own_view}
use Rattle.vfs_gates.proofs.Prelude.{ran_items, ran_snapshot, refl, some, spare_of, state_of_trace, subst, suc, sym, ℕ, ◌++◌, ◌∙◌, ◌∷◌, ◌≡◌, ◌≤◌}
use Rattle.access_model.specs.Histories.{Done}
use Rattle.gate_steps.{proofs.call_events.{Caused.tree_during, Effects.in_order}, specs.call_events.Spans.{AreInOrder, IsTreeDuring}}
use Rattle.gate_world.specs.declared.{operations.Op.TheVariants.Snapshot as SnapshotOp, views.Snapshot.Snapshot as Noted}
use Rattle.vfs_gates.{proofs.{Seeing.same_own, Taking.replied_one}, specs.Handed.ComesAfter}

-- calls of one configuration, of which the later one has seen what the earlier one left
pub calls_in_order : (one two : Op) (old left begins ends : SeatedTask) (answer reply : Result Reply GateError)
    (first : Called one old left answer) (second : Called two begins ends reply) → begins.config ≡ old.config →
    StaySeen left.seen begins.seen →
    AreInOrder (own_number old.items) (state_of_trace old.config (own_number old.items) one first.trace).added
    (own_number begins.items) (state_of_trace begins.config (own_number begins.items) two second.trace).added second.history.history.log
calls_in_order one two old left begins ends answer reply first second same seen =
    let effect : TakesEffect begins.config old.items one first.trace old.seen left.seen first.history.history.log =
    subst (λ c. TakesEffect c old.items one first.trace old.seen left.seen first.history.history.log) (sym same)
    (call_effect one old left answer first) in
    subst (λ (c : Config). AreInOrder (own_number old.items) (state_of_trace c (own_number old.items) one first.trace).added
    (own_number begins.items) (state_of_trace begins.config (own_number begins.items) two second.trace).added second.history.history.log) same
    (in_order begins.config old.items begins.items one two first.trace second.trace old.seen left.seen begins.seen ends.seen
    first.history.history.log second.history.history.log effect (call_effect two begins ends reply second) seen)

-- a step of a trace has completed a snapshot of these words
abbrev HasCompleted : Config → ℕ → Op → List Traced → TreeWords → Type 0
HasCompleted c t op trace loaded = (later : List Traced) × (e : Traced) × (earlier : List Traced) × (trace ≡ later ++ e ∷ earlier) ×
    (completed_by (state_of_trace c t op earlier).comes earlier e ≡ Some loaded)

-- of a number that had none, what it has was taken by one of its steps, and so it is where it had one before
module _ (c : Config) (t : ℕ) (op : Op) (others : List (ℕ × ℕ)) (v : View) where
  abbrev had : View
  had = record v { snapshot = None }

  by_event : (e : Traced) (earlier : List Traced) (s : Noted) (o : Option TreeWords) →
      completed_by (state_of_trace c t op earlier).comes earlier e ≡ o → (added : List Action) (before now : Option Noted) →
      last_snapshot o added others before ≡ Some s → (before ≡ Some s → (now ≡ Some s) × HasCompleted c t op earlier s.loaded) →
      (last_snapshot o added others now ≡ Some s) × HasCompleted c t op (e ∷ earlier) s.loaded
  by_event e earlier s (Some loaded) is added before now ends sooner =
      let same : loaded ≡ s.loaded = ap (λ (n : Noted). n.loaded) (let f : record { loaded = loaded; done = length added; others = others } ≡ s = cc in f) in
      (ends, ([], e, earlier, refl, is ∙ ap Some same))
  by_event e earlier s None is added before now ends sooner =
      let r = sooner ends in (r.0, (e ∷ r.1.0, r.1.1, r.1.2, ap (λ (l : List Traced). e ∷ l) r.1.3, r.1.4))

  was_taken : (trace : List Traced) (s : Noted) → ran_snapshot c t op others trace had ≡ Some s →
      (ran_snapshot c t op others trace v ≡ Some s) × HasCompleted c t op trace s.loaded
  was_taken [] s ends = absurd (let no : ⊥ = cc in no)
  was_taken (e ∷ earlier) s ends =
      by_event e earlier s (completed_by (state_of_trace c t op earlier).comes earlier e) refl
      ((state_of_trace c t op earlier).added ++ v.actions) (ran_snapshot c t op others earlier had) (ran_snapshot c t op others earlier v) ends
      (was_taken earlier s)

-- so a snapshot that replied is of a moment of its call
pub taken_during : (wait : Bool) (old left : SeatedTask) (reply : Reply) (s : Noted) → 1 ≤ length old.items →
    Called (SnapshotOp wait) old left (Ok reply) → (own_view left.items).snapshot ≡ Some s →
    IsTreeDuring old.config old.items (SnapshotOp wait) old.seen left.seen s.loaded
taken_during wait old left reply s some_there called shows =
    let c : Config = old.config in
    let n : ℕ = own_number old.items in
    let op : Op = SnapshotOp wait in
    let others : List (ℕ × ℕ) = done_by (spare_of old.items) in
    let v : View = own_view old.items in
    let one = replied_one c n wait others (record v { snapshot = None }) called.trace reply called.follows called.ends in
    let noted : Noted = record { loaded = one.0; done = length v.actions; others = others } in
    let taken = was_taken c n op others v called.trace noted one.1 in
    let own = same_own c op called.trace old.items some_there in
    let left_so : (own_view left.items).snapshot ≡ Some noted =
    ap (λ (t : SeatedTask). (own_view t.items).snapshot) called.after ∙ (own.2 ∙ taken.0) in
    let both : Some noted ≡ Some s = sym left_so ∙ shows in
    let same : noted ≡ s = cc in
    let done = taken.1 in
    subst (λ (m : Noted). IsTreeDuring c old.items op old.seen left.seen m.loaded) same
    (tree_during c old.items op old.seen left.seen noted.loaded done.0 done.1 done.2
    (subst (λ l. AreMoves c op old.items old.seen l left.seen) done.3 called.moves) done.4)

-- what stands in the second of two lists stands in both
pub second_place : (mine : DealtNumbers) (y : Numbered) (ys : DealtNumbers) → (k : ℕ) × (get_elem? (mine ++ y ∷ ys) k ≡ some y)
second_place [] y ys = (0, refl)
second_place (x ∷ mine) y ys = let r = second_place mine y ys in (suc r.0, r.1)

other_behind : (c : Config) (items mine others : DealtNumbers) (before : List Done) → items ≡ mine ++ others → 1 ≤ length others →
    ((k : ℕ) (x : Numbered) → get_elem? items k ≡ some x → own_part x.number before ≡ x.view.actions) →
    own_part (own_number others) before ≡ (own_view others).actions
other_behind c items mine [] before is there had = absurd (omega arith)
other_behind c items mine (y ∷ ys) before is there had =
    let at = second_place mine y ys in had at.0 y (ap (λ (l : DealtNumbers). get_elem? l at.0) is ∙ at.1)

-- what a task's own number has done after an operation
ran_actions : (c : Config) (op : Op) (trace : List Traced) (items mine others : DealtNumbers) → items ≡ mine ++ others → 1 ≤ length mine →
    (own_view (ran_items c op trace items)).actions ≡ (state_of_trace c (own_number items) op trace).added ++ (own_view items).actions
ran_actions c op trace [] [] others is there = absurd (omega arith)
ran_actions c op trace [] (x ∷ mine) others is there = absurd (let no : ⊥ = cc in no)
ran_actions c op trace (x ∷ items) mine others is there = refl

-- a call of a task to which another was joined
pub comes_after : (op : Op) (first other joined left : SeatedTask) (answer : Result Reply GateError) → joined.items ≡ first.items ++ other.items →
    1 ≤ length first.items → 1 ≤ length other.items → Called op joined left answer → ComesAfter other joined left
comes_after op first other joined left answer is some_first some_other called =
    let effect : TakesEffect joined.config joined.items op called.trace joined.seen left.seen called.history.history.log =
    call_effect op joined left answer called in record {
      all = called.history;
      since = actions_since joined.config effect.began effect.since;
      before = actions_so_far joined.config effect.began;
      is = effect.grows;
      behind = other_behind joined.config joined.items first.items other.items (actions_so_far joined.config effect.began) is some_other
          effect.had;
      adds = ap (λ (s : SeatedTask). (own_view s.items).actions) called.after ∙
          (ran_actions joined.config op called.trace joined.items first.items other.items is some_first ∙
          ap (λ (l : List Action). l ++ (own_view joined.items).actions) (sym effect.added));
    }
