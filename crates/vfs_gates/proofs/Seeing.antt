-- A task's last snapshot is of a moment of the one history.
use Rattle.vfs_gates.proofs.Prelude.{Action, Called, Config, DealtNumbers, Entry, GateError, HaveHistory, List, None, Op, Option, Reply, Result}
use Rattle.vfs_gates.proofs.Prelude.{SeatedTask, Some, Traced, TreeWords, View, [], ap, arith, completed_by, done_by, last_snapshot, length}
use Rattle.vfs_gates.proofs.Prelude.{model_limits, own_number, own_view, ran_items, ran_snapshot, refl, spare_of, state_of_trace, subst, ℕ, ◌++◌, ◌∙◌}
use Rattle.vfs_gates.proofs.Prelude.{◌∷◌, ◌≡◌, ◌≤◌}
use Rattle.{freeze_laws.proofs.moments.Frozen.tells, gate_world.specs.{Moments.HasMoment, declared.views.Snapshot.Snapshot}}
use Rattle.gated_tree.specs.Trees.{node_at}
use Rattle.vfs_gates.specs.Seen.{IsOfAMoment}

-- in any history of a task's numbers
pub saw_a_moment : (c : Config) (items : DealtNumbers) (last_seen : List (List Entry)) (all : HaveHistory c items last_seen)
    (s : Snapshot) → 1 ≤ length items →
    (own_view items).snapshot ≡ Some s → IsOfAMoment c (own_number items) items s
saw_a_moment c [] last_seen all s some_there e = absurd (omega arith)
saw_a_moment c (x ∷ xs) last_seen all s some_there e =
    let log = all.history.log in
    let here : (all.world.views x.number).snapshot ≡ Some s = ap (λ (v : View). v.snapshot) (all.mine 0 x refl) ∙ e in
    let moment : HasMoment c log x.number (Some s) = subst (HasMoment c log x.number) here (all.history.snapshots x.number) in
    let done : List (ℕ × ℕ) = (x.number, s.done) ∷ s.others in
    let lists : ℕ → List Action = λ t. (all.world.views t).actions in
    record {
      last_seen = last_seen;
      all = all;
      moment = moment;
      tells = tells (model_limits c) (node_at s.loaded) done lists log all.history.legal all.history.lists moment.stands;
    }

-- a task whose number ran an operation is there, with the same number
pub same_own : (c : Config) (op : Op) (trace : List Traced) (items : DealtNumbers) → 1 ≤ length items →
    (own_number (ran_items c op trace items) ≡ own_number items) × (1 ≤ length (ran_items c op trace items)) ×
    ((own_view (ran_items c op trace items)).snapshot ≡
    ran_snapshot c (own_number items) op (done_by (spare_of items)) trace (own_view items))
same_own c op trace [] some_there = absurd (omega arith)
same_own c op trace (x ∷ xs) some_there = (refl, omega arith, refl)

-- after a whole call
pub call_saw : (op : Op) (old left : SeatedTask) (answer : Result Reply GateError) (called : Called op old left answer) (s : Snapshot) →
    1 ≤ length old.items → (own_view left.items).snapshot ≡ Some s → IsOfAMoment old.config (own_number old.items) left.items s
call_saw op old left answer called s some_there e =
    let c : Config = old.config in
    let is : left.items ≡ ran_items c op called.trace old.items = ap (λ (t : SeatedTask). t.items) called.after in
    let own = same_own c op called.trace old.items some_there in
    let number : own_number left.items ≡ own_number old.items = ap own_number is ∙ own.0 in
    let there : 1 ≤ length left.items = omega (arith, ap length is, own.1) in
    subst (λ n. IsOfAMoment c n left.items s) number (saw_a_moment c left.items left.seen called.history s there e)

-- a step that completes no snapshot leaves the last one; one that completes one, where nothing was added before it, notes what the
-- call began with
module _ (c : Config) (t : ℕ) (op : Op) (others : List (ℕ × ℕ)) (e : Traced) (earlier : List Traced) (v : View) where
  abbrev before : Option TreeWords → List Action → Option Snapshot
  before taken added = last_snapshot taken (added ++ v.actions) others (ran_snapshot c t op others earlier v)

  ran_same : completed_by (state_of_trace c t op earlier).comes earlier e ≡ None →
      ran_snapshot c t op others (e ∷ earlier) v ≡ ran_snapshot c t op others earlier v
  ran_same none = ap (λ taken. before taken (state_of_trace c t op earlier).added) none

  ran_taken : (loaded : TreeWords) → completed_by (state_of_trace c t op earlier).comes earlier e ≡ Some loaded →
      (state_of_trace c t op earlier).added ≡ [] →
      ran_snapshot c t op others (e ∷ earlier) v ≡ Some (record { loaded = loaded; done = length v.actions; others = others })
  ran_taken loaded taken none =
      ap (λ o. before o (state_of_trace c t op earlier).added) taken ∙ ap (before (Some loaded)) none

-- what a task notes that had done what it did before a call
abbrev pub noted_by : DealtNumbers → TreeWords → Snapshot
noted_by before loaded = record { loaded = loaded; done = length (own_view before).actions; others = done_by (spare_of before) }

-- a whole call whose last step but one completed a snapshot, and which had added nothing before it
pub call_took : (op : Op) (old left : SeatedTask) (answer : Result Reply GateError) (called : Called op old left answer)
    (loaded : TreeWords) (release last : Traced) (earlier : List Traced) → 1 ≤ length old.items →
    called.trace ≡ release ∷ last ∷ earlier →
    completed_by (state_of_trace old.config (own_number old.items) op (last ∷ earlier)).comes (last ∷ earlier) release ≡ None →
    completed_by (state_of_trace old.config (own_number old.items) op earlier).comes earlier last ≡ Some loaded →
    (state_of_trace old.config (own_number old.items) op earlier).added ≡ [] →
    IsOfAMoment old.config (own_number old.items) left.items
    (record { loaded = loaded; done = length (own_view old.items).actions; others = done_by (spare_of old.items) })
call_took op old left answer called loaded release last earlier some_there is none taken added =
    let c : Config = old.config in
    let n : ℕ = own_number old.items in
    let others : List (ℕ × ℕ) = done_by (spare_of old.items) in
    let v : View = own_view old.items in
    let own = same_own c op called.trace old.items some_there in
    let seen : (own_view left.items).snapshot ≡ Some (noted_by old.items loaded) =
    ap (λ (t : SeatedTask). (own_view t.items).snapshot) called.after ∙
    (own.2 ∙ (ap (λ l. ran_snapshot c n op others l v) is ∙
    (ran_same c n op others release (last ∷ earlier) v none ∙ ran_taken c n op others last earlier v loaded taken added))) in
    call_saw op old left answer called (noted_by old.items loaded) some_there seen
