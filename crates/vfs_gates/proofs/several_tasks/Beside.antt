-- What tasks that meet know of each other's calls.
use Rattle.vfs_gates.proofs.Prelude.{Action, Bool, Busy, ChangeMount, Config, DealtNumbers, Encloses, Entry, Err, GateError, Grant, HasDone}
use Rattle.vfs_gates.proofs.Prelude.{HaveHistory, IfErr, Level, List, Meets, Mount, Ok, Op, Performs, RemountSb, Reply, Rests, Result, SeatedTask}
use Rattle.vfs_gates.proofs.Prelude.{StaySeen, WantWrite, [], ap, arith, get_elem?, length, mounts_of, own_actions, own_number, own_view, refl}
use Rattle.vfs_gates.proofs.Prelude.{same_stays_seen, stays_seen_on, subst, sym, true, update_at, ℕ, ◌++◌, ◌+◌, ◌<◌, ◌∙◌, ◌∷◌, ◌≡◌, ◌≤◌}
use Rattle.{gate_steps.proofs.call_events.Grown.both_stay_seen, gate_world.specs.Views.held_at}
use Rattle.vfs_gates.proofs.{Holding.adds, Resting.change_busy, Returning.was_done, call_laws.Timing.second_place}
use Rattle.vfs_gates.{proofs.several_tasks.Keeping.{change_refused, remount_busy}, specs.Meetings.HoldsAt}

-- what either had seen, both have seen
pub met_stays : (one two first second : SeatedTask) → Meets one two first second →
    StaySeen one.seen first.seen × StaySeen two.seen first.seen × StaySeen one.seen second.seen × StaySeen two.seen second.seen
met_stays one two first second m =
    let now : List Entry = m.stand.all.history.reached.entries in
    let goes : StaySeen (one.seen ++ two.seen) m.seen =
    λ k earlier at. (0, now, ap (λ l. get_elem? l 0) m.stand.all.last, m.stand.from.goes_on k earlier at) in
    let both = both_stay_seen one.seen two.seen in
    let mine : StaySeen one.seen m.seen = stays_seen_on one.seen (one.seen ++ two.seen) m.seen both.0 goes in
    let its : StaySeen two.seen m.seen = stays_seen_on two.seen (one.seen ++ two.seen) m.seen both.1 goes in
    let at_first : m.seen ≡ first.seen = sym (ap (λ (s : SeatedTask). s.seen) m.first) in
    let at_second : m.seen ≡ second.seen = sym (ap (λ (s : SeatedTask). s.seen) m.second) in (
      subst (StaySeen one.seen) at_first mine,
      subst (StaySeen two.seen) at_first its,
      subst (StaySeen one.seen) at_second mine,
      subst (StaySeen two.seen) at_second its,
    )

pub second_has : (mine others : DealtNumbers) → 1 ≤ length others → HasDone (own_number others) (own_view others).actions (mine ++ others)
second_has mine [] there = absurd (omega arith)
second_has mine (y ∷ ys) there =
    let r = second_place mine y ys in record { place = r.0; view = y.view; there = r.1; done = refl }

-- a call of the first of two tasks that meet before it and after it
pub enclosed : (one two begins beside left first second : SeatedTask) → Meets one two begins beside → left.config ≡ begins.config →
    Meets left beside first second → Encloses (one.items ++ two.items) (left.items ++ two.items) begins left
enclosed one two begins beside left first second meets config again =
    let same : begins.config ≡ one.config = ap (λ (s : SeatedTask). s.config) meets.first in
    let still : beside.items ≡ two.items = ap (λ (s : SeatedTask). s.items) meets.second in record {
      first_seen = meets.seen;
      first = subst (λ (c : Config). HaveHistory c (one.items ++ two.items) meets.seen) (sym same) meets.stand.all;
      saw = subst (StaySeen meets.seen) (sym (ap (λ (s : SeatedTask). s.seen) meets.first)) (same_stays_seen meets.seen);
      last_seen = again.seen;
      last = subst (λ (c : Config). HaveHistory c (left.items ++ two.items) again.seen) config
          (subst (λ (l : DealtNumbers). HaveHistory left.config (left.items ++ l) again.seen) still again.stand.all);
      sees = subst (StaySeen left.seen) (ap (λ (s : SeatedTask). s.seen) again.first) (met_stays left beside first second again).0;
    }

-- who holds an access has a number
has_some : (m : ℕ) (items : DealtNumbers) → 1 ≤ held_at (own_view items) m → 1 ≤ length items
has_some m [] holds = absurd (omega arith)
has_some m (x ∷ xs) holds = omega arith

-- so it makes no mount read-only at which the other holds an access
module _ (m : ℕ) (one two begins beside left first second : SeatedTask) (outcome : Result (Unit {0}) GateError)
    (holds : 1 ≤ held_at (own_view two.items) m) (meets : Meets one two begins beside) (again : Meets left beside first second) where
  there : 1 ≤ length two.items
  there = has_some m two.items holds

  pub beside_refused : (wait : Bool) → Performs (ChangeMount m true wait) begins left outcome → outcome ≡ Ok tt → ⊥
  beside_refused wait performs is =
      let op : Op = ChangeMount m true wait in
      let done = was_done op begins left (subst (Performs op begins left) is performs) in
      change_refused m (own_number two.items) wait begins left done.reply (own_view two.items).actions (one.items ++ two.items)
      (left.items ++ two.items) done.called (enclosed one two begins beside left first second meets performs.config again)
      (second_has one.items two.items there) (second_has left.items two.items there) holds

  -- nor all at once
  pub beside_busy : Performs (RemountSb true) begins left outcome → outcome ≡ Ok tt → ⊥
  beside_busy performs is =
      let op : Op = RemountSb true in
      let done = was_done op begins left (subst (Performs op begins left) is performs) in
      let busy : ◌≡◌ {A = Result Reply GateError} (Ok done.reply) (Err Busy) =
      remount_busy m (own_number two.items) begins left (Ok done.reply) (own_view two.items).actions (one.items ++ two.items)
      (left.items ++ two.items) done.called (enclosed one two begins beside left first second meets performs.config again)
      (second_has one.items two.items there) (second_has left.items two.items there) holds in
      let no : ⊥ = cc in no

  -- and a change by a task that rests is busy
  busy_if : (e : GateError) → e ≡ Busy → ◌≡◌ {A = Result (Unit {0}) GateError} (Err e) (Err Busy)
  busy_if e is = ap (λ k. Err k) is

  by_outcome : (o : Result (Unit {0}) GateError) → (o ≡ Ok tt → ⊥) → IfErr o (λ refusal. refusal ≡ Busy) → o ≡ Err Busy
  by_outcome (Ok done) never busy = absurd (never refl)
  by_outcome (Err e) never busy = busy_if e busy

  pub rests_busy : Rests begins → m < begins.config.mounts → Performs (ChangeMount m true true) begins left outcome → outcome ≡ Err Busy
  rests_busy rests mount performs =
      by_outcome outcome (beside_refused true performs) (change_busy m true begins left outcome rests performs mount)

-- who was granted write access holds the access
pub write_held : {m p : ℕ} {old left : SeatedTask} → Performs (WantWrite m p) old left (Ok tt) → HoldsAt m left
write_held {m = m} {p = p} {old = old} {left = left} took =
    let was = was_done (WantWrite m p) old left took in
    let list : own_actions left ≡ Grant (Mount m) ∷ (Grant (Level 1) ∷ own_actions old) =
    adds (WantWrite m p) old left (Ok was.reply) was.called in
    let one : mounts_of (own_actions left) m ≡ mounts_of (own_actions old) m + 1 =
    ap (λ (l : List Action). mounts_of l m) list ∙ update_at (mounts_of (own_actions old)) m (mounts_of (own_actions old) m + 1) in
    omega (arith, one)

-- a task that met another is as it was, but for what it has seen
pub met_again : (s mid left : SeatedTask) (first second : List (List Entry)) → mid ≡ record s { seen = first } →
    left ≡ record mid { seen = second } → left ≡ record s { seen = left.seen }
met_again s mid left first second one two =
    let both : left ≡ record s { seen = second } = two ∙ ap (λ (t : SeatedTask). record t { seen = second }) one in
    both ∙ ap (λ (l : List (List Entry)). record s { seen = l }) (sym (ap (λ (t : SeatedTask). t.seen) both))
