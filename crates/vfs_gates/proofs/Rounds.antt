-- Laws for a caller, with the words that its proofs cite them by. Their arguments are found from what its calls ensure.
pub use Rattle.std.proofs.Common.{ℕ, ◌≤◌, rules}
pub use Rattle.atomic_table.specs.Seated.{TableId}
pub use Rattle.gate_steps.specs.Rules.{first_known}
pub use Rattle.gate_steps.proofs.call_events.Dealing.{times-append}
pub use Rattle.gate_world.specs.Configs.{IsWithin}
pub use Rattle.gate_world.specs.declared.config.Config.{Config}
pub use Rattle.vfs_gates.specs.Rounds.{GateError, Mount, Op, ChangeMount, Performs, Rests, SeatedTask, IsFrom, ComesAfter, Did, Ended, Granted, refused, round}
pub use Rattle.vfs_gates.specs.TaskStates.{task_state}
use Rattle.vfs_gates.proofs.Prelude.{Bool, DealtNumbers, Empty, EndedWith, Entry, Gate, HaveViews, IsAsBefore, List, None, Ok, Option, Reply, Result}
use Rattle.vfs_gates.proofs.Prelude.{Some, SplitOf, StaySeen, Traced, View, Want, WantWrite, [], and_parts, ap, arith, false, held_of, length}
use Rattle.vfs_gates.proofs.Prelude.{own_actions, own_number, own_view, ran_items, refl, refusal_at, same_stays_seen, spare_of, subst, suc, sym}
use Rattle.vfs_gates.proofs.Prelude.{times, told_as, true, unit_of, ◌++◌, ◌+◌, ◌<◌, ◌∙◌, ◌∷◌, ◌≡◌}
use Rattle.std.proofs.{Common.{add-zero, nat_lt}, lemmas.Bool.{eq-eqb, ltb-true}}
use Rattle.{gate_steps.proofs.call_events.Grown.call_stays_seen, gate_world.specs.declared.operations.Op.TheVariants.{DropMount, DropWrite}}
use Rattle.vfs_gates.proofs.{Holding.{keeps, rests_on, same_own}, Reopening.{Opens, opens}, Resting.{change_begins, first_ends, second_ends}}
use Rattle.vfs_gates.proofs.{Resting.split_done_nothing, Returning.{done_idle, dropped, may, was_done, written_back}, Rooming.kept_view}
use Rattle.vfs_gates.{proofs.{call_laws.Timing.comes_after, several_tasks.Told.own_list}, specs.{Held.{IsGivenBack, takes_nothing}, Meetings.SawList}}
use Rattle.vfs_gates.specs.{Rounds.granted_in, declared.gates.Gates.Gates}

-- a call that takes nothing leaves a task at rest
pub rests_after : {op : Op} {old left : SeatedTask} {outcome : Result (Unit {0}) GateError} → takes_nothing op ≡ true → Rests old →
    Performs op old left outcome → Rests left
rests_after {op = op} {old = old} {left = left} {outcome = outcome} none rests call =
    rests_on old left rests (keeps unit_of op old left outcome rests.0 call none)

-- an access that a want was granted is given back on the processor where it was taken
pub given_back : {m p : ℕ} {wait : Bool} {old there left : SeatedTask} {outcome : Result (Unit {0}) GateError} →
    Performs (Want m p wait) old there (Ok tt) → Performs (DropMount m p) there left outcome → IsGivenBack (Mount m) old left outcome
given_back {m = m} {p = p} {wait = wait} {old = old} {there = there} {left = left} {outcome = outcome} took gives =
    let began = may (Want m p wait) old there (was_done (Want m p wait) old there took) in
    let range = and_parts (nat_lt m old.config.mounts) (nat_lt p old.config.processors) began.range in
    dropped m p p wait old there left outcome (ltb-true p old.config.processors range.1) took gives

-- and a task at rest rests again
pub rests_back : {m p : ℕ} {wait : Bool} {old there left : SeatedTask} {outcome : Result (Unit {0}) GateError} → Rests old →
    Performs (Want m p wait) old there (Ok tt) → Performs (DropMount m p) there left outcome → (outcome ≡ Ok tt) × Rests left
rests_back {old = old} {left = left} rests took gives = let given = given_back took gives in (given.done, rests_on old left rests given.as_before)

-- a change to writable that waits is done
pub made_writable : {m : ℕ} {old left : SeatedTask} {outcome : Result (Unit {0}) GateError} → Rests old → m < old.config.mounts →
    Performs (ChangeMount m false true) old left outcome → outcome ≡ Ok tt
made_writable {m = m} {old = old} {left = left} {outcome = outcome} rests mount call =
    let done = call.done (change_begins m false old left outcome rests call mount) in
    let reply : done.0 ≡ Ok Reply.Unit = subst (Opens old.config (own_number old.items) m) done.2.ends (opens old.config (own_number old.items) m done.2.trace) in
    done.1 ∙ ap (told_as unit_of) reply

-- so is one of a mount that the task has just made read-only, and leaves it at rest
pub reopened : {m : ℕ} {old there left : SeatedTask} {outcome : Result (Unit {0}) GateError} → Rests old →
    Performs (ChangeMount m true true) old there (Ok tt) → Performs (ChangeMount m false true) there left outcome → (outcome ≡ Ok tt) × Rests left
reopened {m = m} {old = old} {there = there} rests closed call =
    let began = may (ChangeMount m true true) old there (was_done (ChangeMount m true true) old there closed) in
    let mount : m < there.config.mounts = subst (λ d. m < d.mounts) (sym closed.config) (ltb-true m old.config.mounts began.range) in
    let at_rest = rests_after refl rests closed in
    (made_writable at_rest mount call, rests_after refl at_rest call)

-- A call that was done of a task to which another was joined has all behind it that the other had done.
pub done_after : {op : Op} {other joined left : SeatedTask} (first : SeatedTask) → joined.items ≡ first.items ++ other.items → 1 ≤ length first.items →
    1 ≤ length other.items → Performs op joined left (Ok tt) → ComesAfter other joined left
done_after {op = op} {other = other} {joined = joined} {left = left} first is some_first some_other call =
    let was = was_done op joined left call in comes_after op first other joined left (Ok was.reply) is some_first some_other was.called

own_same : (l m : DealtNumbers) → 1 ≤ length l → own_view l ≡ own_view (l ++ m)
own_same [] m there = absurd (omega arith)
own_same (x ∷ xs) m there = refl

-- And it rests as it did.
pub joined_rests : {joined : SeatedTask} (first other : SeatedTask) → joined ≡ record first { items = first.items ++ other.items; seen = first.seen ++ other.seen } →
    1 ≤ length first.items → Rests first → Rests joined
joined_rests first other is there rests =
    subst Rests (sym is) (rests.0, subst (Empty first.config) (own_same first.items other.items there) rests.1)

-- A call leaves the numbers that its task has to give as they were.
pub ran_spare : (c : Config) (op : Op) (trace : List Traced) (l : DealtNumbers) → spare_of (ran_items c op trace l) ≡ spare_of l
ran_spare c op trace [] = refl
ran_spare c op trace (x ∷ xs) = refl

spare_at : (op : Op) (old left : SeatedTask) (outcome : Result (Unit {0}) GateError) → Performs op old left outcome →
    (o : Option GateError) → refusal_at op old ≡ o → spare_of left.items ≡ spare_of old.items
spare_at op old left outcome call None at =
    let called = (call.done at).2 in
    ap (λ (s : SeatedTask). spare_of s.items) called.after ∙ ran_spare old.config op called.trace old.items
spare_at op old left outcome call (Some refusal) at = ap (λ (s : SeatedTask). spare_of s.items) (call.refused refusal at).1

pub spare_stays : {op : Op} {old left : SeatedTask} {outcome : Result (Unit {0}) GateError} → Performs op old left outcome →
    spare_of left.items ≡ spare_of old.items
spare_stays {op = op} {old = old} {left = left} {outcome = outcome} call = spare_at op old left outcome call (refusal_at op old) refl

pub spare_stays_on : {one two : Op} {old there left : SeatedTask} {answer outcome : Result (Unit {0}) GateError} →
    Performs one old there answer → Performs two there left outcome → spare_of left.items ≡ spare_of old.items
spare_stays_on first second = spare_stays second ∙ spare_stays first

own_at : (op : Op) (old left : SeatedTask) (outcome : Result (Unit {0}) GateError) → Performs op old left outcome →
    (o : Option GateError) → refusal_at op old ≡ o → own_number left.items ≡ own_number old.items
own_at op old left outcome call None at =
    let called = (call.done at).2 in
    ap (λ (s : SeatedTask). own_number s.items) called.after ∙ same_own old.config op called.trace old.items
own_at op old left outcome call (Some refusal) at = ap (λ (s : SeatedTask). own_number s.items) (call.refused refusal at).1

pub own_stays : {op : Op} {old left : SeatedTask} {outcome : Result (Unit {0}) GateError} → Performs op old left outcome →
    own_number left.items ≡ own_number old.items
own_stays {op = op} {old = old} {left = left} {outcome = outcome} call = own_at op old left outcome call (refusal_at op old) refl

-- Nor does it take or give a number.
ran_times : (n : ℕ) (c : Config) (op : Op) (trace : List Traced) (l : DealtNumbers) → times n (ran_items c op trace l) ≡ times n l
ran_times n c op trace [] = refl
ran_times n c op trace (x ∷ xs) = refl

times_by : (op : Op) (old left : SeatedTask) (outcome : Result (Unit {0}) GateError) → Performs op old left outcome → (n : ℕ) →
    (o : Option GateError) → refusal_at op old ≡ o → times n left.items ≡ times n old.items
times_by op old left outcome call n None at =
    let called = (call.done at).2 in
    ap (λ (s : SeatedTask). times n s.items) called.after ∙ ran_times n old.config op called.trace old.items
times_by op old left outcome call n (Some refusal) at = ap (λ (s : SeatedTask). times n s.items) (call.refused refusal at).1

pub times_stay : {op : Op} {old left : SeatedTask} {outcome : Result (Unit {0}) GateError} → Performs op old left outcome → (n : ℕ) →
    times n left.items ≡ times n old.items
times_stay {op = op} {old = old} {left = left} {outcome = outcome} call n = times_by op old left outcome call n (refusal_at op old) refl

pub times_stay_on : {one two : Op} {old there left : SeatedTask} {answer outcome : Result (Unit {0}) GateError} →
    Performs one old there answer → Performs two there left outcome → (n : ℕ) → times n left.items ≡ times n old.items
times_stay_on first second n = times_stay second n ∙ times_stay first n

-- A task's own number is among its numbers.
pub own_times : (n : ℕ) (items : DealtNumbers) → own_number items ≡ n → 1 ≤ length items → 1 ≤ times n items
own_times n [] own there = absurd (omega arith)
own_times n (x ∷ xs) own there = rw (eq-eqb x.number n own) (omega arith)

-- Of views that a task knows, those of the second of two lists of its numbers.
have_second : (views : ℕ → View) (l m : DealtNumbers) → HaveViews views (l ++ m) → HaveViews views m
have_second views [] m have = have
have_second views (x ∷ xs) m have = have_second views xs m (λ k. have (suc k))

have_spare : (views : ℕ → View) (items mine others : DealtNumbers) → spare_of items ≡ spare_of (mine ++ others) → 1 ≤ length mine →
    HaveViews views items → HaveViews views others
have_spare views items [] others same there have = absurd (omega arith)
have_spare views [] (x ∷ xs) others same there have = have_second views xs others (subst (HaveViews views) same have)
have_spare views (y ∷ ys) (x ∷ xs) others same there have =
    have_second views xs others (subst (HaveViews views) same (λ k. have (suc k)))

-- A task that was granted so many accesses, from where it had done nothing, and to which another was joined then, has just these in its list.
pub granted_alone : {opening : Config} {id : TableId} {old f g s t : SeatedTask} (gate : Gate) (n : ℕ) (first other joined : SeatedTask) →
    old ≡ task_state id opening None None (first_known opening) → SplitOf old f s → SplitOf f g t → Granted gate n g first →
    joined.items ≡ first.items ++ other.items → 1 ≤ length first.items → granted_in gate (own_actions joined) ≡ n
granted_alone {opening = opening} {id = id} {old = old} {f = f} {g = g} {s = s} gate n first other joined is made more granted items there =
    let nothing = split_done_nothing opening id old f s is made in
    let none : own_actions g ≡ [] =
    ap own_actions more.kept ∙ (ap (λ (v : View). v.actions) (kept_view more.number f.items) ∙ nothing.0) in
    ap (λ (v : View). granted_in gate v.actions) (ap own_view items ∙ sym (own_same first.items other.items there)) ∙
    (granted ∙ (ap (λ l. n + granted_in gate l) none ∙ add-zero n))

-- Who has a number has numbers, and the first of two lists has the own one.
pub some_items : (n : ℕ) (items : DealtNumbers) → 1 ≤ times n items → 1 ≤ length items
some_items n [] some = absurd (omega (arith, some))
some_items n (x ∷ xs) some = omega arith

pub own_number_same : (l m : DealtNumbers) → 1 ≤ length l → own_number (l ++ m) ≡ own_number l
own_number_same [] m there = absurd (omega arith)
own_number_same (x ∷ xs) m there = refl

-- A task's own number ends as the task knew it, and so does that of a task that was joined to it.
pub own_ends : (views : ℕ → View) (items : DealtNumbers) → 1 ≤ length items → HaveViews views items → views (own_number items) ≡ own_view items
own_ends views [] there have = absurd (omega arith)
own_ends views (x ∷ xs) there have = have 0 x refl

pub last_ends : {c : Config} {ws : List ℕ} {items : DealtNumbers} {seen : List (List Entry)} (e : EndedWith c ws items seen) → 1 ≤ length items →
    e.ended.world.views (own_number items) ≡ own_view items
last_ends {items = items} e there = own_ends e.ended.world.views items there e.mine

pub handed_ends : {c : Config} {ws : List ℕ} {items : DealtNumbers} {seen : List (List Entry)} (t both : SeatedTask) (e : EndedWith c ws items seen) →
    spare_of items ≡ spare_of (t.items ++ both.items) → 1 ≤ length t.items → 1 ≤ length both.items →
    e.ended.world.views (own_number both.items) ≡ own_view both.items
handed_ends {items = items} t both e same there some =
    own_ends e.ended.world.views both.items some (have_spare e.ended.world.views items t.items both.items same there e.mine)

-- The same of two tasks that were joined to a third, which was split off behind them, and called then itself.
pub handed_did : {c : Config} {ws : List ℕ} {items : DealtNumbers} {seen : List (List Entry)} {one two : ℕ} {opening : Config} {id : TableId}
    {old f g s t : SeatedTask} (F S : SeatedTask → SeatedTask → Type 0) (first second both : SeatedTask) →
    old ≡ task_state id opening None None (first_known opening) → SplitOf old f s → SplitOf f g t → (e : EndedWith c ws items seen) →
    spare_of items ≡ spare_of (t.items ++ both.items) → both.items ≡ first.items ++ second.items → 1 ≤ length t.items →
    one ≡ own_number first.items → 1 ≤ length first.items → two ≡ own_number second.items → 1 ≤ length second.items → F g first → S s second →
    Did (e.ended.world.views one) F × Did (e.ended.world.views two) S
handed_did {items = items} {opening = opening} {id = id} {old = old} {f = f} {g = g} {s = s} {t = t} F S first second both is made more e same
    joined there own own_there two_own two_there did did_too =
    let nothing = split_done_nothing opening id old f s is made in
    let views : ℕ → View = e.ended.world.views in
    let mine : HaveViews views (first.items ++ second.items) =
    subst (HaveViews views) joined (have_spare views items t.items both.items same there e.mine) in
    let none : own_actions g ≡ [] =
    ap own_actions more.kept ∙ (ap (λ (v : View). v.actions) (kept_view more.number f.items) ∙ nothing.0) in (
      record {
        begins = g;
        ends = first;
        nothing = none;
        does = did;
        last = ap views own ∙ first_ends views first.items second.items own_there mine;
      },
      record {
        begins = s;
        ends = second;
        nothing = nothing.1;
        does = did_too;
        last = ap views two_own ∙ second_ends views first.items second.items two_there mine;
      },
    )

-- A task is of its gates after a call, and after a meeting.
pub from_after : (g : Gates) {op : Op} {old left : SeatedTask} {outcome : Result (Unit {0}) GateError} → Performs op old left outcome →
    IsFrom old g → IsFrom left g
from_after g call from = (call.table ∙ from.0, call.config ∙ from.1)

pub from_met : (g : Gates) (s t : SeatedTask) (seen : List (List Entry)) → t ≡ record s { seen = seen } → IsFrom s g → IsFrom t g
from_met g s t seen is from = (ap (λ (x : SeatedTask). x.table) is ∙ from.0, ap (λ (x : SeatedTask). x.config) is ∙ from.1)

-- A task at rest that was granted write access, met another, and gives it back, rests again.
pub rests_written : {m p : ℕ} {old there mid left : SeatedTask} {outcome : Result (Unit {0}) GateError} (seen : List (List Entry)) → Rests old →
    Performs (WantWrite m p) old there (Ok tt) → mid ≡ record there { seen = seen } → Performs (DropWrite m p) mid left outcome →
    (outcome ≡ Ok tt) × Rests left
rests_written {m = m} {p = p} {old = old} {there = there} {mid = mid} {left = left} {outcome = outcome} seen rests took met gives =
    let same : IsAsBefore there mid = record {
      table = ap (λ (s : SeatedTask). s.table) met;
      config = ap (λ (s : SeatedTask). s.config) met;
      own = ap (λ (s : SeatedTask). own_number s.items) met;
      idle = ap (λ (s : SeatedTask). s.phase) met ∙ done_idle (WantWrite m p) old there took;
      held = ap (λ (s : SeatedTask). held_of (own_view s.items)) met;
    } in
    let given = written_back m p old there mid left outcome took same gives in (given.0, rests_on old left rests given.1)

-- What a task had seen it has seen after a call, and its own list after one that was done.
seen_by : (op : Op) (old left : SeatedTask) (outcome : Result (Unit {0}) GateError) → Performs op old left outcome → (o : Option GateError) →
    refusal_at op old ≡ o → StaySeen old.seen left.seen
seen_by op old left outcome call None at = let done = call.done at in call_stays_seen op old left done.0 done.2
seen_by op old left outcome call (Some refusal) at =
    subst (StaySeen old.seen) (sym (ap (λ (s : SeatedTask). s.seen) (call.refused refusal at).1)) (same_stays_seen old.seen)

pub seen_after : {op : Op} {old left : SeatedTask} {outcome : Result (Unit {0}) GateError} → Performs op old left outcome →
    StaySeen old.seen left.seen
seen_after {op = op} {old = old} {left = left} {outcome = outcome} call = seen_by op old left outcome call (refusal_at op old) refl

pub own_seen : {op : Op} {old left : SeatedTask} → Performs op old left (Ok tt) →
    SawList left.config (own_number left.items) (own_actions left) left.seen
own_seen {op = op} {old = old} {left = left} call = let was = was_done op old left call in own_list op old left (Ok was.reply) was.called
