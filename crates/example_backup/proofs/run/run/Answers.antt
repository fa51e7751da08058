-- Each task ends in the closed gates' state with the list that it brought back, which it had begun with none.
use Rattle.std.proofs.{Common.{◌≡◌, ◌+◌, ◌<◌, ◌++◌, length, refl, arith, ap, sym, subst, suc, zero, ◌∙◌}, lemmas.Result.{err_from_is_err_and}}
use Rattle.std.specs.{Prelude.{Bool, Result, Ok, Err, Option, None, IfSome, OnOk}, Result.{result_ok}}
use Rattle.vfs_gates.proofs.Rounds.{Config, IsWithin, TableId, first_known, task_state}
use Rattle.vfs_gates.proofs.Rounds.{◌≤◌, ℕ, rules, handed_did, handed_ends, granted_alone, joined_rests, last_ends, own_number_same, own_stays, own_times, some_items, times-append, GateError, Granted, Mount, SeatedTask}
use Rattle.vfs_gates.proofs.Splitting.{gives_all, gives_on, has_begun, refused_for_memory}
use Rattle.vfs_gates.specs.{Parts.{SplitOf}, Seating.{times}, Splitting.{Gives}, TaskStates.{own_number}}
use Rattle.example_backup.specs.{Reports.{Copies, HasAllWrites, SameNumbers}, declared.report.Report.{Report}}
use Rattle.example_backup.proofs.run.run.Goals as goal

pub copy_at_the_end-task-requires-clause-rests : goal.copy_at_the_end-task-requires-clause-rests
copy_at_the_end-task-requires-clause-rests g c = (
  c.in_ok-third.ensures.rests.0,
  joined_rests c.join-first.result.0 c.join-first.result.1.0 c.join-both.ensures.joined c.number-writer.ensures.there
      (search (rules, c.join-first.ensures.first)),
)

-- where a copy was made, it is told whether it is torn
where_told : (copied : Result Bool GateError) (P : Type 0) → OnOk copied P → IfSome (result_ok copied) (λ torn. P)
where_told (Ok torn) P made = made
where_told (Err refusal) P made = tt

with_writes : (copied : Result Bool GateError) (P Q : Type 0) → (P → Q) → OnOk copied P → OnOk copied Q
with_writes (Ok torn) P Q more made = more made
with_writes (Err refusal) P Q more made = tt

pub returns-clause-told : goal.returns-clause-told
returns-clause-told g c =
    let did = handed_did (Granted (Mount 0) 10000) (Copies 100) c.join-first.result.0 c.join-first.result.1.0 c.join-both.result
    c.in_ok-gates.ensures.made.1 c.in_ok-second.ensures.made c.in_ok-third.ensures.made c.in-Ok.ensures.closed.2
    c.copy_at_the_end-task.ensures.others c.join-both.ensures.numbers c.number-last.ensures.there c.number-writer.ensures.own
    c.number-writer.ensures.there c.number-backup.ensures.own c.number-backup.ensures.there (search (rules, c.join-first.ensures.first))
    (search (rules, c.join-first.ensures.second)) in
    let granted = granted_alone (Mount 0) 10000 c.join-first.result.0 c.join-first.result.1.0 c.join-both.result
    c.in_ok-gates.ensures.made.1 c.in_ok-second.ensures.made c.in_ok-third.ensures.made
    (let wrote : Granted (Mount 0) 10000 c.split-2.new.self c.join-first.result.0 = search (rules, c.join-first.ensures.first) in wrote)
    c.join-both.ensures.numbers c.number-writer.ensures.there in
    let ends = c.in-Ok.ensures.closed.2 in
    let views = ends.ended.world.views in
    let both = c.join-both.result in
    let left = c.copy_at_the_end-task.result.0 in
    let third = c.in_ok-third.third in
    let its : own_number both.items ≡ c.number-writer.result =
    ap own_number c.join-both.ensures.numbers ∙
    (own_number_same c.join-first.result.0.items c.join-first.result.1.0.items c.number-writer.ensures.there ∙ sym c.number-writer.ensures.own) in
    let some : 1 ≤ length both.items = some_items (own_number both.items) both.items
    (let one = own_times (own_number c.join-first.result.0.items) c.join-first.result.0.items refl c.number-writer.ensures.there in
    let all = times-append (own_number c.join-first.result.0.items) c.join-first.result.0.items c.join-first.result.1.0.items in
    let first : own_number both.items ≡ own_number c.join-first.result.0.items = its ∙ c.number-writer.ensures.own in
    let same : times (own_number both.items) both.items ≡ times (own_number c.join-first.result.0.items)
    (c.join-first.result.0.items ++ c.join-first.result.1.0.items) = λ i. times (first i) (c.join-both.ensures.numbers i) in
    omega (arith, one, all, same)) in
    let some_left : 1 ≤ length left.items = some_items (own_number third.items) left.items
    (let one = own_times (own_number third.items) third.items refl c.number-last.ensures.there in
    let all = c.copy_at_the_end-task.ensures.numbers (own_number third.items) in omega (arith, one, all)) in
    let told : Report = record {
      writer = c.number-writer.result;
      writes = 10000;
      backup = c.number-backup.result;
      copies = 100;
      torn = c.join-first.result.1.1;
      last = c.number-last.result;
      last_torn = c.ok.result;
    } in
    let last = with_writes c.copy_at_the_end-task.result.1 _ (HasAllWrites told views)
    (λ copied.
    let own : own_number left.items ≡ c.number-last.result =
    own_stays copied.opens ∙ (own_stays copied.closes ∙ (ap (λ (s : SeatedTask). own_number s.items) copied.joins ∙
    (own_number_same third.items both.items c.number-last.ensures.there ∙ sym c.number-last.ensures.own))) in
    record {
      last = third;
      writer = both;
      left = left;
      writer_is = its;
      writer_ends = ap views (sym its) ∙
          handed_ends third both ends c.copy_at_the_end-task.ensures.others c.number-last.ensures.there some;
      granted = granted;
      copied = copied;
      last_is = own;
      last_ends = ap views (sym own) ∙ last_ends ends some_left;
    })
    c.copy_at_the_end-task.ensures.every_write in
    record {
      ended = ends.ended;
      writes = did.0;
      copies = did.1;
      every_write = subst (λ (o : Option Bool). IfSome o (λ torn. HasAllWrites told views)) (sym c.ok.ensures.value)
          (where_told c.copy_at_the_end-task.result.1 (HasAllWrites told views) last);
    }

-- The numbers 0, 1 and 2 go to the three tasks, and no split is refused but for memory.
run_within : IsWithin (record { tasks = 3; processors = 2; mounts = 1; nodes = 2; capacity = 0 })
run_within = record {
  some_task = omega arith;
  tasks = omega arith;
  some_processor = omega arith;
  processors = omega arith;
  some_mount = omega arith;
  mounts = omega arith;
  some_node = omega arith;
  nodes = omega arith;
  capacity = omega arith;
}

module _ {id : TableId} {first : SeatedTask}
    (made : first ≡ task_state id (record { tasks = 3; processors = 2; mounts = 1; nodes = 2; capacity = 0 }) None None
    (first_known (record { tasks = 3; processors = 2; mounts = 1; nodes = 2; capacity = 0 }))) where
  gives : Gives first 1 3
  gives = gives_all first (record { tasks = 3; processors = 2; mounts = 1; nodes = 2; capacity = 0 }) (omega arith)
      (ap (λ (t : SeatedTask). t.phase) made) (ap (λ (t : SeatedTask). t.items) made)

  gives_more : {left second : SeatedTask} → SplitOf first left second → Gives left 2 3
  gives_more {left} {second} split = gives_on first left second 1 3 gives (omega arith) split

  -- so three tasks that have these numbers have all
  has_three : {left second kept third : SeatedTask} → SplitOf first left second → SplitOf left kept third → (n : ℕ) → n < 3 →
      1 ≤ times n third.items + (times n kept.items + times n second.items)
  has_three {left} {second} {kept} {third} split more zero lt =
      let left_over = gives_on left kept third 2 3 (gives_more split) (omega arith) more in
      let its = own_times 0 kept.items left_over.own left_over.there in omega (arith, its)
  has_three {left} {second} {kept} {third} split more (suc zero) lt =
      let begun = has_begun first left second 1 3 gives (omega arith) split in
      let its = own_times 1 second.items begun.own begun.there in omega (arith, its)
  has_three {left} {second} {kept} {third} split more (suc (suc zero)) lt =
      let begun = has_begun left kept third 2 3 (gives_more split) (omega arith) more in
      let its = own_times 2 third.items begun.own begun.there in omega (arith, its)
  has_three split more (suc (suc (suc n))) lt = absurd (omega (arith, lt))

pub returns-in_err-gates-clause-refused : goal.returns-in_err-gates-clause-refused
returns-in_err-gates-clause-refused g c =
    let p = err_from_is_err_and c.from_residual.result c.from_residual.ensures.1 in rw (p.1, p.2) (c.in_err-gates.ensures.memory run_within)

pub returns-in_err-second-clause-refused : goal.returns-in_err-second-clause-refused
returns-in_err-second-clause-refused g c =
    let p = err_from_is_err_and c.from_residual-in_err-second.result c.from_residual-in_err-second.ensures.1 in
    rw (p.1, p.2) (refused_for_memory _ 1 3 _ (gives c.in_ok-gates.ensures.made.1) (omega arith) c.in_err-second.ensures.refused.1)

pub returns-in_err-third-clause-refused : goal.returns-in_err-third-clause-refused
returns-in_err-third-clause-refused g c =
    let p = err_from_is_err_and c.from_residual-in_err-third.result c.from_residual-in_err-third.ensures.1 in
    rw (p.1, p.2) (refused_for_memory _ 2 3 _ (gives_more c.in_ok-gates.ensures.made.1 c.in_ok-second.ensures.made) (omega arith)
    c.in_err-third.ensures.refused.1)

pub unreachable-requires : goal.unreachable-requires
unreachable-requires g c =
    let task = c.copy_at_the_end-task.result.0 in
    let tasks : task.config.tasks ≡ 3 = ap (λ (d : Config). d.tasks) (c.copy_at_the_end-task.ensures.from.1 ∙ c.in_ok-gates.ensures.made.0) in
    let first = c.join-first.result.0 in
    let second = c.join-first.result.1.0 in
    let firsts = let same : SameNumbers c.split-2.new.self first = search (rules, c.join-first.ensures.first) in same in
    let seconds = let same : SameNumbers c.in_ok-second.second second = search (rules, c.join-first.ensures.second) in same in
    c.in_default.ensures.refused.3 (
      c.copy_at_the_end-task.ensures.rests.0,
      c.copy_at_the_end-task.ensures.rests.1,
      λ n lt.
          let some = has_three c.in_ok-gates.ensures.made.1 c.in_ok-second.ensures.made c.in_ok-third.ensures.made n (omega (arith, tasks, lt)) in
          let all = c.copy_at_the_end-task.ensures.numbers n in
          let both = ap (times n) c.join-both.ensures.numbers ∙ times-append n first.items second.items in
          omega (arith, some, all, both, firsts n, seconds n),
    )
