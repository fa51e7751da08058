-- The first task has met the one that stepped, if it is another, and then each other.
use Rattle.std.proofs.{Common.{List, ap, arith, length, subst, suc, sym, ◌-◌, ◌<◌, ◌∙◌, ◌∷◌, ◌≡◌}, lemmas.List.with_items_is}
use Rattle.vfs_gates.specs.TaskStates.{SeatedTask}
use Rattle.program_replay.proofs.Gathering.{gathered_from_first, gathered_from_other}
use Rattle.program_replay.{proofs.gates_driver.GatesDriver.gather.Goals.{else-number-gt0, then-number-gt0}, specs.Standing.AreGathered}
use Rattle.program_replay.proofs.gates_driver.GatesDriver.gather.Goals as goal

pub returns-clause-gathered : goal.returns-clause-gathered
returns-clause-gathered c =
    let number = c.args.number in
    let driver = c.args.self.now in
    let met = c.meet_each.ensures in
    let list = c.as_mut_slice.ensures.value in
    let others = c.if-number-gt0.self.1.1.1.1.0 in
    let whole = with_items_is others c.meet_each.new.others (omega (arith, c.meet_each.auto.others, c.as_mut_slice.ensures.len)) in
    subst (λ (l : List SeatedTask). AreGathered number (driver.first ∷ driver.others.items) (c.meet_each.new.first ∷ l)) (sym whole)
    (elim c.if-number-gt0.branch [
      | then-number-gt0 w ↦
          (let next : number ≡ suc (number - 1) = omega (arith, w.if-number-gt0.true) in
          let inside : number - 1 < length driver.others.items = omega (arith, w.if-number-gt0.true, c.requires.there, driver.others.ok.0) in
          gathered_from_other number (number - 1) next driver.first w.meet.new.self _ c.meet_each.new.first w.index_mut.result.now w.meet.new.other
          (ap (λ p. p.1.1.1.0) w.self-is) driver.others.items c.as_mut_slice.result.now c.meet_each.new.others inside w.index_mut.ensures.value
          (list ∙ ap (λ p. p.1.1.1.1.0.items) w.self-is) w.meet.ensures met.same met.seen c.meet_each.auto.others met.met)
      | else-number-gt0 w ↦
          (let none : number ≡ 0 = omega (arith, w.if-number-gt0.false) in
          gathered_from_first number none driver.first _ c.meet_each.new.first (ap (λ p. p.1.1.1.0) w.self-is) driver.others.items
          c.as_mut_slice.result.now c.meet_each.new.others (list ∙ ap (λ p. p.1.1.1.1.0.items) w.self-is) met.same met.seen c.meet_each.auto.others
          met.met)
    ])
