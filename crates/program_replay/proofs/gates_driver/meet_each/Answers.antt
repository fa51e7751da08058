-- The first task meets one more.
use Rattle.std.proofs.{Common.{◌<◌, ◌∙◌, length, ap, subst, sym, arith}, lemmas.List.Elements.{All-set}}
use Rattle.vfs_gates.specs.{Meetings.{Meets}, TaskStates.{IsFrom, SeatedTask}}
use Rattle.program_replay.proofs.Gathering.{first_same, first_saw, met_more, only_seen_on, rest_more, second_same}
use Rattle.program_replay.proofs.gates_driver.meet_each.Goals as goal

pub loop-other-preserved : goal.loop-other-preserved
loop-other-preserved c =
    let before = c.loop-other.invariant in
    let first = c.loop-other.first in
    let other = c.other-item.result in
    let mid = c.meet.new.self in
    let second = c.meet.new.other in
    let others = c.loop-other.others in
    let i = c.loop-other.other-index in
    let inside : i < length others = omega (arith, c.loop-other-test.true, c.loop-other.auto.others) in
    let m = subst (λ (s : SeatedTask). Meets first s mid second) (sym c.other-item.is) c.meet.ensures in
    let one = first_same first other mid second m in
    let two = second_same first other mid second m in
    let that = subst (λ (s : SeatedTask). IsFrom s c.args.gates.now) (sym c.other-item.is) (before.others i other inside) in
    record {
      from = (ap (λ (s : SeatedTask). s.table) one ∙ before.from.0, ap (λ (s : SeatedTask). s.config) one ∙ before.from.1);
      others = All-set (λ task. IsFrom task c.args.gates.now) others i second
          (ap (λ (s : SeatedTask). s.table) two ∙ that.0, ap (λ (s : SeatedTask). s.config) two ∙ that.1) before.others;
      same = only_seen_on c.args.first.now first mid before.same one;
      seen = λ e h. first_saw first other mid second m e (before.seen e h);
      met = met_more c.args.first.now first other mid second c.args.others.now others i inside c.other-item.is m before.seen before.met before.rest;
      rest = rest_more c.args.first.now first other mid second c.args.others.now others i inside c.other-item.is m before.seen before.met
          before.rest;
    }
