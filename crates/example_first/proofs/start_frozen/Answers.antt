-- The two tasks have all numbers, and none of these has done anything.
use Rattle.std.proofs.Common.{ap, arith, false, subst, sym, ◌<◌, ◌∙◌}
use Rattle.vfs_gates.proofs.several_tasks.{BothFrozen.start_begins, FirstPair.{first_pair_has_all, first_pair_has_done_none}}
use Rattle.vfs_gates.specs.{Meetings.{Config, Seals}, Rounds.SeatedTask}
use Rattle.example_first.proofs.start_frozen.Goals as goal

pub start_while_frozen-requires : goal.start_while_frozen-requires
start_while_frozen-requires g c =
    let made = c.in_ok-gates.ensures.made in
    let config : Config = record { tasks = 2; processors = 1; mounts = 1; nodes = 2; capacity = 0 } in
    let items = ap (λ (s : SeatedTask). s.items) made.1 in
    let same = ap (λ (s : SeatedTask). s.config) made.1 in
    record {
      backup = c.in_ok-backup.ensures.from;
      writer = (
        c.split.ensures.table ∙ ap (λ (s : SeatedTask). s.table) made.1,
        c.split.ensures.config ∙ (same ∙ sym made.0),
      );
      begins = start_begins 0 false c.split.new.self (c.in_ok-backup.ensures.rests.1 c.in_ok-gates.ensures.rests)
          (subst (λ (k : Config). 0 < k.processors) (sym (c.split.ensures.config ∙ same)) (omega arith));
      all = first_pair_has_all config _ _ _ items same c.in_ok-backup.ensures.made;
      writable = first_pair_has_done_none config _ _ _ items same c.in_ok-backup.ensures.made Seals;
    }
