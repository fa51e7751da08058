-- The two tasks have all numbers; the writer holds an access, and rests again once it has given it back.
use Rattle.std.proofs.Common.{ap, arith, subst, sym, ◌<◌, ◌∙◌}
use Rattle.vfs_gates.proofs.{Rounds.{from_after, from_met, rests_written, times_stay}, several_tasks.Beside.write_held}
use Rattle.vfs_gates.{proofs.several_tasks.FirstPair.{all_stay, first_pair_has_all}, specs.{Meetings.Config, Rounds.{SeatedTask, times}}}
use Rattle.example_first.proofs.main.Goals as goal

pub change_while_held-early-requires : goal.change_while_held-early-requires
change_while_held-early-requires g c =
    let made = c.in_ok-gates.ensures.made in
    let gates = c.in_ok-gates.gates in
    let backup = c.in_ok-backup.ensures.from in
    record {
      backup = backup;
      writer = from_after gates c.in_ok-want_write.ensures (
        c.split.ensures.table ∙ ap (λ (s : SeatedTask). s.table) made.1,
        c.split.ensures.config ∙ (ap (λ (s : SeatedTask). s.config) made.1 ∙ sym made.0),
      );
      rests = c.in_ok-backup.ensures.rests.0;
      mount = subst (λ (k : Config). 0 < k.mounts) (sym (backup.1 ∙ made.0)) (omega arith);
      holds = write_held c.in_ok-want_write.ensures;
    }

pub write_while_read_only-requires : goal.write_while_read_only-requires
write_while_read_only-requires g c =
    let made = c.in_ok-gates.ensures.made in
    let gates = c.in_ok-gates.gates in
    let backup = c.in_ok-backup.ensures.from in
    let want = c.in_ok-want_write.ensures in
    let drop = c.in_ok-drop_write.ensures in
    let held = c.change_while_held-early.ensures in
    let config : Config = record { tasks = 2; processors = 1; mounts = 1; nodes = 2; capacity = 0 } in
    let writer = from_after gates drop (from_met gates c.want_write.new.self c.change_while_held-early.new.writer
    c.change_while_held-early.new.writer.seen held.writer (from_after gates want (
      c.split.ensures.table ∙ ap (λ (s : SeatedTask). s.table) made.1,
      c.split.ensures.config ∙ (ap (λ (s : SeatedTask). s.config) made.1 ∙ sym made.0),
    ))) in
    record {
      backup = held.from;
      writer = writer;
      rests = (rests_written c.change_while_held-early.new.writer.seen (c.in_ok-backup.ensures.rests.1 c.in_ok-gates.ensures.rests) want held.writer
          drop).1;
      mount = subst (λ (k : Config). 0 < k.mounts) (sym (writer.1 ∙ made.0)) (omega arith);
      cpu = subst (λ (k : Config). 0 < k.processors) (sym (writer.1 ∙ made.0)) (omega arith);
      all = all_stay c.in_ok-backup.backup c.split.new.self c.change_while_held-early.new.backup c.drop_write.new.self
          (first_pair_has_all config _ _ _ (ap (λ (s : SeatedTask). s.items) made.1) (ap (λ (s : SeatedTask). s.config) made.1) c.in_ok-backup.ensures.made)
          (held.from.1 ∙ sym backup.1) held.numbers
          (λ n. times_stay drop n ∙ (ap (λ (s : SeatedTask). times n s.items) held.writer ∙ times_stay want n));
    }
