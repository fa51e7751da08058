use Rattle.vfs_gates.proofs.Prelude.{place, slice_index, slots_items, stride, total, ◌%◌, ◌*◌, ◌≡◌}
use Rattle.vfs_gates.specs.Sums.{count_word}
use Rattle.vfs_gates.proofs.closed.Closed.gate_sum.Given as goal

abbrev pub invariant-loop-cpu : goal.invariant-loop-cpu
invariant-loop-cpu l =
    l.sum ≡
    total l.cpu (λ p. slice_index (slots_items l.self-inside.closed.words) (stride * place (count_word l.gate p))) % 18446744073709551616
