-- A gate at which nothing is counted: its words sum to 0, so that a write of one of them that leaves nothing counted writes what was there.
use Rattle.std.proofs.Common.{◌≡◌, ℕ, ◌%◌, ◌<◌, ◌∙◌, ap, arith}
use Rattle.finite_sums.{proofs.Totals.{total_changed_by, update_at, update_same}, specs.Sums.{update, total}}
use Rattle.cpu_words.{proofs.gate_counts.Events.words_sum, specs.gate_counts.Gates.{GateView, counted, CountsHold}}

-- where nothing is counted, the words sum to 0
sums_to_none : {tasks processors : ℕ} {count : ℕ → ℕ} {at : ℕ → GateView} → CountsHold tasks processors count at →
    total tasks (λ t. counted (at t)) ≡ 0 → total processors count % 18446744073709551616 ≡ 0
sums_to_none good none = words_sum good ∙ ap (λ n. n % 18446744073709551616) none

-- so a write of a word, with nothing counted before it and after it, leaves the words
pub write_is_quiet : {tasks processors : ℕ} {count : ℕ → ℕ} {at at' : ℕ → GateView} (p n : ℕ) → p < processors →
    CountsHold tasks processors count at → CountsHold tasks processors (update count p n) at' →
    total tasks (λ t. counted (at t)) ≡ 0 → total tasks (λ t. counted (at' t)) ≡ 0 → update count p n ≡ count
write_is_quiet {tasks} {processors} {count} p n lp was now before after =
    let small : n < 18446744073709551616 = omega (arith, now.fits p lp, update_at count p n) in
    let same : n ≡ count p =
    omega (
      arith,
      sums_to_none was before,
      sums_to_none now after,
      total_changed_by (λ q (word : ℕ). word) processors p count n lp,
      was.fits p lp,
      small,
    ) in
    ap (update count p) same ∙ update_same count p
