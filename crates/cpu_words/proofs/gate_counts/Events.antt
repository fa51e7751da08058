-- What a step of one task at a gate keeps, whatever the step is: of a reader, or of a task that has the flag set.
use Rattle.std.proofs.Common.{ap, arith, inl, inr, subst, sym, ℕ, ◌%◌, ◌*◌, ◌+◌, ◌<◌, ◌≡◌, ◌≤◌, ◌⊎◌}
use Rattle.finite_sums.proofs.Totals.{each_updated, residues, total_add, total_at, total_same, total_swap, total_updated}
use Rattle.finite_sums.specs.Sums.{total, update}
use Rattle.cpu_words.specs.Sums.{lead}
use Rattle.cpu_words.specs.gate_counts.Gates.{Barring, BarringHolds, CountsHold, GateHolds, GateView, Reading, admitted, bars, counted, past, unread}

pub words_sum : {tasks processors : ℕ} {count : ℕ → ℕ} {at : ℕ → GateView} → CountsHold tasks processors count at →
    total processors count % 18446744073709551616 ≡ total tasks (λ t. counted (at t)) % 18446744073709551616
words_sum {tasks} {processors} {count} {at} net =
    let takes : ℕ → ℕ = λ p. total tasks (λ t. (at t).taken p) in
    let adds : ℕ → ℕ = λ p. total tasks (λ t. (at t).added p) in
    let words : (total processors count + total processors takes) % 18446744073709551616 ≡ total processors adds % 18446744073709551616 =
    residues processors count takes adds net.words in
    let own : total tasks (λ t. total processors (at t).added) ≡ total tasks (λ t. total processors (at t).taken + counted (at t)) =
    total_same tasks _ _ net.own in
    let parts : total tasks (λ t. total processors (at t).taken + counted (at t)) ≡
    total tasks (λ t. total processors (at t).taken) + total tasks (λ t. counted (at t)) =
    total_add tasks (λ t. total processors (at t).taken) (λ t. counted (at t)) in
    omega (arith, words, own, parts, total_swap tasks processors (λ t. (at t).taken), total_swap tasks processors (λ t. (at t).added))

pub apart_holds : (processors : ℕ) (count : ℕ → ℕ) (a : ℕ) (u : ℕ → ℕ) (b : Barring) → bars b ≡ 0 → BarringHolds processors count a u b
apart_holds processors count a u b h = grind arith

-- only a sum in progress and one that was 0 say something
pub barring_kept : (processors : ℕ) (count count' : ℕ → ℕ) (a a' : ℕ) (u u' : ℕ → ℕ) →
    ((k sum : ℕ) → BarringHolds processors count a u (Reading k sum) → BarringHolds processors count' a' u' (Reading k sum)) →
    (a ≡ 0 → a' ≡ 0) → (b : Barring) → BarringHolds processors count a u b → BarringHolds processors count' a' u' b
barring_kept processors count count' a a' u u' f g b h = grind arith

-- the counts follow where one task's view and the words change alike
pub counts_follow : (tasks processors : ℕ) (count count' : ℕ → ℕ) (at : ℕ → GateView) (t : ℕ) (v : GateView) →
    CountsHold tasks processors count at → t < tasks →
    ((p : ℕ) → p < processors → (count' p < 18446744073709551616) ×
    ((count' p + v.taken p + (at t).added p) % 18446744073709551616 ≡ (count p + (at t).taken p + v.added p) % 18446744073709551616)) →
    total processors v.added ≡ total processors v.taken + counted v → CountsHold tasks processors count' (update at t v)
counts_follow tasks processors count count' at t v net lt word own = record {
  fits = λ p lp. (word p lp).0;
  words = λ p lp.
      let takes : total tasks (λ x. (update at t v x).taken p) + (at t).taken p ≡ total tasks (λ x. (at x).taken p) + v.taken p =
      total_updated (λ w. w.taken p) tasks t at v lt in
      let adds : total tasks (λ x. (update at t v x).added p) + (at t).added p ≡ total tasks (λ x. (at x).added p) + v.added p =
      total_updated (λ w. w.added p) tasks t at v lt in
      omega (arith, (word p lp).1, net.words p lp, takes, adds);
  own = λ x lx.
      each_updated (λ y w. y < tasks → total processors w.added ≡ total processors w.taken + counted w) at t v x
      (λ l. own) (λ ne. net.own x) lx;
}

module _ {tasks processors bit unowned : ℕ} {shut : ℕ → Type 0} {count : ℕ → ℕ} {at : ℕ → GateView}
    (good : GateHolds tasks processors bit unowned shut count at) (t : ℕ) (lt : t < tasks) where
  -- what a sum in progress says after a step of a reader, where its lead moves with what the reader moves
  lead_kept : (v : GateView) (count' : ℕ → ℕ) (up down k sum : ℕ) →
      (admitted v + unread k v + down ≤ admitted (at t) + unread k (at t) + up) × (unread k (at t) + up ≤ unread k v + down) →
      (down ≤ lead processors count k sum + up → lead processors count' k sum + down ≡ lead processors count k sum + up) →
      BarringHolds processors count (total tasks (λ x. admitted (at x))) (λ k. total tasks (λ x. unread k (at x))) (Reading k sum) →
      BarringHolds processors count' (total tasks (λ x. admitted (update at t v x))) (λ k. total tasks (λ x. unread k (update at t v x)))
      (Reading k sum)
  lead_kept v count' up down k sum moves moved d =
      let a : total tasks (λ x. admitted (update at t v x)) + admitted (at t) ≡ total tasks (λ x. admitted (at x)) + admitted v =
      total_updated admitted tasks t at v lt in
      let u : total tasks (λ x. unread k (update at t v x)) + unread k (at t) ≡ total tasks (λ x. unread k (at x)) + unread k v =
      total_updated (unread k) tasks t at v lt in
      let a2 : admitted (at t) ≤ total tasks (λ x. admitted (at x)) = total_at tasks t (λ x. admitted (at x)) lt in
      let u2 : unread k (at t) ≤ total tasks (λ x. unread k (at x)) = total_at tasks t (λ x. unread k (at x)) lt in
      let m : lead processors count' k sum + down ≡ lead processors count k sum + up = moved (omega (arith, d, a2, u2, moves)) in
      (d.0, omega (arith, d, a, u, m, moves, a2, u2), omega (arith, d, a, u, m, moves, a2, u2))

  -- What any step of a reader keeps. The words move the invariant of a partial sum of which k words are read by `up k` or `down k`. Either no
  -- flag is set, or what is admitted of the task falls, and with what it seeks on the words to come it moves as the lead, or less.
  pub reader_event : (v : GateView) (count' up down : ℕ → ℕ) →
      CountsHold tasks processors count' (update at t v) → admitted v ≤ 1024 → v.barring ≡ (at t).barring →
      ((bit ≡ 0) ⊎ ((admitted v ≤ admitted (at t)) × ((k : ℕ) →
      (admitted v + unread k v + down k ≤ admitted (at t) + unread k (at t) + up k) × (unread k (at t) + up k ≤ unread k v + down k)))) →
      ((k sum : ℕ) → k < processors → lead processors count k sum ≤ 65600 + 64 * k + total tasks (λ x. unread k (at x)) →
      down k ≤ lead processors count k sum + up k → lead processors count' k sum + down k ≡ lead processors count k sum + up k) →
      ((i : ℕ) → shut i → past i v ≤ past i (at t)) →
      GateHolds tasks processors bit unowned shut count' (update at t v)
  reader_event v count' up down counts room same sums moved open_to =
      let MaySay : Barring → Type 0 =
      BarringHolds processors count' (total tasks (λ x. admitted (update at t v x))) (λ k. total tasks (λ x. unread k (update at t v x))) in
      let fewer : total tasks (λ x. admitted (update at t v x)) + admitted (at t) ≡ total tasks (λ x. admitted (at x)) + admitted v =
      total_updated admitted tasks t at v lt in
      let each : (x : ℕ) → x < tasks → MaySay (at x).barring = λ x lx.
      elim sums [
        | inl clear ↦ apart_holds processors count' _ _ (at x).barring
            (omega (arith, clear, good.flag, total_at tasks x (λ y. bars (at y).barring) lx))
        | inr q ↦ barring_kept processors count count' _ _ _ _
            (λ k sum d. lead_kept v count' (up k) (down k) k sum (q.1 k) (moved k sum d.0 d.2) d)
            (λ d. omega (arith, d, q.0, fewer, total_at tasks t (λ y. admitted (at y)) lt))
            (at x).barring (good.sums x lx)
      ] in
      record {
        counts = counts;
        room = λ x lx. each_updated (λ y w. admitted w ≤ 1024) at t v x room (λ ne. good.room x lx);
        flag = omega (arith, ap bars same, good.flag, total_updated (λ w. bars w.barring) tasks t at v lt);
        sums = λ x lx. each_updated (λ y w. MaySay w.barring) at t v x (subst MaySay (sym same) (each t lt)) (λ ne. each x lx);
        open_to = λ i s.
            omega (arith, good.open_to i s, open_to i s, total_updated (past i) tasks t at v lt, total_at tasks t (λ x. past i (at x)) lt);
      }

  -- a step of the flag, or of a task that has it set: no count word and nothing else of a view changes
  pub flag_event : (b : Barring) (bit' unowned' : ℕ) (shut' : ℕ → Type 0) →
      bars b + unowned' + bit ≡ bars (at t).barring + unowned + bit' →
      BarringHolds processors count (total tasks (λ x. admitted (at x))) (λ k. total tasks (λ x. unread k (at x))) b →
      ((i : ℕ) → shut' i → total tasks (λ x. past i (at x)) ≡ 0) →
      GateHolds tasks processors bit' unowned' shut' count (update at t (record (at t) { barring = b }))
  flag_event b bit' unowned' shut' flag own open_to =
      let v : GateView = record (at t) { barring = b } in
      let a : total tasks (λ x. admitted (update at t v x)) ≡ total tasks (λ x. admitted (at x)) =
      omega (arith, total_updated admitted tasks t at v lt) in
      let u : (k : ℕ) → total tasks (λ x. unread k (update at t v x)) ≡ total tasks (λ x. unread k (at x)) =
      λ k. omega (arith, total_updated (unread k) tasks t at v lt) in
      let MaySay : Barring → Type 0 =
      BarringHolds processors count (total tasks (λ x. admitted (update at t v x))) (λ k. total tasks (λ x. unread k (update at t v x))) in
      let each : (x : Barring) →
      BarringHolds processors count (total tasks (λ x. admitted (at x))) (λ k. total tasks (λ x. unread k (at x))) x → MaySay x =
      barring_kept processors count count _ _ _ _
      (λ k sum d. (d.0, omega (arith, d, a, u k), omega (arith, d, a, u k))) (λ d. omega (arith, d, a)) in
      record {
        counts = counts_follow tasks processors count count at t v good.counts lt (λ p lp. (good.counts.fits p lp, omega arith))
            (good.counts.own t lt);
        room = λ x lx. each_updated (λ y w. admitted w ≤ 1024) at t v x (good.room t lt) (λ ne. good.room x lx);
        flag = omega (arith, flag, good.flag, total_updated (λ w. bars w.barring) tasks t at v lt);
        sums = λ x lx. each_updated (λ y w. MaySay w.barring) at t v x (each b own) (λ ne. each (at x).barring (good.sums x lx));
        open_to = λ i s. omega (arith, open_to i s, total_updated (past i) tasks t at v lt);
      }
