-- Each step of a reader keeps what holds at its gate: it counts up, passes the gate's questions, is granted or refused, and counts down.
use Rattle.std.{proofs.Common.{◌≡◌, ℕ, suc, ◌+◌, ◌*◌, ◌%◌, ◌<◌, ◌≤◌, refl, ap, subst, inl, inr, arith}, specs.Prelude.◌⊎◌}
use Rattle.finite_sums.{proofs.Totals.{update_at, update_off, each_updated, total_updated, total_bound}, specs.Sums.{update, total}}
use Rattle.cpu_words.specs.Touches.{wrap_add, wrap_sub}
use Rattle.cpu_words.specs.gate_counts.Gates.{Barring, below, GateView, past, admitted, unread, counted, CountsHold, GateHolds}
use Rattle.cpu_words.proofs.gate_counts.{Events.{counts_follow, reader_event}, Numbers.{below_tells, below_le, below_first, one_more, lead_up, lead_down}}

module _ {tasks processors bit unowned : ℕ} {shut : ℕ → Type 0} {count : ℕ → ℕ} {at : ℕ → GateView}
    (good : GateHolds tasks processors bit unowned shut count at) (t : ℕ) (lt : t < tasks) where
  -- the gate after a step that makes this of the words and of the task's view
  abbrev HoldsAfter : (ℕ → ℕ) → GateView → Type 0
  HoldsAfter count' v = GateHolds tasks processors bit unowned shut count' (update at t v)

  -- a step that writes no count word, and leaves the task counted for as much
  pub moves : (h q s : ℕ) (b : Barring) → b ≡ (at t).barring → h + below 0 q + below 0 s ≡ counted (at t) → h + below 0 q ≤ 1024 →
      ((bit ≡ 0) ⊎ ((h + below 0 q ≤ admitted (at t)) × ((k : ℕ) →
      (h + below 0 q + below k s ≤ admitted (at t) + unread k (at t)) × (unread k (at t) ≤ below k s)))) →
      ((i : ℕ) → shut i → h + below i q ≤ past i (at t)) →
      HoldsAfter count (record (at t) { held = h; questions = q; sought_on = s; barring = b })
  moves h q s b same sought room sums open_to =
      reader_event good t lt (record (at t) { held = h; questions = q; sought_on = s; barring = b }) count (λ k. 0) (λ k. 0)
      (counts_follow tasks processors count count at t _ good.counts lt (λ p lp. (good.counts.fits p lp, omega arith))
      (omega (arith, good.counts.own t lt, sought)))
      room same
      (elim sums [ inl z ↦ inl z | inr s ↦ inr (s.0, λ k. (omega (arith, s.1 k), omega (arith, s.1 k))) ])
      (λ k sum lk bound le. refl) open_to

  -- a task that seeks an access finds no flag: it is admitted
  pub is_admitted : (p : ℕ) (b : Barring) → b ≡ (at t).barring → (at t).sought_on ≡ suc p → (at t).questions ≡ 0 →
      bit ≡ 0 → (shut 0 → ⊥) → (at t).held < 1024 → HoldsAfter count (record (at t) { questions = 1; sought_on = 0; barring = b })
  is_admitted p b same seeks none clear not_shut room =
      moves (at t).held 1 0 b same (omega (arith, ap (below 0) seeks, ap (below 0) none)) (omega (arith, room)) (inl clear)
      (λ i s. omega (arith, one_more 0 i (λ e. not_shut (subst shut e s)), ap (below i) none))

  -- one that is past some questions finds that the condition of the next doesn't stand
  pub goes_on : (q : ℕ) (b : Barring) → b ≡ (at t).barring → (at t).questions ≡ suc q → (at t).sought_on ≡ 0 → (shut (suc q) → ⊥) →
      HoldsAfter count (record (at t) { questions = suc (suc q); sought_on = 0; barring = b })
  goes_on q b same now none not_shut =
      moves (at t).held (suc (suc q)) 0 b same (omega (arith, ap (below 0) now, ap (below 0) none))
      (omega (arith, good.room t lt, ap (below 0) now))
      (inr (omega (arith, ap (below 0) now), λ k. (omega (arith, ap (below 0) now), omega (arith, ap (below k) none))))
      (λ i s. omega (arith, one_more (suc q) i (λ e. not_shut (subst shut e s)), ap (below i) now))

  -- none of the conditions to come stands: it is granted an access
  pub is_granted : (q : ℕ) (b : Barring) → b ≡ (at t).barring → (at t).questions ≡ q → below 0 q + below 0 (at t).sought_on ≡ 1 →
      (bit ≡ 0) ⊎ (below 0 q ≡ 1) → ((i : ℕ) → q ≤ i → shut i → ⊥) → (at t).held < 1024 →
      HoldsAfter count (record (at t) { held = (at t).held + 1; questions = 0; sought_on = 0; barring = b })
  is_granted q b same now sought found not_shut room =
      moves ((at t).held + 1) 0 0 b same (omega (arith, sought, ap (below 0) now)) (omega (arith, room))
      (elim found [
        | inl z ↦ inl z
        | inr one ↦ inr (
          omega (arith, one, ap (below 0) now),
          λ k. (omega (arith, one, ap (below 0) now), omega (arith, one, sought, below_first k (at t).sought_on)),
        )
      ])
      (λ i s. elim (below_tells i q) [ inl h ↦ omega (arith, h.0, ap (below i) now) | inr h ↦ absurd (not_shut i h.1 s) ])

  -- one of them stands, or the flag is set: it still seeks, on the word to which it added
  pub is_refused : (p : ℕ) (b : Barring) → b ≡ (at t).barring →
      ((at t).sought_on ≡ suc p) × ((at t).questions ≡ 0) ⊎ ((at t).sought_on ≡ 0) × (below 0 (at t).questions ≡ 1) →
      HoldsAfter count (record (at t) { questions = 0; sought_on = suc p; barring = b })
  is_refused p b same was = elim was [
    | inl e ↦ moves (at t).held 0 (suc p) b same (omega (arith, ap (below 0) e.0, ap (below 0) e.1)) (omega (arith, good.room t lt))
        (inr (omega arith, λ k. (omega (arith, ap (below k) e.0), omega (arith, ap (below k) e.0)))) (λ i s. omega arith)
    | inr e ↦ moves (at t).held 0 (suc p) b same (omega (arith, ap (below 0) e.0, e.1)) (omega (arith, good.room t lt))
        (inr (omega arith, λ k. (omega (arith, e.1, below_le k (suc p)), omega (arith, ap (below k) e.0)))) (λ i s. omega arith)
  ]

  module _ (few : tasks ≤ 64) (narrow : processors ≤ 64) (p : ℕ) (lp : p < processors) where
    -- the words after an addition on p, and after a subtraction
    abbrev count_up : ℕ → ℕ
    count_up = update count p (wrap_add (count p) 1)

    abbrev count_down : ℕ → ℕ
    count_down = update count p (wrap_sub (count p) 1)

    -- what the task has added then, and taken
    abbrev added_more : ℕ → ℕ
    added_more = update (at t).added p ((at t).added p + 1)

    abbrev taken_more : ℕ → ℕ
    taken_more = update (at t).taken p ((at t).taken p + 1)

    small : (k : ℕ) → k < processors → 65600 + 64 * k + total tasks (λ x. unread k (at x)) ≤ 100000
    small k lk = omega (arith, few, narrow, total_bound tasks 1 (λ x. unread k (at x)) (λ x l. below_le k (at x).sought_on))

    counts_added : (h q s : ℕ) (b : Barring) → h + below 0 q + below 0 s ≡ counted (at t) + 1 →
        CountsHold tasks processors count_up
        (update at t (record (at t) { held = h; added = added_more; questions = q; sought_on = s; barring = b }))
    counts_added h q s b one =
        counts_follow tasks processors count count_up at t
        (record (at t) { held = h; added = added_more; questions = q; sought_on = s; barring = b }) good.counts lt
        (λ x lx. each_updated (λ y n. y < processors → (n < 18446744073709551616) ×
        ((n + (at t).taken y + (at t).added y) % 18446744073709551616 ≡ (count y + (at t).taken y + added_more y) % 18446744073709551616))
        count p (wrap_add (count p) 1) x
        (λ l. (omega arith, omega (arith, update_at (at t).added p ((at t).added p + 1))))
        (λ ne l. (good.counts.fits x l, omega (arith, update_off (at t).added p ((at t).added p + 1) x ne))) lx)
        (omega (arith, good.counts.own t lt, one, total_updated (λ n. n) processors p (at t).added ((at t).added p + 1) lp))

    -- after a subtraction, for one less
    counts_taken : (h q s : ℕ) (b : Barring) → h + below 0 q + below 0 s + 1 ≡ counted (at t) →
        CountsHold tasks processors count_down
        (update at t (record (at t) { held = h; taken = taken_more; questions = q; sought_on = s; barring = b }))
    counts_taken h q s b one =
        counts_follow tasks processors count count_down at t
        (record (at t) { held = h; taken = taken_more; questions = q; sought_on = s; barring = b }) good.counts lt
        (λ x lx. each_updated (λ y n. y < processors → (n < 18446744073709551616) ×
        ((n + taken_more y + (at t).added y) % 18446744073709551616 ≡ (count y + (at t).taken y + (at t).added y) % 18446744073709551616))
        count p (wrap_sub (count p) 1) x
        (λ l. (omega arith, omega (arith, update_at (at t).taken p ((at t).taken p + 1))))
        (λ ne l. (good.counts.fits x l, omega (arith, update_off (at t).taken p ((at t).taken p + 1) x ne))) lx)
        (omega (arith, good.counts.own t lt, one, total_updated (λ n. n) processors p (at t).taken ((at t).taken p + 1) lp))

    -- an addition on p by a task that sought nothing: it seeks an access from then on
    pub adds : (b : Barring) → b ≡ (at t).barring → counted (at t) ≡ (at t).held →
        HoldsAfter count_up (record (at t) { added = added_more; questions = 0; sought_on = suc p; barring = b })
    adds b same none =
        reader_event good t lt _ _ (λ k. below k (suc p)) (λ k. 0)
        (counts_added (at t).held 0 (suc p) b (omega (arith, none))) (omega (arith, good.room t lt)) same
        (inr (omega arith, λ k. (omega arith, omega (arith, none, below_first k (at t).sought_on))))
        (λ k sum lk bound le. lead_up processors k sum count p lp (omega (arith, bound, small k lk))) (λ i s. omega arith)

    -- an addition on p that is a grant at once, where no flag is set and nothing is shut
    pub adds_granted : bit ≡ 0 → ((i : ℕ) → shut i → ⊥) → admitted (at t) < 1024 →
        HoldsAfter count_up (record (at t) { held = (at t).held + 1; added = added_more })
    adds_granted clear none room =
        reader_event good t lt _ _ (λ k. below k (suc p)) (λ k. 0)
        (counts_added ((at t).held + 1) (at t).questions (at t).sought_on (at t).barring (omega arith))
        (omega (arith, room)) refl (inl clear)
        (λ k sum lk bound le. lead_up processors k sum count p lp (omega (arith, bound, small k lk))) (λ i s. absurd (none i s))

    -- a subtraction on p
    pub takes : (h q s : ℕ) (b : Barring) → b ≡ (at t).barring → h + below 0 q + below 0 s + 1 ≡ counted (at t) →
        h + below 0 q ≤ admitted (at t) →
        ((k : ℕ) → (h + below 0 q + below k s + below k (suc p) ≤ admitted (at t) + unread k (at t)) ×
        (unread k (at t) ≤ below k s + below k (suc p))) →
        ((i : ℕ) → shut i → h + below i q ≤ past i (at t)) →
        HoldsAfter count_down (record (at t) { held = h; taken = taken_more; questions = q; sought_on = s; barring = b })
    takes h q s b same one fewer sums open_to =
        reader_event good t lt _ _ (λ k. 0) (λ k. below k (suc p))
        (counts_taken h q s b one) (omega (arith, good.room t lt, fewer)) same
        (inr (fewer, λ k. (omega (arith, sums k), omega (arith, sums k))))
        (λ k sum lk bound le. lead_down processors k sum count p lp le) open_to

    -- a task that seeks on p takes back what it added
    pub backs_off : (b : Barring) → b ≡ (at t).barring → (at t).sought_on ≡ suc p → (at t).questions ≡ 0 →
        HoldsAfter count_down (record (at t) { taken = taken_more; questions = 0; sought_on = 0; barring = b })
    backs_off b same there none =
        takes (at t).held 0 0 b same (omega (arith, ap (below 0) there, ap (below 0) none)) (omega arith)
        (λ k. (omega (arith, ap (below k) there), omega (arith, ap (below k) there))) (λ i s. omega arith)

    -- a task that seeks nothing returns an access, on any processor
    pub returns : (h : ℕ) (b : Barring) → b ≡ (at t).barring → (at t).held ≡ suc h → counted (at t) ≡ (at t).held →
        HoldsAfter count_down (record (at t) { held = h; taken = taken_more; questions = 0; sought_on = 0; barring = b })
    returns h b same held none =
        takes h 0 0 b same (omega (arith, held, none)) (omega (arith, held))
        (λ k. (omega (arith, held, below_le k (suc p)), omega (arith, none, below_first k (at t).sought_on)))
        (λ i s. omega (arith, held))
