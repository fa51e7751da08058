-- The words of gates that are closed.
use Rattle.vfs_gates.proofs.Prelude.{Action, Bool, Config, IsLegal, Limits, List, Node, None, [], ap, arith, eqb_tells, false, if◌then◌else◌, inl}
use Rattle.vfs_gates.proofs.Prelude.{inr, model_limits, own_part, place, refl, shown, slice_index, stride, sym, total, ℕ, ◌%◌, ◌*◌, ◌<◌, ◌∙◌, ◌∷◌}
use Rattle.vfs_gates.proofs.Prelude.{◌≡◌, ◌≤◌}
use Rattle.std.proofs.{Common.ne_eqb, lemmas.Bool.cases_lt}
use Rattle.access_model.specs.{Histories.{Done, opens_of}, States.{is_removed, most_tasks, one_if, openers}}
use Rattle.cpu_words.specs.declared.names.WordName.TheVariants.{Kids, LevelCount, MountCount, MountFlags, Remount, Removed, Section, Umount, Used}
use Rattle.finite_sums.proofs.Totals.{total_none, total_same}
use Rattle.gate_steps.proofs.call_events.{Rests.{at_rest, no_hold as hold_is_clear}, Schedule.idle_sums, Snapshots.sound_as}
use Rattle.{gate_world.specs.{Rules.{Files, Tree}, Views.has_open}, mount_counts.specs.Roles.hold_bit}
use Rattle.node_words.{proofs.Words.removed_shown, specs.Nodes.{IsPacked, node_shown, opens_in, removed_in}}
use Rattle.vfs_gates.specs.Ended.{Ended, LeavesSoundTree}

-- a number past the last task's has done nothing
outside : (l : Limits) (t : ℕ) → l.tasks ≤ t → (log : List Done) → IsLegal l log → own_part t log ≡ []
outside l t past [] legal = refl
outside l t past (a ∷ earlier) legal =
    rw (ne_eqb a.0 t (λ e. absurd (omega (arith, legal.0.0, past, e)))) (outside l t past earlier legal.1)

-- a file that no task has open isn't removed
unopened : (word : ℕ) → IsPacked word → opens_in word ≡ 0 → is_removed (node_shown word) ≡ false
unopened word packed none =
    removed_shown word packed ∙ elim (eqb_tells (removed_in word) 1) [
      | inl e ↦ absurd (let some = (packed.marked e.1).2 in omega (arith, some, none))
      | inr e ↦ e.0
    ]

module _ (c : Config) (ws : List ℕ) (e : Ended c ws) where
  idle : (t : ℕ) → t < c.tasks → (e.world.views t).phase ≡ None
  idle t lt = (e.still t lt).0

  -- nobody has umount
  pub umount_free : slice_index ws (stride * place Umount) ≡ 0
  umount_free = e.ruled.words Umount tt ∙ (at_rest c e.world e.ruled.good idle).umount_free

  -- no remount is under way
  pub no_remount : slice_index ws (stride * place Remount) ≡ 0
  no_remount = e.ruled.words Remount tt ∙ (at_rest c e.world e.ruled.good idle).remount_clear

  -- nobody has a file open
  nothing_open : (t n : ℕ) → has_open (e.world.views t) n ≡ false
  nothing_open t n =
      elim (cases_lt t c.tasks) [
        | inl lt ↦ (e.still t lt).1.2 n
        | inr past ↦ ap (λ (l : List Action). opens_of l n) (sym (e.history.lists t) ∙ outside (model_limits c) t past e.history.log e.history.legal)
      ]

  -- so none is removed
  pub none_removed : slice_index ws (stride * place Removed) ≡ 0
  none_removed =
      let good = e.ruled.good in
      e.ruled.words Removed tt ∙ ((at_rest c e.world good idle).removals_counted ∙ total_none c.nodes _ (λ n ln.
      let none : openers (λ t. has_open (e.world.views t)) n ≡ 0 = total_none most_tasks _ (λ t lt. ap one_if (nothing_open t n)) in
      ap one_if (unopened (e.world.words.node n) ((good Tree).words n ln).packed ((good Files).counted n ln ∙ none))))

  -- no mount has HOLD set
  pub no_hold : (m : ℕ) → m < c.mounts → slice_index ws (stride * place (MountFlags m)) < 2
  no_hold m lm =
      let clear : hold_bit (e.world.words.flags m) ≡ 0 = hold_is_clear c e.world e.ruled.good idle m lm in
      let w = e.ruled.words (MountFlags m) lm in
      omega arith

  -- the words of a mount sum to 0
  pub sums_to_none : (m : ℕ) → m < c.mounts → total c.processors
      (λ p. slice_index ws (stride * place (MountCount m p))) % 18446744073709551616 ≡ 0
  sums_to_none m lm =
      ap (λ s. s % 18446744073709551616) (total_same c.processors _ (e.world.words.count m)
      (λ p lp. e.ruled.words (MountCount m p) (lm, lp))) ∙
      ((idle_sums c e.ruled.within e.world e.ruled.good idle).mounts m lm ∙ total_none c.tasks _ (λ t lt. (e.still t lt).1.0 m lm))

  -- and so do those of a level
  pub level_sums_to_none : (i : ℕ) → 1 ≤ i → i ≤ 3 → total c.processors
      (λ p. slice_index ws (stride * place (LevelCount i p))) % 18446744073709551616 ≡ 0
  level_sums_to_none i l1 l3 =
      ap (λ s. s % 18446744073709551616) (total_same c.processors _ (e.world.words.level i)
      (λ p lp. e.ruled.words (LevelCount i p) (l1, l3, lp))) ∙
      ((idle_sums c e.ruled.within e.world e.ruled.good idle).levels i l1 l3 ∙
      total_none c.tasks _ (λ t lt. ap (λ (b : Bool). if b then 1 else 0) ((e.still t lt).1.1 i l1 l3)))

  -- each section has ended
  pub no_section : (t : ℕ) → t < c.tasks → slice_index ws (stride * place (Section t)) % 2 ≡ 0
  no_section t lt = ap (λ n. n % 2) (e.ruled.words (Section t) lt) ∙ (at_rest c e.world e.ruled.good idle).sections_even t lt

  -- the tree is sound
  pub sound_tree : LeavesSoundTree c ws
  sound_tree =
      let here : (n : ℕ) → n < c.nodes → n < 64 = λ n lt. omega (arith, lt, e.ruled.within.nodes) in
      sound_as c.nodes e.world.words.used (slice_index ws (stride * place Used)) (shown c e.world).tree
      (λ n. node_shown (slice_index ws (stride * place (Node n)))) e.world.words.kids (λ n. slice_index ws (stride * place (Kids n)))
      (sym (e.ruled.words Used tt)) (λ n lt. sym (ap node_shown (e.ruled.words (Node n) (here n lt))))
      (λ n lt. sym (e.ruled.words (Kids n) (here n lt))) (at_rest c e.world e.ruled.good idle).tree_sound
