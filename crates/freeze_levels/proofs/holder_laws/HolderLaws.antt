-- Each step keeps what holds of the holders.
use Rattle.std.proofs.{Common.{ap, arith, false, inl, inr, refl, subst, sym, true, ℕ, ◌+◌, ◌<◌, ◌∙◌, ◌≡◌, ◌≤◌}, lemmas.Bool.Decides.eqb_tells}
use Rattle.access_model.specs.{Holders.{is_unheld, nobody, with_holder}, declared.actions.Holders.Holders}
use Rattle.finite_sums.proofs.Totals.{each_updated, total_at, total_le, total_none, total_updated, total_zero, update_off}
use Rattle.finite_sums.specs.Sums.{total, update}
use Rattle.freeze_levels.{proofs.holder_laws.Words.{held_word, one_held, packs, some_held, unpack_pack}, specs.Holders.{holders_in, word_of}}
use Rattle.freeze_levels.specs.holder_laws.Events.{Finds, Freezes, Happens, HolderEvent, HolderMoment, HoldsAt, HoldsFirst, Joins, Leaves, LeavesLast}
use Rattle.freeze_levels.specs.holder_laws.{Events.{LetsGo, Moves, Stays, Thaws}, Laws.{EventsKeep, HeldExactly, RolesTell, opening}, Roles.Apart}
use Rattle.freeze_levels.specs.holder_laws.Roles.{Empties, Fills, Found, HolderRole, HoldersHold, KnowsHolders, between, is_four, is_held, minds}

-- who is between two stores relies on the holders
between_le : (r : HolderRole) → between r ≤ minds r
between_le r = grind arith

minds_le : (r : HolderRole) → minds r ≤ 1
minds_le r = grind arith

-- who relies on nothing knows nothing
apart_knows : (stage holders : ℕ) (r : HolderRole) → minds r ≡ 0 → KnowsHolders stage holders r
apart_knows stage holders r h = grind arith

-- who knows the holders at another stage than 4 has found none
moved_knows : (stage holders stage' : ℕ) (r : HolderRole) → (stage ≡ 4 → ⊥) → KnowsHolders stage holders r → KnowsHolders stage' holders r
moved_knows stage holders stage' r h g = grind arith

-- a stage is 4 or not, as a number
four_is : (stage : ℕ) → stage ≡ 4 → is_four stage ≡ 1
four_is stage e = rw e refl

not_four : (stage : ℕ) → (stage ≡ 4 → ⊥) → is_four stage ≡ 0
not_four stage off = elim (eqb_tells stage 4) [ inl q ↦ absurd (off q.1) | inr q ↦ rw q.0 refl ]

four_tells : (stage : ℕ) → 1 ≤ is_four stage → stage ≡ 4
four_tells stage h = elim (eqb_tells stage 4) [ inl q ↦ q.1 | inr q ↦ absurd (omega (arith, rw q.0 at h)) ]

module _ (tasks : ℕ) (x : HolderMoment) (good : HoldsAt tasks x) (t : ℕ) (lt : t < tasks) where
  -- where the task relies on the holders nobody else does
  others_apart : minds (x.at t) ≡ 1 → (u : ℕ) → u < tasks → (u ≡ t → ⊥) → minds (x.at u) ≡ 0
  others_apart o u lu ne =
      let e : minds (update x.at t Apart u) ≡ minds (x.at u) = ap minds (update_off x.at t Apart u ne) in
      omega (arith, e, o, good.alone, total_updated minds tasks t x.at Apart lt, total_at tasks u (λ y. minds (update x.at t Apart y)) lu)

  -- a step of the task that makes this of the stage and the holders, and of its role
  any_event : (old new : HolderRole) (stage' holders' : ℕ) → x.at t ≡ old → holders' ≡ word_of (holders_in holders') →
      total tasks (λ y. minds (x.at y)) + minds new ≤ minds old + 1 →
      is_held holders' + (between new + is_four x.stage) ≡ is_held x.holders + (between old + is_four stage') →
      ((u : ℕ) → u < tasks → (u ≡ t → ⊥) → KnowsHolders stage' holders' (x.at u)) → KnowsHolders stage' holders' new →
      HoldersHold tasks stage' holders' (update x.at t new)
  any_event old new stage' holders' e law one sum others own = record {
    lawful = law;
    held = omega (arith, sum, good.held, total_updated between tasks t x.at new lt, ap between e);
    alone = omega (arith, one, good.alone, total_updated minds tasks t x.at new lt, ap minds e);
    knows = λ u lu. each_updated (λ y (r : HolderRole). KnowsHolders stage' holders' r) x.at t new u own (λ ne. others u lu ne);
  }

  -- what the task relies on is so
  relies : (old : HolderRole) → x.at t ≡ old → KnowsHolders x.stage x.holders old
  relies old e = subst (KnowsHolders x.stage x.holders) e (good.knows t lt)

  -- where nobody relies on the holders nobody is between
  none_between : total tasks (λ y. minds (x.at y)) ≡ 0 → total tasks (λ y. between (x.at y)) ≡ 0
  none_between z = omega (arith, z, total_le tasks (λ y. between (x.at y)) (λ y. minds (x.at y)) (λ y ly. between_le (x.at y)))

  -- then some freeze is held at stage 4
  pub finds_some : x.stage ≡ 4 → total tasks (λ y. minds (x.at y)) ≡ 0 → is_unheld (holders_in x.holders) ≡ false
  finds_some four none =
      let one : is_held x.holders ≡ 1 = omega (arith, good.held, none_between none, four_is x.stage four) in
      some_held (holders_in x.holders) (ap is_held (sym good.lawful) ∙ one)

  -- where the task alone relies on them, it alone may be between
  own_between : minds (x.at t) ≡ 1 → total tasks (λ y. between (x.at y)) ≡ between (x.at t)
  own_between o =
      let e : total tasks (λ y. between (update x.at t Apart y)) ≤ total tasks (λ y. minds (update x.at t Apart y)) =
      total_le tasks (λ y. between (update x.at t Apart y)) (λ y. minds (update x.at t Apart y)) (λ y ly. between_le (update x.at t Apart y)) in
      omega (arith, e, o, good.alone, total_updated minds tasks t x.at Apart lt, total_updated between tasks t x.at Apart lt)

  -- where it is between two stores, the stage is 4 and nobody holds a freeze
  pub between_tells : between (x.at t) ≡ 1 → (is_held x.holders ≡ 0) × (is_four x.stage ≡ 1)
  between_tells b =
      let m : minds (x.at t) ≡ 1 = omega (arith, b, between_le (x.at t), minds_le (x.at t)) in
      let le : is_four x.stage ≤ 1 = elim (eqb_tells x.stage 4) [ inl q ↦ rw q.0 (omega arith) | inr q ↦ rw q.0 (omega arith) ] in
      omega (arith, b, own_between m, good.held, le)

  -- and where it has found some holders, they are some
  pub found_tells : (held : Holders) → x.at t ≡ Found held → (is_held x.holders ≡ 1) × (is_four x.stage ≡ 1) × (x.holders ≡ word_of held)
  found_tells held e =
      let k : (x.stage ≡ 4) × (x.holders ≡ word_of held) = relies (Found held) e in
      let f : is_four x.stage ≡ 1 = four_is x.stage k.0 in
      (omega (arith, f, own_between (ap minds e), ap between e, good.held), f, k.1)

  -- each step keeps it
  pub after_kind : (kind : HolderEvent) (x' : HolderMoment) → Happens tasks t x x' kind → HoldsAt tasks x'
  after_kind Finds x' (e, four, none, p) = subst (HoldsAt tasks) (sym p)
      (any_event Apart (Found (holders_in x.holders)) x.stage x.holders e good.lawful (omega (arith, none)) refl
      (λ u lu ne. good.knows u lu) (four, good.lawful))
  after_kind (LetsGo held) x' (e, p) = subst (HoldsAt tasks) (sym p)
      (any_event (Found held) Apart x.stage x.holders e good.lawful (omega (arith, good.alone)) refl (λ u lu ne. good.knows u lu) tt)
  after_kind Freezes x' (e, off, none, p) =
      let zero_held : is_held x.holders ≡ 0 = omega (arith, good.held, none_between none, not_four x.stage off) in
      subst (HoldsAt tasks) (sym p)
      (any_event Apart Fills 4 x.holders e good.lawful (omega (arith, none)) (omega (arith, not_four x.stage off))
      (λ u lu ne. moved_knows x.stage x.holders 4 (x.at u) off (good.knows u lu)) tt)
  after_kind (Moves stage) x' (off, off', p) = subst (HoldsAt tasks) (sym p) (record {
    lawful = good.lawful;
    held = omega (arith, good.held, not_four x.stage off, not_four stage off');
    alone = good.alone;
    knows = λ u lu. moved_knows x.stage x.holders stage (x.at u) off (good.knows u lu);
  })
  after_kind (HoldsFirst holder) x' (e, p) =
      let was : (is_held x.holders ≡ 0) × (is_four x.stage ≡ 1) = between_tells (ap between e) in
      let now : is_held (word_of (with_holder holder true nobody)) ≡ 1 = held_word (with_holder holder true nobody) (one_held holder nobody) in
      subst (HoldsAt tasks) (sym p)
      (any_event Fills Apart x.stage (word_of (with_holder holder true nobody)) e (packs (with_holder holder true nobody))
      (omega (arith, good.alone)) (omega (arith, was, now))
      (λ u lu ne. apart_knows x.stage (word_of (with_holder holder true nobody)) (x.at u) (others_apart (ap minds e) u lu ne)) tt)
  after_kind (Joins holder held) x' (e, p) =
      let was : (is_held x.holders ≡ 1) × (is_four x.stage ≡ 1) × (x.holders ≡ word_of held) = found_tells held e in
      let now : is_held (word_of (with_holder holder true held)) ≡ 1 = held_word (with_holder holder true held) (one_held holder held) in
      subst (HoldsAt tasks) (sym p)
      (any_event (Found held) Apart x.stage (word_of (with_holder holder true held)) e (packs (with_holder holder true held))
      (omega (arith, good.alone)) (omega (arith, was.0, now))
      (λ u lu ne. apart_knows x.stage (word_of (with_holder holder true held)) (x.at u) (others_apart (ap minds e) u lu ne)) tt)
  after_kind (Leaves holder held) x' (e, some, p) =
      let was : (is_held x.holders ≡ 1) × (is_four x.stage ≡ 1) × (x.holders ≡ word_of held) = found_tells held e in
      let now : is_held (word_of (with_holder holder false held)) ≡ 1 = held_word (with_holder holder false held) some in
      subst (HoldsAt tasks) (sym p)
      (any_event (Found held) Apart x.stage (word_of (with_holder holder false held)) e (packs (with_holder holder false held))
      (omega (arith, good.alone)) (omega (arith, was.0, now))
      (λ u lu ne. apart_knows x.stage (word_of (with_holder holder false held)) (x.at u) (others_apart (ap minds e) u lu ne)) tt)
  after_kind (LeavesLast held) x' (e, p) =
      let was : (is_held x.holders ≡ 1) × (is_four x.stage ≡ 1) × (x.holders ≡ word_of held) = found_tells held e in
      subst (HoldsAt tasks) (sym p)
      (any_event (Found held) Empties x.stage 0 e refl (omega (arith, good.alone)) (omega (arith, was.0))
      (λ u lu ne. apart_knows x.stage 0 (x.at u) (others_apart (ap minds e) u lu ne)) tt)
  after_kind Thaws x' (e, p) =
      let was : (is_held x.holders ≡ 0) × (is_four x.stage ≡ 1) = between_tells (ap between e) in
      subst (HoldsAt tasks) (sym p)
      (any_event Empties Apart 0 x.holders e good.lawful (omega (arith, good.alone)) (omega (arith, was))
      (λ u lu ne. apart_knows 0 x.holders (x.at u) (others_apart (ap minds e) u lu ne)) tt)
  after_kind Stays x' p = subst (HoldsAt tasks) (sym p) good

-- it holds at the opening
pub opens : (tasks : ℕ) → HoldsAt tasks opening
opens tasks = record {
  lawful = refl;
  held = omega (arith, total_zero tasks);
  alone = omega (arith, total_zero tasks);
  knows = λ t lt. tt;
}

pub events_keep : EventsKeep
events_keep tasks t x x' kind good lt happens = after_kind tasks x good t lt kind x' happens

-- some freeze is held, or none
held_tells : (holders : ℕ) → (is_held holders ≡ 0 → holders ≡ 0) × ((holders ≡ 0 → ⊥) → is_held holders ≡ 1)
held_tells holders = elim (eqb_tells holders 0) [
  | inl q ↦ (λ e. q.1, λ off. absurd (off q.1))
  | inr q ↦ rw q.0 (λ e. absurd (omega (arith, e)), λ off. refl)
]

pub held_exactly : HeldExactly
held_exactly tasks x good = (
  λ some.
      let h : is_held x.holders ≡ 1 = (held_tells x.holders).1 some in
      let le : is_four x.stage ≤ 1 = elim (eqb_tells x.stage 4) [ inl q ↦ rw q.0 (omega arith) | inr q ↦ rw q.0 (omega arith) ] in
      (four_tells x.stage (omega (arith, h, good.held)), λ t lt. omega (arith, h, le, good.held, total_at tasks t (λ y. between (x.at y)) lt)),
  λ four none zero_is.
      let z : total tasks (λ y. between (x.at y)) ≡ 0 = total_none tasks (λ y. between (x.at y)) none in
      let h : is_held x.holders ≡ 0 = rw zero_is refl in
      omega (arith, z, h, good.held, four_is x.stage four),
)

pub roles_tell : RolesTell
roles_tell tasks t x good lt = (
  λ b.
      let k : (is_held x.holders ≡ 0) × (is_four x.stage ≡ 1) = between_tells tasks x good t lt b in
      ((held_tells x.holders).0 k.0, four_tells x.stage (omega (arith, k.1))),
  λ held e.
      let k : (is_held x.holders ≡ 1) × (is_four x.stage ≡ 1) × (x.holders ≡ word_of held) = found_tells tasks x good t lt held e in
      (ap holders_in k.2 ∙ unpack_pack held, some_held held (ap is_held (sym k.2) ∙ k.0)),
)
