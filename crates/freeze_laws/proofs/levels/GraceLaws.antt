-- a grace period is whole: each section that was under way at its beginning has ended at its end
use Rattle.std.proofs.Common.{ap, arith, false, inl, inr, refl, subst, suc, sym, zero, ℕ, ◌%◌, ◌+◌, ◌-◌, ◌<◌, ◌∙◌, ◌≡◌, ◌≤◌, ◌⊎◌}
use Rattle.std.{proofs.lemmas.Bool.Decides.{eqb_tells, nat_tests}, specs.Prelude.{None, Option, Some, nat_lt, ◌&&◌, ◌==◌}}
use Rattle.finite_sums.{proofs.Totals.update_off, specs.Sums.update}
use Rattle.percpu_rwsem.specs.{Graces.{is_first, looked, started}, declared.{grace.{Grace.Grace, GraceNext.GraceNext}, sync_word.GpState.GpState}}
use Rattle.freeze_laws.{proofs.levels.{EventLaws.{by_test, claims_claimed, waits_entering}, Runs.run_is_right}, specs.levels.Changes.claims}
use Rattle.freeze_laws.specs.levels.{Changes.{role_found, state_found, waits}, Events.{AddsFast, Calls, Claims, Enters, Exits, FindsIdle, Freezes}}
use Rattle.freeze_laws.specs.levels.Events.{Happens, Looks, LooksClaimed, Opens, Passes, Stays, Swaps, SyncEvent, SyncLevel, SyncLevelHolds, SyncRun}
use Rattle.freeze_laws.specs.levels.{Events.{SyncStep, Thaws, TurnsSection}, Laws.{GracesAreWhole, OutsideSince, WholeGrace}, Roles.{Claimed, Closed}}
use Rattle.freeze_laws.specs.levels.Roles.{Entered, Fast, Out, Past, Ready, SyncRole, Waiting, claimed, entering}

-- a step that changes the section word of a task begins or ends its section
event_turns : (tasks t : ℕ) → (l l' : SyncLevel) (k : SyncEvent) → Happens tasks t l l' k → (u : ℕ) → l.inside u ≤ 1 →
    (l'.section u ≡ l.section u) ⊎ ((l.inside u ≡ 0) ⊎ (l'.inside u ≡ 0))
event_turns tasks t l l' k h u small = grind arith

-- what a step makes of one task's role, as far as grace periods go
data Turn (tasks : ℕ) (l l' : SyncLevel) (t : ℕ) : Type 0 where
  Same : l'.at t ≡ l.at t → Turn tasks l l' t
  Quiet : entering (l'.at t) ≡ 0 → claimed (l'.at t) ≡ 0 → Turn tasks l l' t
  Starts : l'.at t ≡ Waiting (started tasks) → Turn tasks l l' t
  StartsClaimed : l'.at t ≡ Claimed (started tasks) → Turn tasks l l' t
  Looked : (g : Grace) → l.at t ≡ Waiting g → l'.at t ≡ waits (looked g (l.section g.task)) → Turn tasks l l' t
  LookedClaimed : (g : Grace) → l.at t ≡ Claimed g → l'.at t ≡ claims (looked g (l.section g.task)) → Turn tasks l l' t

-- the task of the step, or another one
turned : (tasks s : ℕ) (l l' : SyncLevel) (r : SyncRole) (t : ℕ) → l'.at ≡ update l.at s r →
    (l.at t ≡ l.at s → l'.at t ≡ r → Turn tasks l l' t) → Turn tasks l l' t
turned tasks s l l' r t e f =
    elim (eqb_tells t s) [
      | inl h ↦
          let here : update l.at s r t ≡ r = rw (h.0, update) in
          f (ap l.at h.1) (ap (λ (x : ℕ → SyncRole). x t) e ∙ here)
      | inr h ↦ Same (ap (λ (x : ℕ → SyncRole). x t) e ∙ update_off l.at s r t h.1)
    ]

-- a step into a role that is in no grace period
quiet : (tasks s : ℕ) (l l' : SyncLevel) (r : SyncRole) (t : ℕ) → l'.at ≡ update l.at s r → entering r ≡ 0 → claimed r ≡ 0 → Turn tasks l l' t
quiet tasks s l l' r t same e c = turned tasks s l l' r t same (λ a b. Quiet (ap entering b ∙ e) (ap claimed b ∙ c))

found_turn : (tasks : ℕ) (l l' : SyncLevel) (t : ℕ) (o : Option GpState) → l'.at t ≡ role_found tasks o → Turn tasks l l' t
found_turn tasks l l' t found h = grind arith

event_turn : (tasks s : ℕ) → (l l' : SyncLevel) (k : SyncEvent) → Happens tasks s l l' k → (t : ℕ) → Turn tasks l l' t
event_turn tasks s l l' TurnsSection h t = Same (ap (λ (x : SyncLevel). x.at t) h.1)
event_turn tasks s l l' FindsIdle h t = quiet tasks s l l' Fast t (ap (λ (x : SyncLevel). x.at) h.3) refl refl
event_turn tasks s l l' AddsFast h t = quiet tasks s l l' Out t (ap (λ (x : SyncLevel). x.at) h.1) refl refl
event_turn tasks s l l' Enters h t = turned tasks s l l' (role_found tasks (state_found l.sync)) t (ap (λ (x : SyncLevel). x.at) h.3)
    (λ a b. found_turn tasks l l' t (state_found l.sync) b)
event_turn tasks s l l' Looks h t = turned tasks s l l' _ t (ap (λ (x : SyncLevel). x.at) h.2) (λ a b. Looked h.0 (a ∙ h.1) b)
event_turn tasks s l l' Passes h t = quiet tasks s l l' Entered t (ap (λ (x : SyncLevel). x.at) h.2) refl refl
event_turn tasks s l l' Swaps h t = quiet tasks s l l' Closed t (ap (λ (x : SyncLevel). x.at) h.1) refl refl
event_turn tasks s l l' Opens h t = quiet tasks s l l' Entered t (ap (λ (x : SyncLevel). x.at) h.1) refl refl
event_turn tasks s l l' Exits h t = quiet tasks s l l' Out t (ap (λ (x : SyncLevel). x.at) h.2) refl refl
event_turn tasks s l l' Claims h t = turned tasks s l l' _ t (ap (λ (x : SyncLevel). x.at) h.2) (λ a b. StartsClaimed b)
event_turn tasks s l l' LooksClaimed h t = turned tasks s l l' _ t (ap (λ (x : SyncLevel). x.at) h.2) (λ a b. LookedClaimed h.0 (a ∙ h.1) b)
event_turn tasks s l l' Calls h t = quiet tasks s l l' Out t (ap (λ (x : SyncLevel). x.at) h.2) refl refl
event_turn tasks s l l' Freezes h t = quiet tasks s l l' Out t (ap (λ (x : SyncLevel). x.at) h.1) refl refl
event_turn tasks s l l' Thaws h t = quiet tasks s l l' Closed t (ap (λ (x : SyncLevel). x.at) h.2) refl refl
event_turn tasks s l l' Stays h t = Same (ap (λ (x : SyncLevel). x.at t) h)

longer : (m : ℕ → SyncLevel) (a b i j u : ℕ) → a ≤ b → i ≤ j → OutsideSince m b i u → OutsideSince m a j u
longer m a b i j u le le2 o = (o.0, omega (arith, o), omega (arith, o), o.3)

module _ (tasks n : ℕ) (m : ℕ → SyncLevel) (run : SyncRun tasks n m) where
  -- a section word that has changed shows a moment outside
  changes : (u : ℕ) → u < tasks → (j d : ℕ) → j + d ≤ n → ((m (j + d)).section u ≡ (m j).section u → ⊥) → OutsideSince m j (j + d) u
  changes u lu j zero le ne = absurd (ne (ap (λ x. (m x).section u) (omega arith)))
  changes u lu j (suc d) le ne =
      let s : SyncStep tasks (m (j + d)) (m (suc (j + d))) = run.steps (j + d) (omega arith) in
      let right : SyncLevelHolds tasks (m (j + d)) = run_is_right tasks n m run (j + d) (omega arith) in
      let small : (m (j + d)).inside u ≤ 1 = omega (arith, right.sections.odd u lu) in
      let e : suc (j + d) ≡ j + suc d = omega arith in
      let p : OutsideSince m j (suc (j + d)) u = elim (eqb_tells ((m (j + d)).section u) ((m j).section u)) [
        | inl h ↦ elim (event_turns tasks s.task (m (j + d)) (m (suc (j + d))) s.kind s.happens u small) [
          | inl q ↦ absurd (ne (ap (λ x. (m x).section u) (sym e) ∙ (q ∙ h.1)))
          | inr q ↦ elim q [
            | inl z ↦ (j + d, omega arith, omega arith, z)
            | inr z ↦ (suc (j + d), omega arith, omega arith, z)
          ]
        ]
        | inr h ↦ longer m j j (j + d) (suc (j + d)) u (omega arith) (omega arith) (changes u lu j d (omega arith) h.1)
      ] in
      subst (λ x. OutsideSince m j x u) e p

-- the first value read of a number was there at a moment since a
abbrev FirstSeen : (ℕ → SyncLevel) → ℕ → ℕ → ℕ → Option ℕ → Type 0
FirstSeen m a i u None = Unit {0}
FirstSeen m a i u (Some first) = (j : ℕ) × (a ≤ j) × (j ≤ i) × ((m j).section u ≡ first)

-- a grace period under way since moment a: each number passed was outside since
abbrev Under : ℕ → (ℕ → SyncLevel) → ℕ → SyncRole → (SyncRole → ℕ) → ℕ → Grace → Type 0
Under tasks m t start kind i g =
    (a : ℕ) × (a ≤ i) × ((m a).at t ≡ start) × ((k : ℕ) → a ≤ k → k ≤ i → kind ((m k).at t) ≡ 1) ×
    (g.tasks ≡ tasks) × (g.task < tasks) × ((u : ℕ) → u < g.task → OutsideSince m a i u) × FirstSeen m a i g.task g.first

-- what is said of the past where a load of a section word led to this
abbrev NextSays : ℕ → (ℕ → SyncLevel) → ℕ → SyncRole → (SyncRole → ℕ) → ℕ → GraceNext → Type 0
NextSays tasks m t start kind i (GraceNext.More g) = Under tasks m t start kind i g
NextSays tasks m t start kind i (GraceNext.Wait g) = Under tasks m t start kind i g
NextSays tasks m t start kind i GraceNext.Ended = WholeGrace tasks m t i start kind

-- what a role says of the past
abbrev Says : ℕ → (ℕ → SyncLevel) → ℕ → ℕ → SyncRole → Type 0
Says tasks m t i (Waiting g) = Under tasks m t (Waiting (started tasks)) entering i g
Says tasks m t i Past = WholeGrace tasks m t i (Waiting (started tasks)) entering
Says tasks m t i (Claimed g) = Under tasks m t (Claimed (started tasks)) claimed i g
Says tasks m t i Ready = WholeGrace tasks m t i (Claimed (started tasks)) claimed
Says tasks m t i r = Unit {0}

-- the role that the load leads to says the same, of a writer
waits_says : (tasks : ℕ) (m : ℕ → SyncLevel) (t i : ℕ) (n : GraceNext) → NextSays tasks m t (Waiting (started tasks)) entering i n →
    Says tasks m t i (waits n)
waits_says tasks m t i next h = grind arith

-- and of a callback
claims_says : (tasks : ℕ) (m : ℕ → SyncLevel) (t i : ℕ) (n : GraceNext) → NextSays tasks m t (Claimed (started tasks)) claimed i n →
    Says tasks m t i (claims n)
claims_says tasks m t i next h = grind arith

-- a role that is in no grace period says nothing
quiet_says : (tasks : ℕ) (m : ℕ → SyncLevel) (t i : ℕ) (r : SyncRole) → entering r ≡ 0 → claimed r ≡ 0 → Says tasks m t i r
quiet_says tasks m t i r e c = grind arith

-- one moment more of a kind
stays_more : (m : ℕ → SyncLevel) (t a i : ℕ) (kind : SyncRole → ℕ) → ((k : ℕ) → a ≤ k → k ≤ i → kind ((m k).at t) ≡ 1) →
    kind ((m (suc i)).at t) ≡ 1 →
    (k : ℕ) → a ≤ k → k ≤ suc i → kind ((m k).at t) ≡ 1
stays_more m t a i kind before now k le le2 = grind arith

-- one moment more since the first value was read
seen_more : (m : ℕ → SyncLevel) (a i u : ℕ) (o : Option ℕ) → FirstSeen m a i u o → FirstSeen m a (suc i) u o
seen_more m a i u o h = grind arith

-- one moment more of a grace period under way
under_more : (tasks : ℕ) (m : ℕ → SyncLevel) (t i : ℕ) (start : SyncRole) (kind : SyncRole → ℕ) (g : Grace) → kind ((m (suc i)).at t) ≡ 1 →
    Under tasks m t start kind i g → Under tasks m t start kind (suc i) g
under_more tasks m t i start kind g now d = (
  d.0,
  omega (arith, d),
  d.2,
  stays_more m t d.0 i kind d.3 now,
  d.4,
  d.5,
  λ u l. longer m d.0 d.0 i (suc i) u (omega arith) (omega arith) (d.6 u l),
  seen_more m d.0 i g.task g.first d.7,
)

-- one moment more after a whole one
whole_more : (tasks : ℕ) (m : ℕ → SyncLevel) (t i : ℕ) (start : SyncRole) (kind : SyncRole → ℕ) → kind ((m (suc i)).at t) ≡ 1 →
    WholeGrace tasks m t i start kind → WholeGrace tasks m t (suc i) start kind
whole_more tasks m t i start kind now d = (
  d.0,
  omega (arith, d),
  d.2,
  stays_more m t d.0 i kind d.3 now,
  λ u l. longer m d.0 d.0 i (suc i) u (omega arith) (omega arith)
      (d.4 u l),
)

says_more : (tasks : ℕ) (m : ℕ → SyncLevel) (t i : ℕ) (r : SyncRole) → (m (suc i)).at t ≡ r → Says tasks m t i r → Says tasks m t (suc i) r
says_more tasks m t i r e h = grind (arith, under_more, entering, whole_more, claimed)

module _ (tasks n : ℕ) (m : ℕ → SyncLevel) (run : SyncRun tasks n m) where
  -- a section word that is no longer the first value read
  odd_passed : (a i u : ℕ) → u < tasks → suc i ≤ n → (o : Option ℕ) → FirstSeen m a i u o → is_first o ((m i).section u) ≡ false →
      OutsideSince m a i u
  odd_passed a i u lu more None seen e = cc
  odd_passed a i u lu more (Some f) seen e =
      let j : ℕ = seen.0 in
      let s : j + (i - j) ≡ i = omega (arith, seen) in
      let ne : (m i).section u ≡ (m j).section u → ⊥ = λ q. let p : (m i).section u ≡ f = q ∙ seen.3 in grind (arith, nat_tests) in
      let c : OutsideSince m j (j + (i - j)) u = changes tasks n m run u lu j (i - j) (omega arith)
      (subst (λ x. (m x).section u ≡ (m j).section u → ⊥) (sym s) ne) in
      longer m a j (j + (i - j)) i u (omega (arith, seen)) (omega arith) c

  -- a number whose load doesn't wait was outside since
  passed : (a i u : ℕ) → u < tasks → a ≤ i → suc i ≤ n → (o : Option ℕ) → FirstSeen m a i u o →
      ((m i).section u % 2 == 1) && is_first o ((m i).section u) ≡ false → OutsideSince m a i u
  passed a i u lu le more o seen e =
      let right : SyncLevelHolds tasks (m i) = run_is_right tasks n m run i (omega arith) in
      elim (eqb_tells ((m i).section u % 2) 1) [
        | inl odd ↦ odd_passed a i u lu more o seen (rw odd.0 at e)
        | inr even ↦ (i, le, omega arith, omega (arith, even.1, right.sections.odd u lu))
      ]

  -- a grace period begins
  begun : (t i : ℕ) (start : SyncRole) (kind : SyncRole → ℕ) → kind ((m (suc i)).at t) ≡ 1 → (m (suc i)).at t ≡ start → 0 < tasks →
      Under tasks m t start kind (suc i) (started tasks)
  begun t i start kind now here some =
      (suc i, omega arith, here, λ k le le2. ap (λ x. kind ((m x).at t)) (omega arith) ∙ now, refl, some, λ u l. absurd (omega arith), tt)

  -- a load of a section word, by a task whose grace period is under way
  looked_next : (t i : ℕ) → suc i ≤ n → (start : SyncRole) (kind : SyncRole → ℕ) (g : Grace) → kind ((m (suc i)).at t) ≡ 1 →
      Under tasks m t start kind i g →
      NextSays tasks m t start kind (suc i) (looked g ((m i).section g.task))
  looked_next t i more start kind g now d =
      let stays : (k : ℕ) → d.0 ≤ k → k ≤ suc i → kind ((m k).at t) ≡ 1 = stays_more m t d.0 i kind d.3 now in
      by_test (NextSays tasks m t start kind (suc i)) _ _ _
      (λ e. (
        d.0,
        omega (arith, d),
        d.2,
        stays,
        d.4,
        d.5,
        λ u l. longer m d.0 d.0 i (suc i) u (omega arith) (omega arith) (d.6 u l),
        (i, d.1, omega arith, refl),
      ))
      (λ e.
      let z : OutsideSince m d.0 i g.task = passed d.0 i g.task d.5 d.1 more g.first d.7 e in
      let below : (u : ℕ) → u < g.task + 1 →
      OutsideSince m d.0 (suc i) u = λ u l. longer m d.0 d.0 i (suc i) u (omega arith) (omega arith) (elim (eqb_tells u g.task) [
        | inl q ↦ subst (λ x. OutsideSince m d.0 i x) (sym q.1) z
        | inr q ↦ d.6 u (omega (arith, q.1))
      ]) in
      by_test (NextSays tasks m t start kind (suc i)) (nat_lt (g.task + 1) g.tasks) _ _
      (λ b. (d.0, omega (arith, d), d.2, stays, d.4, grind (arith, nat_tests, d.4), below, tt))
      (λ b. (d.0, omega (arith, d), d.2, stays, λ u l. below u (grind (arith, nat_tests, d.4)))))

  -- what a role says of the past is kept by each step
  turn_says : (t : ℕ) → t < tasks → (i : ℕ) → suc i ≤ n → Says tasks m t i ((m i).at t) → Turn tasks (m i) (m (suc i)) t →
      Says tasks m t (suc i) ((m (suc i)).at t)
  turn_says t lt i le before (Same e) = says_more tasks m t i ((m (suc i)).at t) refl (subst (Says tasks m t i) (sym e) before)
  turn_says t lt i le before (Quiet e c) = quiet_says tasks m t (suc i) ((m (suc i)).at t) e c
  turn_says t lt i le before (Starts e) = subst (Says tasks m t (suc i)) (sym e) (begun t i _ entering (ap entering e) e (omega arith))
  turn_says t lt i le before (StartsClaimed e) = subst (Says tasks m t (suc i)) (sym e) (begun t i _ claimed (ap claimed e) e (omega arith))
  turn_says t lt i le before (Looked g h e) = subst (Says tasks m t (suc i)) (sym e)
      (waits_says tasks m t (suc i) _
      (looked_next t i le _ entering g (ap entering e ∙ (waits_entering _).0) (subst (Says tasks m t i) h before)))
  turn_says t lt i le before (LookedClaimed g h e) = subst (Says tasks m t (suc i)) (sym e)
      (claims_says tasks m t (suc i) _
      (looked_next t i le _ claimed g (ap claimed e ∙ (claims_claimed _).2) (subst (Says tasks m t i) h before)))

  says : (t : ℕ) → t < tasks → (m 0).at t ≡ Out → (i : ℕ) → i ≤ n → Says tasks m t i ((m i).at t)
  says t lt out zero le = subst (Says tasks m t 0) (sym out) tt
  says t lt out (suc i) le =
      let s : SyncStep tasks (m i) (m (suc i)) = run.steps i (omega arith) in
      turn_says t lt i le (says t lt out i (omega arith)) (event_turn tasks s.task (m i) (m (suc i)) s.kind s.happens t)

pub graces_are_whole : GracesAreWhole
graces_are_whole tasks n m run out i t le lt = (
  λ e. subst (Says tasks m t i) e (says tasks n m run t lt (out t lt) i le),
  λ e. subst (Says tasks m t i) e (says tasks n m run t lt (out t lt) i le),
)
