-- What stands the same before a call and after it stands so at each moment of the call.
use Rattle.vfs_gates.proofs.Prelude.{Action, Bool, Config, DealtNumbers, Entry, Grant, HasDone, HaveHistory, IsAllowed, IsLegal, IsPrefix, IsWithin}
use Rattle.vfs_gates.proofs.Prelude.{Limits, List, Mount, State, View, WordName, World, [], actions_append, actions_since, actions_so_far, and_parts}
use Rattle.vfs_gates.proofs.Prelude.{ap, arith, dite, end_of, eqb_tells, false≢true, has_flag, if◌then◌else◌, inl, inr, model_limits, mounts_of, not}
use Rattle.vfs_gates.proofs.Prelude.{numbered, own_part, part_append, read, shown, subst, sym, true, update_at, whole_run, world_after, ℕ, ℕ_discrete}
use Rattle.vfs_gates.proofs.Prelude.{◌++◌, ◌+◌, ◌-◌, ◌<◌, ◌==◌, ◌∙◌, ◌∷◌, ◌≡◌, ◌≤◌, ◌⊎◌}
use Rattle.std.proofs.{Common.{⊎_elim, ◌||◌}, lemmas.Bool.eq-eqb}
use Rattle.access_model.specs.{Actions.mounts_after, Histories.Done, Laws.IsReadOnly, declared.actions.Action.TheVariants.Return}
use Rattle.cpu_words.specs.declared.names.WordName.TheVariants.{MountFlags, Remount, SbFlags}
use Rattle.finite_sums.{proofs.Totals.update_off, specs.Sums.update}
use Rattle.gate_schedules.proofs.{schedules.HeadlineProof.whole_nobody, traces.Moments.or_true}
use Rattle.gate_world.specs.{Headline.IsOneRun, Rules.{AtMount, IsGood, Owner, Stages}, traces.Found.says_read_only}
use Rattle.mount_counts.{proofs.laws.Bits.read_only_set, specs.Roles.ro_bit}
use Rattle.vfs_gates.proofs.several_tasks.FrozenUntilThawed.{in_between}

-- a list that an earlier and a later schedule leave a number is that of each in between
pub stood : (c : Config) (n : ℕ) (a b d : List Entry) (list : List Action) → IsPrefix a b → IsPrefix b d →
    own_part n (actions_so_far c a) ≡ list → own_part n (actions_so_far c d) ≡ list → own_part n (actions_so_far c b) ≡ list
stood c n a b d list f g first last =
    let q : List Action = own_part n (actions_since c a f.0) in
    let p : List Action = own_part n (actions_since c b g.0) in
    let there : own_part n (actions_so_far c b) ≡ q ++ list =
    ap (λ (l : List Entry). own_part n (actions_so_far c l)) f.1 ∙
    (ap (own_part n) (actions_append c a f.0) ∙
    (part_append n (actions_since c a f.0) (actions_so_far c a) ∙ ap (λ (l : List Action). q ++ l) first)) in
    let whole : list ≡ p ++ (q ++ list) =
    sym last ∙
    (ap (λ (l : List Entry). own_part n (actions_so_far c l)) g.1 ∙
    (ap (own_part n) (actions_append c b g.0) ∙
    (part_append n (actions_since c b g.0) (actions_so_far c b) ∙ ap (λ (l : List Action). p ++ l) there))) in
    there ∙ in_between p q list whole

-- in the schedule of a state each number has the list that it has there
pub done_there : (c : Config) (items : DealtNumbers) (seen : List (List Entry)) (h : HaveHistory c items seen) (n : ℕ) (list : List Action) →
    HasDone n list items → own_part n (actions_so_far c h.history.reached.entries) ≡ list
done_there c items seen h n list has =
    ap (own_part n) h.history.reached.made ∙
    (h.history.lists n ∙ (ap (λ (v : View). v.actions) (h.mine has.place (numbered n has.view) has.there) ∙ has.done))

-- who has an access at a mount is a task, and the mount is there
granted_one : (l : Limits) (s : State) (t m : ℕ) (a : Action) (held : ℕ → ℕ) → IsAllowed l s t a → 1 ≤ mounts_after a held m →
    ((t < l.tasks) × (m < l.mounts)) ⊎ (1 ≤ held m)
granted_one l s t m (Grant (Mount k)) held may has = dite (ℕ_discrete m k)
    (λ same. inl (may.0, subst (λ z. z < l.mounts) (sym same) may.1.0))
    (λ ne. inr (subst (λ z. 1 ≤ z) (update_off held k (held k + 1) m ne) has))
granted_one l s t m (Return (Mount k)) held may has = dite (ℕ_discrete m k)
    (λ same. inr (let less : 1 ≤ held k - 1 = subst (λ z. 1 ≤ z) (ap (update held k (held k - 1)) same ∙ update_at held k (held k - 1)) has in
    subst (λ z. 1 ≤ held z) (sym same) (omega arith)))
    (λ ne. inr (subst (λ z. 1 ≤ z) (update_off held k (held k - 1) m ne) has))
granted_one l s t m a held may has = inr has

pub granted_there : (l : Limits) (n m : ℕ) (log : List Done) → IsLegal l log → 1 ≤ mounts_of (own_part n log) m → (n < l.tasks) × (m < l.mounts)
granted_there l n m [] legal has = absurd (omega arith)
granted_there l n m (a ∷ earlier) legal has =
    let HoldsIf : Bool → Type 0 = λ mine. 1 ≤ mounts_of (if mine then a.1 ∷ own_part n earlier else own_part n earlier) m in
    elim (eqb_tells a.0 n) [
      | inl is ↦ ⊎_elim
          (λ there. (subst (λ z. z < l.tasks) is.1 there.0, there.1))
          (λ before. granted_there l n m earlier legal.1 before)
          (granted_one l (end_of earlier) a.0 m a.1 (mounts_of (own_part n earlier)) legal.0 (subst HoldsIf is.0 has))
      | inr other ↦ granted_there l n m earlier legal.1 (subst HoldsIf other.0 has)
    ]

-- where a number holds an access at a mount it is not read-only
pub not_read_only : (c : Config) → IsWithin c → (n m : ℕ) (es : List Entry) (list : List Action) → own_part n (actions_so_far c es) ≡ list →
    1 ≤ mounts_of list m → IsReadOnly (shown c (world_after c es)) m → ⊥
not_read_only c lim n m es list is holds shut =
    let whole : IsOneRun c es = whole_run c lim es in
    let there = granted_there (model_limits c) n m (actions_so_far c es) whole.legal (subst (λ (k : List Action). 1 ≤ mounts_of k m) (sym is) holds) in
    let none : mounts_of ((world_after c es).views n).actions m ≡ 0 = (whole_nobody c lim es).mounts n m there.0 there.1 shut in
    let same : mounts_of list m ≡ 0 = ap (λ (k : List Action). mounts_of k m) (sym is ∙ whole.lists n) ∙ none in
    omega arith

-- and there is such a mount
pub mount_there : (c : Config) → IsWithin c → (n m : ℕ) (es : List Entry) (list : List Action) → own_part n (actions_so_far c es) ≡ list →
    1 ≤ mounts_of list m → m < c.mounts
mount_there c lim n m es list is holds =
    (granted_there (model_limits c) n m (actions_so_far c es) (whole_run c lim es).legal
    (subst (λ (k : List Action). 1 ≤ mounts_of k m) (sym is) holds)).1

-- a load that says that a mount is read-only says so of the shown state
pub read_only_found : (c : Config) (w : World) → IsGood c w → (m : ℕ) → m < c.mounts → (word : WordName) (found : ℕ) →
    found ≡ read w.words word → says_read_only m word found ≡ true → IsReadOnly (shown c w) m
read_only_found c w good m lm (MountFlags k) found is says =
    let both = and_parts (k == m) (has_flag found 1) says in
    elim (eqb_tells k m) [
      | inl same ↦
          let flag : has_flag (w.words.flags m) 1 ≡ true = subst (λ z. has_flag z 1 ≡ true) (is ∙ ap w.words.flags same.1) both.1 in
          inl (eq-eqb (ro_bit (w.words.flags m)) 1 (read_only_set (w.words.flags m) (good (AtMount m) lm).bits flag))
      | inr other ↦ absurd (false≢true (sym other.0 ∙ both.0))
    ]
read_only_found c w good m lm Remount found is says =
    elim (eqb_tells found 0) [
      | inl zero_found ↦ absurd (false≢true (subst (λ b. not b ≡ true) zero_found.0 says))
      | inr nonzero ↦
          let one : w.words.remount ≡ 1 = omega (arith, nonzero.1, is, (good Owner).bit) in
          inr (ap (λ b. b || (w.words.sb == 1)) (eq-eqb w.words.remount 1 one))
    ]
read_only_found c w good m lm SbFlags found is says =
    elim (eqb_tells found 0) [
      | inl zero_found ↦ absurd (false≢true (subst (λ b. not b ≡ true) zero_found.0 says))
      | inr nonzero ↦
          let one : w.words.sb ≡ 1 = omega (arith, nonzero.1, is, (good Stages).superblock) in
          inr (ap (λ b. (w.words.remount == 1) || b) (eq-eqb w.words.sb 1 one) ∙ or_true (w.words.remount == 1))
    ]
read_only_found c w good m lm word found is says = absurd (false≢true says)
